use Rattle.std.proofs.Common.{◌≡◌, ◌++◌, drop}
use Rattle.std.specs.Prelude.{map}
use Rattle.std.specs.List.{flat_map}
use Rattle.answering.specs.Writing.{Begins}
use Rattle.responses.specs.ApiVersions.{version_range_bytes}
use Rattle.setup_requests.specs.ApiVersions.{version_range}
use Rattle.setup_requests.proofs.api_versions.put_apis.Given as goal

-- what is left to be written gives what all gives
abbrev pub invariant-loop-api : goal.invariant-loop-api
invariant-loop-api g l =
    (l.out.items ++ flat_map version_range_bytes (map version_range (drop l.api-index l.apis)) ≡ l.fn.out.items ++ flat_map version_range_bytes (map version_range l.apis))
    × Begins l.fn.out.items l.out.items
