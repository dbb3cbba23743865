use Rattle.std.proofs.Common.{◌≡◌, ◌++◌, take}
use Rattle.std.specs.List.{flat_map}
use Rattle.responses.specs.Cover.{cover_run_bytes}
use Rattle.copy_requests.proofs.cover.put_runs.Given as goal

abbrev pub invariant-loop-run : goal.invariant-loop-run
invariant-loop-run g l = l.out.items ≡ l.fn.out.items ++ flat_map cover_run_bytes (take l.run-index l.runs)
