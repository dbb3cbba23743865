use Rattle.std.proofs.Common.{◌≡◌, ◌++◌}
use Rattle.std.specs.Prelude.{map}
use Rattle.log_requests.specs.Metadata.{each_once}
use Rattle.log_requests.specs.Metadata.Names.{metadata_names}
use Rattle.log_requests.specs.Metadata.NameSets.{others}
use Rattle.log_requests.proofs.metadata.names.each_once.Given as goal

abbrev pub invariant-loop-name : goal.invariant-loop-name
invariant-loop-name g l =
    map (λ name. name.now) l.set.keys ++ others (map (λ name. name.now) l.set.keys) (each_once (metadata_names l.name-iterator)) ≡ each_once (metadata_names l.fn.names)
