use Rattle.std.proofs.Common.{◌≡◌, ◌∷◌, ap}
use Rattle.std.specs.Prelude.{map}
use Rattle.log_requests.specs.Metadata.Names.{metadata_names}
use Rattle.log_requests.proofs.MetadataNames.{none_inserted, one_inserted}
use Rattle.log_requests.proofs.metadata.names.each_once.Goals as goal

pub loop-name-init : goal.loop-name-init
loop-name-init g c =
    none_inserted c.new-set.result.keys (metadata_names c.into_iter-name-iterator.result) (metadata_names c.args.names) c.new-set.ensures.empty (ap metadata_names c.into_iter-name-iterator.ensures.into_iter_gives)

pub loop-name-preserved : goal.loop-name-preserved
loop-name-preserved g c =
    let first : metadata_names c.loop-name.name-iterator ≡ c.in-Some.name.0.now ∷ metadata_names c.next.new.self = ap (map (λ name. name.0)) c.in-Some.ensures.steps in
    one_inserted c.loop-name.set.keys c.insert.new.self.keys c.in-Some.name.0 (metadata_names c.loop-name.name-iterator) (metadata_names c.next.new.self) (metadata_names c.args.names) first c.in_ok-insert.ensures.keys c.loop-name.invariant
