use Rattle.std.proofs.Common.{to_z, of_z, ◌∙◌, FitsSigned, w64, rules}
use Rattle.std.proofs.lemmas.Int.{to_z-of_z}
use Rattle.snapshots.specs.Heads.{snapshot_view}
use Rattle.state_snapshots.proofs.Restored.{restored_whole}
use Rattle.state_snapshots.proofs.restoring.restore_snapshot.Goals as goal

pub returns-in-Ok-clause-restores : goal.returns-in-Ok-clause-restores
returns-in-Ok-clause-restores g c =
    let next = c.next_producer.result in
    let fits : FitsSigned w64 next = search rules in
    restored_whole (snapshot_view c.args.head.now) (g.D.Disk.seen c.args.disk.now) c.args.at c.in_ok-behind.behind c.in_ok-end.end (to_z w64 (of_z w64 next)) c.args.state.now c.restore_topics.new.state c.give_ids_from.new.self
    c.in_ok-end.ensures.size c.in_ok-check_end.ensures.ends c.in_ok-behind.ensures.restores (to_z-of_z w64 next fits ∙ c.next_producer.ensures) c.in-Ok.ensures.is_not_early c.in-Ok.ensures.gives
