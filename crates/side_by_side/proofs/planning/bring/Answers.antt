use Rattle.std.proofs.Common.{ap, ◌∙◌}
use Rattle.batch_codec.specs.Offsets.{first_offset}
use Rattle.content.specs.ByOffset.{put}
use Rattle.side_by_side.proofs.Turns.{put_last}
use Rattle.side_by_side.proofs.planning.bring.Goals as goal

pub returns-clause-more : goal.returns-clause-more
returns-clause-more g c =
    c.in_ok-insert.ensures.inserts
    ∙ ap (put first_offset c.args.batch.now) c.add_turn.ensures.more
    ∙ put_last c.args.batch.now (g.S.BatchStore.batches c.args.plan.now.more) c.requires.behind
