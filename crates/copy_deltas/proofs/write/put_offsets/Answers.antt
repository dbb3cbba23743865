use Rattle.std.proofs.Common.{List, ◌++◌, ap, ◌∙◌}
use Rattle.batch_codec.specs.Values.{RecordValue}
use Rattle.batch_codec.specs.Views.{record_value}
use Rattle.copy_deltas.proofs.Entries.{offset_bytes, offsets_more, offsets_all}
use Rattle.copy_deltas.proofs.write.put_offsets.Goals as goal

pub loop-rec-init : goal.loop-rec-init
loop-rec-init g c = (tt, tt, ap (λ (rs : List RecordValue). c.args.out.now.items ++ offset_bytes c.args.batch.now rs) (c.into_iter-rec-iterator.ensures.into_iter_gives ∙ c.recs-rec-items.ensures))

pub loop-rec-preserved : goal.loop-rec-preserved
loop-rec-preserved g c =
    (tt, tt, offsets_more c.args.batch.now c.loop-rec.out.items c.put_offset.new.out.items c.loop-rec.rec-iterator c.next.new.self (record_value c.in-Some.rec) c.in-Some.ensures.steps c.in_ok-put_offset.ensures ∙ c.loop-rec.invariant.2)

pub returns : goal.returns
returns g c = offsets_all c.args.batch.now c.loop-rec.out.items c.loop-rec.rec-iterator c.in-None.ensures.steps.0 ∙ c.loop-rec.invariant.2
