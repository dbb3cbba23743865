use Rattle.std.proofs.Common.{List, ◌++◌, map, ap, ◌∙◌}
use Rattle.batch_codec.specs.Values.{RecordValue}
use Rattle.batch_codec.specs.Views.{record_value}
use Rattle.group_offsets.specs.Walks.{entry_value, entries_of}
use Rattle.group_offsets.proofs.ShownKeys.{put_more, put_all}
use Rattle.group_offsets.proofs.entries.put_batch.Goals as goal

pub loop-rec-init : goal.loop-rec-init
loop-rec-init g c = (tt, tt, ap (λ (rs : List RecordValue). map entry_value c.args.entries.now.items ++ entries_of c.args.group.now rs) (c.into_iter-rec-iterator.ensures.into_iter_gives ∙ c.recs-rec-items.ensures))

pub loop-rec-preserved : goal.loop-rec-preserved
loop-rec-preserved g c =
    (tt, tt, put_more c.args.group.now (map entry_value c.loop-rec.entries.items) (map entry_value c.put.new.entries.items) c.loop-rec.rec-iterator c.next.new.self (record_value c.in-Some.rec) c.in-Some.ensures.steps c.in_ok-put.ensures ∙ c.loop-rec.invariant.2)

pub returns : goal.returns
returns g c = put_all c.args.group.now (map entry_value c.loop-rec.entries.items) c.loop-rec.rec-iterator c.in-None.ensures.steps.0 ∙ c.loop-rec.invariant.2
