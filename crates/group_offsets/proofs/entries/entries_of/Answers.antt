use Rattle.std.proofs.Common.{◌++◌, map}
use Rattle.content.specs.Records.{log_records}
use Rattle.group_offsets.specs.Walks.{entry_value, log_entries}
use Rattle.group_offsets.proofs.ShownKeys.{entries_more, entries_all}
use Rattle.group_offsets.proofs.entries.entries_of.Goals as goal

pub loop-batch-init : goal.loop-batch-init
loop-batch-init g c = λ i. map entry_value (c.new-entries.ensures.items i) ++ log_entries c.args.group.now (log_records (c.walk-walk.ensures.walks i))

pub loop-batch-preserved : goal.loop-batch-preserved
loop-batch-preserved g c =
    entries_more c.args.group.now c.loop-batch.walk c.next.new.self c.in-Some.batch (map entry_value c.loop-batch.entries.items) (map entry_value c.put_batch.new.entries.items) _
    c.in-Some.ensures.gives c.in_ok-put_batch.ensures c.loop-batch.invariant

pub returns : goal.returns
returns g c = entries_all c.args.group.now c.loop-batch.walk (map entry_value c.loop-batch.entries.items) _ c.in_default.ensures.gives.0 c.loop-batch.invariant
