use Rattle.copy_deltas.proofs.Sizes.{listed_size, sent_size}
use Rattle.copy_deltas.proofs.size.entry_size.Goals as goal

pub returns-then-is_asked : goal.returns-then-is_asked
returns-then-is_asked g c = listed_size c.args.asked.now.runs c.args.batch.now c.is_asked.result c.record_count.result c.list_size.result c.is_asked.ensures c.if-is_asked.true c.record_count.ensures c.list_size.ensures

pub returns-else-is_asked : goal.returns-else-is_asked
returns-else-is_asked g c = sent_size c.args.asked.now.runs c.args.batch.now c.is_asked.result c.bytes.result.now c.saturating_add.result c.is_asked.ensures c.if-is_asked.false c.bytes.ensures.encoding c.saturating_add.ensures
