use Rattle.std.proofs.Common.{◌∙◌, sym, ap}
use Rattle.std.specs.Int.{w64}
use Rattle.std.proofs.lemmas.Int.{to_z-of_z}
use Rattle.batch_codec.specs.declared.head.BatchHead.{BatchHead}
use Rattle.batch_codec.specs.Offsets.{first_offset}
use Rattle.cleaner.proofs.OlderKeys.{from_on, none_begin_first}
use Rattle.cleaner.proofs.older.next_before.Goals as goal

pub returns-else-begins_below-clause-gives : goal.returns-else-begins_below-clause-gives
returns-else-begins_below-clause-gives g c =
    none_begin_first c.args.from c.requires.in_order.0 c.in-Some.batch (g.S.BatchStore.left c.args.batches.now c.args.cursor.now) _ c.in-Some.ensures.gives c.requires.in_order.1
    (from_on c.args.from (first_offset c.in-Some.batch) _ c.head.result.base (to_z-of_z w64 c.args.from c.ranges.from) (ap (λ (h : BatchHead). h.base) c.head.ensures.head) (sym c.begins_below.ensures ∙ c.if-begins_below.false))
