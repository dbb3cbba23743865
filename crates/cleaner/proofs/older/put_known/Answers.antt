use Rattle.std.proofs.Common.{◌∙◌, ap}
use Rattle.batch_codec.specs.declared.head.BatchHead.{BatchHead}
use Rattle.batch_codec.specs.Views.{record_value}
use Rattle.cleaner.specs.Choice.{has_key_of}
use Rattle.cleaner.proofs.OlderKeys.{where_first, where_fits, where_more, where_none}
use Rattle.cleaner.proofs.older.put_known.Goals as goal

pub loop-rec-init : goal.loop-rec-init
loop-rec-init g c = (tt, tt, where_first (has_key_of c.args.keys.now) c.args.older.now c.args.batch.now _ (c.into_iter-rec-iterator.ensures.into_iter_gives ∙ c.recs-rec-items.ensures) c.requires)

pub put_counted-requires : goal.put_counted-requires
put_counted-requires g c =
    where_fits (has_key_of c.args.keys.now) c.args.older.now c.loop-rec.older c.args.batch.now c.head-head.result.base c.loop-rec.rec-iterator c.next.new.self (record_value c.in-Some.rec) (ap (λ (h : BatchHead). h.base) c.head-head.ensures.head) c.in-Some.ensures.steps c.loop-rec.invariant.2

pub loop-rec-preserved : goal.loop-rec-preserved
loop-rec-preserved g c = (
  tt,
  tt,
  where_more (has_key_of c.args.keys.now) c.args.older.now c.loop-rec.older c.put_counted.new.keys c.args.batch.now c.head-head.result.base c.loop-rec.rec-iterator c.next.new.self (record_value c.in-Some.rec) c.has_key-counts.result (ap (λ (h : BatchHead). h.base) c.head-head.ensures.head) c.in-Some.ensures.steps
      c.has_key-counts.ensures c.in_ok-put_counted.ensures c.loop-rec.invariant.2,
)

pub returns : goal.returns
returns g c = where_none (has_key_of c.args.keys.now) c.args.older.now c.loop-rec.older c.args.batch.now c.loop-rec.rec-iterator c.in-None.ensures.steps.0 c.loop-rec.invariant.2
