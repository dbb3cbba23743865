use Rattle.std.proofs.Common.{◌∙◌, ◌++◌, ℤ, List, ap, subst, to_z, of_z}
use Rattle.std.specs.Int.{w64}
use Rattle.std.proofs.lemmas.Int.{to_z-of_z}
use Rattle.batch_codec.specs.declared.head.BatchHead.{BatchHead}
use Rattle.batch_codec.specs.Views.{record_value}
use Rattle.content.specs.Records.{LogRecord}
use Rattle.cleaner.specs.Later.{outdated_of}
use Rattle.cleaner.specs.Latest.{Means}
use Rattle.cleaner.specs.Older.{may_expire, expiring_of}
use Rattle.cleaner.proofs.OlderKeys.{where_first, where_fits, where_more, where_none}
use Rattle.cleaner.proofs.older.put_expiring.Goals as goal

pub loop-rec-init : goal.loop-rec-init
loop-rec-init g c = (tt, tt, where_first (may_expire (outdated_of c.args.later.now) (to_z w64 (of_z w64 c.args.bound))) c.args.expiring.now c.args.batch.now _ (c.into_iter-rec-iterator.ensures.into_iter_gives ∙ c.recs-rec-items.ensures) c.requires)

pub may_expire-counts-requires : goal.may_expire-counts-requires
may_expire-counts-requires g c =
    where_fits (may_expire (outdated_of c.args.later.now) (to_z w64 (of_z w64 c.args.bound))) c.args.expiring.now c.loop-rec.expiring c.args.batch.now c.head-head.result.base c.loop-rec.rec-iterator c.next.new.self (record_value c.in-Some.rec) (ap (λ (h : BatchHead). h.base) c.head-head.ensures.head) c.in-Some.ensures.steps c.loop-rec.invariant.2

pub put_counted-requires : goal.put_counted-requires
put_counted-requires g c =
    where_fits (may_expire (outdated_of c.args.later.now) (to_z w64 (of_z w64 c.args.bound))) c.args.expiring.now c.loop-rec.expiring c.args.batch.now c.head-head.result.base c.loop-rec.rec-iterator c.next.new.self (record_value c.in-Some.rec) (ap (λ (h : BatchHead). h.base) c.head-head.ensures.head) c.in-Some.ensures.steps c.loop-rec.invariant.2

pub loop-rec-preserved : goal.loop-rec-preserved
loop-rec-preserved g c = (
  tt,
  tt,
  where_more (may_expire (outdated_of c.args.later.now) (to_z w64 (of_z w64 c.args.bound))) c.args.expiring.now c.loop-rec.expiring c.put_counted.new.keys c.args.batch.now c.head-head.result.base c.loop-rec.rec-iterator c.next.new.self (record_value c.in-Some.rec) c.may_expire-counts.result (ap (λ (h : BatchHead). h.base) c.head-head.ensures.head) c.in-Some.ensures.steps
      c.may_expire-counts.ensures c.in_ok-put_counted.ensures c.loop-rec.invariant.2,
)

pub returns : goal.returns
returns g c =
    subst (λ (z : ℤ). (xs : List LogRecord) → Means c.args.expiring.now xs → Means c.loop-rec.expiring (xs ++ expiring_of (outdated_of c.args.later.now) z c.args.batch.now)) (to_z-of_z w64 c.args.bound c.ranges.bound)
    (where_none (may_expire (outdated_of c.args.later.now) (to_z w64 (of_z w64 c.args.bound))) c.args.expiring.now c.loop-rec.expiring c.args.batch.now c.loop-rec.rec-iterator c.in-None.ensures.steps.0 c.loop-rec.invariant.2)
