use Rattle.std.proofs.Common.{◌≡◌, sym, ap, subst, ◌∙◌, FitsSigned, to_z, of_z}
use Rattle.std.specs.Int.{w64}
use Rattle.std.proofs.lemmas.Int.{to_z-of_z}
use Rattle.batch_codec.specs.declared.head.BatchHead.{BatchHead}
use Rattle.batch_codec.specs.Views.{record_value}
use Rattle.key_index.proofs.Entering.{offsets_fit, next_fits}
use Rattle.key_index.specs.Puts.{HaveOffsets}
use Rattle.newest_keys.specs.Shards.{newest_in}
use Rattle.newest_keys.proofs.Records.{leads_first, leads_more, leads_last}
use Rattle.newest_keys.proofs.keys.NewestKeys.put_batch.Goals as goal

-- the base, as it is passed on
abbrev passed : (h head : BatchHead) → h ≡ head → FitsSigned w64 head.base → to_z w64 (of_z w64 h.base) ≡ head.base
passed h head same fits = to_z-of_z w64 h.base (subst (λ (x : BatchHead). FitsSigned w64 x.base) (sym same) fits) ∙ ap (λ (x : BatchHead). x.base) same

pub put_record-requires : goal.put_record-requires
put_record-requires g c =
    next_fits c.args.batch.now.head.base _ _ _ (record_value c.in-Some.rec) (passed c.head-base.result c.args.batch.now.head c.head-base.ensures.head c.head-base.ensures.writable.valid.fits.base) c.in-Some.ensures.steps c.loop-rec.invariant.2

pub loop-rec-init : goal.loop-rec-init
loop-rec-init g c =
    let left = c.into_iter-rec-iterator.ensures.into_iter_gives ∙ c.recs-rec-items.ensures in
    (tt, tt, offsets_fit c.args.batch.now _ c.head-base.ensures.writable c.requires left, leads_first c.args.batch.now.head.base _ _ _ left)

pub loop-rec-preserved : goal.loop-rec-preserved
loop-rec-preserved g c =
    let on = leads_more c.args.batch.now.head.base _ (newest_in c.args.self.now) (newest_in c.loop-rec.self) (newest_in c.put_record.new.keys) _ _ c.args.batch.now.recs (record_value c.in-Some.rec)
    (passed c.head-base.result c.args.batch.now.head c.head-base.ensures.head c.head-base.ensures.writable.valid.fits.base) c.in-Some.ensures.steps c.in_ok-put_record.ensures c.loop-rec.invariant.3 in
    (tt, tt, (subst (HaveOffsets c.args.batch.now.head.base) c.in-Some.ensures.steps c.loop-rec.invariant.2).1, on)

pub returns : goal.returns
returns g c =
    record { puts = leads_last c.args.batch.now.head.base (newest_in c.args.self.now) (newest_in c.loop-rec.self) _ c.args.batch.now.recs c.in-None.ensures.steps.0 c.loop-rec.invariant.3 }
