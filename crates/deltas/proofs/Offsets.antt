-- The offsets that an entry lists of a batch: they rise from its base and end in its span, and which of
-- another batch's records they name goes by offset deltas, where the two have one base.
use Rattle.std.proofs.Common.{◌≡◌, ℤ, pos, negsuc, ◌+ℤ◌, [], ◌∷◌, map, refl, ap, subst, ◌∙◌, arith}
use Rattle.std.specs.Prelude.{◌≤ℤ◌, is_some}
use Rattle.std.specs.List.{AllByRecursion, list_any, filter}
use Rattle.std.specs.Ordering.{int_eq}
use Rattle.std.proofs.lemmas.Int.{ints}
use Rattle.batch_codec.specs.declared.head.BatchHead.{BatchHead}
use Rattle.batch_codec.specs.Values.{RecordValue, BatchValue}
use Rattle.batch_codec.specs.Offsets.{first_offset, last_offset, offset_of}
use Rattle.batch_codec.specs.Grammar.{AreValidRecords}
use Rattle.content.specs.ByOffset.{look_up}
use Rattle.content.specs.Records.{record_at_delta, with_common_records, IsKeepable}
use Rattle.content_laws.proofs.ByOffset.{rises-map}
use Rattle.content_laws.proofs.Batches.{Records, delta_of, records_rise}
use Rattle.content_laws.proofs.BatchParts.{every}
use Rattle.content_laws.proofs.Windows.{filter_same}
use Rattle.deltas.specs.Entries.{OffsetsRise}
use Rattle.deltas.specs.Deltas.{offsets_of}
use Rattle.deltas.specs.Patches.{with_listed}

pub offsets_rise : (b : BatchValue) → IsKeepable b → OffsetsRise (first_offset b) (offsets_of b)
offsets_rise b keepable =
    let same : (pos 0 +ℤ first_offset b) ≡ first_offset b = omega (arith, ints) in
    subst (λ (k : ℤ). OffsetsRise k (offsets_of b)) same
    (rises-map delta_of (λ (k : ℤ). k) (offset_of b) (first_offset b) (λ r. omega (arith, ints)) (pos 0) b.recs (records_rise b keepable))

within : (base last before : ℤ) (h : BatchHead) (rs : Records) → h.last_delta ≡ last → AreValidRecords h before rs → AllByRecursion (λ o. o ≤ℤ (base +ℤ last)) (map (λ r. base +ℤ r.delta) rs)
within base last before h [] same valid = tt
within base last before h (r ∷ rs) same valid = let most : r.delta ≤ℤ h.last_delta = valid.0.within in (omega (arith, ints, same, most), within base last r.delta h rs same valid.1)

pub offsets_end : (b : BatchValue) → IsKeepable b → AllByRecursion (λ o. o ≤ℤ last_offset b) (offsets_of b)
offsets_end b keepable = within (first_offset b) b.head.last_delta (negsuc 0) b.head b.recs refl keepable.0.valid.records

-- ---- which records are listed

any_delta : (base d : ℤ) (rs : Records) → list_any (λ o. int_eq o (base +ℤ d)) (map (λ (r : RecordValue). base +ℤ r.delta) rs) ≡ is_some (look_up delta_of d rs)
any_delta base d [] = refl
any_delta base d (r ∷ rs) = grind (arith, ints, any_delta base d rs)

pub listed_common : (x b : BatchValue) → first_offset x ≡ first_offset b → with_listed (offsets_of b) x ≡ with_common_records x b
listed_common x b same =
    let each : (r : RecordValue) → list_any (λ o. int_eq o (offset_of x r)) (offsets_of b) ≡ is_some (record_at_delta r.delta b)
    = λ r. ap (λ (k : ℤ). list_any (λ o. int_eq o (k +ℤ r.delta)) (offsets_of b)) same ∙ any_delta (first_offset b) r.delta b.recs in
    let recs : filter (λ (r : RecordValue). list_any (λ o. int_eq o (offset_of x r)) (offsets_of b)) x.recs ≡ filter (λ (r : RecordValue). is_some (record_at_delta r.delta b)) x.recs
    = filter_same (λ (r : RecordValue). list_any (λ o. int_eq o (offset_of x r)) (offsets_of b)) (λ (r : RecordValue). is_some (record_at_delta r.delta b)) x.recs
    (every (λ (r : RecordValue). list_any (λ o. int_eq o (offset_of x r)) (offsets_of b) ≡ is_some (record_at_delta r.delta b)) x.recs each) in
    λ i. record { head = x.head; recs = recs i }
