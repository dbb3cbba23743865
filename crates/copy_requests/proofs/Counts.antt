-- The counts of a cleaning's report are small: a copy has at most one record at each offset, and each batch has an offset.
use Rattle.std.proofs.Common.{◌≡◌, ℕ, ◌+◌, ◌≤◌, ◌<◌, ◌^◌, ℤ, pos, ◌+ℤ◌, Bool, true, false, cond, List, [], ◌∷◌, length, Result, Ok, Err, sym, ap, subst, ◌∙◌, arith}
use Rattle.std.specs.Prelude.{◌-◌, ◌≤ℤ◌, ◌<ℤ◌, ◌&&◌, not, IfOk, OnOk, OnErr, map, count_by}
use Rattle.std.specs.List.{AllByRecursion, filter}
use Rattle.std.proofs.lemmas.Int.{ints}
use Rattle.std.proofs.lemmas.List.{length-append, length-map}
use Rattle.std.proofs.lemmas.List.Concat.{flat_map-cons}
use Rattle.std.proofs.lemmas.List.Sums.{sum_by-cons}
use Rattle.batch_codec.specs.Values.{BatchValue}
use Rattle.batch_codec.specs.Offsets.{first_offset, last_offset, offset_of, SpansRise}
use Rattle.batch_codec.proofs.Encoded.{count_le_last}
use Rattle.content.specs.Records.{LogRecord, log_records, IsKeepable}
use Rattle.content.specs.declared.part.CleaningPart.{CleaningPart}
use Rattle.content.specs.declared.report.CleanReport.{CleanReport}
use Rattle.content.specs.Cleaning.{clean_report, is_cleanable, is_superseded, is_removable_tombstone}
use Rattle.content.specs.Parts.{part_report, is_in_part, is_expired_in_part}
use Rattle.content.specs.Content.{Content, IsContent}
use Rattle.content_laws.proofs.ByOffset.{all_from_at}
use Rattle.content_laws.proofs.Slots.{bases_rise}
use Rattle.copy_deltas.proofs.Below.{kept_in_range}
use Rattle.copy_requests.specs.declared.clean.Cleaning.{Cleaning}
use Rattle.copy_requests.specs.declared.clean.Cleaning.TheVariants.{Whole, Part}
use Rattle.copy_requests.specs.Clean.{cleaned, cleaning_report}
use Rattle.copy_requests.specs.Outcomes.{CountsFit, Cleans}

count_within : {X : Type 0} (p : X → Bool) (xs : List X) → count_by p xs ≤ length xs
count_within p [] = omega arith
count_within p (x ∷ xs) = by (p x) (sum_by-cons (λ y. cond (p y) 1 0) x xs) (count_within p xs)
  where
    by : (b : Bool) → count_by p (x ∷ xs) ≡ cond b 1 0 + count_by p xs → count_by p xs ≤ length xs → count_by p (x ∷ xs) ≤ length (x ∷ xs)
    by true e rest = omega (arith, e, rest)
    by false e rest = omega (arith, e, rest)

records_of : BatchValue → List LogRecord
records_of b = map (λ r. (offset_of b r, r)) b.recs

records_more : (b : BatchValue) (bs : List BatchValue) → length (log_records (b ∷ bs)) ≡ length b.recs + length (log_records bs)
records_more b bs =
    ap length (flat_map-cons (λ b. map (λ r. (offset_of b r, r)) b.recs) b bs)
    ∙ length-append (map (λ r. (offset_of b r, r)) b.recs) (log_records bs)
    ∙ ap (λ (n : ℕ). n + length (log_records bs)) (length-map b.recs (λ r. (offset_of b r, r)))

fewer_records : (p : BatchValue → Bool) (bs : List BatchValue) → length (log_records (filter p bs)) ≤ length (log_records bs)
fewer_records p [] = omega arith
fewer_records p (b ∷ bs) = by (p b) (fewer_records p bs)
  where
    by : (t : Bool) → length (log_records (filter p bs)) ≤ length (log_records bs) → length (log_records (cond t (b ∷ filter p bs) (filter p bs))) ≤ length (log_records (b ∷ bs))
    by true rest = omega (arith, rest, records_more b (filter p bs), records_more b bs)
    by false rest = omega (arith, rest, records_more b bs)

abbrev EndsBelow : BatchValue → Type 0
EndsBelow b = last_offset b <ℤ pos (2 ^ 62)

records_within : (from : ℤ) (bs : List BatchValue) → SpansRise from bs → AllByRecursion IsKeepable bs → AllByRecursion EndsBelow bs → from ≤ℤ pos (2 ^ 62)
    → ((from +ℤ pos (length (log_records bs))) ≤ℤ pos (2 ^ 62)) × ((from +ℤ pos (length bs)) ≤ℤ pos (2 ^ 62))
records_within from [] rise keep ends le = (omega (arith, ints, le), omega (arith, ints, le))
records_within from (b ∷ bs) rise keep ends le =
    let after = ends.0 in
    let rest = records_within (last_offset b +ℤ pos 1) bs rise.1 keep.1 ends.1 (omega (arith, ints, after)) in
    let count = count_le_last b keep.0.0 in
    let least = keep.0.0.valid.last_delta in
    let here = rise.0 in
    let records = rest.0 in
    let batches = rest.1 in (
      omega (arith, ints, records, count, here, records_more b bs),
      omega (arith, ints, batches, least, here),
    )

kept_end : (c : Content) → IsContent c → AllByRecursion EndsBelow c.kept
kept_end c is = all_from_at first_offset EndsBelow c.start c.kept (bases_rise c is) (λ b there. (kept_in_range c (first_offset b) b is there).1)

-- of the batches in reach no more records can go than the content has
count_reached : (c : Content) → IsContent c → (reaches : BatchValue → Bool) (goes : LogRecord → Bool) → count_by goes (log_records (filter reaches c.kept)) < 2 ^ 63
count_reached c is reaches goes =
    let low = is.in_range.0 in
    let all = (records_within c.start c.kept is.disjoint is.keepable (kept_end c is) is.in_range.1).0 in
    let reached : length (log_records (filter reaches c.kept)) ≤ length (log_records c.kept) = fewer_records reaches c.kept in
    omega (arith, ints, all, low, reached, count_within goes (log_records (filter reaches c.kept)))

count_batches : (c : Content) → IsContent c → length c.kept < 2 ^ 63
count_batches c is =
    let low = is.in_range.0 in
    let batches = (records_within c.start c.kept is.disjoint is.keepable (kept_end c is) is.in_range.1).1 in
    omega (arith, ints, batches, low)

fewer_batches : (n m : ℕ) → n < 2 ^ 63 → n - m < 2 ^ 63
fewer_batches n m small = omega (arith, small)

whole_counts_fit : (upto tomb_before : ℤ) (c : Content) → IsContent c → CountsFit (clean_report upto tomb_before c)
whole_counts_fit upto tomb_before c is = record {
  records = count_reached c is (is_cleanable upto) (is_superseded c upto);
  tombstones = count_reached c is (is_cleanable upto) (λ x. not (is_superseded c upto x) && is_removable_tombstone c tomb_before x);
  batches = fewer_batches (length c.kept) _ (count_batches c is);
}

part_counts_fit : (part : CleaningPart) (c : Content) → IsContent c → CountsFit (part_report part c)
part_counts_fit part c is = record {
  records = count_reached c is (is_in_part part) (is_superseded c part.upto);
  tombstones = count_reached c is (is_in_part part) (λ x. not (is_superseded c part.upto x) && is_expired_in_part part c x);
  batches = fewer_batches (length c.kept) _ (count_batches c is);
}

pub counts_fit : (cleaning : Cleaning) (c : Content) → IsContent c → CountsFit (cleaning_report cleaning c)
counts_fit (Whole upto tomb_before) c is = whole_counts_fit upto tomb_before c is
counts_fit (Part part) c is = part_counts_fit part c is

-- what a cleaning comes to, its bounds passed by value
pub cleans : {E : Type 0} (c after : Content) (cleaning passed : Cleaning) (r : Result CleanReport E) → IsContent c → passed ≡ cleaning
    → OnOk r (after ≡ cleaned passed c) → IfOk r (λ report. report ≡ cleaning_report passed c) → OnErr r (after ≡ c) → Cleans cleaning r c after
cleans c after cleaning passed (Ok report) is same made told stays =
    let report_is : report ≡ cleaning_report cleaning c = told ∙ (λ i. cleaning_report (same i) c) in
    (report_is, subst CountsFit (sym report_is) (counts_fit cleaning c is), made ∙ (λ i. cleaned (same i) c))
cleans c after cleaning passed (Err e) is same made told stays = stays
