-- A cleaning up to any offset is one up to the last offset between batches below it.
use Rattle.std.proofs.Common.{◌≡◌, ℤ, pos, ◌+ℤ◌, Bool, true, false, cond, not, ◌&&◌, ◌||◌, List, [], ◌∷◌, Option, Some, refl, sym, ap, ◌∙◌, inl, inr, arith}
use Rattle.std.specs.Prelude.{◌≤ℤ◌, ◌<ℤ◌, int_lt}
use Rattle.std.specs.List.{filter_map, cons_option, list_any, AllByRecursion}
use Rattle.std.specs.Int.{int_min}
use Rattle.std.proofs.lemmas.Int.{ints, clamps}
use Rattle.batch_codec.specs.Values.{BatchValue}
use Rattle.batch_codec.specs.Offsets.{first_offset, last_offset, offset_of, SpansRise}
use Rattle.content.specs.Records.{LogRecord, log_records, same_key, with_records_that, IsKeepable}
use Rattle.content.specs.Content.{Content, IsContent, end}
use Rattle.content.specs.Cleaning.{is_cleanable, cleanable_records, is_removable_tombstone, is_exempt, unless_empty, clean_batch, clean}
use Rattle.content.specs.Parts.{NoneIsAcross}
use Rattle.cleaning_courses.specs.Places.{IsBetweenBatches, before_across, place_below}
use Rattle.cleaning_courses.proofs.Lists.{filter_same}
use Rattle.cleaning_courses.proofs.Keyed.{Batches}
use Rattle.cleaning_courses.proofs.Appended.{kept_below_end}

-- ---- the place

before_from : (o low : ℤ) (bs : Batches) → low ≤ℤ o → SpansRise low bs → AllByRecursion IsKeepable bs → low ≤ℤ before_across o bs
before_from o low [] le spans keepable = le
before_from o low (b ∷ bs) le spans keepable = by (int_lt (last_offset b) o) refl (before_from o (last_offset b +ℤ pos 1) bs)
  where
    begins : low ≤ℤ first_offset b
    begins = spans.0

    least : pos 0 ≤ℤ b.head.last_delta
    least = keepable.0.0.valid.last_delta

    next : int_lt (last_offset b) o ≡ true → (last_offset b +ℤ pos 1) ≤ℤ o
    next e = grind (arith, ints, e)

    by : (t : Bool) → int_lt (last_offset b) o ≡ t → ((last_offset b +ℤ pos 1) ≤ℤ o → SpansRise (last_offset b +ℤ pos 1) bs → AllByRecursion IsKeepable bs → (last_offset b +ℤ pos 1) ≤ℤ before_across o bs)
        → low ≤ℤ cond t (before_across o bs) (int_min o (first_offset b))
    by true e rest = let further : (last_offset b +ℤ pos 1) ≤ℤ before_across o bs = rest (next e) spans.1 keepable.1 in omega (arith, ints, further, begins, least)
    by false e rest = omega (arith, ints, clamps, le, begins)

-- batches from an offset on lie across none up to it
from_on : (p low : ℤ) (bs : Batches) → p ≤ℤ low → SpansRise low bs → AllByRecursion IsKeepable bs → NoneIsAcross p bs
from_on p low [] le spans keepable = tt
from_on p low (b ∷ bs) le spans keepable =
    let least : pos 0 ≤ℤ b.head.last_delta = keepable.0.0.valid.last_delta in
    (inr (omega (arith, ints, le, spans.0)), from_on p (last_offset b +ℤ pos 1) bs (omega (arith, ints, le, spans.0, least)) spans.1 keepable.1)

-- batches from an offset on are not below one before that
not_below : (o p low : ℤ) (bs : Batches) → o ≤ℤ low → p ≤ℤ low → SpansRise low bs → AllByRecursion IsKeepable bs → AllByRecursion (λ b. is_cleanable o b ≡ is_cleanable p b) bs
not_below o p low [] le less spans keepable = tt
not_below o p low (b ∷ bs) le less spans keepable =
    let least : pos 0 ≤ℤ b.head.last_delta = keepable.0.0.valid.last_delta in
    let begins : low ≤ℤ first_offset b = spans.0 in
    (same begins least, not_below o p (last_offset b +ℤ pos 1) bs (omega (arith, ints, le, begins, least)) (omega (arith, ints, less, begins, least)) spans.1 keepable.1)
  where
    same : low ≤ℤ first_offset b → pos 0 ≤ℤ b.head.last_delta → is_cleanable o b ≡ is_cleanable p b
    same begins least = grind (arith, ints, le, less, begins, least)

record IsPlaceIn (o p : ℤ) (bs : Batches) : Type 0 where
  none_across : NoneIsAcross p bs
  same : AllByRecursion (λ b. is_cleanable o b ≡ is_cleanable p b) bs

is_place : (o e low : ℤ) (bs : Batches) → SpansRise low bs → AllByRecursion IsKeepable bs → AllByRecursion (λ b. last_offset b <ℤ e) bs → IsPlaceIn o (int_min e (before_across o bs)) bs
is_place o e low [] spans keepable below = record { none_across = tt; same = tt }
is_place o e low (b ∷ bs) spans keepable below = by (int_lt (last_offset b) o) refl (is_place o e (last_offset b +ℤ pos 1) bs spans.1 keepable.1 below.1)
  where
    least : pos 0 ≤ℤ b.head.last_delta
    least = keepable.0.0.valid.last_delta

    ends : last_offset b <ℤ e
    ends = below.0

    by : (t : Bool) → int_lt (last_offset b) o ≡ t → IsPlaceIn o (int_min e (before_across o bs)) bs → IsPlaceIn o (int_min e (cond t (before_across o bs) (int_min o (first_offset b)))) (b ∷ bs)
    by true f rest = record { none_across = (inl under, rest.none_across); same = (f ∙ sym under_too, rest.same) }
      where
        next : (last_offset b +ℤ pos 1) ≤ℤ o
        next = grind (arith, ints, f)

        further : (last_offset b +ℤ pos 1) ≤ℤ before_across o bs
        further = before_from o (last_offset b +ℤ pos 1) bs next spans.1 keepable.1

        under : last_offset b <ℤ int_min e (before_across o bs)
        under = omega (arith, ints, clamps, ends, further)

        under_too : is_cleanable (int_min e (before_across o bs)) b ≡ true
        under_too = grind (arith, ints, under)
    by false f rest = record {
      none_across = (inr to, from_on p (last_offset b +ℤ pos 1) bs (omega (arith, ints, to, least)) spans.1 keepable.1);
      same = (f ∙ sym not_under, not_below o p (last_offset b +ℤ pos 1) bs (omega (arith, ints, above)) (omega (arith, ints, to, least)) spans.1 keepable.1);
    }
      where
        p : ℤ
        p = int_min e (int_min o (first_offset b))

        above : o ≤ℤ last_offset b
        above = grind (arith, ints, f)

        to : int_min e (int_min o (first_offset b)) ≤ℤ first_offset b
        to = omega (arith, ints, clamps)

        not_under : is_cleanable (int_min e (int_min o (first_offset b))) b ≡ false
        not_under = grind (arith, ints, to, least)

-- ---- the cleaning

with_later : Content → ℤ → List LogRecord → BatchValue → Option BatchValue
with_later c d later b = unless_empty (is_exempt c b)
    (with_records_that (λ r. not (list_any (λ y. int_lt (offset_of b r) y.0 && same_key y.1 r) later || is_removable_tombstone c d (offset_of b r, r))) b)

module _ (c : Content) (content : IsContent c) (u : ℤ) where
  place : IsPlaceIn u (place_below u c) c.kept
  place = is_place u (end c) c.start c.kept content.disjoint content.keepable (kept_below_end c content)

  pub place_between : IsBetweenBatches c (place_below u c)
  place_between = record { to_end = omega (arith, ints, clamps); none_across = place.none_across }

  same_records : cleanable_records c u ≡ cleanable_records c (place_below u c)
  same_records = ap log_records (filter_same (is_cleanable u) (is_cleanable (place_below u c)) c.kept place.same)

  same_batches : (d : ℤ) (bs : Batches) → AllByRecursion (λ b. is_cleanable u b ≡ is_cleanable (place_below u c) b) bs → filter_map (clean_batch c u d) bs ≡ filter_map (clean_batch c (place_below u c) d) bs
  unfolding with_later
  same_batches d [] same = refl
  same_batches d (b ∷ bs) same = (λ i. cons_option (cond (same.0 i) (with_later c d (same_records i) b) (Some b)) (same_batches d bs same.1 i))

  pub cleaned_to_place : (d : ℤ) → clean u d c ≡ clean (place_below u c) d c
  cleaned_to_place d = (λ i. record c { kept = same_batches d c.kept place.same i })
