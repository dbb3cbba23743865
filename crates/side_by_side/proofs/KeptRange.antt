-- What a copy keeps lies within the offsets.
use Rattle.std.proofs.Common.{◌≡◌, ℕ, zero, suc, ◌+◌, ◌^◌, ℤ, pos, [], ◌∷◌, ◌++◌, drop, Option, Some, None, refl, sym, ap, ◌∙◌, arith}
use Rattle.std.specs.Prelude.{◌≤ℤ◌, ◌<ℤ◌}
use Rattle.std.specs.List.{AllByRecursion}
use Rattle.std.proofs.lemmas.Int.{ints}
use Rattle.std.specs.Option.{option_to_list, is_some, MatchOption}
use Rattle.batch_codec.specs.Values.{BatchValue}
use Rattle.batch_codec.specs.Offsets.{first_offset, last_offset}
use Rattle.content.specs.ByOffset.{look_up}
use Rattle.content.specs.Records.{IsKeepable}
use Rattle.content.specs.Content.{Content, IsContent, IsInRange, end}
use Rattle.content_laws.proofs.ByOffset.{look_up-offset, all_from_at}
use Rattle.content_laws.proofs.Batches.{Batches}
use Rattle.content_laws.proofs.Slots.{bases_rise, kept_ends}
use Rattle.delta_bytes.proofs.Below.{below_end, end_within}
use Rattle.side_by_side.specs.Steps.{first_batch, HasSpan}

pub kept_in_range : (c : Content) (o : ℤ) (x : BatchValue) → IsContent c → look_up first_offset o c.kept ≡ Some x → IsInRange x
kept_in_range c o x is there = (omega (arith, ints, low, least, base), omega (arith, ints, below, most))
  where
    base : first_offset x ≡ o
    base = look_up-offset first_offset o c.kept x there

    ends : o ≤ℤ last_offset x
    ends = kept_ends c o x is there

    low : c.start ≤ℤ o
    low = is.above o (is.inside o o x there (omega (arith, ints)) ends)

    least : pos 0 ≤ℤ c.start
    least = is.in_range.0

    below : last_offset x <ℤ end c
    below = below_end c.start (last_offset x) c.cover is.canonical (is.inside o (last_offset x) x there ends (omega (arith, ints)))

    most : end c ≤ℤ pos (2 ^ 62)
    most = end_within c is

-- ---- all that a copy keeps has spans

keepable_span : (x : BatchValue) → IsKeepable x → first_offset x ≤ℤ last_offset x
keepable_span x keepable = let least : pos 0 ≤ℤ x.head.last_delta = keepable.0.valid.last_delta in omega (arith, ints, least)

have_spans : (bs : Batches) → AllByRecursion IsInRange bs → AllByRecursion IsKeepable bs → AllByRecursion HasSpan bs
have_spans [] ranges keepable = tt
have_spans (b ∷ bs) ranges keepable = ((ranges.0, keepable_span b keepable.0), have_spans bs ranges.1 keepable.1)

pub all_have_spans : (c : Content) → IsContent c → AllByRecursion HasSpan c.kept
all_have_spans c is =
    have_spans c.kept (all_from_at first_offset IsInRange c.start c.kept (bases_rise c is) (λ z e. kept_in_range c (first_offset z) z is e)) is.keepable

-- ---- the batch that comes next, and those behind it

pub shown : (next : Option BatchValue) (old new : Batches) → MatchOption next ((old ≡ []) × (new ≡ [])) (λ b. old ≡ b ∷ new) → option_to_list next ++ new ≡ old
shown None old new gives = gives.1 ∙ sym gives.0
shown (Some b) old new gives = sym gives

pub none_behind : (next : Option BatchValue) (old new : Batches) → MatchOption next ((old ≡ []) × (new ≡ [])) (λ b. old ≡ b ∷ new) → next ≡ None → new ≡ []
none_behind None old new gives none = gives.1
none_behind (Some b) old new gives none = absurd (grind (arith, none))

pub some_first : (next : Option BatchValue) (behind shown : Batches) → (next ≡ None → behind ≡ []) → option_to_list next ++ behind ≡ shown → is_some next ≡ is_some (first_batch shown)
some_first None behind shown none view = ap (λ (bs : Batches). is_some (first_batch bs)) (sym (none refl) ∙ view)
some_first (Some b) behind shown none view = ap (λ (bs : Batches). is_some (first_batch bs)) view

drop_drop : (i : ℕ) (bs : Batches) → drop 1 (drop i bs) ≡ drop (i + 1) bs
drop_drop zero bs = refl
drop_drop (suc i) [] = let more : suc i + 1 ≡ suc (i + 1) = omega arith in sym (ap (λ (n : ℕ). drop {A = BatchValue} n []) more)
drop_drop (suc i) (b ∷ bs) =
    let more : suc i + 1 ≡ suc (i + 1) = omega arith in
    drop_drop i bs ∙ sym (ap (λ (n : ℕ). drop n (b ∷ bs)) more)

pub one_passed : (i : ℕ) (bs now new : Batches) → now ≡ drop i bs → new ≡ drop 1 now → new ≡ drop (i + 1) bs
one_passed i bs now new is passed =
    passed ∙ ap (drop 1) is ∙ drop_drop i bs
