-- Offsets and spans against the ranges that are left.
use Rattle.std.proofs.Common.{get_or, ◌≡◌, ℕ, ◌+◌, ◌≤◌, ◌<◌, ℤ, pos, ◌+ℤ◌, Bool, true, false, ◌||◌, [], ◌∷◌, length, drop, refl, sym, ap, subst, ◌∙◌, arith}
use Rattle.std.specs.Prelude.{◌<ℤ◌, ◌≤ℤ◌, int_lt, int_le, IsTrue, ◌↔◌, ◌^◌, not, FitsSigned, if◌then◌else◌}
use Rattle.std.specs.Int.{w64, cast_signed, cast_unsigned, int_max}
use Rattle.std.proofs.lemmas.Int.{ints, clamps, to_z-of_z}
use Rattle.batch_codec.specs.Values.{BatchValue}
use Rattle.batch_codec.specs.Offsets.{first_offset, last_offset}
use Rattle.cover_ranges.specs.Runs.{Runs, is_within, covers, IsCanonical, has_all, CoversAll, CoversAny}
use Rattle.cover_ranges.proofs.RunEnds.{has_all_is}
use Rattle.cover_ranges.proofs.RunsFrom.{RunsFrom, canonical_from}
use Rattle.copy_images.specs.Judging.{ending_from, first_holds}
use Rattle.copy_images.proofs.Judged.{skipped, skipped_same, first_decides}
use Rattle.deltas.specs.Entries.{OffsetsRise, AreCovered}
use Rattle.delta_bytes.specs.Judging.{offset_at, offsets_of, first_starts_by}
use Rattle.delta_bytes.proofs.Rising.{Parts, next_offset, no_offset}

-- from an offset on, both runs hold the same
abbrev pub SameFrom : ℤ → Runs → Runs → Type 0
SameFrom low runs left = (o : ℤ) → low ≤ℤ o → covers runs o ≡ covers left o

pub ending_same : (o : ℤ) (runs : Runs) → SameFrom o runs (ending_from o runs)
unfolding ending_from
ending_same o [] q le = refl
ending_same o (run ∷ runs) q le = by (int_lt run.1 o) refl (ending_same o runs q le)
  where
    by : (t : Bool) → int_lt run.1 o ≡ t → covers runs q ≡ covers (ending_from o runs) q → covers (run ∷ runs) q ≡ covers (if t then ending_from o runs else run ∷ runs) q
    by true e ih =
        let here : is_within q run ≡ false = grind (arith, ints, e) in
        ap (λ (t : Bool). t || covers runs q) here ∙ ih
    by false e ih = refl

not_below : (o : ℤ) → int_lt o o ≡ false
not_below o = grind (arith, ints)

same_offset : (o : ℤ) → o ≤ℤ o
same_offset o = omega (arith, ints)

-- the first run that ends at the offset or later decides
pub offset_decided : (low o : ℤ) (runs : Runs) → RunsFrom low runs → first_holds o o (ending_from o runs) ≡ covers runs o
offset_decided low o runs h =
    let first : has_all (ending_from o runs) o o ≡ first_holds o o (ending_from o runs) = first_decides low o o runs h (same_offset o) in
    let all : has_all (ending_from o runs) o o ≡ covers (ending_from o runs) o = ap (λ (t : Bool). t || covers (ending_from o runs) o) (not_below o) in
    sym first ∙ all ∙ sym (ending_same o runs o (same_offset o))

-- ---- each of some offsets

-- those so far are covered, and those from the index on are decided by the runs that are left
pub record CoveredSoFar (runs : Runs) (parts : Parts) (i : ℕ) (left : Runs) : Type 0 where
  pub low : ℤ
  pub rise : OffsetsRise low (drop i (offsets_of parts))
  pub question : AreCovered runs (offsets_of parts) ↔ AreCovered runs (drop i (offsets_of parts))
  pub runs_left : RunsFrom (pos 0) left
  pub same : SameFrom low runs left

pub none_covered : (runs : Runs) (parts : Parts) → IsCanonical runs → (low : ℤ) × OffsetsRise low (offsets_of parts) → CoveredSoFar runs parts 0 runs
none_covered runs parts canonical rising = record {
  low = rising.0;
  rise = rising.1;
  question = (λ h. h, λ h. h);
  runs_left = canonical_from runs canonical;
  same = λ o le. refl;
}

-- what the first of the runs left says of the next offset
next_decided : (runs : Runs) (parts : Parts) (i : ℕ) (left : Runs) (o : ℤ) → i < length parts → o ≡ offset_at (get_or parts i []) → (so_far : CoveredSoFar runs parts i left) → (so_far.low ≤ℤ o) × (first_holds o o (ending_from o left) ≡ covers runs o)
next_decided runs parts i left o lt is so_far =
    let at : OffsetsRise so_far.low (o ∷ drop (i + 1) (offsets_of parts)) = subst (OffsetsRise so_far.low) (next_offset parts i o lt is) so_far.rise in
    (at.0, offset_decided (pos 0) o left so_far.runs_left ∙ sym (so_far.same o at.0))

pub one_covered : (runs : Runs) (parts : Parts) (i : ℕ) (left : Runs) (o : ℤ) → i < length parts → o ≡ offset_at (get_or parts i []) → first_holds o o (ending_from o left) ≡ true → CoveredSoFar runs parts i left
    → CoveredSoFar runs parts (i + 1) (ending_from o left)
one_covered runs parts i left o lt is holds so_far =
    let next = next_offset parts i o lt is in
    let at : OffsetsRise so_far.low (o ∷ drop (i + 1) (offsets_of parts)) = subst (OffsetsRise so_far.low) next so_far.rise in
    let decided = next_decided runs parts i left o lt is so_far in
    let here : IsTrue (covers runs o) = sym decided.1 ∙ holds in
    record {
      low = o +ℤ pos 1;
      rise = at.1;
      question = (λ h. (subst (AreCovered runs) next (so_far.question.0 h)).1, λ h. so_far.question.1 (subst (AreCovered runs) (sym next) (here, h)));
      runs_left = skipped (pos 0) o left so_far.runs_left;
      same = λ q le. so_far.same q (later so_far.low o q decided.0 le) ∙ ending_same o left q (past o q le);
    }
  where
    later : (low o q : ℤ) → low ≤ℤ o → (o +ℤ pos 1) ≤ℤ q → low ≤ℤ q
    later low o q a b = omega (arith, ints)

    past : (o q : ℤ) → (o +ℤ pos 1) ≤ℤ q → o ≤ℤ q
    past o q a = omega (arith, ints)

pub one_missing : (runs : Runs) (parts : Parts) (i : ℕ) (left : Runs) (o : ℤ) → i < length parts → o ≡ offset_at (get_or parts i []) → first_holds o o (ending_from o left) ≡ false → CoveredSoFar runs parts i left
    → AreCovered runs (offsets_of parts) → ⊥
one_missing runs parts i left o lt is misses so_far all =
    let at : AreCovered runs (o ∷ drop (i + 1) (offsets_of parts)) = subst (AreCovered runs) (next_offset parts i o lt is) (so_far.question.0 all) in
    let decided = next_decided runs parts i left o lt is so_far in
    both (covers runs o) at.0 (sym decided.1 ∙ misses)
  where
    both : (t : Bool) → IsTrue t → t ≡ false → ⊥
    both t p q = cc

pub all_covered : (runs : Runs) (parts : Parts) (i : ℕ) (left : Runs) → length parts ≤ i → CoveredSoFar runs parts i left → AreCovered runs (offsets_of parts)
all_covered runs parts i left le so_far = so_far.question.1 (subst (AreCovered runs) (sym (no_offset parts i le)) tt)

-- ---- all and some of a span

pub all_decided : (runs : Runs) (first last : ℤ) → IsCanonical runs → first ≤ℤ last → IsTrue (first_holds first last (ending_from first runs)) ↔ CoversAll runs first last
all_decided runs first last canonical le =
    let same : has_all runs first last ≡ first_holds first last (ending_from first runs) = skipped_same first runs first last (same_offset first) le ∙ first_decides (pos 0) first last runs (canonical_from runs canonical) le in
    subst (λ (t : Bool). IsTrue t ↔ CoversAll runs first last) same (has_all_is runs first last canonical)

pub covered_within : (low o : ℤ) (runs : Runs) → RunsFrom low runs → covers runs o ≡ true → (low ≤ℤ o) × (o <ℤ pos (2 ^ 62))
covered_within low o [] h e = absurd (no e)
  where
    no : false ≡ true → ⊥
    no e = cc
covered_within low o (run ∷ runs) h e = by (is_within o run) refl (covered_within (run.1 +ℤ pos 2) o runs h.3)
  where
    a : low ≤ℤ run.0
    a = h.0

    b : run.0 ≤ℤ run.1
    b = h.1

    c : run.1 <ℤ pos (2 ^ 62)
    c = h.2

    by : (t : Bool) → is_within o run ≡ t → (covers runs o ≡ true → ((run.1 +ℤ pos 2) ≤ℤ o) × (o <ℤ pos (2 ^ 62))) → (low ≤ℤ o) × (o <ℤ pos (2 ^ 62))
    by true w ih = (grind (arith, ints, a, w), grind (arith, ints, c, w))
    by false w ih =
        let later : covers runs o ≡ true = sym (ap (λ (t : Bool). t || covers runs o) w) ∙ e in
        let rest = ih later in
        let r0 = rest.0 in
        (omega (arith, ints, a, b, r0), rest.1)

-- the first of the runs, if there is one, ends at the offset or later
abbrev FirstEnds : ℤ → Runs → Type 0
FirstEnds o [] = Unit {0}
FirstEnds o (run ∷ runs) = o ≤ℤ run.1

first_ends : (o : ℤ) (runs : Runs) → FirstEnds o (ending_from o runs)
unfolding ending_from
first_ends o [] = tt
first_ends o (run ∷ runs) = by (int_lt run.1 o) refl (first_ends o runs)
  where
    by : (t : Bool) → int_lt run.1 o ≡ t → FirstEnds o (ending_from o runs) → FirstEnds o (if t then ending_from o runs else run ∷ runs)
    by true e ih = ih
    by false e ih = late run.1 e
      where
        late : (z : ℤ) → int_lt z o ≡ false → o ≤ℤ z
        late z e = grind (arith, ints, e)

abbrev AnyIn : Runs → ℤ → ℤ → Type 0
AnyIn runs first last = (o : ℤ) × (first ≤ℤ o) × (o ≤ℤ last) × IsTrue (covers runs o)

starts_meet : (low first last : ℤ) (left : Runs) → RunsFrom low left → FirstEnds first left → first ≤ℤ last → IsTrue (first_starts_by last left) → AnyIn left first last
unfolding first_starts_by
starts_meet low first last [] h ends le starts = absurd (no starts)
  where
    no : IsTrue false → ⊥
    no e = cc
starts_meet low first last (run ∷ runs) h ends le starts =
    let b : run.0 ≤ℤ run.1 = h.1 in
    let e : first ≤ℤ run.1 = ends in
    let s : run.0 ≤ℤ last = by_start run.0 starts in
    let o = int_max first run.0 in
    let w : is_within o run ≡ true = within first run e b in
    (o, omega (arith, ints, clamps), omega (arith, ints, clamps, le, s), ap (λ (t : Bool). t || covers runs o) w)
  where
    by_start : (z : ℤ) → IsTrue (int_le z last) → z ≤ℤ last
    by_start z t = grind (arith, ints, t)

    within : (first : ℤ) (run : ℤ × ℤ) → first ≤ℤ run.1 → run.0 ≤ℤ run.1 → is_within (int_max first run.0) run ≡ true
    within first run p q =
        let a : run.0 ≤ℤ int_max first run.0 = omega (arith, ints, clamps) in
        let b : int_max first run.0 ≤ℤ run.1 = omega (arith, ints, clamps, p, q) in
        grind (arith, ints, a, b)

meets_start : (low first last : ℤ) (left : Runs) → RunsFrom low left → AnyIn left first last → IsTrue (first_starts_by last left)
unfolding first_starts_by
meets_start low first last [] h any = any.3
meets_start low first last (run ∷ runs) h any =
    let inside = covered_within run.0 any.0 (run ∷ runs) (same_offset run.0, h.1, h.2, h.3) any.3 in
    by run.0 any.0 inside.0 any.2
  where
    by : (z o : ℤ) → z ≤ℤ o → o ≤ℤ last → IsTrue (int_le z last)
    by z o p q = grind (arith, ints, p, q)

pub any_decided : (runs : Runs) (first last : ℤ) → IsCanonical runs → first ≤ℤ last → IsTrue (first_starts_by last (ending_from first runs)) ↔ CoversAny runs first last
any_decided runs first last canonical le = (to, from)
  where
    h : RunsFrom (pos 0) (ending_from first runs)
    h = skipped (pos 0) first runs (canonical_from runs canonical)

    to : IsTrue (first_starts_by last (ending_from first runs)) → CoversAny runs first last
    to t =
        let any : AnyIn (ending_from first runs) first last = starts_meet (pos 0) first last (ending_from first runs) h (first_ends first runs) le t in
        (any.0, any.1, any.2, subst IsTrue (sym (ending_same first runs any.0 any.1)) any.3)

    from : CoversAny runs first last → IsTrue (first_starts_by last (ending_from first runs))
    from any = meets_start (pos 0) first last (ending_from first runs) h (any.0, any.1, any.2, subst IsTrue (ending_same first runs any.0 any.1) any.3)

-- ---- as code has it

-- a number as it is passed on
abbrev passed : ℤ → ℤ
passed z = cast_signed w64 (cast_unsigned w64 z)

pub left_is : (o : ℤ) (runs left : Runs) → FitsSigned w64 o → left ≡ ending_from (cast_signed w64 (cast_unsigned w64 o)) runs → left ≡ ending_from o runs
left_is o runs left fits is = is ∙ ap (λ (z : ℤ). ending_from z runs) (to_z-of_z w64 o fits)

pub span_says : (first last : ℤ) (runs left : Runs) (says : Bool) → FitsSigned w64 first → FitsSigned w64 last → left ≡ ending_from (cast_signed w64 (cast_unsigned w64 first)) runs
    → says ≡ first_holds (cast_signed w64 (cast_unsigned w64 first)) (cast_signed w64 (cast_unsigned w64 last)) left → says ≡ first_holds first last (ending_from first runs)
span_says first last runs left says f l is holds =
    holds ∙ (λ i. first_holds (to_z-of_z w64 first f i) (to_z-of_z w64 last l i) (left_is first runs left f is i))

pub covers_says : (o : ℤ) (runs left : Runs) (says : Bool) → IsCanonical runs → FitsSigned w64 o → left ≡ ending_from (cast_signed w64 (cast_unsigned w64 o)) runs
    → says ≡ first_holds (cast_signed w64 (cast_unsigned w64 o)) (cast_signed w64 (cast_unsigned w64 o)) left → says ≡ covers runs o
covers_says o runs left says canonical fits is holds = span_says o o runs left says fits fits is holds ∙ offset_decided (pos 0) o runs (canonical_from runs canonical)

pub all_says : (first last : ℤ) (runs left : Runs) (says : Bool) → IsCanonical runs → first ≤ℤ last → FitsSigned w64 first → FitsSigned w64 last → left ≡ ending_from (cast_signed w64 (cast_unsigned w64 first)) runs
    → says ≡ first_holds (cast_signed w64 (cast_unsigned w64 first)) (cast_signed w64 (cast_unsigned w64 last)) left → IsTrue says ↔ CoversAll runs first last
all_says first last runs left says canonical le f l is holds =
    subst (λ (t : Bool). IsTrue t ↔ CoversAll runs first last) (sym (span_says first last runs left says f l is holds)) (all_decided runs first last canonical le)

pub any_says : (first last : ℤ) (runs left : Runs) (says : Bool) → IsCanonical runs → first ≤ℤ last → FitsSigned w64 first → FitsSigned w64 last → left ≡ ending_from (cast_signed w64 (cast_unsigned w64 first)) runs
    → says ≡ first_starts_by (cast_signed w64 (cast_unsigned w64 last)) left → IsTrue says ↔ CoversAny runs first last
any_says first last runs left says canonical le f l is starts =
    let e : says ≡ first_starts_by last (ending_from first runs) = starts ∙ (λ i. first_starts_by (to_z-of_z w64 last l i) (left_is first runs left f is i)) in
    subst (λ (t : Bool). IsTrue t ↔ CoversAny runs first last) (sym e) (any_decided runs first last canonical le)

pub span_decided : (runs asked : Runs) (b : BatchValue) (first last : ℤ) (all any : Bool) → first ≡ first_offset b → last ≡ last_offset b → FitsSigned w64 first → FitsSigned w64 last
    → (IsTrue all ↔ CoversAll runs (cast_signed w64 (cast_unsigned w64 first)) (cast_signed w64 (cast_unsigned w64 last)))
    → (IsTrue any ↔ CoversAny asked (cast_signed w64 (cast_unsigned w64 first)) (cast_signed w64 (cast_unsigned w64 last))) → all ≡ true
    → IsTrue (not any) ↔ (CoversAll runs (first_offset b) (last_offset b) × ¬ CoversAny asked (first_offset b) (last_offset b))
span_decided runs asked b first last all any base end f l seen meets holds =
    let first_is : passed first ≡ first_offset b = to_z-of_z w64 first f ∙ base in
    let last_is : passed last ≡ last_offset b = to_z-of_z w64 last l ∙ end in
    let all_seen : CoversAll runs (first_offset b) (last_offset b) = subst (λ (z : ℤ). CoversAll runs z (last_offset b)) first_is (subst (CoversAll runs (passed first)) last_is (seen.0 holds)) in
    let met : IsTrue any ↔ CoversAny asked (first_offset b) (last_offset b) = subst (λ (z : ℤ). IsTrue any ↔ CoversAny asked z (last_offset b)) first_is (subst (λ (z : ℤ). IsTrue any ↔ CoversAny asked (passed first) z) last_is meets) in
    (λ t. (all_seen, λ some. clash any t (met.1 some)), λ both. by any refl (λ t. both.1 (met.0 t)))
  where
    clash : (t : Bool) → IsTrue (not t) → IsTrue t → ⊥
    clash t p q = cc

    by : (t : Bool) → any ≡ t → (IsTrue any → ⊥) → IsTrue (not any)
    by true e none = absurd (none e)
    by false e none = ap not e
