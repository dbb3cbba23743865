-- The index of an offset among maximal runs, and whether they cover it.
use Rattle.std.proofs.Common.{◌≡◌, ℕ, ◌+◌, ◌-◌, ◌<◌, ◌≤◌, Bool, true, false, ◌||◌, length, get_or, take, refl, sym, ap, ◌∙◌, subst, ◌⊎◌, inl, inr, arith, w64, to_z, of_z, Result, Ok, Err, OnOk}
use Rattle.std.specs.Prelude.{ℤ, pos, ◌+ℤ◌, ◌-ℤ◌, ◌<ℤ◌, ◌≤ℤ◌, int_le, int_lt, IsTrue, MatchBool, ◌↔◌}
use Rattle.std.specs.List.{All, AllWithin, Any}
use Rattle.std.specs.List.Sorted.{IsPartitionedBy, IsPartitionPoint}
use Rattle.std.proofs.lemmas.Int.{ints, by_lt_z}
use Rattle.std.proofs.lemmas.Bool.{cases_lt}
use Rattle.std.proofs.lemmas.List.{get_or_default, get_or-take, take_more, length-take, length-take-le}
use Rattle.std.proofs.Math.Seq.{take-length}
use Rattle.std.proofs.lemmas.List.Elements.{All-push}
use Rattle.std.proofs.lemmas.List.Quantifiers.{all_pairs_push}
use Rattle.std.proofs.lemmas.List.Folds.{list_any_none, list_any_at, list_any_more}
use Rattle.cover_ranges.specs.declared.TheConstants.{OFFSETS_END}
use Rattle.cover_ranges.specs.Runs.{Runs, is_within, covers, IsRun, IsApart, IsCanonical}
use Rattle.cover_ranges.specs.Index.{IsIndexOf, StartsBy, StartsPast}
use Rattle.cover_ranges.specs.Refusal.{HasFault, IsFirstFault, IsRefusal}
use Rattle.cover_ranges.specs.declared.error.CoverError.{CoverError}
use Rattle.cover_ranges.specs.declared.error.CoverError.TheVariants.{EmptyRange, NotRising, OutOfBounds, OutOfMemory}

-- ---- one run

pub in_run : (o : ℤ) (r : ℤ × ℤ) → r.0 ≤ℤ o → o ≤ℤ r.1 → is_within o r ≡ true
in_run o r p q = grind (arith, ints)

pub past_run : (o : ℤ) (r : ℤ × ℤ) → r.1 <ℤ o → is_within o r ≡ false
past_run o r p = grind (arith, ints)

pub before_run : (o : ℤ) (r : ℤ × ℤ) → o <ℤ r.0 → is_within o r ≡ false
before_run o r p = grind (arith, ints)

pub run_bounds : (o : ℤ) (r : ℤ × ℤ) → is_within o r ≡ true → (r.0 ≤ℤ o) × (o ≤ℤ r.1)
run_bounds o r h = (grind (arith, ints), grind (arith, ints))

-- ---- the order of runs

after_run : (a b : ℤ × ℤ) → IsRun a → IsRun b → IsApart a b → (a.0 <ℤ b.0) × ((a.1 +ℤ pos 1) <ℤ b.0) × (a.1 <ℤ b.1)
after_run a b ra rb h = (omega (arith, ints), h, omega (arith, ints))

pub earlier : (rs : Runs) (i j : ℕ) (d : ℤ × ℤ) → IsCanonical rs → i < j → j < length rs
    → ((get_or rs i d).0 <ℤ (get_or rs j d).0) × (((get_or rs i d).1 +ℤ pos 1) <ℤ (get_or rs j d).0) × ((get_or rs i d).1 <ℤ (get_or rs j d).1)
earlier rs i j d c lt h =
    let hi : i < length rs = omega arith in
    after_run (get_or rs i d) (get_or rs j d) (c.are_runs i d hi) (c.are_runs j d h) (c.apart i j d lt h)

-- what holds at an index, and rises with the runs after it, holds from it on
from_index : (P : ℤ × ℤ → Type 0) (rs : Runs) (at k : ℕ) (d : ℤ × ℤ) → at ≤ k → P (get_or rs at d) → (at < k → P (get_or rs k d)) → P (get_or rs k d)
from_index P rs at k d le here later =
    elim (cases_lt at k) [ inl lt ↦ later lt | inr ge ↦ (let e : at ≡ k = omega arith in let Q : ℕ → Type 0 = λ i. P (get_or rs i d) in subst Q e here) ]

past_later : (o : ℤ) (a b : ℤ × ℤ) → o <ℤ a.0 → a.0 <ℤ b.0 → o <ℤ b.0
past_later o a b p q = omega (arith, ints)

pub starts_past : (rs : Runs) (at : ℕ) (o : ℤ) → IsCanonical rs → StartsPast o rs at → (k : ℕ) (d : ℤ × ℤ) → at ≤ k → k < length rs → o <ℤ (get_or rs k d).0
starts_past rs at o c past k d le h =
    let ha : at < length rs = omega arith in
    from_index (λ run. o <ℤ run.0) rs at k d le (past ha d) (λ lt. past_later o (get_or rs at d) (get_or rs k d) (past ha d) (earlier rs at k d c lt h).0)

-- ---- covered, and not

pub covers_at : (rs : Runs) (k : ℕ) (d : ℤ × ℤ) (o : ℤ) → k < length rs → (get_or rs k d).0 ≤ℤ o → o ≤ℤ (get_or rs k d).1 → covers rs o ≡ true
covers_at rs k d o h p q = list_any_at (is_within o) rs k d h (in_run o (get_or rs k d) p q)

pub not_covered : (rs : Runs) (at : ℕ) (o : ℤ) → IsCanonical rs → AllWithin (λ run. run.1 <ℤ o) rs 0 at → StartsPast o rs at → covers rs o ≡ false
not_covered rs at o c before past =
    list_any_none (is_within o) rs
    (λ k d h. elim (cases_lt k at) [ inl lt ↦ past_run o (get_or rs k d) (before k d (omega arith) lt) | inr ge ↦ before_run o (get_or rs k d) (starts_past rs at o c past k d ge h) ])

past_by_one : (o : ℤ) (a b : ℤ × ℤ) → IsRun a → IsRun b → (a.1 +ℤ pos 1) <ℤ b.0 → o ≤ℤ (a.1 +ℤ pos 1) → o <ℤ b.0
past_by_one o a b ra rb p q = omega (arith, ints)

ended_before : (a b : ℤ × ℤ) → a.1 <ℤ b.1 → a.1 <ℤ (b.1 +ℤ pos 1)
ended_before a b p = omega (arith, ints)

ended_itself : (a : ℤ × ℤ) → a.1 <ℤ (a.1 +ℤ pos 1)
ended_itself a = omega (arith, ints)

-- the offset after a run is not covered
pub not_covered_after : (rs : Runs) (at : ℕ) (d : ℤ × ℤ) → IsCanonical rs → at < length rs → covers rs ((get_or rs at d).1 +ℤ pos 1) ≡ false
not_covered_after rs at d c h =
    list_any_none (is_within ((get_or rs at d).1 +ℤ pos 1)) rs (λ k e hk.
    rw (get_or_default rs k e d hk)
    (elim (cases_lt at k) [
      | inl lt ↦ before_run ((get_or rs at d).1 +ℤ pos 1) (get_or rs k d) (earlier rs at k d c lt hk).1
      | inr ge ↦ (elim (cases_lt k at) [
        | inl lt ↦ past_run ((get_or rs at d).1 +ℤ pos 1) (get_or rs k d) (ended_before (get_or rs k d) (get_or rs at d) (earlier rs k at d c lt h).2)
        | inr ge2 ↦ (let e2 : at ≡ k = omega arith in let Q : ℕ → Type 0 = λ i. is_within ((get_or rs at d).1 +ℤ pos 1) (get_or rs i d) ≡ false in subst Q e2 (past_run ((get_or rs at d).1 +ℤ pos 1) (get_or rs at d) (ended_itself (get_or rs at d))))
      ])
    ]))

-- ---- the index of an offset

int_lt_true : (a b : ℤ) → a <ℤ b → int_lt a b ≡ true
int_lt_true a b h = grind (arith, ints)

true_int_lt : (a b : ℤ) → int_lt a b ≡ true → a <ℤ b
true_int_lt a b h = grind (arith, ints)

false_int_lt : (a b : ℤ) → int_lt a b ≡ false → b ≤ℤ a
false_int_lt a b h = grind (arith, ints)

lower_passes : (o : ℤ) (a b : ℤ × ℤ) → a.1 <ℤ b.1 → int_lt b.1 o ≡ true → int_lt a.1 o ≡ true
lower_passes o a b p q = grind (arith, ints)

pub is_partitioned : (rs : Runs) (o : ℤ) → IsCanonical rs → IsPartitionedBy (λ run. int_lt run.1 o) rs
is_partitioned rs o c i j d le h p =
    elim (cases_lt i j) [
      | inl lt ↦ lower_passes o (get_or rs i d) (get_or rs j d) (earlier rs i j d c lt h).2 p
      | inr ge ↦ (let e : j ≡ i = omega arith in let Q : ℕ → Type 0 = λ n. int_lt (get_or rs n d).1 o ≡ true in subst Q e p)
    ]

pub index_found : (rs : Runs) (o : ℤ) (at : ℕ) → at ≤ length rs → IsPartitionPoint (λ run. int_lt run.1 o ≡ true) (λ run. int_lt run.1 o ≡ false) rs at → IsIndexOf o rs at
index_found rs o at le point = record {
  within = le;
  before = λ k d lo hi. true_int_lt (get_or rs k d).1 o (point.0 k d lo hi);
  reached = λ h d. false_int_lt (get_or rs at d).1 o (point.1 at d (omega arith) h);
}

below_end : (o : ℤ) (a b : ℤ × ℤ) → b.1 <ℤ o → a.1 <ℤ b.1 → a.1 <ℤ o
below_end o a b p q = omega (arith, ints)

pub index_at_end : (rs : Runs) (o : ℤ) (d : ℤ × ℤ) → IsCanonical rs → 0 < length rs → (get_or rs (length rs - 1) d).1 <ℤ o → IsIndexOf o rs (length rs)
index_at_end rs o d c some h = record {
  within = omega arith;
  before = λ k e lo hi. let hk : k < length rs = hi in rw (get_or_default rs k e d hk)
      (elim (cases_lt k (length rs - 1)) [
        | inl lt ↦ below_end o (get_or rs k d) (get_or rs (length rs - 1) d) h (earlier rs k (length rs - 1) d c lt (omega arith)).2
        | inr ge ↦ (let e2 : length rs - 1 ≡ k = omega arith in let Q : ℕ → Type 0 = λ i. (get_or rs i d).1 <ℤ o in subst Q e2 h)
      ]);
  reached = λ no e. absurd (omega arith);
}

below_start : (o : ℤ) (a b : ℤ × ℤ) → (b.0 -ℤ pos 1) ≤ℤ o → (a.1 +ℤ pos 1) <ℤ b.0 → a.1 <ℤ o
below_start o a b p q = omega (arith, ints)

pub index_at_last : (rs : Runs) (o : ℤ) (d : ℤ × ℤ) → IsCanonical rs → 0 < length rs → o ≤ℤ (get_or rs (length rs - 1) d).1 → ((get_or rs (length rs - 1) d).0 -ℤ pos 1) ≤ℤ o → IsIndexOf o rs (length rs - 1)
index_at_last rs o d c some reaches starts = record {
  within = omega arith;
  before = λ k e lo hi. let hk : k < length rs = omega arith in rw (get_or_default rs k e d hk)
      (below_start o (get_or rs k d) (get_or rs (length rs - 1) d) starts (earlier rs k (length rs - 1) d c hi (omega arith)).1);
  reached = λ h e. rw (get_or_default rs (length rs - 1) e d h) reaches;
}

reached_then_past : (o : ℤ) (a b : ℤ × ℤ) → o ≤ℤ a.1 → (a.1 +ℤ pos 1) <ℤ b.0 → o <ℤ b.0
reached_then_past o a b p q = omega (arith, ints)

-- the runs behind the index of an offset start past it
pub past_index : (rs : Runs) (o : ℤ) (at : ℕ) → IsCanonical rs → IsIndexOf o rs at → (k : ℕ) (d : ℤ × ℤ) → at < k → k < length rs → o <ℤ (get_or rs k d).0
past_index rs o at c index k d lt h =
    let ha : at < length rs = omega arith in
    reached_then_past o (get_or rs at d) (get_or rs k d) (index.reached ha d) (earlier rs at k d c lt h).1

-- ---- answers about the set

pub contains_says : (rs : Runs) (o : ℤ) (at : ℕ) (r : Bool) → IsCanonical rs → IsIndexOf o rs at → MatchBool r (StartsBy o rs at) (StartsPast o rs at) → r ≡ covers rs o
contains_says rs o at true c index m = sym (covers_at rs at (pos 0, pos 0) o m.0 (m.1 (pos 0, pos 0)) (index.reached m.0 (pos 0, pos 0)))
contains_says rs o at false c index m = sym (not_covered rs at o c index.before m)

true_to_IsTrue : (b : Bool) → b ≡ true → IsTrue b
true_to_IsTrue b e = e

pub false_is_not_true : IsTrue false → ⊥
false_is_not_true h = cc

pub not_IsTrue : (b : Bool) → b ≡ false → IsTrue b → ⊥
not_IsTrue b e h = cc

no_bound : (first last : ℤ) (o : ℤ) → last <ℤ first → first ≤ℤ o → o ≤ℤ last → ⊥
no_bound first last o h p q = omega (arith, ints)

refl_z : (a : ℤ) → a ≤ℤ a
refl_z a = omega (arith, ints)

trans_z : (a b c : ℤ) → a ≤ℤ b → b ≤ℤ c → a ≤ℤ c
trans_z a b c p q = omega (arith, ints)

le_true : (a b : ℤ) → IsTrue (int_le a b) → a ≤ℤ b
le_true a b h = grind (arith, ints)

true_le : (a b : ℤ) → a ≤ℤ b → IsTrue (int_le a b)
true_le a b h = grind (arith, ints)

le_true_at : (a b c d : ℤ) → a ≡ c → b ≡ d → IsTrue (int_le a b) → c ≤ℤ d
le_true_at a b c d e f h = grind (arith, ints)

true_le_at : (a b c d : ℤ) → a ≡ c → b ≡ d → c ≤ℤ d → IsTrue (int_le a b)
true_le_at a b c d e f h = grind (arith, ints)

next_within : (first last : ℤ) (r : ℤ × ℤ) → first ≤ℤ r.1 → r.1 <ℤ last → (first ≤ℤ (r.1 +ℤ pos 1)) × ((r.1 +ℤ pos 1) ≤ℤ last)
next_within first last r p q = (omega (arith, ints), omega (arith, ints))

-- the first offset itself is missing
pub missing_first : (rs : Runs) (first last : ℤ) (at : ℕ) → IsCanonical rs → IsIndexOf first rs at → first ≤ℤ last → StartsPast first rs at
    → ((o : ℤ) → first ≤ℤ o → o ≤ℤ last → IsTrue (covers rs o)) → ⊥
missing_first rs first last at c index some past all = not_IsTrue (covers rs first) (not_covered rs at first c index.before past) (all first (refl_z first) some)

-- the run at the index of the first offset decides
pub all_says : (rs : Runs) (first last : ℤ) (at : ℕ) (d : ℤ × ℤ) (l e : ℤ) → l ≡ last → e ≡ (get_or rs at d).1 → IsCanonical rs → IsIndexOf first rs at → first ≤ℤ last → StartsBy first rs at
    → (IsTrue (int_le l e) → (o : ℤ) → first ≤ℤ o → o ≤ℤ last → IsTrue (covers rs o))
    × (((o : ℤ) → first ≤ℤ o → o ≤ℤ last → IsTrue (covers rs o)) → IsTrue (int_le l e))
all_says rs first last at d l e same_l same_e c index some by =
    let run : ℤ × ℤ = get_or rs at d in (
      (λ yes o p q. true_to_IsTrue (covers rs o) (covers_at rs at d o by.0 (trans_z run.0 first o (by.1 d) p) (trans_z o last run.1 q (le_true_at l e last run.1 same_l same_e yes)))),
      (λ all. true_le_at l e last run.1 same_l same_e (by_lt_z run.1 last
          (λ lt. let n : (first ≤ℤ (run.1 +ℤ pos 1)) × ((run.1 +ℤ pos 1) ≤ℤ last) = next_within first last run (index.reached by.0 d) lt in
          absurd (not_IsTrue (covers rs (run.1 +ℤ pos 1)) (not_covered_after rs at d c by.0) (all (run.1 +ℤ pos 1) n.0 n.1)))
          (λ le. le))),
    )

below_first : (first o : ℤ) (r : ℤ × ℤ) → r.1 <ℤ first → first ≤ℤ o → r.1 <ℤ o
below_first first o r p q = omega (arith, ints)

past_last : (o last : ℤ) (r : ℤ × ℤ) → o ≤ℤ last → last <ℤ r.0 → o <ℤ r.0
past_last o last r p q = omega (arith, ints)

lt_le : (a b : ℤ) → a <ℤ b → a ≤ℤ b
lt_le a b h = omega (arith, ints)

some_offset : (first last : ℤ) (r : ℤ × ℤ) → IsRun r → first ≤ℤ last → first ≤ℤ r.1 → r.0 ≤ℤ last
    → (o : ℤ) × (first ≤ℤ o) × (o ≤ℤ last) × (r.0 ≤ℤ o) × (o ≤ℤ r.1)
some_offset first last r run some ends starts =
    by_lt_z r.0 first (λ lt. (first, refl_z first, some, lt_le r.0 first lt, ends)) (λ le. (r.0, le, starts, refl_z r.0, run.1))

pub any_says : (rs : Runs) (first last : ℤ) (at : ℕ) (r : Bool) → IsCanonical rs → IsIndexOf first rs at → first ≤ℤ last → MatchBool r (StartsBy last rs at) (StartsPast last rs at)
    → (IsTrue r → (o : ℤ) × (first ≤ℤ o) × (o ≤ℤ last) × IsTrue (covers rs o)) × ((o : ℤ) × (first ≤ℤ o) × (o ≤ℤ last) × IsTrue (covers rs o) → IsTrue r)
any_says rs first last at true c index some m =
    let d : ℤ × ℤ = (pos 0, pos 0) in
    let w : (o : ℤ) × (first ≤ℤ o) × (o ≤ℤ last) × ((get_or rs at d).0 ≤ℤ o) × (o ≤ℤ (get_or rs at d).1) = some_offset first last (get_or rs at d) (c.are_runs at d m.0) some (index.reached m.0 d) (m.1 d) in
    ((λ _. (w.0, w.1, w.2, true_to_IsTrue (covers rs w.0) (covers_at rs at d w.0 m.0 w.3 w.4))), (λ _. refl))
any_says rs first last at false c index some m = (
  (λ never. absurd (false_is_not_true never)),
  (λ w. absurd (not_IsTrue (covers rs w.0) (not_covered rs at w.0 c
      (λ k d lo hi. below_first first w.0 (get_or rs k d) (index.before k d lo hi) w.1)
      (λ h d. past_last w.0 last (get_or rs at d) w.2 (m h d))) w.3)),
)

-- ---- the least offset that is missing

pub gap_missing : (rs : Runs) (at : ℕ) (d : ℤ × ℤ) (gap : ℤ) → gap ≡ (get_or rs at d).1 +ℤ pos 1 → IsCanonical rs → at < length rs → IsTrue (covers rs gap) → ⊥
gap_missing rs at d gap e c h = not_IsTrue (covers rs gap) (ap (covers rs) e ∙ not_covered_after rs at d c h)

up_to_gap : (o end gap : ℤ) → gap ≡ end +ℤ pos 1 → o <ℤ gap → o ≤ℤ end
up_to_gap o end gap e h = omega (arith, ints)

pub gap_least : (rs : Runs) (from : ℤ) (at : ℕ) (d : ℤ × ℤ) (gap : ℤ) → gap ≡ (get_or rs at d).1 +ℤ pos 1 → StartsBy from rs at → (o : ℤ) → from ≤ℤ o → o <ℤ gap → IsTrue (covers rs o)
gap_least rs from at d gap e by o p q = covers_at rs at d o by.0 (trans_z (get_or rs at d).0 from o (by.1 d) p) (up_to_gap o (get_or rs at d).1 gap e q)

pub gap_from_on : (from end : ℤ) → from ≤ℤ end → from ≤ℤ (end +ℤ pos 1)
gap_from_on from end h = omega (arith, ints)

pub from_missing : (rs : Runs) (from : ℤ) (at : ℕ) → IsCanonical rs → IsIndexOf from rs at → StartsPast from rs at → IsTrue (covers rs from) → ⊥
from_missing rs from at c index past = not_IsTrue (covers rs from) (not_covered rs at from c index.before past)

-- ---- one more range

last_there : (rs : Runs) (at : ℕ) → 0 < at → at < length rs → at - 1 < length (take at rs)
last_there rs at some h = let le : at ≤ length rs = omega arith in rw (length-take-le at rs le) (omega arith)

below_last : (rs : Runs) (at k : ℕ) → k < length (take at rs) → k ≤ at - 1
below_last rs at k h = omega (arith, length-take at rs)

false_le : (a b : ℤ) → int_le a b ≡ false → b <ℤ a
false_le a b h = grind (arith, ints)

next_end : (first : ℤ) (a b : ℤ × ℤ) → a.1 <ℤ b.1 → (b.1 +ℤ pos 1) <ℤ first → (a.1 +ℤ pos 1) <ℤ first
next_end first a b p q = omega (arith, ints)

ends_by_last : (rs : Runs) (last : ℕ) (first : ℤ) (d : ℤ × ℤ) → IsCanonical rs → last < length rs → ((get_or rs last d).1 +ℤ pos 1) <ℤ first
    → (k : ℕ) → k ≤ last → ((get_or rs k d).1 +ℤ pos 1) <ℤ first
ends_by_last rs last first d c h end k le =
    elim (cases_lt k last) [
      | inl lt ↦ next_end first (get_or rs k d) (get_or rs last d) (earlier rs k last d c lt h).2 end
      | inr ge ↦ (let e : last ≡ k = omega arith in let Q : ℕ → Type 0 = λ i. ((get_or rs i d).1 +ℤ pos 1) <ℤ first in subst Q e end)
    ]

pub le_same : (a b c d : ℤ) → a ≡ c → b ≡ d → int_le a b ≡ int_le c d
le_same a b c d p q = cc

pub earlier_run : (rs : Runs) (at : ℕ) (d : ℤ × ℤ) → IsCanonical (take at rs) → 0 < at → at < length rs → IsRun (get_or rs (at - 1) d)
earlier_run rs at d c some h =
    let before : at - 1 < at = omega arith in
    rw (← get_or-take at rs (at - 1) d before) (c.are_runs (at - 1) d (last_there rs at some h))

pub index_same : (rs : Runs) (at : ℕ) (a b : ℤ) → a ≡ b → IsIndexOf a rs at → IsIndexOf b rs at
index_same rs at a b e h = let P : ℤ → Type 0 = λ o. IsIndexOf o rs at in subst P e h

pub meets_says : (rs : Runs) (at : ℕ) (first : ℤ) (d : ℤ × ℤ) (r : Bool) → IsCanonical (take at rs) → 0 < at → at < length rs → r ≡ int_le first ((get_or rs (at - 1) d).1 +ℤ pos 1)
    → MatchBool r (Any (λ run. first ≤ℤ (run.1 +ℤ pos 1)) (take at rs)) (All (λ run. (run.1 +ℤ pos 1) <ℤ first) (take at rs))
meets_says rs at first d true c some h e =
    let before : at - 1 < at = omega arith in (
      at - 1,
      get_or rs (at - 1) d,
      last_there rs at some h,
      get_or-take at rs (at - 1) (get_or rs (at - 1) d) before ∙ get_or_default rs (at - 1) (get_or rs (at - 1) d) d (omega arith),
      le_true first ((get_or rs (at - 1) d).1 +ℤ pos 1) (sym e),
    )
meets_says rs at first d false c some h e =
    λ k f hk. rw (get_or_default (take at rs) k f d hk)
    (ends_by_last (take at rs) (at - 1) first d c (last_there rs at some h)
    (let before : at - 1 < at = omega arith in rw (get_or-take at rs (at - 1) d before) (false_le first ((get_or rs (at - 1) d).1 +ℤ pos 1) (sym e)))
    k (below_last rs at k hk))

pub one_more : (rs : Runs) (at : ℕ) (d : ℤ × ℤ) → at < length rs → IsCanonical (take at rs) → All (λ run. (run.1 +ℤ pos 1) <ℤ (get_or rs at d).0) (take at rs) → IsRun (get_or rs at d)
    → IsCanonical (take (at + 1) rs)
one_more rs at d h c apart run =
    rw (take_more rs at d h) record {
      are_runs = All-push IsRun (take at rs) (get_or rs at d) c.are_runs run;
      apart = all_pairs_push IsApart (take at rs) (get_or rs at d) c.apart apart;
    }

-- ---- subsets, a run at a time

-- the runs before i are in the other set, and its runs before at end below the run at i
pub record IsSubsetSoFar (inner outer : Runs) (i at : ℕ) : Type 0 where
  pub within : at ≤ length outer
  pub passed : (d : ℤ × ℤ) → i < length inner → AllWithin (λ run. run.1 <ℤ (get_or inner i d).0) outer 0 at
  pub so_far : (o : ℤ) → covers (take i inner) o ≡ true → covers outer o ≡ true

or_either : (a b : Bool) → (a || b) ≡ true → (a ≡ true) ⊎ (b ≡ true)
or_either true b h = inl refl
or_either false b h = inr h

ends_before_next : (a b r : ℤ × ℤ) → r.1 <ℤ a.0 → a.0 <ℤ b.0 → r.1 <ℤ b.0
ends_before_next a b r p q = omega (arith, ints)

pub subset_step : (inner outer : Runs) (i at : ℕ) (d : ℤ × ℤ) → IsCanonical inner → i < length inner → IsSubsetSoFar inner outer i at → (next : ℕ) → IsIndexOf (get_or inner i d).0 outer next
    → ((o : ℤ) → (get_or inner i d).0 ≤ℤ o → o ≤ℤ (get_or inner i d).1 → IsTrue (covers outer o)) → IsSubsetSoFar inner outer (i + 1) next
subset_step inner outer i at d c h f next index all = record {
  within = index.within;
  passed = λ x hn k e lo hi. rw (get_or_default inner (i + 1) x d hn)
      (ends_before_next (get_or inner i d) (get_or inner (i + 1) d) (get_or outer k e) (index.before k e lo hi) (earlier inner i (i + 1) d c (omega arith) hn).0);
  so_far = λ o yes. elim (or_either (covers (take i inner) o) (is_within o (get_or inner i d)) (sym (list_any_more (is_within o) inner i d h) ∙ yes))
      [ inl old ↦ f.so_far o old | inr new ↦ all o (run_bounds o (get_or inner i d) new).0 (run_bounds o (get_or inner i d) new).1 ];
}

-- a run that is not in the other set shows that the whole is not
pub not_subset : (inner outer : Runs) (i : ℕ) (d : ℤ × ℤ) (r : Bool) → i < length inner → r ≡ false
    → (((o : ℤ) → (get_or inner i d).0 ≤ℤ o → o ≤ℤ (get_or inner i d).1 → IsTrue (covers outer o)) → IsTrue r)
    → ((o : ℤ) → IsTrue (covers inner o) → IsTrue (covers outer o)) → ⊥
not_subset inner outer i d r h e says all = not_IsTrue r e (says (λ o p q. all o (covers_at inner i d o h p q)))

pub subset_at_end : (inner outer : Runs) (at : ℕ) → IsSubsetSoFar inner outer (length inner) at → (o : ℤ) → IsTrue (covers inner o) → IsTrue (covers outer o)
subset_at_end inner outer at f o h = f.so_far o (ap (λ (xs : Runs). covers xs o) (take-length inner) ∙ h)

pub subset_at_start : (inner outer : Runs) → IsSubsetSoFar inner outer 0 0
subset_at_start inner outer = record {
  within = omega arith;
  passed = λ d h k e lo hi. absurd (omega arith);
  so_far = λ o h. absurd (false_is_not_true h);
}

-- ---- unions, a run at a time

or_swap : (x y z : Bool) → ((x || y) || z) ≡ ((x || z) || y)
or_swap true y z = refl
or_swap false true true = refl
or_swap false true false = refl
or_swap false false true = refl
or_swap false false false = refl

same_within : (o x y : ℤ) (r : ℤ × ℤ) → x ≡ r.0 → y ≡ r.1 → is_within o (x, y) ≡ is_within o r
same_within o x y r p q = cc

-- the union with the runs of a before i, and then with the one at i
pub united_more : (a : Runs) (i : ℕ) (d : ℤ × ℤ) (o x y : ℤ) (old new other : Bool) → x ≡ (get_or a i d).0 → y ≡ (get_or a i d).1 → i < length a → old ≡ (covers (take i a) o || other)
    → new ≡ (old || is_within o (x, y)) → new ≡ (covers (take (i + 1) a) o || other)
united_more a i d o x y old new other ex ey h p q =
    q ∙ ap (λ (w : Bool). old || w) (same_within o x y (get_or a i d) ex ey) ∙ ap (λ (x : Bool). x || is_within o (get_or a i d)) p ∙ or_swap (covers (take i a) o) other (is_within o (get_or a i d)) ∙ ap (λ (x : Bool). x || other) (sym (list_any_more (is_within o) a i d h))

pub or_turn : (x y : Bool) → (x || y) ≡ (y || x)
or_turn true true = refl
or_turn true false = refl
or_turn false true = refl
or_turn false false = refl

-- ---- a run that is passed on by value

pub passed_run : (run : ℤ × ℤ) → IsRun run → (pos 0 ≤ℤ to_z w64 (of_z w64 run.0)) × (to_z w64 (of_z w64 run.0) ≤ℤ to_z w64 (of_z w64 run.1)) × (to_z w64 (of_z w64 run.1) <ℤ OFFSETS_END)
passed_run run is = (omega (arith, ints), omega (arith, ints), omega (arith, ints))

pub same_passed : (run : ℤ × ℤ) → IsRun run → (run.0 ≡ to_z w64 (of_z w64 run.0)) × (run.1 ≡ to_z w64 (of_z w64 run.1))
same_passed run is = (omega (arith, ints), omega (arith, ints))

pub held_passed : (runs : Runs) (run : ℤ × ℤ) → IsRun run → (IsTrue true ↔ ((o : ℤ) → to_z w64 (of_z w64 run.0) ≤ℤ o → o ≤ℤ to_z w64 (of_z w64 run.1) → IsTrue (covers runs o)))
    → (o : ℤ) → run.0 ≤ℤ o → o ≤ℤ run.1 → IsTrue (covers runs o)
held_passed runs run is says o low high = says.0 refl o (subst (λ (z : ℤ). z ≤ℤ o) (same_passed run is).0 low) (subst (λ (z : ℤ). o ≤ℤ z) (same_passed run is).1 high)

pub more_end_before : (runs : Runs) (at : ℕ) (offset : ℤ) → at < length runs → (get_or runs at (pos 0, pos 0)).1 <ℤ offset → AllWithin (λ run. run.1 <ℤ offset) runs 0 at → AllWithin (λ run. run.1 <ℤ offset) runs 0 (at + 1)
more_end_before runs at offset there below so_far k d low high =
    elim (cases_lt k at) [
      | inl less ↦ so_far k d low less
      | inr ge ↦ (let same : at ≡ k = omega arith in let Q : ℕ → Type 0 = λ i. (get_or runs i d).1 <ℤ offset in subst Q same (subst (λ (r : ℤ × ℤ). r.1 <ℤ offset) (get_or_default runs at (pos 0, pos 0) d there) below))
    ]

pub fewer_left : (i n : ℕ) → i < n → n - (i + 1) < n - i
fewer_left i n less = omega arith

pub adds_passed : {V E : Type 0} (r : Result V E) (old new : Runs) (run : ℤ × ℤ) → IsRun run
    → OnOk r ((o : ℤ) → covers new o ≡ (covers old o || is_within o (to_z w64 (of_z w64 run.0), to_z w64 (of_z w64 run.1))))
    → OnOk r ((o : ℤ) → covers new o ≡ (covers old o || is_within o run))
adds_passed (Ok v) old new run is adds = λ o. adds o ∙ ap (λ (b : Bool). covers old o || b) (same_within o (to_z w64 (of_z w64 run.0)) (to_z w64 (of_z w64 run.1)) run (omega (arith, ints)) (omega (arith, ints)))
adds_passed (Err e) old new run is adds = tt

-- one range more of one of two lists
pub united_next : (a : Runs) (i : ℕ) (d : ℤ × ℤ) (before after : Runs) (other : ℤ → Bool) → i < length a
    → ((o : ℤ) → covers before o ≡ (covers (take i a) o || other o)) → ((o : ℤ) → covers after o ≡ (covers before o || is_within o (get_or a i d)))
    → (o : ℤ) → covers after o ≡ (covers (take (i + 1) a) o || other o)
united_next a i d before after other there so_far adds o = united_more a i d o (get_or a i d).0 (get_or a i d).1 (covers before o) (covers after o) (other o) refl refl there (so_far o) (adds o)

-- the second list has a range left where the first has none that comes next
pub second_there : (i n j m : ℕ) → (n ≤ i) ⊎ (j < m) → (i < n) ⊎ (j < m) → j < m
second_there i n j m (inr there) some = there
second_there i n j m (inl le) (inr there) = there
second_there i n j m (inl le) (inl less) = omega arith

pub one_within : (i n : ℕ) → i < n → i + 1 ≤ n
one_within i n less = omega arith

pub both_le : (i n : ℕ) → i ≤ n → n ≤ i → i ≡ n
both_le i n le ge = omega arith

pub fewer_first : (i n j m : ℕ) → i < n → (n - (i + 1)) + (m - j) < (n - i) + (m - j)
fewer_first i n j m less = omega arith

pub fewer_second : (i n j m : ℕ) → j < m → (n - i) + (m - (j + 1)) < (n - i) + (m - j)
fewer_second i n j m less = omega arith

-- ---- the first fault

not_both : (a b : ℤ) → a <ℤ b → b ≤ℤ a → ⊥
not_both a b p q = omega (arith, ints)

pub meets_none : (rs : Runs) (first : ℤ) → All (λ run. (run.1 +ℤ pos 1) <ℤ first) rs → Any (λ run. first ≤ℤ (run.1 +ℤ pos 1)) rs → ⊥
meets_none rs first all w =
    not_both (w.1.1 +ℤ pos 1) first (let P : ℤ × ℤ → Type 0 = λ run. (run.1 +ℤ pos 1) <ℤ first in subst P w.3 (all w.0 w.1 w.2)) w.4

-- ---- the faults of a range

none_at : (rs : Runs) (a b : ℤ) → a ≡ b → All (λ run. (run.1 +ℤ pos 1) <ℤ a) rs → All (λ run. (run.1 +ℤ pos 1) <ℤ b) rs
none_at rs a b e h = let P : ℤ → Type 0 = λ first. All (λ run. (run.1 +ℤ pos 1) <ℤ first) rs in subst P e h

pub out_says : (rs : Runs) (at : ℕ) (d e : ℤ × ℤ) (first : ℤ) → at < length rs → (get_or rs at e).0 ≤ℤ (get_or rs at e).1 → All (λ run. (run.1 +ℤ pos 1) <ℤ first) (take at rs) → first ≡ (get_or rs at e).0
    → ((get_or rs at e).0 <ℤ pos 0) ⊎ (OFFSETS_END ≤ℤ (get_or rs at e).1) → HasFault OutOfBounds (take at rs) (get_or rs at d)
out_says rs at d e first h le none same out =
    rw (get_or_default rs at d e h) (le, meets_none (take at rs) (get_or rs at e).0 (none_at (take at rs) first (get_or rs at e).0 same none), out)

-- the first fault is a refusal, and none for lack of memory
pub refusal : (error : CoverError) (rs : Runs) → IsFirstFault error rs → IsRefusal rs error
refusal EmptyRange rs f = f
refusal NotRising rs f = f
refusal OutOfBounds rs f = f
refusal OutOfMemory rs f = absurd (f.3 (pos 0, pos 0))

-- ---- the same sets under other names

pub subset_same : (a b c d : Runs) (r : Bool) → a ≡ c → b ≡ d → (IsTrue r ↔ ((o : ℤ) → IsTrue (covers a o) → IsTrue (covers b o))) → (IsTrue r ↔ ((o : ℤ) → IsTrue (covers c o) → IsTrue (covers d o)))
subset_same a b c d r p q says =
    let P : Runs → Type 0 = λ xs. IsTrue r ↔ ((o : ℤ) → IsTrue (covers xs o) → IsTrue (covers d o)) in
    let Q : Runs → Type 0 = λ ys. IsTrue r ↔ ((o : ℤ) → IsTrue (covers a o) → IsTrue (covers ys o)) in
    subst P p (subst Q q says)
