-- Nothing becomes due before one of the times at which something may.
use Rattle.std.proofs.Common.{◌≡◌, ℕ, zero, suc, ◌+◌, ◌<◌, ◌≤◌, ◌^◌, Bool, true, false, cond, ◌&&◌, ◌||◌, nat_le, nat_lt, List, [], ◌∷◌, ◌++◌, map, drop, refl, sym, subst, ◌∙◌, arith}
use Rattle.std.specs.Prelude.{pos, int_lt, Option, Some, None, IfSome}
use Rattle.std.specs.List.{AllByRecursion, flat_map}
use Rattle.std.specs.Option.{option_or, option_and_then}
use Rattle.std.proofs.lemmas.List.Concat.{flat_map-cons}
use Rattle.cleaning_policy.specs.declared.values.Mark.{Mark}
use Rattle.cleaning_policy.specs.declared.values.Pass.{Pass}
use Rattle.cleaning_policy.specs.declared.values.Sample.{Sample}
use Rattle.cleaning_policy.specs.declared.values.Settings.{Settings}
use Rattle.cleaning_policy.specs.Samples.{old_sample}
use Rattle.cleaning_policy.specs.Marking.{is_ripe, upto_of, tomb_bound}
use Rattle.cleaning_policy.specs.Partitions.{Part, dirty_bytes, is_dirty, due_pass}
use Rattle.cleaning_policy.specs.Policies.{Known, first_pass, next_pass, ripe_at, moments, sooner, soonest, due_at}

-- a time lies behind neither of two, or behind both
abbrev Same : (now t : ℕ) → ℕ → Type 0
Same now t m = nat_le m now ≡ nat_le m t

-- ---- the soonest of some times

far_none : (now t m : ℕ) → now ≤ t → t < 2 ^ 64 → IfSome (sooner now None m) (λ d. t < d) → Same now t m
far_none now t m le small h = by (nat_lt now m && nat_lt m (2 ^ 64)) refl h where
  by : (b : Bool) → (nat_lt now m && nat_lt m (2 ^ 64)) ≡ b → IfSome (cond b (Some m) None) (λ d. t < d) → nat_le m now ≡ nat_le m t
  by true e k = grind (arith, k)
  by false e k = grind (arith, e)

far_some : (now t u m : ℕ) → now ≤ t → IfSome (sooner now (Some u) m) (λ d. t < d) → Same now t m × (t < u)
far_some now t u m le h = by (nat_lt now m && nat_lt m u) refl h where
  by : (b : Bool) → (nat_lt now m && nat_lt m u) ≡ b → IfSome (cond b (Some m) (Some u)) (λ d. t < d) → (nat_le m now ≡ nat_le m t) × (t < u)
  by true e k = (grind (arith, k), grind (arith, e, k))
  by false e k = (grind (arith, e, k), k)

far_one : (now t m : ℕ) (found : Option ℕ) → now ≤ t → t < 2 ^ 64 → IfSome (sooner now found m) (λ d. t < d) → Same now t m × IfSome found (λ d. t < d)
far_one now t m None le small h = (far_none now t m le small h, tt)
far_one now t m (Some u) le small h = far_some now t u m le h

far_all : (now t : ℕ) (found : Option ℕ) (ms : List ℕ) → now ≤ t → t < 2 ^ 64 → IfSome (soonest now found ms) (λ d. t < d)
    → AllByRecursion (Same now t) ms × IfSome found (λ d. t < d)
far_all now t found [] le small h = (tt, h)
far_all now t found (m ∷ ms) le small h =
    let rest = far_all now t (sooner now found m) ms le small h in
    let here = far_one now t m found le small rest.1 in
    ((here.0, rest.0), here.1)

-- ---- the times of each partition

all_parts : {X : Type 0} (P : X → Type 0) (xs ys : List X) → AllByRecursion P (xs ++ ys) → AllByRecursion P xs × AllByRecursion P ys
all_parts P [] ys a = (tt, a)
all_parts P (x ∷ xs) ys a =
    let rest = all_parts P xs ys a.1 in
    ((a.0, rest.0), rest.1)

abbrev AreSame : Settings → (now t : ℕ) → Part → Type 0
AreSame o now t p = AllByRecursion (Same now t) (moments o p)

each_part : (o : Settings) (now t : ℕ) (ps : List Part) → AllByRecursion (Same now t) (flat_map (moments o) ps) → AllByRecursion (AreSame o now t) ps
each_part o now t [] a = tt
each_part o now t (p ∷ ps) a =
    let parts = all_parts (Same now t) (moments o p) (flat_map (moments o) ps) (subst (AllByRecursion (Same now t)) (flat_map-cons (moments o) p ps) a) in
    (parts.0, each_part o now t ps parts.1)

each_dropped : {X : Type 0} (P : X → Type 0) (n : ℕ) (xs : List X) → AllByRecursion P xs → AllByRecursion P (drop n xs)
each_dropped P zero xs a = a
each_dropped P (suc n) [] a = tt
each_dropped P (suc n) (x ∷ xs) a = each_dropped P n xs a.1

-- ---- nothing changes

same_old : (lag now t : ℕ) (xs : List Sample) → AllByRecursion (Same now t) (map (λ s. s.time + lag) xs) → old_sample lag now xs ≡ old_sample lag t xs
same_old lag now t [] a = refl
same_old lag now t (x ∷ xs) a =
    let rest = same_old lag now t xs a.1 in
    λ i. cond (a.0 i) (Some x) (rest i)

same_ripe : (keep now t : ℕ) (r : Option Mark) → AllByRecursion (Same now t) (ripe_at keep r) → is_ripe keep now r ≡ is_ripe keep t r
same_ripe keep now t None a = refl
same_ripe keep now t (Some m) a = a.0

same_due : (o : Settings) (now t i : ℕ) (p : Part) → AreSame o now t p → due_pass o now i p ≡ due_pass o t i p
same_due o now t i p a =
    let first = all_parts (Same now t) (ripe_at o.keep_deletes p.marks.newest) _ a.1.1 in
    let second = all_parts (Same now t) (ripe_at o.keep_deletes p.marks.older) _ first.1 in
    let newest = same_ripe o.keep_deletes now t p.marks.newest first.0 in
    let older = same_ripe o.keep_deletes now t p.marks.older second.0 in
    let old = same_old o.lag now t p.samples second.1 in
    let tomb : tomb_bound o.keep_deletes now p.marks ≡ tomb_bound o.keep_deletes t p.marks =
    (λ k. cond (newest k) (upto_of p.marks.newest) (cond (older k) (upto_of p.marks.older) (pos 0))) in
    λ k. option_and_then
    (λ s. cond ((int_lt p.start s.end && a.0 k) && (is_dirty o.percent p s
    || ((a.1.0 k && (nat_lt 0 (dirty_bytes p s) || int_lt p.marks.reached s.end)) || int_lt p.marks.used (tomb k))))
    (Some (record { frame = record { partition = i; upto = s.end; tomb_before = tomb k }; came = s.came })) None)
    (old k)

same_first : (o : Settings) (now t i : ℕ) (ps : List Part) → AllByRecursion (AreSame o now t) ps → first_pass o now i ps ≡ first_pass o t i ps
same_first o now t i [] a = refl
same_first o now t i (p ∷ ps) a =
    let here = same_due o now t i p a.0 in
    let rest = same_first o now t (i + 1) ps a.1 in
    λ k. option_or (here k) (rest k)

same_next : (now t : ℕ) (v : Known) (r : Option Pass) → AllByRecursion (AreSame v.settings now t) v.parts → next_pass now v r ≡ next_pass t v r
same_next now t v (Some q) a = refl
same_next now t v None a =
    let first = same_first v.settings now t v.turn (drop v.turn v.parts) (each_dropped (AreSame v.settings now t) v.turn v.parts a) in
    let second = same_first v.settings now t 0 v.parts a in
    λ k. option_or (first k) (second k)

pub quiet : (v : Known) (now t : ℕ) → next_pass now v v.pass ≡ None → now ≤ t → t < 2 ^ 64 → IfSome (due_at now v) (λ d. t < d) → next_pass t v v.pass ≡ None
quiet v now t none le small far =
    let same = each_part v.settings now t v.parts (far_all now t None (flat_map (moments v.settings) v.parts) le small far).0 in
    sym (same_next now t v v.pass same) ∙ none

-- ---- the soonest lies behind now

later_one : (now : ℕ) (found : Option ℕ) (m : ℕ) → IfSome found (λ d. now < d) → IfSome (sooner now found m) (λ d. now < d)
later_one now None m h = by (nat_lt now m && nat_lt m (2 ^ 64)) refl where
  by : (b : Bool) → (nat_lt now m && nat_lt m (2 ^ 64)) ≡ b → IfSome (cond b (Some m) None) (λ d. now < d)
  by true e = grind (arith, e)
  by false e = tt
later_one now (Some u) m h = by (nat_lt now m && nat_lt m u) refl where
  by : (b : Bool) → (nat_lt now m && nat_lt m u) ≡ b → IfSome (cond b (Some m) (Some u)) (λ d. now < d)
  by true e = grind (arith, e)
  by false e = h

later_all : (now : ℕ) (found : Option ℕ) (ms : List ℕ) → IfSome found (λ d. now < d) → IfSome (soonest now found ms) (λ d. now < d)
later_all now found [] h = h
later_all now found (m ∷ ms) h = later_all now (sooner now found m) ms (later_one now found m h)

pub lies_behind : (v : Known) (now : ℕ) → IfSome (due_at now v) (λ d. now < d)
lies_behind v now = later_all now None (flat_map (moments v.settings) v.parts) tt
