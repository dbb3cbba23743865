-- The least time, step by step.
use Rattle.std.proofs.Common.{◌≡◌, ℕ, ◌+◌, ◌<◌, Bool, true, false, cond, not, min, List, [], ◌∷◌, ◌++◌, map, drop, length, get_or, refl, sym, ◌∙◌}
use Rattle.std.specs.Prelude.{Option, Some, if◌then◌else◌}
use Rattle.std.specs.List.{filter, flat_map, fold}
use Rattle.std.proofs.lemmas.List.{drop_more}
use Rattle.group_coordinator.specs.Members.{Member}
use Rattle.group_coordinator.specs.Groups.{Group}
use Rattle.group_coordinator.specs.Times.{is_waiting}
use Rattle.group_coordinator.specs.Least.{earlier, earliest, member_times}

one_time : (a : Option ℕ) (m : Member) (rest : List Member) → earliest a (member_times (m ∷ rest)) ≡ earliest (if is_waiting m then a else Some (earlier a m.until)) (member_times rest)
one_time a m rest = by (is_waiting m) where
  by : (b : Bool) → earliest a (map (λ x. x.until) (cond (not b) (m ∷ filter (λ x. not (is_waiting x)) rest) (filter (λ x. not (is_waiting x)) rest)))
      ≡ earliest (cond b a (Some (earlier a m.until))) (member_times rest)
  by true = refl
  by false = refl

-- one member more
pub member_step : (ms : List Member) (i : ℕ) (m : Member) (a b t : Option ℕ) → i < length ms → m ≡ get_or ms i m → b ≡ (if is_waiting m then a else Some (earlier a m.until))
    → earliest a (member_times (drop i ms)) ≡ t → earliest b (member_times (drop (i + 1) ms)) ≡ t
member_step ms i m a b t low is made before =
    (λ j. earliest (made j) (member_times (drop (i + 1) ms))) ∙ sym (one_time a m (drop (i + 1) ms))
    ∙ (λ j. earliest a (member_times (is j ∷ drop (i + 1) ms))) ∙ (λ j. earliest a (member_times (sym (drop_more ms i m low) j))) ∙ before

pub times_more : (a : Option ℕ) (xs ys : List ℕ) → earliest a (xs ++ ys) ≡ earliest (earliest a xs) ys
times_more a [] ys = refl
times_more a (x ∷ xs) ys = times_more (Some (earlier a x)) xs ys

-- one group more, of whichever times
pub group_step : (times : Group → List ℕ) (gs : List Group) (i : ℕ) (g : Group) (a b t : Option ℕ) → i < length gs → g ≡ get_or gs i g → b ≡ earliest a (times g)
    → earliest a (flat_map times (drop i gs)) ≡ t → earliest b (flat_map times (drop (i + 1) gs)) ≡ t
group_step times gs i g a b t low is made before =
    (λ j. earliest (made j) (flat_map times (drop (i + 1) gs))) ∙ sym (times_more a (times g) (flat_map times (drop (i + 1) gs)))
    ∙ (λ j. earliest a (flat_map times (is j ∷ drop (i + 1) gs))) ∙ (λ j. earliest a (flat_map times (sym (drop_more gs i g low) j))) ∙ before

-- a phase, and then the members
pub group_least : (g : Group) (a b r : Option ℕ) (phase : List ℕ) → b ≡ earliest a phase → r ≡ earliest b (member_times g.members) → r ≡ earliest a (phase ++ member_times g.members)
group_least g a b r phase made is = is ∙ (λ j. earliest (made j) (member_times g.members)) ∙ sym (times_more a phase (member_times g.members))

pub some_least : (a : ℕ) (ts : List ℕ) → earliest (Some a) ts ≡ Some (fold min a ts)
some_least a [] = refl
some_least a (t ∷ ts) = some_least (min a t) ts

-- at the end
pub none_left : {X : Type 0} (times : List X → List ℕ) (rest : List X) (a t : Option ℕ) → rest ≡ [] → times [] ≡ [] → earliest a (times rest) ≡ t → a ≡ t
none_left times rest a t none nothing is = (λ j. earliest a (sym nothing j)) ∙ (λ j. earliest a (times (sym none j))) ∙ is
