-- Who left commits nothing.
use Rattle.std.proofs.Common.{◌≡◌, ℕ, ℤ, negsuc, ◌+◌, ◌≤◌, Bool, true, false, cond, List, [], ◌∷◌, ◌++◌, sym, subst, arith, inl, inr}
use Rattle.std.specs.Prelude.{Some, None}
use Rattle.std.specs.List.{find}
use Rattle.std.proofs.lemmas.Option.{none-some, same_Some}
use Rattle.group_coordinator.specs.declared.values.Settings.{Settings}
use Rattle.group_coordinator.specs.Members.{Member, has_id}
use Rattle.group_coordinator.specs.Groups.{Group}
use Rattle.group_coordinator.specs.Coordinators.{Groups, is_named, commit_fault}
use Rattle.group_coordinator.specs.Runs.{Act, behind_all}
use Rattle.coordinator_laws.specs.Ids.{tally, tally_all, IsNobodys, WasGiven}
use Rattle.coordinator_laws.specs.Standing.{IsServed, IsAdmissible}
use Rattle.coordinator_laws.proofs.Admitting.{commit_admitted}
use Rattle.coordinator_laws.proofs.Ids.{stays_gone}
use Rattle.coordinator_laws.proofs.Tallies.{once}

-- who is found is counted
pub counted : {X : Type 0} (t : X → Bool) (xs : List X) (x : X) → find t xs ≡ Some x → 1 ≤ tally t xs
counted t [] x e = absurd (none-some x e)
counted t (y ∷ ys) x e = by (t y) e (counted t ys x) where
  by : (b : Bool) → cond b (Some y) (find t ys) ≡ Some x → (find t ys ≡ Some x → 1 ≤ tally t ys) → 1 ≤ once b + tally t ys
  by true e r = omega arith
  by false e r = omega (arith, r e)

counted_all : (t : Member → Bool) (u : Group → Bool) (gs : List Group) (g : Group) → find u gs ≡ Some g → 1 ≤ tally t g.members → 1 ≤ tally_all t gs
counted_all t u [] g e one = absurd (none-some g e)
counted_all t u (h ∷ hs) g e one = by (u h) e (counted_all t u hs g) where
  by : (b : Bool) → cond b (Some h) (find u hs) ≡ Some g → (find u hs ≡ Some g → 1 ≤ tally t g.members → 1 ≤ tally_all t hs) → 1 ≤ tally t h.members + tally_all t hs
  by true e r = omega (arith, subst (λ (x : Group). 1 ≤ tally t x.members) (sym (same_Some h g e)) one)
  by false e r = omega (arith, r e one)

pub gone_commits : (o : Settings) (id : List ℕ) (later before : List Act) (name : List ℕ) (generation : ℤ) → WasGiven id (behind_all o before) → IsNobodys id (behind_all o before)
    → IsServed (behind_all o (later ++ before)) name → commit_fault name generation id (behind_all o (later ++ before)) ≡ None → generation ≡ negsuc 0
gone_commits o id later before name generation given none served e = by (commit_admitted name generation id v served e) where
  v : Groups
  v = behind_all o (later ++ before)

  by : IsAdmissible v name generation id → generation ≡ negsuc 0
  by (inl x) = x.0
  by (inr c) = absurd (omega (
    arith,
    stays_gone o id later before given none,
    counted_all (has_id id) (is_named name) v.groups c.one.group c.one.has_group (counted (has_id id) c.one.group.members c.one.member c.one.has_member),
  ))
