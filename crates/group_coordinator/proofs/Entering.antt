-- A member that enters the group of a name.
use Rattle.std.proofs.Common.{◌≡◌, ℕ, suc, ◌+◌, Bool, true, false, cond, not, nat_lt, List, [], ◌∷◌, ◌++◌, length, get_or, set, slice_set, refl, sym, ◌∙◌, arith}
use Rattle.std.specs.Prelude.{Option, Some, None, OnOk}
use Rattle.std.specs.declared.result.Result.{Result}
use Rattle.std.specs.declared.result.Result.TheVariants.{Ok, Err}
use Rattle.std.specs.List.{find, position, position_or_len}
use Rattle.std.specs.Option.{is_none}
use Rattle.std.specs.Str.{bytes_eq}
use Rattle.std.proofs.lemmas.Option.{none-some}
use Rattle.std.proofs.lemmas.Slice.Eq.{bytes_eq-Decides}
use Rattle.group_coordinator.specs.Members.{Member}
use Rattle.group_coordinator.specs.Groups.{Group, new_group}
use Rattle.group_coordinator.specs.Joining.{with_last}
use Rattle.group_coordinator.specs.Coordinators.{is_named}
use Rattle.group_coordinator.specs.Entering.{opened, Enters}
use Rattle.group_coordinator.proofs.Places.{found_at, not_found, within}
use Rattle.group_coordinator.proofs.Keeping.{at_index}

-- there is one
pub opened_found : (name kind : List ℕ) (gs : List Group) (i : ℕ) → position (is_named name) gs ≡ Some i → opened name kind gs ≡ gs
opened_found name kind gs i e =
    let at = at_index gs i (within (is_named name) gs i e) in
    λ j. cond (is_none (found_at (is_named name) gs i at.0 e at.1 j)) (gs ++ new_group name kind ∷ []) gs

-- there is none
pub opened_none : (name kind : List ℕ) (gs : List Group) → position (is_named name) gs ≡ None → opened name kind gs ≡ gs ++ new_group name kind ∷ []
opened_none name kind gs e = λ j. cond (is_none (not_found (is_named name) gs e j)) (gs ++ new_group name kind ∷ []) gs

pub own_name : (name : List ℕ) → bytes_eq name name ≡ true
own_name name = (bytes_eq-Decides name name).1 refl

-- the new one stands last
last_place : (name : List ℕ) (gs : List Group) (g : Group) → g.name ≡ name → find (is_named name) gs ≡ None → position_or_len (is_named name) (gs ++ g ∷ []) ≡ length gs
last_place name [] g named e = λ j. cond (not (((λ k. bytes_eq (named k) name) ∙ own_name name) j)) 1 0
last_place name (h ∷ gs) g named e = by (is_named name h) e (last_place name gs g named) where
  by : (b : Bool) → cond b (Some h) (find (is_named name) gs) ≡ None → (find (is_named name) gs ≡ None → position_or_len (is_named name) (gs ++ g ∷ []) ≡ length gs)
      → cond (not b) (1 + position_or_len (is_named name) (gs ++ g ∷ [])) 0 ≡ suc (length gs)
  by true e r = absurd (none-some h (sym e))
  by false e r = omega (arith, r e)

longer : (gs : List Group) (g : Group) → length (gs ++ g ∷ []) ≡ suc (length gs)
longer [] g = refl
longer (h ∷ gs) g = λ i. suc (longer gs g i)

pub last_position : (name : List ℕ) (gs : List Group) (g : Group) → g.name ≡ name → find (is_named name) gs ≡ None → position (is_named name) (gs ++ g ∷ []) ≡ Some (length gs)
last_position name gs g named e =
    (λ j. cond (nat_lt (last_place name gs g named e j) (longer gs g j)) (Some (last_place name gs g named e j)) None) ∙ (λ j. cond (low j) (Some (length gs)) None) where
      low : nat_lt (length gs) (suc (length gs)) ≡ true
      low = grind arith

pub last_set : (gs : List Group) (g h : Group) → set (gs ++ g ∷ []) (length gs) h ≡ gs ++ h ∷ []
last_set [] g h = refl
last_set (x ∷ gs) g h = λ i. x ∷ last_set gs g h i

pub last_at : (gs : List Group) (g d : Group) → get_or (gs ++ g ∷ []) (length gs) d ≡ g
last_at [] g d = refl
last_at (x ∷ gs) g d = last_at gs g d

-- it enters one that is there
pub enters_there : (name kind : List ℕ) (m : Member) (gs hs : List Group) (i : ℕ) → position (is_named name) gs ≡ Some i → ((g : Group) → g ≡ get_or gs i g → hs ≡ slice_set gs i (with_last m g)) → Enters name kind m gs hs
enters_there name kind m gs hs i e made =
    (i, (λ j. position (is_named name) (opened_found name kind gs i e j)) ∙ e, λ g at. made g (at ∙ (λ j. get_or (opened_found name kind gs i e j) i g)) ∙ (λ j. slice_set (sym (opened_found name kind gs i e) j) i (with_last m g)))

-- it enters a new one
pub enters_new : (name kind : List ℕ) (m : Member) (gs hs : List Group) → position (is_named name) gs ≡ None → hs ≡ gs ++ with_last m (new_group name kind) ∷ [] → Enters name kind m gs hs
enters_new name kind m gs hs e made =
    let same = opened_none name kind gs e in
    let new : Group = new_group name kind in (
      length gs,
      (λ j. position (is_named name) (same j)) ∙ last_position name gs new refl (not_found (is_named name) gs e),
      λ g at. made ∙ sym (last_set gs new (with_last m new)) ∙ (λ j. slice_set (sym same j) (length gs) (with_last m new))
          ∙ (λ j. slice_set (opened name kind gs) (length gs) (with_last m (sym (at ∙ (λ k. get_or (same k) (length gs) g) ∙ last_at gs new g) j))),
    )

pub on_ok : {T E P Q : Type 0} (r : Result T E) → (P → Q) → OnOk r P → OnOk r Q
on_ok (Ok x) f p = f p
on_ok (Err x) f p = tt

-- where a group stands, by its name as it was read
pub place_as : (x name : List ℕ) (us gs : List Group) (r s : Option ℕ) → x ≡ name → us ≡ gs → r ≡ position (is_named x) us → r ≡ s → position (is_named name) gs ≡ s
place_as x name us gs r s named same found is = (λ i. position (is_named (sym named i)) (sym same i)) ∙ sym found ∙ is
