-- Who leads, and which protocol is followed.
use Rattle.std.proofs.Common.{◌≡◌, ℕ, ◌+◌, Bool, true, false, cond, not, nat_lt, List, [], ◌∷◌, length, get_or, refl, sym, ap, ◌∙◌, arith}
use Rattle.std.specs.Prelude.{Some, None, ◌==◌}
use Rattle.std.specs.List.{list_any, position, position_or_len}
use Rattle.std.specs.Option.{option_map_or}
use Rattle.std.proofs.lemmas.Option.{none-some, same_Some}
use Rattle.group_coordinator.specs.Members.{Protocol, Member, is_common}
use Rattle.group_coordinator.specs.Groups.{is_numbered, next_leader, common_protocol}
use Rattle.group_coordinator.proofs.Places.{found_at, not_found}

pub leads_none : (l : ℕ) (ms : List Member) → (0 == length ms) ≡ true → l ≡ next_leader l ms
leads_none l [] e = refl
leads_none l (m ∷ ms) e = absurd (grind (arith, e))

pub leads_on : (l : ℕ) (ms : List Member) → true ≡ list_any (is_numbered l) ms → l ≡ next_leader l ms
leads_on l [] e = refl
leads_on l (m ∷ ms) e = λ i. cond (e i) l m.number

pub first_leads : (l : ℕ) (ms : List Member) (m : Member) → (0 == length ms) ≡ false → false ≡ list_any (is_numbered l) ms → m ≡ get_or ms 0 m → m.number ≡ next_leader l ms
first_leads l [] m none e is = absurd (grind (arith, none))
first_leads l (x ∷ xs) m none e is = ap (λ (y : Member). y.number) is ∙ (λ i. cond (e i) l x.number)

module _ {X : Type 0} where
  pub place_some : (t : X → Bool) (xs : List X) (i : ℕ) → position t xs ≡ Some i → i ≡ position_or_len t xs
  place_some t xs i e = by (nat_lt (position_or_len t xs) (length xs)) e where
    by : (b : Bool) → cond b (Some (position_or_len t xs)) None ≡ Some i → i ≡ position_or_len t xs
    by true e = sym (same_Some (position_or_len t xs) i e)
    by false e = absurd (none-some i e)

  least : (t : X → Bool) (xs : List X) → nat_lt (length xs) (position_or_len t xs) ≡ false
  least t [] = refl
  least t (x ∷ xs) = by (t x) (least t xs) where
    by : (b : Bool) → nat_lt (length xs) (position_or_len t xs) ≡ false → nat_lt (length (x ∷ xs)) (cond (not b) (1 + position_or_len t xs) 0) ≡ false
    by true r = grind arith
    by false r = grind (arith, r)

  pub place_none : (t : X → Bool) (xs : List X) → position t xs ≡ None → length xs ≡ position_or_len t xs
  place_none t xs e = by (nat_lt (position_or_len t xs) (length xs)) refl e where
    by : (b : Bool) → nat_lt (position_or_len t xs) (length xs) ≡ b → cond b (Some (position_or_len t xs)) None ≡ None → length xs ≡ position_or_len t xs
    by true f e = absurd (none-some (position_or_len t xs) (sym e))
    by false f e = grind (arith, f, least t xs)

-- the protocols of the leader, where it is found
pub common_some : (l : ℕ) (ms : List Member) (i : ℕ) (m : Member) (r : ℕ) → position (is_numbered l) ms ≡ Some i → m ≡ get_or ms i m → r ≡ position_or_len (λ p. is_common ms p.name) m.protocols → r ≡ common_protocol l ms
common_some l ms i m r e is made = made ∙ (λ k. position_or_len (λ p. is_common ms p.name) (option_map_or (λ x. x.protocols) (sym (found_at (is_numbered l) ms i m e is) k) []))

pub common_none : (l : ℕ) (ms : List Member) → position (is_numbered l) ms ≡ None → 0 ≡ common_protocol l ms
common_none l ms e = λ k. position_or_len (λ (p : Protocol). is_common ms p.name) (option_map_or (λ (x : Member). x.protocols) (sym (not_found (is_numbered l) ms e) k) [])
