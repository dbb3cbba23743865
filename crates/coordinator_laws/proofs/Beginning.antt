-- A generation begins: what it leaves is sound.
use Rattle.std.proofs.Common.{◌≡◌, ℕ, ◌<◌, ◌==◌, Bool, true, false, cond, nat_lt, List, [], ◌∷◌, length, refl, sym, subst, arith}
use Rattle.std.specs.Prelude.{Option, slice_get}
use Rattle.std.specs.List.{list_any}
use Rattle.std.specs.Option.{option_map_or}
use Rattle.std.specs.Str.{bytes_eq}
use Rattle.std.proofs.lemmas.Slice.Eq.{bytes_eq-Decides}
use Rattle.group_coordinator.specs.Members.{Protocol, Member, knows, is_common}
use Rattle.group_coordinator.specs.Groups.{is_numbered, protocols_of, next_leader, common_protocol}
use Rattle.coordinator_laws.specs.Soundness.{AllKnow}
use Rattle.coordinator_laws.proofs.Lists.{all_of, to_all, any_where, found, holds_of_found, position_within, position_passes}

same_number : (n : ℕ) → (n == n) ≡ true
same_number n = grind arith

-- the leader is one of them
pub leads : (l : ℕ) (ms : List Member) → nat_lt 0 (length ms) ≡ true → list_any (is_numbered (next_leader l ms)) ms ≡ true
leads l [] e = absurd (grind (arith, e))
leads l (m ∷ ms) e = by (list_any (is_numbered l) (m ∷ ms)) refl where
  by : (b : Bool) → list_any (is_numbered l) (m ∷ ms) ≡ b → list_any (is_numbered (cond b l m.number)) (m ∷ ms) ≡ true
  by true f = f
  by false f = grind (arith, same_number m.number)

-- a name that all know is one of which all know a protocol that one of them has
common_here : (ms : List Member) (name : List ℕ) → AllKnow name ms → (ps : List Protocol) → knows name ps ≡ true → list_any (λ p. is_common ms p.name) ps ≡ true
common_here ms name all ps k = any_where (λ p. bytes_eq p.name name) (λ p. is_common ms p.name) one ps k where
  one : (p : Protocol) → bytes_eq p.name name ≡ true → is_common ms p.name ≡ true
  one p e = subst (λ (n : List ℕ). is_common ms n ≡ true) (sym ((bytes_eq-Decides p.name name).0 e)) (to_all _ ms all)

pub leader_has : (l : ℕ) (ms : List Member) (name : List ℕ) → AllKnow name ms → list_any (is_numbered l) ms ≡ true
    → list_any (λ p. is_common ms p.name) (protocols_of l ms) ≡ true
leader_has l ms name all led =
    let m = found (is_numbered l) ms led in
    common_here ms name all (protocols_of l ms)
    (subst (λ (r : Option Member). knows name (option_map_or (λ m. m.protocols) r []) ≡ true) (sym m.1)
    (holds_of_found (λ m. knows name m.protocols ≡ true) (is_numbered l) ms m.0 all m.1))

pub chosen_within : (l : ℕ) (ms : List Member) (name : List ℕ) → AllKnow name ms → list_any (is_numbered l) ms ≡ true
    → common_protocol l ms < length (protocols_of l ms)
chosen_within l ms name all led = position_within _ (protocols_of l ms) (leader_has l ms name all led)

pub chosen_known : (l : ℕ) (ms : List Member) → common_protocol l ms < length (protocols_of l ms)
    → AllKnow (option_map_or (λ p. p.name) (slice_get (protocols_of l ms) (common_protocol l ms)) []) ms
chosen_known l ms low =
    let p = position_passes (λ p. is_common ms p.name) (protocols_of l ms) low in
    subst (λ (r : Option Protocol). AllKnow (option_map_or (λ p. p.name) r []) ms) (sym p.1) (all_of _ ms p.2)
