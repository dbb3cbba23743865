-- What is left once a reply was sent.
use Rattle.std.proofs.Common.{◌≡◌, ℕ, suc, ◌≤◌, Bool, true, false, cond, not, nat_lt, List, [], ◌∷◌, map, length, refl, sym, ap, subst, ◌∙◌, arith}
use Rattle.std.specs.Prelude.{◌&&◌}
use Rattle.std.specs.List.{filter}
use Rattle.group_coordinator.specs.declared.values.Wait.TheVariants.{No}
use Rattle.group_coordinator.specs.Members.{Member, is_in, is_ready}
use Rattle.group_coordinator.specs.Joining.{waits}
use Rattle.group_coordinator.specs.Groups.{Group}
use Rattle.group_coordinator.specs.Coordinators.{Groups, is_for, sent, sent_group, without_ready}
use Rattle.group_coordinator.specs.Keeping.{AreApart, ArePeopled}
use Rattle.group_coordinator.specs.Doing.{Noted, HasRoom, pending, pending_in}
use Rattle.group_coordinator.proofs.Refusing.{pending_of_change}
use Rattle.group_coordinator.proofs.Lifting.{apart_named, room_forgot}

sent_least : (k : ℕ) (m : Member) → pending (sent k m).wait ≤ pending m.wait
sent_least k m = by (is_in k m.wait && is_ready m.wait) where
  by : (b : Bool) → pending (cond b (waits No m) m).wait ≤ pending m.wait
  by true = omega arith
  by false = omega arith

sent_pending : (k : ℕ) (gs : List Group) → pending_in (map (sent_group k) gs) ≤ pending_in gs
sent_pending k [] = omega arith
sent_pending k (g ∷ gs) = omega (arith, pending_of_change (sent k) (sent_least k) g.members, sent_pending k gs)

sent_names : (k : ℕ) (gs : List Group) → map (λ (g : Group). g.name) (map (sent_group k) gs) ≡ map (λ (g : Group). g.name) gs
sent_names k [] = refl
sent_names k (g ∷ gs) = λ i. g.name ∷ sent_names k gs i

same_long : (k : ℕ) (ms : List Member) → length (map (sent k) ms) ≡ length ms
same_long k [] = refl
same_long k (m ∷ ms) = λ i. suc (same_long k ms i)

sent_peopled : (k : ℕ) (gs : List Group) → ArePeopled gs → ArePeopled (map (sent_group k) gs)
sent_peopled k [] some = tt
sent_peopled k (g ∷ gs) some = (ap (λ (n : ℕ). nat_lt 0 n) (same_long k g.members) ∙ some.0, sent_peopled k gs some.1)

pub sent_both : (k : ℕ) (gs hs : List Group) → hs ≡ map (sent_group k) gs → AreApart gs × ArePeopled gs → AreApart hs × ArePeopled hs
sent_both k gs hs made both = (
  subst AreApart (sym made) (apart_named gs (map (sent_group k) gs) (sent_names k gs) both.0),
  subst ArePeopled (sym made) (sent_peopled k gs both.1),
)

pub sent_room : (k : ℕ) (l j : Noted) (gs hs : List Group) → j ≡ record l { refusals = filter (λ r. not (is_for k r)) l.refusals } → hs ≡ map (sent_group k) gs → HasRoom l (pending_in gs) → HasRoom j (pending_in hs)
sent_room k l j gs hs forgot made room =
    subst (λ (xs : List Group). HasRoom j (pending_in xs)) (sym made) (omega (arith, room_forgot l j k gs forgot room, sent_pending k gs))

pub sent_all : (k : ℕ) (v : Groups) (l j : Noted) (hs : List Group) → l.generations ≡ v.generations → l.refusals ≡ v.refused → j ≡ record l { refusals = filter (λ r. not (is_for k r)) l.refusals } → hs ≡ map (sent_group k) v.groups
    → (record v { groups = hs; generations = j.generations; refused = j.refusals }) ≡ without_ready k v
sent_all k v l j hs numbers refused forgot made = λ i. record v {
  groups = made i;
  generations = (ap (λ (n : Noted). n.generations) forgot ∙ numbers) i;
  refused = (ap (λ (n : Noted). n.refusals) forgot ∙ ap (filter (λ r. not (is_for k r))) refused) i;
}
