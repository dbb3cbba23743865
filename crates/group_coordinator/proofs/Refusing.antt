-- Refusals, one member after the other, and the room for them.
use Rattle.std.proofs.Common.{◌≡◌, ℕ, ◌+◌, ◌<◌, ◌≤◌, Bool, true, false, cond, not, List, [], ◌∷◌, ◌++◌, map, drop, length, get_or, refl, sym, ap, subst, ◌∙◌, arith, append_assoc, append-nil, length-append}
use Rattle.std.specs.Prelude.{if◌then◌else◌}
use Rattle.std.specs.List.{filter}
use Rattle.std.proofs.lemmas.List.{drop_more}
use Rattle.group_coordinator.specs.declared.values.GroupError.{GroupError}
use Rattle.group_coordinator.specs.declared.values.Refusal.{Refusal}
use Rattle.group_coordinator.specs.declared.values.Wait.{Wait}
use Rattle.group_coordinator.specs.declared.values.Wait.TheVariants.{No, Joins, Syncs, Told, Assigned}
use Rattle.group_coordinator.specs.Joining.{unwaited}
use Rattle.group_coordinator.specs.Members.{Member, is_in, is_ready, is_syncing, refusal_of, refusals_of}
use Rattle.group_coordinator.specs.Groups.{unsynced, begun_member, begun_wait}
use Rattle.group_coordinator.specs.Doing.{Noted, refusing, HasRoom, pending, pending_of}

refusal_length : (e : GroupError) (w : Wait) → length (refusal_of e w) ≡ pending w
refusal_length e No = refl
refusal_length e (Joins k) = refl
refusal_length e (Syncs k) = refl
refusal_length e (Told k) = refl
refusal_length e (Assigned k) = refl

-- what is refused of one member
abbrev pub chosen : GroupError → Bool → Wait → List Refusal
chosen e b w = if b then refusal_of e w else []

chosen_least : (e : GroupError) (b : Bool) (w : Wait) → length (chosen e b w) ≤ pending w
chosen_least e true w = omega (arith, refusal_length e w)
chosen_least e false w = omega arith

split : (e : GroupError) (t : Member → Bool) (m : Member) (rest : List Member) → refusals_of e (filter t (m ∷ rest)) ≡ chosen e (t m) m.wait ++ refusals_of e (filter t rest)
split e t m rest = by (t m) where
  by : (b : Bool) → refusals_of e (cond b (m ∷ filter t rest) (filter t rest)) ≡ chosen e b m.wait ++ refusals_of e (filter t rest)
  by true = refl
  by false = refl

-- one member more, of those that are left
pub refuse_step : (e : GroupError) (t : Member → Bool) (ms : List Member) (i : ℕ) (m : Member) (l k f : Noted) → i < length ms → m ≡ get_or ms i m → k ≡ refusing l (chosen e (t m) m.wait)
    → (f ≡ refusing l (refusals_of e (filter t (drop i ms)))) × HasRoom l (pending_of (drop i ms))
    → (f ≡ refusing k (refusals_of e (filter t (drop (i + 1) ms)))) × HasRoom k (pending_of (drop (i + 1) ms))
refuse_step e t ms i m l k f low is made before = (all, room) where
  rest : List Member
  rest = drop (i + 1) ms

  front : drop i ms ≡ m ∷ rest
  front = drop_more ms i m low ∙ ap (λ x. x ∷ rest) (sym is)

  all : f ≡ refusing k (refusals_of e (filter t rest))
  all = before.0 ∙ (λ j. refusing l (refusals_of e (filter t (front j)))) ∙ (λ j. refusing l (split e t m rest j))
      ∙ (λ j. record l { refusals = sym (append_assoc l.refusals (chosen e (t m) m.wait) (refusals_of e (filter t rest))) j })
      ∙ (λ j. refusing (sym made j) (refusals_of e (filter t rest)))

  room : HasRoom k (pending_of rest)
  room = subst (λ (n : Noted). HasRoom n (pending_of rest)) (sym made)
      (omega (arith, length-append l.refusals (chosen e (t m) m.wait), chosen_least e (t m) m.wait, subst (λ (xs : List Member). HasRoom l (pending_of xs)) front before.1))

-- the room for one of those that are left
pub room_for : (ms : List Member) (i : ℕ) (m : Member) (l : Noted) → i < length ms → m ≡ get_or ms i m → HasRoom l (pending_of (drop i ms)) → HasRoom l (pending m.wait)
room_for ms i m l low is room =
    let front : drop i ms ≡ m ∷ drop (i + 1) ms = drop_more ms i m low ∙ ap (λ x. x ∷ drop (i + 1) ms) (sym is) in
    let both : HasRoom l (pending m.wait + pending_of (drop (i + 1) ms)) = subst (λ (xs : List Member). HasRoom l (pending_of xs)) front room in
    omega (arith, both)

-- all were looked at
pub refuse_last : (e : GroupError) (t : Member → Bool) (rest : List Member) (k f : Noted) → rest ≡ [] → f ≡ refusing k (refusals_of e (filter t rest)) → k ≡ f
refuse_last e t rest k f none all = sym (all ∙ (λ j. refusing k (refusals_of e (filter t (none j)))) ∙ (λ j. record k { refusals = append-nil k.refusals j }))

-- ---- whoever is refused waits no more

pub refused_length : (e : GroupError) (ms : List Member) → length (refusals_of e ms) ≡ pending_of ms
refused_length e [] = refl
refused_length e (m ∷ ms) = omega (arith, length-append (refusal_of e m.wait) (refusals_of e ms), refusal_length e m.wait, refused_length e ms)

-- members that are dropped, and those that are left
pub room_of_drop : (e : GroupError) (t : Member → Bool) (ms : List Member) → length (refusals_of e (filter t ms)) + pending_of (filter (λ m. not (t m)) ms) ≤ pending_of ms
room_of_drop e t [] = omega arith
room_of_drop e t (m ∷ ms) = by (t m) (room_of_drop e t ms) where
  by : (b : Bool) → length (refusals_of e (filter t ms)) + pending_of (filter (λ m. not (t m)) ms) ≤ pending_of ms
      → length (refusals_of e (cond b (m ∷ filter t ms) (filter t ms))) + pending_of (cond (not b) (m ∷ filter (λ m. not (t m)) ms) (filter (λ m. not (t m)) ms)) ≤ pending m.wait + pending_of ms
  by true r = omega (arith, length-append (refusal_of e m.wait) (refusals_of e (filter t ms)), refusal_length e m.wait, r)
  by false r = omega (arith, r)

-- members that change, where whoever is refused waits no more, and nobody else waits who didn't
pub room_of_change : (e : GroupError) (t : Member → Bool) (f : Member → Member) → ((m : Member) → length (chosen e (t m) m.wait) + pending (f m).wait ≤ pending m.wait) → (ms : List Member)
    → length (refusals_of e (filter t ms)) + pending_of (map f ms) ≤ pending_of ms
room_of_change e t f each [] = omega arith
room_of_change e t f each (m ∷ ms) =
    omega (arith, ap length (split e t m ms), length-append (chosen e (t m) m.wait) (refusals_of e (filter t ms)), each m, room_of_change e t f each ms)

-- members that change, of whom nobody waits who didn't
pub pending_of_change : (f : Member → Member) → ((m : Member) → pending (f m).wait ≤ pending m.wait) → (ms : List Member) → pending_of (map f ms) ≤ pending_of ms
pending_of_change f each [] = omega arith
pending_of_change f each (m ∷ ms) = omega (arith, each m, pending_of_change f each ms)

pub unsynced_least : (e : GroupError) (now : ℕ) (m : Member) → length (chosen e (is_syncing m.wait) m.wait) + pending (unsynced now m).wait ≤ pending m.wait
unsynced_least e now m = by m.wait where
  by : (w : Wait) → length (chosen e (is_syncing w) w) + pending (unsynced now (record m { wait = w })).wait ≤ pending w
  by No = omega arith
  by (Joins k) = omega arith
  by (Syncs k) = omega arith
  by (Told k) = omega arith
  by (Assigned k) = omega arith

pub begun_least : (now : ℕ) (m : Member) → pending (begun_member now m).wait ≤ pending m.wait
begun_least now m = by m.wait where
  by : (w : Wait) → pending (begun_wait w) ≤ pending w
  by No = omega arith
  by (Joins k) = omega arith
  by (Syncs k) = omega arith
  by (Told k) = omega arith
  by (Assigned k) = omega arith

pub pending_of_filter : (t : Member → Bool) (ms : List Member) → pending_of (filter t ms) ≤ pending_of ms
pending_of_filter t [] = omega arith
pending_of_filter t (m ∷ ms) = by (t m) (pending_of_filter t ms) where
  by : (b : Bool) → pending_of (filter t ms) ≤ pending_of ms → pending_of (cond b (m ∷ filter t ms) (filter t ms)) ≤ pending m.wait + pending_of ms
  by true r = omega (arith, r)
  by false r = omega (arith, r)

pub unwaited_least : (now k : ℕ) (m : Member) → pending (unwaited now k m).wait ≤ pending m.wait
unwaited_least now k m = by (is_in k m.wait) where
  by : (b : Bool) → pending (cond b (record m { wait = No; until = if is_ready m.wait then m.until else now + m.session }) m).wait ≤ pending m.wait
  by true = omega arith
  by false = omega arith
