-- What time does: who waits does so in a phase that isn't over, and before the next time nothing happens.
use Rattle.std.proofs.Common.{◌≡◌, ℕ, ◌+◌, ◌<◌, ◌==◌, min, Bool, true, false, cond, not, ◌&&◌, ◌||◌, nat_lt, nat_le, List, [], ◌∷◌, ◌++◌, map, length, refl, sym, ap, subst, ◌∙◌, arith, true≢false, inl, inr, append-nil}
use Rattle.std.specs.Prelude.{IfSome}
use Rattle.std.specs.List.{AllByRecursion, filter, list_any, flat_map, fold, reduce}
use Rattle.std.proofs.lemmas.List.Concat.{flat_map-cons}
use Rattle.group_coordinator.specs.declared.values.Phase.{Phase}
use Rattle.group_coordinator.specs.declared.values.Phase.TheVariants.{Preparing, Completing, Stable}
use Rattle.group_coordinator.specs.declared.values.Refusal.{Refusal}
use Rattle.group_coordinator.specs.declared.values.Settings.{Settings}
use Rattle.group_coordinator.specs.declared.values.TheConstants.{MOST_GENERATION}
use Rattle.group_coordinator.specs.Members.{Member, is_joining, is_syncing}
use Rattle.group_coordinator.specs.Groups.{Group, Move, Moved, stays, and_then, goes_on, is_leader, is_preparing, prepare, drop_those, begun_member, begin_generation, if_any_left, complete, is_complete, settle, unsynced, joining_time}
use Rattle.group_coordinator.specs.Coordinators.{Groups, kept, move_each}
use Rattle.group_coordinator.specs.Times.{is_overdue, is_waiting, is_silent, expire_group, expire, phase_times, group_times}
use Rattle.coordinator_laws.specs.Soundness.{IsSound, IsSoundIn, AreSound}
use Rattle.coordinator_laws.specs.Waiting.{WaitsIn, IsBeforeNext}
use Rattle.coordinator_laws.proofs.Lists.{by_test, all_map, all_and, all_weaker, all_passes, none_of, filter_all_gone}
use Rattle.coordinator_laws.proofs.Lifting.{each_moved, each_peopled}
use Rattle.coordinator_laws.proofs.Settling.{none_syncs_begun}

-- ---- who waits

abbrev Some_in : Group → Type 0
Some_in g = nat_lt 0 (length g.members) ≡ true

abbrev InTime : ℕ → Group → Type 0
InTime now g = Some_in g → WaitsIn now g g.phase

not_not : (b : Bool) → not (not b) ≡ true → b ≡ true
not_not true e = refl
not_not false e = e

no_members : (now : ℕ) (g : Group) → (0 == length g.members) ≡ true → InTime now g
no_members now g e s = absurd (grind (arith, e, s))

begin_in_time : (now n : ℕ) (g : Group) → AllByRecursion (λ m. is_joining m.wait ≡ true) g.members → InTime now (begin_generation now n g).group
begin_in_time now n g joins = by_test (λ (m : Moved). InTime now m.group) (nat_lt n MOST_GENERATION) _ (drop_those (λ m. true) n g)
    (λ _ s. inr (all_map _ _ (begun_member now) (λ m j. none_syncs_begun m.wait j) g.members joins))
    (λ _. subst (λ (ms : List Member). nat_lt 0 (length ms) ≡ true → WaitsIn now (record g { members = ms }) g.phase) (sym (filter_all_gone (λ m. not true) (λ m. refl) g.members)) (λ s. absurd (true≢false (sym s))))

complete_in_time : (now n : ℕ) (g : Group) → InTime now (complete now n g).group
complete_in_time now n g = on (drop_those (λ m. not (is_joining m.wait)) n g).group
    (all_weaker _ _ (λ m e. not_not (is_joining m.wait) e) _ (all_passes (λ m. not (not (is_joining m.wait))) g.members)) where
      on : (h : Group) → AllByRecursion (λ m. is_joining m.wait ≡ true) h.members → InTime now (if_any_left (begin_generation now) n h).group
      on h joins = by_test (λ (m : Moved). InTime now m.group) (0 == length h.members) (stays n h) (begin_generation now n h) (λ e. no_members now h e) (λ _. begin_in_time now n h joins)

-- a group that isn't complete, of which who waits for the leader does so in time
settled_in_time : (now : ℕ) (g : Group) (p : Phase) → is_complete now g p ≡ false → ((t : ℕ) → p ≡ Completing t → WaitsIn now g (Completing t)) → WaitsIn now g p
settled_in_time now g (Preparing t) e w = grind (arith, e)
settled_in_time now g (Completing t) e w = w t refl
settled_in_time now g Stable e w = tt

settle_in_time : (now n : ℕ) (g : Group) → ((t : ℕ) → g.phase ≡ Completing t → WaitsIn now g (Completing t)) → InTime now (settle now n g).group
settle_in_time now n g w = by_test (λ (m : Moved). InTime now m.group) (is_complete now g g.phase) (complete now n g) (stays n g)
    (λ _. complete_in_time now n g) (λ e s. settled_in_time now g g.phase e w)

not_completing : (p : Phase) (t : ℕ) → is_preparing p ≡ true → p ≡ Completing t → ⊥
not_completing p t e is = true≢false (sym e ∙ ap is_preparing is)

anew_in_time : (o : Settings) (now n : ℕ) (g : Group) → InTime now (and_then (prepare o now) (settle now) n g).group
anew_in_time o now n g = by_test (λ (m : Moved). InTime now (goes_on (settle now) m).group) (is_preparing g.phase) (stays n g) _
    (λ e. settle_in_time now n g (λ t is. absurd (not_completing g.phase t e is)))
    (λ e. settle_in_time now n (record g { phase = Preparing (now + joining_time o g); members = map (unsynced now) g.members })
    (λ t is. absurd (not_completing (Preparing (now + joining_time o g)) t refl is)))

-- in a sound group the leader doesn't wait for itself: where nobody is silent, it isn't overdue
led_in_time : (now : ℕ) (g : Group) (p : Phase) → IsSoundIn g p → AllByRecursion (λ m. (not (is_waiting m) && (nat_le m.until now || is_overdue now p)) ≡ false) g.members
    → (t : ℕ) → p ≡ Completing t → WaitsIn now g (Completing t)
led_in_time now g (Preparing u) s none t is = absurd (not_completing (Preparing u) t refl is)
led_in_time now g Stable s none t is = inr s.1
led_in_time now g (Completing u) s none t is = inl (subst (λ (x : ℕ). now < x) (ap end_of is) (now_before (is_overdue now (Completing u)) refl)) where
  end_of : Phase → ℕ
  end_of (Preparing t) = t
  end_of (Completing t) = t
  end_of Stable = 0

  leading : AllByRecursion (λ m. is_leader g m ≡ true → is_overdue now (Completing u) ≡ false) g.members
  leading = all_and _ _ _ (λ m quiet (l : (is_joining m.wait ≡ false) × ((is_leader g m && is_syncing m.wait) ≡ false)). by (is_leader g m) (is_joining m.wait) (is_syncing m.wait) (nat_le m.until now) (is_overdue now (Completing u)) quiet l.0 l.1) g.members none
      (all_and _ _ _ (λ m a b. (a, b)) g.members s.0.none_joins s.1) where
        by : (l j y x d : Bool) → (not (j || y) && (x || d)) ≡ false → j ≡ false → (l && y) ≡ false → l ≡ true → d ≡ false
        by l j y x d a b c e = grind (arith, a, b, c, e)

  leader : (x : Member) × (is_leader g x ≡ true → is_overdue now (Completing u) ≡ false) × (is_leader g x ≡ true)
  leader = pick g.members s.0.led leading where
    pick : (ms : List Member) → list_any (is_leader g) ms ≡ true → AllByRecursion (λ m. is_leader g m ≡ true → is_overdue now (Completing u) ≡ false) ms
        → (x : Member) × (is_leader g x ≡ true → is_overdue now (Completing u) ≡ false) × (is_leader g x ≡ true)
    pick [] e all = absurd (true≢false (sym e))
    pick (m ∷ ms) e all = by (is_leader g m) refl e (λ f. pick ms f all.1) where
      by : (b : Bool) → is_leader g m ≡ b → (b || list_any (is_leader g) ms) ≡ true
          → (list_any (is_leader g) ms ≡ true → (x : Member) × (is_leader g x ≡ true → is_overdue now (Completing u) ≡ false) × (is_leader g x ≡ true))
          → (x : Member) × (is_leader g x ≡ true → is_overdue now (Completing u) ≡ false) × (is_leader g x ≡ true)
      by true f e r = (m, all.0, f)
      by false f e r = r e

  now_before : (b : Bool) → nat_le u now ≡ b → now < u
  now_before true e = absurd (true≢false (sym e ∙ leader.1 leader.2))
  now_before false e = grind (arith, e)

expire_in_time : (o : Settings) (now n : ℕ) (g : Group) → IsSound g → InTime now (expire_group o now n g).group
expire_in_time o now n g s = by_test (λ (m : Moved). InTime now m.group) (list_any (is_silent now g) g.members)
    (and_then (drop_those (is_silent now g)) (and_then (prepare o now) (settle now)) n g) (settle now n g)
    (λ _. anew_in_time o now n (drop_those (is_silent now g) n g).group)
    (λ e. settle_in_time now n g (led_in_time now g g.phase s.in_phase (none_of (is_silent now g) g.members e)))

pub waits_in_time : (v : Groups) → AreSound v → AllByRecursion (λ g. WaitsIn v.now g g.phase) (expire v).groups
waits_in_time v s = all_and _ _ _ (λ g w some. w some) _
    (each_moved IsSound (InTime v.now) (expire_group v.settings v.now) (λ n g x. expire_in_time v.settings v.now n g x) v.generations v.groups s.each)
    (each_peopled (expire_group v.settings v.now) v.generations v.groups)

-- ---- before the next time

later_than : (now a : ℕ) (xs : List ℕ) → now < fold min a xs → (now < a) × AllByRecursion (λ x. now < x) xs
later_than now a [] l = (l, tt)
later_than now a (x ∷ xs) l = let rest = later_than now (min a x) xs l in (omega (arith, rest.0), (omega (arith, rest.0), rest.1))

all_later : (now : ℕ) (xs : List ℕ) → IfSome (reduce min xs) (λ t. now < t) → AllByRecursion (λ x. now < x) xs
all_later now [] l = tt
all_later now (x ∷ xs) l = later_than now x xs l

front : (P : ℕ → Type 0) (xs ys : List ℕ) → AllByRecursion P (xs ++ ys) → AllByRecursion P xs × AllByRecursion P ys
front P [] ys a = (tt, a)
front P (x ∷ xs) ys a = let rest = front P xs ys a.1 in ((a.0, rest.0), rest.1)

each_later : (now : ℕ) (gs : List Group) → AllByRecursion (λ x. now < x) (flat_map group_times gs) → AllByRecursion (λ g. AllByRecursion (λ x. now < x) (group_times g)) gs
each_later now [] a = tt
each_later now (g ∷ gs) a =
    let two = front (λ x. now < x) (group_times g) (flat_map group_times gs) (subst (λ (xs : List ℕ). AllByRecursion (λ x. now < x) xs) (flat_map-cons group_times g gs) a) in
    (two.0, each_later now gs two.1)

-- who doesn't wait is thought alive until later
alive : (now : ℕ) (ms : List Member) → AllByRecursion (λ x. now < x) (map (λ m. m.until) (filter (λ m. not (is_waiting m)) ms)) → AllByRecursion (λ m. is_waiting m ≡ false → now < m.until) ms
alive now [] a = tt
alive now (m ∷ ms) a = by (is_waiting m) refl a (alive now ms) where
  by : (b : Bool) → is_waiting m ≡ b → AllByRecursion (λ x. now < x) (map (λ m. m.until) (cond (not b) (m ∷ filter (λ m. not (is_waiting m)) ms) (filter (λ m. not (is_waiting m)) ms)))
      → (AllByRecursion (λ x. now < x) (map (λ m. m.until) (filter (λ m. not (is_waiting m)) ms)) → AllByRecursion (λ m. is_waiting m ≡ false → now < m.until) ms)
      → (is_waiting m ≡ false → now < m.until) × AllByRecursion (λ m. is_waiting m ≡ false → now < m.until) ms
  by true e a r = ((λ f. absurd (true≢false (sym e ∙ f))), r a)
  by false e a r = ((λ f. a.0), r a.1)

none_silent : (now : ℕ) (d : Bool) → d ≡ false → (ms : List Member) → AllByRecursion (λ m. is_waiting m ≡ false → now < m.until) ms
    → list_any (λ m. not (is_waiting m) && (nat_le m.until now || d)) ms ≡ false
none_silent now d e [] a = refl
none_silent now d e (m ∷ ms) a = by (is_waiting m) refl (none_silent now d e ms a.1) where
  by : (b : Bool) → is_waiting m ≡ b → list_any (λ m. not (is_waiting m) && (nat_le m.until now || d)) ms ≡ false
      → (not b && (nat_le m.until now || d) || list_any (λ m. not (is_waiting m) && (nat_le m.until now || d)) ms) ≡ false
  by true f r = r
  by false f r = let l : now < m.until = a.0 f in grind (arith, l, e, r)

not_overdue : (now : ℕ) (p : Phase) → AllByRecursion (λ x. now < x) (phase_times p) → is_overdue now p ≡ false
not_overdue now (Preparing t) a = refl
not_overdue now (Completing t) a = let l : now < t = a.0 in grind (arith, l)
not_overdue now Stable a = refl

not_complete : (now : ℕ) (g : Group) (p : Phase) → AllByRecursion (λ x. now < x) (phase_times p) → IsSoundIn g p → Some_in g → is_complete now g p ≡ false
not_complete now g (Preparing t) a s some = let l : now < t = a.0 in grind (arith, l, s.1, some)
not_complete now g (Completing t) a s some = refl
not_complete now g Stable a s some = refl

nothing_expires : (o : Settings) (now n : ℕ) (g : Group) → IsSound g → Some_in g → AllByRecursion (λ x. now < x) (group_times g) → expire_group o now n g ≡ stays n g
nothing_expires o now n g s some later =
    let two = front (λ x. now < x) (phase_times g.phase) (map (λ m. m.until) (filter (λ m. not (is_waiting m)) g.members)) later in
    ap (λ (b : Bool). cond b (and_then (drop_those (is_silent now g)) (and_then (prepare o now) (settle now)) n g) (settle now n g))
    (none_silent now (is_overdue now g.phase) (not_overdue now g.phase two.0) g.members (alive now g.members two.1))
    ∙ ap (λ (b : Bool). cond b (complete now n g) (stays n g)) (not_complete now g g.phase two.0 s.in_phase some)

-- a move by which all stay leaves all as they are
record AllStay (a : Move) (n : ℕ) (gs : List Group) : Type 0 where
  groups : (move_each a n gs).groups ≡ gs
  generations : (move_each a n gs).generations ≡ n
  refusals : (move_each a n gs).refusals ≡ []

all_stay : (a : Move) (n : ℕ) (gs : List Group) → AllByRecursion (λ g. (a n g ≡ stays n g) × Some_in g) gs → AllStay a n gs
all_stay a n [] all = record { groups = refl; generations = refl; refusals = refl }
all_stay a n (g ∷ gs) all = on (a n g) all.0.0 (all_stay a n gs all.1) where
  kept_some : kept g ≡ g ∷ []
  kept_some = by (0 == length g.members) refl where
    by : (b : Bool) → (0 == length g.members) ≡ b → cond b [] (g ∷ []) ≡ g ∷ []
    by true e = absurd (grind (arith, e, all.0.1))
    by false e = refl

  on : (m : Moved) → m ≡ stays n g → AllStay a n gs → AllStay a n (g ∷ gs)
  on m e r = record {
    groups = (λ i. kept (all.0.0 i).group ++ (move_each a (all.0.0 i).generations gs).groups) ∙ (λ i. kept_some i ++ r.groups i);
    generations = (λ i. (move_each a (all.0.0 i).generations gs).generations) ∙ r.generations;
    refusals = (λ i. (all.0.0 i).refusals ++ (move_each a (all.0.0 i).generations gs).refusals) ∙ r.refusals;
  }

pub before_next : (v : Groups) → AreSound v → IsBeforeNext v → expire v ≡ v
before_next v s before = λ i. record v {
  groups = stay.groups i;
  generations = stay.generations i;
  refused = (ap (λ (rs : List Refusal). v.refused ++ rs) stay.refusals ∙ append-nil v.refused) i;
} where
  later : AllByRecursion (λ g. AllByRecursion (λ x. v.now < x) (group_times g)) v.groups
  later = each_later v.now v.groups (all_later v.now (flat_map group_times v.groups) before)

  stay : AllStay (expire_group v.settings v.now) v.generations v.groups
  stay = all_stay (expire_group v.settings v.now) v.generations v.groups
      (all_and _ _ _ (λ g (x : IsSound g × Some_in g) l. (nothing_expires v.settings v.now v.generations g x.0 x.1 l, x.1)) v.groups (all_and _ _ _ (λ g a b. (a, b)) v.groups s.each s.peopled) later)
