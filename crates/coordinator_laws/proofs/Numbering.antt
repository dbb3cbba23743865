-- Generations have numbers of their own, and what is told of one is the same whenever it is.
use Rattle.std.proofs.Common.{◌≡◌, ◌⊎◌, ℕ, ◌+◌, ◌<◌, ◌≤◌, ◌==◌, true, false, not, ◌&&◌, ◌||◌, nat_lt, List, [], ◌∷◌, ◌++◌, map, length, refl, sym, ap, subst, ◌∙◌, arith, true≢false, inl, inr}
use Rattle.std.specs.Prelude.{Option, Some, None}
use Rattle.std.specs.List.{AllByRecursion, filter}
use Rattle.std.specs.Option.{option_or, is_none}
use Rattle.group_coordinator.specs.declared.values.GroupError.{GroupError}
use Rattle.group_coordinator.specs.declared.values.Phase.{Phase}
use Rattle.group_coordinator.specs.declared.values.Phase.TheVariants.{Preparing, Completing, Stable}
use Rattle.group_coordinator.specs.declared.values.TheConstants.{MOST_BYTES, MOST_IDS}
use Rattle.group_coordinator.specs.declared.values.Settings.{Settings}
use Rattle.group_coordinator.specs.declared.values.Wait.TheVariants.{No}
use Rattle.group_coordinator.specs.Members.{Member, is_in, is_ready}
use Rattle.group_coordinator.specs.Groups.{Group, Move, new_group, is_preparing, is_stable}
use Rattle.group_coordinator.specs.Requests.{JoinRequest, SyncRequest, Request, Part}
use Rattle.group_coordinator.specs.Requests.Request.{Join, Sync, Heartbeat, Leave}
use Rattle.group_coordinator.specs.Joining.{waits, rejoin, join_new, sync, heartbeat, leave, end_session}
use Rattle.group_coordinator.specs.Coordinators.{Groups, group_named, kept, move_each, move_all, move_one, only, all_bytes, sent, sent_group, without_ready, release, at_once, Answered, group_fault, member_fault, unknown_fault, preparing_fault, sync_fault, join_fault, if_room, with_group, entered, joined, ask_join, ask_sync, ask_heartbeat, ask_leave, asked, commit_fault, gone, is_for}
use Rattle.group_coordinator.specs.Times.{clock, expire_group}
use Rattle.group_coordinator.specs.Runs.{Act, after, commit_done, behind_all}
use Rattle.group_coordinator.specs.Runs.Act.{Ask, Release, Commit, End, Clock, Expire}
use Rattle.coordinator_laws.specs.Soundness.{IsSound, IsSoundIn, AreSound}
use Rattle.coordinator_laws.specs.Generations.{BeganAlike, GoesOn, IsOf, AreNumbered, HaveNumbers, HasParts, PartsStay, IsGiven, AreGiven}
use Rattle.coordinator_laws.proofs.Lists.{by_test, all_map, all_append, all_weaker, all_and, all_any}
use Rattle.coordinator_laws.proofs.Lifting.{KeepsName, names_rejoin, names_join_new, names_sync, names_leave, names_end, names_expire, names_only}
use Rattle.coordinator_laws.proofs.Acting.{or_none, found_known, sent_keeps, not_preparing, groups_sound}
use Rattle.coordinator_laws.proofs.Following.{Follows, KeepsPart, alike_changed, alike_self, alike_then, heartbeat_follows, leave_follows, rejoin_follows, join_new_follows, sync_follows, expire_follows, end_follows, only_follows}

-- ---- where groups come from

-- one of these groups goes on, or a generation above a number began
pub record GoesOnOne (gs : List Group) (h : Group) : Type 0 where
  pub group : Group
  pub among : IsOf group gs
  pub goes_on : GoesOn group h

abbrev Comes : List Group → (n e : ℕ) → Group → Type 0
Comes gs n e h = GoesOnOne gs h ⊎ ((n < h.generation) × (h.generation ≤ e) × (is_stable h.phase ≡ false))

goes_on_self : (g : Group) → GoesOn g g
goes_on_self g = record { name = refl; generation = refl; alike = alike_self g }

goes_on_then : (g h x : Group) → GoesOn g h → GoesOn h x → GoesOn g x
goes_on_then g h x a b = record {
  name = b.name ∙ a.name;
  generation = b.generation ∙ a.generation;
  alike = λ e. alike_then g h x (a.alike (b.alike e).stood) (b.alike e);
}

rises_each : (a : Move) (gs : List Group) → ((n : ℕ) → AllByRecursion (λ g. Follows n g (a n g)) gs) → (n : ℕ) → n ≤ (move_each a n gs).generations
rises_each a [] w n = omega arith
rises_each a (g ∷ gs) w n = omega (arith, (w n).0.rises, rises_each a gs (λ n. (w n).1) (a n g).generations)

kept_all : (P : Group → Type 0) (g : Group) → P g → AllByRecursion P (kept g)
kept_all P g p = by_test (λ (gs : List Group). AllByRecursion P gs) (0 == length g.members) [] (g ∷ []) (λ e. tt) (λ e. (p, tt))

comes_each : (a : Move) → KeepsName a → (gs : List Group) → ((n : ℕ) → AllByRecursion (λ g. Follows n g (a n g)) gs) → (n : ℕ)
    → AllByRecursion (Comes gs n (move_each a n gs).generations) (move_each a n gs).groups
comes_each a names [] w n = tt
comes_each a names (g ∷ gs) w n =
    all_append _ (kept (a n g).group) _ (kept_all _ (a n g).group (first (w n).0.next))
    (all_weaker _ _ (λ h c. later h c) _ (comes_each a names gs (λ n. (w n).1) (a n g).generations)) where
      e : ℕ
      e = (move_each a (a n g).generations gs).generations

      high : (a n g).generations ≤ e
      high = rises_each a gs (λ n. (w n).1) (a n g).generations

      first : (((a n g).group.generation ≡ g.generation) × (is_preparing (a n g).group.phase ≡ false → BeganAlike g (a n g).group))
          ⊎ ((n < (a n g).group.generation) × ((a n g).group.generation ≤ (a n g).generations) × (is_stable (a n g).group.phase ≡ false)) → Comes (g ∷ gs) n e (a n g).group
      first (inl x) = inl (record { group = g; among = inl refl; goes_on = record { name = names n g; generation = x.0; alike = x.1 } })
      first (inr x) = inr (x.0, omega (arith, x.1, high), x.2)

      later : (h : Group) → Comes gs (a n g).generations e h → Comes (g ∷ gs) n e h
      later h (inl c) = inl (record { group = c.group; among = inr c.among; goes_on = c.goes_on })
      later h (inr x) = inr (omega (arith, x.0, (w n).0.rises), x.1, x.2)

-- what holds of the generations of some groups
of_goes_on : (P : ℕ → Type 0) (gs : List Group) → AllByRecursion (λ g. P g.generation) gs → (h : Group) → GoesOnOne gs h → P h.generation
of_goes_on P gs all h c = subst P (sym c.goes_on.generation) (among gs all c.among) where
  among : (gs : List Group) → AllByRecursion (λ g. P g.generation) gs → IsOf c.group gs → P c.group.generation
  among [] all i = absurd i
  among (g ∷ gs) all (inl is) = subst (λ (x : Group). P x.generation) (sym is) all.0
  among (g ∷ gs) all (inr i) = among gs all.1 i

abbrev Bounded : ℕ → List Group → Type 0
Bounded n gs = AllByRecursion (λ g. g.generation ≤ n) gs

numbered_each : (a : Move) → KeepsName a → (gs : List Group) → ((n : ℕ) → AllByRecursion (λ g. Follows n g (a n g)) gs) → (n : ℕ)
    → Bounded n gs → AreNumbered gs → AreNumbered (move_each a n gs).groups
numbered_each a names [] w n low apart = tt
numbered_each a names (g ∷ gs) w n low apart =
    with_kept (a n g).group _ (all_weaker _ _ (λ h c. differs h c (w n).0.next) _ (comes_each a names gs (λ n. (w n).1) m))
    (numbered_each a names gs (λ n. (w n).1) m (all_weaker _ _ (λ h l. omega (arith, l, (w n).0.rises)) gs low.1) apart.1) where
      m : ℕ
      m = (a n g).generations

      with_kept : (x : Group) (hs : List Group) → AllByRecursion (λ h. h.generation ≡ x.generation → h.generation ≡ 0) hs → AreNumbered hs → AreNumbered (kept x ++ hs)
      with_kept x hs other rest = by_test (λ (ys : List Group). AreNumbered (ys ++ hs)) (0 == length x.members) [] (x ∷ []) (λ e. rest) (λ e. (other, rest))

      old : AllByRecursion (λ h. (h.generation ≤ n) × (h.generation ≡ g.generation → h.generation ≡ 0)) gs
      old = all_and _ _ _ (λ h l o. (l, o)) gs low.1 apart.0

      differs : (h : Group) → Comes gs m (move_each a m gs).generations h
          → (((a n g).group.generation ≡ g.generation) × (is_preparing (a n g).group.phase ≡ false → BeganAlike g (a n g).group))
          ⊎ ((n < (a n g).group.generation) × ((a n g).group.generation ≤ m) × (is_stable (a n g).group.phase ≡ false))
          → h.generation ≡ (a n g).group.generation → h.generation ≡ 0
      differs h (inl c) (inl x) e = (of_goes_on (λ k. (k ≤ n) × (k ≡ g.generation → k ≡ 0)) gs old h c).1 (e ∙ x.0)
      differs h (inl c) (inr x) e = absurd (omega (arith, (of_goes_on (λ k. (k ≤ n) × (k ≡ g.generation → k ≡ 0)) gs old h c).0, x.0, e))
      differs h (inr y) (inl x) e = absurd (omega (arith, y.0, x.0, e, low.0, (w n).0.rises))
      differs h (inr y) (inr x) e = absurd (omega (arith, y.0, x.1, e))

bounded_each : (a : Move) → KeepsName a → (gs : List Group) → ((n : ℕ) → AllByRecursion (λ g. Follows n g (a n g)) gs) → (n : ℕ)
    → Bounded n gs → Bounded (move_each a n gs).generations (move_each a n gs).groups
bounded_each a names gs w n low = all_weaker _ _ one _ (comes_each a names gs w n) where
  e : ℕ
  e = (move_each a n gs).generations

  one : (h : Group) → Comes gs n e h → h.generation ≤ e
  one h (inl c) = of_goes_on (λ k. k ≤ e) gs (all_weaker _ _ (λ g l. omega (arith, l, rises_each a gs w n)) gs low) h c
  one h (inr x) = x.1

-- ---- all groups

-- a group comes from one before, or has no generation yet, or one that began since
abbrev ComesFrom : (v w : Groups) → Group → Type 0
ComesFrom v w h = GoesOnOne v.groups h ⊎ ((h.generation ≡ 0) ⊎ ((v.generations < h.generation) × AreGiven h))

-- what an act does to the generations
pub record Advances (v w : Groups) : Type 0 where
  pub rises : v.generations ≤ w.generations
  pub each : AllByRecursion (ComesFrom v w) w.groups
  pub numbers : HaveNumbers v → HaveNumbers w

same_advances : (v w : Groups) → w.groups ≡ v.groups → w.generations ≡ v.generations → Advances v w
same_advances v w gs n = record {
  rises = omega (arith, n);
  each = subst (λ (hs : List Group). AllByRecursion (ComesFrom v w) hs) (sym gs) (among v.groups);
  numbers = λ h. record {
    bounded = subst (λ (k : ℕ). Bounded k w.groups) (sym n) (subst (λ (hs : List Group). Bounded v.generations hs) (sym gs) h.bounded);
    apart = subst AreNumbered (sym gs) h.apart;
  };
} where
  among : (hs : List Group) → AllByRecursion (λ h. GoesOnOne hs h ⊎ ((h.generation ≡ 0) ⊎ ((v.generations < h.generation) × AreGiven h))) hs
  among [] = tt
  among (h ∷ hs) = (inl (record { group = h; among = inl refl; goes_on = goes_on_self h }), all_weaker _ _ (λ x c. later x c) hs (among hs)) where
    later : (x : Group) → GoesOnOne hs x ⊎ ((x.generation ≡ 0) ⊎ ((v.generations < x.generation) × AreGiven x)) → GoesOnOne (h ∷ hs) x ⊎ ((x.generation ≡ 0) ⊎ ((v.generations < x.generation) × AreGiven x))
    later x (inl c) = inl (record { group = c.group; among = inr c.among; goes_on = c.goes_on })
    later x (inr y) = inr y

all_advances : (a : Move) → KeepsName a → (v : Groups) → ((n : ℕ) → AllByRecursion (λ g. Follows n g (a n g)) v.groups) → Advances v (move_all a v)
all_advances a names v w = record {
  rises = rises_each a v.groups w v.generations;
  each = all_weaker _ _ (λ h c. one h c) _ (comes_each a names v.groups w v.generations);
  numbers = λ h. record {
    bounded = bounded_each a names v.groups w v.generations h.bounded;
    apart = numbered_each a names v.groups w v.generations h.bounded h.apart;
  };
} where
  one : (h : Group) → Comes v.groups v.generations (move_all a v).generations h → ComesFrom v (move_all a v) h
  one h (inl c) = inl c
  one h (inr x) = inr (inr (x.0, (λ s. absurd (true≢false (sym s ∙ x.2)))))

pub sent_part : (k : ℕ) → KeepsPart (sent k)
sent_part k m = by_test (λ (x : Member). x.part ≡ m.part) (is_in k m.wait && is_ready m.wait) (waits No m) m (λ _. refl) (λ _. refl)

sent_goes_on : (k : ℕ) (g : Group) → GoesOn g (sent_group k g)
sent_goes_on k g = record { name = refl; generation = refl; alike = λ e. alike_changed (sent k) (sent_keeps k) (sent_part k) g e }

numbered_sent : (k : ℕ) (gs : List Group) → AreNumbered gs → AreNumbered (map (sent_group k) gs)
numbered_sent k [] a = tt
numbered_sent k (g ∷ gs) a = (all_map _ _ (sent_group k) (λ h e. e) gs a.0, numbered_sent k gs a.1)

-- parts that a leader gave go on
given_on : (g h : Group) → GoesOn g h → AreGiven g → AreGiven h
given_on g h on given s = by (alike.given s) where
  stands : (p : Phase) → is_stable p ≡ true → is_preparing p ≡ false
  stands (Preparing t) e = absurd (true≢false (sym e))
  stands (Completing t) e = refl
  stands Stable e = refl

  alike : BeganAlike g h
  alike = on.alike (stands h.phase s)

  of : IsGiven g g → ((parts : List Part) → HasParts parts g → HasParts parts h) → IsGiven h h
  of x on = record { member = x.member; leads = alike.leads x.member ∙ x.leads; parts = x.parts; has = on x.parts x.has }

  by : PartsStay g h ⊎ IsGiven g h → IsGiven h h
  by (inl p) = of (given p.stable) p.parts
  by (inr x) = record { member = x.member; leads = alike.leads x.member ∙ x.leads; parts = x.parts; has = x.has }

sent_advances : (k : ℕ) (v w : Groups) → Advances v w → Advances v (without_ready k w)
sent_advances k v w a = record {
  rises = a.rises;
  each = all_map _ _ (sent_group k) one w.groups a.each;
  numbers = λ h. record {
    bounded = all_map _ _ (sent_group k) (λ g l. l) w.groups (a.numbers h).bounded;
    apart = numbered_sent k w.groups (a.numbers h).apart;
  };
} where
  one : (h : Group) → ComesFrom v w h → ComesFrom v (without_ready k w) (sent_group k h)
  one h (inl c) = inl (record { group = c.group; among = c.among; goes_on = goes_on_then c.group h (sent_group k h) c.goes_on (sent_goes_on k h) })
  one h (inr (inl z)) = inr (inl z)
  one h (inr (inr z)) = inr (inr (z.0, given_on h (sent_group k h) (sent_goes_on k h) z.1))

room_advances : (full k : ℕ) (v w : Groups) → Advances v w → Advances v (if_room full v w k).groups
room_advances full k v w a = by_test (λ (x : Answered). Advances v x.groups) (nat_lt MOST_BYTES full || nat_lt MOST_IDS w.ids) (at_once _ v) (release k w)
    (λ _. same_advances v v refl refl) (λ _. sent_advances k v w a)

one_advances : (name : List ℕ) (a : Move) → KeepsName a → ((n : ℕ) (g : Group) → Follows n g (a n g)) → (v : Groups) → Advances v (move_one name a v)
one_advances name a names w v = all_advances (only name a) (names_only name a names) v (λ n. all_any _ (λ g. only_follows name a n g (λ _. w n g)) v.groups)

-- ---- joins

-- a group is there, or is made, that has no generation yet
opened_advances : (name kind : List ℕ) (v : Groups) → Advances v (with_group name kind v)
opened_advances name kind v = by_test (λ (w : Groups). Advances v w) (is_none (group_named name v)) _ v (λ _. more) (λ _. same_advances v v refl refl) where
  h : Group
  h = new_group name kind

  numbered : (gs : List Group) → AreNumbered gs → AreNumbered (gs ++ h ∷ [])
  numbered [] a = (tt, tt)
  numbered (g ∷ gs) a = (all_append _ gs _ a.0 ((λ e. refl), tt), numbered gs a.1)

  more : Advances v (record v { groups = v.groups ++ h ∷ [] })
  more = record {
    rises = omega arith;
    each = all_append _ v.groups _ (same_advances v v refl refl).each (inr (inl refl), tt);
    numbers = λ x. record { bounded = all_append _ v.groups _ x.bounded (omega arith, tt); apart = numbered v.groups x.apart };
  }

then_advances : (v w x : Groups) → Advances v w → Advances w x → Advances v x
then_advances v w x a b = record {
  rises = omega (arith, a.rises, b.rises);
  each = all_weaker _ _ one x.groups b.each;
  numbers = λ h. b.numbers (a.numbers h);
} where
  found : (gs : List Group) (h : Group) → AllByRecursion (ComesFrom v w) gs → (g : Group) → IsOf g gs → GoesOn g h → ComesFrom v x h
  found [] h all g i on = absurd i
  found (y ∷ ys) h all g (inr i) on = found ys h all.1 g i on
  found (y ∷ ys) h all g (inl is) on = by (subst (ComesFrom v w) (sym is) all.0) where
    by : ComesFrom v w g → ComesFrom v x h
    by (inl c) = inl (record { group = c.group; among = c.among; goes_on = goes_on_then c.group g h c.goes_on on })
    by (inr (inl z)) = inr (inl (on.generation ∙ z))
    by (inr (inr z)) = inr (inr (subst (λ (k : ℕ). v.generations < k) (sym on.generation) z.0, given_on g h on z.1))

  one : (h : Group) → ComesFrom w x h → ComesFrom v x h
  one h (inl c) = found w.groups h a.each c.group c.among c.goes_on
  one h (inr (inl z)) = inr (inl z)
  one h (inr (inr z)) = inr (inr (omega (arith, a.rises, z.0), z.1))

numbered_of : (v : Groups) (i : ℕ) → Advances v (record v { ids = i })
numbered_of v i = same_advances v (record v { ids = i }) refl refl

joined_advances : (k : ℕ) (client : List ℕ) (q : JoinRequest) (v : Groups) → Advances v (joined k client q v)
joined_advances k client q v = by_test (λ (w : Groups). Advances v w) (0 == length q.member) (move_one q.group (join_new v.settings v.now k v.ids client q) opened) (move_one q.group (rejoin v.settings v.now k q) v)
    (λ _. then_advances v opened _ (then_advances v (with_group q.group q.kind v) opened (opened_advances q.group q.kind v) (numbered_of (with_group q.group q.kind v) (v.ids + 1)))
    (one_advances q.group (join_new v.settings v.now k v.ids client q) (names_join_new v.settings v.now k v.ids client q) (join_new_follows v.settings v.now k v.ids client q) opened))
    (λ _. one_advances q.group (rejoin v.settings v.now k q) (names_rejoin v.settings v.now k q) (rejoin_follows v.settings v.now k q) v) where
      opened : Groups
      opened = record (with_group q.group q.kind v) { ids = v.ids + 1 }

join_advances : (k : ℕ) (client : List ℕ) (q : JoinRequest) (v : Groups) → (r : Option GroupError) → Advances v (ask_join k client q v r).groups
join_advances k client q v (Some x) = same_advances v v refl refl
join_advances k client q v None = room_advances (all_bytes (entered k client q v)) k v (joined k client q v) (joined_advances k client q v)

-- ---- the others

sync_advances : (k : ℕ) (q : SyncRequest) (v : Groups) → AreSound v → (r : Option GroupError) → sync_fault v q ≡ r → Advances v (ask_sync k q v r).groups
sync_advances k q v s (Some x) e = same_advances v v refl refl
sync_advances k q v s None e = room_advances (all_bytes (move_one q.group (sync v.now k q) v)) k v (move_one q.group (sync v.now k q) v)
    (all_advances (only q.group (sync v.now k q)) (names_only q.group (sync v.now k q) (names_sync v.now k q)) v
    (λ n. all_weaker _ _ (λ g x. only_follows q.group (sync v.now k q) n g (λ y. sync_follows v.now k q n g (x.0 y))) v.groups
    (found_known (λ g. is_preparing g.phase ≡ false) q.group v s (group_named q.group v) refl (λ g is x. not_preparing (group_named q.group v) g none is)))) where
      none : preparing_fault (group_named q.group v) ≡ None
      none = (or_none (member_fault q.generation q.member (group_named q.group v)) _ (or_none (group_fault v.settings q.group) _ e).1).1

beat_advances : (name id : List ℕ) (v : Groups) → Advances v (move_one name (heartbeat v.now id) v)
beat_advances name id v = one_advances name (heartbeat v.now id) (λ n g. refl) (heartbeat_follows v.now id) v

heartbeat_advances : (name id : List ℕ) (v : Groups) → (r : Option GroupError) → Advances v (ask_heartbeat name id v r).groups
heartbeat_advances name id v (Some x) = same_advances v v refl refl
heartbeat_advances name id v None = beat_advances name id v

leave_advances : (name id : List ℕ) (v : Groups) → (r : Option GroupError) → Advances v (ask_leave name id v r).groups
leave_advances name id v (Some x) = same_advances v v refl refl
leave_advances name id v None = one_advances name (leave v.settings v.now id) (names_leave v.settings v.now id) (leave_follows v.settings v.now id) v

asked_advances : (k : ℕ) (client : List ℕ) (q : Request) (v : Groups) → AreSound v → Advances v (asked k client q v).groups
asked_advances k client (Join q) v s = join_advances k client q v (join_fault v q)
asked_advances k client (Sync q) v s = sync_advances k q v s (sync_fault v q) refl
asked_advances k client (Heartbeat name generation id) v s = heartbeat_advances name id v (option_or (group_fault v.settings name) (member_fault generation id (group_named name v)))
asked_advances k client (Leave name id) v s = leave_advances name id v (option_or (group_fault v.settings name) (unknown_fault id (group_named name v)))

commit_advances : (name id : List ℕ) (v : Groups) → (r : Option GroupError) → Advances v (commit_done name id v r)
commit_advances name id v None = beat_advances name id v
commit_advances name id v (Some x) = same_advances v v refl refl

abbrev unrefused : ℕ → Groups → Groups
unrefused k v = record v { refused = filter (λ r. not (is_for k r)) v.refused }

pub act_advances : (a : Act) (v : Groups) → AreSound v → Advances v (after a v)
act_advances (Ask k client q) v s = asked_advances k client q v s
act_advances (Release k) v s = sent_advances k v v (same_advances v v refl refl)
act_advances (Commit name generation id) v s = commit_advances name id v (commit_fault name generation id v)
act_advances (End k) v s = then_advances v (unrefused k v) (gone k v) (same_advances v (unrefused k v) refl refl)
    (all_advances (end_session v.now k) (names_end v.now k) (unrefused k v) (λ n. all_weaker _ _ (λ g x. end_follows v.now k n g x) v.groups s.each))
act_advances (Clock t) v s = same_advances v (clock t v) refl refl
act_advances Expire v s = all_advances (expire_group v.settings v.now) (names_expire v.settings v.now) v (λ n. all_any _ (λ g. expire_follows v.settings v.now n g) v.groups)

-- ---- over any acts

pub have_numbers : (o : Settings) (acts : List Act) → HaveNumbers (behind_all o acts)
have_numbers o [] = record { bounded = tt; apart = tt }
have_numbers o (a ∷ before) = (act_advances a (behind_all o before) (groups_sound o before)).numbers (have_numbers o before)

-- two groups of one generation are one, where generations are apart
same_one : (gs : List Group) (g h : Group) → AreNumbered gs → IsOf g gs → IsOf h gs → h.generation ≡ g.generation → 0 < g.generation → GoesOn g h
same_one [] g h a i j e low = absurd i
same_one (x ∷ xs) g h a (inl i) (inl j) e low = subst (λ (y : Group). GoesOn g y) (i ∙ sym j) (goes_on_self g)
same_one (x ∷ xs) g h a (inr i) (inr j) e low = same_one xs g h a.1 i j e low
same_one (x ∷ xs) g h a (inl i) (inr j) e low = absurd (omega (arith, low, e, among xs a.0 j (e ∙ ap (λ (y : Group). y.generation) i))) where
  among : (ys : List Group) → AllByRecursion (λ y. y.generation ≡ x.generation → y.generation ≡ 0) ys → IsOf h ys → h.generation ≡ x.generation → h.generation ≡ 0
  among [] all i = absurd i
  among (y ∷ ys) all (inl is) = subst (λ (z : Group). z.generation ≡ x.generation → z.generation ≡ 0) (sym is) all.0
  among (y ∷ ys) all (inr i) = among ys all.1 i
same_one (x ∷ xs) g h a (inr i) (inl j) e low = absurd (omega (arith, low, e, among xs a.0 i (sym e ∙ ap (λ (y : Group). y.generation) j))) where
  among : (ys : List Group) → AllByRecursion (λ y. y.generation ≡ x.generation → y.generation ≡ 0) ys → IsOf g ys → g.generation ≡ x.generation → g.generation ≡ 0
  among [] all i = absurd i
  among (y ∷ ys) all (inl is) = subst (λ (z : Group). z.generation ≡ x.generation → z.generation ≡ 0) (sym is) all.0
  among (y ∷ ys) all (inr i) = among ys all.1 i

bounded_of : (n : ℕ) (gs : List Group) (g : Group) → Bounded n gs → IsOf g gs → g.generation ≤ n
bounded_of n [] g b i = absurd i
bounded_of n (x ∷ xs) g b (inl is) = subst (λ (y : Group). y.generation ≤ n) (sym is) b.0
bounded_of n (x ∷ xs) g b (inr i) = bounded_of n xs g b.1 i

comes_of : (v w : Groups) (gs : List Group) (h : Group) → AllByRecursion (ComesFrom v w) gs → IsOf h gs → ComesFrom v w h
comes_of v w [] h all i = absurd i
comes_of v w (x ∷ xs) h all (inl is) = subst (ComesFrom v w) (sym is) all.0
comes_of v w (x ∷ xs) h all (inr i) = comes_of v w xs h all.1 i

rises_over : (o : Settings) (later before : List Act) → (behind_all o before).generations ≤ (behind_all o (later ++ before)).generations
rises_over o [] before = omega arith
rises_over o (a ∷ later) before = omega (arith, rises_over o later before, (act_advances a (behind_all o (later ++ before)) (groups_sound o (later ++ before))).rises)

pub one_beginning : (o : Settings) (later before : List Act) (g h : Group) → IsOf g (behind_all o before).groups → IsOf h (behind_all o (later ++ before)).groups
    → h.generation ≡ g.generation → 0 < g.generation → GoesOn g h
one_beginning o [] before g h i j e low = same_one (behind_all o before).groups g h (have_numbers o before).apart i j e low
one_beginning o (a ∷ later) before g h i j e low = by (one_beginning o later before g) (comes_of w (after a w) (after a w).groups h advances.each j) where
  w : Groups
  w = behind_all o (later ++ before)

  advances : Advances w (after a w)
  advances = act_advances a w (groups_sound o (later ++ before))

  by : ((x : Group) → IsOf g (behind_all o before).groups → IsOf x w.groups → x.generation ≡ g.generation → 0 < g.generation → GoesOn g x) → ComesFrom w (after a w) h → GoesOn g h
  by r (inl c) = goes_on_then g c.group h (r c.group i c.among (sym c.goes_on.generation ∙ e) low) c.goes_on
  by r (inr (inl z)) = absurd (omega (arith, z, e, low))
  by r (inr (inr z)) = absurd (omega (arith, z.0, e, bounded_of _ _ g (have_numbers o before).bounded i, rises_over o later before))

-- ---- parts

sound_of : (gs : List Group) (g : Group) → AllByRecursion IsSound gs → IsOf g gs → IsSound g
sound_of [] g all i = absurd i
sound_of (h ∷ hs) g all (inl is) = subst IsSound (sym is) all.0
sound_of (h ∷ hs) g all (inr i) = sound_of hs g all.1 i

numbered_stable : (g : Group) (p : Phase) → IsSoundIn g p → is_stable p ≡ true → 0 < g.generation
numbered_stable g (Preparing t) s e = absurd (true≢false (sym e))
numbered_stable g (Completing t) s e = absurd (true≢false (sym e))
numbered_stable g Stable s e = s.0.numbered

pub leaders_give : (o : Settings) (acts : List Act) (h : Group) → IsOf h (behind_all o acts).groups → AreGiven h
leaders_give o [] h i s = absurd i
leaders_give o (a ∷ before) h i s = by (leaders_give o before) (comes_of v (after a v) (after a v).groups h (act_advances a v (groups_sound o before)).each i) where
  v : Groups
  v = behind_all o before

  low : 0 < h.generation
  low = numbered_stable h h.phase (sound_of (after a v).groups h (groups_sound o (a ∷ before)).each i).in_phase s

  by : ((g : Group) → IsOf g v.groups → AreGiven g) → ComesFrom v (after a v) h → IsGiven h h
  by r (inl c) = given_on c.group h c.goes_on (r c.group c.among) s
  by r (inr (inl z)) = absurd (omega (arith, z, low))
  by r (inr (inr z)) = z.1 s
