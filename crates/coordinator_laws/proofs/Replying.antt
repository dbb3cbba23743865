-- Each request is replied to once: what waits and what was replied add up.
use Rattle.std.proofs.Common.{◌≡◌, ℕ, ◌+◌, ◌≤◌, ◌==◌, Bool, true, false, cond, not, ◌&&◌, ◌||◌, nat_lt, List, [], ◌∷◌, ◌++◌, map, length, refl, sym, ap, subst, arith, true≢false}
use Rattle.std.specs.Prelude.{Option, Some, None, int_lt, if◌then◌else◌}
use Rattle.std.specs.List.{AllByRecursion, filter, find}
use Rattle.std.specs.Option.{option_or, option_map, is_none}
use Rattle.std.specs.Str.{bytes_eq}
use Rattle.std.proofs.lemmas.Option.{none-some, same_Some}
use Rattle.std.proofs.lemmas.Slice.Eq.{bytes_eq-Decides}
use Rattle.group_coordinator.specs.declared.values.GroupError.{GroupError}
use Rattle.group_coordinator.specs.declared.values.GroupError.TheVariants.{UnknownMember, InvalidSession, InconsistentProtocol}
use Rattle.group_coordinator.specs.declared.values.Refusal.{Refusal}
use Rattle.group_coordinator.specs.declared.values.Settings.{Settings}
use Rattle.group_coordinator.specs.declared.values.TheConstants.{MOST_BYTES, MOST_IDS, LEAST_SESSION, MOST_SESSION}
use Rattle.group_coordinator.specs.declared.values.Wait.{Wait}
use Rattle.group_coordinator.specs.declared.values.Wait.TheVariants.{No, Joins, Syncs, Told, Assigned}
use Rattle.group_coordinator.specs.Members.{Member, has_id, is_in, is_ready}
use Rattle.group_coordinator.specs.Groups.{Group, Move, Moved, new_group, stays}
use Rattle.group_coordinator.specs.Requests.{JoinRequest, SyncRequest, Request, Reply}
use Rattle.group_coordinator.specs.Requests.Request.{Join, Sync, Heartbeat, Leave}
use Rattle.group_coordinator.specs.Requests.Reply.{Refused}
use Rattle.group_coordinator.specs.Joining.{waits, rejoin, join_new, sync, heartbeat, leave, end_session}
use Rattle.group_coordinator.specs.Coordinators.{Groups, is_named, group_named, member_of, kept, move_each, move_all, move_one, only, all_bytes, reply_of, reply_among, reply_in, refusal_in, ready_for, is_for, sent, sent_group, without_ready, release, at_once, Answered, fault_if, group_fault, member_fault, unknown_fault, id_fault, protocol_fits, sync_fault, join_fault, if_room, with_group, entered, joined, ask_join, ask_sync, ask_heartbeat, ask_leave, asked, commit_fault, gone}
use Rattle.group_coordinator.specs.Times.{expire_group}
use Rattle.group_coordinator.specs.Runs.{Act, after, commit_done, behind_all}
use Rattle.group_coordinator.specs.Runs.Act.{Ask, Release, Commit, End, Clock, Expire}
use Rattle.coordinator_laws.specs.Ids.{tally, tally_all}
use Rattle.coordinator_laws.specs.Replies.{is_in_session, count_waiting, count_asked, count_some, count_replied, AsksWhileFree, AllAskWhileFree, is_end}
use Rattle.group_coordinator.specs.Keeping.{AreApart}
use Rattle.coordinator_laws.specs.Soundness.{AreSound}
use Rattle.coordinator_laws.specs.Standing.{IsOneOf}
use Rattle.coordinator_laws.proofs.Lists.{by_test, find_none}
use Rattle.coordinator_laws.proofs.Lifting.{apart_more}
use Rattle.coordinator_laws.proofs.Acting.{or_none, no_fault, groups_sound}
use Rattle.coordinator_laws.proofs.Admitting.{one_of}
use Rattle.coordinator_laws.proofs.Tallies.{once, tally_append}
use Rattle.coordinator_laws.proofs.Ids.{ids_alone}
use Rattle.coordinator_laws.proofs.Leaving.{counted}
use Rattle.coordinator_laws.proofs.Counting.{Adds, IsExact, heartbeat_exact, leave_exact, expire_exact, rejoin_adds, join_new_adds, sync_adds, end_exact, end_none}

-- ---- moves of all groups

empty_tally : (k : ℕ) (ms : List Member) → (0 == length ms) ≡ true → tally (is_in_session k) ms ≡ 0
empty_tally k [] e = refl
empty_tally k (m ∷ ms) e = absurd (grind (arith, e))

kept_waiting : (k : ℕ) (g : Group) (gs : List Group) → tally_all (is_in_session k) (kept g ++ gs) ≡ tally (is_in_session k) g.members + tally_all (is_in_session k) gs
kept_waiting k g gs = by (0 == length g.members) refl where
  by : (b : Bool) → (0 == length g.members) ≡ b → tally_all (is_in_session k) (cond b [] (g ∷ []) ++ gs) ≡ tally (is_in_session k) g.members + tally_all (is_in_session k) gs
  by true e = omega (arith, empty_tally k g.members e)
  by false e = refl

abbrev AddsEach : ℕ → ℕ → Move → ℕ → List Group → Type 0
AddsEach k c a n gs = tally_all (is_in_session k) (move_each a n gs).groups + tally (is_for k) (move_each a n gs).refusals ≡ tally_all (is_in_session k) gs + c

each_exact : (k : ℕ) (a : Move) → ((n : ℕ) (g : Group) → Adds k 0 a n g) → (n : ℕ) (gs : List Group) → AddsEach k 0 a n gs
each_exact k a x n [] = refl
each_exact k a x n (g ∷ gs) = omega (
  arith,
  x n g,
  each_exact k a x (a n g).generations gs,
  kept_waiting k (a n g).group (move_each a (a n g).generations gs).groups,
  tally_append (is_for k) (a n g).refusals (move_each a (a n g).generations gs).refusals,
)

only_exact : (k : ℕ) (name : List ℕ) (a : Move) → ((n : ℕ) (g : Group) → Adds k 0 a n g) → (n : ℕ) (g : Group) → Adds k 0 (only name a) n g
only_exact k name a x n g = by_test (λ (m : Moved). tally (is_in_session k) m.group.members + tally (is_for k) m.refusals ≡ tally (is_in_session k) g.members + 0) (is_named name g) (a n g) (stays n g) (λ _. x n g) (λ _. refl)

-- groups of other names stay
others_exact : (k : ℕ) (name : List ℕ) (a : Move) (n : ℕ) (gs : List Group) → AllByRecursion (λ h. is_named name h ≡ false) gs → AddsEach k 0 (only name a) n gs
others_exact k name a n [] all = refl
others_exact k name a n (g ∷ gs) all =
    subst (λ (m : Moved). tally_all (is_in_session k) (kept m.group ++ (move_each (only name a) m.generations gs).groups) + tally (is_for k) (m.refusals ++ (move_each (only name a) m.generations gs).refusals)
    ≡ tally (is_in_session k) g.members + tally_all (is_in_session k) gs + 0)
    (ap (λ (b : Bool). cond b (a n g) (stays n g)) (sym all.0))
    (omega (arith, kept_waiting k g (move_each (only name a) n gs).groups, others_exact k name a n gs all.1))

-- the move of one group that is there adds what it adds
one_adds : (k c : ℕ) (name : List ℕ) (a : Move) (gs : List Group) (g : Group) → AreApart gs → find (is_named name) gs ≡ Some g → ((n : ℕ) → Adds k c a n g) → (n : ℕ) → AddsEach k c (only name a) n gs
one_adds k c name a [] g apart e x n = absurd (none-some g e)
one_adds k c name a (h ∷ hs) g apart e x n = by (is_named name h) refl e (one_adds k c name a hs g apart.1) where
  rest : is_named name h ≡ true → AllByRecursion (λ y. is_named name y ≡ false) hs
  rest f = subst (λ (y : List ℕ). AllByRecursion (λ z. is_named y z ≡ false) hs) ((bytes_eq-Decides h.name name).0 f) apart.0

  by : (b : Bool) → is_named name h ≡ b → cond b (Some h) (find (is_named name) hs) ≡ Some g → (find (is_named name) hs ≡ Some g → ((n : ℕ) → Adds k c a n g) → (n : ℕ) → AddsEach k c (only name a) n hs)
      → tally_all (is_in_session k) (kept (cond b (a n h) (stays n h)).group ++ (move_each (only name a) (cond b (a n h) (stays n h)).generations hs).groups)
      + tally (is_for k) ((cond b (a n h) (stays n h)).refusals ++ (move_each (only name a) (cond b (a n h) (stays n h)).generations hs).refusals)
      ≡ tally (is_in_session k) h.members + tally_all (is_in_session k) hs + c
  by true f e r =
      let here : Adds k c a n h = subst (λ (y : Group). Adds k c a n y) (sym (same_Some h g e)) (x n) in
      omega (
        arith,
        here,
        others_exact k name a (a n h).generations hs (rest f),
        kept_waiting k (a n h).group (move_each (only name a) (a n h).generations hs).groups,
        tally_append (is_for k) (a n h).refusals (move_each (only name a) (a n h).generations hs).refusals,
      )
  by false f e r = omega (arith, r e x n, kept_waiting k h (move_each (only name a) n hs).groups)

-- so many more wait
abbrev Waiting : ℕ → ℕ → (v w : Groups) → Type 0
Waiting k c v w = count_waiting k w ≡ count_waiting k v + c

moved_waiting : (k c : ℕ) (a : Move) (v : Groups) → AddsEach k c a v.generations v.groups → Waiting k c v (move_all a v)
moved_waiting k c a v x = omega (arith, x, tally_append (is_for k) v.refused (move_each a v.generations v.groups).refusals)

one_waiting : (k : ℕ) (name : List ℕ) (a : Move) → IsExact a → (v : Groups) → Waiting k 0 v (move_one name a v)
one_waiting k name a x v = moved_waiting k 0 (only name a) v (each_exact k (only name a) (only_exact k name a (x k)) v.generations v.groups)

-- ---- what is ready, and what is sent

abbrev is_ready_in : ℕ → Member → Bool
is_ready_in k m = is_in k m.wait && is_ready m.wait

-- a reply is there just where so many are ready
record Matches (r : Option Reply) (n : ℕ) : Type 0 where
  if_some : count_some r ≤ n
  if_none : r ≡ None → n ≡ 0

matches_or : (r s : Option Reply) (a b : ℕ) → Matches r a → Matches s b → Matches (option_or r s) (a + b)
matches_or None s a b x y = record { if_some = omega (arith, y.if_some); if_none = λ e. omega (arith, x.if_none refl, y.if_none e) }
matches_or (Some z) s a b x y = record { if_some = omega (arith, x.if_some); if_none = λ e. absurd (none-some z (sym e)) }

matches_one : (k j : ℕ) (r : Reply) → Matches (if j == k then Some r else None) (once ((j == k) && true))
matches_one k j r = by (j == k) where
  by : (b : Bool) → Matches (if b then Some r else None) (once (b && true))
  by true = record { if_some = omega arith; if_none = λ e. absurd (none-some r (sym e)) }
  by false = record { if_some = omega arith; if_none = λ e. refl }

matches_none : (b : Bool) → Matches None (once (b && false))
matches_none true = record { if_some = omega arith; if_none = λ e. refl }
matches_none false = record { if_some = omega arith; if_none = λ e. refl }

matches_member : (k : ℕ) (g : Group) (m : Member) (w : Wait) → Matches (reply_of k g m w) (once (is_in k w && is_ready w))
matches_member k g m No = record { if_some = omega arith; if_none = λ e. refl }
matches_member k g m (Joins j) = matches_none (j == k)
matches_member k g m (Syncs j) = matches_none (j == k)
matches_member k g m (Told j) = matches_one k j _
matches_member k g m (Assigned j) = matches_one k j _

matches_members : (k : ℕ) (g : Group) (ms : List Member) → Matches (reply_among k g ms) (tally (is_ready_in k) ms)
matches_members k g [] = record { if_some = omega arith; if_none = λ e. refl }
matches_members k g (m ∷ ms) = matches_or _ (reply_among k g ms) _ (tally (is_ready_in k) ms) (matches_member k g m m.wait) (matches_members k g ms)

matches_groups : (k : ℕ) (gs : List Group) → Matches (reply_in k gs) (tally_all (is_ready_in k) gs)
matches_groups k [] = record { if_some = omega arith; if_none = λ e. refl }
matches_groups k (g ∷ gs) = matches_or _ (reply_in k gs) _ (tally_all (is_ready_in k) gs) (matches_members k g g.members) (matches_groups k gs)

matches_refusals : (k : ℕ) (rs : List Refusal) → Matches (refusal_in k rs) (tally (is_for k) rs)
matches_refusals k [] = record { if_some = omega arith; if_none = λ e. refl }
matches_refusals k (r ∷ rs) = by (is_for k r) (matches_refusals k rs) where
  by : (b : Bool) → Matches (option_map (λ r. Refused r.error) (find (is_for k) rs)) (tally (is_for k) rs)
      → Matches (option_map (λ r. Refused r.error) (cond b (Some r) (find (is_for k) rs))) (once b + tally (is_for k) rs)
  by true x = record { if_some = omega arith; if_none = λ e. absurd (none-some (Refused r.error) (sym e)) }
  by false x = record { if_some = omega (arith, x.if_some); if_none = λ e. omega (arith, x.if_none e) }

abbrev count_ready : ℕ → Groups → ℕ
count_ready k v = tally_all (is_ready_in k) v.groups + tally (is_for k) v.refused

matches_ready : (k : ℕ) (v : Groups) → Matches (ready_for k v) (count_ready k v)
matches_ready k v = let x = matches_or (refusal_in k v.refused) (reply_in k v.groups) (tally (is_for k) v.refused) (tally_all (is_ready_in k) v.groups) (matches_refusals k v.refused) (matches_groups k v.groups) in
    record { if_some = omega (arith, x.if_some); if_none = λ e. omega (arith, x.if_none e) }

-- what is sent waits no more
sent_members : (k : ℕ) (ms : List Member) → tally (is_in_session k) (map (sent k) ms) + tally (is_ready_in k) ms ≡ tally (is_in_session k) ms
sent_members k [] = refl
sent_members k (m ∷ ms) = by (is_in k m.wait) (is_ready m.wait) refl (sent_members k ms) where
  by : (b r : Bool) → is_in k m.wait ≡ b → tally (is_in_session k) (map (sent k) ms) + tally (is_ready_in k) ms ≡ tally (is_in_session k) ms
      → once (is_in_session k (cond (b && r) (waits No m) m)) + tally (is_in_session k) (map (sent k) ms) + (once (b && r) + tally (is_ready_in k) ms) ≡ once b + tally (is_in_session k) ms
  by true true e x = omega (arith, x)
  by true false e x = let here : once (is_in_session k m) ≡ 1 = ap once e in omega (arith, here, x)
  by false r e x = let here : once (is_in_session k m) ≡ 0 = ap once e in omega (arith, here, x)

sent_groups : (k : ℕ) (gs : List Group) → tally_all (is_in_session k) (map (sent_group k) gs) + tally_all (is_ready_in k) gs ≡ tally_all (is_in_session k) gs
sent_groups k [] = refl
sent_groups k (g ∷ gs) = omega (arith, sent_members k g.members, sent_groups k gs)

in_one : (j k : ℕ) → (j == k) ≡ false → (w : Wait) → is_in j w ≡ true → is_in k w ≡ false
in_one j k apart No e = refl
in_one j k apart (Joins i) e = grind (arith, apart, e)
in_one j k apart (Syncs i) e = grind (arith, apart, e)
in_one j k apart (Told i) e = grind (arith, apart, e)
in_one j k apart (Assigned i) e = grind (arith, apart, e)

others_sent : (j k : ℕ) → (j == k) ≡ false → (ms : List Member) → tally (is_in_session k) (map (sent j) ms) ≡ tally (is_in_session k) ms
others_sent j k apart [] = refl
others_sent j k apart (m ∷ ms) = by (is_in j m.wait) (is_ready m.wait) refl (others_sent j k apart ms) where
  by : (b r : Bool) → is_in j m.wait ≡ b → tally (is_in_session k) (map (sent j) ms) ≡ tally (is_in_session k) ms
      → once (is_in_session k (cond (b && r) (waits No m) m)) + tally (is_in_session k) (map (sent j) ms) ≡ once (is_in_session k m) + tally (is_in_session k) ms
  by true true e x = let here : once (is_in_session k m) ≡ 0 = ap once (in_one j k apart m.wait e) in omega (arith, here, x)
  by true false e x = omega (arith, x)
  by false r e x = omega (arith, x)

others_sent_all : (j k : ℕ) → (j == k) ≡ false → (gs : List Group) → tally_all (is_in_session k) (map (sent_group j) gs) ≡ tally_all (is_in_session k) gs
others_sent_all j k apart [] = refl
others_sent_all j k apart (g ∷ gs) = omega (arith, others_sent j k apart g.members, others_sent_all j k apart gs)

gone_refusals : (k : ℕ) (rs : List Refusal) → tally (is_for k) (filter (λ r. not (is_for k r)) rs) ≡ 0
gone_refusals k [] = refl
gone_refusals k (r ∷ rs) = by (is_for k r) refl (gone_refusals k rs) where
  by : (b : Bool) → is_for k r ≡ b → tally (is_for k) (filter (λ r. not (is_for k r)) rs) ≡ 0 → tally (is_for k) (cond (not b) (r ∷ filter (λ r. not (is_for k r)) rs) (filter (λ r. not (is_for k r)) rs)) ≡ 0
  by true e x = x
  by false e x = let here : once (is_for k r) ≡ 0 = ap once e in omega (arith, here, x)

other_refusals : (j k : ℕ) → (j == k) ≡ false → (rs : List Refusal) → tally (is_for k) (filter (λ r. not (is_for j r)) rs) ≡ tally (is_for k) rs
other_refusals j k apart [] = refl
other_refusals j k apart (r ∷ rs) = by (is_for j r) refl (other_refusals j k apart rs) where
  by : (b : Bool) → is_for j r ≡ b → tally (is_for k) (filter (λ r. not (is_for j r)) rs) ≡ tally (is_for k) rs
      → tally (is_for k) (cond (not b) (r ∷ filter (λ r. not (is_for j r)) rs) (filter (λ r. not (is_for j r)) rs)) ≡ once (is_for k r) + tally (is_for k) rs
  by true e x = let other : is_for k r ≡ false = grind (arith, apart, e) in let here : once (is_for k r) ≡ 0 = ap once other in omega (arith, here, x)
  by false e x = omega (arith, x)

-- a reply that was released, where at most one waits
released : (k : ℕ) (v : Groups) → count_waiting k v ≤ 1 → count_waiting k (without_ready k v) + count_some (ready_for k v) ≡ count_waiting k v
released k v few = by (ready_for k v) refl where
  all_sent : count_waiting k (without_ready k v) + count_ready k v ≡ count_waiting k v
  all_sent = omega (arith, sent_groups k v.groups, gone_refusals k v.refused)

  by : (r : Option Reply) → ready_for k v ≡ r → count_waiting k (without_ready k v) + count_some r ≡ count_waiting k v
  by None e = omega (arith, all_sent, (matches_ready k v).if_none e)
  by (Some x) e = let one : 1 ≤ count_ready k v = subst (λ (r : Option Reply). count_some r ≤ count_ready k v) e (matches_ready k v).if_some in
      omega (arith, all_sent, one, few)

released_others : (j k : ℕ) (v : Groups) → (j == k) ≡ false → count_waiting k (without_ready j v) ≡ count_waiting k v
released_others j k v apart = omega (arith, others_sent_all j k apart v.groups, other_refusals j k apart v.refused)

-- ---- what each act does

-- what waits behind an act in a session, with what was replied, is what waited, with what was asked
abbrev AddsUp : ℕ → (v w : Groups) → (replies asks : ℕ) → Type 0
AddsUp k v w r q = count_waiting k w + r ≡ count_waiting k v + q

-- a reply at once
once_answered : (j k : ℕ) (b : Bool) (v w : Groups) → Waiting k 0 v w → AddsUp k v w (cond b 1 0) (cond b 1 0)
once_answered j k b v w x = omega (arith, x)

abbrev AddsOf : (j k : ℕ) → Groups → Answered → Type 0
AddsOf j k v x = AddsUp k v x.groups (cond (j == k) (count_some x.reply) 0) (cond (j == k) 1 0)

refused_up : (j k : ℕ) (e : GroupError) (v : Groups) → AddsOf j k v (at_once (Refused e) v)
refused_up j k e v = refl

-- a request that is placed, and released if it is ready
placed : (j k : ℕ) (v w : Groups) → ((s : ℕ) → Waiting s (once (j == s)) v w) → count_waiting j v ≡ 0 → AddsOf j k v (release j w)
placed j k v w x free = by (j == k) refl where
  same : (a b : ℕ) → (a == b) ≡ true → a ≡ b
  same a b e = grind (arith, e)

  self : once (j == j) ≡ 1
  self = ap once (own j) where
    own : (a : ℕ) → (a == a) ≡ true
    own a = grind arith

  mine : AddsUp j v (without_ready j w) (count_some (ready_for j w)) 1
  mine = omega (arith, released j w (omega (arith, x j, free, self)), x j, self)

  by : (b : Bool) → (j == k) ≡ b → AddsUp k v (without_ready j w) (cond b (count_some (ready_for j w)) 0) (cond b 1 0)
  by true e = subst (λ (s : ℕ). AddsUp s v (without_ready j w) (count_some (ready_for j w)) 1) (same j k e) mine
  by false e = let none : once (j == k) ≡ 0 = ap once e in omega (arith, released_others j k w e, x k, none)

room_up : (full j k : ℕ) (v w : Groups) → ((s : ℕ) → Waiting s (once (j == s)) v w) → count_waiting j v ≡ 0 → AddsOf j k v (if_room full v w j)
room_up full j k v w x free = by_test (AddsOf j k v) (nat_lt MOST_BYTES full || nat_lt MOST_IDS w.ids) (at_once _ v) (release j w) (λ _. refl) (λ _. placed j k v w x free)

-- ---- who is found

tally_found : (t : Member → Bool) (u : Group → Bool) (gs : List Group) (g : Group) → find u gs ≡ Some g → tally t g.members ≤ tally_all t gs
tally_found t u [] g e = absurd (none-some g e)
tally_found t u (h ∷ hs) g e = by (u h) e (tally_found t u hs g) where
  by : (b : Bool) → cond b (Some h) (find u hs) ≡ Some g → (find u hs ≡ Some g → tally t g.members ≤ tally_all t hs) → tally t g.members ≤ tally t h.members + tally_all t hs
  by true e r = omega (arith, subst (λ (x : Group). tally t x.members ≤ tally t h.members) (same_Some h g e) (omega arith))
  by false e r = omega (arith, r e)

abbrev AreAlone : Groups → Type 0
AreAlone v = (id : List ℕ) → tally_all (has_id id) v.groups ≤ 1

-- the member that is found is the only one
one_member : (name id : List ℕ) (v : Groups) (g : Group) (m : Member) → AreAlone v → group_named name v ≡ Some g → member_of id g ≡ Some m → tally (has_id id) g.members ≡ 1
one_member name id v g m alone e f = omega (arith, alone id, tally_found (has_id id) (is_named name) v.groups g e, counted (has_id id) g.members m f)

-- ---- joins and syncs

record HasMember (name id : List ℕ) (v : Groups) : Type 0 where
  group : Group
  member : Member
  is_group : group_named name v ≡ Some group
  is_member : member_of id group ≡ Some member

known_member : (id name : List ℕ) (v : Groups) (r : Option Group) → group_named name v ≡ r → unknown_fault id r ≡ None → HasMember name id v
known_member id name v None e none = absurd (none-some UnknownMember (sym none))
known_member id name v (Some g) e none = by (member_of id g) refl (no_fault (is_none (member_of id g)) UnknownMember none) where
  by : (m : Option Member) → member_of id g ≡ m → is_none m ≡ false → HasMember name id v
  by None f n = absurd (true≢false n)
  by (Some m) f n = record { group = g; member = m; is_group = e; is_member = f }

rejoined_waiting : (j : ℕ) (q : JoinRequest) (v : Groups) → AreSound v → AreAlone v → HasMember q.group q.member v → (s : ℕ) → Waiting s (once (j == s)) v (move_one q.group (rejoin v.settings v.now j q) v)
rejoined_waiting j q v sound alone h s = moved_waiting s (once (j == s)) (only q.group (rejoin v.settings v.now j q)) v
    (one_adds s (once (j == s)) q.group (rejoin v.settings v.now j q) v.groups h.group sound.apart h.is_group
    (λ n. rejoin_adds v.settings v.now s j q n h.group (one_member q.group q.member v h.group h.member alone h.is_group h.is_member)) v.generations)

synced_waiting : (j : ℕ) (q : SyncRequest) (v : Groups) → AreSound v → AreAlone v → HasMember q.group q.member v → (s : ℕ) → Waiting s (once (j == s)) v (move_one q.group (sync v.now j q) v)
synced_waiting j q v sound alone h s = moved_waiting s (once (j == s)) (only q.group (sync v.now j q)) v
    (one_adds s (once (j == s)) q.group (sync v.now j q) v.groups h.group sound.apart h.is_group
    (λ n. sync_adds v.now s j q n h.group (one_member q.group q.member v h.group h.member alone h.is_group h.is_member)) v.generations)

-- a group of this name is there, and as many wait
record IsOpened (name kind : List ℕ) (v : Groups) (w : Groups) : Type 0 where
  group : Group
  is_group : group_named name w ≡ Some group
  waiting : (s : ℕ) → Waiting s 0 v w
  apart : AreApart w.groups

opened : (name kind : List ℕ) (v : Groups) → AreSound v → IsOpened name kind v (with_group name kind v)
opened name kind v sound = by (group_named name v) refl where
  more : Groups
  more = record v { groups = v.groups ++ new_group name kind ∷ [] }

  own : bytes_eq name name ≡ true
  own = (bytes_eq-Decides name name).1 refl

  found : (gs : List Group) → find (is_named name) gs ≡ None → find (is_named name) (gs ++ new_group name kind ∷ []) ≡ Some (new_group name kind)
  found [] e = ap (λ (b : Bool). cond b (Some (new_group name kind)) None) own
  found (g ∷ gs) e = by (is_named name g) e (found gs) where
    by : (b : Bool) → cond b (Some g) (find (is_named name) gs) ≡ None → (find (is_named name) gs ≡ None → find (is_named name) (gs ++ new_group name kind ∷ []) ≡ Some (new_group name kind))
        → cond b (Some g) (find (is_named name) (gs ++ new_group name kind ∷ [])) ≡ Some (new_group name kind)
    by true e r = absurd (none-some g (sym e))
    by false e r = r e

  count : (s : ℕ) (gs : List Group) → tally_all (is_in_session s) (gs ++ new_group name kind ∷ []) ≡ tally_all (is_in_session s) gs
  count s [] = refl
  count s (g ∷ gs) = omega (arith, count s gs)

  by : (r : Option Group) → group_named name v ≡ r → IsOpened name kind v (if is_none r then more else v)
  by None e = record {
    group = new_group name kind;
    is_group = found v.groups e;
    waiting = λ s. omega (arith, count s v.groups);
    apart = apart_more v.groups (new_group name kind) (find_none (is_named name) v.groups e) sound.apart;
  }
  by (Some g) e = record { group = g; is_group = e; waiting = λ s. omega arith; apart = sound.apart }

joined_new_waiting : (j : ℕ) (client : List ℕ) (q : JoinRequest) (v : Groups) → AreSound v → (s : ℕ)
    → Waiting s (once (j == s)) v (move_one q.group (join_new v.settings v.now j v.ids client q) (record (with_group q.group q.kind v) { ids = v.ids + 1 }))
joined_new_waiting j client q v sound s =
    let o = opened q.group q.kind v sound in
    let moved = moved_waiting s (once (j == s)) (only q.group (join_new v.settings v.now j v.ids client q)) (record (with_group q.group q.kind v) { ids = v.ids + 1 })
    (one_adds s (once (j == s)) q.group (join_new v.settings v.now j v.ids client q) (with_group q.group q.kind v).groups o.group o.apart o.is_group
    (λ n. join_new_adds v.settings v.now s j v.ids client q n o.group) (with_group q.group q.kind v).generations) in
    omega (arith, moved, o.waiting s)

joined_waiting : (j : ℕ) (client : List ℕ) (q : JoinRequest) (v : Groups) → AreSound v → AreAlone v → join_fault v q ≡ None → (s : ℕ) → Waiting s (once (j == s)) v (joined j client q v)
joined_waiting j client q v sound alone e s = by_test (λ (w : Groups). Waiting s (once (j == s)) v w) (0 == length q.member)
    (move_one q.group (join_new v.settings v.now j v.ids client q) (record (with_group q.group q.kind v) { ids = v.ids + 1 })) (move_one q.group (rejoin v.settings v.now j q) v)
    (λ _. joined_new_waiting j client q v sound s) (λ some. rejoined_waiting j q v sound alone (member some) s) where
      at : Option Group
      at = group_named q.group v

      after_group : option_or (fault_if (int_lt q.session LEAST_SESSION || int_lt MOST_SESSION q.session) InvalidSession)
          (option_or (fault_if (not (protocol_fits q at)) InconsistentProtocol) (id_fault q.member at)) ≡ None
      after_group = (or_none (group_fault v.settings q.group) _ e).1

      after_session : option_or (fault_if (not (protocol_fits q at)) InconsistentProtocol) (id_fault q.member at) ≡ None
      after_session = (or_none (fault_if (int_lt q.session LEAST_SESSION || int_lt MOST_SESSION q.session) InvalidSession) _ after_group).1

      known : id_fault q.member at ≡ None
      known = (or_none (fault_if (not (protocol_fits q at)) InconsistentProtocol) (id_fault q.member at) after_session).1

      member : (0 == length q.member) ≡ false → HasMember q.group q.member v
      member some = known_member q.member q.group v at refl (subst (λ (b : Bool). (if b then None else unknown_fault q.member at) ≡ None) some known)

join_up : (j k : ℕ) (client : List ℕ) (q : JoinRequest) (v : Groups) → AreSound v → AreAlone v → count_waiting j v ≡ 0 → (r : Option GroupError) → join_fault v q ≡ r → AddsOf j k v (ask_join j client q v r)
join_up j k client q v sound alone free (Some x) e = refl
join_up j k client q v sound alone free None e = room_up (all_bytes (entered j client q v)) j k v (joined j client q v) (joined_waiting j client q v sound alone e) free

sync_up : (j k : ℕ) (q : SyncRequest) (v : Groups) → AreSound v → AreAlone v → count_waiting j v ≡ 0 → (r : Option GroupError) → sync_fault v q ≡ r → AddsOf j k v (ask_sync j q v r)
sync_up j k q v sound alone free (Some x) e = refl
sync_up j k q v sound alone free None e = room_up (all_bytes (move_one q.group (sync v.now j q) v)) j k v (move_one q.group (sync v.now j q) v) (synced_waiting j q v sound alone (record { group = one.group; member = one.member; is_group = one.has_group; is_member = one.has_member })) free where
  one : IsOneOf v q.group q.generation q.member
  one = one_of v q.group q.generation q.member (group_named q.group v) refl
      (or_none (member_fault q.generation q.member (group_named q.group v)) _ (or_none (group_fault v.settings q.group) _ e).1).0

heartbeat_up : (j k : ℕ) (name id : List ℕ) (v : Groups) → (r : Option GroupError) → AddsOf j k v (ask_heartbeat name id v r)
heartbeat_up j k name id v (Some x) = refl
heartbeat_up j k name id v None = omega (arith, one_waiting k name (heartbeat v.now id) (heartbeat_exact v.now id) v)

leave_up : (j k : ℕ) (name id : List ℕ) (v : Groups) → (r : Option GroupError) → AddsOf j k v (ask_leave name id v r)
leave_up j k name id v (Some x) = refl
leave_up j k name id v None = omega (arith, one_waiting k name (leave v.settings v.now id) (leave_exact v.settings v.now id) v)

asked_up : (j k : ℕ) (client : List ℕ) (q : Request) (v : Groups) → AreSound v → AreAlone v → count_waiting j v ≡ 0 → AddsOf j k v (asked j client q v)
asked_up j k client (Join q) v sound alone free = join_up j k client q v sound alone free (join_fault v q) refl
asked_up j k client (Sync q) v sound alone free = sync_up j k q v sound alone free (sync_fault v q) refl
asked_up j k client (Heartbeat name generation id) v sound alone free = heartbeat_up j k name id v (option_or (group_fault v.settings name) (member_fault generation id (group_named name v)))
asked_up j k client (Leave name id) v sound alone free = leave_up j k name id v (option_or (group_fault v.settings name) (unknown_fault id (group_named name v)))

release_up : (j k : ℕ) (v : Groups) → ((s : ℕ) → count_waiting s v ≤ 1) → AddsUp k v (without_ready j v) (cond (j == k) (count_some (ready_for j v)) 0) 0
release_up j k v few = by (j == k) refl where
  same : (a b : ℕ) → (a == b) ≡ true → a ≡ b
  same a b e = grind (arith, e)

  by : (b : Bool) → (j == k) ≡ b → AddsUp k v (without_ready j v) (cond b (count_some (ready_for j v)) 0) 0
  by true e = subst (λ (s : ℕ). AddsUp s v (without_ready j v) (count_some (ready_for j v)) 0) (same j k e) (omega (arith, released j v (few j)))
  by false e = omega (arith, released_others j k v e)

commit_up : (k : ℕ) (name id : List ℕ) (v : Groups) → (r : Option GroupError) → AddsUp k v (commit_done name id v r) 0 0
commit_up k name id v None = omega (arith, one_waiting k name (heartbeat v.now id) (heartbeat_exact v.now id) v)
commit_up k name id v (Some x) = refl

end_up : (j k : ℕ) (v : Groups) → (j == k) ≡ false → AddsUp k v (gone j v) 0 0
end_up j k v apart = omega (
  arith,
  other_refusals j k apart v.refused,
  moved_waiting k 0 (end_session v.now j) (record v { refused = filter (λ r. not (is_for j r)) v.refused }) (each_exact k (end_session v.now j) (λ n g. end_exact v.now j k n g apart) v.generations v.groups),
)

each_ended : (k now n : ℕ) (gs : List Group) → tally_all (is_in_session k) (move_each (end_session now k) n gs).groups + tally (is_for k) (move_each (end_session now k) n gs).refusals ≡ 0
each_ended k now n [] = refl
each_ended k now n (g ∷ gs) = omega (
  arith,
  end_none now k n g,
  each_ended k now (end_session now k n g).generations gs,
  kept_waiting k (end_session now k n g).group (move_each (end_session now k) (end_session now k n g).generations gs).groups,
  tally_append (is_for k) (end_session now k n g).refusals (move_each (end_session now k) (end_session now k n g).generations gs).refusals,
)

pub ended_none : (k : ℕ) (v : Groups) → count_waiting k (gone k v) ≡ 0
ended_none k v = omega (
  arith,
  each_ended k v.now v.generations v.groups,
  gone_refusals k v.refused,
  tally_append (is_for k) (filter (λ r. not (is_for k r)) v.refused) (move_each (end_session v.now k) v.generations v.groups).refusals,
)

pub act_up : (a : Act) (k : ℕ) (v : Groups) → AreSound v → AreAlone v → ((s : ℕ) → count_waiting s v ≤ 1) → AsksWhileFree a v → is_end k a ≡ false
    → AddsUp k v (after a v) (count_replied k a v) (count_asked k a)
act_up (Ask j client q) k v sound alone few free e = asked_up j k client q v sound alone free
act_up (Release j) k v sound alone few free e = release_up j k v few
act_up (Commit name generation id) k v sound alone few free e = commit_up k name id v (commit_fault name generation id v)
act_up (End j) k v sound alone few free e = end_up j k v e
act_up (Clock t) k v sound alone few free e = refl
act_up Expire k v sound alone few free e = omega (arith, moved_waiting k 0 (expire_group v.settings v.now) v (each_exact k (expire_group v.settings v.now) (expire_exact v.settings v.now k) v.generations v.groups))

-- ---- over any acts

asks_free : (a : Act) (k : ℕ) (v : Groups) → AsksWhileFree a v → count_waiting k v ≤ 1 → count_waiting k v + count_asked k a ≤ 1
asks_free (Ask j client q) k v free few = by (j == k) refl where
  same : (a b : ℕ) → (a == b) ≡ true → a ≡ b
  same a b e = grind (arith, e)

  by : (b : Bool) → (j == k) ≡ b → count_waiting k v + once b ≤ 1
  by true e = omega (arith, subst (λ (s : ℕ). count_waiting s v ≡ 0) (same j k e) free)
  by false e = omega (arith, few)
asks_free (Release j) k v free few = omega (arith, few)
asks_free (Commit name generation id) k v free few = omega (arith, few)
asks_free (End j) k v free few = omega (arith, few)
asks_free (Clock t) k v free few = omega (arith, few)
asks_free Expire k v free few = omega (arith, few)

ends : (a : Act) (k : ℕ) (v : Groups) → is_end k a ≡ true → count_waiting k (after a v) ≡ 0
ends (Ask j client q) k v e = absurd (true≢false (sym e))
ends (Release j) k v e = absurd (true≢false (sym e))
ends (Commit name generation id) k v e = absurd (true≢false (sym e))
ends (End j) k v e = subst (λ (s : ℕ). count_waiting s (gone j v) ≡ 0) (same j k e) (ended_none j v) where
  same : (a b : ℕ) → (a == b) ≡ true → a ≡ b
  same a b e = grind (arith, e)
ends (Clock t) k v e = absurd (true≢false (sym e))
ends Expire k v e = absurd (true≢false (sym e))

pub one_waits : (o : Settings) (acts : List Act) → AllAskWhileFree o acts → (k : ℕ) → count_waiting k (behind_all o acts) ≤ 1
one_waits o [] free k = omega arith
one_waits o (a ∷ before) free k = by (one_waits o before free.1) (is_end k a) refl where
  v : Groups
  v = behind_all o before

  by : ((s : ℕ) → count_waiting s v ≤ 1) → (b : Bool) → is_end k a ≡ b → count_waiting k (after a v) ≤ 1
  by few true e = omega (arith, ends a k v e)
  by few false e = omega (arith, act_up a k v (groups_sound o before) (ids_alone o before) few free.0 e, asks_free a k v free.0 (few k))

pub one_reply : (o : Settings) (a : Act) (before : List Act) → AllAskWhileFree o (a ∷ before) → (k : ℕ) → is_end k a ≡ false
    → count_waiting k (after a (behind_all o before)) + count_replied k a (behind_all o before) ≡ count_waiting k (behind_all o before) + count_asked k a
one_reply o a before free k e = act_up a k (behind_all o before) (groups_sound o before) (ids_alone o before) (one_waits o before free.1) free.0 e
