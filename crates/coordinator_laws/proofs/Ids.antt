-- An id is one member's, and isn't given again.
use Rattle.std.proofs.Common.{◌≡◌, ◌⊎◌, ℕ, ◌+◌, ◌<◌, ◌≤◌, ◌==◌, Bool, true, false, cond, not, ◌&&◌, ◌||◌, nat_lt, List, [], ◌∷◌, ◌++◌, length, refl, sym, ap, subst, ◌∙◌, arith, true≢false, inl, inr}
use Rattle.std.specs.Prelude.{Option, Some, None}
use Rattle.std.specs.Option.{option_or, is_none}
use Rattle.std.specs.Str.{bytes_eq}
use Rattle.std.proofs.lemmas.Slice.Eq.{bytes_eq-Decides}
use Rattle.group_coordinator.specs.declared.values.GroupError.{GroupError}
use Rattle.group_coordinator.specs.declared.values.TheConstants.{MOST_BYTES, MOST_IDS}
use Rattle.group_coordinator.specs.declared.values.Settings.{Settings}
use Rattle.group_coordinator.specs.Members.{Member, has_id, hex, member_id}
use Rattle.group_coordinator.specs.Groups.{Group, Move, new_group}
use Rattle.group_coordinator.specs.Requests.{JoinRequest, SyncRequest, Request}
use Rattle.group_coordinator.specs.Requests.Request.{Join, Sync, Heartbeat, Leave}
use Rattle.group_coordinator.specs.Joining.{rejoin, join_new, sync, heartbeat, leave, end_session}
use Rattle.group_coordinator.specs.Coordinators.{Groups, group_named, move_all, move_one, only, all_bytes, without_ready, release, at_once, Answered, group_fault, member_fault, unknown_fault, sync_fault, join_fault, if_room, with_group, entered, ask_join, ask_sync, ask_heartbeat, ask_leave, asked, commit_fault, is_named}
use Rattle.group_coordinator.specs.Times.{clock, expire_group}
use Rattle.group_coordinator.specs.Runs.{Act, after, commit_done, behind_all}
use Rattle.group_coordinator.specs.Runs.Act.{Ask, Release, Commit, End, Clock, Expire}
use Rattle.coordinator_laws.specs.Ids.{tally, tally_all, IsNobodys, WasGiven}
use Rattle.group_coordinator.specs.Keeping.{AreApart}
use Rattle.coordinator_laws.specs.Soundness.{AreSound}
use Rattle.coordinator_laws.proofs.Lists.{by_test, find_none}
use Rattle.coordinator_laws.proofs.Digits.{number_part, part_of_id, same_number}
use Rattle.coordinator_laws.proofs.Lifting.{apart_more}
use Rattle.coordinator_laws.proofs.Acting.{groups_sound}
use Rattle.coordinator_laws.proofs.Tallies.{once, OnId, passes, NoMore, each_more, only_more, one_more, sent_tally, rejoin_more, join_new_more, sync_more, heartbeat_more, leave_more, end_more, expire_more}

-- ---- what an act does to the members

-- No more members pass a test than before.
pub record Keeps (v w : Groups) : Type 0 where
  pub settings : w.settings ≡ v.settings
  pub ids : w.ids ≡ v.ids
  pub few : (t : OnId) → tally_all (passes t) w.groups ≤ tally_all (passes t) v.groups

-- A member joined: no more pass, but for it.
pub record Gains (v w : Groups) : Type 0 where
  pub settings : w.settings ≡ v.settings
  pub client : List ℕ
  pub ids : w.ids ≡ v.ids + 1
  pub room : w.ids ≤ MOST_IDS
  pub few : (t : OnId) → tally_all (passes t) w.groups ≤ tally_all (passes t) v.groups + cond (t (member_id client v.settings.start v.ids) v.ids) 1 0

abbrev pub Grows : (v w : Groups) → Type 0
Grows v w = Keeps v w ⊎ Gains v w

keeps_same : (v w : Groups) → w.settings ≡ v.settings → w.ids ≡ v.ids → w.groups ≡ v.groups → Keeps v w
keeps_same v w s i gs = record { settings = s; ids = i; few = λ t. omega (arith, ap (tally_all (passes t)) gs) }

keeps_all : (a : Move) → NoMore a → (v : Groups) → Keeps v (move_all a v)
keeps_all a w v = record { settings = refl; ids = refl; few = λ t. each_more a w t v.generations v.groups }

keeps_one : (name : List ℕ) (a : Move) → NoMore a → (v : Groups) → Keeps v (move_one name a v)
keeps_one name a w v = keeps_all (only name a) (only_more name a w) v

-- what is sent changes nothing of it
sent_keeps : (k : ℕ) (v w : Groups) → Keeps v w → Keeps v (without_ready k w)
sent_keeps k v w x = record { settings = x.settings; ids = x.ids; few = λ t. omega (arith, sent_tally t k w.groups, x.few t) }

sent_gains : (k : ℕ) (v w : Groups) → Gains v w → Gains v (without_ready k w)
sent_gains k v w x = record { settings = x.settings; client = x.client; ids = x.ids; room = x.room; few = λ t. omega (arith, sent_tally t k w.groups, x.few t) }

room_keeps : (full k : ℕ) (v w : Groups) → Keeps v w → Grows v (if_room full v w k).groups
room_keeps full k v w x = by_test (λ (y : Answered). Grows v y.groups) (nat_lt MOST_BYTES full || nat_lt MOST_IDS w.ids) (at_once _ v) (release k w)
    (λ _. inl (keeps_same v v refl refl refl)) (λ _. inl (sent_keeps k v w x))

-- ---- a join

-- what a join with an empty id gains, where there is room
new_gains : (k : ℕ) (client : List ℕ) (q : JoinRequest) (v : Groups) → AreSound v
    → (w : Groups) → w ≡ move_one q.group (join_new v.settings v.now k v.ids client q) (record (with_group q.group q.kind v) { ids = v.ids + 1 }) → w.ids ≤ MOST_IDS → Gains v w
new_gains k client q v s w is room = record {
  settings = ap (λ (x : Groups). x.settings) is ∙ opened_settings;
  client = client;
  ids = ap (λ (x : Groups). x.ids) is;
  room = room;
  few = λ t. omega (
    arith,
    ap (λ (x : Groups). tally_all (passes t) x.groups) is,
    one_more q.group (join_new v.settings v.now k v.ids client q) t _ (join_new_more v.settings v.now k v.ids client q t) opened.generations opened.groups (opened_apart s),
    opened_tally t,
  );
} where
  opened : Groups
  opened = record (with_group q.group q.kind v) { ids = v.ids + 1 }

  opened_settings : opened.settings ≡ v.settings
  opened_settings = by_test (λ (x : Groups). x.settings ≡ v.settings) (is_none (group_named q.group v)) (record v { groups = v.groups ++ new_group q.group q.kind ∷ [] }) v (λ _. refl) (λ _. refl)

  more : (t : OnId) (gs : List Group) → tally_all (passes t) (gs ++ new_group q.group q.kind ∷ []) ≡ tally_all (passes t) gs
  more t [] = refl
  more t (g ∷ gs) = λ i. tally (passes t) g.members + more t gs i

  opened_tally : (t : OnId) → tally_all (passes t) opened.groups ≡ tally_all (passes t) v.groups
  opened_tally t = by_test (λ (x : Groups). tally_all (passes t) x.groups ≡ tally_all (passes t) v.groups) (is_none (group_named q.group v)) (record v { groups = v.groups ++ new_group q.group q.kind ∷ [] }) v
      (λ _. more t v.groups) (λ _. refl)

  no_group : (r : Option Group) → is_none r ≡ true → r ≡ None
  no_group None e = refl
  no_group (Some x) e = absurd (true≢false (sym e))

  opened_apart : AreSound v → AreApart opened.groups
  opened_apart s = by_test (λ (x : Groups). AreApart x.groups) (is_none (group_named q.group v)) (record v { groups = v.groups ++ new_group q.group q.kind ∷ [] }) v
      (λ e. apart_more v.groups (new_group q.group q.kind) (find_none (is_named q.group) v.groups (no_group (group_named q.group v) e)) s.apart) (λ _. s.apart)

join_grows : (k : ℕ) (client : List ℕ) (q : JoinRequest) (v : Groups) → AreSound v → (r : Option GroupError) → Grows v (ask_join k client q v r).groups
join_grows k client q v s (Some x) = inl (keeps_same v v refl refl refl)
join_grows k client q v s None = by (0 == length q.member) refl where
  full : ℕ
  full = all_bytes (entered k client q v)

  by : (b : Bool) → (0 == length q.member) ≡ b → Grows v (if_room full v (cond b (move_one q.group (join_new v.settings v.now k v.ids client q) (record (with_group q.group q.kind v) { ids = v.ids + 1 })) (move_one q.group (rejoin v.settings v.now k q) v)) k).groups
  by false e = room_keeps full k v _ (keeps_one q.group (rejoin v.settings v.now k q) (rejoin_more v.settings v.now k q) v)
  by true e = by_test (λ (y : Answered). Grows v y.groups) (nat_lt MOST_BYTES full || nat_lt MOST_IDS w.ids) (at_once _ v) (release k w)
      (λ _. inl (keeps_same v v refl refl refl)) (λ f. inr (sent_gains k v w (new_gains k client q v s w refl (room (nat_lt MOST_BYTES full) f)))) where
        w : Groups
        w = move_one q.group (join_new v.settings v.now k v.ids client q) (record (with_group q.group q.kind v) { ids = v.ids + 1 })

        room : (b : Bool) → (b || nat_lt MOST_IDS (v.ids + 1)) ≡ false → v.ids + 1 ≤ MOST_IDS
        room b f = grind (arith, f)

-- ---- each act

commit_keeps : (name id : List ℕ) (v : Groups) → (r : Option GroupError) → Grows v (commit_done name id v r)
commit_keeps name id v None = inl (keeps_one name (heartbeat v.now id) (heartbeat_more v.now id) v)
commit_keeps name id v (Some x) = inl (keeps_same v v refl refl refl)

sync_keeps : (k : ℕ) (q : SyncRequest) (v : Groups) → (r : Option GroupError) → Grows v (ask_sync k q v r).groups
sync_keeps k q v (Some x) = inl (keeps_same v v refl refl refl)
sync_keeps k q v None = room_keeps (all_bytes (move_one q.group (sync v.now k q) v)) k v _ (keeps_one q.group (sync v.now k q) (sync_more v.now k q) v)

heartbeat_keeps : (name id : List ℕ) (v : Groups) → (r : Option GroupError) → Grows v (ask_heartbeat name id v r).groups
heartbeat_keeps name id v (Some x) = inl (keeps_same v v refl refl refl)
heartbeat_keeps name id v None = inl (keeps_one name (heartbeat v.now id) (heartbeat_more v.now id) v)

leave_keeps : (name id : List ℕ) (v : Groups) → (r : Option GroupError) → Grows v (ask_leave name id v r).groups
leave_keeps name id v (Some x) = inl (keeps_same v v refl refl refl)
leave_keeps name id v None = inl (keeps_one name (leave v.settings v.now id) (leave_more v.settings v.now id) v)

asked_grows : (k : ℕ) (client : List ℕ) (q : Request) (v : Groups) → AreSound v → Grows v (asked k client q v).groups
asked_grows k client (Join q) v s = join_grows k client q v s (join_fault v q)
asked_grows k client (Sync q) v s = sync_keeps k q v (sync_fault v q)
asked_grows k client (Heartbeat name generation id) v s = heartbeat_keeps name id v (option_or (group_fault v.settings name) (member_fault generation id (group_named name v)))
asked_grows k client (Leave name id) v s = leave_keeps name id v (option_or (group_fault v.settings name) (unknown_fault id (group_named name v)))

pub act_grows : (a : Act) (v : Groups) → AreSound v → Grows v (after a v)
act_grows (Ask k client q) v s = asked_grows k client q v s
act_grows (Release k) v s = inl (sent_keeps k v v (keeps_same v v refl refl refl))
act_grows (Commit name generation id) v s = commit_keeps name id v (commit_fault name generation id v)
act_grows (End k) v s = inl (record { settings = refl; ids = refl; few = λ t. each_more (end_session v.now k) (end_more v.now k) t v.generations v.groups })
act_grows (Clock t) v s = inl (keeps_same v (clock t v) refl refl refl)
act_grows Expire v s = inl (keeps_all (expire_group v.settings v.now) (expire_more v.settings v.now) v)

-- ---- ids

abbrev is_id : List ℕ → OnId
is_id id x n = bytes_eq x id

-- an id ends in its number, which was given
abbrev not_given : ℕ → OnId
not_given ids id n = not (bytes_eq (number_part id) (hex 16 n) && nat_lt n ids)

record HaveIds (v : Groups) : Type 0 where
  few : v.ids ≤ MOST_IDS
  given : tally_all (passes (not_given v.ids)) v.groups ≡ 0
  alone : (id : List ℕ) → tally_all (has_id id) v.groups ≤ 1

-- a test that is weaker passes fewer
weaker : (t u : OnId) → ((id : List ℕ) (n : ℕ) → t id n ≡ true → u id n ≡ true) → (gs : List Group) → tally_all (passes t) gs ≤ tally_all (passes u) gs
weaker t u w [] = omega arith
weaker t u w (g ∷ gs) = omega (arith, each g.members, weaker t u w gs) where
  each : (ms : List Member) → tally (passes t) ms ≤ tally (passes u) ms
  each [] = omega arith
  each (m ∷ ms) = by (t m.id m.number) (u m.id m.number) (w m.id m.number) (each ms) where
    by : (b d : Bool) → (b ≡ true → d ≡ true) → tally (passes t) ms ≤ tally (passes u) ms → cond b 1 0 + tally (passes t) ms ≤ cond d 1 0 + tally (passes u) ms
    by true true x r = omega (arith, r)
    by true false x r = absurd (true≢false (sym (x refl)))
    by false d x r = omega (arith, r)

-- an id of a number that wasn't given yet is nobody's
fresh : (client : List ℕ) (start : ℕ) (v : Groups) → HaveIds v → (id : List ℕ) (n : ℕ) → bytes_eq id (member_id client start v.ids) ≡ true → not_given v.ids id n ≡ true
fresh client start v h id n e = by (bytes_eq (number_part id) (hex 16 n)) (nat_lt n v.ids) refl refl where
  same : id ≡ member_id client start v.ids
  same = (bytes_eq-Decides id (member_id client start v.ids)).0 e

  by : (b d : Bool) → bytes_eq (number_part id) (hex 16 n) ≡ b → nat_lt n v.ids ≡ d → not (b && d) ≡ true
  by false d f g = refl
  by true false f g = refl
  by true true f g =
      let digits : hex 16 n ≡ hex 16 v.ids = sym ((bytes_eq-Decides (number_part id) (hex 16 n)).0 f) ∙ ap number_part same ∙ part_of_id client start v.ids in
      let low : n < v.ids = grind (arith, g) in
      absurd (omega (arith, low, same_number n v.ids (omega (arith, low, h.few)) (omega (arith, h.few)) digits))

keeps_ids : (v w : Groups) → HaveIds v → Keeps v w → HaveIds w
keeps_ids v w h k = record {
  few = omega (arith, h.few, k.ids);
  given = omega (arith, h.given, subst (λ (i : ℕ). tally_all (passes (not_given i)) w.groups ≤ tally_all (passes (not_given v.ids)) v.groups) (sym k.ids) (k.few (not_given v.ids)));
  alone = λ id. omega (arith, h.alone id, k.few (is_id id));
}

gains_ids : (v w : Groups) → HaveIds v → Gains v w → HaveIds w
gains_ids v w h g = record {
  few = g.room;
  given = omega (arith, bound, h.given, counted, wider);
  alone = λ id. alone id (bytes_eq new id) refl;
} where
  new : List ℕ
  new = member_id g.client v.settings.start v.ids

  low : nat_lt v.ids w.ids ≡ true
  low = grind (arith, g.ids)

  counted : once (not_given w.ids new v.ids) ≡ 0
  counted = ap (λ (b : Bool). cond (not b) 1 0) (λ i. (bytes_eq-Decides (number_part new) (hex 16 v.ids)).1 (part_of_id g.client v.settings.start v.ids) i && low i)

  bound : tally_all (passes (not_given w.ids)) w.groups ≤ tally_all (passes (not_given w.ids)) v.groups + cond (not_given w.ids new v.ids) 1 0
  bound = g.few (not_given w.ids)

  wider : tally_all (passes (not_given w.ids)) v.groups ≤ tally_all (passes (not_given v.ids)) v.groups
  wider = weaker (not_given w.ids) (not_given v.ids) (λ id n e. by (bytes_eq (number_part id) (hex 16 n)) n e) v.groups where
    by : (b : Bool) (n : ℕ) → not (b && nat_lt n w.ids) ≡ true → not (b && nat_lt n v.ids) ≡ true
    by false n e = refl
    by true n e = grind (arith, e, g.ids)

  alone : (id : List ℕ) → (b : Bool) → bytes_eq new id ≡ b → tally_all (has_id id) w.groups ≤ 1
  alone id false e = let one : once (bytes_eq new id) ≡ 0 = ap once e in omega (arith, g.few (is_id id), h.alone id, one)
  alone id true e =
      let one : once (bytes_eq new id) ≡ 1 = ap once e in
      let same : new ≡ id = (bytes_eq-Decides new id).0 e in
      let none : tally_all (has_id id) v.groups ≤ tally_all (passes (not_given v.ids)) v.groups =
      subst (λ (x : List ℕ). tally_all (has_id x) v.groups ≤ tally_all (passes (not_given v.ids)) v.groups) same (weaker (is_id new) (not_given v.ids) (fresh g.client v.settings.start v h) v.groups) in
      omega (arith, g.few (is_id id), none, h.given, one)

grows_ids : (v w : Groups) → HaveIds v → Grows v w → HaveIds w
grows_ids v w h (inl k) = keeps_ids v w h k
grows_ids v w h (inr g) = gains_ids v w h g

have_ids : (o : Settings) (acts : List Act) → HaveIds (behind_all o acts)
have_ids o [] = record { few = omega arith; given = refl; alone = λ id. omega arith }
have_ids o (a ∷ before) = grows_ids (behind_all o before) (behind_all o (a ∷ before)) (have_ids o before) (act_grows a (behind_all o before) (groups_sound o before))

pub ids_alone : (o : Settings) (acts : List Act) (id : List ℕ) → tally_all (has_id id) (behind_all o acts).groups ≤ 1
ids_alone o acts id = (have_ids o acts).alone id

-- ---- who is gone

record StaysGone (v : Groups) (id : List ℕ) (w : Groups) : Type 0 where
  settings : w.settings ≡ v.settings
  ids : v.ids ≤ w.ids
  nobody : IsNobodys id w

gone_next : (v w x : Groups) (id : List ℕ) → WasGiven id v → HaveIds w → StaysGone v id w → Grows w x → StaysGone v id x
gone_next v w x id given h s (inl k) = record { settings = k.settings ∙ s.settings; ids = omega (arith, s.ids, k.ids); nobody = omega (arith, s.nobody, k.few (is_id id)) }
gone_next v w x id given h s (inr g) = record { settings = g.settings ∙ s.settings; ids = omega (arith, s.ids, g.ids); nobody = by (bytes_eq new id) refl } where
  new : List ℕ
  new = member_id g.client w.settings.start w.ids

  by : (b : Bool) → bytes_eq new id ≡ b → IsNobodys id x
  by false e = let one : once (bytes_eq new id) ≡ 0 = ap once e in omega (arith, g.few (is_id id), s.nobody, one)
  by true e =
      let digits : hex 16 w.ids ≡ hex 16 given.number = sym (part_of_id g.client w.settings.start w.ids) ∙ ap number_part ((bytes_eq-Decides new id).0 e)
      ∙ ap number_part given.is_id ∙ part_of_id given.client v.settings.start given.number in
      absurd (omega (arith, given.below, s.ids, same_number w.ids given.number (omega (arith, h.few)) (omega (arith, given.below, s.ids, h.few)) digits))

gone_over : (o : Settings) (id : List ℕ) (later before : List Act) → WasGiven id (behind_all o before) → IsNobodys id (behind_all o before) → StaysGone (behind_all o before) id (behind_all o (later ++ before))
gone_over o id [] before given none = record { settings = refl; ids = omega arith; nobody = none }
gone_over o id (a ∷ later) before given none = gone_next (behind_all o before) (behind_all o (later ++ before)) (behind_all o (a ∷ later ++ before)) id given (have_ids o (later ++ before))
    (gone_over o id later before given none) (act_grows a (behind_all o (later ++ before)) (groups_sound o (later ++ before)))

pub stays_gone : (o : Settings) (id : List ℕ) (later before : List Act) → WasGiven id (behind_all o before) → IsNobodys id (behind_all o before) → IsNobodys id (behind_all o (later ++ before))
stays_gone o id later before given none = (gone_over o id later before given none).nobody
