-- Whatever is done, sound groups are left sound.
use Rattle.std.proofs.Common.{◌≡◌, ℕ, ◌+◌, ◌==◌, Bool, true, false, cond, not, ◌&&◌, ◌||◌, nat_lt, List, [], ◌∷◌, ◌++◌, map, length, refl, sym, ap, subst, ◌∙◌, arith, true≢false}
use Rattle.std.specs.Prelude.{Option, Some, None, int_lt, if◌then◌else◌}
use Rattle.std.specs.List.{AllByRecursion, filter, find, list_any}
use Rattle.std.specs.Option.{option_or, is_none}
use Rattle.std.specs.Str.{bytes_eq}
use Rattle.std.proofs.lemmas.Option.{none-some, same_Some}
use Rattle.std.proofs.lemmas.Slice.Eq.{bytes_eq-Decides}
use Rattle.group_coordinator.specs.declared.values.GroupError.{GroupError}
use Rattle.group_coordinator.specs.declared.values.GroupError.TheVariants.{InconsistentProtocol, InvalidSession, Rebalancing}
use Rattle.group_coordinator.specs.declared.values.TheConstants.{LEAST_SESSION, MOST_SESSION, MOST_BYTES, MOST_IDS}
use Rattle.group_coordinator.specs.declared.values.Settings.{Settings}
use Rattle.group_coordinator.specs.declared.values.Wait.{Wait}
use Rattle.group_coordinator.specs.declared.values.Wait.TheVariants.{No, Joins, Syncs, Told, Assigned}
use Rattle.group_coordinator.specs.Members.{Protocol, Member, has_id, is_in, is_ready, is_joining, is_syncing, knows, is_common}
use Rattle.group_coordinator.specs.Groups.{Group, Move, new_group, is_preparing}
use Rattle.group_coordinator.specs.Requests.{JoinRequest, SyncRequest, Request}
use Rattle.group_coordinator.specs.Requests.Request.{Join, Sync, Heartbeat, Leave}
use Rattle.group_coordinator.specs.Joining.{waits, rejoin, join_new, sync, heartbeat, leave, end_session}
use Rattle.group_coordinator.specs.Coordinators.{Groups, is_named, group_named, move_all, move_one, only, all_bytes, sent, sent_group, without_ready, release, at_once, Answered, fault_if, group_fault, member_fault, unknown_fault, preparing_fault, protocol_fits, id_fault, join_fault, sync_fault, if_room, with_group, entered, joined, ask_join, ask_sync, ask_heartbeat, ask_leave, asked, commit_fault, is_for}
use Rattle.group_coordinator.specs.Times.{expire_group}
use Rattle.group_coordinator.specs.Runs.{Act, after, commit_done, behind_all}
use Rattle.group_coordinator.specs.Runs.Act.{Ask, Release, Commit, End, Clock, Expire}
use Rattle.group_coordinator.specs.Keeping.{AreApart}
use Rattle.coordinator_laws.specs.Soundness.{AllKnow, AllNamed, NoneSyncs, IsSound, AreSound}
use Rattle.coordinator_laws.proofs.Lists.{by_test, all_map, all_append, all_and, all_of, found, find_none, length_map}
use Rattle.coordinator_laws.proofs.Moving.{KeepsMember, keeps_sound, none_syncs, expire_sound}
use Rattle.coordinator_laws.proofs.Asking.{Fits, heartbeat_sound, leave_sound, rejoin_sound, join_new_sound, sync_sound, end_sound}
use Rattle.coordinator_laws.proofs.Lifting.{KeepsName, each_moved, each_peopled, only_moved, names_rejoin, names_join_new, names_sync, names_leave, names_end, names_expire, names_only, apart_moved, apart_more, named_is}

-- ---- the first of some refusals

pub or_none : {X : Type 0} (a b : Option X) → option_or a b ≡ None → (a ≡ None) × (b ≡ None)
or_none None b e = (refl, e)
or_none (Some x) b e = absurd (none-some x (sym e))

pub no_fault : (b : Bool) (e : GroupError) → fault_if b e ≡ None → b ≡ false
no_fault false e n = refl
no_fault true e n = absurd (none-some e (sym n))

-- ---- moves of all groups, and of one

all_sound : (a : Move) → ((n : ℕ) (g : Group) → IsSound g → IsSound (a n g).group) → KeepsName a → (v : Groups) → AreSound v → AreSound (move_all a v)
all_sound a each names v s = record {
  each = each_moved IsSound IsSound a each v.generations v.groups s.each;
  peopled = each_peopled a v.generations v.groups;
  apart = apart_moved a names v.generations v.groups s.apart;
}

one_sound : (name : List ℕ) (a : Move) → ((n : ℕ) (g : Group) → IsSound g → IsSound (a n g).group) → KeepsName a → (v : Groups) → AreSound v → AreSound (move_one name a v)
one_sound name a each names v s = all_sound (only name a) (λ n g x. only_moved IsSound name a n g (λ _. each n g x) (λ _. x)) (names_only name a names) v s

-- a move of one group, of which something more is known
pub one_known : (Q P : Group → Type 0) (name : List ℕ) (a : Move) → ((n : ℕ) (g : Group) → Q g → IsSound (a n g).group) → KeepsName a
    → (v : Groups) → AllByRecursion (λ g. (is_named name g ≡ true → Q g) × (is_named name g ≡ false → IsSound g)) v.groups → AreApart v.groups → AreSound (move_one name a v)
one_known Q P name a each names v all apart = record {
  each = each_moved (λ g. (is_named name g ≡ true → Q g) × (is_named name g ≡ false → IsSound g)) IsSound (only name a)
      (λ n g x. only_moved IsSound name a n g (λ e. each n g (x.0 e)) x.1) v.generations v.groups all;
  peopled = each_peopled (only name a) v.generations v.groups;
  apart = apart_moved (only name a) (names_only name a names) v.generations v.groups apart;
}

-- what is known of the group that is found holds of each of its name
pub found_known : (Q : Group → Type 0) (name : List ℕ) (v : Groups) → AreSound v → (r : Option Group) → group_named name v ≡ r
    → ((g : Group) → r ≡ Some g → IsSound g → Q g) → AllByRecursion (λ g. (is_named name g ≡ true → Q g) × (is_named name g ≡ false → IsSound g)) v.groups
found_known Q name v s None e w =
    all_and _ _ _ (λ g n x. ((λ y. absurd (true≢false (sym y ∙ n))), (λ _. x))) v.groups (find_none (is_named name) v.groups e) s.each
found_known Q name v s (Some g) e w =
    all_and _ _ _ (λ h same x. ((λ y. subst Q (sym (same y)) (w g refl (subst IsSound (same y) x))), (λ _. x))) v.groups (named_is name v.groups g s.apart e) s.each

-- ---- what was sent

pub sent_keeps : (k : ℕ) → KeepsMember (sent k)
sent_keeps k = record {
  number = λ m. by_test (λ (x : Member). x.number ≡ m.number) (is_in k m.wait && is_ready m.wait) (waits No m) m (λ e. refl) (λ e. refl);
  id = λ m. by_test (λ (x : Member). x.id ≡ m.id) (is_in k m.wait && is_ready m.wait) (waits No m) m (λ e. refl) (λ e. refl);
  protocols = λ m. by_test (λ (x : Member). x.protocols ≡ m.protocols) (is_in k m.wait && is_ready m.wait) (waits No m) m (λ e. refl) (λ e. refl);
  is_told = λ m. by_test (λ (x : Member). x.is_told ≡ m.is_told) (is_in k m.wait && is_ready m.wait) (waits No m) m (λ e. refl) (λ e. refl);
}

ready_joins : (w : Wait) → is_ready w ≡ true → is_joining w ≡ false
ready_joins No e = refl
ready_joins (Joins k) e = absurd (true≢false (sym e))
ready_joins (Syncs k) e = refl
ready_joins (Told k) e = refl
ready_joins (Assigned k) e = refl

both : (a b : Bool) → (a && b) ≡ true → b ≡ true
both true b e = e
both false b e = absurd (true≢false (sym e))

sent_group_sound : (k : ℕ) (g : Group) → IsSound g → IsSound (sent_group k g)
sent_group_sound k g s = keeps_sound (sent k) (sent_keeps k)
    (λ m. by_test (λ (x : Member). is_joining x.wait ≡ is_joining m.wait) (is_in k m.wait && is_ready m.wait) (waits No m) m
    (λ e. sym (ready_joins m.wait (both (is_in k m.wait) (is_ready m.wait) e))) (λ e. refl))
    (λ m q. by_test (λ (x : Member). is_syncing x.wait ≡ false) (is_in k m.wait && is_ready m.wait) (waits No m) m (λ e. refl) (λ e. q)) g s

apart_sent : (k : ℕ) (gs : List Group) → AreApart gs → AreApart (map (sent_group k) gs)
apart_sent k [] a = tt
apart_sent k (g ∷ gs) a = (all_map _ _ (sent_group k) (λ h e. e) gs a.0, apart_sent k gs a.1)

pub sent_sound : (k : ℕ) (v : Groups) → AreSound v → AreSound (without_ready k v)
sent_sound k v s = record {
  each = all_map _ _ (sent_group k) (sent_group_sound k) v.groups s.each;
  peopled = all_map _ _ (sent_group k) (λ g e. ap (λ (n : ℕ). nat_lt 0 n) (length_map (sent k) g.members) ∙ e) v.groups s.peopled;
  apart = apart_sent k v.groups s.apart;
}

room_sound : (full : ℕ) (before after : Groups) (k : ℕ) → AreSound before → AreSound after → AreSound (if_room full before after k).groups
room_sound full before after k s t = by_test (λ (x : Answered). AreSound x.groups) (nat_lt MOST_BYTES full || nat_lt MOST_IDS after.ids)
    (at_once _ before) (release k after) (λ e. s) (λ e. sent_sound k after t)

-- ---- joins

-- a group that a join with an empty id may join
record IsJoinable (q : JoinRequest) (g : Group) : Type 0 where
  pub name : List ℕ
  pub asked : knows name q.protocols ≡ true
  pub known : AllKnow name g.members
  pub named : AllNamed g.members
  pub none : is_preparing g.phase ≡ true → NoneSyncs g.members

both_hold : (a b : Bool) → (a && b) ≡ true → (a ≡ true) × (b ≡ true)
both_hold true b e = (refl, e)
both_hold false b e = absurd (true≢false (sym e))

not_true : (b : Bool) → not b ≡ false → b ≡ true
not_true true e = refl
not_true false e = absurd (true≢false e)

is_empty : (xs : List ℕ) → (0 == length xs) ≡ true → xs ≡ []
is_empty [] e = refl
is_empty (x ∷ xs) e = absurd (grind (arith, e))

-- a protocol knows its own name
own_name : (p : Protocol) (ps : List Protocol) → knows p.name (p ∷ ps) ≡ true
own_name p ps = grind (arith, (bytes_eq-Decides p.name p.name).1 refl)

knows_found : (t : Protocol → Bool) (ps : List Protocol) (p : Protocol) → find t ps ≡ Some p → knows p.name ps ≡ true
knows_found t [] p e = absurd (none-some p e)
knows_found t (r ∷ ps) p e = by (t r) e (knows_found t ps p) where
  by : (b : Bool) → cond b (Some r) (find t ps) ≡ Some p → (find t ps ≡ Some p → knows p.name ps ≡ true) → (bytes_eq r.name p.name || knows p.name ps) ≡ true
  by true e w = grind (arith, (bytes_eq-Decides r.name p.name).1 (ap (λ (x : Protocol). x.name) (same_Some r p e)))
  by false e w = grind (arith, w e)

-- those who aren't this member know it
others_know : (id name : List ℕ) (ms : List Member) → AllByRecursion (λ m. knows name m.protocols ≡ true) (filter (λ m. not (has_id id m)) ms)
    → AllByRecursion (λ m. has_id id m ≡ false → knows name m.protocols ≡ true) ms
others_know id name [] all = tt
others_know id name (m ∷ ms) all = by (has_id id m) refl all (others_know id name ms) where
  by : (b : Bool) → has_id id m ≡ b → AllByRecursion (λ m. knows name m.protocols ≡ true) (cond (not b) (m ∷ filter (λ m. not (has_id id m)) ms) (filter (λ m. not (has_id id m)) ms))
      → (AllByRecursion (λ m. knows name m.protocols ≡ true) (filter (λ m. not (has_id id m)) ms) → AllByRecursion (λ m. has_id id m ≡ false → knows name m.protocols ≡ true) ms)
      → (has_id id m ≡ false → knows name m.protocols ≡ true) × AllByRecursion (λ m. has_id id m ≡ false → knows name m.protocols ≡ true) ms
  by true e all r = ((λ f. absurd (true≢false (sym e ∙ f))), r all)
  by false e all r = ((λ f. all.0), r all.1)

pub fits_of : (q : JoinRequest) (g : Group) → protocol_fits q (Some g) ≡ true → Fits q g
fits_of q g e =
    let common = (both_hold (bytes_eq g.kind q.kind) (list_any (λ p. is_common (filter (λ m. not (has_id q.member m)) g.members) p.name) q.protocols) e).1 in
    let p = found (λ p. is_common (filter (λ m. not (has_id q.member m)) g.members) p.name) q.protocols common in
    record {
      name = p.0.name;
      asked = knows_found (λ p. is_common (filter (λ m. not (has_id q.member m)) g.members) p.name) q.protocols p.0 p.1;
      others = others_know q.member p.0.name g.members (all_of _ _ p.2);
    }

joinable_of : (q : JoinRequest) (g : Group) → q.member ≡ [] → IsSound g → Fits q g → IsJoinable q g
joinable_of q g none s f = record {
  name = f.name;
  asked = f.asked;
  known = all_and _ _ _ (λ m e w. w (subst (λ (id : List ℕ). has_id id m ≡ false) (sym none) e)) g.members s.named f.others;
  named = s.named;
  none = none_syncs g s;
}

-- a new group, for a join that has a protocol
first_joinable : (q : JoinRequest) → protocol_fits q None ≡ true → IsJoinable q (new_group q.group q.kind)
first_joinable q e = by q.protocols (both_hold (not (0 == length q.kind)) (nat_lt 0 (length q.protocols)) e).1 refl where
  by : (ps : List Protocol) → nat_lt 0 (length ps) ≡ true → q.protocols ≡ ps → IsJoinable q (new_group q.group q.kind)
  by [] low is = absurd (grind (arith, low))
  by (p ∷ ps) low is = record {
    name = p.name;
    asked = subst (λ (rs : List Protocol). knows p.name rs ≡ true) (sym is) (own_name p ps);
    known = tt;
    named = tt;
    none = λ e. absurd (true≢false (sym e));
  }

abbrev Joinables : JoinRequest → List Group → Type 0
Joinables q gs = AllByRecursion (λ g. (is_named q.group g ≡ true → IsJoinable q g) × (is_named q.group g ≡ false → IsSound g)) gs

joinables : (q : JoinRequest) (v : Groups) → AreSound v → q.member ≡ [] → (r : Option Group) → group_named q.group v ≡ r → protocol_fits q r ≡ true
    → Joinables q (if is_none r then v.groups ++ new_group q.group q.kind ∷ [] else v.groups)
    × AreApart (if is_none r then v.groups ++ new_group q.group q.kind ∷ [] else v.groups)
joinables q v s none None e fits = (
  all_append _ v.groups _ (found_known (IsJoinable q) q.group v s None e (λ g is _. absurd (none-some g is))) (((λ _. first_joinable q fits), (λ y. absurd (true≢false (sym (own q.group) ∙ y)))), tt),
  apart_more v.groups (new_group q.group q.kind) (find_none (is_named q.group) v.groups e) s.apart,
) where
  own : (name : List ℕ) → bytes_eq name name ≡ true
  own name = (bytes_eq-Decides name name).1 refl
joinables q v s none (Some g) e fits =
    (found_known (IsJoinable q) q.group v s (Some g) e (λ h is x. joinable_of q h none x (fits_of q h (subst (λ (r : Option Group). protocol_fits q r ≡ true) is fits))), s.apart)

with_groups : (name kind : List ℕ) (v : Groups) → (with_group name kind v).groups ≡ (if is_none (group_named name v) then v.groups ++ new_group name kind ∷ [] else v.groups)
with_groups name kind v = by (is_none (group_named name v)) where
  by : (b : Bool) → (if b then record v { groups = v.groups ++ new_group name kind ∷ [] } else v).groups ≡ (if b then v.groups ++ new_group name kind ∷ [] else v.groups)
  by true = refl
  by false = refl

joined_sound : (k : ℕ) (client : List ℕ) (q : JoinRequest) (v : Groups) → AreSound v → join_fault v q ≡ None → AreSound (joined k client q v)
joined_sound k client q v s e = by_test AreSound (0 == length q.member)
    (move_one q.group (join_new v.settings v.now k v.ids client q) (record (with_group q.group q.kind v) { ids = v.ids + 1 }))
    (move_one q.group (rejoin v.settings v.now k q) v) new old where
      at : Option Group
      at = group_named q.group v

      after_group : option_or (fault_if (int_lt q.session LEAST_SESSION || int_lt MOST_SESSION q.session) InvalidSession)
          (option_or (fault_if (not (protocol_fits q at)) InconsistentProtocol) (id_fault q.member at)) ≡ None
      after_group = (or_none (group_fault v.settings q.group) _ e).1

      after_session : option_or (fault_if (not (protocol_fits q at)) InconsistentProtocol) (id_fault q.member at) ≡ None
      after_session = (or_none (fault_if (int_lt q.session LEAST_SESSION || int_lt MOST_SESSION q.session) InvalidSession) _ after_group).1

      fits : protocol_fits q at ≡ true
      fits = not_true (protocol_fits q at) (no_fault (not (protocol_fits q at)) InconsistentProtocol (or_none (fault_if (not (protocol_fits q at)) InconsistentProtocol) (id_fault q.member at) after_session).0)

      old : (0 == length q.member) ≡ false → AreSound (move_one q.group (rejoin v.settings v.now k q) v)
      old _ = one_known (λ g. IsSound g × Fits q g) IsSound q.group (rejoin v.settings v.now k q) (λ n g x. rejoin_sound v.settings v.now k q n g x.0 x.1) (names_rejoin v.settings v.now k q) v
          (found_known (λ g. IsSound g × Fits q g) q.group v s at refl (λ g is x. (x, fits_of q g (subst (λ (r : Option Group). protocol_fits q r ≡ true) is fits)))) s.apart

      new : (0 == length q.member) ≡ true → AreSound (move_one q.group (join_new v.settings v.now k v.ids client q) (record (with_group q.group q.kind v) { ids = v.ids + 1 }))
      new none = one_known (IsJoinable q) IsSound q.group (join_new v.settings v.now k v.ids client q)
          (λ n g x. join_new_sound v.settings v.now k v.ids client q n g x.name x.asked x.known x.named x.none) (names_join_new v.settings v.now k v.ids client q)
          (record (with_group q.group q.kind v) { ids = v.ids + 1 })
          (subst (Joinables q) (sym (with_groups q.group q.kind v)) (joinables q v s (is_empty q.member none) at refl fits).0)
          (subst AreApart (sym (with_groups q.group q.kind v)) (joinables q v s (is_empty q.member none) at refl fits).1)

join_sound : (k : ℕ) (client : List ℕ) (q : JoinRequest) (v : Groups) → AreSound v → (r : Option GroupError) → join_fault v q ≡ r → AreSound (ask_join k client q v r).groups
join_sound k client q v s (Some x) e = s
join_sound k client q v s None e = room_sound (all_bytes (entered k client q v)) v (joined k client q v) k s (joined_sound k client q v s e)

-- ---- the others

pub not_preparing : (r : Option Group) (g : Group) → preparing_fault r ≡ None → r ≡ Some g → is_preparing g.phase ≡ false
not_preparing None g n e = absurd (none-some g e)
not_preparing (Some h) g n e = subst (λ (x : Group). is_preparing x.phase ≡ false) (same_Some h g e) (no_fault (is_preparing h.phase) Rebalancing n)

synced_sound : (k : ℕ) (q : SyncRequest) (v : Groups) → AreSound v → sync_fault v q ≡ None → AreSound (move_one q.group (sync v.now k q) v)
synced_sound k q v s e = one_known (λ g. IsSound g × (is_preparing g.phase ≡ false)) IsSound q.group (sync v.now k q) (λ n g x. sync_sound v.now k q n g x.1 x.0) (names_sync v.now k q) v
    (found_known (λ g. IsSound g × (is_preparing g.phase ≡ false)) q.group v s (group_named q.group v) refl (λ g is x. (x, not_preparing (group_named q.group v) g none is))) s.apart where
      none : preparing_fault (group_named q.group v) ≡ None
      none = (or_none (member_fault q.generation q.member (group_named q.group v)) _ (or_none (group_fault v.settings q.group) _ e).1).1

ask_sync_sound : (k : ℕ) (q : SyncRequest) (v : Groups) → AreSound v → (r : Option GroupError) → sync_fault v q ≡ r → AreSound (ask_sync k q v r).groups
ask_sync_sound k q v s (Some x) e = s
ask_sync_sound k q v s None e = room_sound (all_bytes (move_one q.group (sync v.now k q) v)) v (move_one q.group (sync v.now k q) v) k s (synced_sound k q v s e)

beat_sound : (name id : List ℕ) (v : Groups) → AreSound v → AreSound (move_one name (heartbeat v.now id) v)
beat_sound name id v s = one_sound name (heartbeat v.now id) (heartbeat_sound v.now id) (λ n g. refl) v s

ask_heartbeat_sound : (name id : List ℕ) (v : Groups) → AreSound v → (r : Option GroupError) → AreSound (ask_heartbeat name id v r).groups
ask_heartbeat_sound name id v s (Some x) = s
ask_heartbeat_sound name id v s None = beat_sound name id v s

ask_leave_sound : (name id : List ℕ) (v : Groups) → AreSound v → (r : Option GroupError) → AreSound (ask_leave name id v r).groups
ask_leave_sound name id v s (Some x) = s
ask_leave_sound name id v s None = one_sound name (leave v.settings v.now id) (leave_sound v.settings v.now id) (names_leave v.settings v.now id) v s

commit_sound : (name id : List ℕ) (v : Groups) → AreSound v → (r : Option GroupError) → AreSound (commit_done name id v r)
commit_sound name id v s None = beat_sound name id v s
commit_sound name id v s (Some x) = s

asked_sound : (k : ℕ) (client : List ℕ) (q : Request) (v : Groups) → AreSound v → AreSound (asked k client q v).groups
asked_sound k client (Join q) v s = join_sound k client q v s (join_fault v q) refl
asked_sound k client (Sync q) v s = ask_sync_sound k q v s (sync_fault v q) refl
asked_sound k client (Heartbeat name generation id) v s = ask_heartbeat_sound name id v s (option_or (group_fault v.settings name) (member_fault generation id (group_named name v)))
asked_sound k client (Leave name id) v s = ask_leave_sound name id v s (option_or (group_fault v.settings name) (unknown_fault id (group_named name v)))

pub act_sound : (a : Act) (v : Groups) → AreSound v → AreSound (after a v)
act_sound (Ask k client q) v s = asked_sound k client q v s
act_sound (Release k) v s = sent_sound k v s
act_sound (Commit name generation id) v s = commit_sound name id v s (commit_fault name generation id v)
act_sound (End k) v s = all_sound (end_session v.now k) (end_sound v.now k) (names_end v.now k) (record v { refused = filter (λ r. not (is_for k r)) v.refused }) (record { each = s.each; peopled = s.peopled; apart = s.apart })
act_sound (Clock t) v s = record { each = s.each; peopled = s.peopled; apart = s.apart }
act_sound Expire v s = all_sound (expire_group v.settings v.now) (expire_sound v.settings v.now) (names_expire v.settings v.now) v s

pub groups_sound : (o : Settings) (acts : List Act) → AreSound (behind_all o acts)
groups_sound o [] = record { each = tt; peopled = tt; apart = tt }
groups_sound o (a ∷ before) = act_sound a (behind_all o before) (groups_sound o before)
