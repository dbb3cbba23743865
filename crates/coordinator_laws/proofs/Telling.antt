-- While members join nothing is ready for them; so what is told is of a generation that stands, and all are told the same.
use Rattle.std.proofs.Common.{◌≡◌, ℕ, ◌+◌, ◌==◌, Bool, true, false, not, ◌&&◌, ◌||◌, nat_lt, List, [], ◌∷◌, ◌++◌, map, length, refl, sym, ap, subst, ◌∙◌, true≢false, inl, inr}
use Rattle.std.specs.Prelude.{Option, Some, None, if◌then◌else◌}
use Rattle.std.specs.List.{AllByRecursion, find, list_any}
use Rattle.std.specs.Option.{option_or, option_map, is_none}
use Rattle.std.proofs.lemmas.Option.{none-some, same_Some}
use Rattle.group_coordinator.specs.declared.values.GroupError.{GroupError}
use Rattle.group_coordinator.specs.declared.values.Phase.TheVariants.{Preparing}
use Rattle.group_coordinator.specs.declared.values.Refusal.{Refusal}
use Rattle.group_coordinator.specs.declared.values.Settings.{Settings}
use Rattle.group_coordinator.specs.declared.values.TheConstants.{MOST_BYTES, MOST_IDS, MOST_GENERATION}
use Rattle.group_coordinator.specs.declared.values.Wait.{Wait}
use Rattle.group_coordinator.specs.declared.values.Wait.TheVariants.{No, Joins, Syncs, Told, Assigned}
use Rattle.group_coordinator.specs.Members.{Member, has_id, is_in, is_ready, is_joining, is_syncing, beat}
use Rattle.group_coordinator.specs.Groups.{Group, JoinReply, Move, Moved, new_group, stays, and_then, goes_on, is_preparing, is_stable, told, protocol_name, leader_id, unsynced, joining_time, prepare, drop_those, begin_generation, if_any_left, complete, is_complete, settle}
use Rattle.group_coordinator.specs.Requests.{JoinRequest, SyncRequest, Request, Reply}
use Rattle.group_coordinator.specs.Requests.Request.{Join, Sync, Heartbeat, Leave}
use Rattle.group_coordinator.specs.Requests.Reply.{Refused, Done, Joined, Given}
use Rattle.group_coordinator.specs.Joining.{with_member, plainly, called, call, waits, is_repeat, rejoined, join_anew, rejoin, new_member, with_last, join_new, is_led_by, give_parts, sync, heartbeat, leave, unwaited, without_session, end_session}
use Rattle.group_coordinator.specs.Coordinators.{Groups, is_named, group_named, move_each, move_one, only, all_bytes, reply_of, reply_among, reply_in, refusal_in, ready_for, is_for, sent, sent_group, without_ready, release, at_once, Answered, is_any_ready, group_fault, member_fault, unknown_fault, preparing_fault, sync_fault, join_fault, if_room, with_group, entered, joined, reply_to, ask_join, ask_sync, ask_heartbeat, ask_leave, asked, commit_fault}
use Rattle.group_coordinator.specs.Times.{is_silent, expire_group}
use Rattle.group_coordinator.specs.Runs.{Act, after, replied, commit_done, behind_all}
use Rattle.group_coordinator.specs.Runs.Act.{Ask, Release, Commit, End, Clock, Expire}
use Rattle.coordinator_laws.specs.Generations.{IsOf}
use Rattle.coordinator_laws.specs.Soundness.{IsSound, AreSound}
use Rattle.coordinator_laws.specs.Telling.{IsInTurn, AllInTurn, NoneReady, ReadyStands, TellsOf, TellAlike}
use Rattle.coordinator_laws.proofs.Lists.{by_test, all_map, all_filter, all_append, all_weaker, all_and, none_of}
use Rattle.coordinator_laws.proofs.Lifting.{each_moved, only_moved}
use Rattle.coordinator_laws.proofs.Moving.{at_id, settled_same}
use Rattle.coordinator_laws.proofs.Asking.{repeat_stands, is_begun}
use Rattle.coordinator_laws.proofs.Acting.{or_none, found_known, not_preparing, groups_sound, sent_keeps}
use Rattle.coordinator_laws.proofs.Following.{alike_changed}
use Rattle.coordinator_laws.proofs.Numbering.{one_beginning, sent_part}

-- ---- moves of a group of which nothing is ready

-- a change by which nothing gets ready
changed_none : (f : Member → Member) → ((m : Member) → is_ready m.wait ≡ false → is_ready (f m).wait ≡ false) → (ms : List Member) → NoneReady ms → NoneReady (map f ms)
changed_none f w ms none = all_map _ _ f w ms none

at_none : (id : List ℕ) (f : Member → Member) → ((m : Member) → is_ready m.wait ≡ false → is_ready (f m).wait ≡ false) → (m : Member) → is_ready m.wait ≡ false → is_ready (at_id id f m).wait ≡ false
at_none id f w m e = by_test (λ (x : Member). is_ready x.wait ≡ false) (has_id id m) (f m) m (λ _. w m e) (λ _. e)

begin_stands : (now n : ℕ) (g : Group) → NoneReady g.members → ReadyStands (begin_generation now n g).group
begin_stands now n g none = by_test (λ (m : Moved). ReadyStands m.group) (nat_lt n MOST_GENERATION) _ (drop_those (λ m. true) n g)
    (λ _ e. absurd (true≢false (sym e))) (λ _ e. all_filter _ (λ m. not true) g.members none)

complete_stands : (now n : ℕ) (g : Group) → NoneReady g.members → ReadyStands (complete now n g).group
complete_stands now n g none = on (drop_those (λ m. not (is_joining m.wait)) n g).group (all_filter _ _ g.members none) where
  on : (h : Group) → NoneReady h.members → ReadyStands (if_any_left (begin_generation now) n h).group
  on h none = by_test (λ (m : Moved). ReadyStands m.group) (0 == length h.members) (stays n h) (begin_generation now n h) (λ _ _. none) (λ _. begin_stands now n h none)

settle_stands : (now n : ℕ) (g : Group) → NoneReady g.members → ReadyStands (settle now n g).group
settle_stands now n g none = by_test (λ (m : Moved). ReadyStands m.group) (is_complete now g g.phase) (complete now n g) (stays n g) (λ _. complete_stands now n g none) (λ _ _. none)

unsynced_none : (now : ℕ) (m : Member) → is_ready m.wait ≡ false → is_ready (unsynced now m).wait ≡ false
unsynced_none now m e = by_test (λ (x : Member). is_ready x.wait ≡ false) (is_syncing m.wait) (record m { until = now + m.session; wait = No }) m (λ _. refl) (λ _. e)

anew_stands : (o : Settings) (now n : ℕ) (g : Group) → NoneReady g.members → ReadyStands (and_then (prepare o now) (settle now) n g).group
anew_stands o now n g none = by_test (λ (m : Moved). ReadyStands (goes_on (settle now) m).group) (is_preparing g.phase) (stays n g) _
    (λ _. settle_stands now n g none)
    (λ _. settle_stands now n (record g { phase = Preparing (now + joining_time o g); members = map (unsynced now) g.members }) (changed_none (unsynced now) (unsynced_none now) g.members none))

rejoin_stands : (o : Settings) (now k : ℕ) (q : JoinRequest) (n : ℕ) (g : Group) → NoneReady g.members → ReadyStands (rejoin o now k q n g).group
rejoin_stands o now k q n g none = by_test (λ (m : Moved). ReadyStands m.group) (is_repeat q g)
    (and_then (call now q.member) (plainly (with_member q.member (waits (Told k)))) n g)
    (and_then (call now q.member) (join_anew o now k q) n g)
    (λ e f. absurd (true≢false (sym f ∙ repeat_stands q g e)))
    (λ _. anew_stands o now n (with_member q.member (rejoined now k q) (with_member q.member (called now) g))
    (changed_none (at_id q.member (rejoined now k q)) (at_none q.member (rejoined now k q) (λ m _. refl)) _ (changed_none (at_id q.member (called now)) (at_none q.member (called now) (λ m _. refl)) g.members none)))

join_new_stands : (o : Settings) (now k number : ℕ) (client : List ℕ) (q : JoinRequest) (n : ℕ) (g : Group) → NoneReady g.members → ReadyStands (join_new o now k number client q n g).group
join_new_stands o now k number client q n g none = anew_stands o now n (with_last (new_member o now k number client q) g) (all_append _ g.members _ none (refl, tt))

given_phase : (now : ℕ) (q : SyncRequest) (g : Group) → is_preparing g.phase ≡ false → is_preparing (give_parts now q g).phase ≡ false
given_phase now q g e = by_test (λ (h : Group). is_preparing h.phase ≡ false) (is_led_by q.member g) _ g (λ _. refl) (λ _. e)

sync_stands : (now k : ℕ) (q : SyncRequest) (n : ℕ) (g : Group) → is_preparing g.phase ≡ false → ReadyStands (sync now k q n g).group
sync_stands now k q n g e = by_test (λ (m : Moved). ReadyStands m.group) (is_stable g.phase)
    (and_then (call now q.member) (plainly (with_member q.member (waits (Assigned k)))) n g)
    (and_then (call now q.member) (and_then (plainly (with_member q.member (waits (Syncs k)))) (plainly (give_parts now q))) n g)
    (λ _ f. absurd (true≢false (sym f ∙ e)))
    (λ _ f. absurd (true≢false (sym f ∙ given_phase now q (with_member q.member (waits (Syncs k)) (with_member q.member (called now) g)) e)))

heartbeat_stands : (now : ℕ) (id : List ℕ) (n : ℕ) (g : Group) → ReadyStands g → ReadyStands (heartbeat now id n g).group
heartbeat_stands now id n g s e = changed_none (at_id id (beat now)) (at_none id (beat now) (λ m x. x)) g.members (s e)

leave_stands : (o : Settings) (now : ℕ) (id : List ℕ) (n : ℕ) (g : Group) → NoneReady g.members → ReadyStands (leave o now id n g).group
leave_stands o now id n g none = anew_stands o now n (drop_those (has_id id) n g).group (all_filter _ _ g.members none)

expire_stands : (o : Settings) (now n : ℕ) (g : Group) → NoneReady g.members → ReadyStands (expire_group o now n g).group
expire_stands o now n g none = by_test (λ (m : Moved). ReadyStands m.group) (list_any (is_silent now g) g.members)
    (and_then (drop_those (is_silent now g)) (and_then (prepare o now) (settle now)) n g) (settle now n g)
    (λ _. anew_stands o now n (drop_those (is_silent now g) n g).group (all_filter _ _ g.members none)) (λ _. settle_stands now n g none)

unwaited_none : (now k : ℕ) (m : Member) → is_ready m.wait ≡ false → is_ready (unwaited now k m).wait ≡ false
unwaited_none now k m e = by_test (λ (x : Member). is_ready x.wait ≡ false) (is_in k m.wait) (record m { wait = No; until = if is_ready m.wait then m.until else now + m.session }) m (λ _. refl) (λ _. e)

end_stands : (now k n : ℕ) (g : Group) → ReadyStands g → ReadyStands (end_session now k n g).group
end_stands now k n g s = by_test (λ (m : Moved). ReadyStands m.group) (list_any (λ m. is_in k m.wait) g.members)
    (and_then (plainly (without_session now k)) (settle now) n g) (stays n g)
    (λ _. by (is_preparing g.phase) refl) (λ _. s) where
      by : (b : Bool) → is_preparing g.phase ≡ b → ReadyStands (settle now n (without_session now k g)).group
      by true e = settle_stands now n (without_session now k g) (changed_none (unwaited now k) (unwaited_none now k) _ (all_filter _ _ g.members (s e)))
      by false e = subst (λ (m : Moved). ReadyStands m.group) (sym (settled_same now n (without_session now k g) e)) (λ f. absurd (true≢false (sym f ∙ e)))

sent_stands : (k : ℕ) (g : Group) → ReadyStands g → ReadyStands (sent_group k g)
sent_stands k g s e = changed_none (sent k) (λ m x. by_test (λ (y : Member). is_ready y.wait ≡ false) (is_in k m.wait && is_ready m.wait) (waits No m) m (λ _. refl) (λ _. x)) g.members (s e)

-- ---- all groups

abbrev AllStand : Groups → Type 0
AllStand v = AllByRecursion ReadyStands v.groups

-- where nothing is ready, it is of no group
none_ready : (v : Groups) → is_any_ready v ≡ false → AllByRecursion (λ g. NoneReady g.members) v.groups
none_ready v e = all_weaker _ _ (λ g x. none_of (λ m. is_ready m.wait) g.members x) v.groups
    (none_of (λ g. list_any (λ m. is_ready m.wait) g.members) v.groups (second (nat_lt 0 (length v.refused)) _ e)) where
      second : (a b : Bool) → (a || b) ≡ false → b ≡ false
      second true b e = absurd (true≢false e)
      second false b e = e

stand_of : (g : Group) → NoneReady g.members → ReadyStands g
stand_of g none _ = none

one_stand : (name : List ℕ) (a : Move) → ((n : ℕ) (g : Group) → NoneReady g.members → ReadyStands (a n g).group) → (n : ℕ) (gs : List Group)
    → AllByRecursion (λ g. NoneReady g.members) gs → AllByRecursion ReadyStands (move_each (only name a) n gs).groups
one_stand name a w n gs none = each_moved (λ g. NoneReady g.members) ReadyStands (only name a)
    (λ n g x. only_moved ReadyStands name a n g (λ _. w n g x) (λ _. stand_of g x)) n gs none

sent_all : (k : ℕ) (v : Groups) → AllStand v → AllStand (without_ready k v)
sent_all k v s = all_map _ _ (sent_group k) (sent_stands k) v.groups s

beat_stand : (name id : List ℕ) (v : Groups) → AllStand v → AllStand (move_one name (heartbeat v.now id) v)
beat_stand name id v s = each_moved ReadyStands ReadyStands (only name (heartbeat v.now id))
    (λ n g x. only_moved ReadyStands name (heartbeat v.now id) n g (λ _. heartbeat_stands v.now id n g x) (λ _. x)) v.generations v.groups s

joined_stand : (k : ℕ) (client : List ℕ) (q : JoinRequest) (v : Groups) → AllByRecursion (λ g. NoneReady g.members) v.groups → AllStand (joined k client q v)
joined_stand k client q v none = by_test AllStand (0 == length q.member)
    (move_one q.group (join_new v.settings v.now k v.ids client q) (record (with_group q.group q.kind v) { ids = v.ids + 1 })) (move_one q.group (rejoin v.settings v.now k q) v)
    (λ _. one_stand q.group (join_new v.settings v.now k v.ids client q) (join_new_stands v.settings v.now k v.ids client q) (with_group q.group q.kind v).generations (with_group q.group q.kind v).groups opened)
    (λ _. one_stand q.group (rejoin v.settings v.now k q) (rejoin_stands v.settings v.now k q) v.generations v.groups none) where
      opened : AllByRecursion (λ g. NoneReady g.members) (with_group q.group q.kind v).groups
      opened = by_test (λ (w : Groups). AllByRecursion (λ g. NoneReady g.members) w.groups) (is_none (group_named q.group v)) (record v { groups = v.groups ++ new_group q.group q.kind ∷ [] }) v
          (λ _. all_append _ v.groups _ none (tt, tt)) (λ _. none)

synced_stand : (k : ℕ) (q : SyncRequest) (v : Groups) → AreSound v → AllStand v → sync_fault v q ≡ None → AllStand (move_one q.group (sync v.now k q) v)
synced_stand k q v sound s e = each_moved _ ReadyStands (only q.group (sync v.now k q))
    (λ n g (x : ((is_named q.group g ≡ true → is_preparing g.phase ≡ false) × (is_named q.group g ≡ false → IsSound g)) × ReadyStands g). only_moved ReadyStands q.group (sync v.now k q) n g (λ y. sync_stands v.now k q n g (x.0.0 y)) (λ _. x.1)) v.generations v.groups
    (all_and _ _ _ (λ g a b. (a, b)) v.groups (found_known (λ g. is_preparing g.phase ≡ false) q.group v sound (group_named q.group v) refl (λ g is _. not_preparing (group_named q.group v) g none is)) s) where
      none : preparing_fault (group_named q.group v) ≡ None
      none = (or_none (member_fault q.generation q.member (group_named q.group v)) _ (or_none (group_fault v.settings q.group) _ e).1).1

-- ---- what is told

-- what a reply tells of a group
record TellsIt (r : JoinReply) (g : Group) : Type 0 where
  stands : is_preparing g.phase ≡ false
  generation : r.generation ≡ g.generation
  protocol : r.protocol ≡ protocol_name g
  leader : r.leader ≡ leader_id g

is_joined : Reply → Bool
is_joined (Joined r) = true
is_joined r = false

reply_told : Reply → JoinReply → JoinReply
reply_told (Joined r) s = r
reply_told x s = s

-- a member for whom a reply is ready is of a group that stands
ready_is_of : (g : Group) (w : Wait) → (is_preparing g.phase ≡ true → is_ready w ≡ false) → is_ready w ≡ true → is_preparing g.phase ≡ false
ready_is_of g w s e = by (is_preparing g.phase) refl where
  by : (b : Bool) → is_preparing g.phase ≡ b → is_preparing g.phase ≡ false
  by true f = absurd (true≢false (sym e ∙ s f))
  by false f = f

of_member : (k : ℕ) (g : Group) (m : Member) (w : Wait) (r : JoinReply) → (is_preparing g.phase ≡ true → is_ready w ≡ false) → reply_of k g m w ≡ Some (Joined r) → TellsIt r g
unfolding is_joined reply_told
of_member k g m No r s e = absurd (none-some (Joined r) e)
of_member k g m (Joins j) r s e = absurd (none-some (Joined r) e)
of_member k g m (Syncs j) r s e = absurd (none-some (Joined r) e)
of_member k g m (Told j) r s e = by (j == k) e where
  by : (b : Bool) → (if b then Some (Joined (told g m)) else None) ≡ Some (Joined r) → TellsIt r g
  by false e = absurd (none-some (Joined r) e)
  by true e = subst (λ (x : JoinReply). TellsIt x g) (ap (λ (x : Reply). reply_told x r) (same_Some (Joined (told g m)) (Joined r) e))
      (record { stands = ready_is_of g (Told j) s refl; generation = refl; protocol = refl; leader = refl })
of_member k g m (Assigned j) r s e = by (j == k) e where
  by : (b : Bool) → (if b then Some (Given m.part) else None) ≡ Some (Joined r) → TellsIt r g
  by false e = absurd (none-some (Joined r) e)
  by true e = absurd (true≢false (sym (ap is_joined (same_Some (Given m.part) (Joined r) e))))

of_members : (k : ℕ) (g : Group) (ms : List Member) (r : JoinReply) → (is_preparing g.phase ≡ true → NoneReady ms) → reply_among k g ms ≡ Some (Joined r) → TellsIt r g
of_members k g [] r s e = absurd (none-some (Joined r) e)
of_members k g (m ∷ ms) r s e = by (reply_of k g m m.wait) refl e (of_members k g ms r (λ x. (s x).1)) where
  by : (x : Option Reply) → reply_of k g m m.wait ≡ x → option_or x (reply_among k g ms) ≡ Some (Joined r) → (reply_among k g ms ≡ Some (Joined r) → TellsIt r g) → TellsIt r g
  by None f e w = w e
  by (Some y) f e w = of_member k g m m.wait r (λ x. (s x).0) (f ∙ e)

record TellsSome (r : JoinReply) (gs : List Group) : Type 0 where
  group : Group
  among : IsOf group gs
  tells : TellsIt r group

of_groups : (k : ℕ) (gs : List Group) (r : JoinReply) → AllByRecursion ReadyStands gs → reply_in k gs ≡ Some (Joined r) → TellsSome r gs
of_groups k [] r s e = absurd (none-some (Joined r) e)
of_groups k (g ∷ gs) r s e = by (reply_among k g g.members) refl e (of_groups k gs r s.1) where
  by : (x : Option Reply) → reply_among k g g.members ≡ x → option_or x (reply_in k gs) ≡ Some (Joined r) → (reply_in k gs ≡ Some (Joined r) → TellsSome r gs) → TellsSome r (g ∷ gs)
  by None f e w = let t = w e in record { group = t.group; among = inr t.among; tells = t.tells }
  by (Some y) f e w = record { group = g; among = inl refl; tells = of_members k g g.members r s.0 (f ∙ e) }

not_refusal : (k : ℕ) (rs : List Refusal) (r : JoinReply) → refusal_in k rs ≡ Some (Joined r) → ⊥
unfolding is_joined
not_refusal k rs r e = by (find (is_for k) rs) e where
  by : (x : Option Refusal) → option_map (λ y. Refused y.error) x ≡ Some (Joined r) → ⊥
  by None e = none-some (Joined r) e
  by (Some y) e = true≢false (sym (ap is_joined (same_Some (Refused y.error) (Joined r) e)))

of_sent : (k : ℕ) (gs : List Group) (g : Group) → IsOf g gs → IsOf (sent_group k g) (map (sent_group k) gs)
of_sent k [] g i = i
of_sent k (h ∷ hs) g (inl is) = inl (ap (sent_group k) is)
of_sent k (h ∷ hs) g (inr i) = inr (of_sent k hs g i)

released_tells : (k : ℕ) (v : Groups) (r : JoinReply) → AllStand v → ready_for k v ≡ Some (Joined r) → TellsOf r (without_ready k v)
released_tells k v r s e = by (refusal_in k v.refused) refl e where
  tells : TellsSome r v.groups → TellsOf r (without_ready k v)
  tells t =
      let alike = alike_changed (sent k) (sent_keeps k) (sent_part k) t.group t.tells.stands in
      record {
        group = sent_group k t.group;
        among = of_sent k v.groups t.group t.among;
        stands = t.tells.stands;
        generation = t.tells.generation;
        protocol = t.tells.protocol ∙ sym alike.protocol;
        leader = t.tells.leader ∙ sym alike.leader;
      }

  by : (x : Option Reply) → refusal_in k v.refused ≡ x → option_or x (reply_in k v.groups) ≡ Some (Joined r) → TellsOf r (without_ready k v)
  by None f e = tells (of_groups k v.groups r s e)
  by (Some y) f e = absurd (not_refusal k v.refused r (f ∙ e))

-- ---- each act

-- While members join nothing is ready, behind an answer; and what it tells is so.
record Answers (x : Answered) : Type 0 where
  stand : AllStand x.groups
  tells : (r : JoinReply) → x.reply ≡ Some (Joined r) → TellsOf r x.groups

refused_answers : (e : GroupError) (v : Groups) → AllStand v → Answers (at_once (Refused e) v)
unfolding is_joined
refused_answers e v s = record { stand = s; tells = λ r f. absurd (true≢false (sym (ap is_joined (same_Some (Refused e) (Joined r) f)))) }

done_answers : (x : Option GroupError) (v : Groups) → AllStand v → Answers (at_once (reply_to x) v)
unfolding is_joined
done_answers (Some e) v s = refused_answers e v s
done_answers None v s = record { stand = s; tells = λ r f. absurd (true≢false (sym (ap is_joined (same_Some Done (Joined r) f)))) }

release_answers : (k : ℕ) (v : Groups) → AllStand v → Answers (release k v)
release_answers k v s = record { stand = sent_all k v s; tells = λ r e. released_tells k v r s e }

room_answers : (full k : ℕ) (v w : Groups) → AllStand v → AllStand w → Answers (if_room full v w k)
room_answers full k v w s t = by_test Answers (nat_lt MOST_BYTES full || nat_lt MOST_IDS w.ids) (at_once _ v) (release k w) (λ _. refused_answers _ v s) (λ _. release_answers k w t)

join_answers : (k : ℕ) (client : List ℕ) (q : JoinRequest) (v : Groups) → AllStand v → AllByRecursion (λ g. NoneReady g.members) v.groups → (r : Option GroupError) → Answers (ask_join k client q v r)
join_answers k client q v s none (Some x) = refused_answers x v s
join_answers k client q v s none None = room_answers (all_bytes (entered k client q v)) k v (joined k client q v) s (joined_stand k client q v none)

sync_answers : (k : ℕ) (q : SyncRequest) (v : Groups) → AreSound v → AllStand v → (r : Option GroupError) → sync_fault v q ≡ r → Answers (ask_sync k q v r)
sync_answers k q v sound s (Some x) e = refused_answers x v s
sync_answers k q v sound s None e = room_answers (all_bytes (move_one q.group (sync v.now k q) v)) k v (move_one q.group (sync v.now k q) v) s (synced_stand k q v sound s e)

heartbeat_answers : (name id : List ℕ) (v : Groups) → AllStand v → (r : Option GroupError) → Answers (ask_heartbeat name id v r)
heartbeat_answers name id v s (Some x) = refused_answers x v s
heartbeat_answers name id v s None = done_answers (preparing_fault (group_named name v)) (move_one name (heartbeat v.now id) v) (beat_stand name id v s)

leave_answers : (name id : List ℕ) (v : Groups) → AllStand v → AllByRecursion (λ g. NoneReady g.members) v.groups → (r : Option GroupError) → Answers (ask_leave name id v r)
leave_answers name id v s none (Some x) = refused_answers x v s
leave_answers name id v s none None = done_answers None (move_one name (leave v.settings v.now id) v)
    (one_stand name (leave v.settings v.now id) (leave_stands v.settings v.now id) v.generations v.groups none)

asked_answers : (k : ℕ) (client : List ℕ) (q : Request) (v : Groups) → AreSound v → AllStand v → AllByRecursion (λ g. NoneReady g.members) v.groups → Answers (asked k client q v)
asked_answers k client (Join q) v sound s none = join_answers k client q v s none (join_fault v q)
asked_answers k client (Sync q) v sound s none = sync_answers k q v sound s (sync_fault v q) refl
asked_answers k client (Heartbeat name generation id) v sound s none = heartbeat_answers name id v s (option_or (group_fault v.settings name) (member_fault generation id (group_named name v)))
asked_answers k client (Leave name id) v sound s none = leave_answers name id v s none (option_or (group_fault v.settings name) (unknown_fault id (group_named name v)))

commit_stand : (name id : List ℕ) (v : Groups) → AllStand v → (r : Option GroupError) → AllStand (commit_done name id v r)
commit_stand name id v s None = beat_stand name id v s
commit_stand name id v s (Some x) = s

act_answers : (a : Act) (v : Groups) → AreSound v → AllStand v → IsInTurn a v → Answers (record { reply = replied a v; groups = after a v })
act_answers (Ask k client q) v sound s turn = asked_answers k client q v sound s (none_ready v turn)
act_answers (Release k) v sound s turn = release_answers k v s
act_answers (Commit name generation id) v sound s turn = record { stand = commit_stand name id v s (commit_fault name generation id v); tells = λ r e. absurd (none-some (Joined r) e) }
act_answers (End k) v sound s turn = record {
  stand = each_moved ReadyStands ReadyStands (end_session v.now k) (λ n g x. end_stands v.now k n g x) v.generations v.groups s;
  tells = λ r e. absurd (none-some (Joined r) e);
}
act_answers (Clock t) v sound s turn = record { stand = s; tells = λ r e. absurd (none-some (Joined r) e) }
act_answers Expire v sound s turn = record {
  stand = each_moved (λ g. NoneReady g.members) ReadyStands (expire_group v.settings v.now) (expire_stands v.settings v.now) v.generations v.groups (none_ready v turn);
  tells = λ r e. absurd (none-some (Joined r) e);
}

all_stand : (o : Settings) (acts : List Act) → AllInTurn o acts → AllStand (behind_all o acts)
all_stand o [] t = tt
all_stand o (a ∷ before) t = (act_answers a (behind_all o before) (groups_sound o before) (all_stand o before t.1) t.0).stand

-- ---- over any acts

pub told_is_so : (o : Settings) (a : Act) (before : List Act) → AllInTurn o (a ∷ before) → (r : JoinReply) → replied a (behind_all o before) ≡ Some (Joined r) → TellsOf r (behind_all o (a ∷ before))
told_is_so o a before t r e = (act_answers a (behind_all o before) (groups_sound o before) (all_stand o before t.1) t.0).tells r e

sound_of : (gs : List Group) (g : Group) → AllByRecursion IsSound gs → IsOf g gs → IsSound g
sound_of [] g all i = absurd i
sound_of (h ∷ hs) g all (inl is) = subst IsSound (sym is) all.0
sound_of (h ∷ hs) g all (inr i) = sound_of hs g all.1 i

pub told_alike : (o : Settings) (later before : List Act) (r s : JoinReply) → TellsOf r (behind_all o before) → TellsOf s (behind_all o (later ++ before)) → s.generation ≡ r.generation → TellAlike r s
told_alike o later before r s x y e =
    let begun = is_begun x.group x.stands (sound_of (behind_all o before).groups x.group (groups_sound o before).each x.among) in
    let on = one_beginning o later before x.group y.group x.among y.among (sym y.generation ∙ e ∙ x.generation) begun.numbered in
    let alike = on.alike y.stands in
    record { protocol = y.protocol ∙ alike.protocol ∙ sym x.protocol; leader = y.leader ∙ alike.leader ∙ sym x.leader }
