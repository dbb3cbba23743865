-- A request leaves all groups that it doesn't name.
use Rattle.std.proofs.Common.{◌≡◌, ℕ, ◌+◌, ◌==◌, Bool, true, false, cond, ◌&&◌, ◌||◌, nat_lt, List, [], ◌∷◌, ◌++◌, map, length, refl, sym, ap, subst, ◌∙◌, arith, true≢false}
use Rattle.std.specs.Prelude.{Option, Some, None}
use Rattle.std.specs.List.{AllByRecursion, find}
use Rattle.std.specs.Option.{option_map, option_or, is_none}
use Rattle.std.specs.Str.{bytes_eq}
use Rattle.std.proofs.lemmas.Option.{none-some, same_Some}
use Rattle.std.proofs.lemmas.Slice.Eq.{bytes_eq-Decides}
use Rattle.group_coordinator.specs.declared.values.GroupError.{GroupError}
use Rattle.group_coordinator.specs.declared.values.TheConstants.{MOST_BYTES, MOST_IDS}
use Rattle.group_coordinator.specs.Members.{Member, is_ready}
use Rattle.group_coordinator.specs.Groups.{Group, Move, Moved, new_group, stays}
use Rattle.group_coordinator.specs.Requests.{JoinRequest, SyncRequest, Request, group_of}
use Rattle.group_coordinator.specs.Requests.Request.{Join, Sync, Heartbeat, Leave}
use Rattle.group_coordinator.specs.Joining.{waits, rejoin, join_new, sync, heartbeat, leave}
use Rattle.group_coordinator.specs.declared.values.Wait.TheVariants.{No}
use Rattle.group_coordinator.specs.Coordinators.{Groups, is_named, group_named, kept, move_each, move_one, only, all_bytes, sent, sent_group, without_ready, release, at_once, Answered, group_fault, member_fault, unknown_fault, sync_fault, join_fault, if_room, with_group, entered, joined, ask_join, ask_sync, ask_heartbeat, ask_leave, asked}
use Rattle.coordinator_laws.specs.Soundness.{AreSound}
use Rattle.coordinator_laws.specs.Ids.{tally, tally_all}
use Rattle.coordinator_laws.specs.Replies.{is_in_session}
use Rattle.coordinator_laws.proofs.Lists.{by_test, all_append, all_weaker}
use Rattle.coordinator_laws.proofs.Lifting.{KeepsName, names_rejoin, names_join_new, names_sync, names_leave}
use Rattle.coordinator_laws.proofs.Tallies.{none_tally}

-- a group of another name isn't found by this one
other_name : (x other name : List ℕ) → bytes_eq other name ≡ false → bytes_eq x other ≡ true → bytes_eq x name ≡ false
other_name x other name apart e = subst (λ (y : List ℕ). bytes_eq y name ≡ false) (sym ((bytes_eq-Decides x other).0 e)) apart

abbrev Peopled : List ℕ → List Group → Type 0
Peopled other gs = AllByRecursion (λ g. is_named other g ≡ false → nat_lt 0 (length g.members) ≡ true) gs

find_others : (name other : List ℕ) → bytes_eq other name ≡ false → (a : Move) → KeepsName a → (gs : List Group) → Peopled other gs → (n : ℕ)
    → find (is_named name) (move_each (only other a) n gs).groups ≡ find (is_named name) gs
find_others name other apart a names [] p n = refl
find_others name other apart a names (g ∷ gs) p n = by (is_named other g) refl (find_others name other apart a names gs p.1) where
  rest : Moved → List Group
  rest m = (move_each (only other a) m.generations gs).groups

  skipped : (h : Group) (hs : List Group) → is_named name h ≡ false → find (is_named name) (kept h ++ hs) ≡ find (is_named name) hs
  skipped h hs e = by_test (λ (ys : List Group). find (is_named name) (ys ++ hs) ≡ find (is_named name) hs) (0 == length h.members) [] (h ∷ [])
      (λ _. refl) (λ _. ap (λ (b : Bool). cond b (Some h) (find (is_named name) hs)) e)

  there : (hs : List Group) → nat_lt 0 (length g.members) ≡ true → kept g ++ hs ≡ g ∷ hs
  there hs e = by (0 == length g.members) refl where
    by : (b : Bool) → (0 == length g.members) ≡ b → cond b [] (g ∷ []) ++ hs ≡ g ∷ hs
    by true f = absurd (grind (arith, e, f))
    by false f = refl

  by : (b : Bool) → is_named other g ≡ b → ((n : ℕ) → find (is_named name) (move_each (only other a) n gs).groups ≡ find (is_named name) gs)
      → find (is_named name) (kept (cond b (a n g) (stays n g)).group ++ (move_each (only other a) (cond b (a n g) (stays n g)).generations gs).groups) ≡ cond (is_named name g) (Some g) (find (is_named name) gs)
  by true e r =
      skipped (a n g).group _ (subst (λ (x : List ℕ). bytes_eq x name ≡ false) (sym (names n g)) (other_name g.name other name apart e))
      ∙ r (a n g).generations ∙ sym (ap (λ (b : Bool). cond b (Some g) (find (is_named name) gs)) (other_name g.name other name apart e))
  by false e r = ap (find (is_named name)) (there _ (p.0 e)) ∙ ap (λ (s : Option Group). cond (is_named name g) (Some g) s) (r n)

find_sent : (name : List ℕ) (k : ℕ) (gs : List Group) → find (is_named name) (map (sent_group k) gs) ≡ option_map (sent_group k) (find (is_named name) gs)
find_sent name k [] = refl
find_sent name k (g ∷ gs) = by (is_named name g) (find_sent name k gs) where
  by : (b : Bool) → find (is_named name) (map (sent_group k) gs) ≡ option_map (sent_group k) (find (is_named name) gs)
      → cond b (Some (sent_group k g)) (find (is_named name) (map (sent_group k) gs)) ≡ option_map (sent_group k) (cond b (Some g) (find (is_named name) gs))
  by true r = refl
  by false r = r

-- where nobody waits in a session, nothing is sent
nothing_sent : (k : ℕ) (ms : List Member) → AllByRecursion (λ m. is_in_session k m ≡ false) ms → map (sent k) ms ≡ ms
nothing_sent k [] a = refl
nothing_sent k (m ∷ ms) a = (λ i. cond (a.0 i && is_ready m.wait) (waits No m) m ∷ map (sent k) ms) ∙ (λ i. m ∷ nothing_sent k ms a.1 i)

found_idle : (k : ℕ) (t : Group → Bool) (gs : List Group) (g : Group) → find t gs ≡ Some g → tally_all (is_in_session k) gs ≡ 0 → tally (is_in_session k) g.members ≡ 0
found_idle k t [] g e z = absurd (none-some g e)
found_idle k t (h ∷ hs) g e z = by (t h) e (found_idle k t hs g) where
  by : (b : Bool) → cond b (Some h) (find t hs) ≡ Some g → (find t hs ≡ Some g → tally_all (is_in_session k) hs ≡ 0 → tally (is_in_session k) g.members ≡ 0) → tally (is_in_session k) g.members ≡ 0
  by true e r = subst (λ (x : Group). tally (is_in_session k) x.members ≡ 0) (same_Some h g e) (omega (arith, z))
  by false e r = r e (omega (arith, z))

abbrev SameAt : List ℕ → (v w : Groups) → Type 0
SameAt name v w = group_named name w ≡ group_named name v

idle_same : (name : List ℕ) (k : ℕ) (v : Groups) → tally_all (is_in_session k) v.groups ≡ 0 → option_map (sent_group k) (group_named name v) ≡ group_named name v
idle_same name k v z = by (group_named name v) refl where
  by : (r : Option Group) → group_named name v ≡ r → option_map (sent_group k) r ≡ r
  by None e = refl
  by (Some g) e = λ i. Some (record g { members = nothing_sent k g.members (none_tally (is_in_session k) g.members (found_idle k (is_named name) v.groups g e z)) i })

sent_same : (name : List ℕ) (k : ℕ) (v w : Groups) → tally_all (is_in_session k) v.groups ≡ 0 → SameAt name v w → SameAt name v (without_ready k w)
sent_same name k v w z e = find_sent name k w.groups ∙ ap (option_map (sent_group k)) e ∙ idle_same name k v z

room_same : (full : ℕ) (name : List ℕ) (k : ℕ) (v w : Groups) → tally_all (is_in_session k) v.groups ≡ 0 → SameAt name v w → SameAt name v (if_room full v w k).groups
room_same full name k v w z e = by_test (λ (x : Answered). SameAt name v x.groups) (nat_lt MOST_BYTES full || nat_lt MOST_IDS w.ids) (at_once _ v) (release k w)
    (λ _. refl) (λ _. sent_same name k v w z e)

peopled_of : (other : List ℕ) (v : Groups) → AreSound v → Peopled other v.groups
peopled_of other v s = all_weaker _ _ (λ g p _. p) v.groups s.peopled

one_same : (name other : List ℕ) → bytes_eq other name ≡ false → (a : Move) → KeepsName a → (v : Groups) → AreSound v → SameAt name v (move_one other a v)
one_same name other apart a names v s = find_others name other apart a names v.groups (peopled_of other v s) v.generations

join_same : (name : List ℕ) (k : ℕ) (client : List ℕ) (q : JoinRequest) (v : Groups) → AreSound v → bytes_eq q.group name ≡ false → SameAt name v (joined k client q v)
join_same name k client q v s apart = by_test (λ (w : Groups). SameAt name v w) (0 == length q.member)
    (move_one q.group (join_new v.settings v.now k v.ids client q) (record (with_group q.group q.kind v) { ids = v.ids + 1 })) (move_one q.group (rejoin v.settings v.now k q) v)
    (λ _. find_others name q.group apart (join_new v.settings v.now k v.ids client q) (names_join_new v.settings v.now k v.ids client q) (with_group q.group q.kind v).groups peopled (with_group q.group q.kind v).generations ∙ opened)
    (λ _. one_same name q.group apart (rejoin v.settings v.now k q) (names_rejoin v.settings v.now k q) v s) where
      own : bytes_eq q.group q.group ≡ true
      own = (bytes_eq-Decides q.group q.group).1 refl

      more : Groups
      more = record v { groups = v.groups ++ new_group q.group q.kind ∷ [] }

      find_more : (gs : List Group) → find (is_named name) (gs ++ new_group q.group q.kind ∷ []) ≡ find (is_named name) gs
      find_more [] = ap (λ (b : Bool). cond b (Some (new_group q.group q.kind)) None) apart
      find_more (g ∷ gs) = ap (λ (r : Option Group). cond (is_named name g) (Some g) r) (find_more gs)

      opened : group_named name (with_group q.group q.kind v) ≡ group_named name v
      opened = by_test (λ (w : Groups). SameAt name v w) (is_none (group_named q.group v)) more v (λ _. find_more v.groups) (λ _. refl)

      peopled : Peopled q.group (with_group q.group q.kind v).groups
      peopled = by_test (λ (w : Groups). Peopled q.group w.groups) (is_none (group_named q.group v)) more v
          (λ _. all_append _ v.groups _ (peopled_of q.group v s) ((λ e. absurd (true≢false (sym own ∙ e))), tt)) (λ _. peopled_of q.group v s)

ask_join_same : (name : List ℕ) (k : ℕ) (client : List ℕ) (q : JoinRequest) (v : Groups) → AreSound v → tally_all (is_in_session k) v.groups ≡ 0 → bytes_eq q.group name ≡ false
    → (r : Option GroupError) → SameAt name v (ask_join k client q v r).groups
ask_join_same name k client q v s z apart (Some x) = refl
ask_join_same name k client q v s z apart None = room_same (all_bytes (entered k client q v)) name k v (joined k client q v) z (join_same name k client q v s apart)

ask_sync_same : (name : List ℕ) (k : ℕ) (q : SyncRequest) (v : Groups) → AreSound v → tally_all (is_in_session k) v.groups ≡ 0 → bytes_eq q.group name ≡ false
    → (r : Option GroupError) → SameAt name v (ask_sync k q v r).groups
ask_sync_same name k q v s z apart (Some x) = refl
ask_sync_same name k q v s z apart None = room_same (all_bytes (move_one q.group (sync v.now k q) v)) name k v (move_one q.group (sync v.now k q) v) z (one_same name q.group apart (sync v.now k q) (names_sync v.now k q) v s)

ask_heartbeat_same : (name other id : List ℕ) (v : Groups) → AreSound v → bytes_eq other name ≡ false → (r : Option GroupError) → SameAt name v (ask_heartbeat other id v r).groups
ask_heartbeat_same name other id v s apart (Some x) = refl
ask_heartbeat_same name other id v s apart None = one_same name other apart (heartbeat v.now id) (λ n g. refl) v s

ask_leave_same : (name other id : List ℕ) (v : Groups) → AreSound v → bytes_eq other name ≡ false → (r : Option GroupError) → SameAt name v (ask_leave other id v r).groups
ask_leave_same name other id v s apart (Some x) = refl
ask_leave_same name other id v s apart None = one_same name other apart (leave v.settings v.now id) (names_leave v.settings v.now id) v s

pub others_stay : (k : ℕ) (client : List ℕ) (q : Request) (v : Groups) → AreSound v → tally_all (is_in_session k) v.groups ≡ 0 → (name : List ℕ) → bytes_eq (group_of q) name ≡ false
    → group_named name (asked k client q v).groups ≡ group_named name v
others_stay k client (Join q) v s z name apart = ask_join_same name k client q v s z apart (join_fault v q)
others_stay k client (Sync q) v s z name apart = ask_sync_same name k q v s z apart (sync_fault v q)
others_stay k client (Heartbeat other generation id) v s z name apart = ask_heartbeat_same name other id v s apart (option_or (group_fault v.settings other) (member_fault generation id (group_named other v)))
others_stay k client (Leave other id) v s z name apart = ask_leave_same name other id v s apart (option_or (group_fault v.settings other) (unknown_fault id (group_named other v)))
