-- The moves of members' requests, and of sessions that end, leave a sound group sound.
use Rattle.std.proofs.Common.{◌≡◌, ℕ, ◌+◌, Bool, true, false, not, ◌&&◌, ◌||◌, List, [], ◌∷◌, ◌++◌, map, refl, sym, subst, ◌∙◌, arith, true≢false}
use Rattle.std.specs.Prelude.{if◌then◌else◌}
use Rattle.std.specs.List.{AllByRecursion, filter, list_any}
use Rattle.std.specs.Str.{bytes_eq}
use Rattle.group_coordinator.specs.declared.values.Phase.{Phase}
use Rattle.group_coordinator.specs.declared.values.Phase.TheVariants.{Preparing, Completing, Stable}
use Rattle.group_coordinator.specs.declared.values.Settings.{Settings}
use Rattle.group_coordinator.specs.declared.values.Wait.{Wait}
use Rattle.group_coordinator.specs.declared.values.Wait.TheVariants.{No, Joins, Syncs, Told, Assigned}
use Rattle.group_coordinator.specs.Members.{Protocol, Member, has_id, member_id, client_name, hex, is_joining, is_syncing, is_ready, is_in, knows, beat}
use Rattle.group_coordinator.specs.Groups.{Group, Moved, is_leader, is_preparing, is_completing, is_stable, settle, stays, and_then}
use Rattle.group_coordinator.specs.Requests.{JoinRequest, SyncRequest, Part}
use Rattle.group_coordinator.specs.Joining.{with_member, plainly, called, call, waits, same_protocols, repeats, is_repeat, rejoined, join_anew, rejoin, new_member, with_last, join_new, assigned, assigned_wait, is_led_by, give_parts, sync, heartbeat, leave, goes_with, unwaited, without_session, end_session}
use Rattle.coordinator_laws.specs.Soundness.{AllKnow, AllNamed, NoneSyncs, IsBegun, IsSound, IsSoundIn}
use Rattle.coordinator_laws.proofs.Lists.{by_test, all_map, all_mapped, all_filter, all_and, all_append, all_weaker, found, none_of, filter_same}
use Rattle.coordinator_laws.proofs.Settling.{IsOpen, settle_sound}
use Rattle.coordinator_laws.proofs.Moving.{KeepsMember, at_id, keeps_at, keeps_known, keeps_named, changed, keeps_begun, stands_sound, keeps_sound, anew_sound, none_syncs, is_open, settle_keeps, dropped_sound}

-- ---- changes of one member

pub called_keeps : (now : ℕ) → KeepsMember (called now)
called_keeps now = record { number = λ m. refl; id = λ m. refl; protocols = λ m. refl; is_told = λ m. refl }

pub waits_keeps : (w : Wait) → KeepsMember (waits w)
waits_keeps w = record { number = λ m. refl; id = λ m. refl; protocols = λ m. refl; is_told = λ m. refl }

pub beat_keeps : (now : ℕ) → KeepsMember (beat now)
beat_keeps now = record { number = λ m. refl; id = λ m. refl; protocols = λ m. refl; is_told = λ m. refl }

-- what holds of what a member waits for holds where another one changes
at_wait : (P : Wait → Wait → Type 0) (id : List ℕ) (f : Member → Member) → ((m : Member) → P m.wait (f m).wait) → ((w : Wait) → P w w) → (m : Member) → P m.wait (at_id id f m).wait
at_wait P id f each same m = by_test (λ (x : Member). P m.wait x.wait) (has_id id m) (f m) m (λ e. each m) (λ e. same m.wait)

abbrev NotJoining : Wait → Wait → Type 0
NotJoining v w = is_joining v ≡ false → is_joining w ≡ false

abbrev NotSyncing : Wait → Wait → Type 0
NotSyncing v w = is_syncing v ≡ false → is_syncing w ≡ false

abbrev SameJoining : Wait → Wait → Type 0
SameJoining v w = is_joining w ≡ is_joining v

called_sound : (now : ℕ) (id : List ℕ) (g : Group) → is_preparing g.phase ≡ false → IsSound g → IsSound (changed (at_id id (called now)) g)
called_sound now id g e s = stands_sound (at_id id (called now)) (keeps_at id (called now) (called_keeps now))
    (at_wait NotJoining id (called now) (λ m q. refl) (λ w q. q)) (at_wait NotSyncing id (called now) (λ m q. refl) (λ w q. q)) g e s

-- a reply is ready for a member at once
ready_sound : (now : ℕ) (id : List ℕ) (w : Wait) → is_joining w ≡ false → is_syncing w ≡ false → (g : Group) → is_preparing g.phase ≡ false → IsSound g
    → IsSound (changed (at_id id (waits w)) (changed (at_id id (called now)) g))
ready_sound now id w j y g e s = stands_sound (at_id id (waits w)) (keeps_at id (waits w) (waits_keeps w))
    (at_wait NotJoining id (waits w) (λ m q. j) (λ w q. q)) (at_wait NotSyncing id (waits w) (λ m q. y) (λ w q. q))
    (changed (at_id id (called now)) g) e (called_sound now id g e s)

pub heartbeat_sound : (now : ℕ) (id : List ℕ) (n : ℕ) (g : Group) → IsSound g → IsSound (heartbeat now id n g).group
heartbeat_sound now id n g s = keeps_sound (at_id id (beat now)) (keeps_at id (beat now) (beat_keeps now))
    (at_wait SameJoining id (beat now) (λ m. refl) (λ w. refl)) (at_wait NotSyncing id (beat now) (λ m q. q) (λ w q. q)) g s

pub leave_sound : (o : Settings) (now : ℕ) (id : List ℕ) (n : ℕ) (g : Group) → IsSound g → IsSound (leave o now id n g).group
leave_sound o now id n g s = dropped_sound o now n (has_id id) g s

-- ---- joining

-- the protocols of a join have one that the others know
pub record Fits (q : JoinRequest) (g : Group) : Type 0 where
  pub name : List ℕ
  pub asked : knows name q.protocols ≡ true
  pub others : AllByRecursion (λ m. has_id q.member m ≡ false → knows name m.protocols ≡ true) g.members

stands_if : (p : Phase) (x y l : Bool) → (x && y && (is_completing p || is_stable p && l)) ≡ true → is_preparing p ≡ false
stands_if (Preparing t) x y l e = absurd (grind (arith, e))
stands_if (Completing t) x y l e = refl
stands_if Stable x y l e = refl

pub repeat_stands : (q : JoinRequest) (g : Group) → is_repeat q g ≡ true → is_preparing g.phase ≡ false
repeat_stands q g e =
    let m = found (repeats q g) g.members e in
    stands_if g.phase (has_id q.member m.0) (same_protocols m.0.protocols q.protocols) (not (is_leader g m.0)) m.2

rejoined_known : (now k : ℕ) (q : JoinRequest) (g : Group) (f : Fits q g) → AllKnow f.name (map (at_id q.member (rejoined now k q)) (map (at_id q.member (called now)) g.members))
rejoined_known now k q g f = all_map _ _ (at_id q.member (rejoined now k q)) second (map (at_id q.member (called now)) g.members)
    (all_map _ _ (at_id q.member (called now)) first g.members f.others) where
      first : (m : Member) → (has_id q.member m ≡ false → knows f.name m.protocols ≡ true)
          → has_id q.member (at_id q.member (called now) m) ≡ false → knows f.name (at_id q.member (called now) m).protocols ≡ true
      first m w e = subst (λ (ps : List Protocol). knows f.name ps ≡ true) (sym ((keeps_at q.member (called now) (called_keeps now)).protocols m))
          (w (subst (λ (id : List ℕ). bytes_eq id q.member ≡ false) ((keeps_at q.member (called now) (called_keeps now)).id m) e))

      second : (m : Member) → (has_id q.member m ≡ false → knows f.name m.protocols ≡ true) → knows f.name (at_id q.member (rejoined now k q) m).protocols ≡ true
      second m w = by_test (λ (x : Member). knows f.name x.protocols ≡ true) (has_id q.member m) (rejoined now k q m) m (λ e. f.asked) w

rejoined_named : (now k : ℕ) (q : JoinRequest) (ms : List Member) → AllNamed ms → AllNamed (map (at_id q.member (rejoined now k q)) ms)
rejoined_named now k q ms named = all_map _ _ (at_id q.member (rejoined now k q))
    (λ m e. by_test (λ (x : Member). has_id [] x ≡ false) (has_id q.member m) (rejoined now k q m) m (λ _. e) (λ _. e)) ms named

rejoined_none : (now k : ℕ) (q : JoinRequest) (ms : List Member) → NoneSyncs ms → NoneSyncs (map (at_id q.member (rejoined now k q)) ms)
rejoined_none now k q ms none = all_map _ _ (at_id q.member (rejoined now k q)) (at_wait NotSyncing q.member (rejoined now k q) (λ m q. refl) (λ w q. q)) ms none

called_none : (now : ℕ) (id : List ℕ) (ms : List Member) → NoneSyncs ms → NoneSyncs (map (at_id id (called now)) ms)
called_none now id ms none = all_map _ _ (at_id id (called now)) (at_wait NotSyncing id (called now) (λ m q. refl) (λ w q. q)) ms none

anew_of : (o : Settings) (now k : ℕ) (q : JoinRequest) (n : ℕ) (g : Group) → IsSound g → Fits q g
    → IsSound (and_then (call now q.member) (join_anew o now k q) n g).group
anew_of o now k q n g s f =
    anew_sound o now n (changed (at_id q.member (rejoined now k q)) (changed (at_id q.member (called now)) g)) f.name
    (rejoined_known now k q g f)
    (rejoined_named now k q (map (at_id q.member (called now)) g.members) (keeps_named (at_id q.member (called now)) (keeps_at q.member (called now) (called_keeps now)) g.members s.named))
    (λ e. rejoined_none now k q (map (at_id q.member (called now)) g.members) (called_none now q.member g.members (none_syncs g s e)))

pub rejoin_sound : (o : Settings) (now k : ℕ) (q : JoinRequest) (n : ℕ) (g : Group) → IsSound g → Fits q g → IsSound (rejoin o now k q n g).group
rejoin_sound o now k q n g s f = by_test (λ (m : Moved). IsSound m.group) (is_repeat q g)
    (and_then (call now q.member) (plainly (with_member q.member (waits (Told k)))) n g)
    (and_then (call now q.member) (join_anew o now k q) n g)
    (λ e. ready_sound now q.member (Told k) refl refl g (repeat_stands q g e) s)
    (λ e. anew_of o now k q n g s f)

-- an id is never empty
pub has_some_id : (client : List ℕ) (start n : ℕ) → bytes_eq (member_id client start n) [] ≡ false
has_some_id client start n = by (client_name client) where
  by : (c : List ℕ) → bytes_eq (c ++ 45 ∷ (hex 16 start ++ 45 ∷ hex 16 n)) [] ≡ false
  by [] = refl
  by (x ∷ xs) = refl

-- the first member of a group, or one more
pub join_new_sound : (o : Settings) (now k number : ℕ) (client : List ℕ) (q : JoinRequest) (n : ℕ) (g : Group) (name : List ℕ)
    → knows name q.protocols ≡ true → AllKnow name g.members → AllNamed g.members → (is_preparing g.phase ≡ true → NoneSyncs g.members)
    → IsSound (join_new o now k number client q n g).group
join_new_sound o now k number client q n g name asked known named none =
    anew_sound o now n (with_last (new_member o now k number client q) g) name
    (all_append _ g.members _ known (asked, tt))
    (all_append _ g.members _ named (has_some_id client o.start number, tt))
    (λ e. all_append _ g.members _ (none e) (refl, tt))

-- ---- syncing

begun_in : (g : Group) (p : Phase) → is_preparing p ≡ false → IsSoundIn g p → IsBegun g
begun_in g (Preparing t) e s = absurd (grind (arith, e))
begun_in g (Completing t) e s = s.0
begun_in g Stable e s = s.0

pub is_begun : (g : Group) → is_preparing g.phase ≡ false → IsSound g → IsBegun g
is_begun g e s = begun_in g g.phase e s.in_phase

pub assigned_keeps : (now : ℕ) (parts : List Part) → KeepsMember (assigned now parts)
assigned_keeps now parts = record { number = λ m. refl; id = λ m. refl; protocols = λ m. refl; is_told = λ m. refl }

assigned_joins : (w : Wait) → is_joining w ≡ false → is_joining (assigned_wait w) ≡ false
assigned_joins No e = refl
assigned_joins (Joins k) e = absurd (grind (arith, e))
assigned_joins (Syncs k) e = refl
assigned_joins (Told k) e = refl
assigned_joins (Assigned k) e = refl

assigned_syncs : (w : Wait) → is_syncing (assigned_wait w) ≡ false
assigned_syncs No = refl
assigned_syncs (Joins k) = refl
assigned_syncs (Syncs k) = refl
assigned_syncs (Told k) = refl
assigned_syncs (Assigned k) = refl

-- a group in which a member waits for its leader, if it isn't the leader
syncs_in : (g : Group) (id : List ℕ) (k : ℕ) (p : Phase) → is_preparing p ≡ false → is_stable p ≡ false → IsSoundIn g p
    → is_led_by id (changed (at_id id (waits (Syncs k))) g) ≡ false → IsSoundIn (changed (at_id id (waits (Syncs k))) g) p
syncs_in g id k (Preparing t) e d s not_led = absurd (grind (arith, e))
syncs_in g id k Stable e d s not_led = absurd (grind (arith, d))
syncs_in g id k (Completing t) e d s not_led = (
  keeps_begun (at_id id (waits (Syncs k))) (keeps_at id (waits (Syncs k)) (waits_keeps (Syncs k))) (at_wait NotJoining id (waits (Syncs k)) (λ m q. refl) (λ w q. q)) g.phase g s.0,
  all_and _ _ _ joined (map (at_id id (waits (Syncs k))) g.members) (none_of _ _ not_led) (all_map _ _ (at_id id (waits (Syncs k))) others g.members s.1),
) where
  others : (m : Member) → (is_leader g m && is_syncing m.wait) ≡ false
      → has_id id (at_id id (waits (Syncs k)) m) ≡ false → (is_leader g (at_id id (waits (Syncs k)) m) && is_syncing (at_id id (waits (Syncs k)) m).wait) ≡ false
  others m e = by_test (λ (x : Member). has_id id x ≡ false → (is_leader g x && is_syncing x.wait) ≡ false) (has_id id m) (waits (Syncs k) m) m
      (λ y no. absurd (true≢false (sym y ∙ no))) (λ y no. e)

  joined : (m : Member) → (has_id id m && is_leader g m) ≡ false → (has_id id m ≡ false → (is_leader g m && is_syncing m.wait) ≡ false) → (is_leader g m && is_syncing m.wait) ≡ false
  joined m n w = by (has_id id m) refl n where
    by : (b : Bool) → has_id id m ≡ b → (b && is_leader g m) ≡ false → (is_leader g m && is_syncing m.wait) ≡ false
    by true y n = grind (arith, n)
    by false y n = w y

waited : (g : Group) (id : List ℕ) (now k : ℕ) (parts : List Part) → is_preparing g.phase ≡ false → IsSound g
    → IsSound (record (changed (at_id id (waits (Syncs k))) g) { phase = Stable; members = map (assigned now parts) (map (at_id id (waits (Syncs k))) g.members) })
waited g id now k parts e s = record {
  common = s.common;
  known = keeps_known (assigned now parts) (assigned_keeps now parts) s.common _ (keeps_known (at_id id (waits (Syncs k))) keeps s.common g.members s.known);
  named = keeps_named (assigned now parts) (assigned_keeps now parts) _ (keeps_named (at_id id (waits (Syncs k))) keeps g.members s.named);
  in_phase = (
    keeps_begun (assigned now parts) (assigned_keeps now parts) (λ m. assigned_joins m.wait) Stable (changed (at_id id (waits (Syncs k))) g)
        (keeps_begun (at_id id (waits (Syncs k))) keeps (at_wait NotJoining id (waits (Syncs k)) (λ m q. refl) (λ w q. q)) g.phase g (is_begun g e s)),
    all_mapped _ (assigned now parts) (λ m. assigned_syncs m.wait) _,
  );
} where
  keeps : KeepsMember (at_id id (waits (Syncs k)))
  keeps = keeps_at id (waits (Syncs k)) (waits_keeps (Syncs k))

syncs_sound : (g : Group) (q : SyncRequest) (now k : ℕ) → is_preparing g.phase ≡ false → is_stable g.phase ≡ false → IsSound g
    → IsSound (give_parts now q (changed (at_id q.member (waits (Syncs k))) g))
syncs_sound g q now k e d s = by_test IsSound (is_led_by q.member (changed (at_id q.member (waits (Syncs k))) g)) _ (changed (at_id q.member (waits (Syncs k))) g)
    (λ led. waited g q.member now k q.parts e s)
    (λ not_led. record {
      common = s.common;
      known = keeps_known (at_id q.member (waits (Syncs k))) (keeps_at q.member (waits (Syncs k)) (waits_keeps (Syncs k))) s.common g.members s.known;
      named = keeps_named (at_id q.member (waits (Syncs k))) (keeps_at q.member (waits (Syncs k)) (waits_keeps (Syncs k))) g.members s.named;
      in_phase = syncs_in g q.member k g.phase e d s.in_phase not_led;
    })

pub sync_sound : (now k : ℕ) (q : SyncRequest) (n : ℕ) (g : Group) → is_preparing g.phase ≡ false → IsSound g → IsSound (sync now k q n g).group
sync_sound now k q n g e s = by_test (λ (m : Moved). IsSound m.group) (is_stable g.phase)
    (and_then (call now q.member) (plainly (with_member q.member (waits (Assigned k)))) n g)
    (and_then (call now q.member) (and_then (plainly (with_member q.member (waits (Syncs k)))) (plainly (give_parts now q))) n g)
    (λ d. ready_sound now q.member (Assigned k) refl refl g e s)
    (λ d. syncs_sound (changed (at_id q.member (called now)) g) q now k e d (called_sound now q.member g e s))

-- ---- the end of a session

pub unwaited_keeps : (now k : ℕ) → KeepsMember (unwaited now k)
unwaited_keeps now k = record {
  number = λ m. by_test (λ (x : Member). x.number ≡ m.number) (is_in k m.wait) (gone now m) m (λ e. refl) (λ e. refl);
  id = λ m. by_test (λ (x : Member). x.id ≡ m.id) (is_in k m.wait) (gone now m) m (λ e. refl) (λ e. refl);
  protocols = λ m. by_test (λ (x : Member). x.protocols ≡ m.protocols) (is_in k m.wait) (gone now m) m (λ e. refl) (λ e. refl);
  is_told = λ m. by_test (λ (x : Member). x.is_told ≡ m.is_told) (is_in k m.wait) (gone now m) m (λ e. refl) (λ e. refl);
} where
  gone : ℕ → Member → Member
  gone now m = record m { wait = No; until = if is_ready m.wait then m.until else now + m.session }

unwaited_wait : (P : Wait → Wait → Type 0) (now k : ℕ) → ((w : Wait) → P w No) → ((w : Wait) → P w w) → (m : Member) → P m.wait (unwaited now k m).wait
unwaited_wait P now k none same m = by_test (λ (x : Member). P m.wait x.wait) (is_in k m.wait) (record m { wait = No; until = if is_ready m.wait then m.until else now + m.session }) m
    (λ e. none m.wait) (λ e. same m.wait)

-- in a generation that stands, nobody goes with a session
pub none_go : (k : ℕ) (ms : List Member) → AllByRecursion (λ m. m.is_told ≡ true) ms → filter (λ m. not (goes_with k m)) ms ≡ ms
none_go k ms told = filter_same _ ms (all_weaker _ _ (λ m e. by (is_in k m.wait) (is_ready m.wait) m.is_told e) ms told) where
  by : (x y z : Bool) → z ≡ true → not (x && not y && not z) ≡ true
  by x y z e = grind (arith, e)

without_stands : (now k : ℕ) (g : Group) → is_preparing g.phase ≡ false → IsSound g → IsSound (without_session now k g)
without_stands now k g e s = subst (λ (ms : List Member). IsSound (record g { members = map (unwaited now k) ms })) (sym (none_go k g.members (is_begun g e s).all_told))
    (stands_sound (unwaited now k) (unwaited_keeps now k) (unwaited_wait NotJoining now k (λ w q. refl) (λ w q. q)) (unwaited_wait NotSyncing now k (λ w q. refl) (λ w q. q)) g e s)

without_open : (now k : ℕ) (g : Group) → IsOpen g → IsOpen (without_session now k g)
without_open now k g o = record {
  common = o.common;
  known = keeps_known (unwaited now k) (unwaited_keeps now k) o.common _ (all_filter _ _ g.members o.known);
  named = keeps_named (unwaited now k) (unwaited_keeps now k) _ (all_filter _ _ g.members o.named);
  none_syncs = all_map _ _ (unwaited now k) (unwaited_wait NotSyncing now k (λ w q. refl) (λ w q. q)) _ (all_filter _ _ g.members o.none_syncs);
  at = o.at;
  is_open = o.is_open;
}

pub end_sound : (now k n : ℕ) (g : Group) → IsSound g → IsSound (end_session now k n g).group
end_sound now k n g s = by_test (λ (m : Moved). IsSound m.group) (list_any (λ m. is_in k m.wait) g.members)
    (and_then (plainly (without_session now k)) (settle now) n g) (stays n g)
    (λ e. by (is_preparing g.phase) refl) (λ e. s) where
      by : (b : Bool) → is_preparing g.phase ≡ b → IsSound (settle now n (without_session now k g)).group
      by true f = settle_sound now n (without_session now k g) (without_open now k g (is_open g s f))
      by false f = settle_keeps now n (without_session now k g) (without_stands now k g f s)
