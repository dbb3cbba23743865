-- Moves of a group lose no request that waits: it waits on, or it is refused.
use Rattle.std.proofs.Common.{◌≡◌, ℕ, ◌+◌, ◌==◌, Bool, true, false, cond, not, ◌&&◌, ◌||◌, nat_lt, List, [], ◌∷◌, ◌++◌, map, length, refl, ap, ◌∙◌, arith, true≢false}
use Rattle.std.specs.Prelude.{if◌then◌else◌}
use Rattle.std.specs.List.{filter, list_any}
use Rattle.std.proofs.lemmas.List.Concat.{flat_map-cons}
use Rattle.group_coordinator.specs.declared.values.GroupError.{GroupError}
use Rattle.group_coordinator.specs.declared.values.GroupError.TheVariants.{UnknownMember, Rebalancing}
use Rattle.group_coordinator.specs.declared.values.Refusal.{Refusal}
use Rattle.group_coordinator.specs.declared.values.Settings.{Settings}
use Rattle.group_coordinator.specs.declared.values.TheConstants.{MOST_GENERATION}
use Rattle.group_coordinator.specs.declared.values.Wait.{Wait}
use Rattle.group_coordinator.specs.declared.values.Wait.TheVariants.{No, Joins, Syncs, Told, Assigned}
use Rattle.group_coordinator.specs.Members.{Member, has_id, is_joining, is_syncing, is_in, is_ready, beat, refusal_of, refusals_of}
use Rattle.group_coordinator.specs.Groups.{Group, Move, Moved, stays, and_then, is_preparing, is_stable, unsynced, prepare, drop_those, begun_wait, begun_member, begin_generation, if_any_left, complete, is_complete, settle}
use Rattle.group_coordinator.specs.Requests.{JoinRequest, SyncRequest}
use Rattle.group_coordinator.specs.Joining.{with_member, plainly, called, call, waits, is_repeat, rejoined, join_anew, rejoin, new_member, with_last, join_new, assigned, assigned_wait, is_led_by, give_parts, sync, heartbeat, leave, goes_with, unwaited, without_session, end_session}
use Rattle.group_coordinator.specs.Coordinators.{is_for}
use Rattle.group_coordinator.specs.Times.{is_silent, expire_group}
use Rattle.coordinator_laws.specs.Ids.{tally}
use Rattle.coordinator_laws.specs.Replies.{is_in_session}
use Rattle.coordinator_laws.proofs.Lists.{by_test}
use Rattle.coordinator_laws.proofs.Moving.{at_id}
use Rattle.coordinator_laws.proofs.Tallies.{once, tally_map, tally_append}

-- ---- refusals

one_refused : (k : ℕ) (e : GroupError) (w : Wait) (rs : List Refusal) → tally (is_for k) (refusal_of e w ++ rs) ≡ once (is_in k w) + tally (is_for k) rs
one_refused k e No rs = omega arith
one_refused k e (Joins j) rs = refl
one_refused k e (Syncs j) rs = refl
one_refused k e (Told j) rs = refl
one_refused k e (Assigned j) rs = refl

pub refused_count : (k : ℕ) (e : GroupError) (ms : List Member) → tally (is_for k) (refusals_of e ms) ≡ tally (is_in_session k) ms
refused_count k e [] = refl
refused_count k e (m ∷ ms) = ap (tally (is_for k)) (flat_map-cons (λ m. refusal_of e m.wait) m ms)
    ∙ one_refused k e m.wait (refusals_of e ms) ∙ omega (arith, refused_count k e ms)

split : (t u : Member → Bool) (ms : List Member) → tally t (filter (λ m. not (u m)) ms) + tally t (filter u ms) ≡ tally t ms
split t u [] = refl
split t u (m ∷ ms) = by (u m) (split t u ms) where
  by : (b : Bool) → tally t (filter (λ m. not (u m)) ms) + tally t (filter u ms) ≡ tally t ms
      → tally t (cond (not b) (m ∷ filter (λ m. not (u m)) ms) (filter (λ m. not (u m)) ms)) + tally t (cond b (m ∷ filter u ms) (filter u ms)) ≡ once (t m) + tally t ms
  by true r = omega (arith, r)
  by false r = omega (arith, r)

-- ---- moves

-- a move that leaves so many more requests waiting in a session, those that it refuses counted
abbrev pub Adds : (session : ℕ) → (count : ℕ) → Move → ℕ → Group → Type 0
Adds k c a n g = tally (is_in_session k) (a n g).group.members + tally (is_for k) (a n g).refusals ≡ tally (is_in_session k) g.members + c

-- a move by which no request is lost, and none comes
abbrev pub IsExact : Move → Type 0
IsExact a = (k n : ℕ) (g : Group) → Adds k 0 a n g

pub adds_then : (k c : ℕ) (a b : Move) (n : ℕ) (g : Group) → Adds k c a n g → IsExact b → Adds k c (and_then a b) n g
adds_then k c a b n g x y = omega (
  arith,
  x,
  y k (a n g).generations (a n g).group,
  tally_append (is_for k) (a n g).refusals (b (a n g).generations (a n g).group).refusals,
)

-- first an exact move, then one that adds some
pub then_adds : (k c : ℕ) (a b : Move) (n : ℕ) (g : Group) → Adds k 0 a n g → Adds k c b (a n g).generations (a n g).group → Adds k c (and_then a b) n g
then_adds k c a b n g x y = omega (arith, x, y, tally_append (is_for k) (a n g).refusals (b (a n g).generations (a n g).group).refusals)

exact_then : (a b : Move) → IsExact a → IsExact b → IsExact (and_then a b)
exact_then a b x y k n g = adds_then k 0 a b n g (x k n g) y

exact_if : (test : Group → Bool) (a b : Move) → IsExact a → IsExact b → (k n : ℕ) (g : Group)
    → tally (is_in_session k) (cond (test g) (a n g) (b n g)).group.members + tally (is_for k) (cond (test g) (a n g) (b n g)).refusals ≡ tally (is_in_session k) g.members + 0
exact_if test a b x y k n g = by_test (λ (m : Moved). tally (is_in_session k) m.group.members + tally (is_for k) m.refusals ≡ tally (is_in_session k) g.members + 0) (test g) (a n g) (b n g)
    (λ _. x k n g) (λ _. y k n g)

pub stays_exact : IsExact stays
stays_exact k n g = refl

drop_exact : (goes : Member → Bool) → IsExact (drop_those goes)
drop_exact goes k n g = omega (arith, split (is_in_session k) goes g.members, refused_count k UnknownMember (filter goes g.members))

unsynced_count : (k now : ℕ) (ms : List Member) → tally (is_in_session k) (map (unsynced now) ms) + tally (is_in_session k) (filter (λ m. is_syncing m.wait) ms) ≡ tally (is_in_session k) ms
unsynced_count k now [] = refl
unsynced_count k now (m ∷ ms) = by (is_syncing m.wait) (unsynced_count k now ms) where
  by : (b : Bool) → tally (is_in_session k) (map (unsynced now) ms) + tally (is_in_session k) (filter (λ m. is_syncing m.wait) ms) ≡ tally (is_in_session k) ms
      → tally (is_in_session k) (cond b (record m { until = now + m.session; wait = No }) m ∷ map (unsynced now) ms) + tally (is_in_session k) (cond b (m ∷ filter (λ m. is_syncing m.wait) ms) (filter (λ m. is_syncing m.wait) ms)) ≡ once (is_in_session k m) + tally (is_in_session k) ms
  by true r = omega (arith, r)
  by false r = omega (arith, r)

prepare_exact : (o : Settings) (now : ℕ) → IsExact (prepare o now)
prepare_exact o now k n g = by_test (λ (m : Moved). tally (is_in_session k) m.group.members + tally (is_for k) m.refusals ≡ tally (is_in_session k) g.members + 0) (is_preparing g.phase) (stays n g) _
    (λ _. refl) (λ _. omega (arith, unsynced_count k now g.members, refused_count k Rebalancing (filter (λ m. is_syncing m.wait) g.members)))

begun_in : (k : ℕ) (w : Wait) → is_in k (begun_wait w) ≡ is_in k w
begun_in k No = refl
begun_in k (Joins j) = refl
begun_in k (Syncs j) = refl
begun_in k (Told j) = refl
begun_in k (Assigned j) = refl

begin_exact : (now : ℕ) → IsExact (begin_generation now)
begin_exact now k n g = by_test (λ (m : Moved). tally (is_in_session k) m.group.members + tally (is_for k) m.refusals ≡ tally (is_in_session k) g.members + 0) (nat_lt n MOST_GENERATION) _ (drop_those (λ m. true) n g)
    (λ _. omega (arith, tally_map (is_in_session k) (is_in_session k) (begun_member now) (λ m. begun_in k m.wait) g.members)) (λ _. drop_exact (λ m. true) k n g)

complete_exact : (now : ℕ) → IsExact (complete now)
complete_exact now = exact_then (drop_those (λ m. not (is_joining m.wait))) (if_any_left (begin_generation now)) (drop_exact (λ m. not (is_joining m.wait)))
    (exact_if (λ g. 0 == length g.members) stays (begin_generation now) stays_exact (begin_exact now))

pub settle_exact : (now : ℕ) → IsExact (settle now)
settle_exact now = exact_if (λ g. is_complete now g g.phase) (complete now) stays (complete_exact now) stays_exact

anew_exact : (o : Settings) (now : ℕ) → IsExact (and_then (prepare o now) (settle now))
anew_exact o now = exact_then (prepare o now) (settle now) (prepare_exact o now) (settle_exact now)

pub leave_exact : (o : Settings) (now : ℕ) (id : List ℕ) → IsExact (leave o now id)
leave_exact o now id = exact_then (drop_those (has_id id)) (and_then (prepare o now) (settle now)) (drop_exact (has_id id)) (anew_exact o now)

pub expire_exact : (o : Settings) (now : ℕ) → IsExact (expire_group o now)
expire_exact o now k n g = by_test (λ (m : Moved). tally (is_in_session k) m.group.members + tally (is_for k) m.refusals ≡ tally (is_in_session k) g.members + 0) (list_any (is_silent now g) g.members)
    (and_then (drop_those (is_silent now g)) (and_then (prepare o now) (settle now)) n g) (settle now n g)
    (λ _. exact_then (drop_those (is_silent now g)) (and_then (prepare o now) (settle now)) (drop_exact (is_silent now g)) (anew_exact o now) k n g) (λ _. settle_exact now k n g)

beat_in : (k now : ℕ) (id : List ℕ) (m : Member) → is_in_session k (at_id id (beat now) m) ≡ is_in_session k m
beat_in k now id m = by_test (λ (x : Member). is_in_session k x ≡ is_in_session k m) (has_id id m) (beat now m) m (λ _. refl) (λ _. refl)

pub heartbeat_exact : (now : ℕ) (id : List ℕ) → IsExact (heartbeat now id)
heartbeat_exact now id k n g = omega (arith, tally_map (is_in_session k) (is_in_session k) (at_id id (beat now)) (beat_in k now id) g.members)

-- ---- a request that waits from now on

-- a member that was called, and waits in a session now
called_count : (k j now : ℕ) (id : List ℕ) (f : Member → Member) → ((m : Member) → is_in_session k (f m) ≡ (j == k)) → (ms : List Member)
    → tally (is_in_session k) (map (at_id id f) (map (at_id id (called now)) ms)) + tally (is_in_session k) (filter (has_id id) ms)
    ≡ tally (is_in_session k) ms + tally (λ m. has_id id m && (j == k)) ms
called_count k j now id f w [] = refl
called_count k j now id f w (m ∷ ms) = by (has_id id m) refl (called_count k j now id f w ms) where
  by : (b : Bool) → has_id id m ≡ b
      → tally (is_in_session k) (map (at_id id f) (map (at_id id (called now)) ms)) + tally (is_in_session k) (filter (has_id id) ms) ≡ tally (is_in_session k) ms + tally (λ m. has_id id m && (j == k)) ms
      → tally (is_in_session k) (at_id id f (cond b (called now m) m) ∷ map (at_id id f) (map (at_id id (called now)) ms)) + tally (is_in_session k) (cond b (m ∷ filter (has_id id) ms) (filter (has_id id) ms))
      ≡ once (is_in_session k m) + tally (is_in_session k) ms + (once (b && (j == k)) + tally (λ m. has_id id m && (j == k)) ms)
  by true e r = let here : once (is_in_session k (at_id id f (called now m))) ≡ once (j == k) =
      (λ i. once (is_in_session k (cond (e i) (f (called now m)) (called now m)))) ∙ ap once (w (called now m)) in omega (arith, r, here)
  by false e r = let here : once (is_in_session k (at_id id f m)) ≡ once (is_in_session k m) = (λ i. once (is_in_session k (cond (e i) (f m) m))) in omega (arith, r, here)

-- of one member of this id
one_of_id : (id : List ℕ) (b : Bool) (ms : List Member) → tally (has_id id) ms ≡ 1 → tally (λ m. has_id id m && b) ms ≡ once b
one_of_id id true ms e = tally_same ms ∙ e where
  and_true : (b : Bool) → (b && true) ≡ b
  and_true true = refl
  and_true false = refl

  tally_same : (ms : List Member) → tally (λ m. has_id id m && true) ms ≡ tally (has_id id) ms
  tally_same [] = refl
  tally_same (m ∷ ms) = λ i. once (and_true (has_id id m) i) + tally_same ms i
one_of_id id false ms e = none ms where
  and_false : (b : Bool) → (b && false) ≡ false
  and_false true = refl
  and_false false = refl

  none : (ms : List Member) → tally (λ m. has_id id m && false) ms ≡ 0
  none [] = refl
  none (m ∷ ms) = let here : once (has_id id m && false) ≡ 0 = ap once (and_false (has_id id m)) in omega (arith, here, none ms)

-- a member is called, and waits in session j
calls : (k j now : ℕ) (id : List ℕ) (f : Member → Member) → ((m : Member) → is_in_session k (f m) ≡ (j == k)) → (n : ℕ) (g : Group) → tally (has_id id) g.members ≡ 1
    → Adds k (once (j == k)) (and_then (call now id) (plainly (with_member id f))) n g
calls k j now id f w n g one = omega (
  arith,
  called_count k j now id f w g.members,
  one_of_id id (j == k) g.members one,
  refused_count k Rebalancing (filter (has_id id) g.members),
  tally_append (is_for k) (refusals_of Rebalancing (filter (has_id id) g.members)) [],
)

pub rejoin_adds : (o : Settings) (now k j : ℕ) (q : JoinRequest) (n : ℕ) (g : Group) → tally (has_id q.member) g.members ≡ 1 → Adds k (once (j == k)) (rejoin o now j q) n g
rejoin_adds o now k j q n g one = by_test (λ (m : Moved). tally (is_in_session k) m.group.members + tally (is_for k) m.refusals ≡ tally (is_in_session k) g.members + once (j == k)) (is_repeat q g)
    (and_then (call now q.member) (plainly (with_member q.member (waits (Told j)))) n g)
    (and_then (call now q.member) (join_anew o now j q) n g)
    (λ _. calls k j now q.member (waits (Told j)) (λ m. refl) n g one)
    (λ _. omega (
      arith,
      calls k j now q.member (rejoined now j q) (λ m. refl) n g one,
      anew_exact o now k n (with_member q.member (rejoined now j q) (with_member q.member (called now) g)),
      tally_append (is_for k) (refusals_of Rebalancing (filter (has_id q.member) g.members)) [],
      tally_append (is_for k) (refusals_of Rebalancing (filter (has_id q.member) g.members)) (join_anew o now j q n (with_member q.member (called now) g)).refusals,
    ))

pub join_new_adds : (o : Settings) (now k j number : ℕ) (client : List ℕ) (q : JoinRequest) (n : ℕ) (g : Group) → Adds k (once (j == k)) (join_new o now j number client q) n g
join_new_adds o now k j number client q n g = adds_then k (once (j == k)) (plainly (with_last new)) (and_then (prepare o now) (settle now)) n g
    (omega (arith, tally_append (is_in_session k) g.members (new ∷ []))) (anew_exact o now) where
      new : Member
      new = new_member o now j number client q

assigned_in : (k : ℕ) (w : Wait) → is_in k (assigned_wait w) ≡ is_in k w
assigned_in k No = refl
assigned_in k (Joins j) = refl
assigned_in k (Syncs j) = refl
assigned_in k (Told j) = refl
assigned_in k (Assigned j) = refl

given_exact : (now : ℕ) (q : SyncRequest) → IsExact (plainly (give_parts now q))
given_exact now q k n g = by_test (λ (h : Group). tally (is_in_session k) h.members + 0 ≡ tally (is_in_session k) g.members + 0) (is_led_by q.member g) _ g
    (λ _. omega (arith, tally_map (is_in_session k) (is_in_session k) (assigned now q.parts) (λ m. assigned_in k m.wait) g.members)) (λ _. refl)

pub sync_adds : (now k j : ℕ) (q : SyncRequest) (n : ℕ) (g : Group) → tally (has_id q.member) g.members ≡ 1 → Adds k (once (j == k)) (sync now j q) n g
sync_adds now k j q n g one = by_test (λ (m : Moved). tally (is_in_session k) m.group.members + tally (is_for k) m.refusals ≡ tally (is_in_session k) g.members + once (j == k)) (is_stable g.phase)
    (and_then (call now q.member) (plainly (with_member q.member (waits (Assigned j)))) n g)
    (and_then (call now q.member) (and_then (plainly (with_member q.member (waits (Syncs j)))) (plainly (give_parts now q))) n g)
    (λ _. calls k j now q.member (waits (Assigned j)) (λ m. refl) n g one)
    (λ _. omega (
      arith,
      calls k j now q.member (waits (Syncs j)) (λ m. refl) n g one,
      given_exact now q k n (with_member q.member (waits (Syncs j)) (with_member q.member (called now) g)),
    ))

-- ---- the end of a session

-- who waits in one session waits in no other
in_one : (j k : ℕ) → (j == k) ≡ false → (w : Wait) → is_in j w ≡ true → is_in k w ≡ false
in_one j k apart No e = refl
in_one j k apart (Joins i) e = grind (arith, apart, e)
in_one j k apart (Syncs i) e = grind (arith, apart, e)
in_one j k apart (Told i) e = grind (arith, apart, e)
in_one j k apart (Assigned i) e = grind (arith, apart, e)

ended : ℕ → Member → Member
ended now m = record m { wait = No; until = if is_ready m.wait then m.until else now + m.session }

-- of others as many wait
others_wait : (j k now : ℕ) → (j == k) ≡ false → (ms : List Member) → tally (is_in_session k) (map (unwaited now j) (filter (λ m. not (goes_with j m)) ms)) ≡ tally (is_in_session k) ms
unfolding ended
others_wait j k now apart [] = refl
others_wait j k now apart (m ∷ ms) = by (is_in j m.wait) (is_ready m.wait) m.is_told refl (others_wait j k now apart ms) where
  rest : List Member
  rest = map (unwaited now j) (filter (λ m. not (goes_with j m)) ms)

  stays_here : is_in j m.wait ≡ false → once (is_in_session k (unwaited now j m)) ≡ once (is_in_session k m)
  stays_here e = λ i. once (is_in_session k (cond (e i) (record m { wait = No; until = if is_ready m.wait then m.until else now + m.session }) m))

  goes_here : is_in j m.wait ≡ true → once (is_in_session k (unwaited now j m)) ≡ 0
  goes_here e = λ i. once (is_in_session k (cond (e i) (record m { wait = No; until = if is_ready m.wait then m.until else now + m.session }) m))

  nobody : is_in j m.wait ≡ true → once (is_in_session k m) ≡ 0
  nobody e = ap once (in_one j k apart m.wait e)

  by : (b r t : Bool) → is_in j m.wait ≡ b → tally (is_in_session k) (map (unwaited now j) (filter (λ m. not (goes_with j m)) ms)) ≡ tally (is_in_session k) ms
      → tally (is_in_session k) (map (unwaited now j) (cond (not (b && not r && not t)) (m ∷ filter (λ m. not (goes_with j m)) ms) (filter (λ m. not (goes_with j m)) ms))) ≡ once (is_in_session k m) + tally (is_in_session k) ms
  by false r t e h = omega (arith, stays_here e, h)
  by true true t e h = omega (arith, goes_here e, nobody e, h)
  by true false true e h = omega (arith, goes_here e, nobody e, h)
  by true false false e h = omega (arith, nobody e, h)

-- nobody waits in that session any more
none_wait : (k now : ℕ) (ms : List Member) → tally (is_in_session k) (map (unwaited now k) ms) ≡ 0
none_wait k now [] = refl
none_wait k now (m ∷ ms) = by (is_in k m.wait) refl (none_wait k now ms) where
  by : (b : Bool) → is_in k m.wait ≡ b → tally (is_in_session k) (map (unwaited now k) ms) ≡ 0
      → once (is_in_session k (cond b (record m { wait = No; until = if is_ready m.wait then m.until else now + m.session }) m)) + tally (is_in_session k) (map (unwaited now k) ms) ≡ 0
  by true e r = omega (arith, r)
  by false e r = let here : once (is_in_session k m) ≡ 0 = ap once e in omega (arith, here, r)

pub end_exact : (now j k n : ℕ) (g : Group) → (j == k) ≡ false → Adds k 0 (end_session now j) n g
end_exact now j k n g apart = by_test (λ (m : Moved). tally (is_in_session k) m.group.members + tally (is_for k) m.refusals ≡ tally (is_in_session k) g.members + 0) (list_any (λ m. is_in j m.wait) g.members)
    (and_then (plainly (without_session now j)) (settle now) n g) (stays n g)
    (λ _. adds_then k 0 (plainly (without_session now j)) (settle now) n g (omega (arith, others_wait j k now apart g.members)) (settle_exact now)) (λ _. refl)

not_any : (k : ℕ) (ms : List Member) → list_any (λ m. is_in k m.wait) ms ≡ false → tally (is_in_session k) ms ≡ 0
not_any k [] e = refl
not_any k (m ∷ ms) e = by (is_in k m.wait) refl e (not_any k ms) where
  by : (b : Bool) → is_in k m.wait ≡ b → (b || list_any (λ m. is_in k m.wait) ms) ≡ false → (list_any (λ m. is_in k m.wait) ms ≡ false → tally (is_in_session k) ms ≡ 0) → once b + tally (is_in_session k) ms ≡ 0
  by true f e r = absurd (true≢false e)
  by false f e r = omega (arith, r e)

pub end_none : (now k n : ℕ) (g : Group) → tally (is_in_session k) (end_session now k n g).group.members + tally (is_for k) (end_session now k n g).refusals ≡ 0
end_none now k n g = by_test (λ (m : Moved). tally (is_in_session k) m.group.members + tally (is_for k) m.refusals ≡ 0) (list_any (λ m. is_in k m.wait) g.members)
    (and_then (plainly (without_session now k)) (settle now) n g) (stays n g)
    (λ _. omega (arith, none_wait k now (filter (λ m. not (goes_with k m)) g.members), settle_exact now k n (without_session now k g)))
    (λ e. omega (arith, not_any k g.members e))
