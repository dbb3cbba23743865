-- How many members pass a test on what they keep: no move of a group makes them more, but for who joins.
use Rattle.std.proofs.Common.{◌≡◌, ℕ, ◌+◌, ◌≤◌, ◌==◌, Bool, true, false, cond, not, nat_lt, List, [], ◌∷◌, ◌++◌, map, length, refl, sym, ap, subst, arith}
use Rattle.std.specs.List.{AllByRecursion, filter, list_any}
use Rattle.std.proofs.lemmas.Slice.Eq.{bytes_eq-Decides}
use Rattle.group_coordinator.specs.declared.values.Settings.{Settings}
use Rattle.group_coordinator.specs.declared.values.TheConstants.{MOST_GENERATION}
use Rattle.group_coordinator.specs.declared.values.Wait.TheVariants.{No, Syncs, Told, Assigned}
use Rattle.group_coordinator.specs.Members.{Member, has_id, is_joining, is_syncing, is_in, beat}
use Rattle.group_coordinator.specs.Groups.{Group, Move, Moved, stays, and_then, is_preparing, is_stable, unsynced, prepare, drop_those, begun_member, begin_generation, if_any_left, complete, is_complete, settle}
use Rattle.group_coordinator.specs.Requests.{JoinRequest, SyncRequest}
use Rattle.group_coordinator.specs.Joining.{with_member, plainly, called, call, waits, is_repeat, rejoined, join_anew, rejoin, new_member, with_last, join_new, assigned, is_led_by, give_parts, sync, heartbeat, leave, goes_with, unwaited, without_session, end_session}
use Rattle.group_coordinator.specs.Coordinators.{kept, move_each, only, is_named, sent_group, sent}
use Rattle.group_coordinator.specs.Times.{is_silent, expire_group}
use Rattle.coordinator_laws.specs.Ids.{tally, tally_all}
use Rattle.group_coordinator.specs.Keeping.{AreApart}
use Rattle.coordinator_laws.proofs.Lists.{by_test}
use Rattle.coordinator_laws.proofs.Moving.{KeepsMember, at_id, keeps_at}
use Rattle.coordinator_laws.proofs.Asking.{called_keeps, waits_keeps, beat_keeps, assigned_keeps, unwaited_keeps}
use Rattle.coordinator_laws.proofs.Acting.{sent_keeps}

-- ---- lists

abbrev pub once : Bool → ℕ
once b = cond b 1 0

pub tally_map : {X : Type 0} (t u : X → Bool) (f : X → X) → ((x : X) → t (f x) ≡ u x) → (xs : List X) → tally t (map f xs) ≡ tally u xs
tally_map t u f same [] = refl
tally_map t u f same (x ∷ xs) = λ i. cond (same x i) 1 0 + tally_map t u f same xs i

pub tally_filter : {X : Type 0} (t u : X → Bool) (xs : List X) → tally t (filter u xs) ≤ tally t xs
tally_filter t u [] = omega arith
tally_filter t u (x ∷ xs) = by (u x) (tally_filter t u xs) where
  by : (b : Bool) → tally t (filter u xs) ≤ tally t xs → tally t (cond b (x ∷ filter u xs) (filter u xs)) ≤ cond (t x) 1 0 + tally t xs
  by true r = omega (arith, r)
  by false r = omega (arith, r)

pub tally_append : {X : Type 0} (t : X → Bool) (xs ys : List X) → tally t (xs ++ ys) ≡ tally t xs + tally t ys
tally_append t [] ys = omega arith
tally_append t (x ∷ xs) ys = omega (arith, tally_append t xs ys)

pub tally_none : {X : Type 0} (t : X → Bool) (xs : List X) → AllByRecursion (λ x. t x ≡ false) xs → tally t xs ≡ 0
tally_none t [] a = refl
tally_none t (x ∷ xs) a = let e : once (t x) ≡ 0 = ap once a.0 in omega (arith, e, tally_none t xs a.1)

pub none_tally : {X : Type 0} (t : X → Bool) (xs : List X) → tally t xs ≡ 0 → AllByRecursion (λ x. t x ≡ false) xs
none_tally t [] e = tt
none_tally t (x ∷ xs) e = by (t x) refl e (none_tally t xs) where
  by : (b : Bool) → t x ≡ b → cond b 1 0 + tally t xs ≡ 0 → (tally t xs ≡ 0 → AllByRecursion (λ x. t x ≡ false) xs) → (t x ≡ false) × AllByRecursion (λ x. t x ≡ false) xs
  by true f e r = absurd (omega (arith, e))
  by false f e r = (f, r (omega (arith, e)))

-- ---- moves

-- a test on the id and the number of a member
abbrev pub OnId : Type 0
OnId = List ℕ → ℕ → Bool

abbrev pub passes : OnId → Member → Bool
passes t m = t m.id m.number

-- a move by which of no test more members pass, but for so many
abbrev pub AtMost : Move → OnId → ℕ → Type 0
AtMost a t k = (n : ℕ) (g : Group) → tally (passes t) (a n g).group.members ≤ tally (passes t) g.members + k

-- a move by which no more members pass
abbrev pub NoMore : Move → Type 0
NoMore a = (t : OnId) → AtMost a t 0

same_passes : (t : OnId) (f : Member → Member) → ((m : Member) → (f m).number ≡ m.number) → ((m : Member) → (f m).id ≡ m.id) → (m : Member) → passes t (f m) ≡ passes t m
same_passes t f number id m = λ i. t (id m i) (number m i)

mapped : (t : OnId) (f : Member → Member) → KeepsMember f → (ms : List Member) → tally (passes t) (map f ms) ≡ tally (passes t) ms
mapped t f k ms = tally_map (passes t) (passes t) f (same_passes t f k.number k.id) ms

pub more_then : (a b : Move) (t : OnId) (k : ℕ) → AtMost a t k → NoMore b → AtMost (and_then a b) t k
more_then a b t k x y n g = omega (arith, x n g, y t (a n g).generations (a n g).group)

stays_more : NoMore stays
stays_more t n g = omega arith

drop_more : (goes : Member → Bool) → NoMore (drop_those goes)
drop_more goes t n g = omega (arith, tally_filter (passes t) (λ m. not (goes m)) g.members)

prepare_more : (o : Settings) (now : ℕ) → NoMore (prepare o now)
prepare_more o now t n g = by_test (λ (m : Moved). tally (passes t) m.group.members ≤ tally (passes t) g.members + 0) (is_preparing g.phase) (stays n g) _
    (λ e. omega arith)
    (λ e. omega (arith, tally_map (passes t) (passes t) (unsynced now) one g.members)) where
      one : (m : Member) → passes t (unsynced now m) ≡ passes t m
      one m = by_test (λ (x : Member). passes t x ≡ passes t m) (is_syncing m.wait) (record m { until = now + m.session; wait = No }) m (λ e. refl) (λ e. refl)

begin_more : (now : ℕ) → NoMore (begin_generation now)
begin_more now t n g = by_test (λ (m : Moved). tally (passes t) m.group.members ≤ tally (passes t) g.members + 0) (nat_lt n MOST_GENERATION) _ (drop_those (λ m. true) n g)
    (λ e. omega (arith, tally_map (passes t) (passes t) (begun_member now) (λ m. refl) g.members)) (λ e. drop_more (λ m. true) t n g)

if_more : (test : Group → Bool) (a b : Move) → NoMore a → NoMore b → (t : OnId) (n : ℕ) (g : Group) → tally (passes t) (cond (test g) (a n g) (b n g)).group.members ≤ tally (passes t) g.members + 0
if_more test a b x y t n g = by_test (λ (m : Moved). tally (passes t) m.group.members ≤ tally (passes t) g.members + 0) (test g) (a n g) (b n g) (λ _. x t n g) (λ _. y t n g)

complete_more : (now : ℕ) → NoMore (complete now)
complete_more now t = more_then (drop_those (λ m. not (is_joining m.wait))) (if_any_left (begin_generation now)) t 0 (drop_more (λ m. not (is_joining m.wait)) t)
    (if_more (λ g. 0 == length g.members) stays (begin_generation now) stays_more (begin_more now))

pub settle_more : (now : ℕ) → NoMore (settle now)
settle_more now = if_more (λ g. is_complete now g g.phase) (complete now) stays (complete_more now) stays_more

anew_more : (o : Settings) (now : ℕ) → NoMore (and_then (prepare o now) (settle now))
anew_more o now t = more_then (prepare o now) (settle now) t 0 (prepare_more o now t) (settle_more now)

member_more : (id : List ℕ) (f : Member → Member) → KeepsMember f → NoMore (plainly (with_member id f))
member_more id f k t n g = omega (arith, mapped t (at_id id f) (keeps_at id f k) g.members)

call_more : (now : ℕ) (id : List ℕ) → NoMore (call now id)
call_more now id t n g = omega (arith, mapped t (at_id id (called now)) (keeps_at id (called now) (called_keeps now)) g.members)

rejoined_more : (now k : ℕ) (q : JoinRequest) → NoMore (plainly (with_member q.member (rejoined now k q)))
rejoined_more now k q t n g = omega (
  arith,
  tally_map (passes t) (passes t) (at_id q.member (rejoined now k q))
      (λ m. by_test (λ (x : Member). passes t x ≡ passes t m) (has_id q.member m) (rejoined now k q m) m (λ _. refl) (λ _. refl)) g.members,
)

pub rejoin_more : (o : Settings) (now k : ℕ) (q : JoinRequest) → NoMore (rejoin o now k q)
rejoin_more o now k q = if_more (λ g. is_repeat q g) (and_then (call now q.member) (plainly (with_member q.member (waits (Told k))))) (and_then (call now q.member) (join_anew o now k q))
    (λ t. more_then (call now q.member) (plainly (with_member q.member (waits (Told k)))) t 0 (call_more now q.member t) (member_more q.member (waits (Told k)) (waits_keeps (Told k))))
    (λ t. more_then (call now q.member) (join_anew o now k q) t 0 (call_more now q.member t)
    (λ u. more_then (plainly (with_member q.member (rejoined now k q))) (and_then (prepare o now) (settle now)) u 0 (rejoined_more now k q u) (anew_more o now)))

-- one more, where the new member passes
pub join_new_more : (o : Settings) (now k number : ℕ) (client : List ℕ) (q : JoinRequest) (t : OnId)
    → AtMost (join_new o now k number client q) t (cond (passes t (new_member o now k number client q)) 1 0)
join_new_more o now k number client q t = more_then (plainly (with_last new)) (and_then (prepare o now) (settle now)) t (cond (passes t new) 1 0)
    (λ n g. omega (arith, tally_append (passes t) g.members (new ∷ []))) (anew_more o now) where
      new : Member
      new = new_member o now k number client q

given_more : (now : ℕ) (q : SyncRequest) → NoMore (plainly (give_parts now q))
given_more now q t n g = by_test (λ (h : Group). tally (passes t) h.members ≤ tally (passes t) g.members + 0) (is_led_by q.member g) _ g
    (λ _. omega (arith, mapped t (assigned now q.parts) (assigned_keeps now q.parts) g.members)) (λ _. omega arith)

pub sync_more : (now k : ℕ) (q : SyncRequest) → NoMore (sync now k q)
sync_more now k q = if_more (λ g. is_stable g.phase) (and_then (call now q.member) (plainly (with_member q.member (waits (Assigned k)))))
    (and_then (call now q.member) (and_then (plainly (with_member q.member (waits (Syncs k)))) (plainly (give_parts now q))))
    (λ t. more_then (call now q.member) (plainly (with_member q.member (waits (Assigned k)))) t 0 (call_more now q.member t) (member_more q.member (waits (Assigned k)) (waits_keeps (Assigned k))))
    (λ t. more_then (call now q.member) (and_then (plainly (with_member q.member (waits (Syncs k)))) (plainly (give_parts now q))) t 0 (call_more now q.member t)
    (λ u. more_then (plainly (with_member q.member (waits (Syncs k)))) (plainly (give_parts now q)) u 0 (member_more q.member (waits (Syncs k)) (waits_keeps (Syncs k)) u) (given_more now q)))

pub heartbeat_more : (now : ℕ) (id : List ℕ) → NoMore (heartbeat now id)
heartbeat_more now id = member_more id (beat now) (beat_keeps now)

pub leave_more : (o : Settings) (now : ℕ) (id : List ℕ) → NoMore (leave o now id)
leave_more o now id t = more_then (drop_those (has_id id)) (and_then (prepare o now) (settle now)) t 0 (drop_more (has_id id) t) (anew_more o now)

pub end_more : (now k : ℕ) → NoMore (end_session now k)
end_more now k = if_more (λ g. list_any (λ m. is_in k m.wait) g.members) (and_then (plainly (without_session now k)) (settle now)) stays
    (λ t. more_then (plainly (without_session now k)) (settle now) t 0
    (λ n g. omega (arith, mapped t (unwaited now k) (unwaited_keeps now k) (filter (λ m. not (goes_with k m)) g.members), tally_filter (passes t) (λ m. not (goes_with k m)) g.members))
    (settle_more now)) stays_more

pub expire_more : (o : Settings) (now : ℕ) → NoMore (expire_group o now)
expire_more o now t n g = by_test (λ (m : Moved). tally (passes t) m.group.members ≤ tally (passes t) g.members + 0) (list_any (is_silent now g) g.members)
    (and_then (drop_those (is_silent now g)) (and_then (prepare o now) (settle now)) n g) (settle now n g)
    (λ _. more_then (drop_those (is_silent now g)) (and_then (prepare o now) (settle now)) t 0 (drop_more (is_silent now g) t) (anew_more o now) n g) (λ _. settle_more now t n g)

-- ---- all groups

kept_tally : (t : Member → Bool) (g : Group) (gs : List Group) → tally_all t (kept g ++ gs) ≡ tally t g.members + tally_all t gs
kept_tally t g gs = by (0 == length g.members) refl where
  empty : (ms : List Member) → (0 == length ms) ≡ true → tally t ms ≡ 0
  empty [] e = refl
  empty (m ∷ ms) e = absurd (grind (arith, e))

  by : (b : Bool) → (0 == length g.members) ≡ b → tally_all t (cond b [] (g ∷ []) ++ gs) ≡ tally t g.members + tally_all t gs
  by true e = omega (arith, empty g.members e)
  by false e = omega arith

pub each_more : (a : Move) → NoMore a → (t : OnId) (n : ℕ) (gs : List Group) → tally_all (passes t) (move_each a n gs).groups ≤ tally_all (passes t) gs
each_more a w t n [] = omega arith
each_more a w t n (g ∷ gs) = omega (arith, kept_tally (passes t) (a n g).group (move_each a (a n g).generations gs).groups, w t n g, each_more a w t (a n g).generations gs)

pub only_more : (name : List ℕ) (a : Move) → NoMore a → NoMore (only name a)
only_more name a w = if_more (is_named name) a stays w stays_more

-- none of another name moves
others_same : (name : List ℕ) (a : Move) (t : Member → Bool) (n : ℕ) (gs : List Group) → AllByRecursion (λ h. is_named name h ≡ false) gs
    → tally_all t (move_each (only name a) n gs).groups ≡ tally_all t gs
others_same name a t n [] all = refl
others_same name a t n (g ∷ gs) all = subst (λ (m : Moved). tally_all t (kept m.group ++ (move_each (only name a) m.generations gs).groups) ≡ tally t g.members + tally_all t gs)
    (ap (λ (b : Bool). cond b (a n g) (stays n g)) (sym all.0)) (omega (arith, kept_tally t g (move_each (only name a) n gs).groups, others_same name a t n gs all.1))

-- a move of one group by which so many more pass
pub one_more : (name : List ℕ) (a : Move) (t : OnId) (k : ℕ) → AtMost a t k → (n : ℕ) (gs : List Group) → AreApart gs
    → tally_all (passes t) (move_each (only name a) n gs).groups ≤ tally_all (passes t) gs + k
one_more name a t k w n [] apart = omega arith
one_more name a t k w n (g ∷ gs) apart = by (is_named name g) refl (one_more name a t k w n gs apart.1) where
  rest : is_named name g ≡ true → AllByRecursion (λ h. is_named name h ≡ false) gs
  rest e = subst (λ (x : List ℕ). AllByRecursion (λ h. is_named x h ≡ false) gs) ((bytes_eq-Decides g.name name).0 e) apart.0

  by : (b : Bool) → is_named name g ≡ b → tally_all (passes t) (move_each (only name a) n gs).groups ≤ tally_all (passes t) gs + k
      → tally_all (passes t) (kept (cond b (a n g) (stays n g)).group ++ (move_each (only name a) (cond b (a n g) (stays n g)).generations gs).groups) ≤ tally (passes t) g.members + tally_all (passes t) gs + k
  by true e r = omega (arith, kept_tally (passes t) (a n g).group (move_each (only name a) (a n g).generations gs).groups, w n g, others_same name a (passes t) (a n g).generations gs (rest e))
  by false e r = omega (arith, kept_tally (passes t) g (move_each (only name a) n gs).groups, r)

pub sent_tally : (t : OnId) (k : ℕ) (gs : List Group) → tally_all (passes t) (map (sent_group k) gs) ≡ tally_all (passes t) gs
sent_tally t k [] = refl
sent_tally t k (g ∷ gs) = λ i. mapped t (sent k) (sent_keeps k) g.members i + sent_tally t k gs i
