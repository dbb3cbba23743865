-- What is known of all sessions and of who waits, behind each call.
use Rattle.std.proofs.Common.{◌≡◌, ◌≢◌, ℕ, suc, ◌+◌, ◌<◌, arith, Bool, true, false, Option, Some, None, List, [], ◌∷◌, sym, ap, subst, refl, ◌∙◌, append-nil}
use Rattle.std.specs.Prelude.{nat_eq, pos, ◌&&◌, ◌||◌, All, is_some, IfNone, IfSome, IsSome, MatchOption}
use Rattle.std.specs.List.{list_any}
use Rattle.std.specs.Option.{option_map}
use Rattle.std.proofs.lemmas.Bool.{true≢false}
use Rattle.std.proofs.lemmas.Bool.Decides.{nat_tests}
use Rattle.std.proofs.lemmas.Option.{none-some}
use Rattle.request_frames.specs.Fetch.{FetchValue}
use Rattle.broker_state.specs.State.{State, content_at}
use Rattle.fetch_waits.specs.Sleeping.{Contents}
use Rattle.fetch_waits.specs.Waiting.{fetch_waits, wait_of}
use Rattle.fetch_waits.proofs.Sleeping.{sleeps_now}
use Rattle.sessions.specs.declared.waits.PartitionKey.{PartitionKey}
use Rattle.sessions.specs.Turns.{IsWaiting, SessionState}
use Rattle.sessions.specs.Orders.{NobodyIsDue, OthersSleepOn, SessionsState, World, is_asleep, is_waiting, session_at}
use Rattle.sessions.specs.Waiting.{WaitState, WaitsState, WaitingState, asleep_at, asleep_if, is_behind, named_at, names_of, stand_at, unnamed_at, wait_at}
use Rattle.sessions.specs.Asleep.{AllWaitOn, AsksFirst, KeepsWatch, OthersWait, Watches}
use Rattle.sessions.specs.Watched.{IsWatched}
use Rattle.sessions.proofs.Standers.{share_of}
use Rattle.sessions.proofs.Watching.{is_unnamed, named_awake, named_is, nobody_named, none_asleep, sleeps_unnamed, still_none, unnamed_sleeps, watch_held}

-- ---- nobody waits yet

nothing_asked : FetchValue
nothing_asked = record { max_wait_ms = pos 0; min_bytes = pos 0; max_bytes = pos 0; topics = [] }

pub watched_new : (world : World) (w : WaitingState) → ((k : ℕ) → session_at world k ≡ None) → ((k : ℕ) → wait_at w.waits k ≡ None) → ((key : PartitionKey) → stand_at w key ≡ None) → IsWatched world w
watched_new world w unopened none nobody = record {
  asked = λ k. nothing_asked;
  wait_on = record {
    ends = λ name p place stand of there. absurd (none-some stand (sym (nobody _) ∙ there));
    each = λ k wait is. absurd (none-some wait (sym (none_asleep w.waits k (none k)) ∙ is));
    own = λ k wait is. absurd (none-some wait (sym (none k) ∙ is));
    times = λ k wait is. absurd (none-some wait (sym (none_asleep w.waits k (none k)) ∙ is));
    standers = record { none = λ key k away. ap (share_of k) (nobody key) };
  };
  each = λ k wait is. absurd (none-some wait (sym (none_asleep w.waits k (none k)) ∙ is));
  fresh = λ k new. (unopened k, none k);
}

-- ---- numbers

differs_from : (k who : ℕ) (world : World) (session : SessionState) → session_at world who ≡ None → session_at world k ≡ Some session → k ≢ who
differs_from k who world session none some = λ same. none-some session (sym (subst (λ (n : ℕ). session_at world n ≡ None) (sym same) none) ∙ some)

-- a session is opened
pub watched_opened : (who : ℕ) (old new : World) (w : WaitingState) → who ≡ old.next → new.state ≡ old.state → new.next ≡ old.next + 1 → ((k : ℕ) → k ≢ who → session_at new k ≡ session_at old k) → IsWatched old w → IsWatched new w
watched_opened who old new w number state next others watched = record {
  asked = watched.asked;
  wait_on = subst (λ (s : State). AllWaitOn s (content_at s) w watched.asked) (sym state) watched.wait_on;
  each = λ k wait is.
      let was = watched.each k wait is in
      let other = differs_from k who old was.0 (watched.fresh who (omega (arith, number))).0 was.1 in
      (was.0, others k other ∙ was.1, was.2, was.3);
  fresh = λ k later.
      let before = watched.fresh k (omega (arith, later, next)) in
      (others k (λ same. omega (arith, later, next, number, same)) ∙ before.0, before.1);
}

-- a session is closed
pub watched_closed : (who : ℕ) (old new : World) (w v : WaitingState) → new.state ≡ old.state → new.next ≡ old.next → session_at new who ≡ None → ((k : ℕ) → k ≢ who → session_at new k ≡ session_at old k)
    → wait_at v.waits who ≡ None → ((k : ℕ) → k ≢ who → wait_at v.waits k ≡ wait_at w.waits k) → ((k : ℕ) → k ≢ who → asleep_at v.waits k ≡ asleep_at w.waits k)
    → ((s : State) (now : Contents) (asked : ℕ → FetchValue) → AllWaitOn s now w asked → AllWaitOn s now v asked) → IsWatched old w → IsWatched new v
watched_closed who old new w v state next gone others none waits asleep left watched = record {
  asked = watched.asked;
  wait_on = subst (λ (s : State). AllWaitOn s (content_at s) v watched.asked) (sym state) (left old.state (content_at old.state) watched.asked watched.wait_on);
  each = λ k wait is.
      let other : k ≢ who = λ same. none-some wait (sym (subst (λ (n : ℕ). asleep_at v.waits n ≡ None) (sym same) (none_asleep v.waits who none)) ∙ is) in
      let was = watched.each k wait (sym (asleep k other) ∙ is) in
      (was.0, others k other ∙ was.1, was.2, was.3);
  fresh = λ k later.
      let before = watched.fresh k (omega (arith, later, next)) in
      by k (nat_eq k who) refl before;
} where
  by : (k : ℕ) (b : Bool) → nat_eq k who ≡ b → (session_at old k ≡ None) × (wait_at w.waits k ≡ None) → (session_at new k ≡ None) × (wait_at v.waits k ≡ None)
  by k true e before =
      let same : who ≡ k = grind (arith, nat_tests, e) in
      (subst (λ (n : ℕ). session_at new n ≡ None) same gone, subst (λ (n : ℕ). wait_at v.waits n ≡ None) same none)
  by k false e before =
      let other : k ≢ who = grind (arith, nat_tests, e) in
      (others k other ∙ before.0, waits k other ∙ before.1)

-- ---- a visit

pub some_same : (x y : SessionState) → Some x ≡ Some y → x ≡ y
some_same x y e = cc

module _ (who : ℕ) (old new : World) (w v : WaitingState) (before after : SessionState) (was : session_at old who ≡ Some before) (is : session_at new who ≡ Some after) (next : new.next ≡ old.next)
    (others : (k : ℕ) → k ≢ who → session_at new k ≡ session_at old k) (waits : OthersWait who w.waits v.waits) (watched : IsWatched old w) where
  its_own : Watches who old.state w before watched.asked
  its_own = record {
    wait_on = watched.wait_on;
    own = λ wait here.
        let found = watched.each who wait here in
        let same : found.0 ≡ before = some_same found.0 before (sym found.1 ∙ was) in
        (subst (λ (x : SessionState). AsksFirst x.held (watched.asked who)) same found.2, ap (λ (x : SessionState). x.due) (sym same) ∙ found.3);
  }

  still_watched : (asked : ℕ → FetchValue) → ((j : ℕ) → j ≢ who → asked j ≡ watched.asked j) → Watches who new.state v after asked → IsWatched new v
  still_watched asked same watches = record {
    asked = asked;
    wait_on = watches.wait_on;
    each = λ k wait here. by k wait here (nat_eq k who) refl;
    fresh = λ k later.
        let none = watched.fresh k (omega (arith, later, next)) in
        let other : k ≢ who = λ same. none-some before (sym (subst (λ (n : ℕ). session_at old n ≡ None) same none.0) ∙ was) in
        (others k other ∙ none.0, still_none w.waits v.waits k (waits.named k other) none.1);
  } where
    by : (k : ℕ) (wait : WaitState) → asleep_at v.waits k ≡ Some wait → (b : Bool) → nat_eq k who ≡ b
        → (session : SessionState) × (session_at new k ≡ Some session) × AsksFirst session.held (asked k) × (session.due ≡ Some wait.due.0)
    by k wait here true e =
        let same : who ≡ k = grind (arith, nat_tests, e) in
        let own = watches.own wait (subst (λ (n : ℕ). asleep_at v.waits n ≡ Some wait) (sym same) here) in
        (after, subst (λ (n : ℕ). session_at new n ≡ Some after) same is, subst (λ (n : ℕ). AsksFirst after.held (asked n)) same own.0, own.1)
    by k wait here false e =
        let other : k ≢ who = grind (arith, nat_tests, e) in
        let slept = waits.slept k wait other here in
        let found = watched.each k slept.0 slept.1 in
        (found.0, others k other ∙ found.1, subst (AsksFirst found.0.held) (sym (same k other)) found.2, found.3 ∙ ap (λ (x : ℕ × ℕ). Some x.0) (sym slept.2))

  pub watched_visited : KeepsWatch who old.state w before new.state v after → IsWatched new v
  watched_visited keeps = let found = keeps watched.asked its_own in still_watched found.0 found.1 found.2

-- ---- one is named

pub watched_named : (world : World) (w v : WaitingState) → ((k : ℕ) (wait : WaitState) → asleep_at v.waits k ≡ Some wait → asleep_at w.waits k ≡ Some wait) → ((k : ℕ) → wait_at w.waits k ≡ None → wait_at v.waits k ≡ None)
    → ((s : State) (now : Contents) (asked : ℕ → FetchValue) → AllWaitOn s now w asked → AllWaitOn s now v asked) → IsWatched world w → IsWatched world v
watched_named world w v slept none named watched = record {
  asked = watched.asked;
  wait_on = named world.state (content_at world.state) watched.asked watched.wait_on;
  each = λ k wait is. watched.each k wait (slept k wait is);
  fresh = λ k later. let before = watched.fresh k later in (before.0, none k before.1);
}

-- ---- nobody is due

-- where none is woken, who wasn't named sleeps
all_behind : (waits : WaitsState) (k : ℕ) → waits.woken ≡ 0 → asleep_at waits k ≡ unnamed_at waits k
all_behind waits k none = let behind : is_behind waits k ≡ true = grind (arith, nat_tests, none) in ap (λ (b : Bool). asleep_if b (wait_at waits k)) behind

later_or_first : (clock due k : ℕ) (time : ℕ × ℕ) (times : List (ℕ × ℕ)) → All (λ t. clock < t.0) (time ∷ times) → (list_any (λ (t : ℕ × ℕ). nat_eq due t.0 && nat_eq k t.1) times ≡ true → clock < due) → (b : Bool) → (nat_eq due time.0 && nat_eq k time.1) ≡ b
    → (b || list_any (λ (t : ℕ × ℕ). nat_eq due t.0 && nat_eq k t.1) times) ≡ true → clock < due
later_or_first clock due k time times all rest true e is =
    let first : clock < time.0 = all 0 time (omega arith) in
    let same : due ≡ time.0 = grind (arith, nat_tests, e) in
    omega (arith, first, same)
later_or_first clock due k time times all rest false e is = rest is

later_than : (clock due k : ℕ) (times : List (ℕ × ℕ)) → All (λ time. clock < time.0) times → list_any (λ time. nat_eq due time.0 && nat_eq k time.1) times ≡ true → clock < due
later_than clock due k [] all is = absurd (true≢false (sym is))
later_than clock due k (time ∷ times) all is = later_or_first clock due k time times all (later_than clock due k times (λ i d l. all (suc i) d (omega (arith, l)))) (nat_eq due time.0 && nat_eq k time.1) refl is

pub nobody_due : (clock : ℕ) (world : World) (w : WaitingState) → w.waits.woken ≡ 0 → All (λ time. clock < time.0) w.times → IsWatched world w → (k : ℕ) → is_unnamed (named_at w.waits k) ≡ true
    → (session : SessionState) × (session_at world k ≡ Some session) × IsWaiting clock world.state session
nobody_due clock world w none times watched k asleep = found (sleeps_unnamed (wait_at w.waits k) asleep) where
  found : (wait : WaitState) × (unnamed_at w.waits k ≡ Some wait) → (session : SessionState) × (session_at world k ≡ Some session) × IsWaiting clock world.state session
  found (wait, e) =
      let sleeps = all_behind w.waits k none ∙ e in
      let found = watched.each k wait sleeps in
      let on = watched.wait_on.each k wait sleeps in
      let waits : fetch_waits world.state (watched.asked k) ≡ true = sleeps_now world.state world.state (content_at world.state) (watched.asked k) wait.missing on.room refl (λ name p. refl) (λ name p is. refl) on.some on.sleeps in (
        found.0,
        found.1,
        record {
          most = wait_of (watched.asked k);
          until = wait.due.0;
          waits = record { frame = found.2.frame; rest = found.2.rest; request = found.2.request; asked = watched.asked k; first = found.2.first; reads = found.2.reads; is_fetch = found.2.is_fetch; waits = waits; most_is = refl };
          due_is = found.3;
          later = later_than clock wait.due.0 wait.due.1 w.times times (watched.wait_on.times k wait sleeps);
        },
      )

-- ---- who sleeps, as the sessions tell it

abbrev pub told : World → WaitsState → SessionsState
told world waits = record { world = world; waits = names_of waits }

pub told_named : (world : World) (waits : WaitsState) (k : ℕ) → is_asleep (told world waits) k ≡ is_unnamed (named_at waits k)
told_named world waits k = ap is_unnamed (named_is waits k)

is_some_of : (o : Option WaitState) → is_some (option_map (λ (w : WaitState). w.is_named) o) ≡ is_some o
is_some_of None = refl
is_some_of (Some w) = refl

pub waits_told : (world : World) (waits : WaitsState) (k : ℕ) → is_waiting (told world waits) k ≡ is_some (wait_at waits k)
waits_told world waits k = ap is_some (named_is waits k) ∙ is_some_of (wait_at waits k)

none_of : (o : Option WaitState) → is_some o ≡ false → o ≡ None
none_of None isnt = refl
none_of (Some w) isnt = absurd (true≢false isnt)

pub waits_not : (world : World) (waits : WaitsState) (k : ℕ) → is_waiting (told world waits) k ≡ false → wait_at waits k ≡ None
waits_not world waits k isnt = none_of (wait_at waits k) (sym (waits_told world waits k) ∙ isnt)

pub none_told : (world : World) (waits : WaitsState) (k : ℕ) → wait_at waits k ≡ None → is_asleep (told world waits) k ≡ false
none_told world waits k none = told_named world waits k ∙ ap (λ (o : Option WaitState). is_unnamed (option_map (λ (w : WaitState). w.is_named) o)) none

pub same_told : (old new : World) (w v : WaitsState) (k : ℕ) → named_at v k ≡ named_at w k → is_asleep (told new v) k ≡ is_asleep (told old w) k
same_told old new w v k same = told_named new v k ∙ ap is_unnamed same ∙ sym (told_named old w k)

pub others_told : (who : ℕ) (old new : World) (w v : WaitsState) (was : SessionsState) → told old w ≡ was → ((k : ℕ) → k ≢ who → named_at v k ≡ named_at w k) → OthersSleepOn who was (told new v)
others_told who old new w v was is same = subst (λ (b : SessionsState). OthersSleepOn who b (told new v)) is (λ k other. same_told old new w v k (same k other))

pub all_told : (old new : World) (w v : WaitsState) (was : SessionsState) → told old w ≡ was → ((k : ℕ) → named_at v k ≡ named_at w k) → (k : ℕ) → is_asleep (told new v) k ≡ is_asleep was k
all_told old new w v was is same = subst (λ (b : SessionsState). (k : ℕ) → is_asleep (told new v) k ≡ is_asleep b k) is (λ k. same_told old new w v k (same k))

-- ---- what naming tells

pub slept_told : (world : World) (w : WaitsState) (was : SessionsState) → told world w ≡ was → (r : Option ℕ) → IfSome r (λ n. IsSome (unnamed_at w n)) → IfSome r (λ n. is_asleep was n ≡ true)
slept_told world w was is None unnamed = tt
slept_told world w was is (Some n) unnamed = subst (λ (b : SessionsState). is_asleep b n ≡ true) is (told_named world w n ∙ unnamed_sleeps (wait_at w n) unnamed)

module _ (world : World) (w v : WaitsState) (was : SessionsState) (is : told world w ≡ was) where
  pub names_one : (r : Option ℕ) → IfSome r (λ n. unnamed_at v n ≡ None) → ((k : ℕ) → MatchOption r (wait_at v k ≡ wait_at w k) (λ n. k ≢ n → wait_at v k ≡ wait_at w k))
      → IfSome r (λ n. (is_asleep (told world v) n ≡ false) × OthersSleepOn n was (told world v))
  names_one None named same = tt
  names_one (Some n) named same = (
    told_named world v n ∙ named_awake (wait_at v n) named,
    others_told n world world w v was is (λ k other. ap (option_map (λ (x : WaitState). x.is_named)) (same k other)),
  )

  pub names_none : (r : Option ℕ) → ((k : ℕ) → MatchOption r (wait_at v k ≡ wait_at w k) (λ n. k ≢ n → wait_at v k ≡ wait_at w k)) → IfNone r ((k : ℕ) → is_asleep (told world v) k ≡ is_asleep was k)
  names_none (Some n) same = tt
  names_none None same = all_told world world w v was is (λ k. ap (option_map (λ (x : WaitState). x.is_named)) (same k))

-- nobody is due while none is woken and no time is over
pub rests : (clock : ℕ) (world : World) (w : WaitingState) → w.waits.woken ≡ 0 → All (λ time. clock < time.0) w.times → IsWatched world w → NobodyIsDue clock (told world w.waits)
rests clock world w none times watched = λ k asleep. nobody_due clock world w none times watched k (sym (told_named world w.waits k) ∙ asleep)

pub nobody_told : (clock : ℕ) (world : World) (w : WaitingState) (r : Option ℕ) → IfNone r (w.waits.woken ≡ 0) → All (λ time. clock < time.0) w.times → IsWatched world w → IfNone r (NobodyIsDue clock (told world w.waits))
nobody_told clock world w (Some n) none times watched = tt
nobody_told clock world w None none times watched = rests clock world w none times watched

-- ---- what is sent

pub watched_sent : (who : ℕ) (old new : World) (w : WaitingState) (before after : SessionState) → session_at old who ≡ Some before → session_at new who ≡ Some after → new.state ≡ old.state → new.next ≡ old.next → ((k : ℕ) → k ≢ who → session_at new k ≡ session_at old k)
    → after ≡ record before { owed = after.owed } → IsWatched old w → IsWatched new w
watched_sent who old new w before after was is state next others same watched =
    watched_visited who old new w w before after was is next others (nobody_named who w.waits w.waits refl) watched
    (subst (λ (s : State). KeepsWatch who old.state w before s w after) (sym state)
    (watch_held who old.state w before after [] (ap (λ (x : SessionState). x.held) same ∙ sym (append-nil before.held)) (ap (λ (x : SessionState). x.due) same)))
