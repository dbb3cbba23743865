-- What a session that has joined waits for: its time, and what was counted of the Fetch that it holds.
use Rattle.std.proofs.Common.{◌≡◌, ℕ, arith, Bool, true, false, List, [], ◌∷◌, nat_cmp, Option, Some, None, Result, Ok, Err, is_some, sym, ap, subst, refl, ◌∙◌}
use Rattle.std.specs.Prelude.{◌&&◌, ◌||◌, nat_eq, OnOk, if◌then◌else◌}
use Rattle.std.specs.BTreeSet.{insert_key}
use Rattle.std.specs.Option.{option_and_then}
use Rattle.std.specs.Ordering.{match_ordering, ordering_then}
use Rattle.std.specs.declared.alloc.AllocError.{AllocError}
use Rattle.std.specs.declared.cmp.Ordering.{Ordering}
use Rattle.std.specs.declared.cmp.Ordering.TheVariants.{Less, Equal, Greater}
use Rattle.std.proofs.lemmas.Bool.{false≢true}
use Rattle.std.proofs.lemmas.Bool.Decides.{nat_tests}
use Rattle.std.proofs.lemmas.Option.{same_Some}
use Rattle.frame_fields.specs.Frames.{IsFirstFrame}
use Rattle.request_frames.specs.Fetch.{FetchValue}
use Rattle.request_frames.specs.Requests.{RequestValue, IsRequest}
use Rattle.request_frames.specs.Requests.BodyValue.{fetch}
use Rattle.broker_state.specs.State.{State}
use Rattle.fetch_waits.specs.Waiting.{awaited_bytes}
use Rattle.sessions.specs.Waiting.{WaitState, WaitingState, asleep_at, unnamed, unnamed_at, wait_at}
use Rattle.sessions.specs.Asleep.{AsksFirst, has_time}
use Rattle.sessions.specs.Joining.{AreCounted, Entry, Joins, entries_in}
use Rattle.sessions.proofs.Joining.{is_time_in}

-- ---- times

abbrev order : ℕ × ℕ → ℕ × ℕ → Ordering
order a b = ordering_then (nat_cmp a.0 b.0) (nat_cmp a.1 b.1)

abbrev is_at : ℕ × ℕ → ℕ × ℕ → Bool
is_at due time = nat_eq due.0 time.0 && nat_eq due.1 time.1

either : (a b : Bool) → b ≡ true → (a || b) ≡ true
either true b is = refl
either false b is = is

same_time : (due : ℕ × ℕ) → is_at due due ≡ true
same_time due = grind (arith, nat_tests)

equal_time : (due time : ℕ × ℕ) → order due time ≡ Equal → is_at due time ≡ true
equal_time due time is = grind (arith, is, nat_tests)

-- the others' times stay
pub time_stays : (due key : ℕ × ℕ) (times : List (ℕ × ℕ)) → is_time_in due times ≡ true → is_time_in due (insert_key order times key) ≡ true
time_stays due key [] is = absurd (false≢true is)
time_stays due key (t ∷ ts) is = by (order key t) (is_at due t) refl is (time_stays due key ts) where
  by : (o : Ordering) (b : Bool) → is_at due t ≡ b → (b || is_time_in due ts) ≡ true → (is_time_in due ts ≡ true → is_time_in due (insert_key order ts key) ≡ true)
      → is_time_in due (match_ordering o (key ∷ t ∷ ts) (t ∷ ts) (t ∷ insert_key order ts key)) ≡ true
  by Less b test is rest = either (is_at due key) (is_at due t || is_time_in due ts) (ap (λ (x : Bool). x || is_time_in due ts) test ∙ is)
  by Equal b test is rest = ap (λ (x : Bool). x || is_time_in due ts) test ∙ is
  by Greater true test is rest = ap (λ (x : Bool). x || is_time_in due (insert_key order ts key)) test
  by Greater false test is rest = either (is_at due t) (is_time_in due (insert_key order ts key)) (rest is)

-- and its own comes
pub time_comes : (due : ℕ × ℕ) (times : List (ℕ × ℕ)) → is_time_in due (insert_key order times due) ≡ true
time_comes due [] = ap (λ (x : Bool). x || false) (same_time due)
time_comes due (t ∷ ts) = by (order due t) refl (time_comes due ts) where
  by : (o : Ordering) → order due t ≡ o → is_time_in due (insert_key order ts due) ≡ true → is_time_in due (match_ordering o (due ∷ t ∷ ts) (t ∷ ts) (t ∷ insert_key order ts due)) ≡ true
  by Less is rest = ap (λ (x : Bool). x || (is_at due t || is_time_in due ts)) (same_time due)
  by Equal is rest = ap (λ (x : Bool). x || is_time_in due ts) (equal_time due t is)
  by Greater is rest = either (is_at due t) (is_time_in due (insert_key order ts due)) rest

-- ---- behind its entries

module _ (r : Result (Unit {0}) AllocError) (s : State) (k : ℕ) (mid new : WaitingState) (joins : (due : ℕ × ℕ) → Joins s k due mid new) where
  on_ok : {P : Type 0} (r : Result (Unit {0}) AllocError) → P → OnOk r P
  on_ok (Ok x) p = p
  on_ok (Err e) p = tt

  pub still_listed : (time : ℕ × ℕ) → has_time time mid.times ≡ true → OnOk r (has_time time new.times ≡ true)
  still_listed time known = on_ok r ((joins time).times time known)

  pub still_waits : (wait : WaitState) → wait_at mid.waits k ≡ Some wait → wait.is_named ≡ false → OnOk r (is_some (unnamed_at new.waits k) ≡ true)
  still_waits wait at named =
      on_ok r ((joins (0, 0)).unnamed (ap (λ (o : Option WaitState). is_some (option_and_then unnamed o)) at ∙ ap (λ (b : Bool). is_some (if b then None else Some wait)) named))

  pub counts_all : (awaited : ℕ) (es : List Entry) (wait : WaitState) → asleep_at mid.waits k ≡ Some wait → awaited ≡ wait.missing → wait.forced ≡ 0 → OnOk r ((a : ℕ) → AreCounted s mid k a [] → AreCounted s new k a es)
      → OnOk r (AreCounted s new k awaited es)
  counts_all awaited es wait at all none counts = by r counts where
    nothing : AreCounted s mid k awaited []
    nothing other has =
        let same : wait ≡ other = same_Some wait other (sym at ∙ has) in
        let missing = ap (λ (w : WaitState). w.missing) same in
        let forced = ap (λ (w : WaitState). w.forced) same in
        record { missing = omega (arith, missing, all); forced = omega (arith, forced, none); covers = tt; shares = λ name p some. absurd (omega (arith, some)) }

    by : (r : Result (Unit {0}) AllocError) → OnOk r ((a : ℕ) → AreCounted s mid k a [] → AreCounted s new k a es) → OnOk r (AreCounted s new k awaited es)
    by (Ok x) counts = counts awaited nothing
    by (Err e) counts = tt

-- ---- the Fetch that it holds

same_fetch : (a b : FetchValue) → fetch a ≡ fetch b → a ≡ b
same_fetch a b is = cc

pub first_counted : (r : Result (Unit {0}) AllocError) (s : State) (k : ℕ) (new : WaitingState) (held : List ℕ) (v : RequestValue) (asked : FetchValue) → ((frame rest : List ℕ) (q : RequestValue) → IsFirstFrame frame held rest → IsRequest frame q → v ≡ q)
    → v.body ≡ fetch asked → OnOk r (AreCounted s new k (awaited_bytes asked) (entries_in asked.topics)) → OnOk r ((q : FetchValue) → AsksFirst held q → AreCounted s new k (awaited_bytes q) (entries_in q.topics))
first_counted (Err e) s k new held v asked reads body counted = tt
first_counted (Ok x) s k new held v asked reads body counted = λ q asks.
    let same : asked ≡ q = same_fetch asked q (sym body ∙ ap (λ (x : RequestValue). x.body) (reads asks.frame asks.rest asks.request asks.first asks.reads) ∙ asks.is_fetch) in
    subst (λ (x : FetchValue). AreCounted s new k (awaited_bytes x) (entries_in x.topics)) same counted
