-- A session that has counted all entries of a Fetch that waits, waits on.
use Rattle.std.proofs.Common.{◌≡◌, ℕ, ℤ, ◌+◌, ◌-◌, ◌<◌, ◌≤◌, inl, inr, arith, Result, Ok, Err, is_some, Bool, true, false, List, [], ◌∷◌, ◌++◌, length, Option, Some, None, sym, ap, subst, refl, ◌∙◌}
use Rattle.std.specs.Prelude.{◌≢◌, ◌⊎◌, ◌&&◌, ◌||◌, IfSome, OnOk, nat_abs, nat_eq, nat_le, bytes_eq, position, if◌then◌else◌}
use Rattle.std.specs.List.{list_any}
use Rattle.std.specs.Option.{option_and_then}
use Rattle.std.specs.Ordering.{int_eq}
use Rattle.std.specs.Result.{is_err}
use Rattle.std.specs.declared.alloc.AllocError.{AllocError}
use Rattle.std.proofs.lemmas.Bool.{false≢true, true≢false}
use Rattle.std.proofs.lemmas.List.{length-map}
use Rattle.std.proofs.lemmas.Option.{none-some}
use Rattle.frame_fields.specs.Types.{TopicOf}
use Rattle.request_frames.specs.Fetch.{FetchPartitionValue, FetchValue}
use Rattle.broker_state.specs.declared.place.Place.{Place}
use Rattle.broker_state.specs.Places.{IsPlaceOf}
use Rattle.broker_state.specs.State.{State, Topic, content_at}
use Rattle.log_requests.specs.Fetch.{fetch_limit}
use Rattle.fetch_waits.specs.Waiting.{awaited_bytes, fetch_waits}
use Rattle.fetch_waits.specs.Sleeping.{Allows, Contents, FitsRoom, RoomsIn, RoomsOf, is_asked, there_at, there_in, there_of}
use Rattle.fetch_waits.proofs.Sleeping.{begins_to_sleep}
use Rattle.sessions.specs.declared.waits.Share.{Share}
use Rattle.sessions.specs.Waiting.{StandState, StandersWait, WaitState, WaitingState, WaitsState, asleep_at, asleep_if, is_behind, key_of, share_in, stand_at, unnamed, unnamed_at, wait_at}
use Rattle.sessions.specs.Asleep.{AllWaitOn, AsksFirst, Covers, Stands, WaitsOn, count_in, count_of, has_time}
use Rattle.sessions.specs.Joining.{AreCounted, CoversAll, Entry, HasCounted, Joins, count_for, entries_in, entries_of, there_for}
use Rattle.sessions.proofs.Counting.{count_append, there_append}
use Rattle.sessions.proofs.Missing.{some_missing}

-- ---- the room that a share leaves

abbrev room_in : (forced : ℕ) → StandState → Share → Option ℕ
room_in forced stand share = if nat_le share.first forced then None else Some (share.upto - stand.grown)

-- of a partition; of one for which it doesn't wait none
abbrev room_at : State → WaitingState → (k forced : ℕ) → List ℕ → ℤ → Option ℕ
room_at s w k forced name p =
    option_and_then (λ topic. option_and_then (λ stand. option_and_then (room_in forced stand) (share_in stand k)) (stand_at w (record { topic = topic; partition = nat_abs p }))) (position (λ (t : Topic). bytes_eq t.name name) s.topics)

module _ (s : State) (w : WaitingState) (k forced : ℕ) where
  room_is : (name : List ℕ) (p : ℤ) (place : Place) (stand : StandState) (share : Share) → IsPlaceOf s name p place → stand_at w (key_of place) ≡ Some stand → share_in stand k ≡ Some share
      → room_at s w k forced name p ≡ room_in forced stand share
  room_is name p place stand share of here has =
      ap (λ o. option_and_then (λ topic. option_and_then (λ stand. option_and_then (room_in forced stand) (share_in stand k)) (stand_at w (record { topic = topic; partition = nat_abs p }))) o) (sym of.topic)
      ∙ ap (λ (q : ℤ). option_and_then (λ stand. option_and_then (room_in forced stand) (share_in stand k)) (stand_at w (record { topic = place.topic; partition = nat_abs q }))) of.partition
      ∙ ap (option_and_then (λ stand. option_and_then (room_in forced stand) (share_in stand k))) here
      ∙ ap (option_and_then (room_in forced stand)) has

  no_room : (stand : StandState) (share : Share) → share.first ≤ forced → room_in forced stand share ≡ None
  no_room stand share le = let is : nat_le share.first forced ≡ true = grind (arith, le) in ap (λ (t : Bool). if t then None else Some (share.upto - stand.grown)) is

  some_room : (stand : StandState) (share : Share) → forced < share.first → room_in forced stand share ≡ Some (share.upto - stand.grown)
  some_room stand share less = let is : nat_le share.first forced ≡ false = grind (arith, less) in ap (λ (t : Bool). if t then None else Some (share.upto - stand.grown)) is

  allows_room : (limit there : ℕ) (stand : StandState) (share : Share) → there ≤ limit → share.upto + there ≤ stand.grown + limit → Allows limit there (room_in forced stand share)
  allows_room limit there stand share fits room = by (nat_le share.first forced) where
    by : (t : Bool) → Allows limit there (if t then None else Some (share.upto - stand.grown))
    by true = fits
    by false = omega (arith, fits, room)

  one_room : (before : ℕ) (name : List ℕ) (e : FetchPartitionValue) → Covers s w k forced (before + 1) name e
      → (before < forced → room_at s w k forced name e.partition ≡ None) × (forced ≤ before → Allows (fetch_limit e.max_bytes) (there_at s name e) (room_at s w k forced name e.partition))
  one_room before name e c =
      let is = room_is name e.partition c.place c.stand c.share c.is_place c.stand_is c.share_is in (
        λ less. is ∙ no_room c.stand c.share (omega (arith, less, c.first)),
        λ le. let less : forced < before + 1 = omega (arith, le) in
            subst (Allows (fetch_limit e.max_bytes) (there_at s name e)) (sym is) (allows_room (fetch_limit e.max_bytes) (there_at s name e) c.stand c.share (c.limit less) (c.room less)),
      )

  covers_parts : (before : ℕ) (xs ys : List Entry) → CoversAll s w k forced before (xs ++ ys) → CoversAll s w k forced before xs × CoversAll s w k forced (before + length xs) ys
  covers_parts before [] ys all = let same : before ≡ before + 0 = omega arith in (tt, subst (λ (n : ℕ). CoversAll s w k forced n ys) same all)
  covers_parts before (x ∷ xs) ys all =
      let rest = covers_parts (before + 1) xs ys all.1 in
      let same : before + 1 + length xs ≡ before + length (x ∷ xs) = omega arith in
      ((all.0, rest.0), subst (λ (n : ℕ). CoversAll s w k forced n ys) same rest.1)

  rooms_of : (before : ℕ) (name : List ℕ) (es : List FetchPartitionValue) → CoversAll s w k forced before (entries_of name es) → RoomsOf s (room_at s w k forced) name forced before es
  rooms_of before name [] all = tt
  rooms_of before name (e ∷ es) all = let first = one_room before name e all.0 in (first.0, first.1, rooms_of (before + 1) name es all.1)

  rooms_in : (before : ℕ) (ts : List (TopicOf FetchPartitionValue)) → CoversAll s w k forced before (entries_in ts) → RoomsIn s (room_at s w k forced) forced before ts
  rooms_in before [] all = tt
  rooms_in before (t ∷ ts) all =
      let parts = covers_parts before (entries_of t.name t.entries) (entries_in ts) all in
      let long : length (entries_of t.name t.entries) ≡ length t.entries = length-map t.entries (λ (e : FetchPartitionValue). (t.name, e)) in
      (rooms_of before t.name t.entries parts.0, rooms_in (before + length t.entries) ts (subst (λ (n : ℕ). CoversAll s w k forced (before + n) (entries_in ts)) long parts.1))

-- ---- sums over topics

there_entries : (s : State) (name : List ℕ) (es : List FetchPartitionValue) → there_for s (entries_of name es) ≡ there_of s name es
there_entries s name [] = refl
there_entries s name (e ∷ es) = ap (λ (n : ℕ). there_at s name e + n) (there_entries s name es)

there_topics : (s : State) (ts : List (TopicOf FetchPartitionValue)) → there_for s (entries_in ts) ≡ there_in s ts
there_topics s [] = refl
there_topics s (t ∷ ts) =
    let sum = there_append s (entries_of t.name t.entries) (entries_in ts) in
    let first = there_entries s t.name t.entries in
    let rest = there_topics s ts in
    omega (arith, sum, first, rest)

count_entries : (name : List ℕ) (p : ℤ) (topic : List ℕ) (es : List FetchPartitionValue) → count_for name p (entries_of topic es) ≡ count_of name p topic es
count_entries name p topic [] = refl
count_entries name p topic (e ∷ es) = ap (λ (n : ℕ). (if bytes_eq topic name && int_eq e.partition p then 1 else 0) + n) (count_entries name p topic es)

count_topics : (name : List ℕ) (p : ℤ) (ts : List (TopicOf FetchPartitionValue)) → count_for name p (entries_in ts) ≡ count_in name p ts
count_topics name p [] = refl
count_topics name p (t ∷ ts) =
    let sum = count_append name p (entries_of t.name t.entries) (entries_in ts) in
    let first = count_entries name p t.name t.entries in
    let rest = count_topics name p ts in
    omega (arith, sum, first, rest)

-- what is asked for has entries
some_of : (name : List ℕ) (p : ℤ) (topic : List ℕ) (es : List FetchPartitionValue) → bytes_eq topic name ≡ true → list_any (λ (e : FetchPartitionValue). int_eq e.partition p) es ≡ true → 0 < count_of name p topic es
some_of name p topic [] named is = absurd (false≢true is)
some_of name p topic (e ∷ es) named is = by (int_eq e.partition p) refl is (some_of name p topic es named) where
  by : (t : Bool) → int_eq e.partition p ≡ t → (t || list_any (λ (e : FetchPartitionValue). int_eq e.partition p) es) ≡ true → (list_any (λ (e : FetchPartitionValue). int_eq e.partition p) es ≡ true → 0 < count_of name p topic es)
      → 0 < count_of name p topic (e ∷ es)
  by true test is rest =
      let one : count_of name p topic (e ∷ es) ≡ 1 + count_of name p topic es = λ i. (if named i && test i then 1 else 0) + count_of name p topic es in
      omega (arith, one)
  by false test is rest = let more = rest is in omega (arith, more)

some_in : (name : List ℕ) (p : ℤ) (ts : List (TopicOf FetchPartitionValue)) → list_any (λ (t : TopicOf FetchPartitionValue). bytes_eq t.name name && list_any (λ (e : FetchPartitionValue). int_eq e.partition p) t.entries) ts ≡ true
    → 0 < count_in name p ts
some_in name p [] is = absurd (false≢true is)
some_in name p (t ∷ ts) is = by (bytes_eq t.name name) (list_any (λ (e : FetchPartitionValue). int_eq e.partition p) t.entries) refl refl is (some_in name p ts) where
  by : (a b : Bool) → bytes_eq t.name name ≡ a → list_any (λ (e : FetchPartitionValue). int_eq e.partition p) t.entries ≡ b
      → ((a && b) || list_any (λ (t : TopicOf FetchPartitionValue). bytes_eq t.name name && list_any (λ (e : FetchPartitionValue). int_eq e.partition p) t.entries) ts) ≡ true
      → (list_any (λ (t : TopicOf FetchPartitionValue). bytes_eq t.name name && list_any (λ (e : FetchPartitionValue). int_eq e.partition p) t.entries) ts ≡ true → 0 < count_in name p ts) → 0 < count_in name p (t ∷ ts)
  by true true named at is rest = let some = some_of name p t.name t.entries named at in omega (arith, some)
  by true false named at is rest = let more = rest is in omega (arith, more)
  by false b named at is rest = let more = rest is in omega (arith, more)

-- ---- it waits on

module _ (s : State) (w : WaitingState) (k : ℕ) (wait : WaitState) (q : FetchValue) (has : HasCounted s w k (awaited_bytes q) wait (entries_in q.topics)) where
  stands : (name : List ℕ) (p : ℤ) → is_asked q name p ≡ true → Stands s w k wait.forced q (room_at s w k wait.forced) name p
  stands name p asked =
      let count = count_topics name p q.topics in
      let some = some_in name p q.topics asked in
      let h = has.shares name p (omega (arith, count, some)) in
      record {
        place = h.place;
        stand = h.stand;
        share = h.share;
        is_place = h.is_place;
        stand_is = h.stand_is;
        share_is = h.share_is;
        entries = let enough = h.enough in omega (arith, count, enough);
        fits = λ more less within.
            let is = room_is s w k wait.forced name p h.place h.stand h.share h.is_place h.stand_is h.share_is ∙ some_room s w k wait.forced h.stand h.share less in
            let le : more ≤ h.share.upto - h.stand.grown = omega (arith, within) in
            subst (FitsRoom more) (sym is) le;
      }

  waits_on : fetch_waits s q ≡ true → WaitsOn s (content_at s) w k wait q
  waits_on waits =
      let sum = there_topics s q.topics in
      let left = has.missing in
      let is : wait.missing ≡ awaited_bytes q - there_in s q.topics = omega (arith, sum, left) in
      let less = some_missing s q waits in
      record {
        room = room_at s w k wait.forced;
        some = omega (arith, is, less);
        sleeps = begins_to_sleep s q wait.missing wait.forced (room_at s w k wait.forced) waits (rooms_in s w k wait.forced 0 q.topics has.covers) is;
        stands = stands;
      }

-- ---- all wait on

-- one that waits on beside a session that joins
others_wait : (s : State) (now : Contents) (k : ℕ) (due : ℕ × ℕ) (old new : WaitingState) (j : ℕ) (wait : WaitState) (q : FetchValue) → Joins s k due old new → j ≢ k → WaitsOn s now old j wait q → WaitsOn s now new j wait q
others_wait s now k due old new j wait q joins other on = record {
  room = on.room;
  some = on.some;
  sleeps = on.sleeps;
  stands = λ name p asked.
      let h = on.stands name p asked in
      let x = joins.stands (key_of h.place) h.stand h.stand_is in
      record {
        place = h.place;
        stand = x.0;
        share = h.share;
        is_place = h.is_place;
        stand_is = x.1;
        share_is = x.2.others j other ∙ h.share_is;
        entries = h.entries;
        fits = λ more less within. h.fits more less (subst (λ (grown : ℕ). grown + more ≤ h.share.upto) x.2.grown within);
      };
}

asleep_is : (b : Bool) (o : Option WaitState) (wait : WaitState) → asleep_if b o ≡ Some wait → (o ≡ Some wait) × (is_some (option_and_then unnamed o) ≡ true)
asleep_is false o wait is = absurd (none-some wait is)
asleep_is true None wait is = absurd (none-some wait is)
asleep_is true (Some x) wait is = by x.is_named is where
  by : (t : Bool) → (if t then None else Some x) ≡ Some wait → (Some x ≡ Some wait) × (is_some (if t then None else Some x) ≡ true)
  by true is = absurd (none-some wait is)
  by false is = (is, refl)

asleep_waits : (w : WaitingState) (k : ℕ) (wait : WaitState) → asleep_at w.waits k ≡ Some wait → wait_at w.waits k ≡ Some wait
asleep_waits w k wait at = (asleep_is (is_behind w.waits k) (wait_at w.waits k) wait at).0

-- who sleeps waits, and wasn't named
pub still_unnamed : (w : WaitsState) (k : ℕ) → is_some (asleep_at w k) ≡ true → is_some (unnamed_at w k) ≡ true
still_unnamed w k some = by (asleep_at w k) refl some where
  by : (o : Option WaitState) → asleep_at w k ≡ o → is_some o ≡ true → is_some (unnamed_at w k) ≡ true
  by None is some = absurd (false≢true some)
  by (Some wait) is some = (asleep_is (is_behind w k) (wait_at w k) wait is).1

all_by : (s : State) (k : ℕ) (due : ℕ × ℕ) (old new : WaitingState) (asked : ℕ → FetchValue) → AllWaitOn s (content_at s) old asked → Joins s k due old new → StandersWait new → wait_at old.waits k ≡ None → due.1 ≡ k
    → ((wait : WaitState) → asleep_at new.waits k ≡ Some wait → WaitsOn s (content_at s) new k wait (asked k) × (has_time wait.due new.times ≡ true)) → AllWaitOn s (content_at s) new asked
all_by s k due old new asked all joins standers none number this = record {
  ends = joins.ends all.ends;
  each = λ j wait at. each j wait at (nat_eq j k) refl;
  own = λ j wait at. own j wait at (nat_eq j k) refl;
  times = λ j wait at. times j wait at (nat_eq j k) refl;
  standers = standers;
} where
  same : (j : ℕ) → nat_eq j k ≡ true → j ≡ k
  same j is = grind (arith, is)

  differs : (j : ℕ) → nat_eq j k ≡ false → j ≢ k
  differs j is e = absurd (grind (arith, is, e))

  each : (j : ℕ) (wait : WaitState) → asleep_at new.waits j ≡ Some wait → (t : Bool) → nat_eq j k ≡ t → WaitsOn s (content_at s) new j wait (asked j)
  each j wait at true is = subst (λ (n : ℕ). WaitsOn s (content_at s) new n wait (asked n)) (sym (same j is)) (this wait (subst (λ (n : ℕ). asleep_at new.waits n ≡ Some wait) (same j is) at)).0
  each j wait at false is = others_wait s (content_at s) k due old new j wait (asked j) joins (differs j is) (all.each j wait (sym (joins.asleep j (differs j is)) ∙ at))

  own : (j : ℕ) (wait : WaitState) → wait_at new.waits j ≡ Some wait → (t : Bool) → nat_eq j k ≡ t → wait.due.1 ≡ j
  own j wait at true is =
      let dues = joins.due_is (λ was had. absurd (none-some was (sym none ∙ had))) wait (subst (λ (n : ℕ). wait_at new.waits n ≡ Some wait) (same j is) at) in
      ap (λ (d : ℕ × ℕ). d.1) dues ∙ number ∙ sym (same j is)
  own j wait at false is = all.own j wait (sym (joins.waits j (differs j is)) ∙ at)

  times : (j : ℕ) (wait : WaitState) → asleep_at new.waits j ≡ Some wait → (t : Bool) → nat_eq j k ≡ t → has_time wait.due new.times ≡ true
  times j wait at true is = (this wait (subst (λ (n : ℕ). asleep_at new.waits n ≡ Some wait) (same j is) at)).1
  times j wait at false is = joins.times wait.due (all.times j wait (sym (joins.asleep j (differs j is)) ∙ at))

-- what it waits for has its time
its_time : (s : State) (k : ℕ) (due : ℕ × ℕ) (old new : WaitingState) (wait : WaitState) → Joins s k due old new → wait_at old.waits k ≡ None → asleep_at new.waits k ≡ Some wait → wait.due ≡ due
its_time s k due old new wait joins none at = joins.due_is (λ was had. absurd (none-some was (sym none ∙ had))) wait (asleep_waits new k wait at)

module _ (s : State) (k due : ℕ) (held : List ℕ) (old new : WaitingState) (asked : ℕ → FetchValue) (all : AllWaitOn s (content_at s) old asked) (joins : Joins s k (due, k) old new) (standers : StandersWait new) (none : wait_at old.waits k ≡ None) where
  -- it has joined
  pub all_joined : (r : Result (Unit {0}) AllocError) → is_err r ≡ false → OnOk r (has_time (due, k) new.times ≡ true) → OnOk r ((q : FetchValue) → AsksFirst held q → AreCounted s new k (awaited_bytes q) (entries_in q.topics))
      → AsksFirst held (asked k) → fetch_waits s (asked k) ≡ true → AllWaitOn s (content_at s) new asked
  all_joined (Err e) fine listed counted asks waits = absurd (true≢false fine)
  all_joined (Ok x) fine listed counted asks waits = all_by s k (due, k) old new asked all joins standers none refl (λ wait at. (
    waits_on s new k wait (asked k) (counted (asked k) asks wait at) waits,
    ap (λ (time : ℕ × ℕ). has_time time new.times) (its_time s k (due, k) old new wait joins none at) ∙ listed,
  ))

  -- it was woken
  pub all_woken : asleep_at new.waits k ≡ None → AllWaitOn s (content_at s) new asked
  all_woken woken = all_by s k (due, k) old new asked all joins standers none refl (λ wait at. absurd (none-some wait (sym woken ∙ at)))

-- when its time is over
pub due_by : (s : State) (k due : ℕ) (old mid new : WaitingState) → Joins s k (due, k) mid new → wait_at mid.waits k ≡ None → IfSome (asleep_at new.waits k) (λ wait. (wait.due.0 ≡ due) ⊎ (asleep_at old.waits k ≡ Some wait))
due_by s k due old mid new joins none = by (asleep_at new.waits k) refl where
  by : (o : Option WaitState) → asleep_at new.waits k ≡ o → IfSome o (λ wait. (wait.due.0 ≡ due) ⊎ (asleep_at old.waits k ≡ Some wait))
  by None is = tt
  by (Some wait) is = inl (ap (λ (d : ℕ × ℕ). d.0) (its_time s k (due, k) mid new wait joins none is))

pub due_as_it_was : (due : ℕ) (o : Option WaitState) → IfSome o (λ wait. (wait.due.0 ≡ due) ⊎ (o ≡ Some wait))
due_as_it_was due None = tt
due_as_it_was due (Some wait) = inr refl
