-- A session that joins: the others wait as they did, step by step.
use Rattle.std.proofs.Common.{◌≡◌, ℕ, ℤ, inl, inr, arith, Bool, true, false, List, Option, Some, None, Result, Ok, Err, is_some, sym, ap, subst, refl, ◌∙◌}
use Rattle.std.specs.Prelude.{◌≢◌, ◌⊎◌, ◌&&◌, cond, nat_eq, bytes_eq, slice_get, OnOk, if◌then◌else◌}
use Rattle.std.specs.List.{list_any}
use Rattle.std.specs.Map.{lookup}
use Rattle.std.specs.declared.alloc.AllocError.{AllocError}
use Rattle.content.specs.Content.{empty, end}
use Rattle.std.specs.Option.{option_and_then, option_map, unwrap_or}
use Rattle.std.proofs.lemmas.Bool.{false≢true}
use Rattle.std.proofs.lemmas.List.Folds.{find_at}
use Rattle.std.proofs.lemmas.Option.{none-some, same_Some}
use Rattle.broker_state.specs.declared.place.Place.{Place}
use Rattle.broker_state.specs.Places.{IsPlaceOf}
use Rattle.broker_state.specs.State.{State, Topic, content_at, partition_of, topic_of}
use Rattle.broker_state.proofs.PlacedTopics.{first_at}
use Rattle.sessions.specs.declared.waits.PartitionKey.{PartitionKey}
use Rattle.sessions.specs.declared.waits.Share.{Share}
use Rattle.sessions.specs.Waiting.{StandState, WaitState, WaitingState, WaitsState, asleep_at, is_same_key, key_of, place_of, share_in, stand_at, unnamed, wait_at, with_entry, with_place}
use Rattle.sessions.specs.Asleep.{EndsAre}
use Rattle.sessions.specs.Joining.{EndsAt, HasPut, IsTighter, Joins, Knows, PutsAt, SleepsSo, Stays, as_it_was, new_stand}

-- ---- the others stay

tighter_then : (a b c : Share) → IsTighter a b → IsTighter b c → IsTighter a c
tighter_then a b c first second = record {
  entries = omega (arith, first.entries, second.entries);
  upto = omega (arith, first.upto, second.upto);
  first = omega (arith, first.first, second.first);
}

pub stays_same : (k : ℕ) (w : StandState) → Stays k w w
stays_same k w = record {
  end = refl;
  grown = refl;
  others = λ j other. refl;
  own = λ was at. (was, at, record { entries = omega arith; upto = omega arith; first = omega arith });
}

stays_then : (k : ℕ) (a b c : StandState) → Stays k a b → Stays k b c → Stays k a c
stays_then k a b c first second = record {
  end = second.end ∙ first.end;
  grown = second.grown ∙ first.grown;
  others = λ j other. second.others j other ∙ first.others j other;
  own = λ was at.
      let x = first.own was at in
      let y = second.own x.0 x.1 in
      (y.0, y.1, tighter_then was x.0 y.0 x.2 y.2);
}

pub joins_same : (s : State) (k : ℕ) (due : ℕ × ℕ) (w : WaitingState) → Joins s k due w w
joins_same s k due w = record {
  waits = λ j other. refl;
  asleep = λ j other. refl;
  unnamed = λ is. is;
  due_is = λ was. was;
  stands = λ key was at. (was, at, stays_same k was);
  ends = λ is. is;
  times = λ time is. is;
}

pub joins_then : (s : State) (k : ℕ) (due : ℕ × ℕ) (a b c : WaitingState) → Joins s k due a b → Joins s k due b c → Joins s k due a c
joins_then s k due a b c first second = record {
  waits = λ j other. second.waits j other ∙ first.waits j other;
  asleep = λ j other. second.asleep j other ∙ first.asleep j other;
  unnamed = λ is. second.unnamed (first.unnamed is);
  due_is = λ was. second.due_is (first.due_is was);
  stands = λ key was at.
      let x = first.stands key was at in
      let y = second.stands key x.0 x.1 in
      (y.0, y.1, stays_then k was x.0 y.0 x.2 y.2);
  ends = λ is. second.ends (first.ends is);
  times = λ time is. second.times time (first.times time is);
}

-- ---- what it waits for itself

keys_same : (x y : PartitionKey) → is_same_key x y ≡ true → x ≡ y
keys_same x y is =
    let topic : x.topic ≡ y.topic = grind (arith, is) in
    let partition : x.partition ≡ y.partition = grind (arith, is) in
    λ i. record { topic = topic i; partition = partition i }

abbrev pub is_time_in : ℕ × ℕ → List (ℕ × ℕ) → Bool
is_time_in due times = list_any (λ (time : ℕ × ℕ). nat_eq due.0 time.0 && nat_eq due.1 time.1) times

some_if : (b c : Bool) (x y : WaitState) → b ≡ c → is_some (if c then None else Some x) ≡ true → is_some (if b then None else Some y) ≡ true
some_if b true x y is some = absurd (false≢true some)
some_if b false x y is some = ap (λ (t : Bool). is_some (if t then None else Some y)) is

unnamed_mapped : (f : WaitState → WaitState) → ((w : WaitState) → (f w).is_named ≡ w.is_named) → (old new : Option WaitState) → new ≡ option_map f old → is_some (option_and_then unnamed old) ≡ true → is_some (option_and_then unnamed new) ≡ true
unnamed_mapped f same None new is some = absurd (false≢true some)
unnamed_mapped f same (Some w) new is some = ap (λ (o : Option WaitState). is_some (option_and_then unnamed o)) is ∙ some_if (f w).is_named w.is_named w (f w) (same w) some

due_mapped : (f : WaitState → WaitState) → ((w : WaitState) → (f w).due ≡ w.due) → (due : ℕ × ℕ) (old new : Option WaitState) → new ≡ option_map f old → ((was : WaitState) → old ≡ Some was → was.due ≡ due)
    → (wait : WaitState) → new ≡ Some wait → wait.due ≡ due
due_mapped f same due None new is known wait at = absurd (none-some wait (sym is ∙ at))
due_mapped f same due (Some w) new is known wait at =
    let this : f w ≡ wait = same_Some (f w) wait (sym is ∙ at) in
    sym (ap (λ (x : WaitState). x.due) this) ∙ same w ∙ known w refl

pub as_was : (o : Option WaitState) → o ≡ option_map as_it_was o
as_was None = refl
as_was (Some w) = refl

sleeps_of : (f by : WaitState → WaitState) → ((w : WaitState) → (f w).missing ≡ (by w).missing) → ((w : WaitState) → (f w).forced ≡ (by w).forced) → (old new : Option WaitState) → new ≡ option_map f old → (wait : WaitState) → new ≡ Some wait
    → (was : WaitState) × (old ≡ Some was) × (wait.missing ≡ (by was).missing) × (wait.forced ≡ (by was).forced)
sleeps_of f by missing forced None new is wait at = absurd (none-some wait (sym is ∙ at))
sleeps_of f by missing forced (Some w) new is wait at =
    let this : f w ≡ wait = same_Some (f w) wait (sym is ∙ at) in
    (w, refl, sym (ap (λ (x : WaitState). x.missing) this) ∙ missing w, sym (ap (λ (x : WaitState). x.forced) this) ∙ forced w)

module _ (k : ℕ) (inside old new : WaitingState) (is : inside ≡ old) where
  pub sleeps_placed : (place : PartitionKey) → asleep_at new.waits k ≡ option_map (with_place place) (asleep_at inside.waits k) → SleepsSo as_it_was k old new
  sleeps_placed place same = subst (λ (w : WaitingState). SleepsSo as_it_was k w new) is (record { slept = sleeps_of (with_place place) as_it_was (λ w. refl) (λ w. refl) (asleep_at inside.waits k) (asleep_at new.waits k) same })

  pub sleeps_taken : (bytes entry : ℕ) (room : Option ℕ) → asleep_at new.waits k ≡ option_map (with_entry bytes room entry) (asleep_at inside.waits k) → SleepsSo (with_entry bytes room entry) k old new
  sleeps_taken bytes entry room same =
      subst (λ (w : WaitingState). SleepsSo (with_entry bytes room entry) k w new) is
      (record { slept = sleeps_of (with_entry bytes room entry) (with_entry bytes room entry) (λ w. refl) (λ w. refl) (asleep_at inside.waits k) (asleep_at new.waits k) same })

pub sleeps_same : (k : ℕ) (old new : WaitingState) → new.waits ≡ old.waits → SleepsSo as_it_was k old new
sleeps_same k old new same = record { slept = λ wait at. (wait, ap (λ (w : WaitsState). asleep_at w k) (sym same) ∙ at, refl, refl) }

pub same_after : (by : WaitState → WaitState) (k : ℕ) (a b c : WaitingState) → SleepsSo by k a b → SleepsSo as_it_was k b c → SleepsSo by k a c
same_after by k a b c first second = record {
  slept = λ wait at.
      let y = second.slept wait at in
      let x = first.slept y.0 y.1 in
      (x.0, x.1, y.2 ∙ x.2, y.3 ∙ x.3);
}

pub sleeps_then : {E : Type 0} (r : Result (Unit {0}) E) (by : WaitState → WaitState) (k : ℕ) (a b c : WaitingState) → SleepsSo by k a b → SleepsSo as_it_was k b c → OnOk r (SleepsSo by k a c)
sleeps_then (Ok x) by k a b c first second = same_after by k a b c first second
sleeps_then (Err e) by k a b c first second = tt

-- ---- steps

module _ (s : State) (k : ℕ) (due : ℕ × ℕ) (inside old new : WaitingState) (is : inside ≡ old) where
  -- what it waits for is changed, and neither its time nor whether it was named
  pub changed_joins : (f : WaitState → WaitState) → ((w : WaitState) → (f w).is_named ≡ w.is_named) → ((w : WaitState) → (f w).due ≡ w.due) → new.stands ≡ inside.stands → new.times ≡ inside.times
      → wait_at new.waits k ≡ option_map f (wait_at inside.waits k) → ((j : ℕ) → j ≢ k → wait_at new.waits j ≡ wait_at inside.waits j) → ((j : ℕ) → j ≢ k → asleep_at new.waits j ≡ asleep_at inside.waits j)
      → Joins s k due old new
  changed_joins f named dues stands times this waits asleep = subst (λ (w : WaitingState). Joins s k due w new) is (record {
    waits = waits;
    asleep = asleep;
    unnamed = unnamed_mapped f named (wait_at inside.waits k) (wait_at new.waits k) this;
    due_is = due_mapped f dues due (wait_at inside.waits k) (wait_at new.waits k) this;
    stands = λ key was at. (was, ap (λ ss. lookup (is_same_key key) ss) stands ∙ at, stays_same k was);
    ends = λ are name p place stand of at. are name p place stand of (ap (λ ss. lookup (is_same_key (key_of place)) ss) (sym stands) ∙ at);
    times = λ time known. subst (λ ts. is_time_in time ts ≡ true) (sym times) known;
  })

  pub placed_joins : (place : PartitionKey) → new.stands ≡ inside.stands → new.times ≡ inside.times
      → wait_at new.waits k ≡ option_map (with_place place) (wait_at inside.waits k) → ((j : ℕ) → j ≢ k → wait_at new.waits j ≡ wait_at inside.waits j) → ((j : ℕ) → j ≢ k → asleep_at new.waits j ≡ asleep_at inside.waits j)
      → Joins s k due old new
  placed_joins place = changed_joins (with_place place) (λ w. refl) (λ w. refl)

  pub taken_joins : (bytes entry : ℕ) (room : Option ℕ) → new.stands ≡ inside.stands → new.times ≡ inside.times
      → wait_at new.waits k ≡ option_map (with_entry bytes room entry) (wait_at inside.waits k) → ((j : ℕ) → j ≢ k → wait_at new.waits j ≡ wait_at inside.waits j) → ((j : ℕ) → j ≢ k → asleep_at new.waits j ≡ asleep_at inside.waits j)
      → Joins s k due old new
  taken_joins bytes entry None = changed_joins (with_entry bytes None entry) (λ w. refl) (λ w. refl)
  taken_joins bytes entry (Some room) = changed_joins (with_entry bytes (Some room) entry) (λ w. refl) (λ w. refl)

  -- it waits for what it did
  pub same_joins : new.stands ≡ inside.stands → new.times ≡ inside.times → wait_at new.waits k ≡ wait_at inside.waits k → ((j : ℕ) → j ≢ k → wait_at new.waits j ≡ wait_at inside.waits j)
      → ((j : ℕ) → j ≢ k → asleep_at new.waits j ≡ asleep_at inside.waits j) → Joins s k due old new
  same_joins stands times this = changed_joins as_it_was (λ w. refl) (λ w. refl) stands times (this ∙ as_was (wait_at inside.waits k))

  -- a stand of it is changed
  pub put_joins : (key : PartitionKey) (before after : StandState) → new.waits ≡ inside.waits → new.times ≡ inside.times → stand_at inside key ≡ Some before
      → ((other : PartitionKey) → stand_at new other ≡ cond (is_same_key key other) (Some after) (stand_at inside other)) → Stays k before after → Joins s k due old new
  put_joins key before after waits times here update stays = subst (λ (w : WaitingState). Joins s k due w new) is (record {
    waits = λ j other. ap (λ (w : WaitsState). wait_at w j) waits;
    asleep = λ j other. ap (λ (w : WaitsState). asleep_at w j) waits;
    unnamed = λ some. subst (λ (w : WaitsState). is_some (option_and_then unnamed (wait_at w k)) ≡ true) (sym waits) some;
    due_is = λ known wait at. known wait (ap (λ (w : WaitsState). wait_at w k) (sym waits) ∙ at);
    stands = λ other was at. stands other was at (is_same_key key other) refl;
    ends = λ are name p place stand of at. ends are name p place stand of at (is_same_key key (key_of place)) refl;
    times = λ time known. subst (λ ts. is_time_in time ts ≡ true) (sym times) known;
  }) where
    stands : (other : PartitionKey) (was : StandState) → stand_at inside other ≡ Some was → (t : Bool) → is_same_key key other ≡ t → (stand : StandState) × (stand_at new other ≡ Some stand) × Stays k was stand
    stands other was at true test =
        let same : before ≡ was = same_Some before was (sym here ∙ ap (stand_at inside) (keys_same key other test) ∙ at) in
        (after, update other ∙ ap (λ (t : Bool). cond t (Some after) (stand_at inside other)) test, subst (λ (x : StandState). Stays k x after) same stays)
    stands other was at false test = (was, update other ∙ ap (λ (t : Bool). cond t (Some after) (stand_at inside other)) test ∙ at, stays_same k was)

    ends : EndsAre s (content_at s) inside → (name : List ℕ) (p : ℤ) (place : Place) (stand : StandState) → IsPlaceOf s name p place → stand_at new (key_of place) ≡ Some stand → (t : Bool) → is_same_key key (key_of place) ≡ t
        → stand.end ≡ end (content_at s name p)
    ends are name p place stand of at true test =
        let same : after ≡ stand = same_Some after stand (sym (update (key_of place) ∙ ap (λ (t : Bool). cond t (Some after) (stand_at inside (key_of place))) test) ∙ at) in
        sym (ap (λ (x : StandState). x.end) same) ∙ stays.end ∙ are name p place before of (sym (ap (stand_at inside) (keys_same key (key_of place) test)) ∙ here)
    ends are name p place stand of at false test =
        are name p place stand of (sym (update (key_of place) ∙ ap (λ (t : Bool). cond t (Some after) (stand_at inside (key_of place))) test) ∙ at)

  -- it comes, with this time
  pub added_joins : (wait : WaitState) → new.stands ≡ inside.stands → ((time : ℕ × ℕ) → is_time_in time inside.times ≡ true → is_time_in time new.times ≡ true) → wait_at old.waits k ≡ None → wait_at new.waits k ≡ Some wait → wait.due ≡ due
      → ((j : ℕ) → j ≢ k → wait_at new.waits j ≡ wait_at inside.waits j) → ((j : ℕ) → j ≢ k → asleep_at new.waits j ≡ asleep_at inside.waits j) → Joins s k due old new
  added_joins wait stands times none this is_due waits asleep =
      let none : wait_at inside.waits k ≡ None = ap (λ (w : WaitingState). wait_at w.waits k) is ∙ none in
      subst (λ (w : WaitingState). Joins s k due w new) is (record {
        waits = waits;
        asleep = asleep;
        unnamed = λ some. absurd (false≢true (sym (ap (λ (o : Option WaitState). is_some (option_and_then unnamed o)) none) ∙ some));
        due_is = λ known other at. let same : wait ≡ other = same_Some wait other (sym this ∙ at) in sym (ap (λ (x : WaitState). x.due) same) ∙ is_due;
        stands = λ key was at. (was, ap (λ ss. lookup (is_same_key key) ss) stands ∙ at, stays_same k was);
        ends = λ are name p place stand of at. are name p place stand of (ap (λ ss. lookup (is_same_key (key_of place)) ss) (sym stands) ∙ at);
        times = times;
      })

-- ---- partitions that are waited for

pub joins_known : (s : State) (k : ℕ) (due : ℕ × ℕ) (key : PartitionKey) (at : ℤ) (old new : WaitingState) → Knows key at old new → EndsAt s key at → Joins s k due old new
joins_known s k due key at old new knows ends = record {
  waits = λ j other. ap (λ (w : WaitsState). wait_at w j) knows.waits;
  asleep = λ j other. ap (λ (w : WaitsState). asleep_at w j) knows.waits;
  unnamed = λ some. subst (λ (w : WaitsState). is_some (option_and_then unnamed (wait_at w k)) ≡ true) (sym knows.waits) some;
  due_is = λ known wait there. known wait (ap (λ (w : WaitsState). wait_at w k) (sym knows.waits) ∙ there);
  stands = λ other was there. (was, knows.kept other was there, stays_same k was);
  ends = λ are name p place stand of there. by are name p place stand of (knows.came (key_of place) stand there);
  times = λ time known. subst (λ ts. is_time_in time ts ≡ true) (sym knows.times) known;
} where
  by : EndsAre s (content_at s) old → (name : List ℕ) (p : ℤ) (place : Place) (stand : StandState) → IsPlaceOf s name p place
      → (stand_at old (key_of place) ≡ Some stand) ⊎ ((key ≡ key_of place) × (stand ≡ new_stand at)) → stand.end ≡ end (content_at s name p)
  by are name p place stand of (inl was) = are name p place stand of was
  by are name p place stand of (inr fresh) = ap (λ (x : StandState). x.end) fresh.1 ∙ ends name p place (sym fresh.0) of

pub sleeps_known : (k : ℕ) (key : PartitionKey) (at : ℤ) (old new : WaitingState) → Knows key at old new → SleepsSo as_it_was k old new
sleeps_known k key at old new knows = sleeps_same k old new knows.waits

-- one place has one partition
same_content : (s : State) (name other : List ℕ) (p q : ℤ) (place : Place) → IsPlaceOf s name p place → IsPlaceOf s other q place → content_at s name p ≡ content_at s other q
same_content s name other p q place first second =
    let one = first_at (λ (t : Topic). bytes_eq t.name name) s.topics place.topic first.topic in
    let two = first_at (λ (t : Topic). bytes_eq t.name other) s.topics place.topic second.topic in
    let topic : topic_of s name ≡ topic_of s other =
    find_at (λ (t : Topic). bytes_eq t.name name) s.topics ∙ ap (slice_get s.topics) (sym one.0 ∙ two.0) ∙ sym (find_at (λ (t : Topic). bytes_eq t.name other) s.topics) in
    let same : p ≡ q = first.partition ∙ sym second.partition in
    λ i. unwrap_or (option_and_then (partition_of (same i)) (topic i)) empty

pub ends_at : (s : State) (name : List ℕ) (p : ℤ) (place : Place) (at : ℤ) → IsPlaceOf s name p place → at ≡ end (content_at s name p) → EndsAt s (key_of place) at
ends_at s name p place at of is other q place' key of' =
    let back : place' ≡ place = ap place_of key in
    is ∙ ap end (same_content s name other p q place of (subst (IsPlaceOf s other q) back of'))

-- ---- one entry more at a partition

pub puts_there : (r : Result (Unit {0}) AllocError) (k : ℕ) (key : PartitionKey) (room : Option ℕ) (entry : ℕ) (inside old new : WaitingState) (before after : StandState) → inside ≡ old → stand_at inside key ≡ Some before → stand_at new key ≡ Some after
    → OnOk r (HasPut k room entry before after) → OnOk r (is_some (stand_at old key) ≡ true → PutsAt k key room entry old new)
puts_there (Err e) k key room entry inside old new before after is here there put = tt
puts_there (Ok x) k key room entry inside old new before after is here there put = λ some. subst (λ (w : WaitingState). PutsAt k key room entry w new) is (record {
  stand = after;
  share = put.share;
  stand_is = there;
  share_is = put.share_is;
  first = put.first;
  upto = put.upto;
  some = put.some;
  more = λ b was at of. put.more was (ap (λ (x : StandState). share_in x k) (same_Some before b (sym here ∙ at)) ∙ of);
})

puts_after : (s : State) (k : ℕ) (due : ℕ × ℕ) (key : PartitionKey) (room : Option ℕ) (entry : ℕ) (old mid new : WaitingState) → Joins s k due old mid → PutsAt k key room entry mid new → PutsAt k key room entry old new
puts_after s k due key room entry old mid new joins put = record {
  stand = put.stand;
  share = put.share;
  stand_is = put.stand_is;
  share_is = put.share_is;
  first = put.first;
  upto = put.upto;
  some = put.some;
  more = λ before was at of.
      let x = joins.stands key before at in
      let y = x.2.own was of in
      let less = put.more x.0 y.0 x.1 y.1 in
      let le = y.2.entries in
      omega (arith, less, le);
}

pub puts_counted : (r : Result (Unit {0}) AllocError) (k : ℕ) (key : PartitionKey) (at : ℤ) (room : Option ℕ) (entry : ℕ) (old mid new : WaitingState) → ((s : State) (due : ℕ × ℕ) → EndsAt s key at → Joins s k due old mid)
    → is_some (stand_at mid key) ≡ true → OnOk r (is_some (stand_at mid key) ≡ true → PutsAt k key room entry mid new) → OnOk r ((s : State) → EndsAt s key at → PutsAt k key room entry old new)
puts_counted (Err e) k key at room entry old mid new joins some put = tt
puts_counted (Ok x) k key at room entry old mid new joins some put = λ s ends. puts_after s k (0, k) key room entry old mid new (joins s (0, k) ends) (put some)
