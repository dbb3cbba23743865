-- What a session that joins has counted of its entries.
use Rattle.std.proofs.Common.{◌≡◌, ℕ, ℤ, pos, ◌+◌, ◌-◌, ◌<◌, ◌≤◌, arith, Bool, true, false, List, [], ◌∷◌, ◌++◌, length, map, Option, Some, None, sym, ap, subst, refl, ◌∙◌, append_assoc, append-nil}
use Rattle.std.specs.Prelude.{◌&&◌, nat_eq, nat_le, nat_lt, bytes_eq, if◌then◌else◌}
use Rattle.std.specs.Option.{unwrap_or}
use Rattle.std.specs.Ordering.{int_eq}
use Rattle.std.proofs.lemmas.Bool.{false≢true}
use Rattle.std.proofs.lemmas.Int.{ints}
use Rattle.std.proofs.lemmas.List.{length-append}
use Rattle.std.proofs.lemmas.Option.{none-some, same_Some}
use Rattle.frame_fields.specs.Fields.{Value}
use Rattle.frame_fields.specs.Types.{TopicOf, topic, topic_request}
use Rattle.request_frames.specs.Fetch.{FetchPartitionValue, fetch_partition, fetch_partition_value}
use Rattle.broker_state.specs.declared.place.Place.{Place}
use Rattle.broker_state.specs.Places.{IsPlaceOf}
use Rattle.broker_state.specs.State.{State}
use Rattle.log_requests.specs.Fetch.{fetch_limit}
use Rattle.fetch_waits.specs.Counts.{room_within}
use Rattle.fetch_waits.specs.Sleeping.{there_at}
use Rattle.sessions.specs.Waiting.{WaitState, WaitingState, asleep_at, key_of, stand_at, with_entry}
use Rattle.sessions.specs.Asleep.{Covers}
use Rattle.sessions.specs.Joining.{AreCounted, CountsMore, CoversAll, Entry, HasShare, Joins, PutsAt, SleepsSo, count_for, entries_in, entries_of, there_for}

-- ---- what was counted stays

module _ (s : State) (k : ℕ) (due : ℕ × ℕ) (old new : WaitingState) (joins : Joins s k due old new) where
  covers_kept : (forced more number : ℕ) (name : List ℕ) (e : FetchPartitionValue) → forced ≤ more → Covers s old k forced number name e → Covers s new k more number name e
  covers_kept forced more number name e le c =
      let x = joins.stands (key_of c.place) c.stand c.stand_is in
      let y = x.2.own c.share c.share_is in
      record {
        place = c.place;
        stand = x.0;
        share = y.0;
        is_place = c.is_place;
        stand_is = x.1;
        share_is = y.1;
        first = omega (arith, c.first, y.2.first);
        limit = λ less. c.limit (omega (arith, less, le));
        room = λ less. let was = c.room (omega (arith, less, le)) in let grown = x.2.grown in let upto = y.2.upto in omega (arith, was, grown, upto);
      }

  covers_all_kept : (forced more before : ℕ) (es : List Entry) → forced ≤ more → CoversAll s old k forced before es → CoversAll s new k more before es
  covers_all_kept forced more before [] le all = tt
  covers_all_kept forced more before (e ∷ es) le all = (covers_kept forced more (before + 1) e.0 e.1 le all.0, covers_all_kept forced more (before + 1) es le all.1)

  share_kept : (name : List ℕ) (p : ℤ) (n : ℕ) → HasShare s old k name p n → HasShare s new k name p n
  share_kept name p n h =
      let x = joins.stands (key_of h.place) h.stand h.stand_is in
      let y = x.2.own h.share h.share_is in
      let more = y.2.entries in
      record { place = h.place; stand = x.0; share = y.0; is_place = h.is_place; stand_is = x.1; share_is = y.1; enough = omega (arith, h.enough, more) }

-- ---- one entry more

pub there_append : (s : State) (xs ys : List Entry) → there_for s (xs ++ ys) ≡ there_for s xs + there_for s ys
there_append s [] ys = omega arith
there_append s (x ∷ xs) ys = let rest = there_append s xs ys in omega (arith, rest)

pub count_append : (name : List ℕ) (p : ℤ) (xs ys : List Entry) → count_for name p (xs ++ ys) ≡ count_for name p xs + count_for name p ys
count_append name p [] ys = omega arith
count_append name p (x ∷ xs) ys = let rest = count_append name p xs ys in omega (arith, rest)

covers_append : (s : State) (w : WaitingState) (k forced before : ℕ) (xs ys : List Entry) → CoversAll s w k forced before xs → CoversAll s w k forced (before + length xs) ys → CoversAll s w k forced before (xs ++ ys)
covers_append s w k forced before [] ys first second = let same : before + 0 ≡ before = omega arith in subst (λ (n : ℕ). CoversAll s w k forced n ys) same second
covers_append s w k forced before (x ∷ xs) ys first second =
    let same : before + length (x ∷ xs) ≡ before + 1 + length xs = omega arith in
    (first.0, covers_append s w k forced (before + 1) xs ys first.1 (subst (λ (n : ℕ). CoversAll s w k forced n ys) same second))

both_true : (a b : Bool) → (a && b) ≡ true → (a ≡ true) × (b ≡ true)
both_true true b is = (refl, is)
both_true false b is = absurd (false≢true is)

bytes_same : (x y : List ℕ) → bytes_eq x y ≡ true → x ≡ y
bytes_same [] [] is = refl
bytes_same [] (b ∷ y) is = absurd (false≢true is)
bytes_same (a ∷ x) [] is = absurd (false≢true is)
bytes_same (a ∷ x) (b ∷ y) is =
    let both = both_true (nat_eq a b) (bytes_eq x y) is in
    let first : a ≡ b = grind (arith, both.0) in
    let rest = bytes_same x y both.1 in
    λ i. first i ∷ rest i

same_key : (s : State) (name : List ℕ) (p : ℤ) (a b : Place) → IsPlaceOf s name p a → IsPlaceOf s name p b → key_of a ≡ key_of b
same_key s name p a b first second =
    let topic = same_Some a.topic b.topic (first.topic ∙ sym second.topic) in
    let at : pos a.partition ≡ pos b.partition = sym first.partition ∙ second.partition in
    let partition : a.partition ≡ b.partition = omega (arith, ints, at) in
    λ i. record { topic = topic i; partition = partition i }

missing_is : (bytes entry : ℕ) (room : Option ℕ) (was : WaitState) → (with_entry bytes room entry was).missing ≡ was.missing - bytes
missing_is bytes entry None was = refl
missing_is bytes entry (Some room) was = refl

forced_is : (bytes entry : ℕ) (room : Option ℕ) (was : WaitState) → was.forced < entry → (was.forced ≤ (with_entry bytes room entry was).forced) × ((with_entry bytes room entry was).forced ≤ entry)
forced_is bytes entry None was less = (omega (arith, less), omega arith)
forced_is bytes entry (Some room) was less = (omega arith, omega (arith, less))

-- where none was forced up to it, its limit allows what is there
allows : (bytes limit entry : ℕ) (room : Option ℕ) (was : WaitState) → room ≡ room_within limit bytes → (with_entry bytes room entry was).forced < entry → (bytes ≤ limit) × (unwrap_or room 0 + bytes ≡ limit)
allows bytes limit entry None was is less = absurd (omega (arith, less))
allows bytes limit entry (Some room) was is less = by (nat_le bytes limit) refl is where
  by : (t : Bool) → nat_le bytes limit ≡ t → Some room ≡ (if t then Some (limit - bytes) else None) → (bytes ≤ limit) × (room + bytes ≡ limit)
  by true fits same =
      let le : bytes ≤ limit = grind (arith, fits) in
      let left = same_Some room (limit - bytes) same in
      (le, omega (arith, le, left))
  by false fits same = absurd (none-some room (sym same))

module _ (s : State) (k : ℕ) (due : ℕ × ℕ) (old new : WaitingState) (joins : Joins s k due old new) (name : List ℕ) (e : FetchPartitionValue) (place : Place) (of : IsPlaceOf s name e.partition place)
    (bytes number : ℕ) (room : Option ℕ) (bytes_is : bytes ≡ there_at s name e) (room_is : room ≡ room_within (fetch_limit e.max_bytes) bytes) (puts : PutsAt k (key_of place) room number old new) where
  covers_it : (was : WaitState) (forced : ℕ) → forced ≡ (with_entry bytes room number was).forced → Covers s new k forced number name e
  covers_it was forced is = record {
    place = place;
    stand = puts.stand;
    share = puts.share;
    is_place = of;
    stand_is = puts.stand_is;
    share_is = puts.share_is;
    first = puts.first;
    limit = λ less. let fits = (allows bytes (fetch_limit e.max_bytes) number room was room_is (omega (arith, less, is))).0 in omega (arith, fits, bytes_is);
    room = λ less. let left = (allows bytes (fetch_limit e.max_bytes) number room was room_is (omega (arith, less, is))).1 in let upto = puts.upto in omega (arith, left, upto, bytes_is);
  }

  more_shares : (done : List Entry) → ((name' : List ℕ) (p : ℤ) → 0 < count_for name' p done → HasShare s old k name' p (count_for name' p done))
      → (name' : List ℕ) (p : ℤ) → 0 < count_for name' p (done ++ (name, e) ∷ []) → HasShare s new k name' p (count_for name' p (done ++ (name, e) ∷ []))
  more_shares done shares name' p some = by (bytes_eq name name' && int_eq e.partition p) refl where
    sum : (t : Bool) → (bytes_eq name name' && int_eq e.partition p) ≡ t → count_for name' p (done ++ (name, e) ∷ []) ≡ count_for name' p done + ((if t then 1 else 0) + 0)
    sum t is = count_append name' p done ((name, e) ∷ []) ∙ ap (λ (b : Bool). count_for name' p done + ((if b then 1 else 0) + 0)) is

    here : name ≡ name' → e.partition ≡ p → count_for name' p (done ++ (name, e) ∷ []) ≡ count_for name' p done + (1 + 0) → (t : Bool) → nat_lt 0 (count_for name' p done) ≡ t → HasShare s new k name' p (count_for name' p (done ++ (name, e) ∷ []))
    here named at is t test = record {
      place = place;
      stand = puts.stand;
      share = puts.share;
      is_place = is_place;
      stand_is = puts.stand_is;
      share_is = puts.share_is;
      enough = enough t test;
    } where
      is_place : IsPlaceOf s name' p place
      is_place = subst (λ (n : List ℕ). IsPlaceOf s n p place) named (subst (λ (q : ℤ). IsPlaceOf s name q place) at of)

      enough : (t : Bool) → nat_lt 0 (count_for name' p done) ≡ t → count_for name' p (done ++ (name, e) ∷ []) ≤ puts.share.entries
      enough true test =
          let h = shares name' p (grind (arith, test)) in
          let key = same_key s name' p h.place place h.is_place is_place in
          let more = puts.more h.stand h.share (ap (stand_at old) (sym key) ∙ h.stand_is) h.share_is in
          omega (arith, is, more, h.enough)
      enough false test = let none : count_for name' p done ≡ 0 = grind (arith, test) in let one = puts.some in omega (arith, is, none, one)

    by : (t : Bool) → (bytes_eq name name' && int_eq e.partition p) ≡ t → HasShare s new k name' p (count_for name' p (done ++ (name, e) ∷ []))
    by true test =
        let both = both_true (bytes_eq name name') (int_eq e.partition p) test in
        let at : e.partition ≡ p = grind (arith, ints, both.1) in
        here (bytes_same name name' both.0) at (sum true test) (nat_lt 0 (count_for name' p done)) refl
    by false test =
        let same : count_for name' p (done ++ (name, e) ∷ []) ≡ count_for name' p done = let is = sum false test in omega (arith, is) in
        subst (HasShare s new k name' p) (sym same) (share_kept s k due old new joins name' p (count_for name' p done) (shares name' p (omega (arith, some, same))))

  -- an entry was counted
  pub counts_one : (before : ℕ) → number ≡ before + 1 → SleepsSo (with_entry bytes room number) k old new → CountsMore s k old new before number ((name, e) ∷ [])
  counts_one before number_is sleeps awaited done is counted = (
    count,
    λ wait at.
        let x = sleeps.slept wait at in
        let h = counted x.0 x.1 in
        let low : x.0.forced < number = let f = h.forced in omega (arith, f, is, number_is) in
        let forced = forced_is bytes number room x.0 low in
        let sum = there_append s done ((name, e) ∷ []) in
        let left = x.2 ∙ missing_is bytes number room x.0 in
        let was = h.missing in
        let le : x.0.forced ≤ wait.forced = let f = forced.0 in let same = x.3 in omega (arith, f, same) in
        let at_number : 0 + length done + 1 ≡ number = omega (arith, is, number_is) in
        record {
          missing = omega (arith, sum, left, was, bytes_is);
          forced = let f = forced.1 in let same = x.3 in omega (arith, f, same, count);
          covers = covers_append s new k wait.forced 0 done ((name, e) ∷ []) (covers_all_kept s k due old new joins x.0.forced wait.forced 0 done le h.covers)
              (subst (λ (n : ℕ). Covers s new k wait.forced n name e) (sym at_number) (covers_it x.0 wait.forced x.3), tt);
          shares = more_shares done h.shares;
        },
  ) where
    count : number ≡ length (done ++ (name, e) ∷ [])
    count = let n = length-append done ((name, e) ∷ []) in omega (arith, n, is, number_is)

-- ---- more entries

counts_none : (s : State) (k before : ℕ) (w : WaitingState) → CountsMore s k w w before before []
counts_none s k before w awaited done is counted = (is ∙ ap length (sym (append-nil done)), subst (AreCounted s w k awaited) (sym (append-nil done)) counted)

counts_then : (s : State) (k : ℕ) (a b c : WaitingState) (before mid count : ℕ) (xs ys : List Entry) → CountsMore s k a b before mid xs → CountsMore s k b c mid count ys → CountsMore s k a c before count (xs ++ ys)
counts_then s k a b c before mid count xs ys first second awaited done is counted =
    let x = first awaited done is counted in
    let y = second awaited (done ++ xs) x.0 x.1 in
    let same : (done ++ xs) ++ ys ≡ done ++ (xs ++ ys) = append_assoc done xs ys in
    (y.0 ∙ ap length same, subst (AreCounted s c k awaited) same y.1)

-- who sleeps no more is owed nothing
pub counts_woken : (s : State) (k before number : ℕ) (old new : WaitingState) (e : Entry) → asleep_at new.waits k ≡ None → number ≡ before + 1 → CountsMore s k old new before number (e ∷ [])
counts_woken s k before number old new e woken number_is awaited done is counted =
    let n = length-append done (e ∷ []) in
    (omega (arith, n, is, number_is), λ wait at. absurd (none-some wait (sym woken ∙ at)))

abbrev pub topics_in : List (Value (topic fetch_partition)) → List (TopicOf FetchPartitionValue)
topics_in ts = map (topic_request fetch_partition fetch_partition_value) ts

-- those that are left of a topic, and of some topics
abbrev pub left_of : List ℕ → List (Value fetch_partition) → List Entry
left_of name vs = entries_of name (map fetch_partition_value vs)

abbrev pub left_in : List (Value (topic fetch_partition)) → List Entry
left_in ts = entries_in (topics_in ts)

-- what was counted so far of some entries, and what is left
pub record Counting (s : State) (k : ℕ) (old new : WaitingState) (before count : ℕ) (rest all : List Entry) : Type 0 where
  pub seen : List Entry
  pub parts : seen ++ rest ≡ all
  pub counts : CountsMore s k old new before count seen

pub counting_starts : (s : State) (k before : ℕ) (w : WaitingState) (rest all : List Entry) → rest ≡ all → Counting s k w w before before rest all
counting_starts s k before w rest all is = record { seen = []; parts = is; counts = counts_none s k before w }

pub counting_goes : (s : State) (k : ℕ) (a b c : WaitingState) (before mid count : ℕ) (rest more rest' all : List Entry) → Counting s k a b before mid rest all → rest ≡ more ++ rest' → CountsMore s k b c mid count more
    → Counting s k a c before count rest' all
counting_goes s k a b c before mid count rest more rest' all so_far is counts = record {
  seen = so_far.seen ++ more;
  parts = append_assoc so_far.seen more rest' ∙ ap (λ (es : List Entry). so_far.seen ++ es) (sym is) ∙ so_far.parts;
  counts = counts_then s k a b c before mid count so_far.seen more so_far.counts counts;
}

pub counting_ends : (s : State) (k : ℕ) (a b : WaitingState) (before count : ℕ) (rest all : List Entry) → Counting s k a b before count rest all → rest ≡ [] → CountsMore s k a b before count all
counting_ends s k a b before count rest all so_far none =
    subst (CountsMore s k a b before count) (sym (append-nil so_far.seen) ∙ ap (λ (es : List Entry). so_far.seen ++ es) (sym none) ∙ so_far.parts) so_far.counts
