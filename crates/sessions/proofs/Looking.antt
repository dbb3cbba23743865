-- All wait on who sleep, once one partition was looked at.
use Rattle.std.proofs.Common.{◌≡◌, ℕ, ℤ, ◌+◌, ◌*◌, ◌-◌, ◌<◌, ◌≤◌, ◌⊎◌, inl, inr, arith, Bool, true, false, List, length, Option, Some, None, sym, ap, subst, refl, ◌∙◌}
use Rattle.std.specs.Prelude.{◌&&◌, nat_eq, bytes_eq, if◌then◌else◌}
use Rattle.std.specs.List.{list_any}
use Rattle.std.specs.Map.{lookup}
use Rattle.std.specs.Option.{option_map}
use Rattle.std.specs.Ordering.{int_eq}
use Rattle.std.proofs.lemmas.Bool.{false≢true}
use Rattle.std.proofs.lemmas.Bool.Decides.{nat_tests}
use Rattle.std.proofs.lemmas.Int.{ints}
use Rattle.std.proofs.lemmas.Option.{same_Some, none-some}
use Rattle.std.proofs.lemmas.Slice.Eq.{bytes_eq-Decides}
use Rattle.content.specs.Content.{Content, end}
use Rattle.request_frames.specs.Fetch.{FetchValue}
use Rattle.broker_state.specs.Places.{IsPlaceOf}
use Rattle.broker_state.specs.State.{State, content_at}
use Rattle.fetch_waits.specs.Waiting.{bytes_from}
use Rattle.fetch_waits.specs.Sleeping.{Contents, FitsRoom, GrowsBy, Sleeps, is_asked}
use Rattle.fetch_waits.proofs.Growing.{grown_behind}
use Rattle.fetch_waits.proofs.Sleeping.{grows_nothing, less_room, sleeps_less}
use Rattle.sessions.specs.declared.waits.PartitionKey.{PartitionKey}
use Rattle.sessions.specs.declared.waits.Share.{Share}
use Rattle.sessions.specs.declared.waiting.Noted.{Noted}
use Rattle.sessions.specs.Waiting.{GoesOn, StandState, StandersWait, WaitState, WaitingState, asleep_at, is_same_key, kept, key_of, place_of, share_at, share_in, stand_at, wait_at}
use Rattle.sessions.specs.Asleep.{AllWaitOn, EndsAre, Stands, WaitsOn, count_in}
use Rattle.sessions.specs.Growing.{Looks, LooksAt, Sees, StaysAsleep, is_at}
use Rattle.sessions.proofs.Standers.{places_kept, same_key, share_of}
use Rattle.sessions.proofs.Growth.{FindsIn, at_place, by_one, find_in, fits_behind, one_at, one_grows, sleeps_by, sleeps_same}

other_key : (x y : PartitionKey) → is_same_key x y ≡ false → is_same_key y x ≡ false
other_key x y isnt = grind (arith, isnt, nat_tests)

one_here : (name : List ℕ) (p : ℤ) (real : ℕ) → one_grows name p real name p ≡ real
one_here name p real =
    let this : int_eq p p ≡ true = grind (arith, ints) in
    λ i. if (bytes_eq-Decides name name).1 refl i && this i then real else 0

both_same : (name other : List ℕ) (p r : ℤ) → other ≡ name → r ≡ p → (bytes_eq other name && int_eq r p) ≡ true
both_same name other p r is is' =
    let numbers : int_eq r p ≡ true = grind (arith, ints, is') in
    λ i. (bytes_eq-Decides other name).1 is i && numbers i

no_times : (n : ℕ) → 0 * n ≡ 0
no_times n = omega arith

less_nothing : (n : ℕ) (room : Option ℕ) → FitsRoom n room → FitsRoom n (less_room room 0)
less_nothing n None fits = fits
less_nothing n (Some room) fits = omega (arith, fits)

module _ (s after : State) (noted : Noted) (key : PartitionKey) (now next : Contents) (old new : WaitingState) (sees : Sees s noted after key now next) (looks : LooksAt after noted key old new) where
  -- ---- where the partitions end

  ends_behind : EndsAre s now old → EndsAre s next new
  ends_behind ends name p place stand of at = by (is_same_key (key_of place) key) refl where
    by : (b : Bool) → is_same_key (key_of place) key ≡ b → stand.end ≡ end (next name p)
    by true is =
        let this = same_key (key_of place) key is in
        let same : looks.next ≡ stand = same_Some looks.next stand (sym looks.is ∙ ap (stand_at new) (sym this) ∙ at) in
        ap (λ (x : StandState). x.end) (sym same)
        ∙ looks.counts.ends name p (subst (IsPlaceOf after name p) (ap place_of this) (sees.places name p place of))
        ∙ ap end (sym (sees.here name p (at_place s name p place key of ∙ is)))
    by false isnt =
        ends name p place stand of (sym (looks.others (key_of place) (other_key (key_of place) key isnt)) ∙ at)
        ∙ ap end (sym (sees.others name p (at_place s name p place key of ∙ isnt)))

  -- ---- one who asks for nothing there

  module _ (k : ℕ) (q : FetchValue) (was is : WaitState) (waits : WaitsOn s now old k was q) where
    stays_at : (room : List ℕ → ℤ → Option ℕ) (name : List ℕ) (p : ℤ) → Stands s old k was.forced q waits.room name p → is_at s key name p ≡ false → is.forced ≡ was.forced
        → ((more : ℕ) → FitsRoom more (waits.room name p) → FitsRoom more (room name p)) → Stands s new k is.forced q room name p
    stays_at room name p stands isnt forced fits = record {
      place = stands.place;
      stand = stands.stand;
      share = stands.share;
      is_place = stands.is_place;
      stand_is = looks.others (key_of stands.place) (other_key (key_of stands.place) key (sym (at_place s name p stands.place key stands.is_place) ∙ isnt)) ∙ stands.stand_is;
      share_is = stands.share_is;
      entries = stands.entries;
      fits = λ more less upto. fits more (stands.fits more (subst (λ (n : ℕ). n < stands.share.first) forced less) upto);
    }

    unmoved : ((name : List ℕ) (p : ℤ) → is_asked q name p ≡ true → is_at s key name p ≡ false) → is.forced ≡ was.forced → is.missing ≤ was.missing → 0 < is.missing → WaitsOn s next new k is q
    unmoved none forced less some = record {
      room = waits.room;
      some = some;
      sleeps = sleeps_less s next q was.missing is.missing waits.room waits.room less (λ name p n _ within. within)
          (sleeps_same s now next q was.missing waits.room (λ name p asked. sees.others name p (none name p asked)) waits.sleeps);
      stands = λ name p asked. stays_at waits.room name p (waits.stands name p asked) (none name p asked) forced (λ more fits. fits);
    }

    -- ---- one who asks for it

    module _ (share : Share) (share_is : share_in looks.stand k ≡ Some share) (stays : StaysAsleep after noted (place_of key) looks.stand looks.next share was is) where
      -- its share is that of the stand
      record Has (name : List ℕ) (p : ℤ) (stands : Stands s old k was.forced q waits.room name p) : Type 0 where
        same_stand : stands.stand ≡ looks.stand
        same_share : stands.share ≡ share
        same_place : key_of stands.place ≡ key

      has : (name : List ℕ) (p : ℤ) (stands : Stands s old k was.forced q waits.room name p) → is_at s key name p ≡ true → Has name p stands
      has name p stands at =
          let this = same_key (key_of stands.place) key (sym (at_place s name p stands.place key stands.is_place) ∙ at) in
          let stand : stands.stand ≡ looks.stand = same_Some stands.stand looks.stand (sym stands.stand_is ∙ ap (stand_at old) this ∙ looks.was) in
          record {
            same_stand = stand;
            same_share = same_Some stands.share share (sym stands.share_is ∙ ap (λ (x : StandState). share_in x k) stand ∙ share_is);
            same_place = this;
          }

      abbrev fits_at : List ℕ → ℤ → Type 0
      fits_at name p = (more : ℕ) → was.forced < share.first → looks.stand.grown + more ≤ share.upto → FitsRoom more (waits.room name p)

      fits_there : (name : List ℕ) (p : ℤ) (stands : Stands s old k was.forced q waits.room name p) → Has name p stands → fits_at name p
      fits_there name p stands its =
          subst (λ (x : StandState). (more : ℕ) → was.forced < share.first → x.grown + more ≤ share.upto → FitsRoom more (waits.room name p)) its.same_stand
          (subst (λ (x : Share). (more : ℕ) → was.forced < x.first → stands.stand.grown + more ≤ x.upto → FitsRoom more (waits.room name p)) its.same_share stands.fits)

      abbrev more : ℕ
      more = stays.growth.more

      some_left : (goes : (more ≡ 0) ⊎ GoesOn was share stays.growth) → 0 < was.missing - more * share.entries
      some_left (inl none) = let zero : more * share.entries ≡ 0 = ap (λ (n : ℕ). n * share.entries) none ∙ no_times share.entries in let some = waits.some in omega (arith, zero, some)
      some_left (inr goes) = let less = goes.0 in omega (arith, less)

      calm : (room : Option ℕ) (n : ℕ) → n ≡ 0 → FitsRoom n room
      calm None n none = none
      calm (Some room) n none = omega (arith, none)

      fits_now : (name : List ℕ) (p : ℤ) → fits_at name p → (goes : (more ≡ 0) ⊎ GoesOn was share stays.growth) → FitsRoom more (waits.room name p)
      fits_now name p fits (inl none) = calm (waits.room name p) more none
      fits_now name p fits (inr goes) =
          let sum : stays.growth.grown ≡ looks.stand.grown + more = stays.grew.all ∙ stays.grew.grown in
          let upto = goes.1 in
          fits more goes.2 (omega (arith, sum, upto))

      -- what is there from the former end on is what was counted
      counted : (ends : EndsAre s now old) (name : List ℕ) (p : ℤ) (stands : Stands s old k was.forced q waits.room name p) → Has name p stands → length (bytes_from (content_at after name p) (end (now name p))) ≤ more
      counted ends name p stands its =
          let at = subst (IsPlaceOf after name p) (ap place_of its.same_place) (sees.places name p stands.place stands.is_place) in
          let from : looks.stand.end ≡ end (now name p) = ap (λ (x : StandState). x.end) (sym its.same_stand) ∙ ends name p stands.place stands.stand stands.is_place stands.stand_is in
          let bytes : more ≡ length (bytes_from (content_at after name p) (end (now name p))) = stays.grew.bytes name p at ∙ ap (λ (z : ℤ). length (bytes_from (content_at after name p) z)) from in
          omega (arith, bytes)

      module _ (ends : EndsAre s now old) (name : List ℕ) (p : ℤ) (asked : is_asked q name p ≡ true) (at : is_at s key name p ≡ true) where
        abbrev stands : Stands s old k was.forced q waits.room name p
        stands = waits.stands name p asked

        its : Has name p stands
        its = has name p stands at

        abbrev grows : (real : ℕ) × GrowsBy (now name p) (content_at after name p) real
        grows = let grown = sees.grows stays.appends name p in (length (bytes_from (content_at after name p) (end (now name p))), grown_behind (now name p) (content_at after name p) grown.0 grown.1)

        abbrev real : ℕ
        real = grows.0

        few : real ≤ more
        few = counted ends name p stands its

        abbrev left : List ℕ → ℤ → Option ℕ
        left other r = less_room (waits.room other r) (one_grows name p real other r)

        stands_here : Stands s new k is.forced q left name p
        stands_here = record {
          place = stands.place;
          stand = looks.next;
          share = share;
          is_place = stands.is_place;
          stand_is = ap (stand_at new) its.same_place ∙ looks.is;
          share_is = ap (λ (shares : List (ℕ × Share)). share_in (record { end = looks.next.end; grown = looks.next.grown; shares = shares }) k) looks.counts.shares ∙ share_is;
          entries = subst (λ (x : Share). count_in name p q.topics ≤ x.entries) its.same_share stands.entries;
          fits = λ n less upto.
              let forced : was.forced < share.first = subst (λ (x : WaitState). x.forced < share.first) stays.less less in
              let grown = stays.grew.grown in
              let all = fits_there name p stands its (more + n) forced (omega (arith, grown, upto)) in
              subst (λ (m : ℕ). FitsRoom n (less_room (waits.room name p) m)) (sym (one_here name p real)) (fits_behind real more n (waits.room name p) few all);
        }

        apart : (other : List ℕ) (r : ℤ) → is_at s key other r ≡ false → (other ≡ name) × (r ≡ p) → ⊥
        apart other r isnt same = false≢true (sym isnt ∙ ap (λ (n : List ℕ). is_at s key n r) same.0 ∙ ap (is_at s key name) same.1 ∙ at)

        fits_left : (other : List ℕ) (r : ℤ) → is_at s key other r ≡ false → (n : ℕ) → FitsRoom n (waits.room other r) → FitsRoom n (left other r)
        fits_left other r isnt n fits = by_one name other p r real (λ (m : ℕ). FitsRoom n (less_room (waits.room other r) m)) (λ same. absurd (apart other r isnt same)) (λ _. less_nothing n (waits.room other r) fits)

        same_forced : is.forced ≡ was.forced
        same_forced = ap (λ (x : WaitState). x.forced) stays.less

        stands_left : (other : List ℕ) (r : ℤ) → is_asked q other r ≡ true → Stands s new k is.forced q left other r
        stands_left other r there = by (is_at s key other r) refl where
          by : (b : Bool) → is_at s key other r ≡ b → Stands s new k is.forced q left other r
          by true this =
              let same = one_at s key name other p r stands.place (waits.stands other r there).place stands.is_place (waits.stands other r there).is_place at this in
              subst (λ (n : List ℕ). Stands s new k is.forced q left n r) (sym same.0) (subst (λ (z : ℤ). Stands s new k is.forced q left name z) (sym same.1) stands_here)
          by false isnt = stays_at left other r (waits.stands other r there) isnt same_forced (fits_left other r isnt)

        nothing_else : (other : List ℕ) (r : ℤ) → (bytes_eq other name && int_eq r p) ≡ false → is_asked q other r ≡ true → GrowsBy (now other r) (next other r) 0
        nothing_else other r isnt there = by (is_at s key other r) refl where
          by : (b : Bool) → is_at s key other r ≡ b → GrowsBy (now other r) (next other r) 0
          by true this =
              let same = one_at s key name other p r stands.place (waits.stands other r there).place stands.is_place (waits.stands other r there).is_place at this in
              absurd (false≢true (sym isnt ∙ both_same name other p r same.0 same.1))
          by false other_one = grows_nothing (now other r) (next other r) (sees.others other r other_one)

        sleeps_left : Sleeps s next q (was.missing - more * share.entries) left
        sleeps_left =
            let grew = subst (λ (c : Content). GrowsBy (now name p) c real) (sym (sees.here name p at)) grows.1 in
            let count = subst (λ (x : Share). count_in name p q.topics ≤ x.entries) its.same_share stands.entries in
            sleeps_by s now next q was.missing waits.room name p real more share.entries waits.sleeps grew (λ other r there isnt. nothing_else other r isnt there) few (fits_now name p (fits_there name p stands its) stays.goes) count

        pub moved : WaitsOn s next new k is q
        moved = record {
          room = left;
          some = subst (λ (x : WaitState). 0 < x.missing) (sym stays.less) (some_left stays.goes);
          sleeps = subst (λ (x : WaitState). Sleeps s next q x.missing left) (sym stays.less) sleeps_left;
          stands = stands_left;
        }

      -- whichever it asks for
      goes_on : EndsAre s now old → FindsIn (is_at s key) q.topics → WaitsOn s next new k is q
      goes_on ends (inr there) = moved ends there.0 there.1 there.2 there.3
      goes_on ends (inl none) =
          unmoved none (ap (λ (x : WaitState). x.forced) stays.less)
          (let same = ap (λ (x : WaitState). x.missing) stays.less in omega (arith, same))
          (subst (λ (x : WaitState). 0 < x.missing) (sym stays.less) (some_left stays.goes))

    -- it has no share there, and asks for nothing there
    apart_from : share_in looks.stand k ≡ None → FindsIn (is_at s key) q.topics → (name : List ℕ) (p : ℤ) → is_asked q name p ≡ true → is_at s key name p ≡ false
    apart_from none (inl nowhere) = nowhere
    apart_from none (inr there) =
        let stands = waits.stands there.0 there.1 there.2 in
        let this = same_key (key_of stands.place) key (sym (at_place s there.0 there.1 stands.place key stands.is_place) ∙ there.3) in
        let stand : stands.stand ≡ looks.stand = same_Some stands.stand looks.stand (sym stands.stand_is ∙ ap (stand_at old) this ∙ looks.was) in
        absurd (none-some stands.share (sym none ∙ ap (λ (x : StandState). share_in x k) (sym stand) ∙ stands.share_is))

  one_looked : (k : ℕ) (q : FetchValue) (is : WaitState) → EndsAre s now old → ((was : WaitState) → asleep_at old.waits k ≡ Some was → WaitsOn s now old k was q) → asleep_at new.waits k ≡ Some is
      → ((was : WaitState) × (asleep_at old.waits k ≡ Some was) × (is.due ≡ was.due)) × WaitsOn s next new k is q
  one_looked k q is ends waits there = by (share_in looks.stand k) (asleep_at old.waits k) refl refl (subst (Looks after noted (place_of key) looks.stand looks.next (share_in looks.stand k) (asleep_at old.waits k)) there (looks.each k)) where
    by : (share : Option Share) (was : Option WaitState) → share_in looks.stand k ≡ share → asleep_at old.waits k ≡ was → Looks after noted (place_of key) looks.stand looks.next share was (Some is)
        → ((was : WaitState) × (asleep_at old.waits k ≡ Some was) × (is.due ≡ was.due)) × WaitsOn s next new k is q
    by None was none before same =
        let slept : asleep_at old.waits k ≡ Some is = before ∙ sym same in
        let on = waits is slept in
        ((is, slept, refl), unmoved k q is is on (apart_from k q is is on none (find_in (is_at s key) q.topics)) refl (omega arith) on.some)
    by (Some share) None has before looked = absurd looked
    by (Some share) (Some was) has before looked =
        ((was, before, ap (λ (x : WaitState). x.due) looked.less), goes_on k q was is (waits was before) share has looked ends (find_in (is_at s key) q.topics))

  own_behind : (k : ℕ) (wait : WaitState) → ((wait : WaitState) → wait_at old.waits k ≡ Some wait → wait.due.1 ≡ k) → wait_at new.waits k ≡ Some wait → wait.due.1 ≡ k
  own_behind k wait own at = by (wait_at old.waits k) refl (sym (looks.dues k) ∙ ap (option_map kept) at) where
    by : (was : Option WaitState) → wait_at old.waits k ≡ was → option_map kept was ≡ Some (kept wait) → wait.due.1 ≡ k
    by None is same = absurd (none-some (kept wait) same)
    by (Some was) is same = ap (λ (x : (ℕ × ℕ) × Bool × List PartitionKey). x.0.1) (sym (same_Some (kept was) (kept wait) same)) ∙ own was is

  standers_behind : StandersWait old → StandersWait new
  standers_behind stand = record { none = λ other k away. by other k (is_same_key key other) refl (stand.none other k (places_kept other (wait_at old.waits k) (wait_at new.waits k) (sym (looks.dues k)) ∙ away)) } where
    by : (other : PartitionKey) (k : ℕ) (b : Bool) → is_same_key key other ≡ b → share_at old other k ≡ None → share_at new other k ≡ None
    by other k true is none =
        let this = same_key key other is in
        ap (λ (x : PartitionKey). share_at new x k) (sym this) ∙ ap (share_of k) looks.is ∙ ap (lookup (nat_eq k)) looks.counts.shares
        ∙ ap (share_of k) (sym looks.was) ∙ ap (λ (x : PartitionKey). share_at old x k) this ∙ none
    by other k false isnt none = ap (share_of k) (looks.others other isnt) ∙ none

  pub looked : (asked : ℕ → FetchValue) → AllWaitOn s now old asked → AllWaitOn s next new asked
  looked asked all = record {
    ends = ends_behind all.ends;
    each = λ k wait is. (one_looked k (asked k) wait all.ends (all.each k) is).1;
    own = λ k wait is. own_behind k wait (all.own k) is;
    times = λ k wait is.
        let was = (one_looked k (asked k) wait all.ends (all.each k) is).0 in
        ap (λ (d : ℕ × ℕ). list_any (λ (time : ℕ × ℕ). nat_eq d.0 time.0 && nat_eq d.1 time.1) new.times) was.2
        ∙ ap (list_any (λ (time : ℕ × ℕ). nat_eq was.0.due.0 time.0 && nat_eq was.0.due.1 time.1)) looks.times
        ∙ all.times k was.0 was.1;
    standers = standers_behind all.standers;
  }
