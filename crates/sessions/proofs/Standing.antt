-- All wait on who sleep, where their shares and times stay.
use Rattle.std.proofs.Common.{◌≡◌, ◌≢◌, ℕ, ℤ, ◌+◌, ◌<◌, ◌≤◌, arith, length, take, Bool, true, false, cond, List, [], ◌∷◌, Option, Some, None, IfNone, IfSome, IsSome, nat_cmp, is_eq, sym, ap, subst, refl, ◌∙◌}
use Rattle.std.specs.Prelude.{⊤, ◌&&◌, ◌||◌, get_or, nat_eq, if◌then◌else◌}
use Rattle.std.specs.List.{list_any}
use Rattle.std.specs.Map.{lookup}
use Rattle.std.specs.Option.{option_and_then, option_map}
use Rattle.std.specs.Ordering.{ordering_then}
use Rattle.std.specs.Set.{remove_key}
use Rattle.std.proofs.lemmas.Bool.Decides.{nat_tests}
use Rattle.std.proofs.lemmas.List.Elements.{All-more, All-weaker}
use Rattle.std.proofs.lemmas.Option.{same_Some, none-some}
use Rattle.request_frames.specs.Fetch.{FetchValue}
use Rattle.broker_state.specs.State.{State}
use Rattle.fetch_waits.specs.Sleeping.{Contents}
use Rattle.sessions.specs.declared.waits.PartitionKey.{PartitionKey}
use Rattle.sessions.specs.declared.waits.Share.{Share}
use Rattle.sessions.specs.Waiting.{StandState, StandsAtNone, StandersWait, WaitState, WaitsState, WaitingState, asleep_at, asleep_if, is_behind, is_same_key, key_of, named, share_at, share_in, stand_at, unnamed, unnamed_at, wait_at, waits_for}
use Rattle.sessions.specs.Asleep.{AllWaitOn, Stands, has_time}
use Rattle.sessions.specs.Growing.{KeepsStands}
use Rattle.sessions.proofs.Standers.{has_place, none_of, same_key, share_of, standers_left}

-- ---- stands that are kept

pub keeps_all : (stays : ℕ → Type 0) (old new : WaitingState) → ((key : PartitionKey) → stand_at new key ≡ stand_at old key) → KeepsStands stays old new
keeps_all stays old new same = record {
  shares = λ key stand share k _ at has. (stand, same key ∙ at, refl, has);
  ends = λ key after at. (after, sym (same key) ∙ at, refl);
  none = λ key k away. ap (λ (o : Option StandState). share_of k o) (same key) ∙ away;
}

pub keeps_both : (stays : ℕ → Type 0) (old mid new : WaitingState) → KeepsStands stays old mid → KeepsStands stays mid new → KeepsStands stays old new
keeps_both stays old mid new first second = record {
  shares = λ key stand share k staying at has.
      let a = first.shares key stand share k staying at has in
      let b = second.shares key a.0 share k staying a.1 a.3 in
      (b.0, b.1, b.2 ∙ a.2, b.3);
  ends = λ key after at.
      let b = second.ends key after at in
      let a = first.ends key b.0 b.1 in
      (a.0, a.1, b.2 ∙ a.2);
  none = λ key k away. second.none key k (first.none key k away);
}

-- once one of these partitions more is left
pub one_left : (number : ℕ) (keys : List PartitionKey) (i : ℕ) (key d : PartitionKey) (old new : WaitingState) → i < length keys → key ≡ get_or keys i d → KeepsStands (λ k. k ≢ number) old new → share_at new key number ≡ None
    → StandsAtNone number (take i keys) old → StandsAtNone number (take (i + 1) keys) new
one_left number keys i key d old new within is keeps gone all =
    All-more (λ (x : PartitionKey). share_at new x number ≡ None) keys i d within
    (All-weaker (λ (x : PartitionKey). share_at old x number ≡ None) (λ (x : PartitionKey). share_at new x number ≡ None) (λ x none. keeps.none x number none) (take i keys) all)
    (subst (λ (x : PartitionKey). share_at new x number ≡ None) is gone)

-- one leaves a partition
module _ (old new : WaitingState) (place : PartitionKey) (number : ℕ) (was is : StandState) (at : stand_at old place ≡ Some was) (end : is.end ≡ was.end) (grown : is.grown ≡ was.grown)
    (shares : (k : ℕ) → k ≢ number → share_in is k ≡ share_in was k) (out : share_in is number ≡ None) (others : (key : PartitionKey) → is_same_key place key ≡ false → stand_at new key ≡ stand_at old key) where
  abbrev Kept : PartitionKey → ℕ → Share → StandState → Type 0
  Kept key k share stand = (after : StandState) × (stand_at new key ≡ Some after) × (after.grown ≡ stand.grown) × (share_in after k ≡ Some share)

  its : (key : PartitionKey) (stand : StandState) → is_same_key place key ≡ true → stand_at old key ≡ Some stand → was ≡ stand
  its key stand same there = same_Some was stand (sym at ∙ ap (stand_at old) (same_key place key same) ∙ there)

  -- who wasn't there isn't
  none_in : (k : ℕ) → share_in was k ≡ None → share_in is k ≡ None
  none_in k none = by (nat_eq k number) refl where
    by : (b : Bool) → nat_eq k number ≡ b → share_in is k ≡ None
    by true same = let this : k ≡ number = grind (arith, same, nat_tests) in ap (share_in is) this ∙ out
    by false other = shares k (grind (arith, other, nat_tests)) ∙ none

  none_where : (x : Option StandState) → stand_at new place ≡ x → ((k : ℕ) → share_in was k ≡ None → share_of k x ≡ None) → (key : PartitionKey) (k : ℕ) → share_at old key k ≡ None → share_at new key k ≡ None
  none_where x here out key k none = by (is_same_key place key) refl where
    by : (b : Bool) → is_same_key place key ≡ b → share_at new key k ≡ None
    by true same =
        let this = same_key place key same in
        ap (λ (y : PartitionKey). share_at new y k) (sym this) ∙ ap (λ (o : Option StandState). share_of k o) here ∙ out k (sym (ap (λ (o : Option StandState). share_of k o) at) ∙ ap (λ (y : PartitionKey). share_at old y k) this ∙ none)
    by false other = ap (λ (o : Option StandState). share_of k o) (others key other) ∙ none

  pub written : stand_at new place ≡ Some is → KeepsStands (λ k. k ≢ number) old new
  written there = record {
    shares = λ key stand share k away found has. with_share key stand share k away found has (is_same_key place key) refl;
    ends = λ key after found. with_end key after found (is_same_key place key) refl;
    none = none_where (Some is) there none_in;
  } where
    with_share : (key : PartitionKey) (stand : StandState) (share : Share) (k : ℕ) → k ≢ number → stand_at old key ≡ Some stand → share_in stand k ≡ Some share → (b : Bool) → is_same_key place key ≡ b → Kept key k share stand
    with_share key stand share k away found has true same =
        let this = its key stand same found in
        (is, ap (stand_at new) (sym (same_key place key same)) ∙ there, grown ∙ ap (λ (x : StandState). x.grown) this, shares k away ∙ ap (λ (x : StandState). share_in x k) this ∙ has)
    with_share key stand share k away found has false other = (stand, others key other ∙ found, refl, has)

    with_end : (key : PartitionKey) (after : StandState) → stand_at new key ≡ Some after → (b : Bool) → is_same_key place key ≡ b → (stand : StandState) × (stand_at old key ≡ Some stand) × (after.end ≡ stand.end)
    with_end key after found true same =
        let this : is ≡ after = same_Some is after (sym there ∙ ap (stand_at new) (same_key place key same) ∙ found) in
        (was, ap (stand_at old) (sym (same_key place key same)) ∙ at, ap (λ (x : StandState). x.end) (sym this) ∙ end)
    with_end key after found false other = (after, sym (others key other) ∙ found, refl)

  pub emptied : is.shares ≡ [] → stand_at new place ≡ None → KeepsStands (λ k. k ≢ number) old new
  emptied none gone = record {
    shares = λ key stand share k away found has. with_share key stand share k away found has (is_same_key place key) refl;
    ends = λ key after found. with_end key after found (is_same_key place key) refl;
    none = none_where None gone (λ k none. refl);
  } where
    with_share : (key : PartitionKey) (stand : StandState) (share : Share) (k : ℕ) → k ≢ number → stand_at old key ≡ Some stand → share_in stand k ≡ Some share → (b : Bool) → is_same_key place key ≡ b → Kept key k share stand
    with_share key stand share k away found has true same =
        let this = its key stand same found in
        absurd (none-some share (ap (λ (l : List (ℕ × Share)). lookup (nat_eq k) l) (sym none) ∙ shares k away ∙ ap (λ (x : StandState). share_in x k) this ∙ has))
    with_share key stand share k away found has false other = (stand, others key other ∙ found, refl, has)

    with_end : (key : PartitionKey) (after : StandState) → stand_at new key ≡ Some after → (b : Bool) → is_same_key place key ≡ b → (stand : StandState) × (stand_at old key ≡ Some stand) × (after.end ≡ stand.end)
    with_end key after found true same = absurd (none-some after (sym gone ∙ ap (stand_at new) (same_key place key same) ∙ found))
    with_end key after found false other = (after, sym (others key other) ∙ found, refl)

-- ---- all wait on

module _ (s : State) (now : Contents) (old new : WaitingState) (asked : ℕ → FetchValue) (stays : ℕ → Type 0) (keeps : KeepsStands stays old new) where
  stands_on : (k forced : ℕ) (q : FetchValue) (room : List ℕ → ℤ → Option ℕ) (name : List ℕ) (p : ℤ) → stays k → Stands s old k forced q room name p → Stands s new k forced q room name p
  stands_on k forced q room name p staying stands =
      let at = keeps.shares (key_of stands.place) stands.stand stands.share k staying stands.stand_is stands.share_is in
      record {
        place = stands.place;
        stand = at.0;
        share = stands.share;
        is_place = stands.is_place;
        stand_is = at.1;
        share_is = at.3;
        entries = stands.entries;
        fits = λ more less upto. stands.fits more less (subst (λ (n : ℕ). n + more ≤ stands.share.upto) at.2 upto);
      }

  pub all_wait_on : ((k : ℕ) (wait : WaitState) → asleep_at new.waits k ≡ Some wait → stays k × (asleep_at old.waits k ≡ Some wait))
      → ((k : ℕ) (wait : WaitState) → wait_at new.waits k ≡ Some wait → (was : WaitState) × (wait_at old.waits k ≡ Some was) × (wait.due ≡ was.due))
      → ((k : ℕ) (wait : WaitState) → asleep_at new.waits k ≡ Some wait → has_time wait.due old.times ≡ true → has_time wait.due new.times ≡ true)
      → (StandersWait old → StandersWait new) → AllWaitOn s now old asked → AllWaitOn s now new asked
  all_wait_on slept own times standers all = record {
    ends = λ name p place after of at. let was = keeps.ends (key_of place) after at in was.2 ∙ all.ends name p place was.0 of was.1;
    each = λ k wait is.
        let before = slept k wait is in
        let waits = all.each k wait before.1 in
        record { room = waits.room; some = waits.some; sleeps = waits.sleeps; stands = λ name p there. stands_on k wait.forced (asked k) waits.room name p before.0 (waits.stands name p there) };
    own = λ k wait is. let was = own k wait is in ap (λ (d : ℕ × ℕ). d.1) was.2 ∙ all.own k was.0 was.1;
    times = λ k wait is. times k wait is (all.times k wait (slept k wait is).1);
    standers = standers all.standers;
  }

  pub still_stand : ((key : PartitionKey) (k : ℕ) → waits_for new.waits k key ≡ waits_for old.waits k key) → StandersWait old → StandersWait new
  still_stand same stand = record { none = λ key k away. keeps.none key k (stand.none key k (sym (same key k) ∙ away)) }

-- who doesn't wait doesn't sleep, and who sleeps waits
pub asleep_gone : (w : WaitingState) (k : ℕ) → wait_at w.waits k ≡ None → asleep_at w.waits k ≡ None
asleep_gone w k none = by (is_behind w.waits k) (wait_at w.waits k) none where
  by : (b : Bool) (x : Option WaitState) → x ≡ None → asleep_if b x ≡ None
  by true None is = refl
  by false None is = refl
  by b (Some x) is = absurd (none-some x (sym is))

pub waiting : (w : WaitingState) (k : ℕ) (wait : WaitState) → asleep_at w.waits k ≡ Some wait → wait_at w.waits k ≡ Some wait
waiting w k wait is = by (is_behind w.waits k) (wait_at w.waits k) is where
  if_unnamed : (named : Bool) (x : WaitState) → (if named then None else Some x) ≡ Some wait → Some x ≡ Some wait
  if_unnamed true x is = absurd (none-some wait is)
  if_unnamed false x is = is

  by : (b : Bool) (x : Option WaitState) → asleep_if b x ≡ Some wait → x ≡ Some wait
  by true None is = is
  by true (Some x) is = if_unnamed x.is_named x is
  by false x is = absurd (none-some wait is)

-- nothing is to be shown of one that doesn't wait
pub none_waits : (P : WaitState → Type 0) (o : Option WaitState) → o ≡ None → IfSome o P
none_waits P None is = tt
none_waits P (Some wait) is = absurd (none-some wait (sym is))

-- one leaves
module _ (s : State) (now : Contents) (old new : WaitingState) (asked : ℕ → FetchValue) (number : ℕ) (keeps : KeepsStands (λ k. k ≢ number) old new)
    (gone : wait_at new.waits number ≡ None) (waits : (k : ℕ) → k ≢ number → wait_at new.waits k ≡ wait_at old.waits k) (asleep : (k : ℕ) → k ≢ number → asleep_at new.waits k ≡ asleep_at old.waits k)
  where
    away : (k : ℕ) (wait : WaitState) → wait_at new.waits k ≡ Some wait → k ≢ number
    away k wait there same = none-some wait (sym gone ∙ ap (wait_at new.waits) (sym same) ∙ there)

    asleep_away : (k : ℕ) (wait : WaitState) → asleep_at new.waits k ≡ Some wait → k ≢ number
    asleep_away k wait there same = none-some wait (sym (asleep_gone new number gone) ∙ ap (asleep_at new.waits) (sym same) ∙ there)

    pub left : IfSome (wait_at old.waits number) (λ wait. StandsAtNone number wait.places new) → (AllWaitOn s now old asked → (due : ℕ × ℕ) → due.1 ≢ number → has_time due old.times ≡ true → has_time due new.times ≡ true) → AllWaitOn s now old asked → AllWaitOn s now new asked
    left nowhere times all =
        all_wait_on s now old new asked (λ k. k ≢ number) keeps
        (λ k wait is. let apart = asleep_away k wait is in (apart, sym (asleep k apart) ∙ is))
        (λ k wait is. (wait, sym (waits k (away k wait is)) ∙ is, refl))
        (λ k wait is.
        let apart = asleep_away k wait is in
        let mine = all.own k wait (waiting old k wait (sym (asleep k apart) ∙ is)) in
        times all wait.due (λ same. apart (sym mine ∙ same)))
        (standers_left number old new keeps.none waits (none_of number new (wait_at old.waits number) nowhere))
        all

-- one that is told of, or whose time is over, is woken
pub woken : (s : State) (now : Contents) (old new : WaitingState) (asked : ℕ → FetchValue) → new.stands ≡ old.stands
    → ((k : ℕ) (wait : WaitState) → asleep_at new.waits k ≡ Some wait → (asleep_at old.waits k ≡ Some wait) × ((due : ℕ × ℕ) → due.1 ≡ k → has_time due old.times ≡ true → has_time due new.times ≡ true))
    → ((k : ℕ) (wait : WaitState) → wait_at new.waits k ≡ Some wait → (was : WaitState) × (wait_at old.waits k ≡ Some was) × (wait.due ≡ was.due))
    → ((key : PartitionKey) (k : ℕ) → waits_for new.waits k key ≡ waits_for old.waits k key) → AllWaitOn s now old asked → AllWaitOn s now new asked
woken s now old new asked stands slept own places all =
    let keeps = keeps_all (λ k. ⊤) old new (λ key. ap (lookup (is_same_key key)) stands) in
    all_wait_on s now old new asked (λ k. ⊤) keeps
    (λ k wait is. (tt, (slept k wait is).0))
    own
    (λ k wait is. (slept k wait is).1 wait.due (all.own k wait (waiting old k wait (slept k wait is).0)))
    (still_stand s now old new asked (λ k. ⊤) keeps places)
    all

-- nothing changes that they know
pub same_waits : (s : State) (now : Contents) (old new : WaitingState) (asked : ℕ → FetchValue) → new.waits ≡ old.waits → new.times ≡ old.times → ((key : PartitionKey) → stand_at new key ≡ stand_at old key)
    → AllWaitOn s now old asked → AllWaitOn s now new asked
same_waits s now old new asked waits times stands all =
    all_wait_on s now old new asked (λ k. ⊤) (keeps_all (λ k. ⊤) old new stands)
    (λ k wait is. (tt, ap (λ (w : WaitsState). asleep_at w k) (sym waits) ∙ is))
    (λ k wait is. (wait, ap (λ (w : WaitsState). wait_at w k) (sym waits) ∙ is, refl))
    (λ k wait is had. ap (has_time wait.due) times ∙ had)
    (still_stand s now old new asked (λ k. ⊤) (keeps_all (λ k. ⊤) old new stands) (λ key k. ap (λ (w : WaitsState). waits_for w k key) waits))
    all

-- ---- times

-- another's time stays where one is removed
pub kept_time : (number : ℕ) (test : ℕ × ℕ → Bool) → ((t : ℕ × ℕ) → test t ≡ true → t.1 ≡ number) → (due : ℕ × ℕ) → due.1 ≢ number → (times : List (ℕ × ℕ)) → has_time due times ≡ true → has_time due (remove_key test times) ≡ true
kept_time number test its due other [] had = had
kept_time number test its due other (t ∷ ts) had = by (test t) refl (kept_time number test its due other ts) where
  by : (b : Bool) → test t ≡ b → (has_time due ts ≡ true → has_time due (remove_key test ts) ≡ true) → has_time due (cond b ts (t ∷ remove_key test ts)) ≡ true
  by true is rest =
      let mine : t.1 ≡ number = its t is in
      let apart : (nat_eq due.0 t.0 && nat_eq due.1 t.1) ≡ false = grind (arith, mine, other, nat_tests) in
      ap (λ (b : Bool). b || has_time due ts) (sym apart) ∙ had
  by false is rest = grind (arith, had, rest)

same_time : (removed t : ℕ × ℕ) → is_eq (ordering_then (nat_cmp removed.0 t.0) (nat_cmp removed.1 t.1)) ≡ true → t.1 ≡ removed.1
same_time removed t is = grind (arith, is, nat_tests)

pub kept_due : (number : ℕ) (removed due : ℕ × ℕ) (times new : List (ℕ × ℕ)) → removed.1 ≡ number → new ≡ remove_key (λ (t : ℕ × ℕ). is_eq (ordering_then (nat_cmp removed.0 t.0) (nat_cmp removed.1 t.1))) times → due.1 ≢ number
    → has_time due times ≡ true → has_time due new ≡ true
kept_due number removed due times new mine is other had = ap (has_time due) is ∙ kept_time number (λ (t : ℕ × ℕ). is_eq (ordering_then (nat_cmp removed.0 t.0) (nat_cmp removed.1 t.1))) (λ t same. same_time removed t same ∙ mine) due other times had

-- one that is removed is none of these any more
same_tests : (due : ℕ × ℕ) (times : List (ℕ × ℕ)) → has_time due times ≡ list_any (λ (t : ℕ × ℕ). is_eq (ordering_then (nat_cmp due.0 t.0) (nat_cmp due.1 t.1))) times
same_tests due [] = refl
same_tests due (t ∷ ts) =
    let first : (nat_eq due.0 t.0 && nat_eq due.1 t.1) ≡ is_eq (ordering_then (nat_cmp due.0 t.0) (nat_cmp due.1 t.1)) = grind (arith, nat_tests) in
    λ i. first i || same_tests due ts i

pub time_gone : (due : ℕ × ℕ) (left times : List (ℕ × ℕ)) → times ≡ left → list_any (λ (t : ℕ × ℕ). is_eq (ordering_then (nat_cmp due.0 t.0) (nat_cmp due.1 t.1))) left ≡ false → has_time due times ≡ false
time_gone due left times is none = ap (has_time due) is ∙ same_tests due left ∙ none

-- ---- one is woken, and one is named

-- whose time is over is woken
pub timed : (s : State) (now : Contents) (first old new : WaitingState) (asked : ℕ → FetchValue) (number : ℕ) → old.waits ≡ first.waits → old.stands ≡ first.stands → ((due : ℕ × ℕ) → due.1 ≢ number → has_time due first.times ≡ true → has_time due old.times ≡ true)
    → new.stands ≡ old.stands → new.times ≡ old.times → asleep_at new.waits number ≡ None → ((k : ℕ) → wait_at new.waits k ≡ wait_at old.waits k) → ((k : ℕ) → k ≢ number → asleep_at new.waits k ≡ asleep_at old.waits k)
    → AllWaitOn s now first asked → AllWaitOn s now new asked
timed s now first old new asked number waits stands times stands' times' wakes waits' others =
    woken s now first new asked (stands' ∙ stands)
    (λ k wait is.
    let apart : k ≢ number = λ same. none-some wait (sym wakes ∙ ap (asleep_at new.waits) (sym same) ∙ is) in
    (ap (λ (w : WaitsState). asleep_at w k) (sym waits) ∙ sym (others k apart) ∙ is, λ due mine had. ap (has_time due) times' ∙ times due (λ same. apart (sym mine ∙ same)) had))
    (λ k wait is. (wait, ap (λ (w : WaitsState). wait_at w k) (sym waits) ∙ sym (waits' k) ∙ is, refl))
    (λ key k. ap (has_place key) (waits' k) ∙ ap (λ (w : WaitsState). waits_for w k key) waits)

-- one that is woken is named
module _ (s : State) (now : Contents) (old new : WaitingState) (asked : ℕ → FetchValue) (stands : new.stands ≡ old.stands) (times : new.times ≡ old.times) (asleep : (k : ℕ) → asleep_at new.waits k ≡ asleep_at old.waits k) where
  same_due : (x : Option WaitState) (k : ℕ) (wait : WaitState) → option_map named x ≡ Some wait → wait_at old.waits k ≡ x → (was : WaitState) × (wait_at old.waits k ≡ Some was) × (wait.due ≡ was.due)
  same_due None k wait is at = absurd (none-some wait is)
  same_due (Some was) k wait is at = (was, at, ap (λ (w : WaitState). w.due) (sym (same_Some (named was) wait is)))

  pub one_named : (result : Option ℕ) → IfNone result ((old.waits.woken ≡ 0) × (new.waits ≡ old.waits)) → IfSome result (λ number. wait_at new.waits number ≡ option_map named (wait_at old.waits number))
      → IfSome result (λ number. (k : ℕ) → k ≢ number → wait_at new.waits k ≡ wait_at old.waits k) → AllWaitOn s now old asked → AllWaitOn s now new asked
  one_named result none names others =
      woken s now old new asked stands
      (λ k wait is. (sym (asleep k) ∙ is, λ due mine had. ap (has_time due) times ∙ had))
      (own result none names others)
      (λ key k. places result none names others key k)
    where
      same_places : (key : PartitionKey) (o : Option WaitState) → has_place key (option_map named o) ≡ has_place key o
      same_places key None = refl
      same_places key (Some wait) = refl

      places : (result : Option ℕ) → IfNone result ((old.waits.woken ≡ 0) × (new.waits ≡ old.waits)) → IfSome result (λ number. wait_at new.waits number ≡ option_map named (wait_at old.waits number)) → IfSome result (λ number. (k : ℕ) → k ≢ number → wait_at new.waits k ≡ wait_at old.waits k)
          → (key : PartitionKey) (k : ℕ) → waits_for new.waits k key ≡ waits_for old.waits k key
      places None none names others key k = ap (λ (w : WaitsState). waits_for w k key) none.1
      places (Some number) none names others key k = by (nat_eq k number) refl where
        by : (b : Bool) → nat_eq k number ≡ b → waits_for new.waits k key ≡ waits_for old.waits k key
        by true same =
            let this : k ≡ number = grind (arith, same, nat_tests) in
            subst (λ (n : ℕ). waits_for new.waits n key ≡ waits_for old.waits n key) (sym this) (ap (has_place key) names ∙ same_places key (wait_at old.waits number))
        by false other = ap (has_place key) (others k (grind (arith, other, nat_tests)))

      own : (result : Option ℕ) → IfNone result ((old.waits.woken ≡ 0) × (new.waits ≡ old.waits)) → IfSome result (λ number. wait_at new.waits number ≡ option_map named (wait_at old.waits number)) → IfSome result (λ number. (k : ℕ) → k ≢ number → wait_at new.waits k ≡ wait_at old.waits k)
          → (k : ℕ) (wait : WaitState) → wait_at new.waits k ≡ Some wait → (was : WaitState) × (wait_at old.waits k ≡ Some was) × (wait.due ≡ was.due)
      own None none names others k wait is = (wait, ap (λ (w : WaitsState). wait_at w k) (sym none.1) ∙ is, refl)
      own (Some number) none names others k wait is = by (nat_eq k number) refl where
        by : (b : Bool) → nat_eq k number ≡ b → (was : WaitState) × (wait_at old.waits k ≡ Some was) × (wait.due ≡ was.due)
        by true same =
            let this : k ≡ number = grind (arith, same, nat_tests) in
            same_due (wait_at old.waits k) k wait (subst (λ (n : ℕ). option_map named (wait_at old.waits n) ≡ Some wait) (sym this) (sym names ∙ subst (λ (n : ℕ). wait_at new.waits n ≡ Some wait) this is)) refl
        by false other = (wait, sym (others k (grind (arith, other, nat_tests))) ∙ is, refl)

-- who is named wasn't named before
pub was_named : (mid old : WaitsState) → ((k : ℕ) → wait_at mid k ≡ wait_at old k) → (result : Option ℕ) → IfSome result (λ number. IsSome (unnamed_at mid number)) → IfSome result (λ number. IsSome (unnamed_at old number))
was_named mid old same None is = tt
was_named mid old same (Some number) is = subst (λ (o : Option WaitState). IsSome (option_and_then unnamed o)) (same number) is

-- who sleeps slept
pub slept_on : (k number : ℕ) (was : WaitsState) (old new : WaitsState) → asleep_at new number ≡ None → ((j : ℕ) → j ≢ number → asleep_at new j ≡ asleep_at old j) → IfSome (asleep_at old k) (λ wait. asleep_at was k ≡ Some wait)
    → IfSome (asleep_at new k) (λ wait. asleep_at was k ≡ Some wait)
slept_on k number was old new wakes others before = by (nat_eq k number) refl where
  by : (b : Bool) → nat_eq k number ≡ b → IfSome (asleep_at new k) (λ wait. asleep_at was k ≡ Some wait)
  by true same =
      let this : k ≡ number = grind (arith, same, nat_tests) in
      subst (λ (o : Option WaitState). IfSome o (λ wait. asleep_at was k ≡ Some wait)) (sym (ap (asleep_at new) this ∙ wakes)) tt
  by false other = subst (λ (o : Option WaitState). IfSome o (λ wait. asleep_at was k ≡ Some wait)) (sym (others k (grind (arith, other, nat_tests)))) before
