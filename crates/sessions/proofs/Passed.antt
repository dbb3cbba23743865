-- All wait on who sleep, once all marked partitions were looked at.
use Rattle.std.proofs.Common.{◌≡◌, ℕ, ℤ, zero, suc, ◌+◌, ◌≤◌, arith, Bool, true, false, List, [], ◌∷◌, ◌++◌, length, take, is_some, slice_get, Option, Some, None, MatchOption, ◌≢◌, sym, ap, subst, refl, ◌∙◌}
use Rattle.std.specs.Prelude.{◌||◌, if◌then◌else◌, position}
use Rattle.std.specs.List.{list_any}
use Rattle.std.specs.Map.{keys_of, lookup}
use Rattle.std.specs.Option.{option_map}
use Rattle.std.proofs.lemmas.Bool.{false≢true}
use Rattle.std.proofs.lemmas.List.{take_all, take_more}
use Rattle.std.proofs.lemmas.List.Folds.{list_any-append}
use Rattle.std.proofs.lemmas.Option.{slice_get_within, get_or_from_slice_get, none-some, same_Some}
use Rattle.indexmap.proofs.MapLemmas.{some_index}
use Rattle.content.specs.Content.{end}
use Rattle.request_frames.specs.Fetch.{FetchValue}
use Rattle.broker_state.specs.declared.place.Place.{Place}
use Rattle.broker_state.specs.Places.{IsPlaceOf}
use Rattle.broker_state.specs.State.{State, content_at}
use Rattle.broker_node.specs.Effects.{TopicPartition, is_among}
use Rattle.fetch_waits.specs.Sleeping.{GrowsBy}
use Rattle.fetch_waits.proofs.Sleeping.{grows_nothing}
use Rattle.sessions.specs.declared.waits.PartitionKey.{PartitionKey}
use Rattle.sessions.specs.declared.waits.Share.{Share}
use Rattle.sessions.specs.declared.waiting.Noted.{Noted}
use Rattle.sessions.specs.declared.waiting.Noted.TheVariants.{Grows}
use Rattle.sessions.specs.Waiting.{StandState, WaitState, WaitsState, WaitingState, asleep_at, is_same_key, kept, key_of, place_of, share_in, stand_at, wait_at}
use Rattle.sessions.specs.Asleep.{AllWaitOn, AreMarked, Leaves, OthersWait, Stands}
use Rattle.sessions.specs.Growing.{KeepsDues, Looks, LooksAt, Sees, is_at, seen}
use Rattle.sessions.proofs.Growth.{at_place, sleeps_same, sleeps_there}
use Rattle.sessions.proofs.Looking.{looked}
use Rattle.sessions.proofs.Standing.{same_waits}

-- ---- one more of a list

past : {X : Type 0} (xs : List X) (i : ℕ) → slice_get xs i ≡ None → length xs ≤ i
past [] i none = omega arith
past (x ∷ xs) zero none = absurd (none-some x (sym none))
past (x ∷ xs) (suc i) none = omega (arith, past xs i none)

module _ {X : Type 0} (xs : List X) (i : ℕ) where
  none_next : slice_get xs i ≡ None → take (i + 1) xs ≡ take i xs
  none_next none = let short = past xs i none in take_all (i + 1) xs (omega (arith, short)) ∙ sym (take_all i xs short)

  one_next : (x : X) → slice_get xs i ≡ Some x → take (i + 1) xs ≡ take i xs ++ x ∷ []
  one_next x is = take_more xs i x (slice_get_within xs i x is) ∙ ap (λ (y : X). take i xs ++ y ∷ []) (get_or_from_slice_get xs i x x is)

-- ---- what is held then

module _ (s after : State) (noted : Noted) (ps : List TopicPartition) (leaves : Leaves s noted ps after) (keys : List PartitionKey) where
  grown : noted ≡ Grows → (name : List ℕ) (p : ℤ) (b : Bool) → (more : ℕ) × GrowsBy (if b then content_at after name p else content_at s name p) (content_at after name p) more
  grown appends name p true = (0, grows_nothing (content_at after name p) (content_at after name p) refl)
  grown appends name p false = leaves.grows appends name p

  was_false : (a b : Bool) → b ≡ false → (a || (b || false)) ≡ a
  was_false true b isnt = refl
  was_false false b isnt = ap (λ (t : Bool). t || false) isnt

  is_true : (a b : Bool) → b ≡ true → (a || (b || false)) ≡ true
  is_true true b is = refl
  is_true false b is = ap (λ (t : Bool). t || false) is

  module _ (i : ℕ) (key : PartitionKey) (at : slice_get keys i ≡ Some key) where
    any_next : (name : List ℕ) (p : ℤ) → list_any (λ (x : PartitionKey). is_at s x name p) (take (i + 1) keys) ≡ (list_any (λ (x : PartitionKey). is_at s x name p) (take i keys) || (is_at s key name p || false))
    any_next name p = ap (list_any (λ (x : PartitionKey). is_at s x name p)) (one_next keys i key at) ∙ list_any-append (λ (x : PartitionKey). is_at s x name p) (take i keys) (key ∷ [])

    sees : Sees s noted after key (seen s after (take i keys)) (seen s after (take (i + 1) keys))
    sees = record {
      here = λ name p is. ap (λ (b : Bool). if b then content_at after name p else content_at s name p) (any_next name p ∙ is_true (list_any (λ (x : PartitionKey). is_at s x name p) (take i keys)) (is_at s key name p) is);
      others = λ name p isnt. ap (λ (b : Bool). if b then content_at after name p else content_at s name p) (any_next name p ∙ was_false (list_any (λ (x : PartitionKey). is_at s x name p) (take i keys)) (is_at s key name p) isnt);
      grows = λ appends name p. grown appends name p (list_any (λ (x : PartitionKey). is_at s x name p) (take i keys));
      places = leaves.places_too;
    }

  -- ---- once all were looked at

  same_tests : (name : List ℕ) (p : ℤ) (place : Place) → IsPlaceOf s name p place → (xs : List PartitionKey) → list_any (λ (x : PartitionKey). is_at s x name p) xs ≡ list_any (is_same_key (key_of place)) xs
  same_tests name p place of [] = refl
  same_tests name p place of (x ∷ xs) = λ i. at_place s name p place x of i || same_tests name p place of xs i

  module _ (old new : WaitingState) (these : keys_of old.stands ≡ keys) (same : keys_of new.stands ≡ keys) (marked : AreMarked s old ps) where
    stood : (key : PartitionKey) (stand : StandState) → stand_at new key ≡ Some stand → (was : Option StandState) → stand_at old key ≡ was → (before : StandState) × (stand_at old key ≡ Some before)
    stood key stand at (Some before) is = (before, is)
    stood key stand at None none =
        let old_is = some_index (is_same_key key) old.stands in
        let new_is = some_index (is_same_key key) new.stands in
        let keys_are : keys_of old.stands ≡ keys_of new.stands = these ∙ sym same in
        absurd (false≢true (sym (ap is_some none) ∙ sym old_is ∙ ap (λ (ks : List PartitionKey). is_some (position (is_same_key key) ks)) keys_are ∙ new_is ∙ ap is_some at))

    seen_all : (name : List ℕ) (p : ℤ) (place : Place) (stand : StandState) → IsPlaceOf s name p place → stand_at new (key_of place) ≡ Some stand → content_at after name p ≡ seen s after (take old.marked keys) name p
    seen_all name p place stand of at = by (is_among ps name p) refl where
      unchanged : (b : Bool) → content_at after name p ≡ content_at s name p → content_at after name p ≡ (if b then content_at after name p else content_at s name p)
      unchanged true is = refl
      unchanged false is = is

      by : (b : Bool) → is_among ps name p ≡ b → content_at after name p ≡ seen s after (take old.marked keys) name p
      by true among =
          let before = stood (key_of place) stand at (stand_at old (key_of place)) refl in
          let is = ap (λ (ks : List PartitionKey). list_any (is_same_key (key_of place)) (take old.marked ks)) (sym these) ∙ marked name p place before.0 among of before.1 in
          sym (ap (λ (b : Bool). if b then content_at after name p else content_at s name p) (same_tests name p place of (take old.marked keys) ∙ is))
      by false other = unchanged (list_any (λ (x : PartitionKey). is_at s x name p) (take old.marked keys)) (leaves.others name p other)

    stands_there : (k forced : ℕ) (q : FetchValue) (room : List ℕ → ℤ → Option ℕ) (name : List ℕ) (p : ℤ) → Stands s new k forced q room name p → Stands after new k forced q room name p
    stands_there k forced q room name p stands = record {
      place = stands.place;
      stand = stands.stand;
      share = stands.share;
      is_place = leaves.places_too name p stands.place stands.is_place;
      stand_is = stands.stand_is;
      share_is = stands.share_is;
      entries = stands.entries;
      fits = stands.fits;
    }

    pub all_seen : (asked : ℕ → FetchValue) → AllWaitOn s (seen s after (take old.marked keys)) new asked → AllWaitOn after (content_at after) new asked
    all_seen asked all = record {
      ends = λ name p place stand of at.
          let before = leaves.places name p place of in
          all.ends name p place stand before at ∙ ap end (sym (seen_all name p place stand before at));
      each = λ k wait is.
          let waits = all.each k wait is in
          let there = sleeps_same s (seen s after (take old.marked keys)) (content_at after) (asked k) wait.missing waits.room
          (λ name p asks. let stands = waits.stands name p asks in seen_all name p stands.place stands.stand stands.is_place stands.stand_is) waits.sleeps in
          record {
            room = waits.room;
            some = waits.some;
            sleeps = sleeps_there s after (content_at after) (asked k) wait.missing waits.room leaves.config leaves.known there;
            stands = λ name p asks. stands_there k wait.forced (asked k) waits.room name p (waits.stands name p asks);
          };
      own = all.own;
      times = all.times;
      standers = all.standers;
    }

-- ---- who sleeps then

-- Whoever sleeps slept before, until the same time.
abbrev pub HasSlept : (old new : WaitsState) → Type 0
HasSlept old new = (k : ℕ) (wait : WaitState) → asleep_at new k ≡ Some wait → (was : WaitState) × (asleep_at old k ≡ Some was) × (wait.due ≡ was.due)

slept_there : (after : State) (noted : Noted) (place : Place) (old new : StandState) (share : Option Share) (was is : Option WaitState) (wait : WaitState) → Looks after noted place old new share was is → is ≡ Some wait
    → (before : WaitState) × (was ≡ Some before) × (wait.due ≡ before.due)
slept_there after noted place old new None was is wait looks here = (wait, sym looks ∙ here, refl)
slept_there after noted place old new (Some share) was None wait looks here = absurd (none-some wait here)
slept_there after noted place old new (Some share) None (Some next) wait looks here = absurd looks
slept_there after noted place old new (Some share) (Some before) (Some next) wait looks here =
    (before, refl, ap (λ (w : WaitState). w.due) (sym (same_Some next wait here)) ∙ ap (λ (w : WaitState). w.due) looks.less)

slept_look : (after : State) (noted : Noted) (mid new : WaitingState) (o : Option PartitionKey) → MatchOption o (new ≡ mid) (λ key. LooksAt after noted key mid new) → HasSlept mid.waits new.waits
slept_look after noted mid new None same k wait here = (wait, sym (ap (λ (w : WaitingState). asleep_at w.waits k) same) ∙ here, refl)
slept_look after noted mid new (Some key) look k wait here =
    slept_there after noted (place_of key) look.stand look.next (share_in look.stand k) (asleep_at mid.waits k) (asleep_at new.waits k) wait (look.each k) here

-- ---- one after the other

-- so many of the first partitions were looked at
pub record HasLooked (after : State) (noted : Noted) (old new : WaitingState) (i : ℕ) : Type 0 where
  pub keys : keys_of new.stands ≡ keys_of old.stands
  pub dues : KeepsDues old.waits new.waits
  pub slept : HasSlept old.waits new.waits
  pub on : (s : State) (ps : List TopicPartition) (asked : ℕ → FetchValue) → AllWaitOn s (content_at s) old asked → Leaves s noted ps after → AllWaitOn s (seen s after (take i (keys_of old.stands))) new asked

module _ (after : State) (noted : Noted) (old : WaitingState) where
  pub looked_none : HasLooked after noted old old 0
  looked_none = record { keys = refl; dues = λ k. refl; slept = λ k wait is. (wait, is, refl); on = λ s ps asked all leaves. all }

  pub looked_one : (mid new : WaitingState) (i : ℕ) → keys_of new.stands ≡ keys_of mid.stands → KeepsDues mid.waits new.waits → MatchOption (slice_get (keys_of mid.stands) i) (new ≡ mid) (λ key. LooksAt after noted key mid new)
      → HasLooked after noted old mid i → HasLooked after noted old new (i + 1)
  looked_one mid new i keys dues looks so_far = record {
    keys = keys ∙ so_far.keys;
    dues = λ k. dues k ∙ so_far.dues k;
    slept = λ k wait here.
        let later = slept_look after noted mid new (slice_get (keys_of mid.stands) i) looks k wait here in
        let before = so_far.slept k later.0 later.1 in
        (before.0, before.1, later.2 ∙ before.2);
    on = λ s ps asked all leaves. by s ps asked leaves (so_far.on s ps asked all leaves) (slice_get (keys_of mid.stands) i) refl looks;
  } where
    by : (s : State) (ps : List TopicPartition) (asked : ℕ → FetchValue) → Leaves s noted ps after → AllWaitOn s (seen s after (take i (keys_of old.stands))) mid asked → (o : Option PartitionKey) → slice_get (keys_of mid.stands) i ≡ o
        → MatchOption o (new ≡ mid) (λ key. LooksAt after noted key mid new) → AllWaitOn s (seen s after (take (i + 1) (keys_of old.stands))) new asked
    by s ps asked leaves all None none same =
        let there = ap (λ (ks : List PartitionKey). slice_get ks i) (sym so_far.keys) ∙ none in
        subst (λ (ks : List PartitionKey). AllWaitOn s (seen s after ks) new asked) (sym (none_next (keys_of old.stands) i there)) (subst (λ (w : WaitingState). AllWaitOn s (seen s after (take i (keys_of old.stands))) w asked) (sym same) all)
    by s ps asked leaves all (Some key) is look =
        let there = ap (λ (ks : List PartitionKey). slice_get ks i) (sym so_far.keys) ∙ is in
        looked s after noted key (seen s after (take i (keys_of old.stands))) (seen s after (take (i + 1) (keys_of old.stands))) mid new (sees s after noted ps leaves (keys_of old.stands) i key there) look asked all

  -- in the state as it was asked for
  pub looked_here : (state : State) (mid new : WaitingState) (i : ℕ) → state ≡ after → keys_of new.stands ≡ keys_of mid.stands → KeepsDues mid.waits new.waits
      → MatchOption (slice_get (keys_of mid.stands) i) (new ≡ mid) (λ key. LooksAt state noted key mid new) → HasLooked after noted old mid i → HasLooked after noted old new (i + 1)
  looked_here state mid new i same keys dues looks so_far =
      looked_one mid new i keys dues (subst (λ (t : State). MatchOption (slice_get (keys_of mid.stands) i) (new ≡ mid) (λ key. LooksAt t noted key mid new)) same looks) so_far

  pub looked_all : (mid new : WaitingState) → HasLooked after noted old mid old.marked → new.waits ≡ mid.waits → new.times ≡ mid.times → new.stands ≡ mid.stands
      → (s : State) (ps : List TopicPartition) (asked : ℕ → FetchValue) → AllWaitOn s (content_at s) old asked → AreMarked s old ps → Leaves s noted ps after → AllWaitOn after (content_at after) new asked
  looked_all mid new so_far waits times stands s ps asked all marked leaves =
      same_waits after (content_at after) mid new asked waits times (λ key. ap (lookup (is_same_key key)) stands)
      (all_seen s after noted ps leaves (keys_of old.stands) old mid refl so_far.keys marked asked (so_far.on s ps asked all leaves))

-- ---- who waits, and was named

named_kept : (x y : Option WaitState) → option_map kept x ≡ option_map kept y → option_map (λ (w : WaitState). w.is_named) x ≡ option_map (λ (w : WaitState). w.is_named) y
named_kept None None same = refl
named_kept None (Some y) same = absurd (none-some (kept y) same)
named_kept (Some x) None same = absurd (none-some (kept x) (sym same))
named_kept (Some x) (Some y) same = ap (λ (d : (ℕ × ℕ) × Bool × List PartitionKey). Some d.1) (same_Some (kept x) (kept y) same)

-- behind all, and once one has left, which is any
pub others_wait : (number : ℕ) (old mid new : WaitsState) → KeepsDues old mid → HasSlept old mid → ((k : ℕ) → k ≢ number → wait_at new k ≡ wait_at mid k) → ((k : ℕ) → k ≢ number → asleep_at new k ≡ asleep_at mid k) → OthersWait number old new
others_wait number old mid new dues slept others asleep = record {
  named = λ k other. ap (option_map (λ (w : WaitState). w.is_named)) (others k other) ∙ named_kept (wait_at mid k) (wait_at old k) (dues k);
  slept = λ k wait other here. slept k wait (sym (asleep k other) ∙ here);
}
