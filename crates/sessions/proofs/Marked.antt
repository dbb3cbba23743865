-- Partitions are marked: they change places with the first that isn't.
use Rattle.std.proofs.Common.{◌≡◌, ℕ, ℤ, ◌+◌, ◌<◌, ◌≤◌, ◌⊎◌, inl, inr, arith, Bool, true, false, List, [], ◌∷◌, ◌++◌, length, get_or, take, set, swap, Option, Some, None, sym, ap, subst, refl, ◌∙◌}
use Rattle.std.specs.Prelude.{◌&&◌, ◌||◌, is_some, map, position, bytes_eq}
use Rattle.std.specs.List.{list_any}
use Rattle.std.specs.Map.{keys_of, lookup}
use Rattle.std.specs.Ordering.{int_eq}
use Rattle.std.proofs.lemmas.Bool.{false≢true}
use Rattle.std.proofs.lemmas.Bool.Decides.{nat_tests}
use Rattle.std.proofs.lemmas.Grind.{common_steps}
use Rattle.std.proofs.lemmas.Int.{ints}
use Rattle.std.proofs.lemmas.List.{get_or-take, take_more, length-take}
use Rattle.std.proofs.lemmas.List.Concat.{flat_map-cons}
use Rattle.std.proofs.lemmas.List.Edits.{length-swap}
use Rattle.std.proofs.lemmas.List.Folds.{list_any-append, list_any_at}
use Rattle.std.proofs.lemmas.List.Quantifiers.{position-Some}
use Rattle.std.proofs.lemmas.Map.Entries.{length-keys_of}
use Rattle.std.proofs.lemmas.Option.{none-some}
use Rattle.std.proofs.lemmas.Slice.Eq.{bytes_eq-Decides}
use Rattle.indexmap.proofs.ReorderLemmas.{exchange, get_or-swap, map-swap}
use Rattle.frame_fields.specs.Fields.{Value}
use Rattle.frame_fields.specs.Types.{TopicOf, topic, topic_request}
use Rattle.request_frames.specs.Produce.{ProducePartitionValue, produce_partition, produce_partition_value}
use Rattle.request_frames.specs.Requests.{RequestValue}
use Rattle.broker_state.specs.declared.place.Place.{Place}
use Rattle.broker_state.specs.Places.{IsPlaceOf}
use Rattle.broker_state.specs.State.{State}
use Rattle.broker_node.specs.Effects.{TopicPartition, effect, is_among, only_grows, places, produced_to}
use Rattle.sessions.proofs.Booleans.{or_left, or_right, or_true}
use Rattle.sessions.specs.declared.waits.PartitionKey.{PartitionKey}
use Rattle.sessions.specs.Waiting.{StandState, WaitingState, is_same_key, key_of, stand_at}
use Rattle.sessions.specs.Asleep.{AreMarked, is_marked}
use Rattle.sessions.specs.Growing.{Marks, produced_in}
use Rattle.sessions.specs.declared.waiting.Noted.{Noted}
use Rattle.sessions.specs.declared.waiting.Noted.TheVariants.{Grows, Changes}

-- ---- the first of a list

module _ {X : Type 0} where
  take_set : (xs : List X) (m i : ℕ) (x : X) → m ≤ i → take m (set xs i x) ≡ take m xs
  take_set xs m i x less = grind (arith, common_steps)

  front_stays : (xs : List X) (a m : ℕ) → m ≤ a → take m (swap xs a m) ≡ take m xs
  front_stays [] a m less = refl
  front_stays (d ∷ ys) a m less =
      take_set (set (d ∷ ys) a (get_or (d ∷ ys) m d)) m m (get_or (d ∷ ys) a d) (omega arith) ∙ take_set (d ∷ ys) m a (get_or (d ∷ ys) m d) less

  -- one changes places with the first behind them
  pub one_more : (p : X → Bool) (xs : List X) (a m : ℕ) (d : X) → m ≤ a → a < length xs → list_any p (take (m + 1) (swap xs a m)) ≡ (list_any p (take m xs) || (p (get_or xs a d) || false))
  one_more p xs a m d less within =
      let long : m < length (swap xs a m) = omega (arith, length-swap xs a m, less, within) in
      let other : exchange a m m ≡ a = grind (arith, nat_tests) in
      ap (list_any p) (take_more (swap xs a m) m d long)
      ∙ list_any-append p (take m (swap xs a m)) (get_or (swap xs a m) m d ∷ [])
      ∙ (λ i. list_any p (front_stays xs a m less i) || (p ((get_or-swap xs a m d within (omega (arith, less, within)) m ∙ ap (λ (j : ℕ). get_or xs j d) other) i) || false))

  pub is_within : (p : X → Bool) (xs : List X) (i m : ℕ) (d : X) → i < m → i < length xs → p (get_or xs i d) ≡ true → list_any p (take m xs) ≡ true
  is_within p xs i m d less within passes =
      let long : i < length (take m xs) = omega (arith, length-take m xs, less, within) in
      list_any_at p (take m xs) i d long (ap p (get_or-take m xs i d less) ∙ passes)

-- ---- one is marked

no_key : PartitionKey
no_key = record { topic = 0; partition = 0 }

named_one : (name other : List ℕ) (p r : ℤ) → is_among (record { topic = name; partition = p } ∷ []) other r ≡ true → (name ≡ other) × (p ≡ r)
named_one name other p r among = by (bytes_eq name other) (int_eq p r) refl refl among where
  by : (a b : Bool) → bytes_eq name other ≡ a → int_eq p r ≡ b → ((a && b) || false) ≡ true → (name ≡ other) × (p ≡ r)
  by true true is is' e = ((bytes_eq-Decides name other).0 is, grind (arith, ints, is'))
  by true false is is' e = absurd (false≢true e)
  by false b is is' e = absurd (false≢true e)

one_place : (s : State) (name : List ℕ) (p : ℤ) (place there : Place) → IsPlaceOf s name p place → IsPlaceOf s name p there → key_of there ≡ key_of place
one_place s name p place there is is' =
    let topics : there.topic ≡ place.topic = grind (arith, is.topic, is'.topic) in
    let partitions : there.partition ≡ place.partition = grind (arith, ints, is.partition, is'.partition) in
    λ i. record { topic = topics i; partition = partitions i }

module _ (s : State) (old new : WaitingState) (name : List ℕ) (p : ℤ) where
  abbrev one : List TopicPartition
  one = record { topic = name; partition = p } ∷ []

  same_state : new ≡ old → ((key : PartitionKey) → stand_at new key ≡ stand_at old key) × ((key : PartitionKey) → is_marked old key ≡ true → is_marked new key ≡ true)
  same_state same = (λ key. ap (λ (w : WaitingState). stand_at w key) same, λ key is. ap (λ (w : WaitingState). is_marked w key) same ∙ is)

  module _ (place : Place) (of : IsPlaceOf s name p place) where
    the_place : (other : List ℕ) (r : ℤ) (there : Place) → is_among one other r ≡ true → IsPlaceOf s other r there → key_of there ≡ key_of place
    the_place other r there among is =
        let this = named_one name other p r among in
        one_place s name p place there of (subst (λ (n : List ℕ). IsPlaceOf s n p there) (sym this.0) (subst (λ (z : ℤ). IsPlaceOf s other z there) (sym this.1) is))

    pub nobody_there : new ≡ old → stand_at old (key_of place) ≡ None → Marks s old new one
    nobody_there same none = record {
      waits = ap (λ (w : WaitingState). w.waits) same;
      times = ap (λ (w : WaitingState). w.times) same;
      stands = (same_state same).0;
      before = (same_state same).1;
      these = λ other r there stand among is at. absurd (none-some stand (sym none ∙ sym ((same_state same).0 (key_of place)) ∙ ap (stand_at new) (sym (the_place other r there among is)) ∙ at));
    }

    pub is_there : new.waits ≡ old.waits → new.times ≡ old.times → ((key : PartitionKey) → stand_at new key ≡ stand_at old key) → ((key : PartitionKey) → is_marked old key ≡ true → is_marked new key ≡ true)
        → is_marked new (key_of place) ≡ true → Marks s old new one
    is_there waits times stands before marked = record {
      waits = waits;
      times = times;
      stands = stands;
      before = before;
      these = λ other r there stand among is at. ap (is_marked new) (the_place other r there among is) ∙ marked;
    }

-- where its key stands among the first, and where it is put there
pub marked_at : (ks : List PartitionKey) (m i : ℕ) (key : PartitionKey) → position (is_same_key key) ks ≡ Some i → i < m → list_any (is_same_key key) (take m ks) ≡ true
marked_at ks m i key is less =
    let found = position-Some (is_same_key key) ks i no_key is in
    is_within (is_same_key key) ks i m no_key less found.0 found.1

module _ (ks : List PartitionKey) (js : List PartitionKey) (m i : ℕ) (behind : m ≤ i) (within : i < length ks) (swapped : js ≡ swap ks i m) (key : PartitionKey) where
  swap_more : list_any (is_same_key key) (take (m + 1) js) ≡ (list_any (is_same_key key) (take m ks) || (is_same_key key (get_or ks i no_key) || false))
  swap_more = ap (λ (l : List PartitionKey). list_any (is_same_key key) (take (m + 1) l)) swapped ∙ one_more (is_same_key key) ks i m no_key behind within

  pub still_marked : list_any (is_same_key key) (take m ks) ≡ true → list_any (is_same_key key) (take (m + 1) js) ≡ true
  still_marked is = swap_more ∙ or_left (list_any (is_same_key key) (take m ks)) (is_same_key key (get_or ks i no_key) || false) is

  pub now_marked : position (is_same_key key) ks ≡ Some i → list_any (is_same_key key) (take (m + 1) js) ≡ true
  now_marked is =
      let found = position-Some (is_same_key key) ks i no_key is in
      swap_more ∙ or_right (list_any (is_same_key key) (take m ks)) (is_same_key key (get_or ks i no_key) || false) (or_left (is_same_key key (get_or ks i no_key)) false found.1)

-- ---- some, one after the other

-- of all these only those that are left aren't marked
pub record MarksBut (s : State) (old new : WaitingState) (left all : List TopicPartition) : Type 0 where
  pub waits : new.waits ≡ old.waits
  pub times : new.times ≡ old.times
  pub stands : (key : PartitionKey) → stand_at new key ≡ stand_at old key
  pub before : (key : PartitionKey) → is_marked old key ≡ true → is_marked new key ≡ true
  pub these : (name : List ℕ) (p : ℤ) (place : Place) (stand : StandState) → is_among all name p ≡ true → IsPlaceOf s name p place → stand_at new (key_of place) ≡ Some stand
      → (is_marked new (key_of place) ≡ true) ⊎ (is_among left name p ≡ true)

module _ (s : State) (old : WaitingState) (all : List TopicPartition) where
  pub some_more : (mid new : WaitingState) (left ps rest : List TopicPartition) → left ≡ ps ++ rest → MarksBut s old mid left all → Marks s mid new ps → MarksBut s old new rest all
  some_more mid new left ps rest is first then = record {
    waits = then.waits ∙ first.waits;
    times = then.times ∙ first.times;
    stands = λ key. then.stands key ∙ first.stands key;
    before = λ key is. then.before key (first.before key is);
    these = λ name p place stand among of at. by name p place stand of at (first.these name p place stand among of (sym (then.stands (key_of place)) ∙ at));
  } where
    here : (name : List ℕ) (p : ℤ) (place : Place) (stand : StandState) → IsPlaceOf s name p place → stand_at new (key_of place) ≡ Some stand → (is_among ps name p ≡ true) ⊎ (is_among rest name p ≡ true)
        → (is_marked new (key_of place) ≡ true) ⊎ (is_among rest name p ≡ true)
    here name p place stand of at (inl this) = inl (then.these name p place stand this of at)
    here name p place stand of at (inr later) = inr later

    by : (name : List ℕ) (p : ℤ) (place : Place) (stand : StandState) → IsPlaceOf s name p place → stand_at new (key_of place) ≡ Some stand → (is_marked mid (key_of place) ≡ true) ⊎ (is_among left name p ≡ true)
        → (is_marked new (key_of place) ≡ true) ⊎ (is_among rest name p ≡ true)
    by name p place stand of at (inl done) = inl (then.before (key_of place) done)
    by name p place stand of at (inr there) =
        here name p place stand of at (or_true (is_among ps name p) (is_among rest name p) (sym (list_any-append (λ (x : TopicPartition). bytes_eq x.topic name && int_eq x.partition p) ps rest) ∙ ap (λ (l : List TopicPartition). is_among l name p) (sym is) ∙ there))

  pub all_marked : (new : WaitingState) (left : List TopicPartition) → left ≡ [] → MarksBut s old new left all → Marks s old new all
  all_marked new left none but = record {
    waits = but.waits;
    times = but.times;
    stands = but.stands;
    before = but.before;
    these = λ name p place stand among of at. by name p place (but.these name p place stand among of at);
  } where
    by : (name : List ℕ) (p : ℤ) (place : Place) → (is_marked new (key_of place) ≡ true) ⊎ (is_among left name p ≡ true) → is_marked new (key_of place) ≡ true
    by name p place (inl done) = done
    by name p place (inr there) = absurd (false≢true (ap (λ (l : List TopicPartition). is_among l name p) (sym none) ∙ there))

-- ---- the first of some entries, and of some topics

abbrev pub entries_in : (topic : List ℕ) → List (Value produce_partition) → List TopicPartition
entries_in name es = produced_in name (map produce_partition_value es)

abbrev pub topics_in : List (Value (topic produce_partition)) → List TopicPartition
topics_in ts = produced_to (map (topic_request produce_partition produce_partition_value) ts)

pub first_entry : (name : List ℕ) (left rest : List (Value produce_partition)) (e : Value produce_partition) → left ≡ e ∷ rest → entries_in name left ≡ (record { topic = name; partition = e.0 } ∷ []) ++ entries_in name rest
first_entry name left rest e is = ap (entries_in name) is

pub first_topic : (left rest : List (Value (topic produce_partition))) (t : Value (topic produce_partition)) → left ≡ t ∷ rest → topics_in left ≡ entries_in t.0 t.1.0 ++ topics_in rest
first_topic left rest t is = ap topics_in is
    ∙ flat_map-cons (λ (x : TopicOf ProducePartitionValue). produced_in x.name x.entries) (topic_request produce_partition produce_partition_value t) (map (topic_request produce_partition produce_partition_value) rest)

-- ---- over what a map holds

pub nobody_at : (inside w : WaitingState) (key at : PartitionKey) → inside ≡ w → key ≡ at → is_some (stand_at inside key) ≡ false → stand_at w at ≡ None
nobody_at inside w key at same this none = sym (λ i. stand_at (same i) (this i)) ∙ by (stand_at inside key) none where
  by : (o : Option StandState) → is_some o ≡ false → o ≡ None
  by None is = refl
  by (Some x) is = absurd (false≢true (sym is))

pub swapped_keys : (es fs : List (PartitionKey × StandState)) (i m : ℕ) → fs ≡ swap es i m → keys_of fs ≡ swap (keys_of es) i m
swapped_keys es fs i m is = ap keys_of is ∙ map-swap (λ (e : PartitionKey × StandState). e.0) es i m

pub within_keys : (es : List (PartitionKey × StandState)) (i : ℕ) → i < length es → i < length (keys_of es)
within_keys es i less = let long = length-keys_of es in omega (arith, long, less)

-- ---- a request that is to be handled

pub nobody_stands : (key : PartitionKey) (stand : StandState) (es : List (PartitionKey × StandState)) → length es ≡ 0 → lookup (is_same_key key) es ≡ Some stand → ⊥
nobody_stands key stand [] none at = none-some stand at
nobody_stands key stand (e ∷ es) none at = omega (arith, none)

appends_to : Noted → Bool
appends_to Grows = true
appends_to Changes = false

pub changes_not : Changes ≡ Grows → ⊥
unfolding appends_to
changes_not same = false≢true (ap appends_to same)

pub request_marked : (s t : State) (old new : WaitingState) (noted : Noted) (q r : RequestValue) → t ≡ s → r ≡ q → Marks t old new (places (effect r.body)) → (noted ≡ Grows → only_grows (effect r.body) ≡ true)
    → AreMarked s new (places (effect q.body)) × (noted ≡ Grows → only_grows (effect q.body) ≡ true)
request_marked s t old new noted q r state same marks appends =
    subst (λ (x : RequestValue). AreMarked s new (places (effect x.body)) × (noted ≡ Grows → only_grows (effect x.body) ≡ true)) same (subst (λ (u : State). AreMarked u new (places (effect r.body))) state marks.these, appends)
