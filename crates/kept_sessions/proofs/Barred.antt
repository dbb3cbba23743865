-- Partitions that are barred, and those that a request may change.
use Rattle.std.proofs.Common.{◌≡◌, inl, inr, ℕ, zero, suc, ◌+◌, ◌<◌, Bool, true, false, List, [], ◌∷◌, ◌++◌, length, Option, Some, None, Result, Ok, Err, refl, sym, ap, subst, ◌∙◌, append_assoc, drop, arith}
use Rattle.std.specs.Prelude.{OnOk, map, is_some, slice_get, get_or, not, ◌&&◌, ◌||◌, nat_lt}
use Rattle.std.specs.List.{filter}
use Rattle.std.specs.Option.{option_and_then, option_map}
use Rattle.std.proofs.Math.Numerals.{add-one}
use Rattle.std.proofs.Math.Seq.{drop-cons}
use Rattle.std.proofs.lemmas.Bool.{true≢false}
use Rattle.std.proofs.lemmas.List.{length-map, get_or-map}
use Rattle.std.proofs.lemmas.List.Concat.{flat_map-cons}
use Rattle.std.proofs.lemmas.List.Folds.{list_any-append}
use Rattle.std.proofs.lemmas.Option.{slice_get-map}
use Rattle.frame_fields.specs.Fields.{Value}
use Rattle.frame_fields.specs.Types.{TopicOf, topic, topic_request}
use Rattle.request_frames.specs.Produce.{ProducePartitionValue, produce_partition, produce_partition_value}
use Rattle.request_frames.specs.Requests.{BodyValue}
use Rattle.broker_state.specs.declared.place.Place.{Place}
use Rattle.broker_state.specs.State.{State, Topic}
use Rattle.broker_state.specs.Parts.{TopicParts, topic_contents}
use Rattle.broker_node.specs.Effects.Effect.{reads, gives_id, appends, takes, cleans, trims}
use Rattle.broker_node.specs.Effects.{Effect, TopicPartition, effect, is_change, may_change, places, produced_to}
use Rattle.kept_sessions.specs.Barring.{AreFree, AvoidsBarred, IsAmong, IsBarredAmong, all_places, content_at_place, entries_to, is_barred, is_same_place, places_from, topic_places}

-- ---- all places, one after the other

module _ (ts : List TopicParts) (s : State) (is : map topic_contents ts ≡ s.topics) where
  -- what is left of the topics behind one
  left_behind : (index : ℕ) (t : TopicParts) → index < length ts → t ≡ get_or ts index t → drop index s.topics ≡ topic_contents t ∷ drop (suc index) s.topics
  left_behind index t low at =
      drop-cons s.topics index (topic_contents t) (subst (λ (n : ℕ). index < n) (sym (length-map ts topic_contents) ∙ ap length is) low)
      ∙ ap (λ (x : Topic). x ∷ drop (suc index) s.topics) (sym (ap (λ (xs : List Topic). get_or xs index (topic_contents t)) is) ∙ get_or-map topic_contents ts index t (topic_contents t) low ∙ ap topic_contents (sym at))

  pub next_topic : (places places' all : List Place) (index : ℕ) (t : TopicParts) → index < length ts → t ≡ get_or ts index t
      → places ++ places_from index (drop index s.topics) ≡ all → places' ≡ places ++ topic_places index (length t.partitions)
      → places' ++ places_from (index + 1) (drop (index + 1) s.topics) ≡ all
  next_topic places places' all index t low at before is_new =
      let later = places_from (index + 1) (drop (suc index) s.topics) in
      let count : length (topic_contents t).partitions ≡ length t.partitions = length-map t.partitions (λ p. p.content) in
      ap (λ (n : ℕ). places' ++ places_from (index + 1) (drop n s.topics)) (add-one index)
      ∙ ap (λ (x : List Place). x ++ later) is_new
      ∙ append_assoc places (topic_places index (length t.partitions)) later
      ∙ ap (λ (n : ℕ). places ++ (topic_places index n ++ later)) (sym count)
      ∙ ap (λ (xs : List Topic). places ++ places_from index xs) (sym (left_behind index t low at))
      ∙ before

-- ---- each partition's place is among them

some_same : {X : Type 0} (x y : X) → Some x ≡ Some y → x ≡ y
some_same x y e = cc

in_topic : (topic n : ℕ) (x : Place) → x.topic ≡ topic → x.partition < n → is_barred (topic_places topic n) x ≡ true
in_topic topic zero x same low = absurd (omega (arith, low))
in_topic topic (suc n) x same low =
    list_any-append (is_same_place x) (topic_places topic n) (record { topic = topic; partition = n } ∷ [])
    ∙ by (is_barred (topic_places topic n) x) (nat_lt x.partition n) refl (λ less. in_topic topic n x same less)
  where
    by : (there b : Bool) → nat_lt x.partition n ≡ b → (x.partition < n → there ≡ true) → (there || is_barred (record { topic = topic; partition = n } ∷ []) x) ≡ true
    by there true less before = ap (λ (b : Bool). b || is_barred (record { topic = topic; partition = n } ∷ []) x) (before (grind (arith, less)))
    by true false no_less before = refl
    by false false no_less before = let last : x.partition ≡ n = grind (arith, no_less, low) in grind (arith, last, same)

in_all : (ts : List Topic) (index k : ℕ) (t : Topic) (x : Place) → slice_get ts k ≡ Some t → x.topic ≡ index + k → x.partition < length t.partitions → is_barred (places_from index ts) x ≡ true
in_all [] index k t x there at low = absurd (grind (arith, there))
in_all (u ∷ ts) index zero t x there at low = list_any-append (is_same_place x) (topic_places index (length u.partitions)) (places_from (index + 1) ts)
    ∙ ap (λ (b : Bool). b || is_barred (places_from (index + 1) ts) x) (in_topic index (length u.partitions) x (omega (arith, at)) (subst (λ (v : Topic). x.partition < length v.partitions) (sym (some_same u t there)) low))
in_all (u ∷ ts) index (suc k) t x there at low = list_any-append (is_same_place x) (topic_places index (length u.partitions)) (places_from (index + 1) ts)
    ∙ either (is_barred (topic_places index (length u.partitions)) x) (is_barred (places_from (index + 1) ts) x) (in_all ts (index + 1) k t x there (omega (arith, at)) low)
  where
    either : (a b : Bool) → b ≡ true → (a || b) ≡ true
    either true b is = refl
    either false b is = is

below : {X : Type 0} (xs : List X) (n : ℕ) → is_some (slice_get xs n) ≡ true → n < length xs
below [] n e = absurd (grind (arith, e))
below (x ∷ xs) zero e = grind arith
below (x ∷ xs) (suc n) e = grind (arith, below xs n e)

-- what stands at a place
there_is : (ts : List Topic) (place : Place) (o : Option Topic) → o ≡ slice_get ts place.topic → is_some (option_and_then (λ parts. slice_get parts place.partition) (option_map (λ (t : Topic). t.partitions) o)) ≡ true → is_barred (places_from 0 ts) place ≡ true
there_is ts place None at known = absurd (true≢false (sym known))
there_is ts place (Some t) at known = in_all ts 0 place.topic t place (sym at) (omega arith) (below t.partitions place.partition known)

all_barred : (s : State) (barred : List Place) → barred ≡ all_places s → (place : Place) → is_some (content_at_place s place) ≡ true → is_barred barred place ≡ true
all_barred s barred is place known =
    ap (λ (b : List Place). is_barred b place) is
    ∙ there_is s.topics place (slice_get s.topics place.topic) refl
    (ap (λ o. is_some (option_and_then (λ parts. slice_get parts place.partition) o)) (sym (slice_get-map (λ (t : Topic). t.partitions) s.topics place.topic)) ∙ known)

pub raised : {T E : Type 0} (s : State) (r : Result T E) (old new : List Place) → old ≡ [] → OnOk r (new ≡ old ++ all_places s) → OnOk r ((place : Place) → is_some (content_at_place s place) ≡ true → is_barred new place ≡ true)
raised s (Ok x) old new none is = all_barred s new (is ∙ ap (λ (b : List Place). b ++ all_places s) none)
raised s (Err e) old new none is = tt

-- ---- what is barred once a partition is lifted

pub lifted : (lift : Place) (barred : List Place) (place : Place) → is_barred (filter (λ other. not (is_same_place other lift)) barred) place ≡ (is_barred barred place && not (is_same_place place lift))
lifted lift [] place = refl
lifted lift (b ∷ bs) place = grind (arith, lifted lift bs place)

-- ---- a request that only reads

reads_free : (barred : List Place) (s : State) (e : Effect) → is_change e ≡ false → AreFree barred s (places e)
reads_free barred s reads only_reads = tt
reads_free barred s gives_id only_reads = tt
reads_free barred s (appends ps) only_reads = absurd (true≢false only_reads)
reads_free barred s (takes p) only_reads = absurd (true≢false only_reads)
reads_free barred s (cleans p) only_reads = absurd (true≢false only_reads)
reads_free barred s (trims p) only_reads = absurd (true≢false only_reads)

pub reading_avoids : (barred : List Place) (s : State) (body : BodyValue) → may_change body ≡ false → AvoidsBarred barred s body
reading_avoids barred s body only_reads = reads_free barred s (effect body) only_reads

-- ---- what is left of a request's partitions

-- what is said of those that are left holds of all
abbrev pub Carries : List Place → State → (left all : List TopicPartition) → Type 0
Carries barred s left all = (AreFree barred s left → AreFree barred s all) × ((place : Place) → IsAmong s place left → IsAmong s place all)

module _ (barred : List Place) (s : State) where
  both_free : (xs ys : List TopicPartition) → AreFree barred s xs → AreFree barred s ys → AreFree barred s (xs ++ ys)
  both_free [] ys first others = others
  both_free (x ∷ xs) ys first others = (first.0, both_free xs ys first.1 others)

  among_others : (place : Place) (xs ys : List TopicPartition) → IsAmong s place ys → IsAmong s place (xs ++ ys)
  among_others place [] ys among = among
  among_others place (x ∷ xs) ys among = inr (among_others place xs ys among)

  among_first : (place : Place) (xs ys : List TopicPartition) → IsAmong s place xs → IsAmong s place (xs ++ ys)
  among_first place [] ys among = absurd among
  among_first place (x ∷ xs) ys (inl here) = inl here
  among_first place (x ∷ xs) ys (inr among) = inr (among_first place xs ys among)

  -- some first ones are free, or one of them is barred
  pub passed : (left ps rest all : List TopicPartition) → left ≡ ps ++ rest → AreFree barred s ps → Carries barred s left all → Carries barred s rest all
  passed left ps rest all is free before = (
    λ others. before.0 (subst (AreFree barred s) (sym is) (both_free ps rest free others)),
    λ place among. before.1 place (subst (IsAmong s place) (sym is) (among_others place ps rest among)),
  )

  pub met : (left ps rest all : List TopicPartition) (place : Place) → left ≡ ps ++ rest → IsAmong s place ps → Carries barred s left all → IsAmong s place all
  met left ps rest all place is among before = before.1 place (subst (IsAmong s place) (sym is) (among_first place ps rest among))

-- ---- the first of some entries, and of some topics

abbrev pub entries_in : (topic : List ℕ) → List (Value produce_partition) → List TopicPartition
entries_in name es = entries_to name (map produce_partition_value es)

abbrev pub topics_in : List (Value (topic produce_partition)) → List TopicPartition
topics_in ts = produced_to (map (topic_request produce_partition produce_partition_value) ts)

pub first_entry : (name : List ℕ) (left rest : List (Value produce_partition)) (e : Value produce_partition) → left ≡ e ∷ rest → entries_in name left ≡ (record { topic = name; partition = e.0 } ∷ []) ++ entries_in name rest
first_entry name left rest e is = ap (entries_in name) is

first_topic : (left rest : List (Value (topic produce_partition))) (t : Value (topic produce_partition)) → left ≡ t ∷ rest → topics_in left ≡ entries_in t.0 t.1.0 ++ topics_in rest
first_topic left rest t is = ap topics_in is
    ∙ flat_map-cons (λ (x : TopicOf ProducePartitionValue). entries_to x.name x.entries) (topic_request produce_partition produce_partition_value t) (map (topic_request produce_partition produce_partition_value) rest)

module _ (barred : List Place) (s : State) (left rest : List (Value (topic produce_partition))) (t : Value (topic produce_partition)) (all : List TopicPartition) where
  pub topic_passed : left ≡ t ∷ rest → AreFree barred s (entries_in t.0 t.1.0) → Carries barred s (topics_in left) all → Carries barred s (topics_in rest) all
  topic_passed is free before = passed barred s (topics_in left) (entries_in t.0 t.1.0) (topics_in rest) all (first_topic left rest t is) free before

  pub topic_met : (place : Place) → left ≡ t ∷ rest → IsBarredAmong barred s (entries_in t.0 t.1.0) place → Carries barred s (topics_in left) all → IsBarredAmong barred s all place
  topic_met place is among before = (among.0, met barred s (topics_in left) (entries_in t.0 t.1.0) (topics_in rest) all place (first_topic left rest t is) among.1 before)
