-- Partitions that are barred: none of them may change until it is lifted. Partitions are named by their places in the broker.
use Rattle.std.specs.Prelude.{◌≡◌, ◌⊎◌, ℕ, zero, suc, ◌+◌, nat_eq, Bool, true, false, ◌&&◌, List, [], ◌∷◌, ◌++◌, length, map, slice_get, Option}
use Rattle.std.specs.List.{AllByRecursion, list_any}
use Rattle.std.specs.Option.{option_and_then}
use Rattle.content.specs.Content.{Content}
use Rattle.request_frames.specs.Produce.{ProducePartitionValue}
use Rattle.request_frames.specs.Requests.{BodyValue}
use Rattle.broker_state.specs.declared.place.Place.{Place}
use Rattle.broker_state.specs.Places.{IsPlaceOf}
use Rattle.broker_state.specs.State.{State, Topic}
use Rattle.broker_node.specs.Effects.{TopicPartition, effect, places}

abbrev pub is_same_place : Place → Place → Bool
is_same_place p q = nat_eq p.topic q.topic && nat_eq p.partition q.partition

abbrev pub is_barred : List Place → Place → Bool
is_barred barred place = list_any (is_same_place place) barred

-- ---- what stands at a place

-- the content of the partition at a place
abbrev pub content_at_place : State → Place → Option Content
content_at_place s place =
    option_and_then (λ parts. slice_get parts place.partition) (slice_get (map (λ t. t.partitions) s.topics) place.topic)

-- each partition that is barred is as it was
abbrev pub KeepsBarred : List Place → (s after : State) → Type 0
KeepsBarred barred s after = (place : Place) → is_barred barred place ≡ true → content_at_place after place ≡ content_at_place s place

-- ---- all partitions

-- the places of a topic's first partitions
abbrev pub topic_places : (topic count : ℕ) → List Place
topic_places topic zero = []
topic_places topic (suc count) = topic_places topic count ++ record { topic = topic; partition = count } ∷ []

-- those of all partitions of some topics, of which the first has this index
abbrev pub places_from : (index : ℕ) → List Topic → List Place
places_from index [] = []
places_from index (t ∷ ts) = topic_places index (length t.partitions) ++ places_from (index + 1) ts

-- those of all partitions of a broker, in the order of topics and partitions
abbrev pub all_places : State → List Place
all_places s = places_from 0 s.topics

-- ---- what a request may change

-- the broker doesn't have this partition, or it isn't barred
abbrev pub IsFree : List Place → State → TopicPartition → Type 0
IsFree barred s p = (place : Place) → IsPlaceOf s p.topic p.partition place → is_barred barred place ≡ false

-- one of these partitions has this place
abbrev pub IsAmong : State → Place → List TopicPartition → Type 0
IsAmong s place [] = ⊥
IsAmong s place (p ∷ ps) = IsPlaceOf s p.topic p.partition place ⊎ IsAmong s place ps

-- none of these partitions is barred
abbrev pub AreFree : List Place → State → List TopicPartition → Type 0
AreFree barred s ps = AllByRecursion (IsFree barred s) ps

-- this place is barred, and that of one of these partitions
abbrev pub IsBarredAmong : List Place → State → List TopicPartition → Place → Type 0
IsBarredAmong barred s ps place = (is_barred barred place ≡ true) × IsAmong s place ps

-- no partition is barred that the request may change
abbrev pub AvoidsBarred : List Place → State → BodyValue → Type 0
AvoidsBarred barred s body = AreFree barred s (places (effect body))

-- this place is barred, and that of a partition that the request may change
abbrev pub MeetsBarred : List Place → State → BodyValue → Place → Type 0
MeetsBarred barred s body place = IsBarredAmong barred s (places (effect body)) place

-- the partitions of a topic's entries
abbrev pub entries_to : (topic : List ℕ) → List ProducePartitionValue → List TopicPartition
entries_to topic entries = map (λ e. record { topic = topic; partition = e.index }) entries
