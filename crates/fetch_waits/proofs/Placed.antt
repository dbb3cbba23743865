-- What is at a place of a broker.
use Rattle.std.proofs.Common.{◌≡◌, ℕ, ◌≤◌, ℤ, pos, arith, List, length, map, get_or, Option, Some, None, IfSome, sym, ap, ◌∙◌}
use Rattle.std.specs.Option.{unwrap_or}
use Rattle.content.specs.Content.{Content, empty, end}
use Rattle.broker_state.specs.Places.{IsPlaceOf}
use Rattle.broker_state.specs.State.{State, content_at, partition_of}
use Rattle.broker_state.specs.Parts.{TopicParts, topic_contents}
use Rattle.broker_state.proofs.PlacedTopics.{copy_shown, partition_below}
use Rattle.broker_state.specs.declared.place.Place.{Place}
use Rattle.fetch_waits.specs.Waiting.{bytes_from}

module _ (s : State) (ts : List TopicParts) (place : Place) (t : TopicParts) (c : Content) (topics : map topic_contents ts ≡ s.topics) (is : t ≡ get_or ts place.topic t)
    (here : partition_of (pos place.partition) (topic_contents t) ≡ Some c) where
  view : ◌≡◌ {A = State} (record { config = s.config; topics = map topic_contents ts; next_producer = s.next_producer }) s
  view = λ i. record { config = s.config; topics = topics i; next_producer = s.next_producer }

  pub held_here : (name : List ℕ) (p : ℤ) → IsPlaceOf s name p place → content_at s name p ≡ c
  held_here name p of = ap (λ x. unwrap_or x empty) (copy_shown ts s.config s name p place view of t c is here)

-- a place past all partitions of its topic is none
pub past_all : (s : State) (ts : List TopicParts) (place : Place) (t : TopicParts) (count : ℕ) → map topic_contents ts ≡ s.topics → t ≡ get_or ts place.topic t → count ≡ length t.partitions → count ≤ place.partition
    → (name : List ℕ) (p : ℤ) → IsPlaceOf s name p place → ⊥
past_all s ts place t count topics is counts past name p of =
    let low = partition_below ts s.config s name p place (λ i. record { config = s.config; topics = topics i; next_producer = s.next_producer }) of t is in
    absurd (omega (arith, counts, past, low))

-- where its log ends, as the number is handed on
pub ends_here : (s : State) (ts : List TopicParts) (place : Place) (t : TopicParts) (c : Content) → map topic_contents ts ≡ s.topics → t ≡ get_or ts place.topic t → partition_of (pos place.partition) (topic_contents t) ≡ Some c
    → (found passed : ℤ) → passed ≡ found → found ≡ end c → (name : List ℕ) (p : ℤ) → IsPlaceOf s name p place → passed ≡ end (content_at s name p)
ends_here s ts place t c topics is here found passed same ends name p of = same ∙ ends ∙ ap end (sym (held_here s ts place t c topics is here name p of))

-- how many bytes came behind an offset, as it is handed on
pub behind_here : (r : Option ℕ) (s : State) (ts : List TopicParts) (place : Place) (t : TopicParts) (c : Content) → map topic_contents ts ≡ s.topics → t ≡ get_or ts place.topic t → partition_of (pos place.partition) (topic_contents t) ≡ Some c
    → (passed offset : ℤ) → passed ≡ offset → IfSome r (λ bytes. bytes ≡ length (bytes_from c passed))
    → IfSome r (λ bytes. (name : List ℕ) (p : ℤ) → IsPlaceOf s name p place → bytes ≡ length (bytes_from (content_at s name p) offset))
behind_here (Some bytes) s ts place t c topics is here passed offset same counted =
    λ name p of. counted ∙ ap (λ (o : ℤ). length (bytes_from c o)) same ∙ ap (λ (k : Content). length (bytes_from k offset)) (sym (held_here s ts place t c topics is here name p of))
behind_here None s ts place t c topics is here passed offset same counted = tt
