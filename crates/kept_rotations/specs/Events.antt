-- What changes what a broker holds: frames of clients that are handled, and topics or partitions that a start adds, which stand in no
-- journal. Kafka's documentation, "Operations", section "Modifying topics" (partitions are added; none is taken away).
use Rattle.std.specs.Prelude.{◌≡◌, ◌⊎◌, ℕ, ◌-◌, List, [], ◌∷◌, ◌++◌, length, map, replicate}
use Rattle.std.proofs.Common.{inl, inr}
use Rattle.std.specs.Option.{option_map, unwrap_or}
use Rattle.content.specs.Content.{Content, empty}
use Rattle.broker_state.specs.State.{ConfigValue, State, Topic, TopicConfig, all_topics, topic_of}
use Rattle.kept_sessions.specs.Replaying.{IsHandled}

-- the contents that a broker has of a topic, from partition 0 on; none of a topic that it doesn't have
abbrev pub contents_of : State → (name : List ℕ) → List Content
contents_of s name = unwrap_or (option_map (λ t. t.partitions) (topic_of s name)) []

-- a topic as it is asked for: with the contents that a broker has of it, and empty partitions behind them
abbrev pub grown_topic : State → TopicConfig → Topic
grown_topic s t = record {
  name = t.name;
  partitions = contents_of s t.name ++ replicate (t.partitions - length (contents_of s t.name)) empty;
}

-- the broker of this configuration that holds what another one held
abbrev pub grown : ConfigValue → State → State
grown g s = record { config = g; topics = map (grown_topic s) (all_topics g); next_producer = s.next_producer }

-- a frame of a client, or a configuration with more topics or partitions
abbrev pub Event : Type 0
Event = List ℕ ⊎ ConfigValue

-- what it leads to: the frame was handled, or what is asked for was added
abbrev pub LeadsBy : State → Event → State → Type 0
LeadsBy s (inl frame) after = IsHandled s frame after
LeadsBy s (inr asked) after = after ≡ grown asked s

-- one after the other
abbrev pub Leads : State → List Event → State → Type 0
Leads s [] after = s ≡ after
Leads s (e ∷ events) after = (mid : State) × LeadsBy s e mid × Leads mid events after
