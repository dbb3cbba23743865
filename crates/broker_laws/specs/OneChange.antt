-- What may have become of a broker where one of its partitions was changed: it was cleaned, or a part of it was, or its
-- start moved up. Kafka's design documentation, "Log Compaction", and Kafka's documentation, "DeleteRecords API".
use Rattle.std.specs.Prelude.{◌≡◌, ◌⊎◌, ℤ}
use Rattle.content.specs.Content.{cut}
use Rattle.broker_state.specs.State.{State, content_at, with_content}
use Rattle.copy_requests.specs.declared.clean.Cleaning.{Cleaning}
use Rattle.copy_requests.specs.Clean.{cleaned}
use Rattle.broker_node.specs.Effects.{TopicPartition}

-- nothing changed, or the partition was cleaned, or a part of it, by some bounds
abbrev pub CleansAt : TopicPartition → (before after : State) → Type 0
CleansAt p before after = (after ≡ before) ⊎ ((cleaning : Cleaning)
    × (after ≡ with_content before p.topic p.partition (cleaned cleaning (content_at before p.topic p.partition))))

-- nothing changed, or the partition was cut at some start
abbrev pub TrimsAt : TopicPartition → (before after : State) → Type 0
TrimsAt p before after = (after ≡ before) ⊎ ((start : ℤ)
    × (after ≡ with_content before p.topic p.partition (cut start (content_at before p.topic p.partition))))
