-- A change of one partition of a broker: every other partition stays as it is.
use Rattle.std.specs.Prelude.{◌≡◌, ℕ, ℤ, List}
use Rattle.std.specs.Option.{unwrap_or}
use Rattle.content.specs.Content.{Content, empty}
use Rattle.broker_state.specs.State.{Topic, State, partition_of, content_at, with_partition, with_content}

-- how the content of a partition may change: the one before, and the one after
abbrev pub HowChanged : Type 1
HowChanged = Content → Content → Type 0

-- a partition of a topic changes so
abbrev pub ChangesIn : HowChanged → Topic → (p : ℤ) → Topic → Type 0
ChangesIn how t p after =
    (c : Content) × how (unwrap_or (partition_of p t) empty) c × (after ≡ with_partition p c t)

-- a broker's partition changes so
abbrev pub ChangesAt : HowChanged → State → (name : List ℕ) (p : ℤ) → State → Type 0
ChangesAt how s name p after =
    (c : Content) × how (content_at s name p) c × (after ≡ with_content s name p c)
