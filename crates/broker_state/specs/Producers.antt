-- The ids by which producers are told apart. Kafka's documentation, "Protocol Guide", section "The Messages", and the
-- design documentation, "Message Delivery Semantics" (the broker assigns each producer an id).
use Rattle.std.specs.Prelude.{◌≡◌, ◌≢◌, ◌-◌, ◌^◌, ℤ, pos, ◌+ℤ◌, Option, Some, None}
use Rattle.broker_state.specs.State.{State}

-- it is not given out, since no id could come after it
abbrev pub greatest_int64 : ℤ
greatest_int64 = pos (2 ^ 63 - 1)

-- the next id is given out, and the number after it is the next one
abbrev pub with_id_given : State → State
with_id_given s = record s { next_producer = s.next_producer +ℤ pos 1 }

-- an id is given out, or none is left, and nothing changes
abbrev pub GivesProducerId : State → Option ℤ → State → Type 0
GivesProducerId s (Some id) after =
    (s.next_producer ≢ greatest_int64) × (id ≡ s.next_producer) × (after ≡ with_id_given s)
GivesProducerId s None after = (s.next_producer ≡ greatest_int64) × (after ≡ s)

-- this id is the next one
abbrev pub with_next_id : State → ℤ → State
with_next_id s id = record s { next_producer = id }
