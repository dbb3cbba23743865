-- The names that a topic must not have.
use Rattle.std.specs.Prelude.{ℕ, List, [], ◌∷◌}
use Rattle.std.specs.List.{fold}
use Rattle.broker_state.specs.State.{TopicConfig, group_topic}

-- the group topic's, and those of topics
abbrev pub names_taken : List TopicConfig → List (List ℕ)
names_taken ts = fold (λ taken t. t.name ∷ taken) (group_topic ∷ []) ts
