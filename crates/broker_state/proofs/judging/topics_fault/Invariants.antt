use Rattle.std.proofs.Common.{◌≡◌, [], ◌∷◌, take, drop}
use Rattle.std.specs.Prelude.{map}
use Rattle.broker_state.specs.State.{group_topic}
use Rattle.broker_state.specs.ConfigValues.{topic_config}
use Rattle.broker_state.specs.Configs.{topics_fault}
use Rattle.broker_state.specs.Taken.{names_taken}
use Rattle.broker_state.proofs.judging.topics_fault.Given as goal

abbrev pub invariant-loop-i : goal.invariant-loop-i
invariant-loop-i g l =
    topics_fault (names_taken (map topic_config (take l.i l.topics))) (map topic_config (drop l.i l.topics)) ≡ topics_fault (group_topic ∷ []) (map topic_config l.topics)
