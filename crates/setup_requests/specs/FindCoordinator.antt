-- FindCoordinator: which broker keeps a group's offsets. Kafka's documentation, "Protocol Guide", section "The Messages".
-- A broker that leads keeps those of every group.
use Rattle.std.specs.Prelude.{ℕ, ℤ, pos, negsuc, false, List, [], ◌∷◌}
use Rattle.responses.specs.Responses.{response}
use Rattle.responses.specs.FindCoordinator.{CoordinatorAnswer, find_coordinator_response, find_coordinator_value}
use Rattle.answering.specs.Codes.{no_error, code_number}
use Rattle.answering.specs.Work.{Work}
use Rattle.broker_state.specs.State.{ConfigValue, State}
use Rattle.broker_state.specs.Checks.{no_group, not_leader}

-- the broker itself
abbrev pub this_coordinator : ConfigValue → CoordinatorAnswer
this_coordinator g = record { code = no_error; node_id = g.node_id; host = g.host; port = pos g.port }

abbrev pub find_coordinator_work : State → (group : List ℕ) → Work CoordinatorAnswer State
find_coordinator_work s group = record {
  early = no_group group ∷ not_leader s ∷ [];
  takes_memory = false;
  late = [];
  done = (this_coordinator s.config, s);
  failed = λ code. record { code = code_number code; node_id = negsuc 0; host = []; port = negsuc 0 };
}

abbrev pub find_coordinator_sent : (correlation : ℤ) → CoordinatorAnswer → List ℕ
find_coordinator_sent correlation r = response correlation find_coordinator_response (find_coordinator_value r)
