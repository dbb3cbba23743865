-- Metadata: the names of a request, and the response as the code goes.
use Rattle.std.specs.Prelude.{ℕ, List, map, Option}
use Rattle.frame_fields.specs.Arrays.{ArrayBytes, values}
use Rattle.frame_fields.specs.Fields.{end, encoded}
use Rattle.frame_fields.specs.Types.{string, ◌⨾◌}
use Rattle.responses.specs.Metadata.{metadata_response, metadata_value, metadata_leader_id}
use Rattle.broker_state.specs.State.{State}
use Rattle.log_requests.specs.Metadata.{metadata_of_broker, metadata_leader, metadata_topics}

abbrev pub metadata_names : ArrayBytes → List (List ℕ)
metadata_names names = map (λ name. name.0) (values (string ⨾ end) names)

-- what is answered to names, or to none, behind a response's head
abbrev pub metadata_body : State → Option (List (List ℕ)) → List ℕ
metadata_body s names =
    encoded metadata_response (metadata_value (metadata_of_broker s.config) (metadata_leader_id (metadata_leader s.config)) (metadata_topics s names))
