-- The table of requests: the fields of each one's response, and the way in which it is answered. Kafka's documentation,
-- "Protocol Guide", section "The Messages".
use Rattle.std.specs.Prelude.{ℤ}
use Rattle.frame_fields.specs.Fields.{Fields}
use Rattle.request_frames.specs.Requests.BodyValue.{produce, fetch, list_offsets, metadata, offset_commit, offset_fetch, find_coordinator, api_versions, init_producer_id, deliver, clean, clean_part, export, export_delta, import, import_delta, get, cover, forget_group, trim}
use Rattle.request_frames.specs.Requests.{BodyValue}
use Rattle.responses.specs.Produce.{produce_response}
use Rattle.responses.specs.Fetch.{fetch_response}
use Rattle.responses.specs.ListOffsets.{list_offsets_response}
use Rattle.responses.specs.Metadata.{metadata_response}
use Rattle.responses.specs.OffsetCommit.{offset_commit_response}
use Rattle.responses.specs.OffsetFetch.{offset_fetch_response}
use Rattle.responses.specs.FindCoordinator.{find_coordinator_response}
use Rattle.responses.specs.ApiVersions.{api_versions_response}
use Rattle.responses.specs.InitProducerId.{init_producer_id_response}
use Rattle.responses.specs.Deliver.{deliver_response}
use Rattle.responses.specs.Clean.{clean_response}
use Rattle.responses.specs.Export.{export_response}
use Rattle.responses.specs.Import.{import_response}
use Rattle.responses.specs.Get.{get_response}
use Rattle.responses.specs.Cover.{cover_response}
use Rattle.responses.specs.ForgetGroup.{forget_group_response}
use Rattle.responses.specs.Trim.{trim_response}
use Rattle.broker_state.specs.State.{State}
use Rattle.log_requests.specs.Produce.{produce_plan}
use Rattle.log_requests.specs.Fetch.{fetch_plan}
use Rattle.log_requests.specs.ListOffsets.{list_offsets_plan}
use Rattle.log_requests.specs.Metadata.{metadata_reply}
use Rattle.group_requests.specs.OffsetCommit.{offset_commit_plan}
use Rattle.group_requests.specs.OffsetFetch.{offset_fetch_plan}
use Rattle.group_requests.specs.ForgetGroup.{forget_group_work, forget_group_sent}
use Rattle.setup_requests.specs.FindCoordinator.{find_coordinator_work, find_coordinator_sent}
use Rattle.setup_requests.specs.ApiVersions.{api_versions_reply}
use Rattle.setup_requests.specs.InitProducerId.{init_producer_id_work, init_producer_id_sent}
use Rattle.copy_requests.specs.Deliver.{deliver_work, deliver_sent}
use Rattle.copy_requests.specs.Clean.{clean_work, clean_part_work, clean_sent}
use Rattle.copy_requests.specs.Export.{export_work, export_sent}
use Rattle.copy_requests.specs.ExportDelta.{export_delta_work}
use Rattle.copy_requests.specs.Import.{import_work, import_sent}
use Rattle.copy_requests.specs.ImportDelta.{import_delta_work}
use Rattle.copy_requests.specs.Get.{get_work, get_sent}
use Rattle.copy_requests.specs.Cover.{cover_work, cover_sent}
use Rattle.copy_requests.specs.Trim.{trim_work, trim_sent}
use Rattle.broker_node.specs.Ways.Way.{planned, once, fixed}
use Rattle.broker_node.specs.Ways.{Way}

-- the fields of the response, and how a broker in a state answers a request with this correlation id
pub record Kind : Type 1 where
  pub fields : Fields
  pub way : State → (correlation : ℤ) → Way State

abbrev pub kind : BodyValue → Kind
kind (produce q) = record { fields = produce_response; way = λ s n. planned (produce_plan s n q) }
kind (fetch q) = record { fields = fetch_response; way = λ s n. planned (fetch_plan s n q) }
kind (list_offsets topics) = record { fields = list_offsets_response; way = λ s n. planned (list_offsets_plan s n topics) }
kind (metadata names) = record { fields = metadata_response; way = λ s n. fixed (metadata_reply s n names) s }
kind (offset_commit q) = record { fields = offset_commit_response; way = λ s n. planned (offset_commit_plan s n q) }
kind (offset_fetch q) = record { fields = offset_fetch_response; way = λ s n. planned (offset_fetch_plan s n q) }
kind (find_coordinator group) =
    record { fields = find_coordinator_response; way = λ s n. once (find_coordinator_sent n) (find_coordinator_work s group) s }
kind (api_versions version) = record { fields = api_versions_response; way = λ s n. fixed (api_versions_reply n version) s }
kind (init_producer_id id) =
    record { fields = init_producer_id_response; way = λ s n. once (init_producer_id_sent n) (init_producer_id_work s id) s }
kind (deliver q) = record { fields = deliver_response; way = λ s n. once (deliver_sent n) (deliver_work s q) s }
kind (clean q) = record { fields = clean_response; way = λ s n. once (clean_sent n) (clean_work s q) s }
kind (clean_part q) = record { fields = clean_response; way = λ s n. once (clean_sent n) (clean_part_work s q) s }
kind (export q) = record { fields = export_response; way = λ s n. once (export_sent n) (export_work s q) s }
kind (export_delta q) = record { fields = export_response; way = λ s n. once (export_sent n) (export_delta_work s q) s }
kind (import q) = record { fields = import_response; way = λ s n. once (import_sent n) (import_work s q) s }
kind (import_delta q) = record { fields = import_response; way = λ s n. once (import_sent n) (import_delta_work s q) s }
kind (get q) = record { fields = get_response; way = λ s n. once (get_sent n) (get_work s q) s }
kind (cover q) = record { fields = cover_response; way = λ s n. once (cover_sent n) (cover_work s q) s }
kind (forget_group group) =
    record { fields = forget_group_response; way = λ s n. once (forget_group_sent n) (forget_group_work s group) s }
kind (trim q) = record { fields = trim_response; way = λ s n. once (trim_sent n) (trim_work s q) s }
