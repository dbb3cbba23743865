-- Requests read from left to right, as the code goes; `Requests` says what comes of it.
use Rattle.std.specs.Prelude.{List, ℕ}
use Rattle.request_frames.specs.declared.api.Api.{Api}
use Rattle.request_frames.specs.declared.api.Api.TheVariants.{Produce, Fetch, ListOffsets, Metadata, OffsetCommit, OffsetFetch, FindCoordinator, ApiVersions, InitProducerId, Deliver, Clean, CleanPart, Export, ExportDelta, Import, ImportDelta, Get, Cover, ForgetGroup, Trim}
use Rattle.frame_fields.specs.Types.{nullable_string}
use Rattle.frame_fields.specs.Reading.{◌>>=◌, At, map_read, read_field, read_fields}
use Rattle.request_frames.specs.Requests.BodyValue.{produce, fetch, list_offsets, metadata, offset_commit, offset_fetch, find_coordinator, api_versions, init_producer_id, deliver, clean, clean_part, export, export_delta, import, import_delta, get, cover, forget_group, trim}
use Rattle.request_frames.specs.Requests.{BodyValue}
use Rattle.request_frames.specs.Produce.{produce_fields, produce_request}
use Rattle.request_frames.specs.Fetch.{fetch_fields, fetch_request}
use Rattle.request_frames.specs.ListOffsets.{list_offsets_fields, list_offsets_request}
use Rattle.request_frames.specs.Metadata.{metadata_fields, metadata_request}
use Rattle.request_frames.specs.OffsetCommit.{offset_commit_fields, offset_commit_request}
use Rattle.request_frames.specs.OffsetFetch.{offset_fetch_fields, offset_fetch_request}
use Rattle.request_frames.specs.FindCoordinator.{find_coordinator_fields, find_coordinator_request}
use Rattle.request_frames.specs.ApiVersions.{api_versions_fields, api_versions_request}
use Rattle.request_frames.specs.InitProducerId.{init_producer_id_fields, init_producer_id_request}
use Rattle.request_frames.specs.Deliver.{deliver_fields, deliver_request}
use Rattle.request_frames.specs.Clean.{clean_fields, clean_request}
use Rattle.request_frames.specs.CleanPart.{clean_part_fields, clean_part_request}
use Rattle.request_frames.specs.Export.{export_fields, export_request}
use Rattle.request_frames.specs.ExportDelta.{export_delta_fields, export_delta_request}
use Rattle.request_frames.specs.Import.{import_fields, import_request}
use Rattle.request_frames.specs.ImportDelta.{import_delta_fields, import_delta_request}
use Rattle.request_frames.specs.Get.{get_fields, get_request}
use Rattle.request_frames.specs.Cover.{cover_fields, cover_request}
use Rattle.request_frames.specs.ForgetGroup.{forget_group_fields, forget_group_request}
use Rattle.request_frames.specs.Trim.{trim_fields, trim_request}

-- what stands behind the client id
abbrev pub read_body : Api → List ℕ → At BodyValue
read_body Produce bytes = map_read produce (map_read produce_request (read_fields produce_fields bytes))
read_body Fetch bytes = map_read fetch (map_read fetch_request (read_fields fetch_fields bytes))
read_body ListOffsets bytes = map_read list_offsets (map_read list_offsets_request (read_fields list_offsets_fields bytes))
read_body Metadata bytes = map_read metadata (map_read metadata_request (read_fields metadata_fields bytes))
read_body OffsetCommit bytes = map_read offset_commit (map_read offset_commit_request (read_fields offset_commit_fields bytes))
read_body OffsetFetch bytes = map_read offset_fetch (map_read offset_fetch_request (read_fields offset_fetch_fields bytes))
read_body FindCoordinator bytes = map_read find_coordinator (map_read find_coordinator_request (read_fields find_coordinator_fields bytes))
read_body ApiVersions bytes = map_read api_versions (map_read api_versions_request (read_fields api_versions_fields bytes))
read_body InitProducerId bytes = map_read init_producer_id (map_read init_producer_id_request (read_fields init_producer_id_fields bytes))
read_body Deliver bytes = map_read deliver (map_read deliver_request (read_fields deliver_fields bytes))
read_body Clean bytes = map_read clean (map_read clean_request (read_fields clean_fields bytes))
read_body CleanPart bytes = map_read clean_part (map_read clean_part_request (read_fields clean_part_fields bytes))
read_body Export bytes = map_read export (map_read export_request (read_fields export_fields bytes))
read_body ExportDelta bytes = map_read export_delta (map_read export_delta_request (read_fields export_delta_fields bytes))
read_body Import bytes = map_read import (map_read import_request (read_fields import_fields bytes))
read_body ImportDelta bytes = map_read import_delta (map_read import_delta_request (read_fields import_delta_fields bytes))
read_body Get bytes = map_read get (map_read get_request (read_fields get_fields bytes))
read_body Cover bytes = map_read cover (map_read cover_request (read_fields cover_fields bytes))
read_body ForgetGroup bytes = map_read forget_group (map_read forget_group_request (read_fields forget_group_fields bytes))
read_body Trim bytes = map_read trim (map_read trim_request (read_fields trim_fields bytes))

unfoldable pub read_request : Api → List ℕ → At BodyValue
read_request api bytes = do
  client ← read_field nullable_string bytes
  read_body api client.1
