-- What requests say, apart from where their bytes lie.
use Rattle.std.specs.Prelude.{◌≡◌, ℕ, List}
use Rattle.request_frames.specs.declared.parsing.Header.{Header}
use Rattle.request_frames.specs.declared.parsing.Request.{Request}
use Rattle.request_frames.specs.declared.parsing.RequestBody.{RequestBody}
use Rattle.request_frames.specs.declared.parsing.RequestBody.TheVariants as variants
use Rattle.request_frames.specs.Produce.{produce_view}
use Rattle.request_frames.specs.Fetch.{fetch_view}
use Rattle.request_frames.specs.ListOffsets.{list_offsets_view}
use Rattle.request_frames.specs.Metadata.{metadata_view}
use Rattle.request_frames.specs.OffsetCommit.{offset_commit_view}
use Rattle.request_frames.specs.OffsetFetch.{offset_fetch_view}
use Rattle.request_frames.specs.FindCoordinator.{find_coordinator_view}
use Rattle.request_frames.specs.ApiVersions.{api_versions_view}
use Rattle.request_frames.specs.InitProducerId.{init_producer_id_view}
use Rattle.request_frames.specs.Deliver.{deliver_view}
use Rattle.request_frames.specs.Clean.{clean_view}
use Rattle.request_frames.specs.CleanPart.{clean_part_view}
use Rattle.request_frames.specs.Export.{export_view}
use Rattle.request_frames.specs.ExportDelta.{export_delta_view}
use Rattle.request_frames.specs.Import.{import_view}
use Rattle.request_frames.specs.ImportDelta.{import_delta_view}
use Rattle.request_frames.specs.Get.{get_view}
use Rattle.request_frames.specs.Cover.{cover_view}
use Rattle.request_frames.specs.ForgetGroup.{forget_group_view}
use Rattle.request_frames.specs.Trim.{trim_view}
use Rattle.request_frames.specs.Requests.BodyValue.{produce, fetch, list_offsets, metadata, offset_commit, offset_fetch, find_coordinator, api_versions, init_producer_id, deliver, clean, clean_part, export, export_delta, import, import_delta, get, cover, forget_group, trim}
use Rattle.request_frames.specs.Requests.{BodyValue, RequestValue, key_of, version_of, correlation_of}

abbrev pub request_body : RequestBody → BodyValue
request_body (variants.Produce r) = produce (produce_view r)
request_body (variants.Fetch r) = fetch (fetch_view r)
request_body (variants.ListOffsets r) = list_offsets (list_offsets_view r)
request_body (variants.Metadata r) = metadata (metadata_view r)
request_body (variants.OffsetCommit r) = offset_commit (offset_commit_view r)
request_body (variants.OffsetFetch r) = offset_fetch (offset_fetch_view r)
request_body (variants.FindCoordinator r) = find_coordinator (find_coordinator_view r)
request_body (variants.ApiVersions r) = api_versions (api_versions_view r)
request_body (variants.InitProducerId r) = init_producer_id (init_producer_id_view r)
request_body (variants.Deliver r) = deliver (deliver_view r)
request_body (variants.Clean r) = clean (clean_view r)
request_body (variants.CleanPart r) = clean_part (clean_part_view r)
request_body (variants.Export r) = export (export_view r)
request_body (variants.ExportDelta r) = export_delta (export_delta_view r)
request_body (variants.Import r) = import (import_view r)
request_body (variants.ImportDelta r) = import_delta (import_delta_view r)
request_body (variants.Get r) = get (get_view r)
request_body (variants.Cover r) = cover (cover_view r)
request_body (variants.ForgetGroup r) = forget_group (forget_group_view r)
request_body (variants.Trim r) = trim (trim_view r)

abbrev pub request_value : Request → RequestValue
request_value q = record { correlation = q.correlation; body = request_body q.body }

-- the fixed fields at the front of a frame
pub record IsHeaderOf (frame : List ℕ) (h : Header) : Type 0 where
  pub key : h.key ≡ key_of frame
  pub version : h.version ≡ version_of frame
  pub correlation : h.correlation ≡ correlation_of frame
