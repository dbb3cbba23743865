-- The requests that are read: their fields, what they say, and which frames are refused. Kafka's documentation,
-- "Protocol Guide", sections "Request Header" and "The Messages".
use Rattle.std.specs.Prelude.{◌≡◌, ◌⊎◌, true, false, ℕ, ◌<◌, ◌≤◌, ℤ, List, [], length, drop, Option}
use Rattle.request_frames.specs.declared.api.Api.{Api}
use Rattle.request_frames.specs.declared.api.Api.TheVariants.{Produce, Fetch, ListOffsets, Metadata, OffsetCommit, OffsetFetch, FindCoordinator, ApiVersions, InitProducerId, Deliver, Clean, CleanPart, Export, ExportDelta, Import, ImportDelta, Get, Cover, ForgetGroup, Trim}
use Rattle.frame_fields.specs.declared.error.FieldFault.{FieldFault}
use Rattle.frame_fields.specs.declared.error.FieldFault.TheVariants as field
use Rattle.frame_fields.specs.declared.error.FrameError.{FrameError}
use Rattle.frame_fields.specs.declared.error.FrameError.TheVariants as frame
use Rattle.frame_fields.specs.Fields.{size16, size32, Fields, Value, number_at, Encodes, Breaks}
use Rattle.frame_fields.specs.Types.{nullable_string, TopicOf, ◌⨾◌}
use Rattle.request_frames.specs.Apis.{is_unread, IsApi, IsNoApi}
use Rattle.request_frames.specs.Produce.{ProduceValue, produce_fields, produce_request}
use Rattle.request_frames.specs.Fetch.{FetchValue, fetch_fields, fetch_request}
use Rattle.request_frames.specs.ListOffsets.{ListOffsetsPartitionValue, list_offsets_fields, list_offsets_request}
use Rattle.request_frames.specs.Metadata.{metadata_fields, metadata_request}
use Rattle.request_frames.specs.OffsetCommit.{OffsetCommitValue, offset_commit_fields, offset_commit_request}
use Rattle.request_frames.specs.OffsetFetch.{OffsetFetchValue, offset_fetch_fields, offset_fetch_request}
use Rattle.request_frames.specs.FindCoordinator.{find_coordinator_fields, find_coordinator_request}
use Rattle.request_frames.specs.ApiVersions.{api_versions_fields, api_versions_request}
use Rattle.request_frames.specs.InitProducerId.{init_producer_id_fields, init_producer_id_request}
use Rattle.request_frames.specs.Deliver.{DeliverValue, deliver_fields, deliver_request}
use Rattle.request_frames.specs.Clean.{CleanValue, clean_fields, clean_request}
use Rattle.request_frames.specs.CleanPart.{CleanPartValue, clean_part_fields, clean_part_request}
use Rattle.request_frames.specs.Export.{ExportValue, export_fields, export_request}
use Rattle.request_frames.specs.ExportDelta.{ExportDeltaValue, export_delta_fields, export_delta_request}
use Rattle.request_frames.specs.Import.{ImportValue, import_fields, import_request}
use Rattle.request_frames.specs.ImportDelta.{ImportDeltaValue, import_delta_fields, import_delta_request}
use Rattle.request_frames.specs.Get.{GetValue, get_fields, get_request}
use Rattle.request_frames.specs.Cover.{CoverValue, cover_fields, cover_request}
use Rattle.request_frames.specs.ForgetGroup.{forget_group_fields, forget_group_request}
use Rattle.request_frames.specs.Trim.{TrimValue, trim_fields, trim_request}

-- ---- what requests say

-- api_versions has the version in which it is asked, find_coordinator the group, init_producer_id the transactional id
pub data BodyValue : Type 0 where
  produce : ProduceValue → BodyValue
  fetch : FetchValue → BodyValue
  list_offsets : List (TopicOf ListOffsetsPartitionValue) → BodyValue
  metadata : Option (List (List ℕ)) → BodyValue
  offset_commit : OffsetCommitValue → BodyValue
  offset_fetch : OffsetFetchValue → BodyValue
  find_coordinator : List ℕ → BodyValue
  api_versions : ℤ → BodyValue
  init_producer_id : Option (List ℕ) → BodyValue
  deliver : DeliverValue → BodyValue
  clean : CleanValue → BodyValue
  clean_part : CleanPartValue → BodyValue
  export : ExportValue → BodyValue
  export_delta : ExportDeltaValue → BodyValue
  import : ImportValue → BodyValue
  import_delta : ImportDeltaValue → BodyValue
  get : GetValue → BodyValue
  cover : CoverValue → BodyValue
  forget_group : List ℕ → BodyValue
  trim : TrimValue → BodyValue

pub record RequestValue : Type 0 where
  pub correlation : ℤ
  pub body : BodyValue

-- ---- the table of requests

-- the fields that follow the client id, and what their values say
pub record Said : Type 0 where
  pub fields : Fields
  pub body : Value fields → BodyValue

abbrev pub said_by : Api → Said
said_by Produce = record { fields = produce_fields; body = λ v. produce (produce_request v) }
said_by Fetch = record { fields = fetch_fields; body = λ v. fetch (fetch_request v) }
said_by ListOffsets = record { fields = list_offsets_fields; body = λ v. list_offsets (list_offsets_request v) }
said_by Metadata = record { fields = metadata_fields; body = λ v. metadata (metadata_request v) }
said_by OffsetCommit = record { fields = offset_commit_fields; body = λ v. offset_commit (offset_commit_request v) }
said_by OffsetFetch = record { fields = offset_fetch_fields; body = λ v. offset_fetch (offset_fetch_request v) }
said_by FindCoordinator = record { fields = find_coordinator_fields; body = λ v. find_coordinator (find_coordinator_request v) }
said_by ApiVersions = record { fields = api_versions_fields; body = λ v. api_versions (api_versions_request v) }
said_by InitProducerId = record { fields = init_producer_id_fields; body = λ v. init_producer_id (init_producer_id_request v) }
said_by Deliver = record { fields = deliver_fields; body = λ v. deliver (deliver_request v) }
said_by Clean = record { fields = clean_fields; body = λ v. clean (clean_request v) }
said_by CleanPart = record { fields = clean_part_fields; body = λ v. clean_part (clean_part_request v) }
said_by Export = record { fields = export_fields; body = λ v. export (export_request v) }
said_by ExportDelta = record { fields = export_delta_fields; body = λ v. export_delta (export_delta_request v) }
said_by Import = record { fields = import_fields; body = λ v. import (import_request v) }
said_by ImportDelta = record { fields = import_delta_fields; body = λ v. import_delta (import_delta_request v) }
said_by Get = record { fields = get_fields; body = λ v. get (get_request v) }
said_by Cover = record { fields = cover_fields; body = λ v. cover (cover_request v) }
said_by ForgetGroup = record { fields = forget_group_fields; body = λ v. forget_group (forget_group_request v) }
said_by Trim = record { fields = trim_fields; body = λ v. trim (trim_request v) }

abbrev pub fields_of : Api → Fields
fields_of api = (said_by api).fields

abbrev pub body_value : (api : Api) → Value (fields_of api) → BodyValue
body_value api v = (said_by api).body v

-- ---- frames

abbrev pub key_of : List ℕ → ℤ
key_of frame = number_at size16 frame

abbrev pub version_of : List ℕ → ℤ
version_of frame = number_at size16 (drop 2 frame)

abbrev pub correlation_of : List ℕ → ℤ
correlation_of frame = number_at size32 (drop 4 frame)

-- the client id, and the request's fields
abbrev pub body_fields : Api → Fields
body_fields api = nullable_string ⨾ fields_of api

-- what stands behind key, version and correlation id
abbrev pub body_of : List ℕ → List ℕ
body_of frame = drop 8 frame

-- the frame has the key and the version of a request
pub record IsOf (api : Api) (frame : List ℕ) : Type 0 where
  pub has_header : 8 ≤ length frame
  pub has_api : IsApi (key_of frame) (version_of frame) api

-- the frame is the encoding of the request; what isn't used may be anything
abbrev pub IsReadRequest : List ℕ → RequestValue → Type 0
IsReadRequest bytes q =
    (api : Api) × IsOf api bytes × (v : Value (body_fields api)) × Encodes (body_fields api) v (body_of bytes) []
    × (q ≡ record { correlation = correlation_of bytes; body = body_value api v.1 })

-- ApiVersions in a version that isn't read: what stands behind the correlation id may be anything. Kafka's documentation,
-- "Protocol Guide", section "Retrieving Supported API versions".
pub record IsUnread (frame : List ℕ) : Type 0 where
  pub has_header : 8 ≤ length frame
  pub is_unread : is_unread (key_of frame) (version_of frame) ≡ true

abbrev pub unread_request : List ℕ → RequestValue
unread_request frame = record { correlation = correlation_of frame; body = api_versions (version_of frame) }

abbrev pub IsRequest : List ℕ → RequestValue → Type 0
IsRequest bytes q = IsReadRequest bytes q ⊎ IsUnread bytes × (q ≡ unread_request bytes)

abbrev pub HasFault : FieldFault → List ℕ → Type 0
HasFault e bytes = (api : Api) × IsOf api bytes × Breaks (body_fields api) e (body_of bytes)

-- why a whole frame is no request
abbrev pub IsRefused : FrameError → List ℕ → Type 0
IsRefused frame.NegativeSize bytes = ⊥
IsRefused frame.TooLarge bytes = ⊥
IsRefused frame.ShortHeader bytes = length bytes < 8
IsRefused frame.UnknownApi bytes = (8 ≤ length bytes) × IsNoApi (key_of bytes) (version_of bytes) frame.UnknownApi
IsRefused frame.BadVersion bytes =
    (8 ≤ length bytes) × IsNoApi (key_of bytes) (version_of bytes) frame.BadVersion
    × (is_unread (key_of bytes) (version_of bytes) ≡ false)
IsRefused frame.ShortBody bytes = HasFault field.ShortBody bytes
IsRefused frame.Malformed bytes = HasFault field.Malformed bytes
IsRefused frame.TrailingBytes bytes =
    (api : Api) × IsOf api bytes × (v : Value (body_fields api)) × (rest : List ℕ) × Encodes (body_fields api) v (body_of bytes) rest
    × (0 < length rest)
IsRefused frame.OutOfMemory bytes = ⊥
