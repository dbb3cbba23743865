-- Whatever may be replied to a frame fits its fields, and the state stays sound.
--
-- A further request joins by its response's fields in `Fitting`, a file of its own, and one case of `body_fits`. Of a request of entries
-- that file shows what `TopicsFit` asks for of one entry, and ends by `topics_fit` and `fitting_response`, as `ListOffsetsFits`. Of one
-- that is answered once it shows that each result fits and how many bytes it has, and ends by `once_fits`, as `CleanFits`; of one whose
-- response has many parts it shows the same of the whole, and ends by `fitting_response`, as `MetadataFits`.
use Rattle.std.proofs.Common.{◌≡◌, inl, inr, ℕ, ◌≤◌, ℤ, pos, List, [], length, drop, Option, sym, ap, subst, ◌∙◌, arith}
use Rattle.std.specs.Prelude.{FitsSigned}
use Rattle.std.specs.Int.{w32}
use Rattle.std.proofs.lemmas.Int.{ints}
use Rattle.std.proofs.lemmas.List.{length-drop, append-nil}
use Rattle.frame_fields.specs.Fields.{size32, Value, encoded, Encodes}
use Rattle.frame_fields.specs.Frames.{IsBytes, IsWithinLimit}
use Rattle.frame_fields.proofs.Numbers.{IsBytes-drop, number_fits}
use Rattle.request_frames.specs.declared.api.Api.{Api}
use Rattle.request_frames.specs.declared.api.Api.TheVariants.{Produce, Fetch, ListOffsets, Metadata, OffsetCommit, OffsetFetch, FindCoordinator, ApiVersions, InitProducerId, Deliver, Clean, CleanPart, Export, ExportDelta, Import, ImportDelta, Get, Cover, ForgetGroup, Trim}
use Rattle.request_frames.specs.Requests.{fields_of, body_value, RequestValue, body_fields, body_of, version_of, correlation_of, IsRequest}
use Rattle.answering.specs.Work.{MayAnswer}
use Rattle.broker_state.specs.State.{State}
use Rattle.broker_state.specs.Sound.{IsSound}
use Rattle.broker_node.specs.Replies.{RepliesTo, MayReply}
use Rattle.broker_node.specs.Fitting.{response_fields, FitsReply}
use Rattle.broker_laws.proofs.Said.{IsPart, later}
use Rattle.broker_laws.proofs.FittingResponses.{IsKept, frame_limit}
use Rattle.broker_laws.proofs.ProduceFits.{produce_fits}
use Rattle.broker_laws.proofs.FetchFits.{fetch_fits}
use Rattle.broker_laws.proofs.ListOffsetsFits.{list_offsets_fits}
use Rattle.broker_laws.proofs.MetadataFits.{metadata_fits}
use Rattle.broker_laws.proofs.OffsetCommitFits.{offset_commit_fits}
use Rattle.broker_laws.proofs.OffsetFetchFits.{offset_fetch_fits}
use Rattle.broker_laws.proofs.FindCoordinatorFits.{find_coordinator_fits}
use Rattle.broker_laws.proofs.ApiVersionsFits.{versions_fit, api_versions_fits}
use Rattle.broker_laws.proofs.InitProducerIdFits.{init_producer_id_fits}
use Rattle.broker_laws.proofs.DeliverFits.{deliver_fits}
use Rattle.broker_laws.proofs.CleanFits.{clean_fits, clean_part_fits}
use Rattle.broker_laws.proofs.ExportFits.{export_fits}
use Rattle.broker_laws.proofs.ExportDeltaFits.{export_delta_fits}
use Rattle.broker_laws.proofs.ImportFits.{import_fits}
use Rattle.broker_laws.proofs.ImportDeltaFits.{import_delta_fits}
use Rattle.broker_laws.proofs.GetFits.{get_fits}
use Rattle.broker_laws.proofs.CoverFits.{cover_fits}
use Rattle.broker_laws.proofs.ForgetGroupFits.{forget_group_fits}
use Rattle.broker_laws.proofs.TrimFits.{trim_fits}

body_part : (api : Api) (frame : List ℕ) (v : Value (body_fields api)) → IsBytes frame → Encodes (body_fields api) v (body_of frame) [] → IsPart (length frame) (fields_of api) v.1
body_part api frame v bytes encodes =
    let whole : drop 8 frame ≡ encoded (body_fields api) v = encodes.parts ∙ append-nil (encoded (body_fields api) v) in
    let same : length (drop 8 frame) ≡ length (encoded (body_fields api) v) = ap length whole in
    later (record {
      said = record { fits = encodes.fits; bytes = subst IsBytes whole (IsBytes-drop 8 frame bytes) };
      long = omega (arith, same, length-drop 8 frame);
    })

-- ---- all requests

body_fits : (api : Api) (n : ℕ) (s : State) (correlation : ℤ) (v : Value (fields_of api)) (out : Option (List ℕ)) (after : State) → n ≤ frame_limit → IsSound s → FitsSigned w32 correlation → IsPart n (fields_of api) v
    → RepliesTo (λ R S w. MayAnswer w) s correlation (body_value api v) out after → IsKept correlation (response_fields (body_value api v)) out after
body_fits Produce = produce_fits
body_fits Fetch = fetch_fits
body_fits ListOffsets = list_offsets_fits
body_fits Metadata = metadata_fits
body_fits OffsetCommit = offset_commit_fits
body_fits OffsetFetch = offset_fetch_fits
body_fits FindCoordinator = find_coordinator_fits
body_fits ApiVersions = api_versions_fits
body_fits InitProducerId = init_producer_id_fits
body_fits Deliver = deliver_fits
body_fits Clean = clean_fits
body_fits CleanPart = clean_part_fits
body_fits Export = export_fits
body_fits ExportDelta = export_delta_fits
body_fits Import = import_fits
body_fits ImportDelta = import_delta_fits
body_fits Get = get_fits
body_fits Cover = cover_fits
body_fits ForgetGroup = forget_group_fits
body_fits Trim = trim_fits

within_limit : (frame : List ℕ) → IsWithinLimit (pos (length frame)) → length frame ≤ frame_limit
within_limit frame low = omega (arith, ints, low)

reply_kept : (s after : State) (frame : List ℕ) (q : RequestValue) (out : Option (List ℕ)) → IsSound s → IsBytes frame → IsWithinLimit (pos (length frame)) → IsRequest frame q → MayReply s q out after → FitsReply q out × IsSound after
reply_kept s after frame q out sound bytes low (inr (unread, says)) h =
    let number : FitsSigned w32 (correlation_of frame) = number_fits size32 (drop 4 frame) (IsBytes-drop 4 frame bytes) in
    subst (λ (x : RequestValue). FitsReply x out × IsSound after) (sym says)
    (versions_fit s (correlation_of frame) (version_of frame) out after sound number (subst (λ (x : RequestValue). MayReply s x out after) says h))
reply_kept s after frame q out sound bytes low (inl (api, is, v, encodes, says)) h =
    let number : FitsSigned w32 (correlation_of frame) = number_fits size32 (drop 4 frame) (IsBytes-drop 4 frame bytes) in
    subst (λ (x : RequestValue). FitsReply x out × IsSound after) (sym says)
    (body_fits api (length frame) s (correlation_of frame) v.1 out after (within_limit frame low) sound number (body_part api frame v bytes encodes) (subst (λ (x : RequestValue). MayReply s x out after) says h))

pub reply_fits : (s after : State) (frame : List ℕ) (q : RequestValue) (out : Option (List ℕ)) → IsSound s → IsBytes frame → IsWithinLimit (pos (length frame)) → IsRequest frame q → MayReply s q out after → FitsReply q out
reply_fits s after frame q out sound bytes low is h = (reply_kept s after frame q out sound bytes low is h).0

pub reply_keeps_sound : (s after : State) (frame : List ℕ) (q : RequestValue) (out : Option (List ℕ)) → IsSound s → IsBytes frame → IsWithinLimit (pos (length frame)) → IsRequest frame q → MayReply s q out after → IsSound after
reply_keeps_sound s after frame q out sound bytes low is h = (reply_kept s after frame q out sound bytes low is h).1
