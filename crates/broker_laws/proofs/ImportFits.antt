-- The response to Import fits its fields, and the state stays sound: an image is of a valid content, and any two of these merge into
-- one.
use Rattle.std.proofs.Common.{◌≡◌, ℕ, ◌≤◌, ℤ, List, Option, Some, None, refl, arith}
use Rattle.std.specs.Prelude.{FitsSigned}
use Rattle.std.specs.Option.{unwrap_or}
use Rattle.std.specs.Int.{w16, w32}
use Rattle.content.specs.Content.{Content, IsContent, empty}
use Rattle.content_laws.proofs.ContentSteps.{content_join}
use Rattle.partition_log.proofs.Kept.{empty_content}
use Rattle.copy_images.specs.Images.{IsImage}
use Rattle.copy_images.specs.Reading.{image_at}
use Rattle.copy_images.proofs.ReadBack.{image_read}
use Rattle.frame_fields.specs.Fields.{Value, Fits, encoded, end}
use Rattle.frame_fields.specs.Frames.{IsBytes}
use Rattle.request_frames.specs.Import.{import_fields, import_request}
use Rattle.responses.specs.Import.{import_response, import_value}
use Rattle.answering.specs.Codes.{no_error, code_number}
use Rattle.answering.specs.Work.{MayAnswer}
use Rattle.answering.specs.Once.{RepliesOnce}
use Rattle.broker_state.specs.declared.config.Role.{Role}
use Rattle.broker_state.specs.declared.config.Role.TheVariants.{Leader, Follower}
use Rattle.broker_state.specs.State.{State, content_at}
use Rattle.broker_state.specs.Sound.{IsSound}
use Rattle.broker_state.proofs.SoundStates.{content_valid, sound_with}
use Rattle.copy_requests.specs.Import.{imported, import_work, import_sent}
use Rattle.broker_laws.proofs.Said.{IsPart, later}
use Rattle.broker_laws.proofs.Works.{no_error_fits, code_fits}
use Rattle.broker_laws.proofs.FittingResponses.{IsKept, frame_limit}
use Rattle.broker_laws.proofs.OnceFits.{FitsOnce, once_fits, bytes_said}

given_valid : (bytes : List ℕ) → IsBytes bytes → IsContent (unwrap_or (image_at bytes) empty)
given_valid bytes are = by (image_at bytes) refl
  where
    by : (o : Option Content) → image_at bytes ≡ o → IsContent (unwrap_or o empty)
    by None e = empty_content
    by (Some c) e = let image : IsImage bytes c = image_read bytes c are e in image.content

imported_valid : (role : Role) (here given : Content) → IsContent here → IsContent given → IsContent (imported role here given)
imported_valid Leader here given is_here is_given = is_given
imported_valid Follower here given is_here is_given = content_join here given is_here is_given

pub answered : (code : ℤ) → FitsSigned w16 code → FitsOnce import_response (import_value (record { code = code }))
unfolding Fits encoded
answered code c = record { fits = (c, tt); size = omega arith }

pub import_fits : (n : ℕ) (s : State) (correlation : ℤ) (v : Value import_fields) (out : Option (List ℕ)) (after : State) → n ≤ frame_limit → IsSound s → FitsSigned w32 correlation → IsPart n import_fields v
    → RepliesOnce (λ R S w. MayAnswer w) (import_sent correlation) (import_work s (import_request v)) s out after → IsKept correlation import_response out after
import_fits n s correlation v out after low sound number part h =
    let q = import_request v in
    let here = content_at s q.topic q.partition in
    let given = unwrap_or (image_at q.image) empty in
    let valid = imported_valid s.config.role here given (content_valid s q.topic q.partition sound) (given_valid q.image (bytes_said end v.1.1 (later (later part)).said)) in
    once_fits correlation import_response import_value (import_work s q) s out after number sound
    (λ code. answered (code_number code) (code_fits code))
    (λ none. (answered no_error no_error_fits, sound_with s q.topic q.partition (imported s.config.role here given) valid sound))
    h
