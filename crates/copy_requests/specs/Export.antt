-- Export: the image of a partition is sent. This project's own request.
use Rattle.std.specs.Prelude.{ℕ, ℤ, true, nat_lt, List, [], ◌∷◌, length}
use Rattle.copy_images.specs.Images.{image_of}
use Rattle.request_frames.specs.Export.{ExportValue}
use Rattle.responses.specs.Responses.{response}
use Rattle.responses.specs.Export.{export_response, export_value}
use Rattle.answering.specs.declared.codes.ErrorCode.TheVariants.{MessageTooLarge}
use Rattle.answering.specs.Lists.{fault_if}
use Rattle.answering.specs.Codes.{no_error, code_number}
use Rattle.answering.specs.Work.{Work}
use Rattle.broker_state.specs.State.{State, content_at}
use Rattle.broker_state.specs.Checks.{unknown}
use Rattle.copy_requests.specs.declared.export.TheConstants.{MAX_EXPORT_BYTES}

-- the bytes are an image, or a delta
pub record ExportResult : Type 0 where
  pub code : ℤ
  pub sent : List ℕ

abbrev pub export_work : State → ExportValue → Work ExportResult State
export_work s q =
    let image = image_of (content_at s q.topic q.partition) in
    record {
      early = unknown s q.topic q.partition ∷ fault_if (nat_lt MAX_EXPORT_BYTES (length image)) MessageTooLarge ∷ [];
      takes_memory = true;
      late = [];
      done = (record { code = no_error; sent = image }, s);
      failed = λ code. record { code = code_number code; sent = [] };
    }

abbrev pub export_sent : (correlation : ℤ) → ExportResult → List ℕ
export_sent correlation r = response correlation export_response (export_value r.code r.sent)
