-- Replies whose fields have an encoding, so that a client reads them back. Kafka's documentation, "Protocol Guide",
-- sections "Protocol Primitive Types" (a length is an int16 or an int32) and "Common Request and Response Structure" (a
-- size is an int32).
use Rattle.std.specs.Prelude.{◌≡◌, ◌^◌, ℕ, ◌<◌, ℤ, List, length, Option, Some, None, FitsSigned, ⊤}
use Rattle.std.specs.Int.{w32}
use Rattle.frame_fields.specs.Fields.{Fields, Value, Fits}
use Rattle.request_frames.specs.Requests.{BodyValue, RequestValue}
use Rattle.responses.specs.Responses.{response}
use Rattle.broker_node.specs.Kinds.{kind}

-- the fields of the response to a request
abbrev pub response_fields : BodyValue → Fields
response_fields body = (kind body).fields

-- The bytes are a response of values that fit their fields, and an int32 holds its size.
pub record IsFitting (correlation : ℤ) (d : Fields) (bytes : List ℕ) : Type 0 where
  pub value : Value d
  pub is_response : bytes ≡ response correlation d value
  pub correlation_fits : FitsSigned w32 correlation
  pub fits : Fits d value
  pub size : length bytes < 2 ^ 31

-- nothing is sent, or a response that fits
abbrev pub FitsIfSent : (correlation : ℤ) → Fields → Option (List ℕ) → Type 0
FitsIfSent correlation d None = ⊤
FitsIfSent correlation d (Some bytes) = IsFitting correlation d bytes

-- what is replied to a request fits
abbrev pub FitsReply : RequestValue → Option (List ℕ) → Type 0
FitsReply q out = FitsIfSent q.correlation (response_fields q.body) out
