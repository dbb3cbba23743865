-- The frames by which a broker cleans itself: the Clean that it asks itself for, and the response to it. Kafka's
-- documentation, "Protocol Guide", sections "Request Header", "Response Header" and "The Messages".
use Rattle.std.specs.Prelude.{◌≡◌, ℤ, List, ℕ, None}
use Rattle.responses.specs.declared.clean.CleanAnswer.{CleanAnswer}
use Rattle.request_frames.specs.declared.api.Api.TheVariants.{Clean, CleanPart}
use Rattle.frame_fields.specs.Fields.{Fields, Value, Fits, encoded}
use Rattle.frame_fields.specs.Types.{int16, int32, ◌⨾◌}
use Rattle.request_frames.specs.Apis.{api_key, api_version}
use Rattle.request_frames.specs.Clean.{CleanValue}
use Rattle.request_frames.specs.CleanPart.{CleanPartValue}
use Rattle.request_frames.specs.Requests.{body_fields}
use Rattle.responses.specs.Clean.{clean_response, clean_value}
use Rattle.responses.specs.Responses.{response}

-- ---- the request

abbrev pub cleaning : (topic : List ℕ) (partition upto tomb_before : ℤ) → CleanValue
cleaning topic partition upto tomb_before =
    record { topic = topic; partition = partition; upto = upto; tomb_before = tomb_before }

-- no client id, and what is asked
abbrev pub clean_body : CleanValue → Value (body_fields Clean)
clean_body q = (None, (q.topic, (q.partition, (q.upto, (q.tomb_before, tt)))))

-- api key, version, correlation id, and what follows them in a Clean
abbrev pub frame_fields : Fields
frame_fields = int16 ⨾ int16 ⨾ int32 ⨾ body_fields Clean

-- the frame that asks for a cleaning, without its size
abbrev pub clean_frame : (correlation : ℤ) → CleanValue → List ℕ
clean_frame correlation q =
    encoded frame_fields (api_key Clean, (api_version Clean, (correlation, clean_body q)))

-- ---- the request for a part

abbrev pub part_cleaning : (topic : List ℕ) (partition from to upto tomb_before : ℤ) → CleanPartValue
part_cleaning topic partition from to upto tomb_before =
    record { topic = topic; partition = partition; from = from; to = to; upto = upto; tomb_before = tomb_before }

-- no client id, and what is asked
abbrev pub clean_part_body : CleanPartValue → Value (body_fields CleanPart)
clean_part_body q = (None, (q.topic, (q.partition, (q.from, (q.to, (q.upto, (q.tomb_before, tt)))))))

-- api key, version, correlation id, and what follows them in a Clean of a part
abbrev pub part_frame_fields : Fields
part_frame_fields = int16 ⨾ int16 ⨾ int32 ⨾ body_fields CleanPart

-- the frame that asks for the cleaning of a part, without its size
abbrev pub clean_part_frame : (correlation : ℤ) → CleanPartValue → List ℕ
clean_part_frame correlation q =
    encoded part_frame_fields (api_key CleanPart, (api_version CleanPart, (correlation, clean_part_body q)))

-- ---- the response

-- the bytes are a response to a Clean with this answer, its size in front; its correlation id may be any
pub record IsCleanReply (bytes : List ℕ) (answer : CleanAnswer) : Type 0 where
  pub correlation : ℤ
  pub fits : Fits clean_response (clean_value answer)
  pub is_response : bytes ≡ response correlation clean_response (clean_value answer)
