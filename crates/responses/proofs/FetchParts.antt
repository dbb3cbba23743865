-- The parts of a Fetch response, one after the other, are the encoding of its fields.
use Rattle.std.proofs.Common.{◌≡◌, ℕ, List, ◌++◌, length, ap, ◌∙◌, append-nil}
use Rattle.std.specs.Prelude.{pos}
use Rattle.std.specs.List.{flat_map}
use Rattle.frame_fields.specs.Fields.{size32, be, encoded}
use Rattle.frame_fields.specs.Types.{TopicOf, int32, bytes}
use Rattle.responses.specs.Responses.{topic_bytes}
use Rattle.responses.specs.Fetch.{Fetched, fetched_fields, fetched_value, fetch_response, fetch_value, fetch_head, fetched_bytes}
use Rattle.responses.proofs.ResponseParts.{topics_are}

fetched_is : (p : Fetched) → encoded (fetched_fields bytes) (fetched_value p.partition bytes p.records) ≡ fetched_bytes p
unfolding encoded
fetched_is p = ap (λ (x : List ℕ). encoded (fetched_fields int32) (fetched_value p.partition int32 (pos (length p.records))) ++ x) (append-nil p.records)

pub fetch_parts : (ts : List (TopicOf Fetched)) → encoded fetch_response (fetch_value ts) ≡ fetch_head (length ts) ++ flat_map (topic_bytes fetched_bytes) ts
unfolding encoded
fetch_parts ts = ap (λ (x : List ℕ). be size32 (pos 0) ++ x) (append-nil _ ∙ topics_are (fetched_fields bytes) (λ p. fetched_value p.partition bytes p.records) fetched_bytes fetched_is ts)
