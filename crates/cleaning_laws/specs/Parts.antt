-- Clean requests for parts of a partition, one after another. This project's own request; see Kafka's design documentation,
-- "Log Compaction".
use Rattle.std.specs.Prelude.{ℤ, List, [], ◌∷◌}
use Rattle.request_frames.specs.Clean.{CleanValue}
use Rattle.request_frames.specs.Requests.BodyValue.{clean_part}
use Rattle.request_frames.specs.Requests.{RequestValue}

-- The bounds of a Clean, asked for in parts, with these correlation ids: the first part begins at `from`, and each ends
-- where the next one begins.
abbrev pub asked_in_parts : (correlation : ℤ) → CleanValue → (from : ℤ) → (ends : List ℤ) → List RequestValue
asked_in_parts correlation q from [] = []
asked_in_parts correlation q from (to ∷ ends) =
    record {
      correlation = correlation;
      body = clean_part (record {
        topic = q.topic;
        partition = q.partition;
        from = from;
        to = to;
        upto = q.upto;
        tomb_before = q.tomb_before;
      });
    } ∷ asked_in_parts correlation q to ends
