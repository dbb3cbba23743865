-- Which Fetches wait for records. Kafka's documentation, "Protocol Guide", section "The Messages" (max_wait_ms, min_bytes and
-- max_bytes of Fetch), and "Consumer Configs", sections "fetch.min.bytes" (a Fetch waits while too little is available),
-- "fetch.max.wait.ms" and "max.partition.fetch.bytes". That a partition with an error code ends the wait is Kafka's. This
-- project's own are the most entries, and that a Fetch doesn't wait where a limit leaves out a batch that is there.
pub mod Entries
use Rattle.std.specs.Prelude.{ℕ, ℤ, pos, min, Bool, false, ◌&&◌, int_lt, nat_lt, nat_le, nat_eq, List, length, drop}
use Rattle.std.specs.List.{flat_map, list_all}
use Rattle.std.specs.Ordering.{int_eq}
use Rattle.batch_codec.specs.Grammar.{batch_encoding}
use Rattle.content.specs.Content.{Content}
use Rattle.segment.specs.BatchLists.{first_from}
use Rattle.request_frames.specs.Fetch.{FetchValue, FetchPartitionValue}
use Rattle.request_frames.specs.Requests.{BodyValue}
use Rattle.request_frames.specs.Requests.BodyValue.{fetch}
use Rattle.responses.specs.Fetch.{Fetched}
use Rattle.answering.specs.Codes.{no_error}
use Rattle.answering.specs.Work.{answer}
use Rattle.answering.specs.Plans.{over_topics}
use Rattle.broker_state.specs.State.{State, content_at}
use Rattle.log_requests.specs.Fetch.{fetch_limit, fetch_room, fetch_work}
use Rattle.fetch_waits.specs.declared.waiting.TheConstants.{MOST_ENTRIES}

-- what is asked of all partitions, in order
abbrev pub entries_of : FetchValue → List FetchPartitionValue
entries_of q = flat_map (λ t. t.entries) q.topics

-- what is answered to them
abbrev pub fetched_of : State → FetchValue → List Fetched
fetched_of s q = flat_map (λ t. t.entries)
    (over_topics (λ room name e. answer (fetch_work s room name e) room) (fetch_room q.max_bytes) q.topics).0

-- the bytes of records that are given
abbrev pub bytes_given : State → FetchValue → List ℕ
bytes_given s q = flat_map (λ r. r.records) (fetched_of s q)

-- the bytes of all batches that a copy keeps from an offset on
abbrev pub bytes_from : Content → (offset : ℤ) → List ℕ
bytes_from c offset = flat_map batch_encoding (drop (first_from offset c.kept) c.kept)

-- the bytes that are there: of each partition that is asked for, from its offset on
abbrev pub bytes_there : State → FetchValue → List ℕ
bytes_there s q = flat_map
    (λ t. flat_map (λ e. bytes_from (content_at s t.name e.partition) e.offset) t.entries) q.topics

-- how many bytes of records it asks for, and takes
abbrev pub awaited_bytes : FetchValue → ℕ
awaited_bytes q = min (fetch_limit q.min_bytes) (fetch_room q.max_bytes).left

-- No partition has an error code, all that is there is given, and it has fewer bytes than are awaited. What is given of a
-- partition is a front of what is there, so as many bytes are all of them.
abbrev pub lacks_bytes : State → FetchValue → Bool
lacks_bytes s q =
    let given = length (bytes_given s q) in
    list_all (λ r. int_eq r.partition.code no_error) (fetched_of s q)
    && (nat_eq given (length (bytes_there s q)) && nat_lt given (awaited_bytes q))

-- it names topics and partitions, and no more of either than there can be partitions
abbrev pub asks_for_some : FetchValue → Bool
asks_for_some q =
    nat_le (length q.topics) MOST_ENTRIES
    && (nat_lt 0 (length (entries_of q)) && nat_le (length (entries_of q)) MOST_ENTRIES)

-- A Fetch waits where it gives itself time, asks for some partitions, not more than there can be, and what is there lacks
-- bytes.
unfoldable pub fetch_waits : State → FetchValue → Bool
fetch_waits s q = int_lt (pos 0) q.max_wait_ms && (asks_for_some q && lacks_bytes s q)

-- how long it waits at the most, in milliseconds
abbrev pub wait_of : FetchValue → ℕ
wait_of q = fetch_limit q.max_wait_ms

-- no other request waits
abbrev pub body_waits : State → BodyValue → Bool
body_waits s (fetch q) = fetch_waits s q
body_waits s _ = false
