-- What is still lacking behind each entry, as the code goes. Words of private clauses.
use Rattle.std.specs.Prelude.{ℕ, ◌-◌, Bool, ◌&&◌, nat_lt, nat_eq, List, [], ◌∷◌, length, Option, Some, None, if◌then◌else◌}
use Rattle.std.specs.Option.{option_and_then}
use Rattle.std.specs.Ordering.{int_eq}
use Rattle.frame_fields.specs.Types.{TopicOf}
use Rattle.request_frames.specs.Fetch.{FetchPartitionValue}
use Rattle.answering.specs.Codes.{no_error}
use Rattle.broker_state.specs.State.{State, content_at}
use Rattle.log_requests.specs.Fetch.{FetchRoom}
use Rattle.log_requests.specs.Fetch.Entries.{fetch_answer}
use Rattle.fetch_waits.specs.Waiting.{bytes_from}

-- what is left of so many bytes behind others; none where nothing is
abbrev pub left_of : (missing bytes : ℕ) → Option ℕ
left_of missing bytes = if nat_lt bytes missing then Some (missing - bytes) else None

-- A response with room for no more bytes than are missing. Where it has fewer of those that are awaited it has a batch.
abbrev pub room_of : (awaited missing : ℕ) → FetchRoom
room_of awaited missing = record { left = missing; given = nat_lt missing awaited }

-- behind so many that are given of those that are there; none where there is a code, some are left out, or nothing is missing
abbrev pub left_behind : (fine : Bool) → (given there missing : ℕ) → Option ℕ
left_behind fine given there missing =
    if fine && (nat_eq given there && nat_lt given missing) then Some (missing - given) else None

-- behind an entry
abbrev pub left_by_entry : State → List ℕ → (awaited missing : ℕ) → FetchPartitionValue → Option ℕ
left_by_entry s name awaited missing e =
    let r = (fetch_answer s name (room_of awaited missing) e).0 in
    left_behind (int_eq r.partition.code no_error) (length r.records)
    (length (bytes_from (content_at s name e.partition) e.offset)) missing

abbrev pub left_by_entries : State → List ℕ → (awaited missing : ℕ) → List FetchPartitionValue → Option ℕ
left_by_entries s name awaited missing [] = Some missing
left_by_entries s name awaited missing (e ∷ es) =
    option_and_then (λ left. left_by_entries s name awaited left es) (left_by_entry s name awaited missing e)

abbrev pub left_by_topics : State → (awaited missing : ℕ) → List (TopicOf FetchPartitionValue) → Option ℕ
left_by_topics s awaited missing [] = Some missing
left_by_topics s awaited missing (t ∷ ts) =
    option_and_then (λ left. left_by_topics s awaited left ts) (left_by_entries s t.name awaited missing t.entries)
