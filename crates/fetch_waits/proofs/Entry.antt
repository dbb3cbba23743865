-- What is left behind an entry, by what the code finds of it.
use Rattle.std.proofs.Common.{◌≡◌, ℕ, ℤ, ◌+◌, ◌-◌, ◌<◌, arith, min, not, Bool, true, false, List, length, drop, take, Option, Some, None, sym, ap, refl, ◌∙◌}
use Rattle.std.specs.Prelude.{◌&&◌, nat_lt, nat_eq, if◌then◌else◌}
use Rattle.std.specs.Option.{unwrap_or}
use Rattle.std.specs.Ordering.{int_eq}
use Rattle.content.specs.Content.{Content, empty}
use Rattle.segment.specs.BatchLists.{first_from}
use Rattle.partition_log.specs.Lookups.{fetched}
use Rattle.request_frames.specs.Fetch.{FetchPartitionValue}
use Rattle.responses.specs.Fetch.{Fetched}
use Rattle.answering.specs.declared.codes.ErrorCode.{ErrorCode}
use Rattle.answering.specs.declared.codes.ErrorCode.TheVariants.{UnknownServerError, OffsetOutOfRange, CorruptMessage, UnknownTopicOrPartition, LeaderNotAvailable, NotLeader, MessageTooLarge, OffsetMetadataTooLarge, InvalidTopic, InvalidRequiredAcks, IllegalGeneration, InvalidGroupId, UnsupportedVersion, InvalidRequest, UnsupportedForMessageFormat, OutOfOrderSequence, InvalidProducerEpoch, InvalidTransactionState, StorageError, UnsupportedCompression, InvalidRecord}
use Rattle.answering.specs.Codes.{no_error, code_number}
use Rattle.broker_state.specs.State.{State, content_at, partition_at}
use Rattle.broker_state.specs.Checks.{not_leader}
use Rattle.log_requests.specs.Fetch.{FetchRoom, fetch_limit, fetch_run_within, is_out_of_range}
use Rattle.log_requests.specs.Fetch.Entries.{between, fetch_answer}
use Rattle.log_requests.proofs.FetchEntries.{entry_given}
use Rattle.log_requests.proofs.FetchRuns.{bytes_of}
use Rattle.fetch_waits.specs.Waiting.{bytes_from}
use Rattle.fetch_waits.specs.Waiting.Entries.{left_behind, left_by_entry, left_of, room_of}
use Rattle.fetch_waits.proofs.Runs.{size, size_all, size_cut}

-- no fault has the number of none
pub is_fault : (code : ErrorCode) → int_eq (code_number code) no_error ≡ false
is_fault UnknownServerError = refl
is_fault OffsetOutOfRange = refl
is_fault CorruptMessage = refl
is_fault UnknownTopicOrPartition = refl
is_fault LeaderNotAvailable = refl
is_fault NotLeader = refl
is_fault MessageTooLarge = refl
is_fault OffsetMetadataTooLarge = refl
is_fault InvalidTopic = refl
is_fault InvalidRequiredAcks = refl
is_fault IllegalGeneration = refl
is_fault InvalidGroupId = refl
is_fault UnsupportedVersion = refl
is_fault InvalidRequest = refl
is_fault UnsupportedForMessageFormat = refl
is_fault OutOfOrderSequence = refl
is_fault InvalidProducerEpoch = refl
is_fault InvalidTransactionState = refl
is_fault StorageError = refl
is_fault UnsupportedCompression = refl
is_fault InvalidRecord = refl

-- an entry that has a code
pub entry_failed_left : (s : State) (name : List ℕ) (awaited missing : ℕ) (e : FetchPartitionValue) (r : Fetched)
    → ◌≡◌ {A = Fetched × FetchRoom} (fetch_answer s name (room_of awaited missing) e) (r, room_of awaited missing) → int_eq r.partition.code no_error ≡ false → None ≡ left_by_entry s name awaited missing e
entry_failed_left s name awaited missing e r answered fails =
    let there = length (bytes_from (content_at s name e.partition) e.offset) in
    ap (λ (b : Bool). left_behind b (length r.records) there missing) (sym fails)
    ∙ ap (λ (a : Fetched × FetchRoom). left_behind (int_eq a.0.partition.code no_error) (length a.0.records) there missing) (sym answered)

-- one of a copy, of which a run is given
module _ (s : State) (name : List ℕ) (awaited missing : ℕ) (e : FetchPartitionValue) (p : ℤ) (same : p ≡ e.partition) (c : Content) (leads : not_leader s ≡ None) (there : partition_at s name p ≡ Some c)
    (within : is_out_of_range c e.offset ≡ false) (start last : ℕ) (starts : start ≡ first_from e.offset c.kept)
    (ends : last ≡ start + fetched (not (nat_lt missing awaited)) (min (fetch_limit e.max_bytes) missing) (drop start c.kept)) where
  run_is : between start last c.kept ≡ fetch_run_within (room_of awaited missing) c e
  run_is =
      let count : last - start ≡ fetched (not (nat_lt missing awaited)) (min (fetch_limit e.max_bytes) missing) (drop start c.kept) = omega (arith, ends) in
      ap (λ (n : ℕ). take n (drop start c.kept)) count
      ∙ ap (λ (at : ℕ). take (fetched (not (nat_lt missing awaited)) (min (fetch_limit e.max_bytes) missing) (drop at c.kept)) (drop at c.kept)) starts

  entry_left : left_by_entry s name awaited missing e ≡ left_behind true (size c.kept start last) (bytes_of (drop start c.kept)) missing
  entry_left =
      let run = between start last c.kept in
      let answered = entry_given s name (room_of awaited missing) e p same c run leads there within run_is in
      let held : content_at s name e.partition ≡ c = ap (λ x. unwrap_or x empty) (sym (ap (partition_at s name) same) ∙ there) in
      ap (λ (a : Fetched × FetchRoom). left_behind (int_eq a.0.partition.code no_error) (length a.0.records) (length (bytes_from (content_at s name e.partition) e.offset)) missing) answered
      ∙ ap (λ (k : Content). left_behind true (size c.kept start last) (length (bytes_from k e.offset)) missing) held
      ∙ ap (λ (at : ℕ). left_behind true (size c.kept start last) (bytes_of (drop at c.kept)) missing) (sym starts)

  -- a batch that is there is left out
  pub entry_cut : last < length c.kept → None ≡ left_by_entry s name awaited missing e
  entry_cut before =
      let less = size_cut c.kept start last (omega (arith, ends)) before in
      let unlike : (nat_eq (size c.kept start last) (bytes_of (drop start c.kept)) && nat_lt (size c.kept start last) missing) ≡ false = grind (arith, less) in
      sym (entry_left ∙ ap (λ (t : Bool). if t then Some (missing - size c.kept start last) else None) unlike)

  -- all that is there is given
  pub entry_whole : (x : Option ℕ) → last ≡ length c.kept → x ≡ left_of missing (size c.kept start last) → x ≡ left_by_entry s name awaited missing e
  entry_whole x all is =
      let whole : size c.kept start last ≡ bytes_of (drop start c.kept) = ap (size c.kept start) all ∙ size_all c.kept start in
      let alike : nat_lt (size c.kept start last) missing ≡ (nat_eq (size c.kept start last) (bytes_of (drop start c.kept)) && nat_lt (size c.kept start last) missing) = grind (arith, whole) in
      is ∙ ap (λ (t : Bool). if t then Some (missing - size c.kept start last) else None) alike ∙ sym entry_left
