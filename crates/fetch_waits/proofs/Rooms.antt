-- What is left behind an entry depends on what is missing, and not on the room that the response still has.
use Rattle.std.proofs.Common.{◌≡◌, ℕ, ◌-◌, ◌<◌, ◌≤◌, arith, min, not, Bool, true, false, List, [], ◌∷◌, length, drop, take, Option, Some, None, sym, ap, subst, refl, ◌∙◌}
use Rattle.std.specs.Prelude.{◌&&◌, ◌||◌, nat_lt, nat_eq, if◌then◌else◌}
use Rattle.std.specs.Ordering.{int_eq}
use Rattle.batch_codec.specs.Values.{BatchValue}
use Rattle.content.specs.Content.{Content}
use Rattle.segment.specs.BatchLists.{first_from}
use Rattle.partition_log.specs.Lookups.{fetched}
use Rattle.request_frames.specs.Fetch.{FetchPartitionValue}
use Rattle.answering.specs.declared.codes.ErrorCode.{ErrorCode}
use Rattle.answering.specs.declared.codes.ErrorCode.TheVariants.{OffsetOutOfRange}
use Rattle.answering.specs.Lists.{first_some, fault_if}
use Rattle.answering.specs.Codes.{no_error}
use Rattle.answering.specs.Work.{answer_after}
use Rattle.broker_state.specs.State.{State, content_at}
use Rattle.broker_state.specs.Checks.{unknown, not_leader}
use Rattle.log_requests.specs.Fetch.{FetchRoom, fetch_limit, fetch_work, fetch_run_within, is_out_of_range}
use Rattle.log_requests.specs.Fetch.Entries.{fetch_answer}
use Rattle.log_requests.proofs.FetchRuns.{bytes_of}
use Rattle.fetch_waits.specs.Waiting.{bytes_from}
use Rattle.fetch_waits.specs.Waiting.Entries.{left_behind, left_by_entry, room_of}
use Rattle.fetch_waits.proofs.Limits.{same_fetched, front_bytes}
use Rattle.fetch_waits.proofs.Runs.{some_of}

-- A response in which so many are missing has room for them, and has a batch where fewer are missing than are awaited.
pub record HasRoom (awaited missing : ℕ) (room : FetchRoom) : Type 0 where
  pub some : 0 < missing
  pub most : missing ≤ awaited
  pub within : missing ≤ room.left
  pub given : room.given ≡ nat_lt missing awaited

-- nothing is left where all that is there would be enough
enough : (fine : Bool) (given there missing : ℕ) → nat_lt there missing ≡ false → left_behind fine given there missing ≡ None
enough fine given there missing is = by fine (nat_eq given there && nat_lt given missing) (grind (arith, is)) where
  by : (a b : Bool) → b ≡ false → (if a && b then Some (missing - given) else None) ≡ None
  by true b none = ap (λ (t : Bool). if t then Some (missing - given) else None) none
  by false b none = refl

-- behind a run a response has a batch where fewer bytes are missing than are awaited
has_batch : (awaited missing : ℕ) (run : List BatchValue) → missing ≤ awaited → nat_lt (bytes_of run) missing ≡ true → (nat_lt missing awaited || nat_lt 0 (length run)) ≡ nat_lt (missing - bytes_of run) awaited
has_batch awaited missing [] most less =
    let same : nat_lt missing awaited ≡ nat_lt (missing - 0) awaited = grind arith in
    by (nat_lt missing awaited) ∙ same
  where
    by : (t : Bool) → (t || nat_lt 0 0) ≡ t
    by true = refl
    by false = refl
has_batch awaited missing (b ∷ bs) most less =
    let some : nat_lt (missing - bytes_of (b ∷ bs)) awaited ≡ true = grind (arith, less, most, some_of (b ∷ bs) (omega arith)) in
    by (nat_lt missing awaited) ∙ sym some
  where
    by : (t : Bool) → (t || nat_lt 0 (length (b ∷ bs))) ≡ true
    by true = refl
    by false = grind arith

module _ (s : State) (name : List ℕ) (e : FetchPartitionValue) where
  abbrev held : Content
  held = content_at s name e.partition

  abbrev from : List BatchValue
  from = drop (first_from e.offset held.kept) held.kept

  abbrev fault : Option ErrorCode
  fault = first_some (unknown s name e.partition ∷ not_leader s ∷ fault_if (is_out_of_range held e.offset) OffsetOutOfRange ∷ [])

  -- what is given is a front of what is there
  pub given_within : (room : FetchRoom) → length (fetch_answer s name room e).0.records ≤ length (bytes_from held e.offset)
  given_within room = by fault where
    by : (x : Option ErrorCode) → length (answer_after x (fetch_work s room name e) room).0.records ≤ length (bytes_from held e.offset)
    by (Some code) = omega arith
    by None = front_bytes (fetched (not room.given) (min (fetch_limit e.max_bytes) room.left) from) from

  -- so much is left, whatever the room is
  pub left_is : (awaited missing : ℕ) (room : FetchRoom) → HasRoom awaited missing room
      → let r = (fetch_answer s name room e).0 in
      left_by_entry s name awaited missing e ≡ left_behind (int_eq r.partition.code no_error) (length r.records) (length (bytes_from held e.offset)) missing
  left_is awaited missing room has = by fault where
    -- the batches that are given
    run : (given : Bool) (left : ℕ) → List BatchValue
    run given left = take (fetched (not given) (min (fetch_limit e.max_bytes) left) from) from

    same : nat_lt (bytes_of from) missing ≡ true → run (nat_lt missing awaited) missing ≡ run room.given room.left
    same below =
        ap (λ (n : ℕ). take n from) (same_fetched (not (nat_lt missing awaited)) (fetch_limit e.max_bytes) missing room.left from (grind (arith, below)) has.within)
        ∙ ap (λ (given : Bool). run given room.left) (sym has.given)

    runs : (t : Bool) → nat_lt (bytes_of from) missing ≡ t
        → left_behind true (bytes_of (run (nat_lt missing awaited) missing)) (bytes_of from) missing ≡ left_behind true (bytes_of (run room.given room.left)) (bytes_of from) missing
    runs true below = ap (λ (bs : List BatchValue). left_behind true (bytes_of bs) (bytes_of from) missing) (same below)
    runs false is = enough true (bytes_of (run (nat_lt missing awaited) missing)) (bytes_of from) missing is ∙ sym (enough true (bytes_of (run room.given room.left)) (bytes_of from) missing is)

    by : (x : Option ErrorCode)
        → let r = (answer_after x (fetch_work s (room_of awaited missing) name e) (room_of awaited missing)).0 in
        let r' = (answer_after x (fetch_work s room name e) room).0 in
        left_behind (int_eq r.partition.code no_error) (length r.records) (bytes_of from) missing
        ≡ left_behind (int_eq r'.partition.code no_error) (length r'.records) (bytes_of from) missing
    by (Some code) = refl
    by None = runs (nat_lt (bytes_of from) missing) refl

  -- behind an entry a response has room for what is missing then
  pub room_behind : (awaited missing : ℕ) (room : FetchRoom) → HasRoom awaited missing room
      → let a = fetch_answer s name room e in nat_lt (length a.0.records) missing ≡ true → HasRoom awaited (missing - length a.0.records) a.1
  room_behind awaited missing room has = by fault where
    by : (x : Option ErrorCode) → let a = answer_after x (fetch_work s room name e) room in nat_lt (length a.0.records) missing ≡ true → HasRoom awaited (missing - length a.0.records) a.1
    by (Some code) less =
        let same : missing ≡ missing - 0 = omega arith in
        subst (λ (n : ℕ). HasRoom awaited n room) same has
    by None less =
        let run = fetch_run_within room held e in
        record {
          some = grind (arith, less);
          most = omega (arith, has.most);
          within = omega (arith, has.within);
          given = ap (λ (given : Bool). given || nat_lt 0 (length run)) has.given ∙ has_batch awaited missing run has.most less;
        }
