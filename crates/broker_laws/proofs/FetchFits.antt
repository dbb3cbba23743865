-- The response to Fetch fits its fields: its records have at most the room that there is for them, and one batch more.
use Rattle.std.proofs.Common.{◌≡◌, ◌^◌, ℕ, zero, suc, ◌+◌, ◌-◌, ◌<◌, ◌≤◌, ℤ, pos, negsuc, Bool, true, false, cond, List, [], ◌∷◌, ◌++◌, length, take, drop, refl, sym, ◌⊎◌, inl, inr, arith, true≢false, Option, subst}
use Rattle.std.specs.Prelude.{min, max, nat_lt, not, ◌||◌, FitsSigned}
use Rattle.std.specs.List.{AllByRecursion}
use Rattle.std.specs.Int.{w16, w64, w32}
use Rattle.std.proofs.lemmas.List.{length-append}
use Rattle.batch_codec.specs.Values.{BatchValue}
use Rattle.batch_codec.specs.declared.layout.TheConstants.{MAX_BATCH_BYTES}
use Rattle.content.specs.Content.{Content, IsContent, end}
use Rattle.content.specs.Records.{IsKeepable}
use Rattle.segment.specs.BatchLists.{first_from}
use Rattle.partition_log.specs.Lookups.{size_of, fitting, fetched}
use Rattle.frame_fields.specs.Fields.{size16, size32, size64, Value, FitsLength, be, Fits, encoded, array, end as no_fields}
use Rattle.frame_fields.specs.Types.{bytes, topic, TopicOf}
use Rattle.frame_fields.proofs.Numbers.{length-be, null_fits}
use Rattle.request_frames.specs.Fetch.{FetchPartitionValue, fetch_partition, fetch_partition_value, fetch_fields, fetch_request}
use Rattle.responses.specs.Fetch.{Fetched, fetched_fields, fetched_value, fetch_response, fetch_value}
use Rattle.answering.specs.Codes.{no_error, code_number}
use Rattle.answering.specs.Work.{MayAnswer}
use Rattle.answering.specs.Plans.{RepliesBy, AnswersTopic}
use Rattle.broker_state.specs.State.{State, content_at}
use Rattle.broker_state.specs.Sound.{IsSound}
use Rattle.broker_state.proofs.ValidAppends.{end_fits}
use Rattle.broker_state.proofs.SoundStates.{content_valid}
use Rattle.log_requests.specs.declared.fetch.room.TheConstants.{MAX_FETCH_BYTES}
use Rattle.log_requests.specs.Fetch.{FetchRoom, fetch_limit, fetch_run_within, fetch_room_after, fetch_result, fetch_work, fetch_room, fetch_plan}
use Rattle.log_requests.proofs.FetchRuns.{bytes_of, bytes_more, run_fits, all_behind}
use Rattle.broker_node.specs.Fitting.{FitsIfSent}
use Rattle.broker_node.proofs.KeptStates.{worked}
use Rattle.broker_laws.proofs.Said.{IsSaid, IsPart, later, elements_are, array_length, none_long, first_long}
use Rattle.broker_laws.proofs.TopicsFit.{EntryFits, topics_fit}
use Rattle.broker_laws.proofs.Works.{no_error_fits, code_fits}
use Rattle.broker_laws.proofs.FittingResponses.{enough, fitting_response, IsKept, frame_limit}
use Rattle.broker_laws.proofs.Followed.{total, spent}

-- ---- the bytes of a run

-- a run fits the limit, or it is one batch, where the first is forced
abbrev FitsOrForced : (force : Bool) (limit : ℕ) (run : List BatchValue) → Type 0
FitsOrForced force limit run = (bytes_of run ≤ limit) ⊎ ((force ≡ true) × (bytes_of run ≤ MAX_BATCH_BYTES))

run_bytes : (force : Bool) (limit : ℕ) (bs : List BatchValue) → AllByRecursion IsKeepable bs → FitsOrForced force limit (take (fetched force limit bs) bs)
run_bytes force limit [] all = inl (omega arith)
run_bytes false limit (b ∷ bs) all = inl (run_fits limit (b ∷ bs))
run_bytes true limit (b ∷ bs) all = by (fitting limit (b ∷ bs)) (run_fits limit (b ∷ bs))
  where
    one : bytes_of (b ∷ []) ≡ size_of b + 0
    one = bytes_more b []

    by : (n : ℕ) → bytes_of (take n (b ∷ bs)) ≤ limit → FitsOrForced true limit (take (max 1 n) (b ∷ bs))
    by zero h = let small : size_of b ≤ MAX_BATCH_BYTES = all.0.0.size in inr (refl, omega (arith, one, small))
    by (suc n) h = let more : max 1 (suc n) ≡ suc n = omega arith in inl (rw more h)

run_within : (room : FetchRoom) (c : Content) (e : FetchPartitionValue) → IsContent c → FitsOrForced (not room.given) (min (fetch_limit e.max_bytes) room.left) (fetch_run_within room c e)
run_within room c e is =
    run_bytes (not room.given) (min (fetch_limit e.max_bytes) room.left) (drop (first_from e.offset c.kept) c.kept) (all_behind (first_from e.offset c.kept) c.kept is.keepable)

-- ---- the room

-- what may still be given: what is left, and one batch, where there is none yet
abbrev pub room_of : FetchRoom → ℕ
room_of room = room.left + cond room.given 0 MAX_BATCH_BYTES

spends : (limit left n count : ℕ) (given : Bool) → limit ≤ left → (n ≤ limit) ⊎ ((not given ≡ true) × (n ≤ MAX_BATCH_BYTES)) → (count ≡ 0 → n ≡ 0)
    → n + ((left - n) + cond (given || nat_lt 0 count) 0 MAX_BATCH_BYTES) ≤ left + cond given 0 MAX_BATCH_BYTES
spends limit left n count true low (inl small) none = omega (arith, low, small)
spends limit left n count true low (inr forced) none = absurd (true≢false (sym forced.0))
spends limit left n zero false low small none = let nothing = none refl in omega (arith, nothing)
spends limit left n (suc count) false low (inl small) none = grind (arith, low, small)
spends limit left n (suc count) false low (inr forced) none = let small = forced.1 in grind (arith, small)

no_batches : (run : List BatchValue) → length run ≡ 0 → bytes_of run ≡ 0
no_batches [] none = refl
no_batches (b ∷ bs) none = absurd (omega (arith, none))

-- ---- one entry

abbrev Entry : Type 0
Entry = Value fetch_partition

entry_long : (e : Entry) → length (encoded fetch_partition e) ≡ 16
unfolding encoded
entry_long e = refl

answer_long : (r : Fetched) → length (encoded (fetched_fields bytes) (fetched_value r.partition bytes r.records)) ≡ 30 + length r.records
unfolding encoded
answer_long r = omega (arith, length-append (be size32 (pos (length r.records)) ++ r.records) [], length-append (be size32 (pos (length r.records))) r.records, length-be size32 (pos (length r.records)))

abbrev pub fetched_of : Fetched → Value (fetched_fields bytes)
fetched_of r = fetched_value r.partition bytes r.records

abbrev pub records_of : Fetched → ℕ
records_of r = length r.records

abbrev pub IsRoom : FetchRoom → Type 0
IsRoom room = room.left ≤ MAX_FETCH_BYTES

abbrev Has : Entry → Fetched → FetchRoom → Type 0
Has e r after = EntryFits fetch_partition (fetched_fields bytes) fetched_of records_of e r × IsRoom after

answered : (e : Entry) (after : FetchRoom) (code last : ℤ) (run : List BatchValue) → IsSaid fetch_partition e → FitsSigned w16 code → FitsSigned w64 last → bytes_of run < 2 ^ 31 → IsRoom after
    → Has e (fetch_result e.0 code last run) after
unfolding Fits
answered e after code last run said c l small left = (
  record {
    fits = (said.fits.0, (c, (l, (l, (tt, (record { sfits = small }, tt))))));
    size = omega (arith, entry_long e, answer_long (fetch_result e.0 code last run));
  },
  left,
)

small_run : (room : FetchRoom) (force : Bool) (limit : ℤ) (run : List BatchValue) → IsRoom room → FitsOrForced force (min (fetch_limit limit) room.left) run → bytes_of run < 2 ^ 31
small_run room force limit run left (inl h) = omega (arith, h, left)
small_run room force limit run left (inr h) = let most = h.1 in omega (arith, most)

module _ (s : State) (sound : IsSound s) where
  pub fetch_entry : (room : FetchRoom) (name : List ℕ) (e : Entry) (r : Fetched) (after : FetchRoom) → IsRoom room → FitsLength size16 (length name) → IsSaid fetch_partition e → MayAnswer (fetch_work s room name (fetch_partition_value e)) room r after → Has e r after
  fetch_entry room name e r after left named said = worked (Has e) (fetch_work s room name (fetch_partition_value e)) room r after
      (λ code. answered e room (code_number code) (negsuc 0) [] said (code_fits code) (null_fits size64) (omega arith) left)
      (λ none.
      let c = content_at s name e.0 in
      let is = content_valid s name e.0 sound in
      let run = fetch_run_within room c (fetch_partition_value e) in
      answered e (fetch_room_after room run) no_error (end c) run said no_error_fits (end_fits c is) (small_run room (not room.given) e.1.1.0 run left (run_within room c (fetch_partition_value e) is)) (omega (arith, left)))

  -- what is given comes from the room
  pub fetch_spends : (room : FetchRoom) (name : List ℕ) (e : FetchPartitionValue) (r : Fetched) (after : FetchRoom) → MayAnswer (fetch_work s room name e) room r after → records_of r + room_of after ≤ room_of room
  fetch_spends room name e r after = worked (λ r after. records_of r + room_of after ≤ room_of room) (fetch_work s room name e) room r after
      (λ code. omega arith)
      (λ none.
      let c = content_at s name e.partition in
      let run = fetch_run_within room c e in
      spends (min (fetch_limit e.max_bytes) room.left) room.left (bytes_of run) (length run) room.given (omega arith) (run_within room c e (content_valid s name e.partition sound)) (no_batches run))

-- ---- a request

abbrev records_in : TopicOf Fetched → ℕ
records_in t = total records_of t.entries

pub fetch_fits : (n : ℕ) (s : State) (correlation : ℤ) (v : Value fetch_fields) (out : Option (List ℕ)) (after : State) → n ≤ frame_limit → IsSound s → FitsSigned w32 correlation → IsPart n fetch_fields v
    → RepliesBy (λ R S w. MayAnswer w) (fetch_plan s correlation (fetch_request v)) out after → IsKept correlation fetch_response out after
unfolding Fits
fetch_fits n s correlation v out after low sound number part h =
    let ts = elements_are (later (later (later (later (later part))))) in
    let room = fetch_room v.1.1.1.0 in
    let all = topics_fit fetch_partition (fetched_fields bytes) fetched_of records_of fetch_partition_value (λ room name e r m. MayAnswer (fetch_work s room name e) room r m) IsRoom (fetch_entry s sound) room h.end v.1.1.1.1.1.0 h.results (omega arith) ts.count ts.said h.answers in
    let size = all.0.1 in
    let long = ts.long in
    let records : total records_in h.results + room_of h.end ≤ room_of room =
    spent (AnswersTopic (λ room name e r m. MayAnswer (fetch_work s room name e) room r m)) records_in room_of
    (λ room t r m answers. spent (λ room e r m. MayAnswer (fetch_work s room t.name e) room r m) records_of room_of (λ room e r m. fetch_spends s sound room t.name e r m) room t.entries r.entries m answers.1)
    room (fetch_request v).topics h.results h.end h.answers in
    let value = fetch_value h.results in
    let whole : length (encoded fetch_response value) ≤ enough = omega (arith, low, size, long, records, first_long value.0 (array (topic (fetched_fields bytes)) no_fields) value.1, array_length (topic (fetched_fields bytes)) no_fields value.1, none_long) in
    (subst (FitsIfSent correlation fetch_response) (sym h.sends) (fitting_response correlation fetch_response value number (record { sfits = omega arith }, (all.0.0, tt)) whole), subst IsSound (sym h.leaves) sound)
