-- The response to OffsetCommit fits its fields, and the state stays sound: what a request names and commits has a batch.
use Rattle.std.proofs.Common.{◌≡◌, ℕ, ◌≤◌, ℤ, pos, List, [], ◌++◌, length, Option, None, refl, sym, subst, arith}
use Rattle.std.specs.Prelude.{FitsSigned}
use Rattle.std.specs.Option.{option_map}
use Rattle.std.specs.Int.{w16, w32}
use Rattle.std.proofs.lemmas.List.{length-append}
use Rattle.batch_codec.specs.Grammar.{Writable}
use Rattle.frame_fields.specs.Fields.{size16, size32, size64, Value, FitsLength, be, field, Fits, encoded, end}
use Rattle.frame_fields.specs.Types.{topic, nullable_string}
use Rattle.frame_fields.proofs.Numbers.{length-be}
use Rattle.request_frames.specs.OffsetCommit.{OffsetCommitValue, offset_commit_partition, offset_commit_partition_value, offset_commit_fields, offset_commit_request}
use Rattle.responses.specs.declared.offset_commit.partition.CommittedPartition.{CommittedPartition}
use Rattle.responses.specs.OffsetCommit.{committed_partition_fields, committed_partition_value, offset_commit_response, offset_commit_value}
use Rattle.group_offsets.specs.Keys.{IsName}
use Rattle.group_offsets.proofs.KeyEncodings.{metadata_from}
use Rattle.group_offsets.proofs.BatchSizes.{commit_writable}
use Rattle.answering.specs.Codes.{no_error, code_number}
use Rattle.answering.specs.Work.{MayAnswer}
use Rattle.answering.specs.Plans.{RepliesBy}
use Rattle.broker_state.specs.Codes.{append_code}
use Rattle.broker_state.specs.State.{State, group_topic}
use Rattle.broker_state.specs.Batches.{append_fault, appended}
use Rattle.broker_state.specs.Sound.{IsSound}
use Rattle.broker_state.proofs.SoundStates.{content_valid, sound_with}
use Rattle.broker_state.proofs.Passed.{none_first, none_both}
use Rattle.broker_state.proofs.ValidAppends.{appended_valid}
use Rattle.group_requests.specs.GroupPartition.{group_content, with_group_content}
use Rattle.group_requests.specs.OffsetCommit.{offset_commit_batch, offset_commit_result, offset_commit_work, offset_commit_plan}
use Rattle.broker_node.specs.Fitting.{FitsIfSent}
use Rattle.broker_node.proofs.KeptStates.{worked}
use Rattle.broker_laws.proofs.Said.{IsSaid, IsPart, later, elements_are, array_length, none_long}
use Rattle.broker_laws.proofs.TopicsFit.{EntryFits, topics_fit, none_apart}
use Rattle.broker_laws.proofs.Works.{unmapped, no_error_fits, code_fits}
use Rattle.broker_laws.proofs.FittingResponses.{enough, fitting_response, IsKept, frame_limit}

abbrev Entry : Type 0
Entry = Value offset_commit_partition

-- ---- how long an entry and its answer are

entry_long : (e : Entry) → 12 ≤ length (encoded offset_commit_partition e)
unfolding encoded
entry_long e =
    let metadata = field nullable_string e.1.1.0 ++ [] in
    omega (arith, length-append (be size32 e.0) (be size64 e.1.0 ++ metadata), length-be size32 e.0, length-append (be size64 e.1.0) metadata, length-be size64 e.1.0)

answer_long : (r : CommittedPartition) → length (encoded committed_partition_fields (committed_partition_value r)) ≡ 6
unfolding encoded
answer_long r = refl

-- ---- the batch

is_name : (text : List ℕ) → FitsLength size16 (length text) → IsName text
is_name text fits = let most = fits.sfits in omega (arith, most)

batch_writable : (group name : List ℕ) (e : Entry) → FitsLength size16 (length group) → FitsLength size16 (length name) → IsSaid offset_commit_partition e → Writable (offset_commit_batch group name (offset_commit_partition_value e))
unfolding Fits
batch_writable group name e group_fits name_fits said =
    commit_writable (record { group = group; topic = name; partition = e.0 }) (record { offset = e.1.0; metadata = e.1.1.0 })
    (record { group = is_name group group_fits; topic = is_name name name_fits; partition = said.fits.0 })
    (record { offset = said.fits.1.0; metadata = metadata_from e.1.1.0 said.fits.1.1.0 })

-- ---- one entry

module _ (q : OffsetCommitValue) (group_fits : FitsLength size16 (length q.group)) where
  abbrev Has : Entry → CommittedPartition → State → Type 0
  Has e r m = EntryFits offset_commit_partition committed_partition_fields committed_partition_value (λ r. 0) e r × IsSound m

  answered : (e : Entry) (code : ℤ) (m : State) → IsSaid offset_commit_partition e → FitsSigned w16 code → IsSound m → Has e (offset_commit_result e.0 code) m
  unfolding Fits
  answered e code m said c sound = (
    record {
      fits = (said.fits.0, (c, tt));
      size = omega (arith, entry_long e, answer_long (offset_commit_result e.0 code));
    },
    sound,
  )

  pub offset_commit_entry : (s : State) (name : List ℕ) (e : Entry) (r : CommittedPartition) (m : State) → IsSound s → FitsLength size16 (length name) → IsSaid offset_commit_partition e
      → MayAnswer (offset_commit_work s q name (offset_commit_partition_value e)) s r m → Has e r m
  offset_commit_entry s name e r m sound name_fits said =
      let b = offset_commit_batch q.group name (offset_commit_partition_value e) in
      let c = group_content s in
      let w = offset_commit_work s q name (offset_commit_partition_value e) in
      worked (Has e) w s r m
      (λ code. answered e (code_number code) s said (code_fits code) sound)
      (λ none.
      let fault = (none_first (option_map append_code (append_fault c b)) None (none_both w.early w.late none).1).0 in
      let after = appended_valid c b (content_valid s group_topic (pos 0) sound) (batch_writable q.group name e group_fits name_fits said) (unmapped append_code (append_fault c b) fault) in
      answered e no_error (with_group_content s (appended c b).1) said no_error_fits (sound_with s group_topic (pos 0) (appended c b).1 after.1 sound))

-- ---- a request

pub offset_commit_fits : (n : ℕ) (s : State) (correlation : ℤ) (v : Value offset_commit_fields) (out : Option (List ℕ)) (after : State) → n ≤ frame_limit → IsSound s → FitsSigned w32 correlation → IsPart n offset_commit_fields v
    → RepliesBy (λ R S w. MayAnswer w) (offset_commit_plan s correlation (offset_commit_request v)) out after → IsKept correlation offset_commit_response out after
unfolding Fits
offset_commit_fits n s correlation v out after low sound number part h =
    let q = offset_commit_request v in
    let ts = elements_are (later (later (later (later part)))) in
    let all = topics_fit offset_commit_partition committed_partition_fields committed_partition_value (λ r. 0) offset_commit_partition_value (λ s name e r m. MayAnswer (offset_commit_work s q name e) s r m) IsSound (offset_commit_entry q part.said.fits.0) s h.end v.1.1.1.1.0 h.results sound ts.count ts.said h.answers in
    let size = all.0.1 in
    let long = ts.long in
    let value = offset_commit_value h.results in
    let whole : length (encoded offset_commit_response value) ≤ enough = omega (arith, low, size, long, none_apart h.results, array_length (topic committed_partition_fields) end value, none_long) in
    (subst (FitsIfSent correlation offset_commit_response) (sym h.sends) (fitting_response correlation offset_commit_response value number (all.0.0, tt) whole), subst IsSound (sym h.leaves) all.1)
