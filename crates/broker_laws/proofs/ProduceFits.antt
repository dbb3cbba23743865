-- The response to Produce fits its fields, and the state stays sound.
use Rattle.std.proofs.Common.{Bool, true, false, cond, ◌≡◌, ℕ, ◌≤◌, ℤ, pos, negsuc, List, [], ◌∷◌, ◌++◌, length, Option, Some, None, refl, sym, subst, arith}
use Rattle.std.specs.Prelude.{FitsSigned, not, is_some}
use Rattle.std.specs.Option.{option_map}
use Rattle.std.specs.Int.{w16, w32, w64}
use Rattle.std.proofs.lemmas.List.{length-append}
use Rattle.std.specs.Ordering.{int_eq}
use Rattle.batch_codec.specs.Grammar.{Writable}
use Rattle.batch_codec.specs.Reading.{batch_of}
use Rattle.frame_fields.specs.Fields.{size16, size32, size64, Value, FitsLength, be, field, Fits, encoded, end}
use Rattle.frame_fields.specs.Types.{nullable_bytes, or_empty, topic, int32, ◌⨾◌}
use Rattle.frame_fields.specs.Frames.{IsBytes}
use Rattle.frame_fields.proofs.Numbers.{IsBytes-second, length-be, null_fits}
use Rattle.request_frames.specs.Produce.{ProduceValue, ProducePartitionValue, produce_partition, produce_partition_value, produce_fields, produce_request}
use Rattle.responses.specs.declared.produce.partition.ProducedPartition.{ProducedPartition}
use Rattle.responses.specs.Produce.{produced_fields, produced_value, produce_response, produce_value}
use Rattle.answering.specs.declared.codes.ErrorCode.TheVariants.{InvalidTopic, InvalidRequiredAcks, InvalidTransactionState}
use Rattle.answering.specs.Codes.{no_error, code_number}
use Rattle.answering.specs.Lists.{fault_if, first_some}
use Rattle.answering.specs.Work.{MayAnswer}
use Rattle.answering.specs.Plans.{RepliesBy}
use Rattle.broker_state.specs.Codes.{append_code}
use Rattle.broker_state.specs.State.{State, is_group_topic, content_at, with_content}
use Rattle.broker_state.specs.Checks.{unknown, not_leader}
use Rattle.broker_state.specs.Batches.{batch_checks, append_fault, appended}
use Rattle.broker_state.specs.Sound.{IsSound}
use Rattle.broker_state.proofs.SoundStates.{content_valid, sound_with}
use Rattle.broker_state.proofs.Passed.{none_first, none_both}
use Rattle.broker_state.proofs.ValidAppends.{appended_valid}
use Rattle.log_requests.specs.Produce.{is_acks, produce_result, produce_checks, produce_work, produce_plan}
use Rattle.broker_node.specs.Fitting.{IsFitting, FitsIfSent}
use Rattle.broker_node.proofs.KeptStates.{worked}
use Rattle.broker_laws.proofs.Said.{IsSaid, bytes_first, IsPart, later, elements_are, array_length, none_long, first_long}
use Rattle.broker_laws.proofs.TopicsFit.{EntryFits, topics_fit, none_apart}
use Rattle.broker_laws.proofs.Works.{unmapped, no_error_fits, code_fits}
use Rattle.broker_laws.proofs.SentBatches.{batch_writable}
use Rattle.broker_laws.proofs.FittingResponses.{enough, fitting_response, IsKept, frame_limit}

abbrev Entry : Type 0
Entry = Value produce_partition

-- ---- how long an entry and its answer are

entry_long : (e : Entry) → 8 ≤ length (encoded produce_partition e)
unfolding encoded
entry_long e = by e.1.0
  where
    first : length (be size32 e.0) ≡ 4
    first = length-be size32 e.0

    by : (o : Option (List ℕ)) → 8 ≤ length (be size32 e.0 ++ (field nullable_bytes o ++ []))
    by None = omega (arith, first, length-append (be size32 e.0) (be size32 (negsuc 0) ++ []), length-append (be size32 (negsuc 0)) [], length-be size32 (negsuc 0))
    by (Some b) =
        let count = be size32 (pos (length b)) in
        omega (arith, first, length-append (be size32 e.0) ((count ++ b) ++ []), length-append (count ++ b) [], length-append count b, length-be size32 (pos (length b)))

answer_long : (r : ProducedPartition) → length (encoded produced_fields (produced_value r)) ≡ 22
unfolding encoded
answer_long r = refl

records_bytes : (e : Entry) → IsSaid produce_partition e → IsBytes (produce_partition_value e).records
unfolding encoded
records_bytes e said = by e.1.0 (bytes_first (field nullable_bytes e.1.0) [] (IsBytes-second (be size32 e.0) (field nullable_bytes e.1.0 ++ []) said.bytes))
  where
    by : (o : Option (List ℕ)) → IsBytes (field nullable_bytes o) → IsBytes (or_empty o)
    by None all = λ i. omega arith
    by (Some b) all = IsBytes-second (be size32 (pos (length b))) b all

-- ---- one entry

result_fits : (index code base : ℤ) → FitsSigned w32 index → FitsSigned w16 code → FitsSigned w64 base → Fits produced_fields (produced_value (produce_result index code base))
unfolding Fits
result_fits index code base i c b = (i, (c, (b, (null_fits size64, tt))))

-- the checks of a batch passed, and an append would find no fault
checked : (s : State) (q : ProduceValue) (name : List ℕ) (e : ProducePartitionValue) → first_some (produce_checks s q name e) ≡ None
    → (first_some (batch_checks e.records) ≡ None) × (append_fault (content_at s name e.index) (batch_of e.records) ≡ None)
checked s q name e none =
    let acks = none_first (fault_if (not (is_acks q.acks)) InvalidRequiredAcks) _ none in
    let transaction = none_first (fault_if (is_some q.transactional_id) InvalidTransactionState) _ acks.1 in
    let known = none_first (unknown s name e.index) _ transaction.1 in
    let group = none_first (fault_if (is_group_topic name) InvalidTopic) _ known.1 in
    let leads = none_first (not_leader s) _ group.1 in
    let batch = none_both (batch_checks e.records) (option_map append_code (append_fault (content_at s name e.index) (batch_of e.records)) ∷ []) leads.1 in
    (batch.0, unmapped append_code (append_fault (content_at s name e.index) (batch_of e.records)) (none_first _ None batch.1).0)

module _ (q : ProduceValue) where
  abbrev Has : Entry → ProducedPartition → State → Type 0
  Has e r m = EntryFits produce_partition produced_fields produced_value (λ r. 0) e r × IsSound m

  answered : (e : Entry) (code base : ℤ) (m : State) → IsSaid produce_partition e → FitsSigned w16 code → FitsSigned w64 base → IsSound m → Has e (produce_result e.0 code base) m
  unfolding Fits
  answered e code base m said c b sound = (
    record {
      fits = result_fits e.0 code base said.fits.0 c b;
      size = omega (arith, entry_long e, answer_long (produce_result e.0 code base));
    },
    sound,
  )

  pub produce_entry : (s : State) (name : List ℕ) (e : Entry) (r : ProducedPartition) (m : State) → IsSound s → FitsLength size16 (length name) → IsSaid produce_partition e → MayAnswer (produce_work s q name (produce_partition_value e)) s r m → Has e r m
  produce_entry s name e r m sound named said = worked (Has e) (produce_work s q name (produce_partition_value e)) s r m
      (λ code. answered e (code_number code) (negsuc 0) s said (code_fits code) (null_fits size64) sound) done
    where
      given : ProducePartitionValue
      given = produce_partition_value e

      done : first_some (produce_checks s q name given ++ []) ≡ None
          → Has e (produce_result e.0 no_error (appended (content_at s name given.index) (batch_of given.records)).0) (with_content s name given.index (appended (content_at s name given.index) (batch_of given.records)).1)
      done none =
          let passed = checked s q name given (none_both (produce_checks s q name given) [] none).0 in
          let writable : Writable (batch_of given.records) = batch_writable given.records (records_bytes e said) passed.0 in
          let c = content_at s name given.index in
          let after = appended_valid c (batch_of given.records) (content_valid s name given.index sound) writable passed.1 in
          answered e no_error (appended c (batch_of given.records)).0 (with_content s name given.index (appended c (batch_of given.records)).1) said no_error_fits after.0
          (sound_with s name given.index (appended c (batch_of given.records)).1 after.1 sound)

-- ---- a request

pub produce_fits : (n : ℕ) (s : State) (correlation : ℤ) (v : Value produce_fields) (out : Option (List ℕ)) (after : State) → n ≤ frame_limit → IsSound s → FitsSigned w32 correlation → IsPart n produce_fields v
    → RepliesBy (λ R S w. MayAnswer w) (produce_plan s correlation (produce_request v)) out after → IsKept correlation produce_response out after
unfolding Fits
produce_fits n s correlation v out after low sound number part h =
    let q = produce_request v in
    let ts = elements_are (later (later (later part))) in
    let all = topics_fit produce_partition produced_fields produced_value (λ r. 0) produce_partition_value (λ s name e r m. MayAnswer (produce_work s q name e) s r m) IsSound (produce_entry q) s h.end v.1.1.1.0 h.results sound ts.count ts.said h.answers in
    let size = all.0.1 in
    let long = ts.long in
    let value = produce_value h.results in
    let whole : length (encoded produce_response value) ≤ enough = omega (arith, low, size, long, none_apart h.results, array_length (topic produced_fields) (int32 ⨾ end) value, first_long (pos 0) end tt, none_long) in
    (subst (FitsIfSent correlation produce_response) (sym h.sends) (by (int_eq q.acks (pos 0)) (fitting_response correlation produce_response value number (all.0.0, (record { sfits = omega arith }, tt)) whole)), subst IsSound (sym h.leaves) all.1)
  where
    by : {bytes : List ℕ} (silent : Bool) → IsFitting correlation produce_response bytes → FitsIfSent correlation produce_response (cond silent None (Some bytes))
    by true is = tt
    by false is = is
