-- The response to ListOffsets fits its fields.
use Rattle.std.proofs.Common.{◌≡◌, ℕ, ℤ, negsuc, Bool, true, false, cond, List, length, Option, Some, None, refl, arith, sym, subst, ◌≤◌}
use Rattle.std.specs.Prelude.{FitsSigned}
use Rattle.std.specs.Option.{unwrap_or}
use Rattle.std.specs.Ordering.{int_eq}
use Rattle.std.specs.Int.{w16, w32}
use Rattle.content.specs.Content.{Content, IsContent, end}
use Rattle.time_index.specs.Times.{first_by_time}
use Rattle.frame_fields.specs.Fields.{size16, size64, Value, FitsLength, Fits, encoded, end as no_fields}
use Rattle.frame_fields.proofs.Numbers.{null_fits}
use Rattle.frame_fields.specs.Types.{topic}
use Rattle.request_frames.specs.ListOffsets.{list_offsets_partition, list_offsets_partition_value, list_offsets_fields, list_offsets_request}
use Rattle.responses.specs.declared.list_offsets.partition.ListedPartition.{ListedPartition}
use Rattle.responses.specs.ListOffsets.{list_offsets_answer_fields, list_offsets_answer_value, list_offsets_response, list_offsets_value}
use Rattle.answering.specs.Codes.{no_error, code_number}
use Rattle.answering.specs.Work.{MayAnswer}
use Rattle.answering.specs.Plans.{RepliesBy}
use Rattle.broker_state.specs.State.{State, content_at}
use Rattle.broker_state.specs.Sound.{IsSound}
use Rattle.broker_state.proofs.ValidAppends.{end_fits}
use Rattle.broker_state.proofs.SoundStates.{content_valid}
use Rattle.log_requests.specs.ListOffsets.{list_offsets_latest, list_offsets_earliest, list_offsets_at, list_offsets_result, list_offsets_work, list_offsets_plan}
use Rattle.broker_node.specs.Fitting.{FitsIfSent}
use Rattle.broker_node.proofs.KeptStates.{worked}
use Rattle.broker_laws.proofs.Said.{IsSaid, IsPart, later, elements_are, array_length, none_long}
use Rattle.broker_laws.proofs.TopicsFit.{EntryFits, topics_fit, none_apart}
use Rattle.broker_laws.proofs.ValidContents.{StampFits, start_fits, time_fits}
use Rattle.broker_laws.proofs.Works.{no_error_fits, code_fits}
use Rattle.broker_laws.proofs.FittingResponses.{enough, fitting_response, IsKept, frame_limit}

abbrev Entry : Type 0
Entry = Value list_offsets_partition

-- ---- how long an entry and its answer are

entry_long : (e : Entry) → length (encoded list_offsets_partition e) ≡ 12
unfolding encoded
entry_long e = refl

answer_long : (r : ListedPartition) → length (encoded list_offsets_answer_fields (list_offsets_answer_value r)) ≡ 22
unfolding encoded
answer_long r = refl

-- ---- a time and an offset

none_fits : StampFits (negsuc 0, negsuc 0)
none_fits = (null_fits size64, null_fits size64)

at_fits : (c : Content) (time : ℤ) → IsContent c → StampFits (list_offsets_at c time)
at_fits c time is = by (int_eq time list_offsets_latest) (int_eq time list_offsets_earliest)
  where
    found : (o : Option (ℤ × ℤ)) → first_by_time time c.kept ≡ o → StampFits (unwrap_or o (negsuc 0, negsuc 0))
    found None e = none_fits
    found (Some stamp) e = time_fits c time stamp is e

    by : (latest earliest : Bool) → StampFits (cond latest (negsuc 0, end c) (cond earliest (negsuc 0, c.start) (unwrap_or (first_by_time time c.kept) (negsuc 0, negsuc 0))))
    by true earliest = (null_fits size64, end_fits c is)
    by false true = (null_fits size64, start_fits c is)
    by false false = found (first_by_time time c.kept) refl

-- ---- one entry

abbrev Has : Entry → ListedPartition → State → Type 0
Has e r m = EntryFits list_offsets_partition list_offsets_answer_fields list_offsets_answer_value (λ r. 0) e r × IsSound m

answered : (e : Entry) (code : ℤ) (at : ℤ × ℤ) (m : State) → IsSaid list_offsets_partition e → FitsSigned w16 code → StampFits at → IsSound m → Has e (list_offsets_result e.0 code at) m
unfolding Fits
answered e code at m said c fits sound = (
  record {
    fits = (said.fits.0, (c, (fits.0, (fits.1, tt))));
    size = omega (arith, entry_long e, answer_long (list_offsets_result e.0 code at));
  },
  sound,
)

pub list_offsets_entry : (s : State) (name : List ℕ) (e : Entry) (r : ListedPartition) (m : State) → IsSound s → FitsLength size16 (length name) → IsSaid list_offsets_partition e → MayAnswer (list_offsets_work s name (list_offsets_partition_value e)) s r m → Has e r m
list_offsets_entry s name e r m sound named said = worked (Has e) (list_offsets_work s name (list_offsets_partition_value e)) s r m
    (λ code. answered e (code_number code) (negsuc 0, negsuc 0) s said (code_fits code) none_fits sound)
    (λ none. answered e no_error (list_offsets_at (content_at s name e.0) e.1.0) s said no_error_fits (at_fits (content_at s name e.0) e.1.0 (content_valid s name e.0 sound)) sound)

-- ---- a request

pub list_offsets_fits : (n : ℕ) (s : State) (correlation : ℤ) (v : Value list_offsets_fields) (out : Option (List ℕ)) (after : State) → n ≤ frame_limit → IsSound s → FitsSigned w32 correlation → IsPart n list_offsets_fields v
    → RepliesBy (λ R S w. MayAnswer w) (list_offsets_plan s correlation (list_offsets_request v)) out after → IsKept correlation list_offsets_response out after
unfolding Fits
list_offsets_fits n s correlation v out after low sound number part h =
    let ts = elements_are (later part) in
    let all = topics_fit list_offsets_partition list_offsets_answer_fields list_offsets_answer_value (λ r. 0) list_offsets_partition_value (λ s name e r m. MayAnswer (list_offsets_work s name e) s r m) IsSound list_offsets_entry s h.end v.1.0 h.results sound ts.count ts.said h.answers in
    let size = all.0.1 in
    let long = ts.long in
    let value = list_offsets_value h.results in
    let whole : length (encoded list_offsets_response value) ≤ enough = omega (arith, low, size, long, none_apart h.results, array_length (topic list_offsets_answer_fields) no_fields value, none_long) in
    (subst (FitsIfSent correlation list_offsets_response) (sym h.sends) (fitting_response correlation list_offsets_response value number (all.0.0, tt) whole), subst IsSound (sym h.leaves) all.1)
