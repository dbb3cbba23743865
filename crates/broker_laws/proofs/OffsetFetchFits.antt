-- The response to OffsetFetch fits its fields: what a look-up finds does, and metadata is found for a bounded number of partitions.
use Rattle.std.proofs.Common.{◌≡◌, ℕ, ◌+◌, ◌*◌, ◌≤◌, ℤ, pos, Bool, true, false, List, [], ◌∷◌, ◌++◌, length, Option, Some, None, Result, Ok, Err, refl, sym, subst, arith}
use Rattle.std.specs.Prelude.{nat_lt, FitsSigned}
use Rattle.std.specs.Int.{w16, w32, w64}
use Rattle.std.proofs.lemmas.List.{length-append}
use Rattle.content.specs.Table.{Table}
use Rattle.content.specs.Content.{shown_table}
use Rattle.frame_fields.specs.Fields.{size16, size32, size64, Value, FitsLength, be, field, FieldFits, Fits, encoded, end}
use Rattle.frame_fields.specs.Types.{TopicOf, topic, nullable_string, or_empty}
use Rattle.frame_fields.proofs.Numbers.{length-be, null_fits}
use Rattle.request_frames.specs.OffsetFetch.{OffsetFetchPartitionValue, offset_fetch_partition, offset_fetch_partition_value, offset_fetch_fields, offset_fetch_request}
use Rattle.responses.specs.OffsetFetch.{FetchedOffset, fetched_offset_fields, fetched_offset_value, offset_fetch_response, offset_fetch_value}
use Rattle.group_offsets.specs.declared.layout.TheConstants.{MAX_NAME_BYTES}
use Rattle.group_offsets.specs.declared.error.GroupError.{GroupError}
use Rattle.group_offsets.specs.Keys.{GroupKeyValue}
use Rattle.group_offsets.specs.CommittedValues.{CommittedValue, CommittedFits, IsMetadata}
use Rattle.group_offsets.specs.Lookups.{lookup_in}
use Rattle.group_offsets.proofs.ReadFits.{found_fits}
use Rattle.answering.specs.declared.codes.ErrorCode.TheVariants.{InvalidRequest}
use Rattle.answering.specs.Codes.{no_error, code_number}
use Rattle.answering.specs.Lists.{fault_if}
use Rattle.answering.specs.Work.{MayAnswer}
use Rattle.answering.specs.Plans.{AnswersTopic, AnswersTopics, RepliesBy}
use Rattle.broker_state.specs.State.{State}
use Rattle.broker_state.specs.Sound.{IsSound}
use Rattle.broker_state.proofs.Passed.{none_first, no_fault}
use Rattle.group_requests.specs.GroupPartition.{group_content}
use Rattle.group_requests.specs.declared.offset_fetch.TheConstants.{MAX_FETCHED_OFFSETS}
use Rattle.group_requests.specs.OffsetFetch.{offset_fetch_lookup, offset_fetch_none, offset_fetch_result, offset_fetch_work, partition_count, offset_fetch_plan}
use Rattle.broker_node.specs.Fitting.{FitsIfSent}
use Rattle.broker_node.proofs.KeptStates.{worked}
use Rattle.broker_laws.proofs.Said.{IsSaid, IsPart, later, elements_are, array_length, none_long}
use Rattle.broker_laws.proofs.TopicsFit.{EntryFits, topics_fit, none_apart}
use Rattle.broker_laws.proofs.Works.{no_error_fits, code_fits}
use Rattle.broker_laws.proofs.FittingResponses.{enough, fitting_response, IsKept, frame_limit}
use Rattle.broker_laws.proofs.Followed.{total, bounded}

abbrev Entry : Type 0
Entry = Value offset_fetch_partition

-- ---- how long an entry and its answer are

abbrev pub text_size : FetchedOffset → ℕ
text_size r = length (or_empty r.metadata)

entry_long : (e : Entry) → length (encoded offset_fetch_partition e) ≡ 4
unfolding encoded
entry_long e = refl

answer_long : (r : FetchedOffset) → length (encoded fetched_offset_fields (fetched_offset_value r)) ≡ 16 + text_size r
unfolding encoded
answer_long r = by r.metadata
  where
    by : (text : Option (List ℕ)) → length (be size32 r.partition ++ (be size64 r.offset ++ (field nullable_string text ++ (be size16 r.code ++ [])))) ≡ 16 + length (or_empty text)
    by None = refl
    by (Some text) =
        let count = be size16 (pos (length text)) in
        let code = be size16 r.code ++ [] in
        let metadata = (count ++ text) ++ code in
        omega (
          arith,
          length-append (be size32 r.partition) (be size64 r.offset ++ metadata),
          length-be size32 r.partition,
          length-append (be size64 r.offset) metadata,
          length-be size64 r.offset,
          length-append (count ++ text) code,
          length-append count text,
          length-be size16 (pos (length text)),
          length-append (be size16 r.code) [],
          length-be size16 r.code,
        )

-- ---- metadata

-- the most bytes of metadata, where a request names too many partitions, or doesn't
abbrev pub most_text : Bool → ℕ
most_text true = 0
most_text false = MAX_NAME_BYTES

record HasOffset (too_many : Bool) (r : FetchedOffset) : Type 0 where
  pub offset : FitsSigned w64 r.offset
  pub metadata : FieldFits nullable_string r.metadata
  pub small : text_size r ≤ most_text too_many

none_has : (too_many : Bool) (partition code : ℤ) → HasOffset too_many (offset_fetch_none partition code)
none_has too_many partition code = record { offset = null_fits size64; metadata = record { sfits = omega arith }; small = omega arith }

metadata_fits : (text : Option (List ℕ)) → IsMetadata text → FieldFits nullable_string text × (length (or_empty text) ≤ MAX_NAME_BYTES)
metadata_fits None is = (tt, omega arith)
metadata_fits (Some text) is = (record { sfits = omega (arith, is) }, omega (arith, is))

found_has : (k : GroupKeyValue) (t : Table) (partition : ℤ) (found : Result (Option CommittedValue) GroupError) → lookup_in t k ≡ found → HasOffset false (offset_fetch_result partition found)
found_has k t partition (Err e) is = none_has false partition no_error
found_has k t partition (Ok None) is = none_has false partition no_error
found_has k t partition (Ok (Some v)) is =
    let fits : CommittedFits v = found_fits t k v is in
    let text = metadata_fits v.metadata fits.metadata in
    record { offset = fits.offset; metadata = text.0; small = text.1 }

-- ---- one entry

module _ (group : List ℕ) (too_many : Bool) where
  abbrev Has : Entry → FetchedOffset → State → Type 0
  Has e r m = EntryFits offset_fetch_partition fetched_offset_fields fetched_offset_value text_size e r × IsSound m

  -- the answer is of the partition that was asked for, with a code that fits
  record IsAnswered (e : OffsetFetchPartitionValue) (r : FetchedOffset) : Type 0 where
    pub partition : r.partition ≡ e.partition
    pub code : FitsSigned w16 r.code
    pub has : HasOffset too_many r

  result_has : (s : State) (name : List ℕ) (p : ℤ) → too_many ≡ false → HasOffset too_many (offset_fetch_result p (offset_fetch_lookup s group name p))
  result_has s name p few = subst (λ (b : Bool). HasOffset b (offset_fetch_result p (offset_fetch_lookup s group name p))) (sym few)
      (found_has (record { group = group; topic = name; partition = p }) (shown_table (group_content s)) p (offset_fetch_lookup s group name p) refl)

  is_answered : (s : State) (name : List ℕ) (e : OffsetFetchPartitionValue) (r : FetchedOffset) (m : State) → MayAnswer (offset_fetch_work s group too_many name e) s r m → IsAnswered e r
  is_answered s name e r m = worked (λ r m. IsAnswered e r) (offset_fetch_work s group too_many name e) s r m
      (λ code. record { partition = refl; code = code_fits code; has = none_has too_many e.partition (code_number code) })
      (λ none.
      let few = no_fault too_many InvalidRequest (none_first (fault_if too_many InvalidRequest) _ none).0 in
      let found = offset_fetch_lookup s group name e.partition in
      record { partition = partition_is e.partition found; code = found_code e.partition found; has = result_has s name e.partition few })
    where
      partition_is : (p : ℤ) (found : Result (Option CommittedValue) GroupError) → (offset_fetch_result p found).partition ≡ p
      partition_is p (Err e) = refl
      partition_is p (Ok None) = refl
      partition_is p (Ok (Some v)) = refl

      found_code : (p : ℤ) (found : Result (Option CommittedValue) GroupError) → FitsSigned w16 (offset_fetch_result p found).code
      found_code p (Err e) = no_error_fits
      found_code p (Ok None) = no_error_fits
      found_code p (Ok (Some v)) = no_error_fits

  pub offset_fetch_entry : (s : State) (name : List ℕ) (e : Entry) (r : FetchedOffset) (m : State) → IsSound s → FitsLength size16 (length name) → IsSaid offset_fetch_partition e
      → MayAnswer (offset_fetch_work s group too_many name (offset_fetch_partition_value e)) s r m → Has e r m
  unfolding Fits
  offset_fetch_entry s name e r m sound name_fits said h =
      let is = is_answered s name (offset_fetch_partition_value e) r m h in (
        record {
          fits = (subst (FitsSigned w32) (sym is.partition) said.fits.0, (is.has.offset, (is.has.metadata, (is.code, tt))));
          size = omega (arith, entry_long e, answer_long r);
        },
        worked (λ r m. IsSound m) (offset_fetch_work s group too_many name (offset_fetch_partition_value e)) s r m (λ code. sound) (λ none. sound) h,
      )

  -- ---- all metadata together

  abbrev most : OffsetFetchPartitionValue → ℕ
  most e = most_text too_many

  abbrev Answers : State → List ℕ → OffsetFetchPartitionValue → FetchedOffset → State → Type 0
  Answers s name e r m = MayAnswer (offset_fetch_work s group too_many name e) s r m

  pub texts_within : (s : State) (ts : List (TopicOf OffsetFetchPartitionValue)) (rs : List (TopicOf FetchedOffset)) (m : State) → AnswersTopics Answers s ts rs m
      → total (λ r. total text_size r.entries) rs ≤ total (λ t. total most t.entries) ts
  texts_within = bounded (AnswersTopic Answers) (λ r. total text_size r.entries) (λ t. total most t.entries)
      (λ s t r m answers. bounded (λ s e r m. Answers s t.name e r m) text_size most (λ s e r m h. (is_answered s t.name e r m h).has.small) s t.entries r.entries m answers.1)

all_same : {E : Type 0} (es : List E) → total (λ (e : E). MAX_NAME_BYTES) es ≡ MAX_NAME_BYTES * length es
all_same [] = refl
all_same (e ∷ es) = omega (arith, all_same es)

all_in_topics : {E : Type 0} (ts : List (TopicOf E)) → total (λ t. total (λ (e : E). MAX_NAME_BYTES) t.entries) ts ≡ MAX_NAME_BYTES * partition_count ts
all_in_topics [] = refl
all_in_topics (t ∷ ts) = omega (arith, all_same t.entries, all_in_topics ts)

-- metadata that is found is so long at most, of as many partitions
texts_small : (too_many : Bool) (ts : List (TopicOf OffsetFetchPartitionValue)) → nat_lt MAX_FETCHED_OFFSETS (partition_count ts) ≡ too_many → total (λ t. total (λ (e : OffsetFetchPartitionValue). most_text too_many) t.entries) ts ≤ MAX_NAME_BYTES * MAX_FETCHED_OFFSETS
texts_small true ts many = omega (arith, none_apart ts)
texts_small false ts few = let most : partition_count ts ≤ MAX_FETCHED_OFFSETS = grind (arith, few) in omega (arith, most, all_in_topics ts)

-- ---- a request

pub offset_fetch_fits : (n : ℕ) (s : State) (correlation : ℤ) (v : Value offset_fetch_fields) (out : Option (List ℕ)) (after : State) → n ≤ frame_limit → IsSound s → FitsSigned w32 correlation → IsPart n offset_fetch_fields v
    → RepliesBy (λ R S w. MayAnswer w) (offset_fetch_plan s correlation (offset_fetch_request v)) out after → IsKept correlation offset_fetch_response out after
unfolding Fits
offset_fetch_fits n s correlation v out after low sound number part h =
    let q = offset_fetch_request v in
    let too_many = nat_lt MAX_FETCHED_OFFSETS (partition_count q.topics) in
    let ts = elements_are (later part) in
    let all = topics_fit offset_fetch_partition fetched_offset_fields fetched_offset_value text_size offset_fetch_partition_value (λ s name e r m. MayAnswer (offset_fetch_work s q.group too_many name e) s r m) IsSound (offset_fetch_entry q.group too_many) s h.end v.1.0 h.results sound ts.count ts.said h.answers in
    let size = all.0.1 in
    let long = ts.long in
    let value = offset_fetch_value h.results in
    let texts = texts_within q.group too_many s q.topics h.results h.end h.answers in
    let few = texts_small too_many q.topics refl in
    let whole : length (encoded offset_fetch_response value) ≤ enough = omega (arith, low, size, long, texts, few, array_length (topic fetched_offset_fields) end value, none_long) in
    (subst (FitsIfSent correlation offset_fetch_response) (sym h.sends) (fitting_response correlation offset_fetch_response value number (all.0.0, tt) whole), subst IsSound (sym h.leaves) all.1)
