-- The response to Get fits its fields: a value that a table shows is one of a kept record, which is smaller than its batch.
use Rattle.std.proofs.Common.{◌≡◌, ℕ, ◌+◌, ◌≤◌, ℤ, pos, Bool, true, false, cond, List, [], ◌∷◌, ◌++◌, length, Option, Some, None, refl, sym, ap, subst, ◌∙◌, arith}
use Rattle.std.specs.Prelude.{map, FitsSigned}
use Rattle.std.specs.List.{flat_map, fold, AllByRecursion}
use Rattle.std.specs.Int.{w8, w16, w32}
use Rattle.std.specs.Ordering.{nat_cmp}
use Rattle.std.specs.Cmp.Lexicographic.{slice_cmp}
use Rattle.std.specs.FinMap as finite
use Rattle.std.proofs.lemmas.List.{length-append}
use Rattle.std.proofs.lemmas.List.Concat.{flat_map-cons}
use Rattle.varint.specs.Encoding.{encoding}
use Rattle.batch_codec.specs.declared.layout.TheConstants.{MAX_BATCH_BYTES}
use Rattle.batch_codec.specs.Values.{RecordValue, BatchValue}
use Rattle.batch_codec.specs.Grammar.{fields, signed, nullable, header_encoding, record_body, record_encoding, Writable}
use Rattle.batch_codec.specs.Offsets.{offset_of}
use Rattle.batch_codec.proofs.Encoded.{sizes}
use Rattle.content.specs.Records.{LogRecord, log_records, equal_keys, IsKeepable}
use Rattle.content.specs.Table.{Table, with_record, table_of}
use Rattle.content.specs.Content.{Content, IsContent, shown_table}
use Rattle.content_laws.proofs.Tables.{get-with_key}
use Rattle.frame_fields.specs.Fields.{size16, size32, Value, be, Fits, encoded}
use Rattle.frame_fields.proofs.Numbers.{length-be}
use Rattle.request_frames.specs.Get.{get_fields, get_request}
use Rattle.responses.specs.Get.{get_response, get_value}
use Rattle.answering.specs.Codes.{no_error, code_number}
use Rattle.answering.specs.Work.{MayAnswer}
use Rattle.answering.specs.Once.{RepliesOnce}
use Rattle.broker_state.specs.State.{State, content_at}
use Rattle.broker_state.specs.Sound.{IsSound}
use Rattle.broker_state.proofs.SoundStates.{content_valid}
use Rattle.copy_requests.specs.Get.{GetResult, get_work, get_sent}
use Rattle.broker_laws.proofs.Said.{IsPart}
use Rattle.broker_laws.proofs.Works.{no_error_fits, code_fits}
use Rattle.broker_laws.proofs.FittingResponses.{IsKept, frame_limit}
use Rattle.broker_laws.proofs.OnceFits.{FitsOnce, once_fits}

-- ---- records

-- a value that is no longer than a batch, or none
abbrev IsSmall : Option (List ℕ) → Type 0
IsSmall value = (bytes : List ℕ) → value ≡ Some bytes → length bytes ≤ MAX_BATCH_BYTES

abbrev HasSmallValue : RecordValue → Type 0
HasSmallValue r = IsSmall r.value

value_long : (r : RecordValue) → length (nullable r.value) ≤ length (record_body r)
unfolding record_body
value_long r =
    let head = fields (signed w8 r.attrs ∷ []) in
    let headers = encoding (pos (length r.headers)) ++ flat_map header_encoding r.headers in
    let from_value = nullable r.value ++ headers in
    let from_key = nullable r.key ++ from_value in
    let from_delta = encoding r.delta ++ from_key in
    omega (
      arith,
      length-append head (encoding r.time_delta ++ from_delta),
      length-append (encoding r.time_delta) from_delta,
      length-append (encoding r.delta) from_key,
      length-append (nullable r.key) from_value,
      length-append (nullable r.value) headers,
    )

within_nullable : (value : Option (List ℕ)) (size : ℕ) → length (nullable value) ≤ size → size ≤ MAX_BATCH_BYTES → IsSmall value
within_nullable None size low small bytes e = absurd cc
within_nullable (Some all) size low small bytes e =
    let long : length all ≤ MAX_BATCH_BYTES = omega (arith, low, small, length-append (encoding (pos (length all))) all) in
    let same : all ≡ bytes = cc in
    subst (λ (b : List ℕ). length b ≤ MAX_BATCH_BYTES) same long

small_values : (rs : List RecordValue) → length (flat_map record_encoding rs) ≤ MAX_BATCH_BYTES → AllByRecursion HasSmallValue rs
small_values [] small = tt
small_values (r ∷ rs) small =
    let body = record_body r in
    let count = encoding (pos (length body)) in
    let all : length (flat_map record_encoding (r ∷ rs)) ≡ length (record_encoding r) + length (flat_map record_encoding rs) = ap length (flat_map-cons record_encoding r rs) ∙ length-append (record_encoding r) (flat_map record_encoding rs) in
    let own : length (record_encoding r) ≡ length count + length body = length-append count body in (
      within_nullable r.value (length body) (value_long r) (omega (arith, small, all, own)),
      small_values rs (omega (arith, small, all)),
    )

batch_values : (b : BatchValue) → Writable b → AllByRecursion HasSmallValue b.recs
batch_values b writable =
    let whole = (sizes b).whole in
    let checked = (sizes b).checked in
    let small = writable.size in
    small_values b.recs (omega (arith, whole, checked, small))

-- ---- tables

abbrev IsSmallTable : Table → Type 0
IsSmallTable t = (key : List ℕ) → IsSmall (finite.get t key)

record_more : (t : Table) (r : RecordValue) → IsSmallTable t → HasSmallValue r → IsSmallTable (with_record t r)
record_more t r table small key = subst IsSmall (sym (get-with_key t r.key key r.value)) (by (equal_keys r.key (Some key)))
  where
    by : (same : Bool) → IsSmall (cond same r.value (finite.get t key))
    by true = small
    by false = table key

records_more : (t : Table) (b : BatchValue) (rs : List RecordValue) (others : List LogRecord) → IsSmallTable t → AllByRecursion HasSmallValue rs
    → ((u : Table) → IsSmallTable u → IsSmallTable (fold (λ t x. with_record t x.1) u others)) → IsSmallTable (fold (λ t x. with_record t x.1) t (map (λ r. (offset_of b r, r)) rs ++ others))
records_more t b [] others table small rest = rest t table
records_more t b (r ∷ rs) others table small rest = records_more (with_record t r) b rs others (record_more t r table small.0) small.1 rest

batches_more : (bs : List BatchValue) (t : Table) → IsSmallTable t → AllByRecursion IsKeepable bs → IsSmallTable (fold (λ t x. with_record t x.1) t (log_records bs))
batches_more [] t table keepable = table
batches_more (b ∷ bs) t table keepable =
    subst (λ (xs : List LogRecord). IsSmallTable (fold (λ t x. with_record t x.1) t xs)) (sym (flat_map-cons (λ b. map (λ r. (offset_of b r, r)) b.recs) b bs))
    (records_more t b b.recs (log_records bs) table (batch_values b keepable.0.0) (λ u more. batches_more bs u more keepable.1))

none_small : IsSmallTable finite.empty
none_small key = subst IsSmall (sym (finite.get-empty (slice_cmp nat_cmp) key)) (λ bytes e. absurd cc)

shown_small : (c : Content) → IsContent c → IsSmallTable (shown_table c)
unfolding table_of
shown_small c is = batches_more c.kept finite.empty none_small is.keepable

-- ---- a request

abbrev value_of : GetResult → Value get_response
value_of r = get_value r.code r.value

answered : (code : ℤ) (value : Option (List ℕ)) → FitsSigned w16 code → IsSmall value → FitsOnce get_response (get_value code value)
unfolding Fits encoded
answered code None c small = record { fits = (c, (tt, tt)); size = omega arith }
answered code (Some bytes) c small =
    let count = be size32 (pos (length bytes)) in
    let long : length bytes ≤ MAX_BATCH_BYTES = small bytes refl in
    record {
      fits = (c, (record { sfits = omega (arith, long) }, tt));
      size = omega (
        arith,
        long,
        length-append (be size16 code) ((count ++ bytes) ++ []),
        length-be size16 code,
        length-append (count ++ bytes) [],
        length-append count bytes,
        length-be size32 (pos (length bytes)),
      );
    }

pub get_fits : (n : ℕ) (s : State) (correlation : ℤ) (v : Value get_fields) (out : Option (List ℕ)) (after : State) → n ≤ frame_limit → IsSound s → FitsSigned w32 correlation → IsPart n get_fields v
    → RepliesOnce (λ R S w. MayAnswer w) (get_sent correlation) (get_work s (get_request v)) s out after → IsKept correlation get_response out after
get_fits n s correlation v out after low sound number part h =
    let q = get_request v in
    let c = content_at s q.topic q.partition in
    once_fits correlation get_response value_of (get_work s q) s out after number sound
    (λ code. answered (code_number code) None (code_fits code) (λ bytes e. absurd cc))
    (λ none. (answered no_error (finite.get (shown_table c) q.key) no_error_fits (shown_small c (content_valid s q.topic q.partition sound) q.key), sound))
    h
