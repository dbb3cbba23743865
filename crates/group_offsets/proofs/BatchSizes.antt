-- How many bytes the batches have: a commit's are always within the limit, and those of null records are counted key by
-- key.
use Rattle.std.proofs.Common.{◌≡◌, ℕ, suc, ◌+◌, ◌<◌, ◌≤◌, ◌^◌, pos, negsuc, List, [], ◌∷◌, ◌++◌, drop, length, get_or, Option, Some, None, refl, sym, ap, ◌∙◌, inl, inr, arith, length-append}
use Rattle.std.specs.Prelude.{◌≤ℤ◌}
use Rattle.std.specs.List.{flat_map}
use Rattle.std.proofs.lemmas.Int.{ints}
use Rattle.std.proofs.lemmas.List.{drop_more, drop_all}
use Rattle.std.proofs.lemmas.Bool.{cases_lt}
use Rattle.varint.specs.Encoding.{encoding, digits}
use Rattle.varint.proofs.Digits.{most_of_32_bits}
use Rattle.frame_fields.specs.Fields.{be, size16, size32, field, encoded}
use Rattle.frame_fields.specs.Types.{nullable_string}
use Rattle.batch_codec.specs.declared.layout.TheConstants.{MAX_BATCH_BYTES}
use Rattle.batch_codec.specs.Values.{RecordValue, BatchValue}
use Rattle.batch_codec.specs.Grammar.{record_body, record_encoding, batch_encoding, Writable}
use Rattle.batch_codec.proofs.Encoded.{sizes, records_len}
use Rattle.batch_codec.specs.Writing.{within}
use Rattle.batch_codec.proofs.Sizing.{body_len, within_small, within_large, within_some}
use Rattle.group_offsets.specs.declared.layout.TheConstants.{MAX_NAME_BYTES}
use Rattle.group_offsets.specs.declared.forget.TheConstants.{MAX_FORGOTTEN}
use Rattle.group_offsets.specs.Keys.{GroupKeyValue, GroupKeyFits, group_key_bytes}
use Rattle.group_offsets.specs.CommittedValues.{CommittedValue, CommittedFits, IsMetadata, committed_bytes}
use Rattle.group_offsets.specs.Batches.{offsets_record, commit_batch, null_records, forget_batch}
use Rattle.group_offsets.proofs.ValidBatches.{commit_valid, forget_valid, null_count}

pub batch_len : (b : BatchValue) → length (batch_encoding b) ≡ 61 + length (flat_map record_encoding b.recs)
batch_len b = let s = sizes b in omega (arith, s.whole, s.checked)

small_varint : (n : ℕ) → n < 2 ^ 31 → length (encoding (pos n)) ≤ 5
small_varint n less = most_of_32_bits (pos n) (record { sfits = less })

zero_varint : length (encoding (pos 0)) ≡ 1
unfolding encoding digits
zero_varint = refl

null_varint : length (encoding (negsuc 0)) ≡ 1
unfolding encoding digits
null_varint = refl

record_len : (r : RecordValue) → length (record_encoding r) ≡ length (encoding (pos (length (record_body r)))) + length (record_body r)
record_len r = length-append (encoding (pos (length (record_body r)))) (record_body r)

text_len : (text : List ℕ) → length (encoding (pos (length text)) ++ text) ≡ length (encoding (pos (length text))) + length text
text_len text = length-append (encoding (pos (length text))) text

-- ---- a commit

key_len : (k : GroupKeyValue) → length (group_key_bytes k) ≡ 10 + length k.group + length k.topic
unfolding encoded
key_len k =
    omega (arith, length-append k.group (be size16 (pos (length k.topic)) ++ (k.topic ++ (be size32 k.partition ++ []))), length-append k.topic (be size32 k.partition ++ []))

metadata_len : (text : Option (List ℕ)) → IsMetadata text → length (field nullable_string text ++ []) ≤ 2 + MAX_NAME_BYTES
metadata_len None fits = omega arith
metadata_len (Some text) fits = omega (arith, length-append text [])

value_len : (v : CommittedValue) → IsMetadata v.metadata → length (committed_bytes v) ≤ 12 + MAX_NAME_BYTES
unfolding encoded
value_len v fits = omega (arith, metadata_len v.metadata fits)

commit_body : (key value : List ℕ) → length key < 2 ^ 17 → length value < 2 ^ 16 → length (record_body (offsets_record (pos 0) key (Some value))) < 2 ^ 18
commit_body key value small less =
    omega (arith, body_len (offsets_record (pos 0) key (Some value)), zero_varint, text_len key, text_len value, small_varint (length key) (omega arith), small_varint (length value) (omega arith))

-- a record of such a size is within the limit by itself
one_record : (r : RecordValue) → length (record_body r) < 2 ^ 18 → 61 + length (flat_map record_encoding (r ∷ [])) ≤ MAX_BATCH_BYTES
one_record r small =
    omega (arith, length-append (record_encoding r) [], record_len r, small_varint (length (record_body r)) (omega arith))

commit_size : (k : GroupKeyValue) (v : CommittedValue) → GroupKeyFits k → CommittedFits v → 61 + length (flat_map record_encoding (commit_batch k v).recs) ≤ MAX_BATCH_BYTES
unfolding commit_batch
commit_size k v fits value_fits =
    let group : length k.group ≤ MAX_NAME_BYTES = fits.group in
    let topic : length k.topic ≤ MAX_NAME_BYTES = fits.topic in
    one_record (offsets_record (pos 0) (group_key_bytes k) (Some (committed_bytes v)))
    (commit_body (group_key_bytes k) (committed_bytes v) (omega (arith, key_len k, group, topic)) (omega (arith, value_len v value_fits.metadata)))

pub commit_writable : (k : GroupKeyValue) (v : CommittedValue) → GroupKeyFits k → CommittedFits v → Writable (commit_batch k v)
commit_writable k v fits value_fits = record { valid = commit_valid k v; size = omega (arith, batch_len (commit_batch k v), commit_size k v fits value_fits) }

-- ---- null records

null_len : (delta : ℕ) (key : List ℕ) → length (record_body (offsets_record (pos delta) key None)) ≡ 4 + length (encoding (pos delta)) + length (encoding (pos (length key))) + length key
null_len delta key =
    omega (arith, body_len (offsets_record (pos delta) key None), zero_varint, null_varint, text_len key)

-- a key that is over the limit by itself
pub key_over : (size delta : ℕ) (key : List ℕ) → MAX_BATCH_BYTES < length key → None ≡ within (size + length (record_encoding (offsets_record (pos delta) key None)))
key_over size delta key over =
    let r = offsets_record (pos delta) key None in
    sym (within_large _ (omega (arith, record_len r, null_len delta key, over)))

-- the size that is counted
pub counted : (size delta : ℕ) (key : List ℕ) (a b c : ℕ) → a ≡ length (encoding (pos delta)) → b ≡ length (encoding (pos (length key))) → c ≡ length (encoding (pos (4 + a + b + length key)))
    → size + c + (4 + a + b + length key) ≡ size + length (record_encoding (offsets_record (pos delta) key None))
counted size delta key a b c ea eb ec =
    let r = offsets_record (pos delta) key None in
    let body : 4 + a + b + length key ≡ length (record_body r) = omega (arith, null_len delta key, ea, eb) in
    let len : c ≡ length (encoding (pos (length (record_body r)))) = ec ∙ ap (λ (n : ℕ). length (encoding (pos n))) body in
    omega (arith, record_len r, body, len)

-- ---- the walk over the keys

abbrev null_bytes : ℕ → List (List ℕ) → ℕ
null_bytes delta keys = length (flat_map record_encoding (null_records delta keys))

first_bytes : (delta : ℕ) (key : List ℕ) (keys : List (List ℕ)) → null_bytes delta (key ∷ keys) ≡ length (record_encoding (offsets_record (pos delta) key None)) + null_bytes (suc delta) keys
unfolding null_records
first_bytes delta key keys = length-append (record_encoding (offsets_record (pos delta) key None)) (flat_map record_encoding (null_records (suc delta) keys))

no_bytes : (delta : ℕ) → null_bytes delta [] ≡ 0
unfolding null_records
no_bytes delta = refl

-- the size so far and what is left are as much as all
abbrev pub HasCounted : ℕ → ℕ → List (List ℕ) → Type 0
HasCounted size i keys = (size ≤ MAX_BATCH_BYTES) × (size + null_bytes i (drop i keys) ≡ 61 + null_bytes 0 keys)

next_bytes : (keys : List (List ℕ)) (i : ℕ) (key : List ℕ) → i < length keys → key ≡ get_or keys i key
    → null_bytes i (drop i keys) ≡ length (record_encoding (offsets_record (pos i) key None)) + null_bytes (i + 1) (drop (i + 1) keys)
next_bytes keys i key within is =
    ap (null_bytes i) (drop_more keys i key within ∙ ap (λ (k : List ℕ). k ∷ drop (i + 1) keys) (sym is))
    ∙ first_bytes i key (drop (i + 1) keys)
    ∙ ap (λ (n : ℕ). length (record_encoding (offsets_record (pos i) key None)) + null_bytes n (drop (i + 1) keys)) (omega arith)

pub count_next : (keys : List (List ℕ)) (i size next : ℕ) (key : List ℕ) → i < length keys → key ≡ get_or keys i key
    → Some next ≡ within (size + length (record_encoding (offsets_record (pos i) key None))) → HasCounted size i keys → HasCounted next (i + 1) keys
count_next keys i size next key within is some so_far =
    let w = within_some (size + length (record_encoding (offsets_record (pos i) key None))) next (sym some) in
    let more = so_far.1 in
    (omega (arith, w.0, w.1), omega (arith, w.0, more, next_bytes keys i key within is))

-- the size of the batch
forget_len : (keys : List (List ℕ)) → length (batch_encoding (forget_batch keys)) ≡ 61 + null_bytes 0 keys
unfolding forget_batch
forget_len keys = batch_len (forget_batch keys)

few_keys : (keys : List (List ℕ)) → length keys ≤ null_bytes 0 keys
few_keys keys = omega (arith, records_len (null_records 0 keys), null_count 0 keys)

over_limit : (n : ℕ) → None ≡ within n → MAX_BATCH_BYTES < n
over_limit n none =
    elim (cases_lt MAX_BATCH_BYTES n) [
      | inl large ↦ large
      | inr small ↦ let some = within_small n (omega arith) in absurd cc
    ]

pub key_too_large : (keys : List (List ℕ)) (i size : ℕ) (key : List ℕ) → i < length keys → key ≡ get_or keys i key
    → None ≡ within (size + length (record_encoding (offsets_record (pos i) key None))) → HasCounted size i keys → ¬ (length (batch_encoding (forget_batch keys)) ≤ MAX_BATCH_BYTES)
key_too_large keys i size key within is none so_far = λ most.
    let more = so_far.1 in
    let over = over_limit (size + length (record_encoding (offsets_record (pos i) key None))) none in
    omega (arith, forget_len keys, more, most, over, next_bytes keys i key within is)

pub all_counted : (keys : List (List ℕ)) (i size : ℕ) → length keys ≤ i → HasCounted size i keys → length (batch_encoding (forget_batch keys)) ≤ MAX_BATCH_BYTES
all_counted keys i size over so_far =
    let more = so_far.1 in
    let most = so_far.0 in
    let none : null_bytes i (drop i keys) ≡ 0 = ap (null_bytes i) (drop_all i keys over) ∙ no_bytes i in
    omega (arith, forget_len keys, more, most, none)

pub few_fit : (keys : List (List ℕ)) → length (batch_encoding (forget_batch keys)) ≤ MAX_BATCH_BYTES → length keys ≤ MAX_FORGOTTEN
few_fit keys small = omega (arith, few_keys keys, forget_len keys, small)

pub some_fit : (keys : List (List ℕ)) → 1 ≤ length keys → length (batch_encoding (forget_batch keys)) ≤ MAX_BATCH_BYTES → Writable (forget_batch keys)
some_fit keys some small = record { valid = forget_valid keys some (few_fit keys small); size = small }

pub none_fits : Writable (forget_batch []) → ⊥
unfolding forget_batch
none_fits w = let low : pos 0 ≤ℤ negsuc 0 = w.valid.last_delta in omega (arith, ints, low)
