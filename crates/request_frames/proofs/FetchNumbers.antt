-- The fixed fields of a Fetch request are read at once.
use Rattle.std.proofs.Common.{◌≡◌, ℕ, ◌+◌, ◌<◌, ◌≤◌, ℤ, List, [], ◌∷◌, length, take, drop, Ok, Err, refl, sym, ap, ◌∙◌, arith}
use Rattle.std.specs.Prelude.{map, slice_index, FitsSigned}
use Rattle.std.proofs.Common.{to_z, of_z}
use Rattle.std.specs.Int.{w32, cast_signed, from_be_bytes}
use Rattle.std.proofs.lemmas.Int.{to_z-of_z}
use Rattle.std.proofs.Math.Seq.{drop-drop}
use Rattle.std.proofs.lemmas.List.{get_or-take, get_or-drop}
use Rattle.request_frames.specs.declared.api.Api.TheVariants.{Fetch}
use Rattle.frame_fields.specs.declared.error.FieldFault.{FieldFault}
use Rattle.frame_fields.specs.declared.error.FieldFault.TheVariants.{ShortBody}
use Rattle.frame_fields.specs.Fields.{Size, size8, size32, Fields, end, Value, number_at}
use Rattle.frame_fields.specs.Types.{topic, topics_of, topic_request}
use Rattle.frame_fields.specs.Reading.{At, nothing, map_read, then_read, read_array, read_fields}
use Rattle.request_frames.specs.Requests.BodyValue.{fetch}
use Rattle.request_frames.specs.Requests.{BodyValue}
use Rattle.request_frames.specs.Fetch.{fetch_partition, fetch_partition_value, fetch_request}
use Rattle.request_frames.specs.Bodies.{read_body}
use Rattle.frame_fields.proofs.NumbersInARow.{behind, in_front, all_there, not_there}

abbrev fixed : List Size
fixed = size32 ∷ size32 ∷ size32 ∷ size32 ∷ size8 ∷ []

abbrev pub topics_at : List ℕ → At (List (Value (topic fetch_partition)))
topics_at bytes = read_array (read_fields (topic fetch_partition)) bytes

abbrev topics_fields : Fields
topics_fields = topics_of fetch_partition end

read_topics : (r : At (List (Value (topic fetch_partition)))) (bytes : List ℕ) → topics_at bytes ≡ r → read_fields topics_fields bytes ≡ map_read (λ topics. (topics, nothing)) r
unfolding read_fields
read_topics (Ok x) bytes is = ap (λ r. then_read r (read_fields end)) is
read_topics (Err e) bytes is = ap (λ r. then_read r (read_fields end)) is

-- what the request asks, of its numbers and its topics
abbrev with_numbers : (wait least most : ℤ) → List (Value (topic fetch_partition)) → BodyValue
with_numbers wait least most topics = fetch (record { max_wait_ms = wait; min_bytes = least; max_bytes = most; topics = map (topic_request fetch_partition fetch_partition_value) topics })

abbrev body_of_topics : List ℕ → At (Value topics_fields) → At BodyValue
body_of_topics bytes r = map_read fetch (map_read fetch_request (map_read (in_front fixed topics_fields bytes) r))

numbers_of : (r : At (List (Value (topic fetch_partition)))) (bytes : List ℕ) (wait least most : ℤ) → number_at size32 (drop 4 bytes) ≡ wait → number_at size32 (drop 4 (drop 4 bytes)) ≡ least
    → number_at size32 (drop 4 (drop 4 (drop 4 bytes))) ≡ most → body_of_topics bytes (map_read (λ topics. (topics, nothing)) r) ≡ map_read (with_numbers wait least most) r
numbers_of (Ok x) bytes wait least most is_wait is_least is_most = λ i. Ok (with_numbers (is_wait i) (is_least i) (is_most i) x.0, x.1)
numbers_of (Err e) bytes wait least most is_wait is_least is_most = refl

body_is : (bytes later : List ℕ) (wait least most : ℤ) (r : At (List (Value (topic fetch_partition)))) → 17 ≤ length bytes → wait ≡ number_at size32 (drop 4 bytes) → least ≡ number_at size32 (drop 8 bytes)
    → most ≡ number_at size32 (drop 12 bytes) → later ≡ drop 17 bytes → topics_at later ≡ r → read_body Fetch bytes ≡ map_read (with_numbers wait least most) r
body_is bytes later wait least most r long is_wait is_least is_most is_later is =
    let two : drop 4 (drop 4 bytes) ≡ drop 8 bytes = drop-drop 4 4 bytes in
    let three : drop 4 (drop 4 (drop 4 bytes)) ≡ drop 12 bytes = ap (drop 4) two ∙ drop-drop 4 8 bytes in
    let five : behind fixed bytes ≡ later = ap (λ (b : List ℕ). drop 1 (drop 4 b)) three ∙ ap (drop 1) (drop-drop 4 12 bytes) ∙ drop-drop 1 16 bytes ∙ sym is_later in
    ap (λ q. map_read fetch (map_read fetch_request q)) (all_there fixed topics_fields bytes long)
    ∙ ap (λ (b : List ℕ). body_of_topics bytes (read_fields topics_fields b)) five
    ∙ ap (body_of_topics bytes) (read_topics r later is)
    ∙ numbers_of r bytes wait least most (sym is_wait) (ap (number_at size32) two ∙ sym is_least) (ap (number_at size32) three ∙ sym is_most)

pub numbers_fault : (bytes : List ℕ) → length bytes < 17 → read_body Fetch bytes ≡ Err ShortBody
numbers_fault bytes short = ap (λ q. map_read fetch (map_read fetch_request q)) (not_there fixed topics_fields bytes short)

pub topics_fault : (bytes later : List ℕ) (e : FieldFault) → 17 ≤ length bytes → later ≡ drop 17 bytes → topics_at later ≡ Err e → read_body Fetch bytes ≡ Err e
topics_fault bytes later e long is_later is = body_is bytes later (number_at size32 (drop 4 bytes)) (number_at size32 (drop 8 bytes)) (number_at size32 (drop 12 bytes)) (Err e) long refl refl refl is_later is

-- a number that fits, as it is passed on by value
abbrev IsNumber : (bytes : List ℕ) (from : ℕ) (x : ℤ) → Type 0
IsNumber bytes from x = FitsSigned w32 x × (x ≡ number_at size32 (drop from bytes))

-- the numbers are passed on by value
pub topics_read : (bytes later : List ℕ) (wait least most : ℤ) → IsNumber bytes 4 wait → IsNumber bytes 8 least → IsNumber bytes 12 most → (topics : List (Value (topic fetch_partition))) (rest : List ℕ) → 17 ≤ length bytes
    → later ≡ drop 17 bytes → topics_at later ≡ Ok (topics, rest) → read_body Fetch bytes ≡ Ok (with_numbers (to_z w32 (of_z w32 wait)) (to_z w32 (of_z w32 least)) (to_z w32 (of_z w32 most)) topics, rest)
topics_read bytes later wait least most is_wait is_least is_most topics rest long is_later is =
    let passed : (x : ℤ) (from : ℕ) → IsNumber bytes from x → to_z w32 (of_z w32 x) ≡ number_at size32 (drop from bytes) = λ x from is. to_z-of_z w32 x is.0 ∙ is.1 in
    body_is bytes later (to_z w32 (of_z w32 wait)) (to_z w32 (of_z w32 least)) (to_z w32 (of_z w32 most)) (Ok (topics, rest)) long (passed wait 4 is_wait) (passed least 8 is_least) (passed most 12 is_most) is_later is

-- four bytes of the fixed ones are a number
pub number_in : (bytes chunk : List ℕ) (from : ℕ) → from ≤ 13 → chunk ≡ take 17 bytes
    → cast_signed w32 (from_be_bytes w32 (slice_index chunk (from + 0) ∷ slice_index chunk (from + 1) ∷ slice_index chunk (from + 2) ∷ slice_index chunk (from + 3) ∷ [])) ≡ number_at size32 (drop from bytes)
number_in bytes chunk from most is = rw (is, get_or-take 17 bytes (from + 0) 0 (omega (arith, most)), get_or-take 17 bytes (from + 1) 0 (omega (arith, most)), get_or-take 17 bytes (from + 2) 0 (omega (arith, most)), get_or-take 17 bytes (from + 3) 0 (omega (arith, most)), get_or-take 4 (drop from bytes) 0 0 (omega arith), get_or-take 4 (drop from bytes) 1 0 (omega arith), get_or-take 4 (drop from bytes) 2 0 (omega arith), get_or-take 4 (drop from bytes) 3 0 (omega arith), get_or-drop from bytes 0 0, get_or-drop from bytes 1 0, get_or-drop from bytes 2 0, get_or-drop from bytes 3 0) refl
