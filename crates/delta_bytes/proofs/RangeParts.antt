-- A list of ranges in bytes: what is read where it was written, and the other way round.
use Rattle.std.proofs.Common.{◌≡◌, ℕ, zero, suc, ◌+◌, ◌-◌, ◌*◌, ◌≤◌, ℤ, pos, List, ◌++◌, length, take, drop, refl, sym, ap, subst, ◌∙◌, append_assoc, arith}
use Rattle.std.specs.Prelude.{◌/◌}
use Rattle.std.specs.List.{AllByRecursion, flat_map}
use Rattle.std.specs.Simd.{first_chunks}
use Rattle.std.proofs.lemmas.List.{length-take, length-drop, length-map, take-append-drop, take_rest, drop-drop}
use Rattle.batch_codec.proofs.Steps.{IsBytes-drop, IsBytes-take}
use Rattle.copy_images.specs.declared.layout.TheConstants.{MAX_COUNT}
use Rattle.copy_images.specs.Images.{range_encoding}
use Rattle.copy_images.specs.Refusals.{FitsInt64}
use Rattle.copy_images.specs.Judging.{range_at, ranges_of}
use Rattle.copy_images.proofs.Parts.{IsBytes, ranges_back, ranges_fit}
use Rattle.delta_bytes.specs.RangeLists.{count_encoding, count_in, ranges_encoding, IsRangeList}
use Rattle.delta_bytes.proofs.CountedEntries.{count_front}

length-chunks : (n : ℕ) (bytes : List ℕ) → length (first_chunks 16 n bytes) ≡ n
length-chunks zero bytes = refl
length-chunks (suc n) bytes = ap suc (length-chunks n (drop 16 bytes))

-- so many ranges behind their count
pub ranges_cut : (bytes : List ℕ) (n behind : ℕ) (parts : List (List ℕ)) (rest : List ℕ) → IsBytes bytes → count_in bytes ≡ pos n → n ≤ MAX_COUNT → 4 + 16 * n + behind ≤ length bytes
    → parts ≡ first_chunks 16 n (take (16 * n) (drop 4 bytes)) → rest ≡ drop (4 + 16 * n) bytes → IsRangeList behind bytes (ranges_of parts) rest
unfolding ranges_encoding
ranges_cut bytes n behind parts rest fits counted small long chunks rest_is =
    let here = take (16 * n) (drop 4 bytes) in
    let here_fits : IsBytes here = IsBytes-take (16 * n) (drop 4 bytes) (IsBytes-drop 4 bytes fits) in
    let here_len : length here ≡ 16 * n = omega (arith, length-take (16 * n) (drop 4 bytes), length-drop 4 bytes) in
    let ranges = ranges_of parts in
    let len : length ranges ≡ n = length-map parts range_at ∙ ap length chunks ∙ length-chunks n here in
    let number : count_in bytes ≡ pos (length ranges) = counted ∙ ap pos (sym len) in
    let head : bytes ≡ count_encoding (pos (length ranges)) ++ drop 4 bytes = count_front bytes fits (omega arith) ∙ ap (λ (z : ℤ). count_encoding z ++ drop 4 bytes) number in
    let are : flat_map range_encoding ranges ≡ here = ap (λ (x : List (List ℕ)). flat_map range_encoding (ranges_of x)) chunks ∙ ranges_back n here here_fits here_len in
    let end : drop (16 * n) (drop 4 bytes) ≡ rest = drop-drop (16 * n) 4 bytes ∙ sym rest_is in
    let tail : drop 4 bytes ≡ flat_map range_encoding ranges ++ rest = sym (take-append-drop (16 * n) (drop 4 bytes)) ∙ (λ i. sym are i ++ end i) in
    record {
      encoded = head ∙ ap (λ (x : List ℕ). count_encoding (pos (length ranges)) ++ x) tail ∙ sym (append_assoc (count_encoding (pos (length ranges))) (flat_map range_encoding ranges) rest);
      fit = subst (λ (x : List (List ℕ)). AllByRecursion FitsInt64 (ranges_of x)) (sym chunks) (ranges_fit n here here_fits);
      counted = omega (arith, len, small);
      long = omega (arith, ap length rest_is, length-drop (4 + 16 * n) bytes, long);
    }

chunks_are : (bytes : List ℕ) (n : ℕ) (parts : List (List ℕ)) → 4 + 16 * n ≤ length bytes
    → parts ≡ first_chunks 16 (length (take ((4 + 16 * n) - 4) (drop 4 bytes)) / 16) (take ((4 + 16 * n) - 4) (drop 4 bytes))
    → parts ≡ first_chunks 16 n (take (16 * n) (drop 4 bytes))
chunks_are bytes n parts long is =
    let m = (4 + 16 * n) - 4 in
    let size : m ≡ 16 * n = omega arith in
    let len : length (take m (drop 4 bytes)) ≡ 16 * n = omega (arith, length-take m (drop 4 bytes), length-drop 4 bytes) in
    let count : length (take m (drop 4 bytes)) / 16 ≡ n = omega (arith, len) in
    is ∙ (λ i. first_chunks 16 (count i) (take (size i) (drop 4 bytes)))

-- ---- as code has it

pub ranges_found : (bytes : List ℕ) (field : ℤ) (n behind : ℕ) (parts : List (List ℕ)) → IsBytes bytes → field ≡ count_in bytes → (field ≡ pos n) × (n ≤ MAX_COUNT) → 4 + 16 * n + behind ≤ length bytes
    → parts ≡ first_chunks 16 (length (take ((4 + 16 * n) - 4) (drop 4 bytes)) / 16) (take ((4 + 16 * n) - 4) (drop 4 bytes))
    → IsRangeList behind bytes (ranges_of parts) (take (length bytes - (4 + 16 * n)) (drop (4 + 16 * n) bytes))
ranges_found bytes field n behind parts fits is count long chunks =
    ranges_cut bytes n behind parts _ fits (sym is ∙ count.0) count.1 long (chunks_are bytes n parts (omega (arith, long)) chunks) (take_rest bytes (4 + 16 * n))
