-- The parts of an image, read from bytes that have the mark, a version and the crc.
use Rattle.std.proofs.Common.{get_or, ◌≡◌, ℕ, zero, suc, ◌+◌, ◌-◌, ◌*◌, ◌≤◌, ◌<◌, lit≤, ℤ, pos, Bool, true, false, ◌⊎◌, inl, inr, List, [], ◌∷◌, ◌++◌, length, take, drop, refl, sym, ap, subst, ◌∙◌, append_assoc, append-nil, arith}
use Rattle.std.specs.Prelude.{negsuc, ◌/◌, ◌<ℤ◌, ◌↔◌, IsTrue, FitsSigned, unsigned_abs, if◌then◌else◌}
use Rattle.std.specs.List.{AllByRecursion, flat_map}
use Rattle.std.specs.Int.{Width, w16, w32, w64, cast_signed, cast_unsigned, FitsUnsignedBits}
use Rattle.std.specs.Simd.{first_chunks}
use Rattle.std.proofs.Math.Facts.{sfits_to_z}
use Rattle.std.proofs.lemmas.Int.{ints, of_z-to_z, to_z-of_z}
use Rattle.std.proofs.lemmas.List.{length-append, length-take, length-drop, length-map, take-append-drop, take_at, take_rest, drop-drop, drop-take}
use Rattle.std.proofs.lemmas.Bool.{cond_both}
use Rattle.checksum.specs.Crc.{crc_of, feed_bytes}
use Rattle.checksum.proofs.CrcWords.{fed_on}
use Rattle.batch_codec.specs.Grammar.{fields, signed}
use Rattle.batch_codec.specs.Fields.{unsigned_at, signed_at}
use Rattle.batch_codec.proofs.Steps.{IsBytes-drop, IsBytes-take}
use Rattle.batch_codec.proofs.Fixed.{IsWide, wide16, wide32, wide64, fields_back, unsigned-below}
use Rattle.copy_images.specs.declared.layout.TheConstants.{MARK, VERSION, FIRST_VERSION, MAX_COUNT}
use Rattle.cover_ranges.specs.Runs.{Runs}
use Rattle.copy_images.specs.Images.{head_of, first_head, range_encoding, front_of, with_crc}
use Rattle.copy_images.specs.Refusals.{IsLogStart, HasSize, version_in, IsOwnCrc, HasCrc, has_start, start_in, body_in, range_count, FitsInt64, HasFront}
use Rattle.copy_images.specs.Judging.{covered, range_at, ranges_of}

abbrev pub IsBytes : List ℕ → Type 0
IsBytes bytes = (i : ℕ) → get_or bytes i 0 < 256

-- a number that was read as a signed one, as a field
pub signed_field : (w : Width) → IsWide w → (offset : ℕ) (bytes : List ℕ) (z : ℤ) → IsBytes bytes → signed_at w offset bytes ≡ z → unsigned_at w offset bytes ≡ cast_unsigned w z
signed_field w wide offset bytes z fits is =
    sym (of_z-to_z w (unsigned_at w offset bytes) (unsigned-below w wide offset bytes fits)) ∙ ap (cast_unsigned w) is

pub signed_fits : (w : Width) → IsWide w → (offset : ℕ) (bytes : List ℕ) → IsBytes bytes → FitsSigned w (signed_at w offset bytes)
signed_fits w wide offset bytes fits = sfits_to_z (record { fits = unsigned-below w wide offset bytes fits })

-- ---- ranges

range_back : (bytes : List ℕ) → IsBytes bytes → length bytes ≡ 16 → range_encoding (range_at bytes) ≡ bytes
unfolding range_encoding range_at
range_back bytes fits len =
    let back : bytes ≡ fields ((w64, unsigned_at w64 0 bytes) ∷ (w64, unsigned_at w64 8 bytes) ∷ []) ++ drop 16 bytes = fields_back (w64 ∷ w64 ∷ []) 0 bytes (wide64, (wide64, tt)) fits (omega (arith, len)) in
    let none : drop 16 bytes ≡ [] = empty (drop 16 bytes) (omega (arith, length-drop 16 bytes, len)) in
    let first = signed_field w64 wide64 0 bytes (signed_at w64 0 bytes) fits refl in
    let last = signed_field w64 wide64 8 bytes (signed_at w64 8 bytes) fits refl in
    sym (back ∙ (λ i. fields ((w64, first i) ∷ (w64, last i) ∷ []) ++ none i) ∙ append-nil (fields (signed w64 (signed_at w64 0 bytes) ∷ signed w64 (signed_at w64 8 bytes) ∷ [])))
  where
    empty : (xs : List ℕ) → length xs ≡ 0 → xs ≡ []
    empty [] e = refl
    empty (x ∷ xs) e = absurd (omega arith)

pub ranges_back : (n : ℕ) (bytes : List ℕ) → IsBytes bytes → length bytes ≡ 16 * n → flat_map range_encoding (ranges_of (first_chunks 16 n bytes)) ≡ bytes
ranges_back zero [] fits len = refl
ranges_back zero (b ∷ bytes) fits len = absurd (omega arith)
ranges_back (suc n) bytes fits len =
    let front : length (take 16 bytes) ≡ 16 = omega (arith, length-take 16 bytes) in
    let rest : length (drop 16 bytes) ≡ 16 * n = omega (arith, length-drop 16 bytes) in
    let one = range_back (take 16 bytes) (IsBytes-take 16 bytes fits) front in
    let others = ranges_back n (drop 16 bytes) (IsBytes-drop 16 bytes fits) rest in
    (λ i. one i ++ others i) ∙ take-append-drop 16 bytes

pub ranges_fit : (n : ℕ) (bytes : List ℕ) → IsBytes bytes → AllByRecursion FitsInt64 (ranges_of (first_chunks 16 n bytes))
unfolding range_at
ranges_fit zero bytes fits = tt
ranges_fit (suc n) bytes fits =
    let front = IsBytes-take 16 bytes fits in
    ((signed_fits w64 wide64 0 (take 16 bytes) front, signed_fits w64 wide64 8 (take 16 bytes) front), ranges_fit n (drop 16 bytes) (IsBytes-drop 16 bytes fits))

length-chunks : (n : ℕ) (bytes : List ℕ) → length (first_chunks 16 n bytes) ≡ n
length-chunks zero bytes = refl
length-chunks (suc n) bytes = ap suc (length-chunks n (drop 16 bytes))

-- ---- the body

pub body_back : (body : List ℕ) (n : ℕ) (count : ℤ) (parts : List (List ℕ)) (rest : List ℕ) → IsBytes body → range_count body ≡ pos n → n ≤ MAX_COUNT → 8 + 16 * n ≤ length body
    → parts ≡ first_chunks 16 n (take (16 * n) (drop 4 body)) → count ≡ signed_at w32 (4 + 16 * n) body → rest ≡ drop (8 + 16 * n) body
    → HasFront body (ranges_of parts) count rest
unfolding front_of
body_back body n count parts rest fits counted small long chunks count_is rest_is =
    let here = take (16 * n) (drop 4 body) in
    let here_fits : IsBytes here = IsBytes-take (16 * n) (drop 4 body) (IsBytes-drop 4 body fits) in
    let here_len : length here ≡ 16 * n = omega (arith, length-take (16 * n) (drop 4 body), length-drop 4 body) in
    let ranges = ranges_of parts in
    let len : length ranges ≡ n = length-map parts range_at ∙ ap length chunks ∙ length-chunks n here in
    let first_read : body ≡ fields ((w32, unsigned_at w32 0 body) ∷ []) ++ drop 4 body = fields_back (w32 ∷ []) 0 body (wide32, tt) fits (omega arith) in
    let number = signed_field w32 wide32 0 body (pos (length ranges)) fits (counted ∙ ap pos (sym len)) in
    let first_is : body ≡ fields (signed w32 (pos (length ranges)) ∷ []) ++ drop 4 body = first_read ∙ (λ i. fields ((w32, number i) ∷ []) ++ drop 4 body) in
    let ranges_are : flat_map range_encoding ranges ≡ here = ap (λ (x : List (List ℕ)). flat_map range_encoding (ranges_of x)) chunks ∙ ranges_back n here here_fits here_len in
    let behind : drop (16 * n) (drop 4 body) ≡ drop (4 + 16 * n) body = drop-drop (16 * n) 4 body in
    let tail1 : drop 4 body ≡ flat_map range_encoding ranges ++ drop (4 + 16 * n) body = sym (take-append-drop (16 * n) (drop 4 body)) ∙ (λ i. sym ranges_are i ++ behind i) in
    let tail2_read : drop (4 + 16 * n) body ≡ fields ((w32, unsigned_at w32 (4 + 16 * n) body) ∷ []) ++ drop ((4 + 16 * n) + 4) body = fields_back (w32 ∷ []) (4 + 16 * n) body (wide32, tt) fits (omega arith) in
    let count_field = signed_field w32 wide32 (4 + 16 * n) body count fits (sym count_is) in
    let end : drop ((4 + 16 * n) + 4) body ≡ rest = ap (λ (k : ℕ). drop k body) (omega arith) ∙ sym rest_is in
    let tail2 : drop (4 + 16 * n) body ≡ fields (signed w32 count ∷ []) ++ rest = tail2_read ∙ (λ i. fields ((w32, count_field i) ∷ []) ++ end i) in
    record {
      ranges_fit = subst (λ (x : List (List ℕ)). AllByRecursion FitsInt64 (ranges_of x)) (sym chunks) (ranges_fit n here here_fits);
      counted = omega (arith, len, small);
      count_fits = subst (FitsSigned w32) (sym count_is) (signed_fits w32 wide32 (4 + 16 * n) body fits);
      encoded = first_is ∙ joined (fields (signed w32 (pos (length ranges)) ∷ [])) (flat_map range_encoding ranges) (fields (signed w32 count ∷ [])) rest (drop 4 body) (drop (4 + 16 * n) body) tail1 tail2;
    }
  where
    joined : (a b c d t1 t2 : List ℕ) → t1 ≡ b ++ t2 → t2 ≡ c ++ d → a ++ t1 ≡ (a ++ (b ++ c)) ++ d
    joined a b c d t1 t2 p q = ap (λ (x : List ℕ). a ++ x) (p ∙ ap (λ (x : List ℕ). b ++ x) q) ∙ sym (simp append_assoc)

-- ---- the whole

-- bytes in front of their crc
sealed : (bytes body : List ℕ) (end crc : ℕ) → bytes ≡ body ++ fields ((w32, crc) ∷ []) → length body ≡ end → crc ≡ crc_of (take end bytes) → bytes ≡ with_crc body
unfolding with_crc
sealed bytes body end crc parts len is =
    let front : take end bytes ≡ body = ap (take end) parts ∙ take_at body (fields ((w32, crc) ∷ [])) end len in
    parts ∙ ap (λ (n : ℕ). body ++ fields ((w32, n) ∷ [])) (is ∙ ap crc_of front)

-- a head, what stands between it and the crc, and the crc
pub behind_head : (bytes head : List ℕ) (at : ℕ) → IsBytes bytes → at + 4 ≤ length bytes → IsOwnCrc bytes → bytes ≡ head ++ drop at bytes → length head ≡ at
    → bytes ≡ with_crc (head ++ take ((length bytes - 4) - at) (drop at bytes))
behind_head bytes head at fits long own is len =
    let end = length bytes - 4 in
    let m = end - at in
    let body = take m (drop at bytes) in
    let at_end : drop m (drop at bytes) ≡ drop end bytes = drop-drop m at bytes ∙ ap (λ (k : ℕ). drop k bytes) (omega arith) in
    let tail : drop at bytes ≡ body ++ drop end bytes = sym (take-append-drop m (drop at bytes)) ∙ ap (λ (x : List ℕ). body ++ x) at_end in
    let crc_read : drop end bytes ≡ fields ((w32, unsigned_at w32 end bytes) ∷ []) ++ drop (end + 4) bytes = fields_back (w32 ∷ []) end bytes (wide32, tt) fits (omega arith) in
    let none : drop (end + 4) bytes ≡ [] = empty (drop (end + 4) bytes) (omega (arith, length-drop (end + 4) bytes)) in
    let crc = fields ((w32, unsigned_at w32 end bytes) ∷ []) in
    let crc_is : drop end bytes ≡ crc = crc_read ∙ ap (λ (x : List ℕ). crc ++ x) none ∙ append-nil crc in
    let whole : bytes ≡ (head ++ body) ++ crc = is ∙ ap (λ (x : List ℕ). head ++ x) (tail ∙ ap (λ (x : List ℕ). body ++ x) crc_is) ∙ sym (append_assoc head body crc) in
    let size : length (head ++ body) ≡ end = omega (arith, ap length whole, length-append (head ++ body) crc, crc_len (unsigned_at w32 end bytes)) in
    sealed bytes (head ++ body) end (unsigned_at w32 end bytes) whole size own
  where
    empty : (xs : List ℕ) → length xs ≡ 0 → xs ≡ []
    empty [] e = refl
    empty (x ∷ xs) e = absurd (omega arith)

    crc_len : (crc : ℕ) → length (fields ((w32, crc) ∷ [])) ≡ 4
    crc_len crc = refl

-- the bytes are this body between a head with this start and the crc
abbrev pub IsFramed : (start : ℤ) → (body bytes : List ℕ) → Type 0
IsFramed start body bytes = (bytes ≡ with_crc (head_of start ++ body)) ⊎ ((start ≡ pos 0) × (bytes ≡ with_crc (first_head ++ body)))

pub head_back : (bytes : List ℕ) → IsBytes bytes → HasCrc bytes → version_in bytes ≡ VERSION → bytes ≡ with_crc (head_of (signed_at w64 6 bytes) ++ take ((length bytes - 4) - 14) (drop 14 bytes))
unfolding head_of
head_back bytes fits has is =
    let size : 18 ≤ length bytes = has.0.0.0 in
    let read : bytes ≡ fields ((w32, unsigned_at w32 0 bytes) ∷ (w16, unsigned_at w16 4 bytes) ∷ (w64, unsigned_at w64 6 bytes) ∷ []) ++ drop 14 bytes = fields_back (w32 ∷ w16 ∷ w64 ∷ []) 0 bytes (wide32, (wide16, (wide64, tt))) fits (omega (arith, size)) in
    let mark : unsigned_at w32 0 bytes ≡ MARK = has.0.0.1 in
    let version = signed_field w16 wide16 4 bytes VERSION fits is in
    let start = signed_field w64 wide64 6 bytes (signed_at w64 6 bytes) fits refl in
    behind_head bytes (fields ((w32, MARK) ∷ signed w16 VERSION ∷ signed w64 (signed_at w64 6 bytes) ∷ [])) 14 fits (omega (arith, size)) has.1
    (read ∙ (λ i. fields ((w32, mark i) ∷ (w16, version i) ∷ (w64, start i) ∷ []) ++ drop 14 bytes)) refl

pub first_head_back : (bytes : List ℕ) → IsBytes bytes → HasCrc bytes → version_in bytes ≡ FIRST_VERSION → bytes ≡ with_crc (first_head ++ take ((length bytes - 4) - 6) (drop 6 bytes))
unfolding first_head
first_head_back bytes fits has is =
    let size : 18 ≤ length bytes = has.0.0.0 in
    let read : bytes ≡ fields ((w32, unsigned_at w32 0 bytes) ∷ (w16, unsigned_at w16 4 bytes) ∷ []) ++ drop 6 bytes = fields_back (w32 ∷ w16 ∷ []) 0 bytes (wide32, (wide16, tt)) fits (omega (arith, size)) in
    let mark : unsigned_at w32 0 bytes ≡ MARK = has.0.0.1 in
    let version = signed_field w16 wide16 4 bytes FIRST_VERSION fits is in
    behind_head bytes (fields ((w32, MARK) ∷ signed w16 FIRST_VERSION ∷ [])) 6 fits (omega (arith, size)) has.1
    (read ∙ (λ i. fields ((w32, mark i) ∷ (w16, version i) ∷ []) ++ drop 6 bytes)) refl

-- the body behind either head
abbrev pub body_from : Bool → List ℕ → List ℕ
body_from there bytes = let at = if there then 14 else 6 in take ((length bytes - 4) - at) (drop at bytes)

pub frame_back : (bytes : List ℕ) → IsBytes bytes → HasCrc bytes → IsFramed (start_in bytes) (body_in bytes) bytes
frame_back bytes fits has = by has.0.1
  where
    by : (version_in bytes ≡ VERSION) ⊎ (version_in bytes ≡ FIRST_VERSION) → IsFramed (start_in bytes) (body_in bytes) bytes
    by (inl is) =
        let there : has_start bytes ≡ true = grind (arith, ints, is) in
        inl (head_back bytes fits has is ∙ (λ i. with_crc (head_of (if sym there i then signed_at w64 6 bytes else pos 0) ++ body_from (sym there i) bytes)))
    by (inr is) =
        let none : has_start bytes ≡ false = grind (arith, ints, is) in
        inr (ap (λ (t : Bool). if t then signed_at w64 6 bytes else pos 0) none, first_head_back bytes fits has is ∙ (λ i. with_crc (first_head ++ body_from (sym none i) bytes)))

pub body_bytes : (bytes : List ℕ) → IsBytes bytes → IsBytes (body_in bytes)
body_bytes bytes fits = IsBytes-take _ _ (IsBytes-drop _ bytes fits)

-- ---- as code has it

pub counted_is : (field : ℤ) (n : ℕ) → FitsSigned w32 field → FitsUnsignedBits 64 (cast_signed w32 (cast_unsigned w32 field)) → n ≡ unsigned_abs (cast_signed w32 (cast_unsigned w32 field)) → (field ≡ pos n) × (n ≤ MAX_COUNT)
counted_is field n fits whole is =
    let same = to_z-of_z w32 field fits in
    by field fits (subst (FitsUnsignedBits 64) same whole) (is ∙ ap unsigned_abs same)
  where
    by : (z : ℤ) → FitsSigned w32 z → FitsUnsignedBits 64 z → n ≡ unsigned_abs z → (z ≡ pos n) × (n ≤ MAX_COUNT)
    by (pos k) fits whole is = (ap pos (sym is), omega (arith, fits.sfits, is))
    by (negsuc k) fits whole is = absurd (omega (arith, ints, whole))

chunks_are : (body : List ℕ) (n : ℕ) (parts : List (List ℕ)) → 8 + 16 * n ≤ length body
    → parts ≡ first_chunks 16 (length (take ((4 + 16 * n) - 4) (drop 4 body)) / 16) (take ((4 + 16 * n) - 4) (drop 4 body))
    → parts ≡ first_chunks 16 n (take (16 * n) (drop 4 body))
chunks_are body n parts long is =
    let m = (4 + 16 * n) - 4 in
    let size : m ≡ 16 * n = omega arith in
    let len : length (take m (drop 4 body)) ≡ 16 * n = omega (arith, length-take m (drop 4 body), length-drop 4 body) in
    let count : length (take m (drop 4 body)) / 16 ≡ n = omega (arith, len) in
    is ∙ (λ i. first_chunks 16 (count i) (take (size i) (drop 4 body)))

pub below_zero : (field : ℤ) → FitsSigned w32 field → (FitsUnsignedBits 64 (cast_signed w32 (cast_unsigned w32 field)) → ⊥) → field <ℤ pos 0
below_zero (pos k) fits none = absurd (none (subst (FitsUnsignedBits 64) (sym (to_z-of_z w32 (pos k) fits)) (omega (arith, fits.sfits))))
below_zero (negsuc k) fits none = omega (arith, ints)

pub started : (bytes : List ℕ) (start : ℤ) (may : Bool) → start ≡ start_in bytes → FitsSigned w64 start → (IsTrue may ↔ IsLogStart (cast_signed w64 (cast_unsigned w64 start))) → may ≡ true → IsLogStart (start_in bytes)
started bytes start may is fits asked true_here =
    let same : cast_signed w64 (cast_unsigned w64 start) ≡ start_in bytes = to_z-of_z w64 start fits ∙ is in
    subst IsLogStart same (asked.0 true_here)

pub front_found : (bytes body : List ℕ) (n : ℕ) (parts : List (List ℕ)) (field count : ℤ) → IsBytes bytes → body ≡ body_in bytes → field ≡ signed_at w32 0 body → FitsSigned w32 field → FitsUnsignedBits 64 (cast_signed w32 (cast_unsigned w32 field)) → n ≡ unsigned_abs (cast_signed w32 (cast_unsigned w32 field))
    → 8 + 16 * n ≤ length body → parts ≡ first_chunks 16 (length (take ((4 + 16 * n) - 4) (drop 4 body)) / 16) (take ((4 + 16 * n) - 4) (drop 4 body)) → count ≡ signed_at w32 (4 + 16 * n) body → FitsSigned w32 count
    → HasFront (body_in bytes) (ranges_of parts) (cast_signed w32 (cast_unsigned w32 count)) (take (length body - ((4 + 16 * n) + 4)) (drop ((4 + 16 * n) + 4) body))
front_found bytes body n parts field count fits is read field_fits whole number long chunks count_is count_fits =
    let counted = counted_is field n field_fits whole number in
    let rest_is : take (length body - ((4 + 16 * n) + 4)) (drop ((4 + 16 * n) + 4) body) ≡ drop (8 + 16 * n) body = take_rest body ((4 + 16 * n) + 4) ∙ ap (λ (k : ℕ). drop k body) (omega arith) in
    subst (λ (x : List ℕ). HasFront x (ranges_of parts) (cast_signed w32 (cast_unsigned w32 count)) (take (length body - ((4 + 16 * n) + 4)) (drop ((4 + 16 * n) + 4) body))) is
    (body_back body n (cast_signed w32 (cast_unsigned w32 count)) parts (take (length body - ((4 + 16 * n) + 4)) (drop ((4 + 16 * n) + 4) body)) (subst IsBytes (sym is) (body_bytes bytes fits)) (sym read ∙ counted.0) counted.1 long
    (chunks_are body n parts long chunks) (to_z-of_z w32 count count_fits ∙ count_is) rest_is)

-- the bytes that the crc covers end with what follows the counts and the ranges
pub covered_ends : (bytes : List ℕ) (ranges : Runs) (count : ℤ) (rest : List ℕ) → HasSize bytes → HasFront (body_in bytes) ranges count rest → (front : List ℕ) × (covered bytes ≡ front ++ rest)
covered_ends bytes ranges count rest size front = by (has_start bytes) front.encoded
  where
    by : (there : Bool) → body_from there bytes ≡ front_of ranges count ++ rest → (front : List ℕ) × (covered bytes ≡ front ++ rest)
    by there is =
        let at : ℕ = if there then 14 else 6 in
        let end : ℕ = length bytes - 4 in
        let low : at ≤ 14 = cond_both there 14 6 (λ (n : ℕ). n ≤ 14) (λ _. lit≤ tt) (λ _. lit≤ tt) in
        let whole : at + (end - at) ≡ end = omega (arith, size, low) in
        let behind : drop at (covered bytes) ≡ body_from there bytes = ap (λ (n : ℕ). drop at (take n bytes)) (sym whole) ∙ drop-take at (end - at) bytes in (
          take at (covered bytes) ++ front_of ranges count,
          sym (take-append-drop at (covered bytes)) ∙ ap (λ (x : List ℕ). take at (covered bytes) ++ x) (behind ∙ is) ∙ sym (append_assoc (take at (covered bytes)) (front_of ranges count) rest),
        )

pub ends_within : (bytes all : List ℕ) (ranges : Runs) (count : ℤ) (rest : List ℕ) → HasSize bytes → HasFront (body_in bytes) ranges count rest → all ≡ covered bytes → length rest ≤ length all
ends_within bytes all ranges count rest size front is =
    let parts = covered_ends bytes ranges count rest size front in
    omega (arith, ap length is, ap length parts.1, length-append parts.0 rest)

-- a register that took in what stands before that, and then that
pub covered_fed : (bytes all : List ℕ) (ranges : Runs) (count : ℤ) (rest : List ℕ) (v w x : ℕ) → HasSize bytes → HasFront (body_in bytes) ranges count rest → all ≡ covered bytes
    → w ≡ feed_bytes v (take (length all - length rest) all) → x ≡ feed_bytes w rest → x ≡ feed_bytes v (covered bytes)
covered_fed bytes all ranges count rest v w x size front is first last =
    let parts = covered_ends bytes ranges count rest size front in
    let whole : all ≡ parts.0 ++ rest = is ∙ parts.1 in
    let len : length all - length rest ≡ length parts.0 = omega (arith, ap length whole, length-append parts.0 rest) in
    let before : take (length all - length rest) all ≡ parts.0 = (λ i. take (len i) (whole i)) ∙ take_at parts.0 rest (length parts.0) refl in
    last
    ∙ ap (λ (y : ℕ). feed_bytes y rest) (first ∙ ap (feed_bytes v) before)
    ∙ sym (fed_on v parts.0 rest)
    ∙ ap (feed_bytes v) (sym parts.1)
