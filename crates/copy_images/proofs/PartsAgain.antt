-- Each part of an image is read again: it is a function of its bytes.
use Rattle.std.proofs.Common.{◌≡◌, ℕ, suc, ◌+◌, ◌-◌, ◌*◌, ◌≤◌, ◌<◌, ◌^◌, get_or, ℤ, pos, Bool, true, false, inl, inr, List, [], ◌∷◌, ◌++◌, length, take, drop, refl, sym, ap, subst, ◌∙◌, append_assoc, append-nil, arith}
use Rattle.std.specs.Prelude.{FitsSigned, if◌then◌else◌}
use Rattle.std.specs.List.{AllByRecursion, flat_map}
use Rattle.std.specs.Int.{Width, w8, w16, w32, w64, cast_signed, cast_unsigned}
use Rattle.std.specs.Simd.{first_chunks}
use mir.Val.{bits}
use Rattle.std.proofs.Math.Facts.{Fits-of_z}
use Rattle.std.proofs.lemmas.Int.{ints, to_z-of_z}
use Rattle.std.proofs.lemmas.List.{length-append, take_at, drop_at, drop-drop}
use Rattle.checksum.specs.Crc.{crc_of}
use Rattle.checksum.proofs.CrcShifts.{crc_of-lt}
use Rattle.batch_codec.specs.Grammar.{Field, fields, signed}
use Rattle.batch_codec.specs.Fields.{unsigned_at, signed_at}
use Rattle.batch_codec.proofs.Fixed.{wide16, wide32, wide64, fields_at, fields_again}
use Rattle.cover_ranges.specs.Runs.{Runs}
use Rattle.copy_images.specs.declared.layout.TheConstants.{MARK, VERSION, FIRST_VERSION, MAX_COUNT}
use Rattle.copy_images.specs.Images.{head_of, first_head, range_encoding, front_of, with_crc}
use Rattle.copy_images.specs.Refusals.{version_in, IsOwnCrc, HasCrc, has_start, start_in, body_in, range_count, FitsInt64, HasFront}
use Rattle.copy_images.specs.Judging.{range_at, ranges_of}
use Rattle.copy_images.proofs.Parts.{IsFramed, body_from}

-- the number of a field
unfoldable pub number_in : List Field → ℕ → ℕ
number_in fs i = (get_or fs i (w8, 0)).1

pub fits_field : (w : Width) (z : ℤ) → FitsSigned w z → cast_unsigned w z < 2 ^ bits w
fits_field w z fits = (Fits-of_z fits).fits

pub signed_again : (w : Width) (z : ℤ) (n : ℕ) → FitsSigned w z → n ≡ cast_unsigned w z → cast_signed w n ≡ z
signed_again w z n fits is = ap (cast_signed w) is ∙ to_z-of_z w z fits

-- ---- ranges

range_again : (range : ℤ × ℤ) (rest : List ℕ) → FitsInt64 range → (range_at (take 16 (range_encoding range ++ rest)) ≡ range) × (drop 16 (range_encoding range ++ rest) ≡ rest)
unfolding range_encoding range_at number_in
range_again range rest fits =
    let fs = signed w64 range.0 ∷ signed w64 range.1 ∷ [] in
    let front : take 16 (fields fs ++ rest) ≡ fields fs ++ [] = take_at (fields fs) rest 16 refl ∙ sym (append-nil (fields fs)) in
    let again : fields_at (w64 ∷ w64 ∷ []) 0 (fields fs ++ []) ≡ fs = fields_again fs [] [] 0 (wide64, (wide64, tt)) (fits_field w64 range.0 fits.0, (fits_field w64 range.1 fits.1, tt)) refl in
    let first = signed_again w64 range.0 (unsigned_at w64 0 (fields fs ++ [])) fits.0 (ap (λ (x : List Field). number_in x 0) again) in
    let last = signed_again w64 range.1 (unsigned_at w64 8 (fields fs ++ [])) fits.1 (ap (λ (x : List Field). number_in x 1) again) in (
      (λ i. (signed_at w64 0 (front i), signed_at w64 8 (front i))) ∙ (λ i. (first i, last i)),
      drop_at (fields fs) rest 16 refl,
    )

pub ranges_again : (ranges : Runs) (rest : List ℕ) → AllByRecursion FitsInt64 ranges → (ranges_of (first_chunks 16 (length ranges) (flat_map range_encoding ranges ++ rest)) ≡ ranges) × (drop (16 * length ranges) (flat_map range_encoding ranges ++ rest) ≡ rest)
ranges_again [] rest fits = (refl, refl)
ranges_again (range ∷ ranges) rest fits =
    let others = flat_map range_encoding ranges ++ rest in
    let parts : flat_map range_encoding (range ∷ ranges) ++ rest ≡ range_encoding range ++ others = append_assoc (range_encoding range) (flat_map range_encoding ranges) rest in
    let here = range_again range others fits.0 in
    let ih = ranges_again ranges rest fits.1 in
    let size : 16 * suc (length ranges) ≡ 16 + 16 * length ranges = omega arith in (
      ap (λ (x : List ℕ). ranges_of (first_chunks 16 (suc (length ranges)) x)) parts
          ∙ (λ i. here.0 i ∷ ranges_of (first_chunks 16 (length ranges) (here.1 i)))
          ∙ ap (λ (x : Runs). range ∷ x) ih.0,
      (λ i. drop (size i) (parts i)) ∙ sym (drop-drop (16 * length ranges) 16 (range_encoding range ++ others)) ∙ ap (drop (16 * length ranges)) here.1 ∙ ih.1,
    )

pub length-ranges : (ranges : Runs) → length (flat_map range_encoding ranges) ≡ 16 * length ranges
unfolding range_encoding
length-ranges [] = refl
length-ranges (range ∷ ranges) =
    let fs = signed w64 range.0 ∷ signed w64 range.1 ∷ [] in
    let ih = length-ranges ranges in
    let here : length (fields fs) ≡ 16 = refl in
    omega (arith, length-append (fields fs) (flat_map range_encoding ranges), ih, here)

-- ---- the body

-- each part of a body as it is read
pub record IsReadAs (body : List ℕ) (ranges : Runs) (count : ℤ) (rest : List ℕ) : Type 0 where
  pub counted : range_count body ≡ pos (length ranges)
  pub size : length body ≡ 8 + 16 * length ranges + length rest
  pub ranges_are : ranges ≡ ranges_of (first_chunks 16 (length ranges) (drop 4 body))
  pub count_is : count ≡ signed_at w32 0 (drop (16 * length ranges) (drop 4 body))
  pub rest_is : rest ≡ drop 4 (drop (16 * length ranges) (drop 4 body))

fits_count : (n : ℕ) → n ≤ MAX_COUNT → FitsSigned w32 (pos n)
fits_count n le = record { sfits = omega arith }

pub front_again : (body : List ℕ) (ranges : Runs) (count : ℤ) (rest : List ℕ) → HasFront body ranges count rest → IsReadAs body ranges count rest
unfolding front_of number_in
front_again body ranges count rest front =
    let fs = signed w32 (pos (length ranges)) ∷ [] in
    let middle = flat_map range_encoding ranges in
    let cs = signed w32 count ∷ [] in
    let small : FitsSigned w32 (pos (length ranges)) = fits_count (length ranges) front.counted in
    let parts : body ≡ fields fs ++ (middle ++ (fields cs ++ rest)) = front.encoded ∙ joined (fields fs) middle (fields cs) rest in
    let again : fields_at (w32 ∷ []) 0 (fields fs ++ (middle ++ (fields cs ++ rest))) ≡ fs = fields_again fs [] (middle ++ (fields cs ++ rest)) 0 (wide32, tt) (fits_field w32 (pos (length ranges)) small, tt) refl in
    let counted : range_count body ≡ pos (length ranges) = ap (signed_at w32 0) parts ∙ signed_again w32 (pos (length ranges)) _ small (ap (λ (x : List Field). number_in x 0) again) in
    let first_len : length (fields fs) ≡ 4 = refl in
    let count_len : length (fields cs) ≡ 4 = refl in
    let middle_len = length-ranges ranges in
    let size : length body ≡ 8 + 16 * length ranges + length rest =
    omega (arith, ap length parts, length-append (fields fs) (middle ++ (fields cs ++ rest)), length-append middle (fields cs ++ rest), length-append (fields cs) rest, first_len, count_len, middle_len) in
    let from_ranges : drop 4 body ≡ middle ++ (fields cs ++ rest) = ap (drop 4) parts ∙ drop_at (fields fs) (middle ++ (fields cs ++ rest)) 4 refl in
    let read = ranges_again ranges (fields cs ++ rest) front.ranges_fit in
    let from_count : drop (16 * length ranges) (drop 4 body) ≡ fields cs ++ rest = ap (drop (16 * length ranges)) from_ranges ∙ read.1 in
    let count_again : fields_at (w32 ∷ []) 0 (fields cs ++ rest) ≡ cs = fields_again cs [] rest 0 (wide32, tt) (fits_field w32 count front.count_fits, tt) refl in
    let count_read : signed_at w32 0 (fields cs ++ rest) ≡ count = signed_again w32 count _ front.count_fits (ap (λ (x : List Field). number_in x 0) count_again) in
    record {
      counted = counted;
      size = size;
      ranges_are = sym (ap (λ (x : List ℕ). ranges_of (first_chunks 16 (length ranges) x)) from_ranges ∙ read.0);
      count_is = sym (ap (signed_at w32 0) from_count ∙ count_read);
      rest_is = sym (ap (drop 4) from_count ∙ drop_at (fields cs) rest 4 refl);
    }
  where
    joined : (a b c d : List ℕ) → (a ++ (b ++ c)) ++ d ≡ a ++ (b ++ (c ++ d))
    joined a b c d = simp append_assoc

-- ---- the whole

pub own_crc : (body bytes : List ℕ) → bytes ≡ with_crc body → IsOwnCrc bytes
unfolding with_crc number_in
own_crc body bytes is =
    let crc : Field = (w32, crc_of body) in
    let len : length bytes ≡ length body + 4 = ap length is ∙ length-append body (fields (crc ∷ [])) in
    let end : length bytes - 4 ≡ length body = omega (arith, len) in
    let again : fields_at (w32 ∷ []) (length body) (body ++ (fields (crc ∷ []) ++ [])) ≡ crc ∷ [] = fields_again (crc ∷ []) body [] (length body) (wide32, tt) (crc_of-lt body, tt) refl in
    let tail : bytes ≡ body ++ (fields (crc ∷ []) ++ []) = is ∙ ap (λ (x : List ℕ). body ++ x) (sym (append-nil (fields (crc ∷ [])))) in
    let read : unsigned_at w32 (length bytes - 4) bytes ≡ crc_of body = (λ i. unsigned_at w32 (end i) (tail i)) ∙ ap (λ (x : List Field). number_in x 0) again in
    let front : take (length bytes - 4) bytes ≡ body = (λ i. take (end i) (is i)) ∙ take_at body (fields (crc ∷ [])) (length body) refl in
    read ∙ ap crc_of (sym front)

-- what is read behind a head
pub record IsBehind (bytes head body : List ℕ) (at : ℕ) : Type 0 where
  pub tail : List ℕ
  pub parts : bytes ≡ head ++ tail
  pub size : length bytes ≡ at + length body + 4
  pub body_is : take ((length bytes - 4) - at) (drop at bytes) ≡ body

pub behind_head : (bytes head body : List ℕ) (at : ℕ) → bytes ≡ with_crc (head ++ body) → length head ≡ at → IsBehind bytes head body at
unfolding with_crc
behind_head bytes head body at is len =
    let crc = fields ((w32, crc_of (head ++ body)) ∷ []) in
    let crc_len : length crc ≡ 4 = refl in
    let parts : bytes ≡ head ++ (body ++ crc) = is ∙ append_assoc head body crc in
    let size : length bytes ≡ at + length body + 4 = omega (arith, ap length parts, length-append head (body ++ crc), length-append body crc, crc_len, len) in
    let count : (length bytes - 4) - at ≡ length body = omega (arith, size) in
    let behind : drop at bytes ≡ body ++ crc = ap (drop at) parts ∙ drop_at head (body ++ crc) at len in
    record {
      tail = body ++ crc;
      parts = parts;
      size = size;
      body_is = (λ i. take (count i) (behind i)) ∙ take_at body crc (length body) refl;
    }

-- the head, the crc and the body as they are read
pub record IsFrameOf (bytes : List ℕ) (start : ℤ) (body : List ℕ) : Type 0 where
  pub crc : HasCrc bytes
  pub start_is : start_in bytes ≡ start
  pub body_is : body_in bytes ≡ body

head_again : (bytes : List ℕ) (start : ℤ) (body : List ℕ) → FitsSigned w64 start → bytes ≡ with_crc (head_of start ++ body) → IsFrameOf bytes start body
unfolding head_of number_in
head_again bytes start body fits is =
    let fs = (w32, MARK) ∷ signed w16 VERSION ∷ signed w64 start ∷ [] in
    let b : IsBehind bytes (fields fs) body 14 = behind_head bytes (fields fs) body 14 is refl in
    let version_fits : FitsSigned w16 VERSION = record { sfits = omega arith } in
    let mark_fits : MARK < 2 ^ 32 = omega arith in
    let again : fields_at (w32 ∷ w16 ∷ w64 ∷ []) 0 (fields fs ++ b.tail) ≡ fs =
    fields_again fs [] b.tail 0 (wide32, (wide16, (wide64, tt))) (mark_fits, (fits_field w16 VERSION version_fits, (fits_field w64 start fits, tt))) refl in
    let number = λ (i : ℕ). ap (λ (x : List Field). number_in x i) again in
    let mark : unsigned_at w32 0 bytes ≡ MARK = ap (unsigned_at w32 0) b.parts ∙ number 0 in
    let version : version_in bytes ≡ VERSION = ap (signed_at w16 4) b.parts ∙ signed_again w16 VERSION _ version_fits (number 1) in
    let start_read : signed_at w64 6 bytes ≡ start = ap (signed_at w64 6) b.parts ∙ signed_again w64 start _ fits (number 2) in
    let there : has_start bytes ≡ true = grind (arith, ints, version) in
    record {
      crc = (((omega (arith, b.size), mark), inl version), own_crc (fields fs ++ body) bytes is);
      start_is = ap (λ (t : Bool). if t then signed_at w64 6 bytes else pos 0) there ∙ start_read;
      body_is = ap (λ (t : Bool). body_from t bytes) there ∙ b.body_is;
    }

first_head_again : (bytes body : List ℕ) → 8 ≤ length body → bytes ≡ with_crc (first_head ++ body) → IsFrameOf bytes (pos 0) body
unfolding first_head number_in
first_head_again bytes body long is =
    let fs = (w32, MARK) ∷ signed w16 FIRST_VERSION ∷ [] in
    let b : IsBehind bytes (fields fs) body 6 = behind_head bytes (fields fs) body 6 is refl in
    let version_fits : FitsSigned w16 FIRST_VERSION = record { sfits = omega arith } in
    let mark_fits : MARK < 2 ^ 32 = omega arith in
    let again : fields_at (w32 ∷ w16 ∷ []) 0 (fields fs ++ b.tail) ≡ fs =
    fields_again fs [] b.tail 0 (wide32, (wide16, tt)) (mark_fits, (fits_field w16 FIRST_VERSION version_fits, tt)) refl in
    let number = λ (i : ℕ). ap (λ (x : List Field). number_in x i) again in
    let mark : unsigned_at w32 0 bytes ≡ MARK = ap (unsigned_at w32 0) b.parts ∙ number 0 in
    let version : version_in bytes ≡ FIRST_VERSION = ap (signed_at w16 4) b.parts ∙ signed_again w16 FIRST_VERSION _ version_fits (number 1) in
    let none : has_start bytes ≡ false = grind (arith, ints, version) in
    record {
      crc = (((omega (arith, b.size, long), mark), inr version), own_crc (fields fs ++ body) bytes is);
      start_is = ap (λ (t : Bool). if t then signed_at w64 6 bytes else pos 0) none;
      body_is = ap (λ (t : Bool). body_from t bytes) none ∙ b.body_is;
    }

pub frame_again : (bytes : List ℕ) (start : ℤ) (body : List ℕ) → FitsSigned w64 start → 8 ≤ length body → IsFramed start body bytes → IsFrameOf bytes start body
frame_again bytes start body fits long (inl is) = head_again bytes start body fits is
frame_again bytes start body fits long (inr (zero, is)) = subst (λ (z : ℤ). IsFrameOf bytes z body) (sym zero) (first_head_again bytes body long is)
