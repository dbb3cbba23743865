-- Numbers of a fixed width: what is read is what was written, and the other way round.
use Rattle.std.proofs.Common.{◌≡◌, ℕ, suc, ◌+◌, ◌^◌, ◌<◌, ◌≤◌, ℤ, negsuc, List, [], ◌∷◌, ◌++◌, length, take, drop, Ok, Err, refl, sym, ap, ◌∙◌, arith, inl, inr}
use Rattle.std.specs.Prelude.{FitsSigned}
use Rattle.std.specs.Int.{Width, w8, byte_len, from_be_bytes, to_be_bytes, cast_signed, cast_unsigned}
use mir.Val.{bits}
use Rattle.std.proofs.Math.Facts.{of_z-to_z, to_z-of_z, sfits_to_z, Fits-of_z}
use Rattle.std.proofs.lemmas.Bool.{cases_lt, lt-ltb, le-ltb}
use Rattle.std.proofs.lemmas.List.{take_at, drop_at, take-append-drop, length-append, length-take, get_or-drop, get_or-take, get_or_past}
use Rattle.std.proofs.lemmas.Nat.{be_bytes_2, be_bytes_4, be_bytes_8, from_be_bytes-to_be_bytes_2, from_be_bytes-to_be_bytes_4, from_be_bytes-to_be_bytes_8}
use Rattle.frame_fields.specs.declared.error.FieldFault.TheVariants.{ShortBody}
use Rattle.frame_fields.specs.Fields.{Size, size8, size16, size32, size64, width, be, number_at, IsCut}
use Rattle.frame_fields.specs.Reading.{read_number}
pub use Rattle.frame_fields.specs.Frames.{IsBytes}

-- ---- bytes

pub IsBytes-drop : (n : ℕ) (bytes : List ℕ) → IsBytes bytes → IsBytes (drop n bytes)
IsBytes-drop n bytes h i = rw get_or-drop (h (n + i))

pub IsBytes-take : (n : ℕ) (bytes : List ℕ) → IsBytes bytes → IsBytes (take n bytes)
IsBytes-take n bytes h i =
    elim (cases_lt i n) [
      | inl lt ↦ rw (get_or-take n bytes i 0 lt) (h i)
      | inr le ↦ rw (get_or_past (take n bytes) i 0 (omega (arith, length-take n bytes))) (omega arith)
    ]

pub IsBytes-second : (text rest : List ℕ) → IsBytes (text ++ rest) → IsBytes rest
IsBytes-second [] rest h = h
IsBytes-second (b ∷ text) rest h = IsBytes-second text rest (λ i. h (suc i))

-- ---- widths

-- a width whose numbers have one encoding
record IsWide (w : Width) : Type 0 where
  len : (n : ℕ) → length (to_be_bytes w n) ≡ byte_len w
  back : (bytes : List ℕ) → length bytes ≡ byte_len w → IsBytes bytes → to_be_bytes w (from_be_bytes w bytes) ≡ bytes
  again : (n : ℕ) → n < 2 ^ bits w → from_be_bytes w (to_be_bytes w n) ≡ n
  below : (bytes : List ℕ) → IsBytes bytes → from_be_bytes w bytes < 2 ^ bits w

one_back : (bytes : List ℕ) → length bytes ≡ 1 → IsBytes bytes → to_be_bytes w8 (from_be_bytes w8 bytes) ≡ bytes
one_back [] e fits = absurd (omega arith)
one_back (b ∷ []) e fits = ap (λ (n : ℕ). n ∷ []) (omega (arith, fits 0))
one_back (b ∷ c ∷ bytes) e fits = absurd (omega arith)

wide : (s : Size) → IsWide (width s)
wide size8 = record { len = λ n. refl; back = one_back; again = λ n lt. omega arith; below = λ bytes fits. omega (arith, fits 0) }
wide size16 = record {
  len = λ n. refl;
  back = λ bytes len fits. be_bytes_2 bytes _ len fits refl;
  again = λ n lt. from_be_bytes-to_be_bytes_2 n lt;
  below = λ bytes fits. omega (arith, fits 0, fits 1);
}
wide size32 = record {
  len = λ n. refl;
  back = λ bytes len fits. be_bytes_4 bytes _ len fits refl;
  again = λ n lt. from_be_bytes-to_be_bytes_4 n lt;
  below = λ bytes fits. omega (arith, fits 0, fits 1, fits 2, fits 3);
}
wide size64 = record {
  len = λ n. refl;
  back = λ bytes len fits. be_bytes_8 bytes _ len fits refl;
  again = λ n lt. from_be_bytes-to_be_bytes_8 n lt;
  below = λ bytes fits. omega (arith, fits 0, fits 1, fits 2, fits 3, fits 4, fits 5, fits 6, fits 7);
}

-- ---- numbers at the front of bytes

abbrev pub size_of : Size → ℕ
size_of s = byte_len (width s)

pub length-be : (s : Size) (z : ℤ) → length (be s z) ≡ size_of s
length-be s z = (wide s).len (cast_unsigned (width s) z)

pub number_again : (s : Size) (z : ℤ) (rest : List ℕ) → FitsSigned (width s) z → number_at s (be s z ++ rest) ≡ z
number_again s z rest fits =
    rw (take_at (be s z) rest (size_of s) (length-be s z), (wide s).again (cast_unsigned (width s) z) (Fits-of_z fits).fits) (to_z-of_z fits)

pub drop-number : (s : Size) (z : ℤ) (rest : List ℕ) → drop (size_of s) (be s z ++ rest) ≡ rest
drop-number s z rest = drop_at (be s z) rest (size_of s) (length-be s z)

pub number_fits : (s : Size) (bytes : List ℕ) → IsBytes bytes → FitsSigned (width s) (number_at s bytes)
number_fits s bytes fits = sfits_to_z (record { fits = (wide s).below (take (size_of s) bytes) (IsBytes-take (size_of s) bytes fits) })

-- bytes are the number that they begin with, and what follows
pub number_back : (s : Size) (bytes : List ℕ) → IsBytes bytes → size_of s ≤ length bytes → bytes ≡ be s (number_at s bytes) ++ drop (size_of s) bytes
number_back s bytes fits long =
    let w = width s in
    let front = take (size_of s) bytes in
    let front_fits : IsBytes front = IsBytes-take (size_of s) bytes fits in
    let enough : length front ≡ byte_len w = omega (arith, length-take (size_of s) bytes) in
    let round : cast_unsigned w (cast_signed w (from_be_bytes w front)) ≡ from_be_bytes w front = of_z-to_z (record { fits = (wide s).below front front_fits }) in
    let is : be s (number_at s bytes) ≡ front = ap (to_be_bytes w) round ∙ (wide s).back front enough front_fits in
    sym (take-append-drop (size_of s) bytes) ∙ ap (λ (x : List ℕ). x ++ drop (size_of s) bytes) (sym is)

-- ---- reading a number

pub number_cut : (s : Size) (bytes : List ℕ) → IsCut s bytes → read_number s bytes ≡ Err ShortBody
unfolding read_number
number_cut s bytes cut = rw (lt-ltb (length bytes) (size_of s) cut) refl

pub number_read : (s : Size) (bytes : List ℕ) → size_of s ≤ length bytes → read_number s bytes ≡ Ok (number_at s bytes, drop (size_of s) bytes)
unfolding read_number
number_read s bytes long = rw (le-ltb (length bytes) (size_of s) long) refl

pub read_number_again : (s : Size) (z : ℤ) (rest : List ℕ) → FitsSigned (width s) z → read_number s (be s z ++ rest) ≡ Ok (z, rest)
read_number_again s z rest fits =
    let long : size_of s ≤ length (be s z ++ rest) = omega (arith, length-append (be s z) rest, length-be s z) in
    let first = number_again s z rest fits in
    let later = drop-number s z rest in
    number_read s (be s z ++ rest) long ∙ λ i. Ok (first i, later i)

pub null_fits : (s : Size) → FitsSigned (width s) (negsuc 0)
null_fits size8 = record { sfits = omega arith }
null_fits size16 = record { sfits = omega arith }
null_fits size32 = record { sfits = omega arith }
null_fits size64 = record { sfits = omega arith }
