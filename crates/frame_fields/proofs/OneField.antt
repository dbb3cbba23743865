-- One field: a number, or bytes behind their length, or null.
use Rattle.std.proofs.Common.{◌≡◌, ℕ, ◌-◌, ◌<◌, ◌≤◌, false, ltb, ℤ, pos, negsuc, List, ◌++◌, length, take, drop, Option, Some, None, Ok, Err, refl, sym, ap, subst, ◌∙◌, arith, ◌⊎◌, inl, inr}
use Rattle.std.specs.Prelude.{FitsSigned, ◌<ℤ◌}
use Rattle.std.proofs.lemmas.Bool.{cases_lt, lt-ltb, le-ltb}
use Rattle.std.proofs.lemmas.Int.{ints}
use Rattle.std.proofs.lemmas.List.{take_at, drop_at, take-append-drop, length-append, length-take, length-drop, append-nil}
use Rattle.frame_fields.specs.declared.error.FieldFault.{FieldFault}
use Rattle.frame_fields.specs.declared.error.FieldFault.TheVariants.{ShortBody, Malformed}
use Rattle.frame_fields.specs.Fields.{Size, width, Field, number, sized, sized_or_null, be, number_at, field, FitsLength, FieldFits, IsCut, IsShorter, IsBelow, FieldBreaks}
use Rattle.frame_fields.specs.Reading.{read_number, read_text, read_text_or_null, read_field}
use Rattle.frame_fields.proofs.Numbers.{IsBytes, size_of, number_fits, number_back, number_cut, number_read, read_number_again}
use Rattle.frame_fields.proofs.ReaderLaws.{Reads, done_is, same_reads}
use Rattle.frame_fields.proofs.LengthLaws.{BreaksBehind, behind_reads, Counts, BreaksCount, IsCounted, IsCountedOrNull, null_or, nothing_or, FitsOrNull, announces_count, announces_or_null}

-- ---- numbers

number_takes : (s : Size) (bytes : List ℕ) (z : ℤ) (rest : List ℕ) → IsBytes bytes → read_number s bytes ≡ Ok (z, rest) → FitsSigned (width s) z × (bytes ≡ be s z ++ rest)
number_takes s bytes z rest h e =
    elim (cases_lt (length bytes) (size_of s)) [
      | inl cut ↦ let clash = sym e ∙ number_cut s bytes cut in absurd cc
      | inr long ↦
          let d = done_is (number_at s bytes) z (drop (size_of s) bytes) rest (sym (number_read s bytes long) ∙ e) in
          (subst (FitsSigned (width s)) d.0 (number_fits s bytes h), number_back s bytes h long ∙ λ i. be s (d.0 i) ++ d.1 i)
    ]

number_broken : (s : Size) (e : FieldFault) (bytes : List ℕ) → FieldBreaks (number s) e bytes → read_number s bytes ≡ Err e
number_broken s ShortBody bytes cut = number_cut s bytes cut
number_broken s Malformed bytes h = absurd h

number_fault : (s : Size) (e : FieldFault) (bytes : List ℕ) → read_number s bytes ≡ Err e → FieldBreaks (number s) e bytes
number_fault s ShortBody bytes e =
    elim (cases_lt (length bytes) (size_of s)) [
      | inl cut ↦ cut
      | inr long ↦ let clash = sym e ∙ number_read s bytes long in absurd cc
    ]
number_fault s Malformed bytes e =
    elim (cases_lt (length bytes) (size_of s)) [
      | inl cut ↦ let clash = sym e ∙ number_cut s bytes cut in absurd cc
      | inr long ↦ let clash = sym e ∙ number_read s bytes long in absurd cc
    ]

number_reads : (s : Size) → Reads (be s) (FitsSigned (width s)) (FieldBreaks (number s)) (read_number s)
number_reads s = record { again = read_number_again s; takes = number_takes s; broken = number_broken s; fault = λ e bytes h k. number_fault s e bytes k }

-- ---- bytes behind their length

abbrev TextFits : Size → List ℕ → Type 0
TextFits s text = FitsLength s (length text)

abbrev BreaksText : ℕ → FieldFault → List ℕ → Type 0
BreaksText n e bytes = (length bytes < n) × (e ≡ ShortBody)

text_again : (text rest : List ℕ) → read_text (pos (length text)) (text ++ rest) ≡ Ok (text, rest)
text_again text rest =
    let long : ltb (length (text ++ rest)) (length text) ≡ false = le-ltb _ _ (omega (arith, length-append text rest)) in
    rw (long, take_at text rest (length text) refl, drop_at text rest (length text) refl) refl

text_cut : (n : ℕ) (bytes : List ℕ) → length bytes < n → read_text (pos n) bytes ≡ Err ShortBody
text_cut n bytes cut = rw (lt-ltb (length bytes) n cut) refl

text_read : (n : ℕ) (bytes : List ℕ) → n ≤ length bytes → read_text (pos n) bytes ≡ Ok (take n bytes, drop n bytes)
text_read n bytes long = rw (le-ltb (length bytes) n long) refl

text_takes : (s : Size) (n : ℕ) (bytes text rest : List ℕ) → FitsLength s n → IsBytes bytes → read_text (pos n) bytes ≡ Ok (text, rest) → FitsLength s (length text) × (length text ≡ n) × (bytes ≡ text ++ rest)
text_takes s n bytes text rest f h e =
    elim (cases_lt (length bytes) n) [
      | inl cut ↦ let clash = sym e ∙ text_cut n bytes cut in absurd cc
      | inr long ↦
          let d = done_is (take n bytes) text (drop n bytes) rest (sym (text_read n bytes long) ∙ e) in
          let len : length text ≡ n = omega (arith, length-take n bytes, ap length d.0) in
          (subst (FitsLength s) (sym len) f, len, sym (take-append-drop n bytes) ∙ λ i. d.0 i ++ d.1 i)
    ]

text_fault : (n : ℕ) (e : FieldFault) (bytes : List ℕ) → read_text (pos n) bytes ≡ Err e → BreaksText n e bytes
text_fault n e bytes k =
    elim (cases_lt (length bytes) n) [
      | inl cut ↦ let same = sym k ∙ text_cut n bytes cut in (cut, cc)
      | inr long ↦ let clash = sym k ∙ text_read n bytes long in absurd cc
    ]

text_counts : (s : Size) → Counts {X = List ℕ} s length (λ text. text) (TextFits s) BreaksText (λ n. read_text (pos n))
text_counts s = record {
  small = λ text h. h;
  again = λ text rest h. text_again text rest;
  takes = text_takes s;
  broken = λ n e bytes h. text_cut n bytes h.0 ∙ ap Err (sym h.1);
  fault = λ n e bytes h k. text_fault n e bytes k;
}

counted_text : IsCounted (λ n. read_text (pos n)) read_text
counted_text = record { counts = λ n bytes. refl; refuses = λ n bytes. refl }

counted_text_or_null : IsCountedOrNull (λ n. read_text (pos n)) read_text_or_null
counted_text_or_null = record { counts = λ n bytes. refl; null = λ bytes. refl; refuses = λ n bytes. refl }

-- ---- faults of a length

above_count : (k : ℕ) (z : ℤ) → pos k <ℤ z → (n : ℕ) × (z ≡ pos n) × (k < n)
above_count k (pos n) h = (n, refl, omega (arith, ints, h))
above_count k (negsuc n) h = absurd (omega (arith, ints, h))

count_above : (k n : ℕ) (z : ℤ) → z ≡ pos n → k < n → pos k <ℤ z
count_above k n z e h = subst (λ (x : ℤ). pos k <ℤ x) (sym e) (omega (arith, ints))

short_into : (least : ℤ) (s : Size) (bytes : List ℕ) → IsCut s bytes ⊎ IsShorter s bytes → BreaksBehind s (BreaksCount least BreaksText) ShortBody bytes
short_into least s bytes (inl cut) = inl (cut, refl)
short_into least s bytes (inr h) =
    let a = above_count (length bytes - size_of s) (number_at s bytes) h.1 in
    inr (h.0, inr (a.0, a.1, (omega (arith, length-drop (size_of s) bytes, a.2), refl)))

below_from : (least : ℤ) (s : Size) (bytes : List ℕ) → BreaksBehind s (BreaksCount least BreaksText) Malformed bytes → IsBelow least s bytes
below_from least s bytes (inl h) = let clash = h.1 in absurd cc
below_from least s bytes (inr h) = elim h.1 [
  | inl below ↦ (h.0, below.0)
  | inr cut ↦ let clash = cut.2.1 in absurd cc
]

short_from : (least : ℤ) (s : Size) (bytes : List ℕ) → BreaksBehind s (BreaksCount least BreaksText) ShortBody bytes → IsCut s bytes ⊎ IsShorter s bytes
short_from least s bytes (inl h) = inl h.0
short_from least s bytes (inr h) = elim h.1 [
  | inl below ↦ let clash = below.1 in absurd cc
  | inr cut ↦ inr (h.0, count_above (length bytes - size_of s) cut.0 (number_at s bytes) cut.1 (omega (arith, length-drop (size_of s) bytes, cut.2.0)))
]

sized_into : (s : Size) (e : FieldFault) (bytes : List ℕ) → FieldBreaks (sized s) e bytes → BreaksBehind s (BreaksCount (pos 0) BreaksText) e bytes
sized_into s ShortBody bytes h = short_into (pos 0) s bytes h
sized_into s Malformed bytes h = inr (h.0, inl (h.1, refl))

sized_from : (s : Size) (e : FieldFault) (bytes : List ℕ) → BreaksBehind s (BreaksCount (pos 0) BreaksText) e bytes → FieldBreaks (sized s) e bytes
sized_from s ShortBody bytes h = short_from (pos 0) s bytes h
sized_from s Malformed bytes h = below_from (pos 0) s bytes h

null_into : (s : Size) (e : FieldFault) (bytes : List ℕ) → FieldBreaks (sized_or_null s) e bytes → BreaksBehind s (BreaksCount (negsuc 0) BreaksText) e bytes
null_into s ShortBody bytes h = short_into (negsuc 0) s bytes h
null_into s Malformed bytes h = inr (h.0, inl (h.1, refl))

null_from : (s : Size) (e : FieldFault) (bytes : List ℕ) → BreaksBehind s (BreaksCount (negsuc 0) BreaksText) e bytes → FieldBreaks (sized_or_null s) e bytes
null_from s ShortBody bytes h = short_from (negsuc 0) s bytes h
null_from s Malformed bytes h = below_from (negsuc 0) s bytes h

-- ---- one field

null_field : (s : Size) (v : Option (List ℕ)) → field (sized_or_null s) v ≡ be s (null_or length v) ++ nothing_or (λ text. text) v
null_field s None = sym (append-nil (be s (negsuc 0)))
null_field s (Some text) = refl

null_fits_into : (s : Size) (v : Option (List ℕ)) → FieldFits (sized_or_null s) v → FitsOrNull (TextFits s) v
null_fits_into s None h = tt
null_fits_into s (Some text) h = h

null_fits_from : (s : Size) (v : Option (List ℕ)) → FitsOrNull (TextFits s) v → FieldFits (sized_or_null s) v
null_fits_from s None h = tt
null_fits_from s (Some text) h = h

pub field_reads : (f : Field) → Reads (field f) (FieldFits f) (FieldBreaks f) (read_field f)
unfolding read_field
field_reads (number s) = number_reads s
field_reads (sized s) =
    same_reads
    (behind_reads s _ _ _ _ read_text (announces_count s length (λ text. text) (TextFits s) BreaksText (λ n. read_text (pos n)) (text_counts s) read_text counted_text))
    (λ v. refl) (λ v h. h) (λ v h. h) (sized_into s) (λ e bytes h. sized_from s e bytes)
field_reads (sized_or_null s) =
    same_reads
    (behind_reads s _ _ _ _ read_text_or_null (announces_or_null s length (λ text. text) (TextFits s) BreaksText (λ n. read_text (pos n)) (text_counts s) read_text_or_null counted_text_or_null))
    (null_field s) (null_fits_into s) (null_fits_from s) (null_into s) (λ e bytes h. null_from s e bytes)
