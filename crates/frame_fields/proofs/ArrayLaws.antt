-- Arrays: a count and so many elements, or null.
use Rattle.std.proofs.Common.{◌≡◌, ℕ, ◌≤◌, ℤ, pos, negsuc, List, ◌++◌, length, drop, Option, Some, None, Ok, Err, refl, sym, ap, subst, ◌∙◌, append_assoc, arith, inl, inr}
use Rattle.std.specs.Prelude.{FitsSigned}
use Rattle.std.specs.List.{flat_map}
use Rattle.std.proofs.lemmas.List.{length-append, append-nil}
use Rattle.frame_fields.specs.declared.error.FieldFault.{FieldFault}
use Rattle.frame_fields.specs.declared.error.FieldFault.TheVariants.{ShortBody, Malformed}
use Rattle.frame_fields.specs.Fields.{size32, width, be, number_at, elements, elements_or_null, FitsLength, ElementsFit, ElementsOrNullFit, CountBreaks, AnElementBreaks, ElementsBreak}
use Rattle.frame_fields.specs.Reading.{At, read_number, read_field, read_times, read_count, read_count_or_null, read_array, read_array_or_null}
use Rattle.frame_fields.proofs.Numbers.{IsBytes, size_of, length-be, number_again, drop-number, number_fits, number_back}
use Rattle.frame_fields.proofs.ReaderLaws.{Reads, same_reads, TimesBreak, times_again, times_takes, times_broken, times_fault}
use Rattle.frame_fields.proofs.LengthLaws.{BreaksBehind, behind_reads, Counts, BreaksCount, null_or, nothing_or, FitsOrNull, announces_count, announces_or_null}

module _ {X : Type 0} (enc : X → List ℕ) (fits : X → Type 0) (breaks : FieldFault → List ℕ → Type 0) (read : List ℕ → At X) (p : Reads enc fits breaks read) where
  elements_takes : (n : ℕ) (bytes : List ℕ) (xs : List X) (rest : List ℕ) → FitsLength size32 n → IsBytes bytes → read_times read n bytes ≡ Ok (xs, rest) → ElementsFit fits xs × (length xs ≡ n) × (bytes ≡ flat_map enc xs ++ rest)
  elements_takes n bytes xs rest f h e =
      let t = times_takes enc fits breaks read p n bytes xs rest h e in
      ((subst (FitsLength size32) (sym t.0) f, t.1), t.0, t.2)

  elements_broken : (n : ℕ) (e : FieldFault) (bytes : List ℕ) → TimesBreak enc fits breaks n e bytes → read_times read n bytes ≡ Err e
  elements_broken n e bytes h = ap (read_times read n) h.4 ∙ times_broken enc fits breaks read p n h.0 h.1 e h.2 h.3 h.5

  elements_count : Counts size32 length (flat_map enc) (ElementsFit fits) (TimesBreak enc fits breaks) (read_times read)
  elements_count = record {
    small = λ xs h. h.0;
    again = λ xs rest h. times_again enc fits breaks read p xs rest h.1;
    takes = elements_takes;
    broken = elements_broken;
    fault = times_fault enc fits breaks read p;
  }

  -- ---- faults of an array

  element_into : (least : ℤ) (e : FieldFault) (bytes : List ℕ) → AnElementBreaks enc fits breaks e bytes → BreaksBehind size32 (BreaksCount least (TimesBreak enc fits breaks)) e bytes
  element_into least e bytes h =
      let count = pos h.0 in
      let behind = flat_map enc h.1 ++ h.2 in
      let parts : bytes ≡ be size32 count ++ behind = h.6 ∙ append_assoc (be size32 count) (flat_map enc h.1) h.2 in
      let long : size_of size32 ≤ length bytes = omega (arith, ap length parts, length-append (be size32 count) behind, length-be size32 count) in
      let is : number_at size32 bytes ≡ count = ap (number_at size32) parts ∙ number_again size32 count behind h.3 in
      let later : drop (size_of size32) bytes ≡ behind = ap (drop (size_of size32)) parts ∙ drop-number size32 count behind in
      inr (long, inr (h.0, is, (h.1, h.2, h.4, h.5, later, h.7)))

  array_into : (least : ℤ) (e : FieldFault) (bytes : List ℕ) → ElementsBreak least enc fits breaks e bytes → BreaksBehind size32 (BreaksCount least (TimesBreak enc fits breaks)) e bytes
  array_into least ShortBody bytes (inl cut) = inl (cut, refl)
  array_into least Malformed bytes (inl below) = inr (below.0, inl (below.1, refl))
  array_into least e bytes (inr h) = element_into least e bytes h

  count_fault : (least : ℤ) (e f : FieldFault) (bytes : List ℕ) → e ≡ f → CountBreaks least f bytes → ElementsBreak least enc fits breaks e bytes
  count_fault least e f bytes same h = inl (subst (λ (x : FieldFault). CountBreaks least x bytes) (sym same) h)

  element_from : (e : FieldFault) (bytes : List ℕ) (n : ℕ) → IsBytes bytes → size_of size32 ≤ length bytes → number_at size32 bytes ≡ pos n → TimesBreak enc fits breaks n e (drop (size_of size32) bytes) → AnElementBreaks enc fits breaks e bytes
  element_from e bytes n h long is t =
      let parts : bytes ≡ be size32 (pos n) ++ (flat_map enc t.0 ++ t.1) = number_back size32 bytes h long ∙ λ i. be size32 (is i) ++ t.4 i in
      (n, t.0, t.1, subst (FitsSigned (width size32)) is (number_fits size32 bytes h), t.2, t.3, parts ∙ sym (append_assoc (be size32 (pos n)) (flat_map enc t.0) t.1), t.5)

  array_from : (least : ℤ) (e : FieldFault) (bytes : List ℕ) → IsBytes bytes → BreaksBehind size32 (BreaksCount least (TimesBreak enc fits breaks)) e bytes → ElementsBreak least enc fits breaks e bytes
  array_from least e bytes h (inl k) = count_fault least e ShortBody bytes k.1 k.0
  array_from least e bytes h (inr k) = elim k.1 [
    | inl below ↦ count_fault least e Malformed bytes below.1 (k.0, below.0)
    | inr t ↦ inr (element_from e bytes t.0 h k.0 t.1 t.2)
  ]

  -- ---- arrays

  pub array_reads : Reads (elements enc) (ElementsFit fits) (ElementsBreak (pos 0) enc fits breaks) (read_array read)
  unfolding read_array read_field read_number
  array_reads =
      same_reads
      (behind_reads size32 _ _ _ _ (read_count read) (announces_count size32 length (flat_map enc) (ElementsFit fits) (TimesBreak enc fits breaks) (read_times read) elements_count (read_count read) (record { counts = λ n bytes. refl; refuses = λ n bytes. refl })))
      (λ v. refl) (λ v h. h) (λ v h. h) (array_into (pos 0)) (array_from (pos 0))

  null_elements : (v : Option (List X)) → elements_or_null enc v ≡ be size32 (null_or length v) ++ nothing_or (flat_map enc) v
  null_elements None = sym (append-nil (be size32 (negsuc 0)))
  null_elements (Some xs) = refl

  null_into : (v : Option (List X)) → ElementsOrNullFit fits v → FitsOrNull (ElementsFit fits) v
  null_into None h = tt
  null_into (Some xs) h = h

  null_from : (v : Option (List X)) → FitsOrNull (ElementsFit fits) v → ElementsOrNullFit fits v
  null_from None h = tt
  null_from (Some xs) h = h

  pub array_or_null_reads : Reads (elements_or_null enc) (ElementsOrNullFit fits) (ElementsBreak (negsuc 0) enc fits breaks) (read_array_or_null read)
  unfolding read_array_or_null read_field read_number
  array_or_null_reads =
      same_reads
      (behind_reads size32 _ _ _ _ (read_count_or_null read) (announces_or_null size32 length (flat_map enc) (ElementsFit fits) (TimesBreak enc fits breaks) (read_times read) elements_count (read_count_or_null read) (record { counts = λ n bytes. refl; null = λ bytes. refl; refuses = λ n bytes. refl })))
      null_elements null_into null_from (array_into (negsuc 0)) (array_from (negsuc 0))
