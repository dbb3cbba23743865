-- A response to a Clean is read as its answer.
use Rattle.std.proofs.Common.{arith, ◌≡◌, ℕ, List, [], ◌∷◌, ◌++◌, length, take, drop, ◌-◌, ◌≤◌, Ok, Err, sym, subst, ap, ◌∙◌, append-nil}
use Rattle.std.proofs.lemmas.List.{length-drop, take_at, nil_from_length}
use Rattle.responses.specs.declared.clean.CleanAnswer.{CleanAnswer}
use Rattle.frame_fields.specs.declared.error.FieldFault.{FieldFault}
use Rattle.frame_fields.specs.Fields.{Size, size16, size64, end, Value, Encodes, encoded}
use Rattle.frame_fields.specs.Reading.{At, nothing, read_fields}
use Rattle.frame_fields.proofs.FieldLaws.{encodes_read, read_encodes}
use Rattle.frame_fields.proofs.Numbers.{IsBytes, IsBytes-drop}
use Rattle.frame_fields.proofs.NumbersInARow.{all_there, behind, in_front}
use Rattle.frame_fields.proofs.ReaderLaws.{done_is}
use Rattle.responses.specs.Clean.{clean_response, clean_value}
use Rattle.cleaning_frames.specs.Cleaning.{IsCleanReply}

abbrev answer_of : Value clean_response → CleanAnswer
answer_of v = record { code = v.0; records = v.1.0; tombstones = v.1.1.0; batches = v.1.1.1.0 }

-- what stands behind size and correlation id
abbrev pub sliced : List ℕ → List ℕ
sliced bytes = take (length bytes - 8) (drop 8 bytes)

all_behind : (bytes : List ℕ) → sliced bytes ≡ drop 8 bytes
all_behind bytes =
    ap (take (length bytes - 8)) (sym (append-nil (drop 8 bytes))) ∙ take_at (drop 8 bytes) [] (length bytes - 8) (length-drop 8 bytes)

module _ (bytes : List ℕ) (a : CleanAnswer) (is : IsCleanReply bytes a) where
  pub reply_length : length bytes ≡ 34
  unfolding encoded
  reply_length = ap length is.is_response

  behind_head : drop 8 bytes ≡ encoded clean_response (clean_value a) ++ []
  unfolding encoded
  behind_head = ap (drop 8) is.is_response ∙ sym (append-nil (encoded clean_response (clean_value a)))

  reply_read : read_fields clean_response (sliced bytes) ≡ Ok (clean_value a, [])
  reply_read =
      encodes_read clean_response (clean_value a) (sliced bytes) [] (record { fits = is.fits; parts = all_behind bytes ∙ behind_head })

  pub answer_read : (b : CleanAnswer) (rest : List ℕ) → read_fields clean_response (sliced bytes) ≡ Ok (clean_value b, rest) → b ≡ a
  answer_read b rest read = ap answer_of (done_is (clean_value b) (clean_value a) rest [] (sym read ∙ reply_read)).0

  pub never_broken : (e : FieldFault) → read_fields clean_response (sliced bytes) ≡ Err e → ⊥
  never_broken e read = let clash = sym read ∙ reply_read in absurd cc

abbrev sizes : List Size
sizes = size16 ∷ size64 ∷ size64 ∷ size64 ∷ []

abbrev found : Value clean_response × List ℕ → At (Value clean_response)
found x = Ok x

no_fault : (x : Value clean_response × List ℕ) (e : FieldFault) → found x ≡ Err e → ⊥
no_fault x e is = absurd cc

-- bytes of that length begin with the fields, and nothing follows them
module _ (bytes : List ℕ) (fits : IsBytes bytes) (long : length bytes ≡ 34) where
  pub all_read : (a : CleanAnswer) (rest : List ℕ) → read_fields clean_response (sliced bytes) ≡ Ok (clean_value a, rest)
      → Encodes clean_response (clean_value a) (drop 8 bytes) []
  unfolding encoded
  all_read a rest read =
      let whole = ap (read_fields clean_response) (sym (all_behind bytes)) ∙ read in
      let e = read_encodes clean_response (clean_value a) (drop 8 bytes) rest (IsBytes-drop 8 bytes fits) whole in
      let nothing_left : rest ≡ [] = nil_from_length rest (omega (arith, long, length-drop 8 bytes, ap length e.parts)) in
      subst (Encodes clean_response (clean_value a) (drop 8 bytes)) nothing_left e

  pub some_read : (e : FieldFault) → read_fields clean_response (sliced bytes) ≡ Err e → ⊥
  unfolding read_fields
  some_read e read =
      let enough : 26 ≤ length (sliced bytes) = omega (arith, long, length-drop 8 bytes, ap length (all_behind bytes)) in
      let all_is : read_fields clean_response (sliced bytes) ≡ Ok (in_front sizes end (sliced bytes) nothing, behind sizes (sliced bytes)) =
      all_there sizes end (sliced bytes) enough in
      no_fault _ e (sym all_is ∙ read)
