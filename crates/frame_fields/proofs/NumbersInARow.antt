-- Numbers in a row, before other fields, are read at once where all their bytes are there.
use Rattle.std.proofs.Common.{◌≡◌, ℕ, ◌+◌, ◌<◌, ◌≤◌, List, [], ◌∷◌, length, drop, Err, ap, ◌∙◌, arith, inl, inr}
use Rattle.std.proofs.lemmas.Bool.{cases_lt}
use Rattle.std.proofs.lemmas.List.{length-drop}
use Rattle.frame_fields.specs.declared.error.FieldFault.TheVariants.{ShortBody}
use Rattle.frame_fields.specs.Fields.{Size, Fields, one, number, Value, number_at}
use Rattle.frame_fields.specs.Reading.{map_read, then_read, read_field, read_fields}
use Rattle.frame_fields.proofs.Numbers.{size_of, number_cut, number_read}
use Rattle.frame_fields.proofs.ReaderLaws.{map_read_same, map_read_twice}

-- the fields, behind numbers of these sizes
abbrev pub numbers : List Size → Fields → Fields
numbers [] d = d
numbers (s ∷ sizes) d = one (number s) (numbers sizes d)

-- the bytes that the numbers take
abbrev pub total : List Size → ℕ
total [] = 0
total (s ∷ sizes) = size_of s + total sizes

-- the bytes after the numbers
abbrev pub behind : List Size → List ℕ → List ℕ
behind [] bytes = bytes
behind (s ∷ sizes) bytes = behind sizes (drop (size_of s) bytes)

-- the numbers, and the values of the fields that follow them
abbrev pub in_front : (sizes : List Size) (d : Fields) → List ℕ → Value d → Value (numbers sizes d)
in_front [] d bytes v = v
in_front (s ∷ sizes) d bytes v = (number_at s bytes, in_front sizes d (drop (size_of s) bytes) v)

pub all_there : (sizes : List Size) (d : Fields) (bytes : List ℕ) → total sizes ≤ length bytes → read_fields (numbers sizes d) bytes ≡ map_read (in_front sizes d bytes) (read_fields d (behind sizes bytes))
unfolding read_fields read_field
all_there [] d bytes long = map_read_same (read_fields d bytes)
all_there (s ∷ sizes) d bytes long =
    let later = drop (size_of s) bytes in
    ap (λ r. then_read r (read_fields (numbers sizes d))) (number_read s bytes (omega arith))
    ∙ ap (map_read (λ v. (number_at s bytes, v))) (all_there sizes d later (omega (arith, length-drop (size_of s) bytes)))
    ∙ map_read_twice (in_front sizes d later) (λ v. (number_at s bytes, v)) (read_fields d (behind sizes later))

pub not_there : (sizes : List Size) (d : Fields) (bytes : List ℕ) → length bytes < total sizes → read_fields (numbers sizes d) bytes ≡ Err ShortBody
unfolding read_fields read_field
not_there [] d bytes short = absurd (omega arith)
not_there (s ∷ sizes) d bytes short =
    elim (cases_lt (length bytes) (size_of s)) [
      | inl cut ↦ ap (λ r. then_read r (read_fields (numbers sizes d))) (number_cut s bytes cut)
      | inr long ↦
          ap (λ r. then_read r (read_fields (numbers sizes d))) (number_read s bytes long)
          ∙ ap (map_read (λ v. (number_at s bytes, v))) (not_there sizes d (drop (size_of s) bytes) (omega (arith, length-drop (size_of s) bytes)))
    ]
