-- Arrays as they lie in a frame.
use Rattle.std.specs.Prelude.{ℕ, zero, suc, List, [], ◌∷◌, Ok, Err}
use Rattle.frame_fields.specs.Fields.{Fields, Value}
use Rattle.frame_fields.specs.Reading.{At, read_fields}

-- how many elements, and bytes that begin with them
pub record ArrayBytes : Type 0 where
  pub count : ℕ
  pub bytes : List ℕ

abbrev pub first_and : {X : Type 0} → At X → (List ℕ → List X) → List X
first_and (Ok x) others = x.0 ∷ others x.1
first_and (Err e) others = []

-- so many elements, or those before the first fault
unfoldable pub elements_at : {X : Type 0} → (List ℕ → At X) → ℕ → List ℕ → List X
elements_at read zero bytes = []
elements_at read (suc n) bytes = first_and (read bytes) (elements_at read n)

-- the elements, each a value of the fields
abbrev pub values : (d : Fields) → ArrayBytes → List (Value d)
values d a = elements_at (read_fields d) a.count a.bytes
