-- What copying does to what a source has left, and to what a sink has taken.
use Rattle.std.specs.Prelude.{ℕ, List, Option}
use Rattle.std.specs.Io.KnownBytes.{Consumes, Appends}

-- The bytes that left the reader are the ones that the writer took.
pub record Moves (left left' taken taken' : Option (List ℕ)) : Type 0 where
  pub bytes : List ℕ
  pub consumes : Consumes left left' bytes
  pub appends : Appends taken taken' bytes
