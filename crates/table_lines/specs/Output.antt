-- What writing does to the bytes that a writer holds, and to those that wait in a buffer before it.
use Rattle.std.specs.Prelude.{◌≡◌, ℕ, List, ◌++◌, Option}
use Rattle.std.specs.Io.KnownBytes.{Appends}

-- More bytes came behind those that waited, and a front of all these went to the writer.
pub record Sends (held held' : Option (List ℕ)) (waited waiting more : List ℕ) : Type 0 where
  pub sent : List ℕ
  pub appends : Appends held held' sent
  pub waits : sent ++ waiting ≡ waited ++ more

-- All of these bytes but those that are left came behind those that waited.
pub record SendsAllBut (held held' : Option (List ℕ)) (waited waiting left all : List ℕ) : Type 0 where
  pub more : List ℕ
  pub sends : Sends held held' waited waiting more
  pub parts : all ≡ more ++ left
