-- What is known of a source and of a sink, and what their calls do to it.
use Rattle.std.specs.Prelude.{◌≡◌, ◌⊎◌, ℕ, ◌+◌, ◌-◌, ◌^◌, ◌<◌, min, Bool, true, false, List, [], ◌++◌, length, Option}
use Rattle.std.specs.Io.KnownBytes.{Consumes, Keeps, Appends, IsAtEnd}
use Rattle.streams.specs.declared.failed.FillError.{FillError}
use Rattle.streams.specs.declared.failed.FillError.TheVariants.{Read, OutOfMemory}

-- What a source's reader has left to give, where that is known, how many reads were made, and whether one has failed.
pub record SourceState : Type 0 where
  pub left : Option (List ℕ)
  pub reads : ℕ
  pub failed : Bool

-- how many reads were made after so many more were asked for: none is made beyond 2^64 - 1
abbrev pub counted : (reads more : ℕ) → ℕ
counted reads more = reads + min more (2 ^ 64 - 1 - reads)

-- What a sink's writer has taken, where that is known, and whether a write has failed.
pub record SinkState : Type 0 where
  pub taken : Option (List ℕ)
  pub failed : Bool

-- So many bytes left a reader, and stand behind those that a buffer held.
pub record MovesPiece (left left' : Option (List ℕ)) (held held' : List ℕ) (count : ℕ) : Type 0 where
  pub piece : List ℕ
  pub count_is : length piece ≡ count
  pub consumes : Consumes left left' piece
  pub appends : held' ≡ held ++ piece

-- one read was made, and it didn't fail
abbrev pub ReadsOnce : (source source' : SourceState) → Type 0
ReadsOnce source source' = (source'.reads ≡ source.reads + 1) × (source'.failed ≡ false)

-- some bytes left the source, and stand behind those that were held
abbrev pub ReadsMore : (source source' : SourceState) (held held' : List ℕ) → Type 0
ReadsMore source source' held held' =
    ((count : ℕ) × MovesPiece source.left source'.left held held' count) × (length held < length held')

-- the source is at its end, and what is held stays
abbrev pub ReadsEnd : (source source' : SourceState) (held held' : List ℕ) → Type 0
ReadsEnd source source' held held' =
    Consumes source.left source'.left [] × IsAtEnd source'.left × (held' ≡ held)

-- why no read was made, or the one that was made gave nothing
abbrev pub StopsFilling : (source source' : SourceState) → FillError → Type 0
StopsFilling source source' Read = Keeps source.left source'.left × (source'.failed ≡ true)
StopsFilling source source' OutOfMemory = (source' ≡ source) × (source'.failed ≡ false)

-- the source has failed, or 2^32 reads of it were made
abbrev pub IsReadOut : (source source' : SourceState) → Type 0
IsReadOut source source' = (source'.failed ≡ true) ⊎ (source'.reads ≡ source.reads + 2 ^ 32)

-- A writer took the front of some bytes, all but the rest of them.
pub record TakesAllBut (taken taken' : Option (List ℕ)) (rest bytes : List ℕ) : Type 0 where
  pub front : List ℕ
  pub parts : bytes ≡ front ++ rest
  pub appends : Appends taken taken' front

-- A writer took the front of some bytes, and the rest is lost, at least one byte.
abbrev pub LosesRest : Option (List ℕ) → Option (List ℕ) → List ℕ → Type 0
LosesRest taken taken' bytes =
    (lost : List ℕ) × (0 < length lost) × TakesAllBut taken taken' lost bytes

-- a writer took a front of some bytes, perhaps all
abbrev pub TakesFront : Option (List ℕ) → Option (List ℕ) → List ℕ → Type 0
TakesFront taken taken' bytes = (rest : List ℕ) × TakesAllBut taken taken' rest bytes
