-- What reading does to the copy that batches are delivered to. Words of private clauses.
use Rattle.std.specs.Prelude.{◌≡◌, ℕ, ◌+◌, List, ◌++◌, length, ⊤}
use Rattle.std.specs.Io.KnownBytes.{Consumes}
use Rattle.std.specs.declared.option.Option.{Option}
use Rattle.std.specs.Prelude.{None, Some, true, false}
use Rattle.batch_codec.specs.declared.error.BatchError.TheVariants.{Short}
use Rattle.batch_codec.specs.Values.{BatchValue}
use Rattle.batch_codec.specs.Grammar.{batch_encoding}
use Rattle.batch_codec.specs.Refusals.{FirstFault}
use Rattle.content.specs.Content.{Content, empty, add}
use Rattle.content.specs.Deliveries.{IsAccepted, delivered, AreAccepted}
use Rattle.streams.specs.State.{SourceState, SinkState, IsReadOut, TakesFront}
use Rattle.subcommands.specs.declared.error.TableError.{TableError}
use Rattle.subcommands.specs.declared.error.TableError.TheVariants.{Batch, Read, Write, OutOfMemory}
use Rattle.subcommands.specs.declared.error.ImagesError.{ImagesError}
use Rattle.subcommands.specs.declared.error.ImagesError.TheVariants as images
use Rattle.subcommands.specs.Tables.{stream, content_lines, ReadsLog, ReadsPart}
use Rattle.subcommands.specs.Refused.{RefusesNext, RefusesStream}

-- ---- batches

-- the batch at the front of the bytes, of that size, was delivered to the copy; or none stands there
abbrev pub DeliversNext : List ℕ → Option ℕ → Content → Content → ℕ → ℕ → Type 0
DeliversNext bytes None c c' count count' = FirstFault Short bytes × (c' ≡ c) × (count' ≡ count)
DeliversNext bytes (Some size) c c' count count' =
    (b : BatchValue) × (rest : List ℕ) × (bytes ≡ batch_encoding b ++ rest)
    × (size ≡ length (batch_encoding b)) × IsAccepted c b × (c' ≡ add c b) × (count' ≡ count + 1)

-- batches stood at the front of the bytes that waited, and were delivered to the copy
pub record TakesBatches (waiting waiting' : List ℕ) (c c' : Content) (count count' : ℕ) : Type 0 where
  pub batches : List BatchValue
  pub encoded : waiting ≡ stream batches ++ waiting'
  pub are_accepted : AreAccepted c batches
  pub delivers : c' ≡ delivered c batches
  pub counts : count' ≡ count + length batches

-- why the batch at the front of the bytes isn't taken, after so many
abbrev pub StopsBatch : Content → ℕ → List ℕ → TableError → Type 0
StopsBatch c count bytes (Batch index why) = RefusesNext c count bytes index why
StopsBatch c count bytes OutOfMemory = ⊤
StopsBatch c count bytes _ = ⊥

-- ---- the input

-- what a reader gave is batches, which were delivered to the copy, and the bytes that wait
pub record HasTaken (left left' : Option (List ℕ)) (c : Content) (count : ℕ) (waiting : List ℕ) : Type 0 where
  pub batches : List BatchValue
  pub are_accepted : AreAccepted empty batches
  pub delivers : c ≡ delivered empty batches
  pub counts : count ≡ length batches
  pub consumes : Consumes left left' (stream batches ++ waiting)

-- so many reads were made, all that they gave was taken, and the bytes that wait are too few for a batch
pub record Takes (source source' : SourceState) (c : Content) (count : ℕ) (waiting : List ℕ) (reads : ℕ) : Type 0 where
  pub taken : HasTaken source.left source'.left c count waiting
  pub is_short : FirstFault Short waiting
  pub counts : source'.reads ≡ source.reads + reads

-- what a reader had is batches, and the copy is what comes of delivering them
pub record ReadsCopy (left left' : Option (List ℕ)) (c : Content) : Type 0 where
  pub batches : List BatchValue
  pub reads : ReadsLog left left' batches
  pub delivers : c ≡ delivered empty batches

-- why the input isn't taken to its end
abbrev pub StopsIntake : (source source' : SourceState) → TableError → Type 0
StopsIntake source source' (Batch index why) = RefusesStream source.left source'.left index why × (source'.failed ≡ false)
StopsIntake source source' Read = ReadsPart source.left source'.left × IsReadOut source source'
StopsIntake source source' OutOfMemory = source'.failed ≡ false
StopsIntake source source' Write = ⊥

-- ---- the output

-- why the table of what a copy holds isn't printed
abbrev pub StopsPrinting : Content → (sink sink' : SinkState) → TableError → Type 0
StopsPrinting c sink sink' Write = (sink'.failed ≡ true) × TakesFront sink.taken sink'.taken (content_lines c)
StopsPrinting c sink sink' OutOfMemory = sink' ≡ sink
StopsPrinting c sink sink' _ = ⊥

-- ---- images

-- so many reads were made, and what they gave waits
pub record Holds (source source' : SourceState) (waiting : List ℕ) (reads : ℕ) : Type 0 where
  pub consumes : Consumes source.left source'.left waiting
  pub counts : source'.reads ≡ source.reads + reads

-- why the input isn't read to its end
abbrev pub StopsImages : (source source' : SourceState) → ImagesError → Type 0
StopsImages source source' images.Read = ((input : List ℕ) × Consumes source.left source'.left input) × IsReadOut source source'
StopsImages source source' images.OutOfMemory = source'.failed ≡ false
StopsImages source source' _ = ⊥

-- an image isn't printed, or not all of it
abbrev pub CutsImage : List ℕ → (sink sink' : SinkState) → ImagesError → Type 0
CutsImage image sink sink' images.Write = (sink'.failed ≡ true) × TakesFront sink.taken sink'.taken image
CutsImage image sink sink' _ = ⊥
