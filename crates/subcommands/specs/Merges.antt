-- What merging two images does, from the bytes that come in to the bytes that go out.
use Rattle.std.specs.Prelude.{◌≡◌, ◌≢◌, ℕ, true, false, List, Option}
use Rattle.std.specs.Io.KnownBytes.{Consumes, Appends}
use Rattle.subcommands.specs.declared.merge_fault.MergeFault.{MergeFault}
use Rattle.subcommands.specs.declared.merge_fault.MergeFault.TheVariants as fault
use Rattle.subcommands.specs.Merging.{MergesImages, RefusesPair}
use Rattle.subcommands.specs.declared.error.ImagesError.{ImagesError}
use Rattle.subcommands.specs.declared.error.ImagesError.TheVariants.{Images, Read, Write, OutOfMemory}
use Rattle.streams.specs.State.{SourceState, SinkState, IsReadOut, TakesFront}
use Rattle.subcommands.specs.Tables.{ReadsAll}

-- What was read, to the reader's end, is two images, and what was written is that of their merge.
pub record PrintsMerge (left left' held held' : Option (List ℕ)) : Type 0 where
  pub input : List ℕ
  pub image : List ℕ
  pub reads : ReadsAll left left' input
  pub merges : MergesImages input image
  pub appends : Appends held held' image

-- What was read, to the reader's end, is refused as two images, and not out of memory.
abbrev pub RefusesImages : (left left' : Option (List ℕ)) → MergeFault → Type 0
RefusesImages left left' why =
    (input : List ℕ) × ReadsAll left left' input × RefusesPair input why × (why ≢ fault.OutOfMemory)

-- Why an image is not printed, or not all of it, or not flushed. Unless a write failed, the sink is as it was; and the source
-- has failed only where a read did.
abbrev pub FailsMerge : (source source' : SourceState) (sink sink' : SinkState) → ImagesError → Type 0
FailsMerge source source' sink sink' (Images why) =
    RefusesImages source.left source'.left why × (source'.failed ≡ false) × (sink' ≡ sink)
FailsMerge source source' sink sink' Read =
    ((input : List ℕ) × Consumes source.left source'.left input) × IsReadOut source source' × (sink' ≡ sink)
FailsMerge source source' sink sink' Write =
    ((input image : List ℕ) × ReadsAll source.left source'.left input × MergesImages input image
    × TakesFront sink.taken sink'.taken image) × (source'.failed ≡ false) × (sink'.failed ≡ true)
FailsMerge source source' sink sink' OutOfMemory = (source'.failed ≡ false) × (sink' ≡ sink)
