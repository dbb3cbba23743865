-- What a table or a merge came to, by the status that is answered: 0 done, 1 the input is refused, 3 out of memory, 4 a read
-- or a write failed. Where there was no memory to look at the arguments, nothing was read.
use Rattle.std.specs.Prelude.{◌≡◌, ◌≢◌, ◌⊎◌, ℕ}
use Rattle.subcommands.specs.declared.merge_fault.MergeFault.{MergeFault}
use Rattle.streams.specs.State.{SourceState, SinkState}
use Rattle.subcommands.specs.declared.error.Refusal.{Refusal}
use Rattle.subcommands.specs.declared.error.TableError.TheVariants as table
use Rattle.subcommands.specs.declared.error.ImagesError.TheVariants as images
use Rattle.subcommands.specs.Ends.{HasFailedNone, IsUntouched}
use Rattle.subcommands.specs.Tables.{PrintsTable}
use Rattle.subcommands.specs.Refused.{FailsTable}
use Rattle.subcommands.specs.Merges.{PrintsMerge, FailsMerge}

-- The table was asked for.
pub record RunsTable (source source' : SourceState) (sink sink' : SinkState) (status : ℕ) : Type 0 where
  pub is_no_fault : status ≢ 2
  pub prints_table : status ≡ 0 → PrintsTable source.left source'.left sink.taken sink'.taken
  pub fails_nothing : status ≡ 0 → HasFailedNone source' sink'
  pub has_first_refused :
      status ≡ 1 → (index : ℕ) × (why : Refusal) × FailsTable source source' sink sink' (table.Batch index why)
  pub out_of_memory : status ≡ 3
      → IsUntouched source source' sink sink' ⊎ FailsTable source source' sink sink' table.OutOfMemory
  pub fails : status ≡ 4
      → FailsTable source source' sink sink' table.Read ⊎ FailsTable source source' sink sink' table.Write

-- A merge of two images was asked for.
pub record RunsMerge (source source' : SourceState) (sink sink' : SinkState) (status : ℕ) : Type 0 where
  pub is_no_fault : status ≢ 2
  pub prints_the_merge : status ≡ 0 → PrintsMerge source.left source'.left sink.taken sink'.taken
  pub fails_nothing : status ≡ 0 → HasFailedNone source' sink'
  pub has_a_first_fault :
      status ≡ 1 → (why : MergeFault) × FailsMerge source source' sink sink' (images.Images why)
  pub out_of_memory : status ≡ 3
      → IsUntouched source source' sink sink' ⊎ FailsMerge source source' sink sink' images.OutOfMemory
  pub fails : status ≡ 4
      → FailsMerge source source' sink sink' images.Read ⊎ FailsMerge source source' sink sink' images.Write
