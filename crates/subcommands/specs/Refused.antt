-- What a refusal says of a stream: how many of its batches a copy took, and why it takes no more.
use Rattle.std.specs.Prelude.{◌≡◌, ◌≢◌, ℕ, ◌<◌, true, false, List, ◌++◌, length, Option}
use Rattle.std.specs.Io.KnownBytes.{Consumes}
use Rattle.batch_codec.specs.declared.error.BatchError.TheVariants.{Short}
use Rattle.batch_codec.specs.Values.{BatchValue}
use Rattle.batch_codec.specs.Grammar.{Writable, batch_encoding}
use Rattle.batch_codec.specs.Refusals.{FirstFault}
use Rattle.content.specs.declared.delivery.DeliverError.TheVariants as delivering
use Rattle.content.specs.Content.{Content, empty}
use Rattle.content.specs.Deliveries.{delivered, AreAccepted, Refuses}
use Rattle.subcommands.specs.declared.error.Refusal.{Refusal}
use Rattle.subcommands.specs.declared.error.Refusal.TheVariants.{View, Deliver}
use Rattle.subcommands.specs.declared.error.TableError.{TableError}
use Rattle.subcommands.specs.declared.error.TableError.TheVariants.{Batch, Read, Write, OutOfMemory}
use Rattle.streams.specs.State.{SourceState, SinkState, IsReadOut, TakesFront}
use Rattle.subcommands.specs.Tables.{stream, table_lines, ReadsAll, ReadsLog, ReadsPart}

-- ---- one batch

-- the bytes begin with no batch, or with one that the copy doesn't take
abbrev pub IsRefusedAs : Content → List ℕ → Refusal → Type 0
IsRefusedAs c next (View fault) = FirstFault fault next
IsRefusedAs c next (Deliver why) =
    (b : BatchValue) × (rest : List ℕ) × Writable b × (next ≡ batch_encoding b ++ rest)
    × Refuses c b why × (why ≢ delivering.OutOfMemory)

-- The bytes after `count` batches are refused, and would be whatever followed them.
pub record RefusesNext (c : Content) (count : ℕ) (next : List ℕ) (index : ℕ) (why : Refusal) : Type 0 where
  pub index_is : index ≡ count
  pub is_refused : IsRefusedAs c next why
  pub not_short : why ≢ View Short

-- ---- a stream

-- The reader gave as many batches as the index says, which are accepted, and then some bytes that are
-- refused. That they are too few is said only of all that the reader had.
pub record RefusesStream (left left' : Option (List ℕ)) (index : ℕ) (why : Refusal) : Type 0 where
  pub batches : List BatchValue
  pub next : List ℕ
  pub are_accepted : AreAccepted empty batches
  pub index_is : index ≡ length batches
  pub is_some : 0 < length next
  pub consumes : Consumes left left' (stream batches ++ next)
  pub is_refused : IsRefusedAs (delivered empty batches) next why
  pub short_at_end : why ≡ View Short → ReadsAll left left' (stream batches ++ next)

-- ---- answers

-- Why a table is not printed, or not all of it, or not flushed. Unless a write failed, the sink is as it was; and the source
-- has failed only where a read did.
abbrev pub FailsTable : (source source' : SourceState) (sink sink' : SinkState) → TableError → Type 0
FailsTable source source' sink sink' (Batch index why) =
    RefusesStream source.left source'.left index why × (source'.failed ≡ false) × (sink' ≡ sink)
FailsTable source source' sink sink' Read =
    ReadsPart source.left source'.left × IsReadOut source source' × (sink' ≡ sink)
FailsTable source source' sink sink' Write =
    ((batches : List BatchValue) × ReadsLog source.left source'.left batches
    × TakesFront sink.taken sink'.taken (table_lines batches)) × (source'.failed ≡ false) × (sink'.failed ≡ true)
FailsTable source source' sink sink' OutOfMemory = (source'.failed ≡ false) × (sink' ≡ sink)
