-- What the table of a stream of batches is, from the bytes that come in to the bytes that go out.
use Rattle.std.specs.Prelude.{◌≡◌, ℕ, List, [], ◌++◌, Option, None, Some, ⊤}
use Rattle.std.specs.List.{flat_map}
use Rattle.std.specs.Io.KnownBytes.{Consumes, Appends}
use Rattle.batch_codec.specs.declared.error.BatchError.TheVariants.{Short}
use Rattle.batch_codec.specs.Refusals.{FirstFault}
use Rattle.batch_codec.specs.Values.{BatchValue}
use Rattle.batch_codec.specs.Grammar.{batch_encoding}
use Rattle.content.specs.Content.{Content, empty, shown_table}
use Rattle.content.specs.Deliveries.{delivered, AreAccepted}
use Rattle.content.specs.Table.{rows}
use Rattle.table_lines.specs.Lines.{lines}

-- batches end to end
abbrev pub stream : List BatchValue → List ℕ
stream bs = flat_map batch_encoding bs

-- a line for each key that has a value in what a copy holds, by rising key bytes
abbrev pub content_lines : Content → List ℕ
content_lines c = lines (rows (shown_table c))

-- the lines of a copy that the batches were delivered to, one after the other
abbrev pub table_lines : List BatchValue → List ℕ
table_lines bs = content_lines (delivered empty bs)

-- A reader had these bytes left, gave them all, and is at its end. Where its bytes are not known,
-- nothing is said.
abbrev pub ReadsAll : Option (List ℕ) → Option (List ℕ) → List ℕ → Type 0
ReadsAll None left' bytes = ⊤
ReadsAll (Some left) None bytes = ⊥
ReadsAll (Some left) (Some left') bytes = (left ≡ bytes) × (left' ≡ [])

-- A reader had the batches bs left, end to end, gave them all, and is at its end; a copy accepts each
-- of them, in the order in which they came.
abbrev pub ReadsLog : Option (List ℕ) → Option (List ℕ) → List BatchValue → Type 0
ReadsLog left left' bs = AreAccepted empty bs × ReadsAll left left' (stream bs)

-- A reader gave batches, each accepted by a copy that those before it were delivered to, and then some
-- bytes that are too few for one.
pub record ReadsPart (left left' : Option (List ℕ)) : Type 0 where
  pub batches : List BatchValue
  pub rest : List ℕ
  pub are_accepted : AreAccepted empty batches
  pub consumes : Consumes left left' (stream batches ++ rest)
  pub is_short : FirstFault Short rest

-- Batches were read to the reader's end, and the lines of their table were written.
pub record PrintsTable (left left' held held' : Option (List ℕ)) : Type 0 where
  pub batches : List BatchValue
  pub reads : ReadsLog left left' batches
  pub appends : Appends held held' (table_lines batches)
