-- When a copy takes bytes as a delta, and why it doesn't.
use Rattle.std.specs.Prelude.{◌⊎◌, ℕ, List}
use Rattle.content.specs.Content.{Content}
use Rattle.deltas.specs.Deltas.{Delta}
use Rattle.deltas.specs.Accepting.{IsFor, HasUnknown, Accepts, IsFirstFault}
use Rattle.delta_bytes.specs.declared.error.RangesError.TheVariants as ranges
use Rattle.delta_bytes.specs.declared.error.EntriesError.TheVariants as entries
use Rattle.delta_bytes.specs.declared.error.BodyError.TheVariants.{InRanges, InEntries}
use Rattle.delta_bytes.specs.declared.error.FrontError.TheVariants as front
use Rattle.delta_bytes.specs.declared.error.DeltaError.TheVariants.{InFront, InBody}
use Rattle.delta_bytes.specs.Deltas.{IsDeltaOf}
use Rattle.delta_bytes.specs.Fronts.{Refuses}
use Rattle.copy_deltas.specs.declared.error.PatchError.{PatchError}
use Rattle.copy_deltas.specs.declared.error.PatchError.TheVariants.{Short, BadMark, BadVersion, BadCrc, BadCover, BadBatch, Outside, Extra, NotFor, Disagree, OutOfMemory}

-- the bytes are that delta, the copy knows all that was asked, and it may take it
pub record TakesDelta (c : Content) (bytes : List ℕ) (e : Delta) : Type 0 where
  pub is_delta : IsDeltaOf bytes e
  pub known : IsFor c e.asked
  pub accepted : Accepts c e

-- the first fault of bytes that are no delta, wherever it stands in them
abbrev pub BytesFault : List ℕ → PatchError → Type 0
BytesFault bytes Short = Refuses bytes (InFront front.Short) ⊎ Refuses bytes (InBody (InRanges ranges.Short))
BytesFault bytes BadMark = Refuses bytes (InFront front.BadMark)
BytesFault bytes BadVersion = Refuses bytes (InFront front.BadVersion)
BytesFault bytes BadCrc = Refuses bytes (InFront front.BadCrc)
BytesFault bytes BadCover = Refuses bytes (InFront front.BadStart) ⊎ Refuses bytes (InBody (InRanges ranges.BadCover))
BytesFault bytes (BadBatch i) = Refuses bytes (InBody (InEntries (entries.BadBatch i)))
BytesFault bytes Outside = Refuses bytes (InBody (InEntries entries.Outside))
BytesFault bytes Extra = Refuses bytes (InBody (InEntries entries.Extra))
BytesFault bytes NotFor = ⊥
BytesFault bytes (Disagree base) = ⊥
BytesFault bytes OutOfMemory = ⊥

-- The copy does not take the bytes: they are no delta, and this is their first fault; or they are one, and an offset was
-- asked that is not known; or all is, and this is the least base at which the copy may not take it. Bytes that it may take
-- are refused only for lack of memory.
abbrev pub RefusesDelta : Content → List ℕ → PatchError → Type 0
RefusesDelta c bytes NotFor = (e : Delta) × IsDeltaOf bytes e × HasUnknown c e.asked
RefusesDelta c bytes (Disagree base) = (e : Delta) × IsDeltaOf bytes e × IsFor c e.asked × IsFirstFault c e base
RefusesDelta c bytes OutOfMemory = (e : Delta) × TakesDelta c bytes e
RefusesDelta c bytes fault = BytesFault bytes fault
