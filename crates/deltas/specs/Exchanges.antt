-- What may happen to a copy of a log between its question and the answer.
use Rattle.std.specs.Prelude.{◌≡◌, ℤ, List, [], ◌∷◌, Some}
use Rattle.std.specs.List.{fold}
use Rattle.batch_codec.specs.Values.{BatchValue}
use Rattle.batch_codec.specs.Offsets.{first_offset}
use Rattle.cover_ranges.specs.Runs.{Runs, IsCanonical}
use Rattle.content.specs.declared.part.CleaningPart.{CleaningPart}
use Rattle.content.specs.ByOffset.{look_up}
use Rattle.content.specs.Content.{Content, IsContent, IsAcceptedStart, add, cut}
use Rattle.content.specs.Cleaning.{clean}
use Rattle.content.specs.Parts.{clean_part}
use Rattle.content.specs.Joins.{join}
use Rattle.content.specs.Copies.{IsCopy}
use Rattle.deltas.specs.Deltas.{delta_of}
use Rattle.deltas.specs.Patches.{patch}
use Rattle.deltas.specs.Accepting.{IsFor}

-- a valid content that is a copy of the log
abbrev pub IsContentOf : List BatchValue → Content → Type 0
IsContentOf log c = IsContent c × IsCopy c log

pub data Event : Type 0 where
  -- a batch is delivered
  Delivered : BatchValue → Event
  -- a cleaning with these two bounds
  Cleaned : ℤ → ℤ → Event
  -- a part of a cleaning
  CleanedPart : CleaningPart → Event
  -- the start moves
  Trimmed : ℤ → Event
  -- another copy is merged into this one
  Merged : Content → Event
  -- this copy is merged into another one, and takes the outcome
  MergedInto : Content → Event
  -- another copy's delta is taken, for what was asked
  Patched : Content → Runs → Event

abbrev pub after : Content → Event → Content
after c (Delivered b) = add c b
after c (Cleaned upto tomb_before) = clean upto tomb_before c
after c (CleanedPart p) = clean_part p c
after c (Trimmed start) = cut start c
after c (Merged other) = join c other
after c (MergedInto other) = join other c
after c (Patched other asked) = patch c (delta_of other asked)

-- The event comes of the one log: its batches, and other copies of it.
abbrev pub MayHappen : List BatchValue → Content → Event → Type 0
MayHappen log c (Delivered b) = look_up first_offset (first_offset b) log ≡ Some b
MayHappen log c (Cleaned upto tomb_before) = Unit {0}
MayHappen log c (CleanedPart p) = Unit {0}
MayHappen log c (Trimmed start) = IsAcceptedStart c start
MayHappen log c (Merged other) = IsContentOf log other
MayHappen log c (MergedInto other) = IsContentOf log other
MayHappen log c (Patched other asked) = IsContentOf log other × IsCanonical asked × IsFor c asked

-- the copy after one event after another
abbrev pub after_all : Content → List Event → Content
after_all c events = fold after c events

abbrev pub MayAllHappen : List BatchValue → Content → List Event → Type 0
MayAllHappen log c [] = Unit {0}
MayAllHappen log c (event ∷ events) = MayHappen log c event × MayAllHappen log (after c event) events
