-- What is known of how far a copy of a partition was cleaned. Kafka's design documentation, "Log Compaction": a cleaner
-- builds a map of the keys in the head of a log, and copies the log by it from the beginning.
use Rattle.std.specs.Prelude.{◌≡◌, ℕ, ℤ, ◌<ℤ◌, ◌&&◌, ◌||◌, Bool, int_le, List, Option, Some, None, if◌then◌else◌}
use Rattle.std.specs.Int.{int_min, int_max}
use Rattle.std.specs.List.{AllByRecursion}
use Rattle.content.specs.declared.part.CleaningPart.{CleaningPart}
use Rattle.content.specs.Records.{log_records}
use Rattle.content.specs.Content.{Content}
use Rattle.content.specs.Cleaning.{is_superseded}
use Rattle.swept_contents.specs.Swept.{IsSwept, IsSettled, is_before}
use Rattle.newest_keys.specs.Newest.{Newest, no_keys}
use Rattle.newest_keys.specs.Shards.{Shards, newest_in}
use Rattle.cleaning_progress.specs.declared.marks.Marks.{Marks}

-- ---- the newest keys of what is dirty

-- what a map has at each key; without a map there is nothing
abbrev pub newest_of : Option Shards → Newest
newest_of None = no_keys
newest_of (Some shards) = newest_in shards

-- what it has at a record's key
abbrev pub found : Newest → Option (List ℕ) → Option ℤ
found newest None = None
found newest (Some key) = newest key

-- it tells of each record that is kept whether one of a batch that lies wholly below the bound supersedes it
abbrev pub Tells : Newest → ℤ → Content → Type 0
Tells newest bound c =
    AllByRecursion (λ x. is_superseded c bound x ≡ is_before x.0 (found newest x.1.key)) (log_records c.kept)

-- it has offsets below the bound alone
abbrev pub LieBelow : Newest → ℤ → Type 0
LieBelow newest bound = (key : List ℕ) (o : ℤ) → newest key ≡ Some o → o <ℤ bound

-- ---- what is known

-- The copy is settled below one mark, and swept below another one for a third one. Of the records below `known_to` the
-- newest of each key is known, as far as it supersedes one that is kept.
pub record Known : Type 0 where
  pub marks : Marks
  pub known_to : ℤ
  pub newest : Option Shards

-- what is known is so
pub record IsKnownOf (c : Content) (k : Known) : Type 0 where
  pub settled : IsSettled k.marks.settled c
  pub swept : IsSwept k.marks.swept k.marks.swept_for c
  pub tells : Tells (newest_of k.newest) k.known_to c
  pub below : LieBelow (newest_of k.newest) k.known_to

-- ---- marks

abbrev pub first_marks : ℤ → Marks
first_marks start = record { settled = start; swept = start; swept_for = start }

-- none is above an offset
abbrev pub marks_below : ℤ → Marks → Marks
marks_below o m = record {
  settled = int_min m.settled o;
  swept = int_min m.swept o;
  swept_for = int_min m.swept_for o;
}

-- whether the copy is swept up to the part for its bound
abbrev pub are_swept : CleaningPart → Marks → Bool
are_swept p m = int_le p.from m.swept && int_le p.upto m.swept_for

-- a part sweeps on, and settles the copy where it is the last one
abbrev pub marks_swept : CleaningPart → Marks → Marks
marks_swept p m = record {
  settled = if int_le p.upto p.to then int_max m.settled p.upto else m.settled;
  swept = p.to;
  swept_for = p.upto;
}

-- behind a part, of a copy with this start; whether it sweeps on depends on where it begins, and on whether a batch lies
-- across its end
abbrev pub marks_after : CleaningPart → (start : ℤ) → (is_clear : Bool) → Marks → Marks
marks_after p start is_clear m =
    if is_clear && (int_le p.from start || are_swept p m) then marks_swept p m else m

-- ---- what is known, as a copy changes

-- of a copy with this start
abbrev pub first_known : ℤ → Known
first_known start = record { marks = first_marks start; known_to = start; newest = None }

-- the map goes
abbrev pub without_keys : Known → Known
without_keys k = record k { known_to = k.marks.settled; newest = None }

-- the same keys are known, up to the same offset
abbrev pub HasKeysOf : (old new : Known) → Type 0
HasKeysOf old new = (new.known_to ≡ old.known_to) × (new.newest ≡ old.newest)
