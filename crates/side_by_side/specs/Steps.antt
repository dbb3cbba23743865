-- A copy's batches and the entries that it is told side by side, by rising base offset.
use Rattle.std.specs.Prelude.{ℕ, ℤ, ◌≤ℤ◌, int_lt, Bool, true, false, List, [], ◌∷◌, Option, Some, None, if◌then◌else◌}
use Rattle.batch_codec.specs.Values.{BatchValue}
use Rattle.batch_codec.specs.Offsets.{first_offset, last_offset}
use Rattle.cover_ranges.specs.Runs.{Runs, covers}
use Rattle.cover_ranges.specs.declared.TheConstants.{OFFSETS_END}
use Rattle.content.specs.Records.{with_common_records}
use Rattle.content.specs.Content.{IsInRange}
use Rattle.deltas.specs.Entries.{Entry, entry_base}
use Rattle.deltas.specs.Entries.Entry.{Listed, Sent}
use Rattle.deltas.specs.Patches.{with_listed}
use Rattle.delta_bytes.specs.EntryViews.{IsValidEntry, entry_of}
use Rattle.side_by_side.specs.declared.next.Next.{Next}
use Rattle.side_by_side.specs.declared.next.Next.TheVariants as next

-- nothing, a batch that the copy keeps, an entry that it is told, or one of each with one base offset
pub data Step : Type 0 where
  Done : Step
  Kept : BatchValue → Step
  Told : Entry → Step
  Both : BatchValue → Entry → Step

-- which of a batch and an entry comes next: the one of the lesser base offset, or both
abbrev pub next_by : Option BatchValue → Option Entry → Step
next_by None None = Done
next_by (Some x) None = Kept x
next_by None (Some e) = Told e
next_by (Some x) (Some e) =
    if int_lt (first_offset x) (entry_base e) then Kept x
    else if int_lt (entry_base e) (first_offset x) then Told e
    else Both x e

abbrev pub first_batch : List BatchValue → Option BatchValue
first_batch [] = None
first_batch (x ∷ xs) = Some x

abbrev pub first_entry : List Entry → Option Entry
first_entry [] = None
first_entry (e ∷ es) = Some e

-- what comes next of two lists
abbrev pub next_of : List BatchValue → List Entry → Step
next_of xs es = next_by (first_batch xs) (first_entry es)

-- the base offset of what comes next; the end of all offsets where nothing does
abbrev pub base_of : Step → ℤ
base_of Done = OFFSETS_END
base_of (Kept x) = first_offset x
base_of (Told e) = entry_base e
base_of (Both x e) = first_offset x

abbrev pub kept_of : Step → Option BatchValue
kept_of Done = None
kept_of (Kept x) = Some x
kept_of (Told e) = None
kept_of (Both x e) = Some x

abbrev pub told_of : Step → Option Entry
told_of Done = None
told_of (Kept x) = None
told_of (Told e) = Some e
told_of (Both x e) = Some e

-- what is left, from the later start on, of what comes next, where these offsets were seen
abbrev pub left_over : (copy sender : Runs) → Step → Option BatchValue
left_over copy sender Done = None
left_over copy sender (Kept x) = if covers sender (first_offset x) then None else Some x
left_over copy sender (Told (Listed base offsets)) = None
left_over copy sender (Told (Sent b)) = if covers copy (first_offset b) then None else Some b
left_over copy sender (Both x (Listed base offsets)) = Some (with_listed offsets x)
left_over copy sender (Both x (Sent b)) = Some (with_common_records x b)

-- what is left of what comes next: of what begins below the later start, nothing
abbrev pub patched_next : (start : ℤ) → (copy sender : Runs) → Step → Option BatchValue
patched_next start copy sender step = if int_lt (base_of step) start then None else left_over copy sender step

-- ---- as the code has them

abbrev pub is_done : Step → Bool
is_done Done = true
is_done (Kept x) = false
is_done (Told e) = false
is_done (Both x e) = false

-- how many batches and how many entries these are
abbrev pub taken_kept : Step → ℕ
taken_kept Done = 0
taken_kept (Kept x) = 1
taken_kept (Told e) = 0
taken_kept (Both x e) = 1

abbrev pub taken_told : Step → ℕ
taken_told Done = 0
taken_told (Kept x) = 0
taken_told (Told e) = 1
taken_told (Both x e) = 1

-- the step whose parts are borrowed
abbrev pub step_of : Next → Step
step_of next.Done = Done
step_of (next.Kept x) = Kept x
step_of (next.Told e) = Told (entry_of e)
step_of (next.Both x e) = Both x (entry_of e)

-- the batch has a span within the offsets, and the entry is valid
abbrev pub HasSpan : BatchValue → Type 0
HasSpan x = IsInRange x × (first_offset x ≤ℤ last_offset x)

abbrev pub IsSound : Step → Type 0
IsSound Done = Unit {0}
IsSound (Kept x) = HasSpan x
IsSound (Told e) = IsValidEntry e
IsSound (Both x e) = HasSpan x × IsValidEntry e
