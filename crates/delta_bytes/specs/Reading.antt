-- The delta that bytes are, found by reading them from left to right; replies are defined by it. The law on
-- `reading_is_exact` says that it gives the delta of which the bytes are an encoding, and else nothing.
use Rattle.std.specs.Prelude.{ℕ, zero, suc, ◌+◌, ◌*◌, ◌==◌, ℤ, pos, negsuc, ◌+ℤ◌, Bool, true, ◌&&◌, not, is_some, int_le, int_lt, nat_le, List, [], ◌∷◌, length, take, drop, Option, Some, None, Result, Ok, Err, if◌then◌else◌}
use Rattle.std.specs.List.{list_all}
use Rattle.std.specs.Option.{option_map, option_and_then}
use Rattle.std.specs.Int.{w32, w64}
use Rattle.std.specs.Simd.{first_chunks}
use Rattle.batch_codec.specs.declared.error.BatchError.{BatchError}
use Rattle.batch_codec.specs.Fields.{signed_at}
use Rattle.batch_codec.specs.Offsets.{first_offset, last_offset}
use Rattle.batch_codec.specs.Reading.{batch_of}
use Rattle.batch_codec.specs.Checks.{size_at, check_batch}
use Rattle.cover_ranges.specs.Runs.{Runs, covers, has_all}
use Rattle.cover_ranges.specs.declared.TheConstants.{OFFSETS_END}
use Rattle.copy_images.specs.declared.layout.TheConstants.{RANGE_SIZE, COUNT_SIZE}
use Rattle.copy_images.specs.Refusals.{start_in, body_in}
use Rattle.copy_images.specs.Reading.{has_front, are_runs, ranges_in, is_passed}
use Rattle.deltas.specs.declared.TheConstants.{LEAST_BASE}
use Rattle.deltas.specs.Entries.{Entry, entry_last}
use Rattle.deltas.specs.Entries.Entry.{Listed, Sent}
use Rattle.deltas.specs.Deltas.{Delta, covers_any}
use Rattle.delta_bytes.specs.declared.layout.TheConstants.{MARK, LEAST_SIZE, LISTED, SENT, OFFSET_SIZE, COUNT_AT, OFFSETS_AT}
use Rattle.delta_bytes.specs.RangeLists.{count_in}
use Rattle.delta_bytes.specs.Deltas.{delta_with}
use Rattle.delta_bytes.specs.Judging.{offsets_of}

-- what is read at the front, and the bytes behind it
abbrev pub Read : Type 0 → Type 0
Read X = Option (X × List ℕ)

-- ---- the front

-- the size, the mark, the version, the crc and the log start are those of a delta
abbrev pub has_frame : List ℕ → Bool
has_frame bytes = has_front MARK LEAST_SIZE bytes

-- ---- the ranges

-- so many ranges behind their count, maximal from `low` on, and so many bytes at least behind them
abbrev pub counted_ranges : (low : ℤ) (behind : ℕ) → List ℕ → (count : ℤ) → Read Runs
counted_ranges low behind bytes (pos n) =
    if nat_le (COUNT_SIZE + RANGE_SIZE * n + behind) (length bytes) && are_runs low (ranges_in n bytes)
    then Some (ranges_in n bytes, drop (RANGE_SIZE * n) (drop COUNT_SIZE bytes))
    else None
counted_ranges low behind bytes (negsuc n) = None

abbrev pub ranges_at : (low : ℤ) (behind : ℕ) → List ℕ → Read Runs
ranges_at low behind bytes = counted_ranges low behind bytes (count_in bytes)

-- ---- the entries

-- a list of so many offsets
abbrev pub counted_list : List ℕ → (count : ℤ) → Read Entry
counted_list bytes (pos n) =
    let behind = drop OFFSETS_AT bytes in
    if nat_le (OFFSETS_AT + OFFSET_SIZE * n) (length bytes)
    then Some (
      Listed (signed_at w64 0 bytes) (offsets_of (first_chunks OFFSET_SIZE n (take (OFFSET_SIZE * n) behind))),
      drop (OFFSET_SIZE * n) behind,
    )
    else None
counted_list bytes (negsuc n) = None

-- a batch of this size
abbrev pub sized_batch : List ℕ → Result ℕ BatchError → Read Entry
sized_batch bytes (Ok size) =
    if is_passed (check_batch (take size bytes)) then Some (Sent (batch_of (take size bytes)), drop size bytes) else None
sized_batch bytes (Err e) = None

abbrev pub entry_at : List ℕ → Read Entry
entry_at [] = None
entry_at (kind ∷ bytes) =
    if kind == LISTED then counted_list bytes (signed_at w32 COUNT_AT bytes)
    else if kind == SENT then sized_batch bytes (size_at bytes)
    else None

-- offsets that rise, the first of them from `low` on
abbrev pub rises : (low : ℤ) → List ℤ → Bool
rises low [] = true
rises low (o ∷ os) = int_le low o && rises (o +ℤ pos 1) os

-- the entry may follow others that end before `low`
abbrev pub may_follow : (low : ℤ) → Entry → Bool
may_follow low (Listed base offsets) = int_le low base && rises base offsets
may_follow low (Sent b) =
    int_le low (first_offset b)
    && (list_all (λ r. is_some r.key) b.recs
    && (int_le (pos 0) (first_offset b) && int_lt (last_offset b) OFFSETS_END))

-- the sender has seen what it tells of, and nothing of it was asked for where it is sent
abbrev pub lies_within : (runs asked : Runs) → Entry → Bool
lies_within runs asked (Listed base offsets) = covers runs base && list_all (covers runs) offsets
lies_within runs asked (Sent b) =
    has_all runs (first_offset b) (last_offset b) && not (covers_any asked (first_offset b) (last_offset b))

-- a valid entry, and the others
abbrev pub with_entry : (runs asked : Runs) (low : ℤ) → Read Entry → (ℤ → List ℕ → Option (List Entry)) → Option (List Entry)
with_entry runs asked low (Some (x, rest)) others =
    if may_follow low x && lies_within runs asked x
    then option_map (λ xs. x ∷ xs) (others (entry_last x +ℤ pos 1) rest)
    else None
with_entry runs asked low None others = None

-- so many entries, and nothing behind them
unfoldable pub entries_at : (runs asked : Runs) (count : ℕ) (low : ℤ) → List ℕ → Option (List Entry)
entries_at runs asked zero low bytes = if length bytes == 0 then Some [] else None
entries_at runs asked (suc n) low bytes = with_entry runs asked low (entry_at bytes) (entries_at runs asked n)

abbrev pub counted_entries : (runs asked : Runs) → List ℕ → (count : ℤ) → Option (List Entry)
counted_entries runs asked bytes (pos n) = entries_at runs asked n LEAST_BASE (drop COUNT_SIZE bytes)
counted_entries runs asked bytes (negsuc n) = None

-- ---- the whole

-- the delta of the sender's ranges, and of what stands behind them
abbrev pub delta_of_ranges : (start : ℤ) → Runs × List ℕ → Option Delta
delta_of_ranges start cover =
    option_and_then
    (λ asked. option_map (delta_with start cover.0 asked.0) (counted_entries cover.0 asked.0 asked.1 (count_in asked.1)))
    (ranges_at (pos 0) COUNT_SIZE cover.1)

abbrev pub delta_in_body : (start : ℤ) → (body : List ℕ) → Option Delta
delta_in_body start body = option_and_then (delta_of_ranges start) (ranges_at start 0 body)

unfoldable pub delta_at : List ℕ → Option Delta
delta_at bytes = if has_frame bytes then delta_in_body (start_in bytes) (body_in bytes) else None
