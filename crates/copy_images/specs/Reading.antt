-- The copy that bytes are the image of, found by reading them from left to right; replies are defined by it. The law
-- `reading_is_exact` says that it gives the content of which the bytes are the image, and else nothing.
use Rattle.std.specs.Prelude.{ℕ, zero, suc, ◌<◌, slice_index, ◌+◌, ◌-◌, ◌*◌, ◌==◌, ℤ, pos, ◌+ℤ◌, Bool, true, false, ◌&&◌, ◌||◌, is_some, int_le, int_lt, nat_le, unsigned_abs, List, [], ◌∷◌, length, take, drop, Option, Some, None, Result, Ok, Err, if◌then◌else◌}
use Rattle.std.specs.List.{list_all}
use Rattle.std.specs.Option.{option_map}
use Rattle.std.specs.Ordering.{int_eq}
use Rattle.std.specs.Int.{w32}
use Rattle.std.specs.Simd.{first_chunks}
use Rattle.checksum.specs.Crc.{crc_of}
use Rattle.batch_codec.specs.declared.error.BatchError.{BatchError}
use Rattle.batch_codec.specs.Values.{BatchValue}
use Rattle.batch_codec.specs.Fields.{unsigned_at, signed_at}
use Rattle.batch_codec.specs.Offsets.{first_offset, last_offset}
use Rattle.batch_codec.specs.Reading.{batch_of}
use Rattle.batch_codec.specs.Checks.{Checked, size_at, check_batch}
use Rattle.cover_ranges.specs.Runs.{Runs, has_all}
use Rattle.cover_ranges.specs.declared.TheConstants.{OFFSETS_END}
use Rattle.content.specs.Content.{Content}
use Rattle.partition_log.specs.Below.{content_of}
use Rattle.copy_images.specs.declared.layout.TheConstants.{MARK, VERSION, FIRST_VERSION, RANGE_SIZE, COUNT_SIZE, COUNTS_SIZE, CRC_SIZE, LEAST_SIZE}
use Rattle.copy_images.specs.Refusals.{version_in, start_in, body_in, range_count}
use Rattle.copy_images.specs.Judging.{ranges_of}

-- each number is a byte's
abbrev pub IsBytes : List ℕ → Type 0
IsBytes bytes = (i : ℕ) → slice_index bytes i < 256

-- ---- the front

-- the size, the mark, the version, the crc and the log start are as they should be, for bytes that begin with this mark and
-- are at least so many
abbrev pub has_front : (mark least : ℕ) → List ℕ → Bool
has_front mark least bytes =
    let end = length bytes - CRC_SIZE in
    nat_le least (length bytes)
    && (unsigned_at w32 0 bytes == mark
    && ((int_eq (version_in bytes) VERSION || int_eq (version_in bytes) FIRST_VERSION)
    && (unsigned_at w32 end bytes == crc_of (take end bytes)
    && (int_le (pos 0) (start_in bytes) && int_le (start_in bytes) OFFSETS_END))))

-- those of an image
abbrev pub has_frame : List ℕ → Bool
has_frame bytes = has_front MARK LEAST_SIZE bytes

-- maximal runs, the first of which starts at `low` or later
abbrev pub are_runs : (low : ℤ) → Runs → Bool
are_runs low [] = true
are_runs low (run ∷ runs) =
    int_le low run.0 && (int_le run.0 run.1 && (int_lt run.1 OFFSETS_END && are_runs (run.1 +ℤ pos 2) runs))

-- so many ranges
abbrev pub ranges_in : ℕ → (body : List ℕ) → Runs
ranges_in n body = ranges_of (first_chunks RANGE_SIZE n (take (RANGE_SIZE * n) (drop COUNT_SIZE body)))

-- the count of the batches, behind so many ranges
abbrev pub batch_count : ℕ → (body : List ℕ) → ℤ
batch_count n body = signed_at w32 (COUNT_SIZE + RANGE_SIZE * n) body

-- what lies behind that count
abbrev pub batch_bytes : ℕ → (body : List ℕ) → List ℕ
batch_bytes n body = drop (COUNTS_SIZE + RANGE_SIZE * n) body

-- ---- the batches

abbrev pub is_passed : Checked → Bool
is_passed (Ok u) = true
is_passed (Err e) = false

-- the batch has keys, comes behind what ends before `from`, and lies in the ranges
abbrev pub may_follow : Runs → (from : ℤ) → BatchValue → Bool
may_follow ranges from b =
    list_all (λ r. is_some r.key) b.recs
    && (int_le from (first_offset b) && has_all ranges (first_offset b) (last_offset b))

-- a batch that passes, and more of them
abbrev pub with_batch : BatchValue → Bool → Option (List BatchValue) → Option (List BatchValue)
with_batch b true more = option_map (λ bs. b ∷ bs) more
with_batch b false more = None

-- the batch at the front, where it has this size, and the others
abbrev pub sized_batches : Runs → (from : ℤ) → List ℕ → Result ℕ BatchError → (ℤ → List ℕ → Option (List BatchValue)) → Option (List BatchValue)
sized_batches ranges from bytes (Ok size) others =
    let b = batch_of (take size bytes) in
    with_batch b
    (is_passed (check_batch (take size bytes)) && may_follow ranges from b)
    (others (last_offset b +ℤ pos 1) (drop size bytes))
sized_batches ranges from bytes (Err e) others = None

-- so many batches, and nothing behind them
unfoldable pub batches_at : Runs → (count : ℕ) → (from : ℤ) → List ℕ → Option (List BatchValue)
batches_at ranges zero from bytes = if length bytes == 0 then Some [] else None
batches_at ranges (suc n) from bytes = sized_batches ranges from bytes (size_at bytes) (batches_at ranges n)

-- ---- the whole

-- the content of a body with so many ranges and batches
abbrev pub content_in : (start n count : ℤ) → (body : List ℕ) → Option Content
content_in start (pos n) (pos count) body =
    let ranges = ranges_in n body in
    if nat_le (COUNTS_SIZE + RANGE_SIZE * n) (length body) && are_runs start ranges
    then option_map (content_of start ranges) (batches_at ranges count (pos 0) (batch_bytes n body))
    else None
content_in start n count body = None

abbrev pub content_in_body : (start : ℤ) → (body : List ℕ) → Option Content
content_in_body start body =
    content_in start (range_count body) (batch_count (unsigned_abs (range_count body)) body) body

unfoldable pub image_at : List ℕ → Option Content
image_at bytes = if has_frame bytes then content_in_body (start_in bytes) (body_in bytes) else None
