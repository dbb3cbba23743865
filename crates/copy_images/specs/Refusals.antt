-- Why bytes are no image: the first fault, in the order of the checks. Each fault stands in the bytes while all
-- earlier checks hold of them.
use Rattle.std.specs.Prelude.{◌≡◌, ◌≢◌, ℕ, ◌+◌, ◌-◌, ◌*◌, ◌<◌, ◌≤◌, ◌⊎◌, ℤ, pos, ◌+ℤ◌, ◌≤ℤ◌, ◌<ℤ◌, Bool, List, ◌++◌, length, take, drop, unsigned_abs, FitsSigned, if◌then◌else◌}
use Rattle.std.specs.List.{AllByRecursion, flat_map, fold}
use Rattle.std.specs.Int.{w16, w32, w64}
use Rattle.std.specs.Ordering.{int_eq}
use Rattle.checksum.specs.Crc.{crc_of}
use Rattle.batch_codec.specs.Values.{BatchValue}
use Rattle.batch_codec.specs.Grammar.{batch_encoding, StartsWith}
use Rattle.batch_codec.specs.Fields.{unsigned_at, signed_at}
use Rattle.batch_codec.specs.Offsets.{first_offset, last_offset, HasKeys}
use Rattle.cover_ranges.specs.Runs.{Runs, IsCanonical, CoversAll}
use Rattle.cover_ranges.specs.declared.TheConstants.{OFFSETS_END}
use Rattle.content.specs.Content.{Content, IsContent, IsInRange}
use Rattle.partition_log.specs.Below.{content_of}
use Rattle.copy_images.specs.declared.layout.TheConstants.{MARK, VERSION_AT, VERSION, FIRST_VERSION, START_AT, BODY_AT, FIRST_BODY_AT, RANGE_SIZE, COUNT_SIZE, COUNTS_SIZE, CRC_SIZE, LEAST_SIZE, MAX_COUNT}
use Rattle.copy_images.specs.declared.error.ImageError.{ImageError}
use Rattle.copy_images.specs.declared.error.ImageError.TheVariants.{Short, BadMark, BadVersion, BadCrc, BadCover, BadBatch, Outside, Extra, OutOfMemory}
use Rattle.copy_images.specs.Images.{front_of, IsImage}

-- ---- what each of the first checks asks, on bytes that passed those before it

abbrev pub HasSize : List ℕ → Type 0
HasSize bytes = LEAST_SIZE ≤ length bytes

abbrev pub HasMark : List ℕ → Type 0
HasMark bytes = HasSize bytes × (unsigned_at w32 0 bytes ≡ MARK)

abbrev pub version_in : List ℕ → ℤ
version_in bytes = signed_at w16 VERSION_AT bytes

abbrev pub HasVersion : List ℕ → Type 0
HasVersion bytes = HasMark bytes × ((version_in bytes ≡ VERSION) ⊎ (version_in bytes ≡ FIRST_VERSION))

-- the last four bytes, and the crc of all others
abbrev pub IsOwnCrc : List ℕ → Type 0
IsOwnCrc bytes =
    let end = length bytes - CRC_SIZE in
    unsigned_at w32 end bytes ≡ crc_of (take end bytes)

abbrev pub HasCrc : List ℕ → Type 0
HasCrc bytes = HasVersion bytes × IsOwnCrc bytes

-- whether the bytes have a log start; in version 0 there is none
abbrev pub has_start : List ℕ → Bool
has_start bytes = int_eq (version_in bytes) VERSION

-- the log start, which is 0 in version 0
abbrev pub start_in : List ℕ → ℤ
start_in bytes = if has_start bytes then signed_at w64 START_AT bytes else pos 0

-- from 0 to the offset after the last
abbrev pub IsLogStart : ℤ → Type 0
IsLogStart start = (pos 0 ≤ℤ start) × (start ≤ℤ OFFSETS_END)

abbrev pub HasStart : List ℕ → Type 0
HasStart bytes = HasCrc bytes × IsLogStart (start_in bytes)

-- ---- what stands between the head and the crc

abbrev pub body_in : List ℕ → List ℕ
body_in bytes =
    let body_at = if has_start bytes then BODY_AT else FIRST_BODY_AT in
    take ((length bytes - CRC_SIZE) - body_at) (drop body_at bytes)

abbrev pub range_count : (body : List ℕ) → ℤ
range_count body = signed_at w32 0 body

-- the count of ranges, or so many ranges and the count of batches, are not all there
abbrev pub IsCut : (body : List ℕ) → Type 0
IsCut body =
    (length body < COUNT_SIZE)
    ⊎ ((pos 0 ≤ℤ range_count body) × (length body < COUNTS_SIZE + RANGE_SIZE * unsigned_abs (range_count body)))

abbrev pub FitsInt64 : ℤ × ℤ → Type 0
FitsInt64 range = FitsSigned w64 range.0 × FitsSigned w64 range.1

-- These ranges, the count of batches that should follow, and the bytes after that.
pub record HasFront (body : List ℕ) (ranges : Runs) (count : ℤ) (rest : List ℕ) : Type 0 where
  pub ranges_fit : AllByRecursion FitsInt64 ranges
  pub counted : length ranges ≤ MAX_COUNT
  pub count_fits : FitsSigned w32 count
  pub encoded : body ≡ front_of ranges count ++ rest

-- maximal ranges of a set of offsets, none of which begins below the start
abbrev pub IsCoverFrom : (start : ℤ) → Runs → Type 0
IsCoverFrom start ranges = IsCanonical ranges × AllByRecursion (λ range. start ≤ℤ range.0) ranges

-- The ranges and the first batches of the bytes: those of a valid content. `rest` comes after them.
pub record HasBatches (bytes : List ℕ) (ranges : Runs) (count : ℤ) (batches : List BatchValue) (rest : List ℕ) : Type 0 where
  pub start : HasStart bytes
  pub front : HasFront (body_in bytes) ranges count (flat_map batch_encoding batches ++ rest)
  pub content : IsContent (content_of (start_in bytes) ranges batches)

-- the offset after the last batch; 0 where there is none
abbrev pub end_of_batches : List BatchValue → ℤ
end_of_batches batches = fold (λ _ b. last_offset b +ℤ pos 1) (pos 0) batches

-- The batch stands at the front of the bytes, and may follow batches that end before the offset `from`.
pub record IsNext (from : ℤ) (b : BatchValue) (bytes : List ℕ) : Type 0 where
  pub starts : StartsWith b bytes
  pub keys : HasKeys b
  pub in_range : IsInRange b
  pub rises : from ≤ℤ first_offset b

-- ---- the first fault

abbrev pub Refuses : List ℕ → ImageError → Type 0
Refuses bytes Short = (length bytes < LEAST_SIZE) ⊎ (HasStart bytes × IsCut (body_in bytes))
Refuses bytes BadMark = HasSize bytes × (unsigned_at w32 0 bytes ≢ MARK)
Refuses bytes BadVersion = HasMark bytes × (version_in bytes ≢ VERSION) × (version_in bytes ≢ FIRST_VERSION)
Refuses bytes BadCrc = HasVersion bytes × ¬ IsOwnCrc bytes
-- no log start; a negative count of ranges; or all ranges are there, and are none of a copy with that start
Refuses bytes BadCover =
    (HasCrc bytes × ¬ IsLogStart (start_in bytes))
    ⊎ ((HasStart bytes × (COUNT_SIZE ≤ length (body_in bytes)) × (range_count (body_in bytes) <ℤ pos 0))
    ⊎ ((ranges : Runs) × (count : ℤ) × (rest : List ℕ) × HasStart bytes
    × HasFront (body_in bytes) ranges count rest × ¬ IsCoverFrom (start_in bytes) ranges))
-- the first batches are valid, more should follow, and no batch that may do so stands next
Refuses bytes (BadBatch i) =
    ((i ≡ 0) × ((ranges : Runs) × (count : ℤ) × (rest : List ℕ) × HasStart bytes
    × HasFront (body_in bytes) ranges count rest × IsCoverFrom (start_in bytes) ranges × (count <ℤ pos 0)))
    ⊎ ((ranges : Runs) × (count : ℤ) × (batches : List BatchValue) × (rest : List ℕ)
    × HasBatches bytes ranges count batches rest × (length batches ≡ i) × (pos i <ℤ count)
    × ((b : BatchValue) → IsNext (end_of_batches batches) b rest → ⊥))
-- the first batches are valid, and the next is too, but that some offset of its span was not seen
Refuses bytes Outside =
    (ranges : Runs) × (count : ℤ) × (batches : List BatchValue) × (rest : List ℕ) × (b : BatchValue)
    × HasBatches bytes ranges count batches rest × (pos (length batches) <ℤ count)
    × IsNext (end_of_batches batches) b rest × ¬ CoversAll ranges (first_offset b) (last_offset b)
-- all batches are valid, and bytes follow them
Refuses bytes Extra =
    (ranges : Runs) × (batches : List BatchValue) × (rest : List ℕ)
    × HasBatches bytes ranges (pos (length batches)) batches rest × (0 < length rest)
Refuses bytes OutOfMemory = (c : Content) × IsImage bytes c
