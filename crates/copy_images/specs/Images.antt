-- The image of a copy, from its first byte to its last. The form is this project's own; batches stand in it as
-- Kafka's documentation has them, "Record Batch".
use Rattle.std.specs.Prelude.{◌≡◌, ℕ, ◌≤◌, ◌⊎◌, ℤ, pos, List, [], ◌∷◌, ◌++◌, length}
use Rattle.std.specs.List.{flat_map}
use Rattle.std.specs.Int.{w16, w32, w64}
use Rattle.checksum.specs.Crc.{crc_of}
use Rattle.batch_codec.specs.Grammar.{fields, signed, batch_encoding}
use Rattle.cover_ranges.specs.Runs.{Runs}
use Rattle.content.specs.Content.{Content, IsContent}
use Rattle.copy_images.specs.declared.layout.TheConstants.{MARK, VERSION, FIRST_VERSION, MAX_COUNT}

-- ---- the parts

-- what an image begins with: the mark, the version and the log start
unfoldable pub head_of : (start : ℤ) → List ℕ
head_of start = fields ((w32, MARK) ∷ signed w16 VERSION ∷ signed w64 start ∷ [])

-- what an image of version 0 begins with: it has no log start
unfoldable pub first_head : List ℕ
first_head = fields ((w32, MARK) ∷ signed w16 FIRST_VERSION ∷ [])

-- a range of offsets, by its first and its last
unfoldable pub range_encoding : ℤ × ℤ → List ℕ
range_encoding range = fields (signed w64 range.0 ∷ signed w64 range.1 ∷ [])

-- what comes between the head and the batches: the ranges behind their count, the count of batches
unfoldable pub front_of : Runs → ℤ → List ℕ
front_of ranges count =
    fields (signed w32 (pos (length ranges)) ∷ []) ++ (flat_map range_encoding ranges ++ fields (signed w32 count ∷ []))

-- all that follows the head, up to the crc
abbrev pub body_of : Content → List ℕ
body_of c = front_of c.cover (pos (length c.kept)) ++ flat_map batch_encoding c.kept

-- bytes, and behind them their crc
unfoldable pub with_crc : List ℕ → List ℕ
with_crc bytes = bytes ++ fields ((w32, crc_of bytes) ∷ [])

-- ---- the whole

-- the image that is written
abbrev pub image_of : Content → List ℕ
image_of c = with_crc (head_of c.start ++ body_of c)

-- the image of version 0, of a content that starts at 0
abbrev pub first_image_of : Content → List ℕ
first_image_of c = with_crc (first_head ++ body_of c)

-- These bytes are an image of a valid content whose ranges and batches can be counted: the one that is written, or
-- that of version 0 where the content starts at 0.
pub record IsImage (bytes : List ℕ) (c : Content) : Type 0 where
  pub content : IsContent c
  pub ranges : length c.cover ≤ MAX_COUNT
  pub batches : length c.kept ≤ MAX_COUNT
  pub encoded : (bytes ≡ image_of c) ⊎ ((c.start ≡ pos 0) × (bytes ≡ first_image_of c))
