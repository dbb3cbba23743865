-- How a stream is cut into frames, each behind its size, an int32 that doesn't count itself. Kafka's documentation,
-- "Protocol Guide", section "Common Request and Response Structure"; the limit is this project's own.
use Rattle.std.specs.Prelude.{◌≡◌, ◌⊎◌, ℕ, ◌<◌, ◌≤◌, ℤ, pos, ◌+ℤ◌, ◌<ℤ◌, ◌≤ℤ◌, List, ◌++◌, length, slice_index}
use Rattle.std.specs.List.{flat_map, AllByRecursion}
use Rattle.std.specs.Int.{byte_len}
use Rattle.frame_fields.specs.declared.frame.TheConstants.{MAX_FRAME}
use Rattle.frame_fields.specs.declared.error.FrameError.{FrameError}
use Rattle.frame_fields.specs.declared.error.FrameError.TheVariants.{NegativeSize, TooLarge, OutOfMemory}
use Rattle.frame_fields.specs.Fields.{size32, width, be, number_at, IsCut, IsBelow}

-- a frame behind its size
abbrev pub framed : List ℕ → List ℕ
framed frame = be size32 (pos (length frame)) ++ frame

-- frames one after the other
abbrev pub stream : List (List ℕ) → List ℕ
stream frames = flat_map framed frames

-- the size that bytes begin with
abbrev pub frame_size : List ℕ → ℤ
frame_size bytes = number_at size32 bytes

-- a frame may have this size, if it isn't negative
abbrev pub IsWithinLimit : ℤ → Type 0
IsWithinLimit size = size ≤ℤ MAX_FRAME

-- the size isn't all there, or it is allowed and the frame isn't all there
abbrev pub IsIncomplete : List ℕ → Type 0
IsIncomplete rest =
    IsCut size32 rest
    ⊎ (pos 0 ≤ℤ frame_size rest) × IsWithinLimit (frame_size rest)
    × (pos (length rest) <ℤ (pos 4 +ℤ frame_size rest))

-- the size is there, and no frame may have it
abbrev pub SizeFault : FrameError → List ℕ → Type 0
SizeFault NegativeSize rest = IsBelow (pos 0) size32 rest
SizeFault TooLarge rest = (byte_len (width size32) ≤ length rest) × (MAX_FRAME <ℤ frame_size rest)
SizeFault _ rest = ⊥

-- the bytes are these frames behind their sizes, and a rest
pub record IsFrames (bytes : List ℕ) (frames : List (List ℕ)) (rest : List ℕ) : Type 0 where
  pub parts : bytes ≡ stream frames ++ rest
  pub within : AllByRecursion (λ frame. IsWithinLimit (pos (length frame))) frames

-- no frame can be cut from the rest: it is incomplete, or its size is refused
abbrev pub HasNoFrame : List ℕ → Type 0
HasNoFrame rest = IsIncomplete rest ⊎ (e : FrameError) × SizeFault e rest

-- ---- one frame

-- the bytes begin with this frame behind its size, and the rest follows
pub record IsFirstFrame (frame bytes rest : List ℕ) : Type 0 where
  pub parts : bytes ≡ framed frame ++ rest
  pub within : IsWithinLimit (pos (length frame))

-- why no frame was taken: its size, or, where a complete frame stands at the front, out of memory
abbrev pub IsTakeFault : FrameError → List ℕ → Type 0
IsTakeFault OutOfMemory bytes = (frame rest : List ℕ) × IsFirstFrame frame bytes rest
IsTakeFault e bytes = SizeFault e bytes

-- each number is a byte's
abbrev pub IsBytes : List ℕ → Type 0
IsBytes bytes = (i : ℕ) → slice_index bytes i < 256
