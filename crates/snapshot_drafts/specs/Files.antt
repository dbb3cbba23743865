-- A file that is written at byte offsets.
use Rattle.std.specs.Prelude.{◌≡◌, ℕ, ◌+◌, ◌-◌, List, ◌++◌, length, take, drop, replicate}

-- the file with these bytes at an offset: they replace what stands there, and what is missing before them is zeros
abbrev pub with_bytes : (at : ℕ) (bytes file : List ℕ) → List ℕ
with_bytes at bytes file =
    (take at file ++ replicate (at - length file) 0) ++ (bytes ++ drop (at + length bytes) file)

-- these bytes stand at an offset of the file
abbrev pub StandsAt : (at : ℕ) (bytes file : List ℕ) → Type 0
StandsAt at bytes file = take (length bytes) (drop at file) ≡ bytes
