-- Two images merged into one, from bytes to bytes.
use Rattle.std.specs.Prelude.{◌≡◌, ◌≢◌, ◌⊎◌, ℕ, ◌+◌, ◌^◌, ◌<◌, ◌≤◌, List, [], ◌∷◌, ◌++◌, length}
use Rattle.std.specs.Int.{w32}
use Rattle.batch_codec.specs.Grammar.{fields}
use Rattle.batch_codec.specs.Fields.{unsigned_at}
use Rattle.content.specs.Content.{Content}
use Rattle.content.specs.Joins.{join, Agree}
use Rattle.copy_images.specs.declared.error.ImageError.{ImageError}
use Rattle.copy_images.specs.declared.error.ImageError.TheVariants as image
use Rattle.copy_images.specs.Images.{image_of, IsImage}
use Rattle.copy_images.specs.Refusals.{Refuses}
use Rattle.copy_merge.specs.Merges.{IsFirstDisagreement}
use Rattle.copy_merge.specs.declared.error.MergeError.{MergeError}
use Rattle.copy_merge.specs.declared.error.MergeError.TheVariants as merge
use Rattle.subcommands.specs.declared.merge_fault.MergeFault.{MergeFault}
use Rattle.subcommands.specs.declared.merge_fault.MergeFault.TheVariants.{First, Second, Disagree, OutOfMemory}

-- ---- bytes behind their size

-- Bytes stand behind their size, a positive int32 or 0, at the front of an input, and a rest follows.
pub record StartsSized (input bytes rest : List ℕ) : Type 0 where
  pub is_size : length bytes < 2 ^ 31
  pub parts : input ≡ fields ((w32, length bytes) ∷ []) ++ (bytes ++ rest)

-- the size is missing, negative, or past the end
abbrev pub IsCut : List ℕ → Type 0
IsCut input =
    (length input < 4) ⊎ (2 ^ 31 ≤ unsigned_at w32 0 input) ⊎ (length input < 4 + unsigned_at w32 0 input)

-- the image of a copy stands behind its size at the front
abbrev pub StartsImage : List ℕ → Content → List ℕ → Type 0
StartsImage input c rest = (bytes : List ℕ) × StartsSized input bytes rest × IsImage bytes c

-- ---- what is merged, and what is refused

-- the input is the images of two copies, each behind its size, and nothing else
abbrev pub IsPair : List ℕ → Content → Content → Type 0
IsPair input a b = (rest : List ℕ) × StartsImage input a rest × StartsImage rest b []

-- the image is that of the two copies' merge
abbrev pub MergesImages : List ℕ → List ℕ → Type 0
MergesImages input image = (a b : Content) × IsPair input a b × Agree a b × (image ≡ image_of (join a b))

-- what stands at the front is refused as an image behind its size
abbrev pub RefusesFront : List ℕ → ImageError → Type 0
RefusesFront input e =
    ((e ≡ image.Short) × IsCut input)
    ⊎ ((bytes rest : List ℕ) × StartsSized input bytes rest × Refuses bytes e × (e ≢ image.OutOfMemory))

-- the first fault in the order of the checks: the first image's, the second's, what follows it, and that of the merge
abbrev pub RefusesPair : List ℕ → MergeFault → Type 0
RefusesPair input (First e) = RefusesFront input e
RefusesPair input (Second e) =
    (a : Content) × (rest : List ℕ) × StartsImage input a rest
    × (RefusesFront rest e ⊎ ((e ≡ image.Extra) × ((b : Content) × (more : List ℕ) × StartsImage rest b more × (0 < length more))))
RefusesPair input (Disagree base) = (a b : Content) × IsPair input a b × IsFirstDisagreement a b base
RefusesPair input OutOfMemory = (a : Content) × (rest : List ℕ) × StartsImage input a rest

-- ---- words of private clauses

-- why two copies are not merged, as it is said of their images
abbrev pub fault_of : MergeError → MergeFault
fault_of (merge.Disagree base) = Disagree base
fault_of merge.OutOfMemory = OutOfMemory

-- what is said of two copies' merge: memory runs out only where they agree
abbrev pub RefusesCopies : Content → Content → MergeFault → Type 0
RefusesCopies a b (Disagree base) = IsFirstDisagreement a b base
RefusesCopies a b OutOfMemory = Agree a b
RefusesCopies a b _ = ⊥
