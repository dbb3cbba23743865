-- From the two copies to the input that they were read of.
use Rattle.std.proofs.Common.{◌≡◌, ℕ, ◌<◌, List, [], length, refl, subst, inr}
use Rattle.std.specs.Prelude.{Result, Ok, Err, IfOk, IfErr, OnOk}
use Rattle.content.specs.Content.{Content}
use Rattle.content.specs.Joins.{join, Agree}
use Rattle.copy_images.specs.declared.error.ImageError.{ImageError}
use Rattle.copy_images.specs.declared.error.ImageError.TheVariants as image
use Rattle.copy_images.specs.Refusals.{Refuses}
use Rattle.copy_images.specs.Images.{image_of, IsImage}
use Rattle.copy_merge.specs.declared.error.MergeError.{MergeError}
use Rattle.copy_merge.specs.declared.error.MergeError.TheVariants as merge
use Rattle.copy_merge.specs.Merges.{RefusesMerge}
use Rattle.subcommands.specs.declared.merge_fault.MergeFault.{MergeFault}
use Rattle.subcommands.specs.declared.merge_fault.MergeFault.TheVariants.{First, Second, Disagree, OutOfMemory}
use Rattle.subcommands.specs.Merging.{StartsSized, StartsImage, MergesImages, RefusesPair, RefusesCopies, fault_of}

-- bytes stand behind the second image
pub extra_behind : (whole input bytes rest : List ℕ) (first second : Content) → StartsImage whole first input → StartsSized input bytes rest
    → IsImage bytes second → 0 < length rest → RefusesPair whole (Second image.Extra)
extra_behind whole input bytes rest first second starts sized is some = (first, input, starts, inr (refl, (second, rest, (bytes, sized, is), some)))

-- what is refused only for memory is an image
pub is_unread_image : (bytes : List ℕ) (why : ImageError) → why ≡ image.OutOfMemory → Refuses bytes why → (c : Content) × IsImage bytes c
is_unread_image bytes why is refuses = subst (Refuses bytes) is refuses

pub copies_refused : (a b : Content) (why : MergeError) → RefusesMerge a b why → RefusesCopies a b (fault_of why)
copies_refused a b (merge.Disagree base) is = is
copies_refused a b merge.OutOfMemory is = is

fault_refused : (input rest : List ℕ) (a b : Content) (why : MergeFault) → StartsImage input a rest → StartsImage rest b [] → RefusesCopies a b why → RefusesPair input why
fault_refused input rest a b (First e) starts follows is = absurd is
fault_refused input rest a b (Second e) starts follows is = absurd is
fault_refused input rest a b (Disagree base) starts follows is = (a, b, (rest, starts, follows), is)
fault_refused input rest a b OutOfMemory starts follows is = (a, rest, starts)

module _ {X : Type 0} (items : X → List ℕ) where
  pub pair_merged : (r : Result X MergeFault) (input rest : List ℕ) (a b : Content) → StartsImage input a rest → StartsImage rest b []
      → OnOk r (Agree a b) → IfOk r (λ image. items image ≡ image_of (join a b)) → IfOk r (λ image. MergesImages input (items image))
  pair_merged (Ok image) input rest a b starts follows agree is = (a, b, (rest, starts, follows), agree, is)
  pair_merged (Err why) input rest a b starts follows agree is = tt

pub pair_refused : {X : Type 0} (r : Result X MergeFault) (input rest : List ℕ) (a b : Content) → StartsImage input a rest → StartsImage rest b []
    → IfErr r (RefusesCopies a b) → IfErr r (RefusesPair input)
pair_refused (Ok image) input rest a b starts follows is = tt
pair_refused (Err why) input rest a b starts follows is = fault_refused input rest a b why starts follows is
