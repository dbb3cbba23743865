-- Which two copies are not merged, and why.
use Rattle.std.specs.Prelude.{ℤ, ◌<ℤ◌}
use Rattle.content.specs.Content.{Content}
use Rattle.content.specs.Joins.{AgreeAt, Agree}
use Rattle.copy_merge.specs.declared.error.MergeError.{MergeError}
use Rattle.copy_merge.specs.declared.error.MergeError.TheVariants.{Disagree, OutOfMemory}

-- the least base offset at which two copies disagree
abbrev pub IsFirstDisagreement : Content → Content → ℤ → Type 0
IsFirstDisagreement a b base =
    (¬ AgreeAt a b base) × ((lower : ℤ) → lower <ℤ base → AgreeAt a b lower)

-- Two copies that don't agree are refused, and the least base at fault is named. Copies that agree
-- are refused only for lack of memory.
abbrev pub RefusesMerge : Content → Content → MergeError → Type 0
RefusesMerge a b (Disagree base) = IsFirstDisagreement a b base
RefusesMerge a b OutOfMemory = Agree a b
