-- Words of private clauses: what becomes of the batches that a copy keeps where it is told of others.
use Rattle.std.specs.Prelude.{◌≡◌, ℤ, ◌<ℤ◌, List, ◌++◌, Option, Some}
use Rattle.std.specs.List.{AllByRecursion, cons_option}
use Rattle.batch_codec.specs.Values.{BatchValue}
use Rattle.batch_codec.specs.Offsets.{first_offset, last_offset}
use Rattle.segment.specs.declared.turn.Turn.{Turn}
use Rattle.segment.specs.Weaving.{woven}

-- the spans lie before an offset
abbrev pub EndBefore : ℤ → List BatchValue → Type 0
EndBefore o bs = AllByRecursion (λ b. (first_offset b <ℤ o) × (last_offset b <ℤ o)) bs

-- Turns and batches that come in, behind others. They make `made` of the first list's next batch.
pub record Adds (next made : Option BatchValue) (old_turns new_turns : List Turn)
    (old_more new_more : List BatchValue) : Type 0 where
  pub turns : List Turn
  pub batches : List BatchValue
  pub more_turns : new_turns ≡ old_turns ++ turns
  pub more_batches : new_more ≡ old_more ++ batches
  pub makes : (rest : List Turn) (xs ys : List BatchValue)
      → woven (turns ++ rest) (cons_option next xs) (batches ++ ys)
      ≡ cons_option made (woven rest xs ys)
  pub brings : AllByRecursion (λ b. made ≡ Some b) batches
