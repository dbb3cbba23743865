use Rattle.std.proofs.lemmas.Grind.{common_steps}
use Rattle.std.proofs.Common.{w64, arith, rules, refl, get_or, take, inl, inr, ◌⊎◌}
use Rattle.std.specs.Prelude.{pos, ◌+ℤ◌, ◌<ℤ◌, ◌≤ℤ◌}
use Rattle.std.specs.List.{All}
use Rattle.std.proofs.lemmas.Int.{ints, to_z-of_z}
use mir.Val.{SFits}
use Rattle.cover_ranges.specs.declared.TheConstants.{OFFSETS_END}
use Rattle.cover_ranges.specs.Runs.{IsRun}
use Rattle.cover_ranges.proofs.Runs.{out_says, one_more}
use Rattle.cover_ranges.proofs.judge.judge_at.Goals as goal
use Rattle.cover_ranges.proofs.judge.judge_at.Goals.{then-first-lt0-via-then-first-lt0, then-first-lt0-via-else-first-lt0+then-last-ge-OFFSETS_END}

pub returns-then-first-lt0 : goal.returns-then-first-lt0
returns-then-first-lt0 c =
    let fits_first : SFits w64 (get_or c.args.ranges.now c.args.at (pos 0, pos 0)).0 = search rules in
    let fits_last : SFits w64 (get_or c.args.ranges.now c.args.at (pos 0, pos 0)).1 = search rules in
    let none : All (λ run. (run.1 +ℤ pos 1) <ℤ (get_or c.args.ranges.now c.args.at (pos 0, pos 0)).0) (take c.args.at c.args.ranges.now) = simp to_z-of_z at c.if-meets_last.ensures in
    let out : ((get_or c.args.ranges.now c.args.at (pos 0, pos 0)).0 <ℤ pos 0) ⊎ (OFFSETS_END ≤ℤ (get_or c.args.ranges.now c.args.at (pos 0, pos 0)).1) =
    elim c.then-first-lt0.branch
    [ then-first-lt0-via-then-first-lt0 w ↦ inl (omega (arith, ints)) | then-first-lt0-via-else-first-lt0+then-last-ge-OFFSETS_END w ↦ inr (omega (arith, ints)) ] in
    λ d. out_says c.args.ranges.now c.args.at d (pos 0, pos 0) (get_or c.args.ranges.now c.args.at (pos 0, pos 0)).0 c.requires.is_there (omega (arith, ints)) none refl out

pub returns : goal.returns
returns c =
    let fits_first : SFits w64 (get_or c.args.ranges.now c.args.at (pos 0, pos 0)).0 = search rules in
    let fits_last : SFits w64 (get_or c.args.ranges.now c.args.at (pos 0, pos 0)).1 = search rules in
    let none : All (λ run. (run.1 +ℤ pos 1) <ℤ (get_or c.args.ranges.now c.args.at (pos 0, pos 0)).0) (take c.args.at c.args.ranges.now) = simp to_z-of_z at c.if-meets_last.ensures in
    let run : IsRun (get_or c.args.ranges.now c.args.at (pos 0, pos 0)) = (omega (arith, ints), omega (arith, ints), omega (arith, ints)) in
    one_more c.args.ranges.now c.args.at (pos 0, pos 0) c.requires.is_there c.requires.earlier none run

pub returns-then-last-first : goal.returns-then-last-first
returns-then-last-first c = grind (arith, common_steps)
