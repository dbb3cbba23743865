use Rattle.std.proofs.Common.{ap, ◌∙◌, rules, FitsSigned}
use Rattle.std.specs.Int.{w64}
use Rattle.std.proofs.lemmas.Int.{to_z-of_z}
use Rattle.copy_images.specs.Judging.{ranges_of, ending_from}
use Rattle.copy_deltas.proofs.ToldBytes.{ranges_passed}
use Rattle.copy_deltas.proofs.told.RangesLeftSeen.pass_below.Goals as goal

pub returns : goal.returns
returns c low runs le from =
    let fits : FitsSigned w64 c.args.offset = search rules in
    ranges_passed low c.args.offset runs (ranges_of c.args.self.now.ranges.now) (ranges_of c.ending_from-self.result.now)
    (c.ending_from-self.ensures ∙ ap (λ o. ending_from o (ranges_of c.args.self.now.ranges.now)) (to_z-of_z w64 c.args.offset fits)) le from
