use Rattle.std.proofs.Common.{rules, ◌≡◌, ◌∷◌}
use Rattle.std.specs.Int.{w64}
use Rattle.std.proofs.lemmas.Int.{to_z-of_z}
use Rattle.copy_images.specs.Judging.{ranges_of}
use Rattle.delta_bytes.proofs.NextEntry.{refused_list, refused_batch}
use Rattle.delta_bytes.proofs.entry.judge_entry.Goals as goal

pub returns-in-0-clause-refuses : goal.returns-in-0-clause-refuses
returns-in-0-clause-refuses c =
    let parts : c.args.bytes.now ≡ c.in-Some.kind.now ∷ c.in-Some.behind.now = search rules in
    refused_list (ranges_of c.args.ranges.now) (ranges_of c.args.asked.now) c.args.low _ c.in-Some.kind.now c.in-Some.behind.now c.args.bytes.now c.judge_listed.result (to_z-of_z w64 c.args.low c.ranges.low) parts c.in-0.is c.judge_listed.ensures.refuses

pub returns-in-1-clause-refuses : goal.returns-in-1-clause-refuses
returns-in-1-clause-refuses c =
    let parts : c.args.bytes.now ≡ c.in-Some.kind.now ∷ c.in-Some.behind.now = search rules in
    refused_batch (ranges_of c.args.ranges.now) (ranges_of c.args.asked.now) c.args.low _ c.in-Some.kind.now c.in-Some.behind.now c.args.bytes.now c.judge_sent.result (to_z-of_z w64 c.args.low c.ranges.low) parts c.in-1.is c.judge_sent.ensures.refuses
