use Rattle.std.proofs.Common.{◌≡◌, ◌∙◌, ℤ, Option, Some, ap, sym, to_z, of_z, w32, rules}
use Rattle.snapshots.specs.Heads.{covered, signed_crc}
use Rattle.snapshots.proofs.head.crc_of_either.Goals as goal

pub returns-in-Some : goal.returns-in-Some
returns-in-Some c =
    let made : to_z w32 (of_z w32 c.crc_of_head.result) ≡ signed_crc (covered (Some c.in-Some.key) c.args.fields.now) = search rules in
    made ∙ ap (λ (key : Option ℤ). signed_crc (covered key c.args.fields.now)) (sym c.in-Some.is)
