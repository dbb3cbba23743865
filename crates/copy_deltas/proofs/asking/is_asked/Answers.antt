use Rattle.std.proofs.Common.{rules}
use Rattle.std.specs.Prelude.{FitsSigned}
use Rattle.std.specs.Int.{w64}
use Rattle.copy_deltas.proofs.Asked.{asked_is}
use Rattle.copy_deltas.proofs.asking.is_asked.Goals as goal

pub returns : goal.returns
returns g c =
    let first : FitsSigned w64 c.base.result = search rules in
    let last : FitsSigned w64 c.last_offset.result = search rules in
    asked_is c.args.asked.now.runs c.args.batch.now c.has_any.result c.base.result c.last_offset.result c.requires.canonical c.requires.some first last c.base.ensures c.last_offset.ensures c.has_any.ensures
