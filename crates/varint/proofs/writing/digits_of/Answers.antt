use Rattle.std.proofs.Common.{arith, ◌∙◌}
use Rattle.std.proofs.lemmas.List.{length-set}
use Rattle.varint.proofs.Digits.{room, step, ends}
use Rattle.varint.proofs.writing.digits_of.Goals as goal

pub loop-rest-preserved : goal.loop-rest-preserved
loop-rest-preserved c =
    let h = c.loop-rest.invariant in
    let fits = room c.loop-rest.used c.loop-rest.rest h.1 c.loop-rest-test.true h.2 in
    (length-set c.loop-rest.bytes c.loop-rest.used _ ∙ h.0, fits.0, fits.1, step c.loop-rest.bytes _ c.loop-rest.used c.loop-rest.rest fits.0 (omega (arith, h.0, h.1)) c.loop-rest-test.true h.3)

pub returns-clause-bytes : goal.returns-clause-bytes
returns-clause-bytes c =
    let h = c.loop-rest.invariant in
    ends c.loop-rest.bytes _ c.loop-rest.used c.loop-rest.rest (omega (arith, h.0, h.1)) c.loop-rest-test.false h.3
