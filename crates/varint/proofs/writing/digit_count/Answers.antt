use Rattle.varint.proofs.Digits.{room, len_step, len_ends}
use Rattle.varint.proofs.writing.digit_count.Goals as goal

pub loop-rest-preserved : goal.loop-rest-preserved
loop-rest-preserved c =
    let h = c.loop-rest.invariant in
    let fits = room c.loop-rest.others c.loop-rest.rest h.0 c.loop-rest-test.true h.1 in
    (fits.0, fits.1, len_step c.loop-rest.others c.loop-rest.rest _ fits.0 c.loop-rest-test.true h.2)

pub returns : goal.returns
returns c = len_ends c.loop-rest.others c.loop-rest.rest _ c.loop-rest-test.false c.loop-rest.invariant.2
