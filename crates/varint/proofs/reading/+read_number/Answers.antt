use Rattle.std.proofs.Common.{arith}
use Rattle.std.proofs.lemmas.Grind.{common_steps}
use Rattle.varint.specs.Reading.{number_at}
use Rattle.varint.proofs.Number.{limit_rest}
use Rattle.varint.proofs.reading.+read_number.Goals as goal

pub read_number-requires : goal.read_number-requires
read_number-requires t c = (omega arith, (limit_rest c.args.limit c.requires c.if-limit-lt128.false).1)

pub overflow_mul-result : goal.overflow_mul-result
overflow_mul-result t c = omega (arith, c.in_ok-high.ensures.below, c.ranges.limit.fits)

pub overflow_add-result : goal.overflow_add-result
overflow_add-result t c =
    let low = (limit_rest c.args.limit c.requires c.if-limit-lt128.false).0 in
    omega (arith, low, c.in_ok-high.ensures.below, c.ranges.limit.fits, c.type_inv.bytes 0)

pub returns-clause-below : goal.returns-clause-below
returns-clause-below t c =
    let low = (limit_rest c.args.limit c.requires c.if-limit-lt128.false).0 in
    omega (arith, low, c.in_ok-high.ensures.below, c.type_inv.bytes 0)

pub returns-then-high-eq0-clause-read : goal.returns-then-high-eq0-clause-read
unfolding number_at
returns-then-high-eq0-clause-read t c = grind (arith, common_steps)
