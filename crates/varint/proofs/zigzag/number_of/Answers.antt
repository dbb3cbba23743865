use Rattle.varint.proofs.Halves.{half_fits, minus_fits, next_fits, even_is, odd_is}
use Rattle.varint.proofs.zigzag.number_of.Goals as goal

pub overflow_cast-result : goal.overflow_cast-result
overflow_cast-result c = half_fits c.args.code c.ranges.code.fits

pub overflow_cast-result-else-code-eq0 : goal.overflow_cast-result-else-code-eq0
overflow_cast-result-else-code-eq0 c = half_fits c.args.code c.ranges.code.fits

pub overflow_sub-result : goal.overflow_sub-result
overflow_sub-result c = minus_fits c.args.code c.ranges.code.fits

pub overflow_sub-result-else-code-eq0 : goal.overflow_sub-result-else-code-eq0
overflow_sub-result-else-code-eq0 c = next_fits c.args.code c.ranges.code.fits

pub returns-then-code-eq0 : goal.returns-then-code-eq0
returns-then-code-eq0 c = even_is c.args.code c.ranges.code.fits c.if-code-eq0.true

pub returns-else-code-eq0 : goal.returns-else-code-eq0
returns-else-code-eq0 c = odd_is c.args.code c.ranges.code.fits c.if-code-eq0.false
