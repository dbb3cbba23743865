use Rattle.copy_images.proofs.Refused.{err_is}
use Rattle.delta_bytes.specs.RangeLists.{RangesFault}
use Rattle.delta_bytes.proofs.ranges.ranges_at.Goals as goal

pub returns-in_err-cut-clause-refuses : goal.returns-in_err-cut-clause-refuses
returns-in_err-cut-clause-refuses c =
    err_is c.from_residual.result (RangesFault c.args.low c.args.behind c.args.bytes.now) c.in_err-cut.field-0.0 c.from_residual.ensures.1 (c.in_err-cut.ensures.refuses c.args.low)
