use Rattle.std.proofs.Common.{ap, ◌∙◌}
use Rattle.std.specs.Prelude.{bit_xor}
use Rattle.checksum.specs.Crc.{all_ones, crc_of, feed_bytes}
use Rattle.copy_images.specs.Refusals.{Refuses}
use Rattle.copy_images.specs.Judging.{covered}
use Rattle.copy_images.proofs.Refused.{err_is}
use Rattle.copy_images.proofs.read.judge.Goals as goal

pub returns-in_err-check_head-clause-refuses : goal.returns-in_err-check_head-clause-refuses
returns-in_err-check_head-clause-refuses c =
    err_is c.from_residual.result (Refuses c.args.bytes.now) c.in_err-check_head.field-0.0 c.from_residual.ensures.1 c.in_err-check_head.ensures.refuses

pub check_crc-requires-clause-computed : goal.check_crc-requires-clause-computed
unfolding crc_of
check_crc-requires-clause-computed c =
    c.value.ensures ∙ ap (λ register. bit_xor register all_ones) (c.in-Ok.ensures.feeds ∙ ap (λ register. feed_bytes register (covered c.args.bytes.now)) c.new-crc.ensures)
