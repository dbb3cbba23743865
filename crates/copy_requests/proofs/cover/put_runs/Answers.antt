use Rattle.std.proofs.Common.{ℕ, pos, List, ◌++◌, ap, ◌∙◌}
use Rattle.responses.specs.Cover.{cover_run_bytes}
use Rattle.copy_images.proofs.Written.{next_written, all_written}
use Rattle.answering.proofs.Begun.{on_err_of}
use Rattle.copy_requests.proofs.cover.put_runs.Goals as goal

pub loop-run-preserved : goal.loop-run-preserved
loop-run-preserved g c =
    next_written cover_run_bytes c.args.out.now.items c.loop-run.out.items c.append_fixed.new.out.items c.loop-run.run-index c.args.runs.now (pos 0, pos 0) c.loop-run-test.true c.loop-run.invariant (c.in_ok-append_fixed.ensures.appends ∙ ap (λ (b : List ℕ). c.loop-run.out.items ++ b) c.cover_run_bytes.ensures)

pub returns-clause-appends : goal.returns-clause-appends
returns-clause-appends g c = all_written cover_run_bytes c.args.out.now.items c.loop-run.out.items c.loop-run.run-index c.args.runs.now c.loop-run-test.false c.loop-run.invariant

pub returns-in_err-append_fixed-clause-begins : goal.returns-in_err-append_fixed-clause-begins
returns-in_err-append_fixed-clause-begins g c = on_err_of c.from_residual.result (_, c.in_err-append_fixed.ensures.unchanged_on_error ∙ c.loop-run.invariant)
