use Rattle.std.proofs.Common.{Ok, subst}
use Rattle.std.specs.Int.{w32}
use Rattle.std.proofs.lemmas.Int.{to_z-of_z}
use Rattle.answering.specs.Doing.{DoesTold}
use Rattle.copy_requests.specs.Clean.{clean_result, cleaning_work}
use Rattle.copy_requests.proofs.Entries.{clean_answers}
use Rattle.copy_requests.proofs.clean.clean_entry.Goals as goal

pub returns-in-Ok : goal.returns-in-Ok
returns-in-Ok g c =
    let s = c.args.state.now in
    clean_answers s c.try_clean.new.state c.args.topic.now c.args.partition c.args.cleaning c.in-Ok.report c.in-Ok.ensures.fits
    (subst (λ p. DoesTold (cleaning_work s c.args.topic.now p c.args.cleaning) clean_result (Ok c.in-Ok.report) s c.try_clean.new.state)
    (to_z-of_z w32 c.args.partition c.ranges.partition) c.in-Ok.ensures.does)
