use Rattle.kept_starts.proofs.GoingOn.{folded}
use Rattle.kept_starts.proofs.starting.fold.Goals as goal

pub returns-in-Ok-clause-keeps : goal.returns-in-Ok-clause-keeps
returns-in-Ok-clause-keeps g c = folded g.D.File.Disk.seen c.args.started.now.keeper c.fold.new.keeper c.in-Ok.ensures.keeps_the_world c.in-Ok.ensures.keeps

pub returns-in-Ok-clause-are_there : goal.returns-in-Ok-clause-are_there
returns-in-Ok-clause-are_there g c = λ there. (c.in-Ok.ensures.is_there, c.in-Ok.ensures.its_journal_is_there there, (c.fold.new.keeper.journal.key, c.in-Ok.ensures.is_of_now))
