use Rattle.kept_starts.proofs.GoingOn.{started_up}
use Rattle.kept_starts.proofs.starting.go_on.Goals as goal

pub returns-clause-is_started : goal.returns-clause-is_started
returns-clause-is_started g c =
    started_up g.D.File.Disk.seen c.args.newest.node c.in_ok-keeper.keeper c.args.newest.reader c.requires.recovered c.in_ok-keeper.ensures.world c.in_ok-keeper.ensures.keeps
