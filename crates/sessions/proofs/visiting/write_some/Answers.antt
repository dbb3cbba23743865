use Rattle.std.proofs.Common.{◌≡◌, ◌<◌, true, length, rules}
use Rattle.sessions.proofs.Passing.{more_written}
use Rattle.sessions.proofs.visiting.write_some.Goals as goal

pub loop-preserved : goal.loop-preserved
loop-preserved g c =
    let on : c.loop.may_write ≡ true = search rules in
    let some : 0 < length c.loop.session.owed = search rules in
    more_written _ _ _ _ _ _ _ _ _ c.loop.invariant on some c.write_once.ensures.goes c.write_once.ensures.waits

pub returns-in_err-write_once-clause-goes : goal.returns-in_err-write_once-clause-goes
returns-in_err-write_once-clause-goes g c =
    let on : c.loop.may_write ≡ true = search rules in
    let some : 0 < length c.loop.session.owed = search rules in
    more_written _ _ _ _ _ _ _ _ _ c.loop.invariant on some c.write_once.ensures.goes c.write_once.ensures.waits
