use Rattle.std.proofs.Common.{rules}
use Rattle.sessions.proofs.DueTimes.{before_first}
use Rattle.sessions.proofs.waiting.Waiting.next_due.Goals as goal

pub returns : goal.returns
returns g c = λ clock before. (search rules, before_first clock c.first_time.result c.args.self.now.times c.first_time.ensures before)
