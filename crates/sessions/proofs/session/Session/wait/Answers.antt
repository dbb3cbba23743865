use Rattle.std.proofs.Common.{◌≡◌, Some, rules}
use Rattle.sessions.proofs.Watching.{others_stay, watch_joined}
use Rattle.sessions.proofs.session.Session.wait.Goals as goal

pub returns-in-Ok-clause-watches : goal.returns-in-Ok-clause-watches
returns-in-Ok-clause-watches g c = λ most waits.
    let due : c.args.self.now.due ≡ Some c.in-Some.due = search rules in
    let shown : c.as_slice.result.now ≡ c.args.self.now.held = search rules in
    watch_joined c.args.number c.args.node.now c.args.waiting.now c.join.new.self c.args.self.now c.in-Some.due most waits due c.as_slice.result.now shown c.join.ensures.wait_on c.join.ensures.due

pub returns-in-Err-clause-watches : goal.returns-in-Err-clause-watches
returns-in-Err-clause-watches g c = λ most waits.
    let due : c.args.self.now.due ≡ Some c.in-Some.due = search rules in
    let shown : c.as_slice.result.now ≡ c.args.self.now.held = search rules in
    watch_joined c.args.number c.args.node.now c.args.waiting.now c.join.new.self c.args.self.now c.in-Some.due most waits due c.as_slice.result.now shown c.join.ensures.wait_on c.join.ensures.due

pub returns-in-Ok-clause-others : goal.returns-in-Ok-clause-others
returns-in-Ok-clause-others g c = others_stay c.args.number c.args.waiting.now.waits c.join.new.self.waits c.join.ensures.others c.join.ensures.asleep

pub returns-in-Err-clause-others : goal.returns-in-Err-clause-others
returns-in-Err-clause-others g c = others_stay c.args.number c.args.waiting.now.waits c.join.new.self.waits c.join.ensures.others c.join.ensures.asleep
