use Rattle.std.proofs.Common.{refl, sym, ap}
use Rattle.std.specs.Prelude.{drop}
use Rattle.sessions.proofs.Owing.{owed_next}
use Rattle.sessions.proofs.outbox.Outbox.answer.Goals as goal

pub returns-clause-answers : goal.returns-clause-answers
returns-clause-answers g c =
    owed_next c.answer_held.result c.args.may_wait _ _ _ _ _ _ (drop c.self.inside.sent c.self.inside.sending.items) c.self.inside.behind.items c.answer_held.new.out.items _ _ (sym c.self.view_is) refl (ap (λ v. v.items))
    c.answer_held.ensures.answers
