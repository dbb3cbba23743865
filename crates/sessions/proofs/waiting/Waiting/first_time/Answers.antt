use Rattle.std.proofs.Common.{◌≡◌, ◌≤◌, [], subst}
use Rattle.std.specs.List.{All}
use Rattle.sessions.specs.Waiting.{WaitingState}
use Rattle.sessions.proofs.DueTimes.{from_first, none_there}
use Rattle.sessions.proofs.waiting.Waiting.first_time.Goals as goal

pub returns-in-Some : goal.returns-in-Some
returns-in-Some g c = subst (λ (w : WaitingState). All (λ time. c.in-Some.field-0.now.0 ≤ time.0) w.times) c.self.view_is (from_first c.in-Some.field-0.now c.self.inside.by_time.keys c.in-Some.ensures.all_from)

pub returns-in-None : goal.returns-in-None
returns-in-None g c = subst (λ (w : WaitingState). w.times ≡ []) c.self.view_is (none_there c.self.inside.by_time.keys c.in-None.ensures.variant.1)
