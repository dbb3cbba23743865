use Rattle.std.proofs.Common.{◌≢◌, refl, subst, ◌∙◌}
use Rattle.std.proofs.lemmas.List.{take_all}
use Rattle.sessions.specs.Waiting.{StandsAtNone}
use Rattle.sessions.proofs.Standing.{keeps_both, one_left}
use Rattle.sessions.proofs.waiting.Waiting.remove_from.Goals as goal

pub loop-place-preserved : goal.loop-place-preserved
loop-place-preserved g c =
    let so_far = c.loop-place.invariant in (
      c.remove_at.ensures.waits ∙ so_far.0,
      c.remove_at.ensures.times ∙ so_far.1,
      keeps_both (λ k. k ≢ c.args.number) c.args.self.now c.loop-place.self c.remove_at.new.self so_far.2 c.remove_at.ensures.stands,
      one_left c.args.number c.args.places.now c.loop-place.place-index _ _ c.loop-place.self c.remove_at.new.self c.loop-place-test.true refl c.remove_at.ensures.stands c.remove_at.ensures.gone so_far.3,
    )

pub returns-clause-gone : goal.returns-clause-gone
returns-clause-gone g c = subst (λ keys. StandsAtNone c.args.number keys c.loop-place.self) (take_all c.loop-place.place-index c.args.places.now c.loop-place-test.false) c.loop-place.invariant.3
