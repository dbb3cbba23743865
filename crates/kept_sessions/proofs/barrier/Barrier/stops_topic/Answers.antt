use Rattle.std.proofs.Common.{inl, [], ◌∷◌, rules, subst}
use Rattle.std.proofs.lemmas.Int.{to_z-of_z}
use Rattle.std.specs.Int.{w32}
use Rattle.broker_state.specs.Places.{IsPlaceOf}
use Rattle.kept_sessions.specs.Barring.{IsFree}
use Rattle.kept_sessions.proofs.Barred.{first_entry, met, passed}
use Rattle.kept_sessions.proofs.barrier.Barrier.stops_topic.Goals as goal

pub returns-in-Some-stops_at-clause-stops : goal.returns-in-Some-stops_at-clause-stops
returns-in-Some-stops_at-clause-stops g c =
    let s = c.args.state.now in
    let name = c.args.topic.name.now in
    let index = c.in-Some.entry.index in
    let place = c.in-Some-stops_at.place in
    let of = subst (λ p. IsPlaceOf s name p place) (to_z-of_z w32 index (search rules)) c.in-Some-stops_at.ensures.stops.1 in
    (c.in-Some-stops_at.ensures.stops.0, met c.args.self.now s _ (record { topic = name; partition = index } ∷ []) _ _ place (first_entry name _ _ _ c.in-Some.ensures.steps) (inl of) c.loop-entry.invariant)

pub loop-entry-preserved : goal.loop-entry-preserved
loop-entry-preserved g c =
    let s = c.args.state.now in
    let name = c.args.topic.name.now in
    let index = c.in-Some.entry.index in
    let free = subst (λ p. IsFree c.args.self.now s (record { topic = name; partition = p })) (to_z-of_z w32 index (search rules)) c.in-None-stops_at.ensures.passes in
    passed c.args.self.now s _ (record { topic = name; partition = index } ∷ []) _ _ (first_entry name _ _ _ c.in-Some.ensures.steps) (free, tt) c.loop-entry.invariant
