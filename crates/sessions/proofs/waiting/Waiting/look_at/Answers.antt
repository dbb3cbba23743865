use Rattle.std.proofs.Common.{◌≡◌, Some, ap, refl, slice_get, subst, sym, ◌∙◌}
use Rattle.std.specs.Map.{keys_of}
use Rattle.std.specs.Option.{option_copied_mut, option_map}
use Rattle.indexmap.proofs.CallerLemmas.{keys-with_value_at}
use Rattle.sessions.specs.Waiting.{StandState, WaitingState, asleep_at, place_of, share_in}
use Rattle.sessions.specs.Growing.{Counts, KeepsDues, Looks}
use Rattle.sessions.proofs.LookedAt.{looks_match, same_stand}
use Rattle.sessions.proofs.waiting.Waiting.look_at.Goals as goal

pub returns-clause-looks : goal.returns-clause-looks
returns-clause-looks g c =
    let es = c.self.inside.by_partition.entries in
    let key = c.in-Some.key.now in
    let found = sym c.get_index.ensures.entry ∙ ap (option_map (λ p. (p.0.now, p.1.now))) c.in-Some.is in
    let there = sym c.get_index_mut.ensures.value ∙ ap option_copied_mut c.in-Some-get_index_mut.is in
    let same = same_stand es c.args.index key c.in-Some.field-0-1.now c.in-Some-get_index_mut.stand.now found there in
    looks_match c.self.inside.by_partition c.args.index key c.in-Some-get_index_mut.stand.now c.look.new.stand c.get_index_mut.ensures.unique
    (subst (λ (x : StandState). slice_get es c.args.index ≡ Some (key, x)) same found) c.args.state.now c.args.noted c.args.self.now _
    (c.in-Some.ensures.value ∙ ap (λ x. Some x) same) (ap (λ (w : WaitingState). w.stands) c.self.view_is) refl
    (subst (λ place. Counts c.args.state.now place c.in-Some-get_index_mut.stand.now c.look.new.stand) c.place-place.ensures c.look.ensures.counts)
    (λ k. subst (λ (w : WaitingState). Looks c.args.state.now c.args.noted (place_of key) c.in-Some-get_index_mut.stand.now c.look.new.stand (share_in c.in-Some-get_index_mut.stand.now k) (asleep_at w.waits k) (asleep_at c.look.new.waits k)) c.self.view_is
    (subst (λ place. Looks c.args.state.now c.args.noted place c.in-Some-get_index_mut.stand.now c.look.new.stand (share_in c.in-Some-get_index_mut.stand.now k) (asleep_at c.self.inside.waits k) (asleep_at c.look.new.waits k)) c.place-place.ensures (c.look.ensures.each k)))
    (subst (λ (w : WaitingState). KeepsDues w.waits c.look.new.waits) c.self.view_is c.look.ensures.dues)
    (ap (λ (w : WaitingState). w.times) c.self.view_is)

pub returns-clause-keys : goal.returns-clause-keys
returns-clause-keys g c = keys-with_value_at c.self.inside.by_partition c.args.index c.look.new.stand ∙ ap (λ (w : WaitingState). keys_of w.stands) c.self.view_is
