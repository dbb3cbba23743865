use Rattle.std.proofs.Common.{◌≡◌, ◌<◌, ◌≤◌, true, take, ◌+◌, ap, refl, rules, subst, sym, ◌∙◌}
use Rattle.std.specs.Prelude.{is_some}
use Rattle.std.specs.List.{list_any}
use Rattle.std.specs.Int.{w32}
use Rattle.std.specs.Map.{keys_of}
use Rattle.std.proofs.lemmas.Int.{to_z-of_z}
use Rattle.broker_state.specs.Places.{IsPlaceOf}
use Rattle.sessions.specs.Waiting.{WaitingState, is_same_key, key_of, stand_at}
use Rattle.sessions.specs.Asleep.{is_marked}
use Rattle.sessions.proofs.Marked.{is_there, marked_at, nobody_at, nobody_there, now_marked, still_marked, swapped_keys, within_keys}
use Rattle.sessions.proofs.waiting.Waiting.mark.Goals as goal

pub returns-in_default-get_index_of : goal.returns-in_default-get_index_of
returns-in_default-get_index_of g c =
    let of = subst (λ p. IsPlaceOf c.args.state.now c.args.topic.now p c.in-Some.place) (to_z-of_z w32 c.args.partition (search rules)) c.in-Some.ensures.found in
    let none = nobody_at _ c.args.self.now c.of.result (key_of c.in-Some.place) c.self.view_is c.of.ensures (sym c.get_index_of.ensures.found ∙ ap is_some c.in_default-get_index_of.is) in
    record { marks = nobody_there c.args.state.now c.args.self.now c.args.self.now c.args.topic.now c.args.partition c.in-Some.place of refl none }

pub returns-then-index-self : goal.returns-then-index-self
returns-then-index-self g c =
    let of = subst (λ p. IsPlaceOf c.args.state.now c.args.topic.now p c.in-Some.place) (to_z-of_z w32 c.args.partition (search rules)) c.in-Some.ensures.found in
    let less : c.in-Some-get_index_of.index < c.self.inside.marked = search rules in
    let here = ap (λ (w : WaitingState). is_marked w c.of.result) (sym c.self.view_is) ∙ marked_at (keys_of c.self.inside.by_partition.entries) c.self.inside.marked c.in-Some-get_index_of.index c.of.result (sym c.get_index_of.ensures.index ∙ c.in-Some-get_index_of.is) less in
    record { marks = is_there c.args.state.now c.args.self.now c.args.self.now c.args.topic.now c.args.partition c.in-Some.place of refl refl (λ key. refl) (λ key is. is) (ap (is_marked c.args.self.now) (sym c.of.ensures) ∙ here) }

pub returns : goal.returns
returns g c =
    let of = subst (λ p. IsPlaceOf c.args.state.now c.args.topic.now p c.in-Some.place) (to_z-of_z w32 c.args.partition (search rules)) c.in-Some.ensures.found in
    let behind : c.self.inside.marked ≤ c.in-Some-get_index_of.index = search rules in
    let es = c.self.inside.by_partition.entries in
    let fs = c.swap_indices.new.self.entries in
    let swapped = swapped_keys es fs c.in-Some-get_index_of.index c.self.inside.marked c.swap_indices.ensures.entries in
    let within = within_keys es c.in-Some-get_index_of.index c.in-Some-get_index_of.ensures.within in
    let this = now_marked (keys_of es) (keys_of fs) c.self.inside.marked c.in-Some-get_index_of.index behind within swapped c.of.result (sym c.get_index_of.ensures.index ∙ c.in-Some-get_index_of.is) in
    record {
      marks = is_there c.args.state.now c.args.self.now _ c.args.topic.now c.args.partition c.in-Some.place of
          (ap (λ (w : WaitingState). w.waits) c.self.view_is) (ap (λ (w : WaitingState). w.times) c.self.view_is)
          (λ key. c.swap_indices.ensures.reordered.2 key ∙ ap (λ (w : WaitingState). stand_at w key) c.self.view_is)
          (λ key is. still_marked (keys_of es) (keys_of fs) c.self.inside.marked c.in-Some-get_index_of.index behind within swapped key (ap (λ (w : WaitingState). is_marked w key) c.self.view_is ∙ is))
          (subst (λ key. list_any (is_same_key key) (take (c.self.inside.marked + 1) (keys_of fs)) ≡ true) c.of.ensures this);
    }
