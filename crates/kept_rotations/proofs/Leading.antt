-- How events lead on.
use Rattle.std.proofs.Common.{◌≡◌, ℕ, List, [], ◌∷◌, ◌++◌, refl, sym, subst, ◌∙◌, inl, inr}
use Rattle.broker_state.specs.State.{State}
use Rattle.kept_sessions.specs.Replaying.{Replays}
use Rattle.kept_rotations.specs.Events.{Event, Leads, LeadsBy}
use Rattle.rotation_laws.specs.Directories.{IsLeading}

joined : (s mid after : State) (events others : List Event) → Leads s events mid → Leads mid others after → Leads s (events ++ others) after
joined s mid after [] others first then = subst (λ x. Leads x others after) (sym first) then
joined s mid after (e ∷ events) others first then = (first.0, first.1, joined first.0 mid after events others first.2 then)

in_parts : (s after : State) (events others : List Event) → Leads s (events ++ others) after → (mid : State) × Leads s events mid × Leads mid others after
in_parts s after [] others all = (s, refl, all)
in_parts s after (e ∷ events) others all = let left = in_parts all.0 after events others all.2 in (left.0, (all.0, all.1, left.1), left.2)

module _ (one : (s after other : State) (frames : List (List ℕ)) → Replays s frames after → Replays s frames other → after ≡ other) where
  by_one : (s after other : State) (e : Event) → LeadsBy s e after → LeadsBy s e other → after ≡ other
  by_one s after other (inl frame) first again = one s after other (frame ∷ []) (after, first, refl) (other, again, refl)
  by_one s after other (inr asked) first again = first ∙ sym again

  one_state : (s after other : State) (events : List Event) → Leads s events after → Leads s events other → after ≡ other
  one_state s after other [] first again = sym first ∙ again
  one_state s after other (e ∷ events) first again =
      let mids : first.0 ≡ again.0 = by_one s first.0 again.0 e first.1 again.1 in
      one_state again.0 after other events (subst (λ x. Leads x events after) mids first.2) again.2

  pub leads_on : IsLeading Leads
  leads_on = record {
    empty = λ s. refl;
    joins = joined;
    parts = in_parts;
    one_state = one_state;
  }
