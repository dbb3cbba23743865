-- By no frame nothing is noted; frames noted behind others are noted behind all. So is what is barred kept.
use Rattle.std.specs.Prelude.{◌≡◌, ◌⊎◌, ℕ, true, pos, List, [], ◌∷◌, ◌++◌, length}
use Rattle.std.specs.List.{AllByRecursion}
use Rattle.std.proofs.Common.{inl, inr, refl, sym, ap, subst, ◌∙◌, append_assoc, append-nil}
use Rattle.std.proofs.lemmas.Grind.{flat_map-append}
use Rattle.frame_fields.specs.Frames.{IsWithinLimit, framed, stream}
use Rattle.broker_state.specs.State.{State}
use Rattle.kept_sessions.specs.Replaying.{Replays}
use Rattle.kept_sessions.specs.Barring.{is_barred}
use Rattle.kept_sessions.specs.Noting.{NotesValue, NotesState, AnyInPart, Notes, HandlesFrames}

pub nothing_noted : (n : NotesValue) (s : State) → Notes n s n s
nothing_noted n s = record { noted = []; frames = sym (append-nil n.frames); within = tt; exact = λ suffices. (suffices, refl); in_part = λ lacks. inl lacks }

pub replays_then : (s mid after : State) (fs gs : List (List ℕ)) → Replays s fs mid → Replays mid gs after → Replays s (fs ++ gs) after
replays_then s mid after [] gs first others = subst (λ x. Replays x gs after) (sym first) others
replays_then s mid after (f ∷ fs) gs first others = (first.0, first.1, replays_then first.0 mid after fs gs first.2 others)

pub within_then : (fs gs : List (List ℕ)) → AllByRecursion (λ frame. IsWithinLimit (pos (length frame))) fs → AllByRecursion (λ frame. IsWithinLimit (pos (length frame))) gs
    → AllByRecursion (λ frame. IsWithinLimit (pos (length frame))) (fs ++ gs)
within_then [] gs first others = others
within_then (f ∷ fs) gs first others = (first.0, within_then fs gs first.1 others)

pub in_part_front : (fs gs : List (List ℕ)) → AnyInPart fs → AnyInPart (fs ++ gs)
in_part_front [] gs any = absurd any
in_part_front (f ∷ fs) gs (inl first) = inl first
in_part_front (f ∷ fs) gs (inr others) = inr (in_part_front fs gs others)

pub in_part_behind : (fs gs : List (List ℕ)) → AnyInPart gs → AnyInPart (fs ++ gs)
in_part_behind [] gs any = any
in_part_behind (f ∷ fs) gs any = inr (in_part_behind fs gs any)

pub in_part_then : {P Q : Type 0} (fs gs : List (List ℕ)) → (Q → P ⊎ AnyInPart fs) → Q ⊎ AnyInPart gs → P ⊎ AnyInPart (fs ++ gs)
in_part_then {P = P} fs gs first (inl before) = by (first before)
  where
    by : P ⊎ AnyInPart fs → P ⊎ AnyInPart (fs ++ gs)
    by (inl lacked) = inl lacked
    by (inr any) = inr (in_part_front fs gs any)
in_part_then fs gs first (inr any) = inr (in_part_behind fs gs any)

pub noted_then : (n m k : NotesValue) (s mid after : State) → Notes n s m mid → Notes m mid k after → Notes n s k after
noted_then n m k s mid after first others = record {
  noted = first.noted ++ others.noted;
  frames = others.frames ∙ (ap (λ x. x ++ stream others.noted) first.frames
      ∙ (append_assoc n.frames (stream first.noted) (stream others.noted) ∙ ap (λ x. n.frames ++ x) (sym (flat_map-append framed first.noted others.noted))));
  within = within_then first.noted others.noted first.within others.within;
  exact = λ suffices.
      let later = others.exact suffices in let before = first.exact later.0 in
      (before.0, replays_then s mid after first.noted others.noted before.1 later.1);
  in_part = λ lacks. in_part_then first.noted others.noted first.in_part (others.in_part lacks);
}

-- ---- what is barred

pub nothing_handled : (n : NotesState) (s : State) → HandlesFrames n s n s
nothing_handled n s = record { notes = nothing_noted n.notes s; barred = refl; keeps = λ place barred. refl }

pub handled_then : (n m k : NotesState) (s mid after : State) → HandlesFrames n s m mid → HandlesFrames m mid k after → HandlesFrames n s k after
handled_then n m k s mid after first others = record {
  notes = noted_then n.notes m.notes k.notes s mid after first.notes others.notes;
  barred = others.barred ∙ first.barred;
  keeps = λ place barred. others.keeps place (subst (λ bs. is_barred bs place ≡ true) (sym first.barred) barred) ∙ first.keeps place barred;
}
