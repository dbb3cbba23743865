-- Frames that are handled again in two brokers that hold the same lead to two that hold the same.
use Rattle.std.proofs.Common.{ℕ, List, [], ◌∷◌, refl, subst}
use Rattle.broker_state.specs.State.{ConfigValue, State, new_state}
use Rattle.exact_replies.specs.SameHeld.{AskForTheSame, HoldTheSame}
use Rattle.exact_replies.proofs.SameChanges.{changed_alike}
use Rattle.exact_replies.proofs.SameStarts.{begin_alike}
use Rattle.kept_sessions.specs.Replaying.{Replays}

pub replayed_alike : (s t after : State) (frames : List (List ℕ)) → HoldTheSame s t → Replays s frames after → (other : State) × Replays t frames other × HoldTheSame after other
replayed_alike s t after [] hold replays = (t, refl, subst (λ (m : State). HoldTheSame m t) replays hold)
replayed_alike s t after (frame ∷ frames) hold replays =
    let first = replays.1 in
    let next = changed_alike s t replays.0 first.request first.response hold first.changes first.replies in
    let others = replayed_alike replays.0 next.0 after frames next.2 replays.2 in (
      others.0,
      (
        next.0,
        record {
          request = first.request;
          reads = first.reads;
          changes = first.changes;
          response = first.response;
          replies = next.1;
        },
        others.1,
      ),
      others.2,
    )

pub started_alike : (g h : ConfigValue) (after : State) (frames : List (List ℕ)) → AskForTheSame g h → Replays (new_state g) frames after → (other : State) × Replays (new_state h) frames other × HoldTheSame after other
started_alike g h after frames same = replayed_alike (new_state g) (new_state h) after frames (begin_alike g h same)
