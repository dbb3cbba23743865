-- One state comes of frames that are handled again.
use Rattle.std.proofs.Common.{◌≡◌, ℕ, List, [], ◌∷◌, length, sym, ap, subst, ◌∙◌, Option, inl, arith}
use Rattle.request_frames.specs.Requests.{RequestValue}
use Rattle.request_frames.proofs.OneOutcome.{one_request}
use Rattle.frame_fields.specs.Frames.{HasNoFrame}
use Rattle.frame_fields.proofs.FramesCut.{one_cutting}
use Rattle.broker_state.specs.State.{State}
use Rattle.sessions.specs.Below.{IsReply}
use Rattle.sessions.proofs.Below.{one_reply}
use Rattle.kept_sessions.specs.Replaying.{IsHandled, Replays, ReplaysFrames}

one_after : (s a b : State) (q r : RequestValue) (out other : Option (List ℕ)) → q ≡ r → IsReply s q out a → IsReply s r other b → a ≡ b
one_after s a b q r out other same first again =
    ap (λ x. x.1) ((one_reply s a r out).0 (subst (λ (x : RequestValue). IsReply s x out a) same first) ∙ sym ((one_reply s b r other).0 again))

handled_once : (s a b : State) (frame : List ℕ) → IsHandled s frame a → IsHandled s frame b → a ≡ b
handled_once s a b frame first again = one_after s a b first.request again.request first.response again.response (one_request frame first.request again.request first.reads again.reads) first.replies again.replies

pub one_state : (s after other : State) (frames : List (List ℕ)) → Replays s frames after → Replays s frames other → after ≡ other
one_state s after other [] first again = sym first ∙ again
one_state s after other (frame ∷ frames) first again =
    let same = handled_once s first.0 again.0 frame first.1 again.1 in
    one_state again.0 after other frames (subst (λ (x : State). Replays x frames after) same first.2) again.2

-- no byte is left
nothing_left : HasNoFrame []
nothing_left = inl (inl (omega arith))

pub of_bytes : (bytes : List ℕ) (s after other : State) (count other_count : ℕ) → ReplaysFrames bytes s after count → ReplaysFrames bytes s other other_count → (after ≡ other) × (count ≡ other_count)
of_bytes bytes s after other count other_count first again =
    let same = (one_cutting bytes [] [] first.frames again.frames first.cut nothing_left again.cut nothing_left).0 in
    (one_state s after other again.frames (subst (λ (fs : List (List ℕ)). Replays s fs after) same first.replays) again.replays, sym first.counts ∙ (ap length same ∙ again.counts))
