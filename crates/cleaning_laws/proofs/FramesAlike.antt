-- Frames that are answered, where memory suffices: what is replied is the reply, and two brokers that are alike answer them
-- alike, whatever Cleans stand between.
use Rattle.std.proofs.Common.{◌≡◌, ℕ, List, [], ◌∷◌, Option, refl, sym, ap, subst, ◌∙◌}
use Rattle.std.proofs.lemmas.List.Concat.{flat_map-cons}
use Rattle.request_frames.specs.Requests.{RequestValue}
use Rattle.answering.specs.Lists.{map_accum}
use Rattle.answering.specs.Responding.{sent}
use Rattle.broker_state.specs.declared.config.Role.TheVariants.{Follower}
use Rattle.broker_state.specs.State.{State}
use Rattle.broker_node.specs.Replies.{reply, Replies, MayReply}
use Rattle.broker_node.specs.Streams.{AreAnswered}
use Rattle.broker_node.proofs.PlannedReplies.{one_reply, may_be_replied}
use Rattle.cleaning_laws.specs.Logs.{Logs}
use Rattle.cleaning_laws.specs.Alike.{AreAlike, StayAlike}
use Rattle.cleaning_laws.specs.Cleans.{compared_replies, without_cleans, AreWithin, MayTrimAll, state_after}
use Rattle.cleaning_laws.specs.WithMemory.{AnsweredWithMemory}
use Rattle.cleaning_laws.specs.AnsweredFrames.{AnsweredFrame, frames_of, requests_of, responses_of, sent_for, AreAnsweredWithMemory, AreFramesWithin, AreAnsweredAlike}
use Rattle.cleaning_laws.proofs.WithMemory.{full_reply}
use Rattle.cleaning_laws.proofs.AllAlike.{all_alike, followers_alike}
use Rattle.cleaning_laws.proofs.SaidBytes.{request_within}

-- the responses and the state after are the replies', one after the other
pub full_replies : (s after : State) (answered : List AnsweredFrame) → AreAnsweredWithMemory s answered after → (responses_of answered, after) ≡ map_accum reply s (requests_of answered)
full_replies s after [] h = λ i. ([], sym h i)
full_replies s after (a ∷ answered) h =
    let first : (a.response, h.0) ≡ reply s a.request = full_reply s h.0 a.request a.response h.2 in
    let others = full_replies h.0 after answered h.3 in
    (λ i. ((first i).0 ∷ (others i).0, (others i).1))
    ∙ ap (λ (m : State). ((reply s a.request).0 ∷ (map_accum reply m (requests_of answered)).0, (map_accum reply m (requests_of answered)).1)) (ap (λ p. p.1) first)

may_be : (s after : State) (q : RequestValue) (out : Option (List ℕ)) → Replies AnsweredWithMemory s q out after → MayReply s q out after
may_be s after q out h = may_be_replied s after q out ((one_reply s after q out).1 (full_reply s after q out h))

-- the bytes that go out are an answer to the frames
pub full_answered : (s after : State) (answered : List AnsweredFrame) → AreAnsweredWithMemory s answered after → AreAnswered s (frames_of answered) (sent_for answered) after
full_answered s after [] h = (refl, h)
full_answered s after (a ∷ answered) h = (
  sent a.response,
  sent_for answered,
  h.0,
  record { request = a.request; response = a.response; reads = h.1; replies = may_be s h.0 a.request a.response h.2; sends = refl },
  flat_map-cons (λ (x : AnsweredFrame). sent x.response) a answered,
  full_answered h.0 after answered h.3,
)

frames_within : (first : State) (logs : Logs) (s after : State) (answered : List AnsweredFrame) → AreFramesWithin first logs answered → AreAnsweredWithMemory s answered after → AreWithin first logs (requests_of answered)
frames_within first logs s after [] within h = tt
frames_within first logs s after (a ∷ answered) within h =
    (request_within first logs a.frame a.request within.0.0 h.1 within.0.1, frames_within first logs h.0 after answered within.1 h.3)

module _ (logs : Logs) (s z after after' : State) (answered others : List AnsweredFrame) (alike : AreAlike logs s z) (within : AreFramesWithin s logs answered)
    (one : AreAnsweredWithMemory s answered after) (other : AreAnsweredWithMemory z others after')
    (may : MayTrimAll s (requests_of answered)) (other_may : MayTrimAll z (requests_of others)) (same : without_cleans (requests_of answered) ≡ without_cleans (requests_of others)) where
  first : (responses_of answered, after) ≡ map_accum reply s (requests_of answered)
  first = full_replies s after answered one

  second : (responses_of others, after') ≡ map_accum reply z (requests_of others)
  second = full_replies z after' others other

  are_within : AreWithin s logs (requests_of answered)
  are_within = frames_within s logs s after answered within one

  -- what holds of the states that the requests lead to holds of those that the frames did
  of_after : (A : State → State → Type 0) → A (state_after s (requests_of answered)) (state_after z (requests_of others)) → A after after'
  of_after A holds = subst (λ (m : State). A m after') (sym (ap (λ p. p.1) first)) (subst (A (state_after s (requests_of answered))) (sym (ap (λ p. p.1) second)) holds)

  pub frames_alike : AreAnsweredAlike logs after after' answered others
  frames_alike =
      let all = all_alike logs s z (requests_of answered) (requests_of others) alike are_within may other_may same in
      record {
        states = of_after (StayAlike logs) all.states;
        replies = ap (λ p. compared_replies (requests_of answered) p.0) first ∙ all.replies ∙ sym (ap (λ p. compared_replies (requests_of others) p.0) second);
      }

  pub follower_frames_alike : s.config.role ≡ Follower → AreAlike logs after after'
  follower_frames_alike follows =
      of_after (AreAlike logs) (followers_alike logs s z (requests_of answered) (requests_of others) alike follows are_within may other_may same)
