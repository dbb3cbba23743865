-- Work that two states do alike: one entry's, and that of all entries of a request.
use Rattle.std.proofs.Common.{◌≡◌, ℕ, List, ◌++◌, Option, Some, None, refl, subst}
use Rattle.frame_fields.specs.Types.{TopicOf}
use Rattle.answering.specs.declared.codes.ErrorCode.{ErrorCode}
use Rattle.answering.specs.Lists.{first_some}
use Rattle.answering.specs.Work.{Work, answer_after, answer}
use Rattle.answering.specs.Plans.{over_topics}
use Rattle.broker_state.specs.State.{State}
use Rattle.cleaning_laws.specs.Logs.{Logs}
use Rattle.cleaning_laws.specs.Alike.{AreAlike, StayAlike}
use Rattle.cleaning_laws.specs.Settled.{EachEntry}
use Rattle.cleaning_laws.proofs.TopicsAlike.{Same, topics_same}
use Rattle.cleaning_laws.proofs.GrownLogs.{stay, stay_on}

-- Where the first fault is the same, a fault is answered alike, and without one both do alike, the answers are alike. The
-- states are related in any way.
pub same_by : {R : Type 0} (A : State → State → Type 0) (s z : State) (w v : Work R State) → A s z → first_some (w.early ++ w.late) ≡ first_some (v.early ++ v.late)
    → ((code : ErrorCode) → w.failed code ≡ v.failed code) → (first_some (w.early ++ w.late) ≡ None → Same A w.done v.done)
    → Same A (answer w s) (answer v z)
same_by A s z w v related faults failed done =
    subst (λ (o : Option ErrorCode). Same A (answer w s) (answer_after o v z)) faults (by (first_some (w.early ++ w.late)) refl)
  where
    by : (o : Option ErrorCode) → first_some (w.early ++ w.late) ≡ o → Same A (answer_after o w s) (answer_after o v z)
    by None e = done e
    by (Some code) e = (failed code, related)

pub same_work : {R : Type 0} (logs : Logs) (s z : State) (w v : Work R State) → AreAlike logs s z → first_some (w.early ++ w.late) ≡ first_some (v.early ++ v.late)
    → ((code : ErrorCode) → w.failed code ≡ v.failed code) → (first_some (w.early ++ w.late) ≡ None → Same (StayAlike logs) w.done v.done)
    → Same (StayAlike logs) (answer w s) (answer v z)
same_work logs s z w v alike = same_by (StayAlike logs) s z w v (stay logs s z alike)

-- so all entries are answered alike, where each is in states that are alike
module _ {E R : Type 0} (work : State → List ℕ → E → Work R State) (P : List ℕ → E → Type 0) where
  pub works_alike : ((logs : Logs) (s z : State) (name : List ℕ) (e : E) → P name e → AreAlike logs s z → Same (StayAlike logs) (answer (work s name e) s) (answer (work z name e) z))
      → (logs : Logs) (s z : State) (ts : List (TopicOf E)) → EachEntry P ts → AreAlike logs s z
      → Same (StayAlike logs) (over_topics (λ s name e. answer (work s name e) s) s ts) (over_topics (λ s name e. answer (work s name e) s) z ts)
  works_alike entry logs s z ts each alike = topics_same (λ s name e. answer (work s name e) s) (StayAlike logs) P step s z ts each (stay logs s z alike)
    where
      step : (s z : State) (name : List ℕ) (e : E) → P name e → StayAlike logs s z → Same (StayAlike logs) (answer (work s name e) s) (answer (work z name e) z)
      step s z name e p so_far =
          let next = entry so_far.longer s z name e p so_far.alike in
          (next.0, stay_on logs s z (answer (work s name e) s).1 (answer (work z name e) z).1 so_far next.1)
