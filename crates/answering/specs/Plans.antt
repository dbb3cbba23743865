-- Requests that are answered entry by entry: how one is answered, once as a function, and once as what may be answered
-- where memory runs out in some entries. Both are read from one plan.
use Rattle.std.specs.Prelude.{◌≡◌, ℕ, List, [], ◌∷◌, Option}
use Rattle.frame_fields.specs.Types.{TopicOf}
use Rattle.answering.specs.Lists.{map_accum}
use Rattle.answering.specs.Work.{Work, answer}

-- ---- over topics

-- a topic's entries, each in the state that the one before it leaves
abbrev pub over_entries : {E R S : Type 0} → (S → List ℕ → E → R × S) → S → TopicOf E → TopicOf R × S
over_entries f s t =
    let all = map_accum (λ s e. f s t.name e) s t.entries in (record { name = t.name; entries = all.0 }, all.1)

abbrev pub over_topics : {E R S : Type 0} → (S → List ℕ → E → R × S) → S → List (TopicOf E) → List (TopicOf R) × S
over_topics f s ts = map_accum (over_entries f) s ts

-- each of the first list is answered by one of the second, in the state that the one before it leaves
abbrev pub AnswersAll : {S X Y : Type 0} → (S → X → Y → S → Type 0) → S → List X → List Y → S → Type 0
AnswersAll A s [] [] end = s ≡ end
AnswersAll {S = S} A s (x ∷ xs) (y ∷ ys) end = (m : S) × A s x y m × AnswersAll A m xs ys end
AnswersAll A s [] (y ∷ ys) end = ⊥
AnswersAll A s (x ∷ xs) [] end = ⊥

abbrev pub AnswersTopic : {E R S : Type 0} → (S → List ℕ → E → R → S → Type 0) → S → TopicOf E → TopicOf R → S → Type 0
AnswersTopic A s t r end = (r.name ≡ t.name) × AnswersAll (λ s e y m. A s t.name e y m) s t.entries r.entries end

abbrev pub AnswersTopics : {E R S : Type 0} → (S → List ℕ → E → R → S → Type 0) → S → List (TopicOf E) → List (TopicOf R) → S → Type 0
AnswersTopics A s ts rs end = AnswersAll (AnswersTopic A) s ts rs end

-- ---- plans

-- Entries `E` are answered by results `R`, in a state `S` that each entry's work may change: the broker's own, or what
-- else the entries of one request share. `response` is what is sent, `after` the broker's state `B` in the end.
pub record Plan (E R S B : Type 0) : Type 0 where
  pub topics : List (TopicOf E)
  pub work : S → List ℕ → E → Work R S
  pub first : S
  pub response : List (TopicOf R) → Option (List ℕ)
  pub after : S → B

-- what is sent, and the state after, where memory suffices
abbrev pub reply_by : {E R S B : Type 0} → Plan E R S B → Option (List ℕ) × B
reply_by p =
    let all = over_topics (λ s name e. answer (p.work s name e) s) p.first p.topics in
    (p.response all.0, p.after all.1)

-- a way in which an entry's work may be answered: the result, and the state after
abbrev pub HowAnswered : Type 1
HowAnswered = (R S : Type 0) → Work R S → S → R → S → Type 0

-- what is sent and the state after, where each entry is answered in such a way
pub record RepliesBy {E R S B : Type 0} (A : HowAnswered) (p : Plan E R S B) (reply : Option (List ℕ)) (after : B) : Type 0 where
  pub results : List (TopicOf R)
  pub end : S
  pub answers : AnswersTopics (λ s name e r m. A R S (p.work s name e) s r m) p.first p.topics results end
  pub sends : reply ≡ p.response results
  pub leaves : after ≡ p.after end
