-- The parts of a response, as the code writes them one after the other; no public clause names them.
use Rattle.std.specs.Prelude.{◌≡◌, ◌≤◌, ℕ, ℤ, ◌+◌, List, ◌++◌, length, Option, Some}
use Rattle.std.specs.List.{flat_map}
use Rattle.frame_fields.specs.Fields.{elements}
use Rattle.frame_fields.specs.Types.{TopicOf}
use Rattle.responses.specs.Responses.{response_head, topic_bytes}
use Rattle.answering.specs.Plans.{AnswersAll, AnswersTopic, AnswersTopics}

-- a topic is answered, and the answer is written behind the output
pub record WritesTopic {V R S : Type 0} (A : S → List ℕ → V → R → S → Type 0) (enc : R → List ℕ) (s : S) (t : TopicOf V) (out out' : List ℕ) (after : S) : Type 0 where
  pub result : TopicOf R
  pub answers : AnswersTopic A s t result after
  pub appends : out' ≡ out ++ topic_bytes enc result

-- the same of topics
pub record WritesTopics {V R S : Type 0} (A : S → List ℕ → V → R → S → Type 0) (enc : R → List ℕ) (s : S) (ts : List (TopicOf V)) (out out' : List ℕ) (after : S) : Type 0 where
  pub results : List (TopicOf R)
  pub answers : AnswersTopics A s ts results after
  pub as_many : length results ≡ length ts
  pub appends : out' ≡ out ++ flat_map (topic_bytes enc) results

-- the same of a request; the response stands behind a size that is not set yet
pub record WritesResponse {V R S : Type 0} (A : S → List ℕ → V → R → S → Type 0) (enc : R → List ℕ) (correlation : ℤ) (before : List ℕ) (s : S) (ts : List (TopicOf V)) (ahead : List ℕ) (out out' : List ℕ) (after : S) : Type 0 where
  pub results : List (TopicOf R)
  pub answers : AnswersTopics A s ts results after
  pub appends : out' ≡ out ++ response_head correlation ++ (before ++ elements (topic_bytes enc) results ++ ahead)

-- ---- in a loop

-- the way to answer in a topic of that name
abbrev pub InTopic : {V R S : Type 0} → (S → List ℕ → V → R → S → Type 0) → (name : List ℕ) → S → V → R → S → Type 0
InTopic A name s v r after = A s name v r after

-- Of all of a list, some first ones were answered, and those that are left are still to be answered.
abbrev pub SoFar : {S X Y : Type 0} → (S → X → Y → S → Type 0) → (first : S) (all : List X) (now : S) (left : List X) (done : List Y) → Type 0
SoFar {S = S} {Y = Y} A first all now left done =
    (more : List Y) (end : S) → AnswersAll A now left more end → AnswersAll A first all (done ++ more) end

-- some first ones were answered, and the answers are written behind what stands in front
pub record WritesSoFar {S X Y : Type 0} (A : S → X → Y → S → Type 0) (enc : Y → List ℕ) (first : S) (all : List X) (front : List ℕ) (now : S) (left : List X) (out : List ℕ) : Type 0 where
  pub done : List Y
  pub answers : SoFar A first all now left done
  pub appends : out ≡ front ++ flat_map enc done
  pub counts : length done + length left ≡ length all

-- where answers have a size, what is written and the room for what is left make the room for all, which is still there
abbrev pub FitsSoFar : (size : Option ℕ) (all left : ℕ → ℕ) (len held capacity held_capacity : ℕ) → Type 0
FitsSoFar size all left len held capacity held_capacity =
    (n : ℕ) → size ≡ Some n → (len + left n ≡ held + all n) × (held_capacity ≤ capacity)
