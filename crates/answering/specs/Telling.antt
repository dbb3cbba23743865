-- Answers, beside which it is told whether memory sufficed for them. Kafka's documentation, "Protocol Guide": a response has an
-- error code for each partition.
use Rattle.std.specs.Prelude.{◌≡◌, ◌⊎◌, ℕ, List, ◌∷◌, ◌++◌, Option, None}
use Rattle.frame_fields.specs.Types.{TopicOf}
use Rattle.answering.specs.declared.memory.Memory.{Memory}
use Rattle.answering.specs.declared.memory.Memory.TheVariants.{Sufficed, Lacked, LackedInPart}
use Rattle.answering.specs.Refusals.{noted, of_all}
use Rattle.answering.specs.Work.{Work, IsAnswer, IsOutOfMemory}
use Rattle.answering.specs.Plans.{AnswersTopics, Plan}
use Rattle.answering.specs.Responding.{sent}

-- ---- one entry

-- The answer where memory suffices, or the one where it lacks. One entry doesn't lack it in part.
abbrev pub AnswersTold : {R S : Type 0} → Memory → Work R S → S → R → S → Type 0
AnswersTold Sufficed w s r after = IsAnswer w s r after
AnswersTold Lacked w s r after = IsOutOfMemory w s r after
AnswersTold LackedInPart w s r after = ⊥

-- the entry is answered, and the response is written behind the output
pub record WritesTold {R S : Type 0} (response : R → List ℕ) (w : Work R S) (s : S) (out out' : List ℕ) (memory : Memory) (after : S) : Type 0 where
  pub result : R
  pub answers : AnswersTold memory w s result after
  pub appends : out' ≡ out ++ response result

-- ---- entries, one after the other

-- The next entry is answered, and what is told of it is noted behind what was told of those before, which stands beside the
-- state.
pub record TellsNext {R S : Type 0} (w : Work R S) (before : S × Option Memory) (r : R) (after : S × Option Memory) : Type 0 where
  pub told : Memory
  pub answers : AnswersTold told w before.0 r after.0
  pub notes : after.1 ≡ noted before.1 told

-- what is sent, what is told and the state after
pub record RepliesTold {E R S B : Type 0} (p : Plan E R S B) (reply : Option (List ℕ)) (memory : Memory) (after : B) : Type 0 where
  pub results : List (TopicOf R)
  pub end : S
  pub told : Option Memory
  pub answers : AnswersTopics (λ before name e r after. TellsNext (p.work before.0 name e) before r after) (p.first, None) p.topics results (end, told)
  pub tells : memory ≡ of_all told
  pub sends : reply ≡ p.response results
  pub leaves : after ≡ p.after end

-- the output has that reply behind what it held
pub record RespondsTold {E R S B : Type 0} (p : Plan E R S B) (held held' : List ℕ) (memory : Memory) (after : B) : Type 0 where
  pub response : Option (List ℕ)
  pub replies : RepliesTold p response memory after
  pub appends : held' ≡ held ++ sent response

-- ---- replies that lack memory

-- an element of the first list and the one of the second at the same index are in this relation
abbrev pub AnyPair : {X Y : Type 0} → (X → Y → Type 0) → List X → List Y → Type 0
AnyPair F (x ∷ xs) (y ∷ ys) = F x y ⊎ AnyPair F xs ys
AnyPair F _ _ = ⊥

-- this is the result of an entry of a topic where its work lacks memory, in some state
abbrev pub LacksEntry : {E R S B : Type 0} → Plan E R S B → (name : List ℕ) → E → R → Type 0
LacksEntry {S = S} p name e r = (s after : S) × IsOutOfMemory (p.work s name e) s r after

-- one of the results of a plan's entries is
abbrev pub LacksAny : {E R S B : Type 0} → Plan E R S B → List (TopicOf R) → Type 0
LacksAny p results = AnyPair (λ t r. AnyPair (LacksEntry p t.name) t.entries r.entries) p.topics results

-- ---- replies for which it lacked in part

-- this is the result of an entry of a topic where memory suffices for its work, in some state
abbrev pub SufficesEntry : {E R S B : Type 0} → Plan E R S B → (name : List ℕ) → E → R → Type 0
SufficesEntry {S = S} p name e r = (s after : S) × IsAnswer (p.work s name e) s r after

-- one of the results of a plan's entries is
abbrev pub SufficesAny : {E R S B : Type 0} → Plan E R S B → List (TopicOf R) → Type 0
SufficesAny p results = AnyPair (λ t r. AnyPair (SufficesEntry p t.name) t.entries r.entries) p.topics results
