-- Answers as they are written behind an output, and the response that they make. Kafka's documentation, "Protocol Guide",
-- section "The Messages": a response that answers entries has a list of topics, each with its name and a list of answers.
use Rattle.std.specs.Prelude.{◌≡◌, ℕ, ℤ, ◌+◌, ◌*◌, List, [], ◌∷◌, ◌++◌, length, map}
use Rattle.responses.specs.declared.parts.TheConstants.{RESPONSE_HEAD_BYTES, COUNT_BYTES, TOPIC_HEAD_BYTES}
use Rattle.frame_fields.specs.Fields.{Fields, Value, size32, be, elements}
use Rattle.frame_fields.specs.Types.{TopicOf, topic}
use Rattle.frame_fields.specs.Arrays.{ArrayBytes, values}
use Rattle.frame_fields.specs.Frames.{framed}
use Rattle.responses.specs.Responses.{topic_bytes}
use Rattle.answering.specs.Plans.{AnswersTopics}

-- what was there stands in front of what is there now
abbrev pub Begins : List ℕ → List ℕ → Type 0
Begins old new = (more : List ℕ) × (new ≡ old ++ more)

-- a topic of a request as its fields say it: the name, and the fields of each entry
abbrev pub topic_said : (d : Fields) → Value (topic d) → TopicOf (Value d)
topic_said d t = record { name = t.0; entries = t.1.0 }

abbrev pub topics_said : (d : Fields) → ArrayBytes → List (TopicOf (Value d))
topics_said d topics = map (topic_said d) (values (topic d) topics)

-- A way to answer entries, as a way to answer what their fields say.
abbrev pub Said : {E V R S : Type 0} → (E → V) → (S → List ℕ → E → R → S → Type 0) → S → List ℕ → V → R → S → Type 0
Said {E = E} value A s name v r after = (e : E) × (value e ≡ v) × A s name e r after

-- an entry of a topic is answered, and the answer's encoding is written behind the output
pub record Writes {E R S : Type 0} (A : S → List ℕ → E → R → S → Type 0) (enc : R → List ℕ) (s : S) (name : List ℕ) (e : E) (out out' : List ℕ) (after : S) : Type 0 where
  pub result : R
  pub answers : A s name e result after
  pub appends : out' ≡ out ++ enc result

-- the topics of a request are answered, and the response stands behind the output: fields, the topics, and more fields
pub record Responds {V R S : Type 0} (A : S → List ℕ → V → R → S → Type 0) (enc : R → List ℕ) (correlation : ℤ) (before : List ℕ) (s : S) (ts : List (TopicOf V)) (ahead : List ℕ) (out out' : List ℕ) (after : S) : Type 0 where
  pub results : List (TopicOf R)
  pub answers : AnswersTopics A s ts results after
  pub appends : out' ≡ out ++ framed (be size32 correlation ++ (before ++ elements (topic_bytes enc) results ++ ahead))

-- ---- room, where each answer has so many bytes

abbrev pub topic_room : (size : ℕ) (name : List ℕ) (count : ℕ) → ℕ
topic_room size name count = TOPIC_HEAD_BYTES + length name + size * count

abbrev pub topics_room : {V : Type 0} → (size : ℕ) → List (TopicOf V) → ℕ
topics_room size [] = 0
topics_room size (t ∷ ts) = topic_room size t.name (length t.entries) + topics_room size ts

-- a response with so many bytes around its topics
abbrev pub response_room : {V : Type 0} → (size around : ℕ) → List (TopicOf V) → ℕ
response_room size around ts = RESPONSE_HEAD_BYTES + COUNT_BYTES + around + topics_room size ts
