-- When two brokers can't be told apart but by what they keep: they hold copies of the same logs, in the same partitions,
-- which have the same start and have seen the same offsets, and they give out the same producer id next.
use Rattle.std.specs.Prelude.{◌≡◌, ℕ, ℤ, List, map}
use Rattle.cover_ranges.specs.Runs.{Runs}
use Rattle.content.specs.Content.{Content}
use Rattle.broker_state.specs.State.{Topic, State}
use Rattle.cleaning_laws.specs.Logs.{Logs, Grows, IsStateOf}

-- what of a partition doesn't depend on what is kept
pub record Seen : Type 0 where
  pub start : ℤ
  pub cover : Runs

pub record SeenTopic : Type 0 where
  pub name : List ℕ
  pub partitions : List Seen

abbrev pub seen_of : Content → Seen
seen_of c = record { start = c.start; cover = c.cover }

abbrev pub seen_topic : Topic → SeenTopic
seen_topic t = record { name = t.name; partitions = map seen_of t.partitions }

-- the topics' names, their order, how many partitions each has, and the starts and covers of these
abbrev pub seen_topics : State → List SeenTopic
seen_topics s = map seen_topic s.topics

pub record AreAlike (logs : Logs) (s z : State) : Type 0 where
  pub one : IsStateOf logs s
  pub other : IsStateOf logs z
  pub config : s.config ≡ z.config
  pub seen : seen_topics s ≡ seen_topics z
  pub next_producer : s.next_producer ≡ z.next_producer

-- they are states of the same logs, which may have grown
pub record StayAlike (logs : Logs) (s z : State) : Type 0 where
  pub longer : Logs
  pub grows : Grows logs longer
  pub alike : AreAlike longer s z
