-- What a broker keeps in its directory, by the numbers of the files' names, and what a start makes of it. Both are this
-- project's own; Kafka's documentation has its like in "Operations", section "Snapshots" of KRaft (a snapshot, and the
-- records behind it).
use Rattle.std.specs.Prelude.{◌≡◌, ℕ, zero, suc, ◌+◌, ◌<◌, List, [], ◌++◌, Option, Some, None}

-- How lists of frames lead from one state to another, where they do: the empty one to the same state; two, one behind the
-- other, where the first leads to some state and the second from there; and one list to one state. Where the empty list leads
-- from one to the other the two count as the same: they may be brokers that hold the same.
pub record IsLeading {X F : Type 0} (leads : X → List F → X → Type 0) : Type 0 where
  pub empty : (s : X) → leads s [] s
  pub joins : (s mid after : X) (frames others : List F) → leads s frames mid → leads mid others after → leads s (frames ++ others) after
  pub parts : (s after : X) (frames others : List F) → leads s (frames ++ others) after → (mid : X) × leads s frames mid × leads mid others after
  pub one_state : (s after other : X) (frames : List F) → leads s frames after → leads s frames other → leads after [] other

-- Of each number the state in the snapshot that has this name, and the frames in the journal. `X` are states, `F` frames.
pub record Files (X F : Type 0) : Type 0 where
  pub snapshot : ℕ → Option X
  pub journal : ℕ → Option (List F)

-- so many journals stand in a row, from a number on, and these are their frames, in order
abbrev pub InARow : {X F : Type 0} → Files X F → (from count : ℕ) → List F → Type 0
InARow d from zero frames = frames ≡ []
InARow {F = F} d from (suc n) frames =
    (first : List F) × (others : List F) × (d.journal from ≡ Some first) × (frames ≡ first ++ others) × InARow d (suc from) n others

-- The highest snapshot, and a row of journals that begins with the one of its number; behind them there is none.
pub record IsHighest {X F : Type 0} (d : Files X F) (number : ℕ) (base : X) (count : ℕ) (frames : List F) : Type 0 where
  pub snapshot : d.snapshot number ≡ Some base
  pub highest : (m : ℕ) → number < m → d.snapshot m ≡ None
  pub row : InARow d number (suc count) frames
  pub no_later : (m : ℕ) → number + count < m → d.journal m ≡ None

-- What a start comes to: a state to which the frames of the journals lead from the highest snapshot's.
pub record IsRecovered {X F : Type 0} (leads : X → List F → X → Type 0) (d : Files X F) (recovered : X) : Type 0 where
  pub number : ℕ
  pub base : X
  pub count : ℕ
  pub frames : List F
  pub found : IsHighest d number base count frames
  pub led : leads base frames recovered

-- A directory keeps these frames, which began in a first state: some first ones led to the highest snapshot, and the others
-- stand in the journals.
pub record Keeps {X F : Type 0} (leads : X → List F → X → Type 0) (first : X) (frames : List F) (d : Files X F) : Type 0 where
  pub number : ℕ
  pub base : X
  pub count : ℕ
  pub before : List F
  pub behind : List F
  pub found : IsHighest d number base count behind
  pub led : leads first before base
  pub all : frames ≡ before ++ behind
