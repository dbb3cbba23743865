-- What ties a policy's frames to what happens to a key of a partition.
use Rattle.std.specs.Prelude.{◌≡◌, ℕ, ℤ, ◌≤◌, List}
use Rattle.std.specs.List.{Contains}
use Rattle.cleaning_policy.specs.declared.values.Frame.{Frame}
use Rattle.cleaning_policy.specs.Histories.{Event}
use Rattle.cleaning_policy.specs.Histories.Event.{Over}
use Rattle.cleaning_policy.specs.Readers.{Act, IsAmong}
use Rattle.cleaning_policy.specs.Readers.Act.{Cleaned}

-- A pass up to there happened, by a time.
pub record HasHappened (acts : List Act) (time : ℕ) (upto : ℤ) : Type 0 where
  pub at : ℕ
  pub tomb_before : ℤ
  pub by_then : at ≤ time
  pub cleaned : IsAmong (Cleaned at upto tomb_before) acts

-- Each pass of a partition that a history has as over happened by then: a reply comes behind what it answers.
abbrev pub RepliesFollow : (h : List Event) (partition : ℕ) (acts : List Act) → Type 0
RepliesFollow h i acts = (t : ℕ) (f : Frame) → f.partition ≡ i → Contains h (Over t f) → HasHappened acts t f.upto
