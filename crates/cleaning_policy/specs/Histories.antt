-- What is said to a policy and what it gives, over any time, and the law on its frames.
use Rattle.std.specs.Prelude.{◌≡◌, ◌⊎◌, ℕ, ℤ, pos, ◌+◌, ◌≤◌, List, [], ◌∷◌, ◌++◌, Option, Some, None}
use Rattle.std.specs.List.{Contains}
use Rattle.cleaning_policy.specs.declared.values.Extent.{Extent}
use Rattle.cleaning_policy.specs.declared.values.Frame.{Frame}
use Rattle.cleaning_policy.specs.declared.values.Mark.{Mark}
use Rattle.cleaning_policy.specs.declared.values.Marks.{Marks}
use Rattle.cleaning_policy.specs.declared.values.Pass.{Pass}
use Rattle.cleaning_policy.specs.declared.values.Settings.{Settings}
use Rattle.cleaning_policy.specs.Marking.{by_now}
use Rattle.cleaning_policy.specs.Policies.{Known, new_policy, with_partition, told, put_back, cleaned, given_up, next_pass, behind_pass}

-- ---- calls

-- What is said to a policy, at a time: a partition is there; what it has; what was kept of its passes over a restart; give the
-- next frame; the frame was done, and left so many bytes; the frame was refused.
pub data Call : Type 0 where
  Add : (now : ℕ) → Call
  Tell : (now partition : ℕ) → Extent → Call
  PutBack : (now partition : ℕ) → Marks → Call
  Next : (now : ℕ) → Call
  Clean : (now bytes : ℕ) → Call
  GiveUp : (now : ℕ) → Call

-- the policy behind a call
abbrev pub after : Call → Known → Known
after (Add now) v = with_partition now v
after (Tell now i x) v = told now i x v
after (PutBack now i m) v = put_back now i m v
after (Next now) v = behind_pass now v (next_pass now v v.pass)
after (Clean now bytes) v = cleaned now bytes v v.pass
after (GiveUp now) v = given_up now v v.pass

-- the policy behind some calls, of which the latest stands first
abbrev pub behind : Settings → List Call → Known
behind o [] = new_policy o
behind o (call ∷ before) = after call (behind o before)

-- ---- what happened

-- A policy was told at a time what a partition has; a pass was over by a time.
pub data Event : Type 0 where
  Told : (time partition : ℕ) → Extent → Event
  Over : (time : ℕ) → Frame → Event

-- what a mark says that is put back: a pass up to there was over by then
abbrev pub said_by : (partition : ℕ) → Option Mark → List Event
said_by i None = []
said_by i (Some m) = Over m.ended (record { partition = i; upto = m.upto; tomb_before = pos 0 }) ∷ []

-- the pass that was under way is over now
abbrev pub over_by : (now : ℕ) → Option Pass → List Event
over_by now None = []
over_by now (Some q) = Over now q.frame ∷ []

-- what a call says that happened, of a policy. Marks that are put back are taken at their word, at the latest now
abbrev pub said : Call → Known → List Event
said (Tell now i x) v = Told now i x ∷ []
said (PutBack now i m) v = said_by i (by_now now m.older) ++ said_by i (by_now now m.newest)
said (Clean now bytes) v = over_by now v.pass
said _ v = []

-- what happened by some calls, the latest first
abbrev pub history : Settings → List Call → List Event
history o [] = []
history o (call ∷ before) = said call (behind o before) ++ history o before

-- ---- the law

-- at this time this offset was told as a partition's end
pub record WasEnd (h : List Event) (partition time : ℕ) (end : ℤ) : Type 0 where
  pub extent : Extent
  pub is_end : extent.end ≡ end
  pub told : Contains h (Told time partition extent)

-- by this time a pass of a partition was over that cleaned it up to this offset
pub record WasCleaned (h : List Event) (partition time : ℕ) (upto : ℤ) : Type 0 where
  pub frame : Frame
  pub of_it : frame.partition ≡ partition
  pub as_far : frame.upto ≡ upto
  pub over : Contains h (Over time frame)

-- The law on frames. A frame that is given now cleans up to an offset that was told, the lag ago or longer, as its partition's
-- end; and it lets no deletion go, or those below an offset up to which a pass cleaned that was over as long ago as deletions
-- are kept.
pub record IsBounded (o : Settings) (h : List Event) (now : ℕ) (f : Frame) : Type 0 where
  pub end_time : ℕ
  pub was_end : WasEnd h f.partition end_time f.upto
  pub lag : end_time + o.lag ≤ now
  pub deletions : (f.tomb_before ≡ pos 0) ⊎ ((t : ℕ) × WasCleaned h f.partition t f.tomb_before × (t + o.keep_deletes ≤ now))
