-- What a policy knows of a partition, and when it is due. Kafka's documentation, "Configuration", section "Topic Configs",
-- min.cleanable.dirty.ratio ("how frequently the log compactor will attempt to clean the log": dirty is what no pass has
-- cleaned) and max.compaction.lag.ms ("The maximum time a message will remain ineligible for compaction in the log"), and
-- "Design", section "Log Compaction" (the head and the tail of a log). This project's own: what is younger than the lag counts
-- neither as dirty nor as clean, a least number of dirty bytes, and a pass that is due because a mark got ripe.
use Rattle.std.specs.Prelude.{ℕ, ℤ, pos, ◌+◌, ◌-◌, ◌/◌, ◌^◌, ◌&&◌, ◌||◌, max, min, nat_le, nat_lt, int_lt, Bool, List, [], Option, Some, None, if◌then◌else◌, ◌≤◌, ◌≤ℤ◌}
use Rattle.std.specs.List.{AllByRecursion}
use Rattle.std.specs.Option.{option_and_then}
use Rattle.cleaning_policy.specs.declared.values.Extent.{Extent}
use Rattle.cleaning_policy.specs.declared.values.Frame.{Frame}
use Rattle.cleaning_policy.specs.declared.values.Marks.{Marks}
use Rattle.cleaning_policy.specs.declared.values.Pass.{Pass}
use Rattle.cleaning_policy.specs.declared.values.Sample.{Sample}
use Rattle.cleaning_policy.specs.declared.values.Settings.{Settings}
use Rattle.cleaning_policy.specs.declared.values.TheConstants.{LEAST_DIRTY, RETRY}
use Rattle.cleaning_policy.specs.Samples.{has_passed, old_sample, asked_samples, with_sample}
use Rattle.cleaning_policy.specs.Marking.{tomb_bound, with_mark, by_now}

-- What is known of a partition: its samples, newest first; where it started and how many bytes it had, as it was told last; how
-- many bytes came, as far as was told; how many of these the last pass covered; from when on it may be cleaned; its marks.
pub record Part : Type 0 where
  pub samples : List Sample
  pub start : ℤ
  pub bytes : ℕ
  pub came : ℕ
  pub covered : ℕ
  pub from : ℕ
  pub marks : Marks

-- the marks of a partition without a pass
abbrev pub no_marks : (now : ℕ) → Marks
no_marks now = record { older = None; newest = None; used = pos 0; reached = pos 0; began = now; size = 0 }

-- a partition of which nothing was told
abbrev pub new_part : (now : ℕ) → Part
new_part now = record { samples = []; start = pos 0; bytes = 0; came = 0; covered = 0; from = now; marks = no_marks now }

-- ---- what is told

-- by how many bytes two numbers of them differ: what went counts as what came
abbrev pub difference : ℕ → ℕ → ℕ
difference a b = (a - b) + (b - a)

-- the bytes that came, with those that came since; a number has 64 bits
abbrev pub came_by : Part → Extent → ℕ
came_by p x = min (p.came + difference p.bytes x.bytes) (2 ^ 64 - 1)

-- what is told now, as a sample
abbrev pub sample_of : (now : ℕ) → Part → Extent → Sample
sample_of now p x = record { time = now; end = x.end; came = came_by p x }

-- a partition of which this is told now
abbrev pub told_part : (lag now : ℕ) → Extent → Part → Part
told_part lag now x p = record p {
  samples = asked_samples lag now (with_sample lag (sample_of now p x) p.samples);
  start = x.start;
  bytes = x.bytes;
  came = came_by p x;
}

-- ---- what is due

-- the bytes that came between the last pass and a sample
abbrev pub dirty_bytes : Part → Sample → ℕ
dirty_bytes p s = s.came - p.covered

-- the bytes of a partition without those that came behind a sample
abbrev pub old_bytes : Part → Sample → ℕ
old_bytes p s = p.bytes - (p.came - s.came)

-- whether so many hundredths of what is old are dirty, and enough bytes
abbrev pub is_dirty : (percent : ℕ) → Part → Sample → Bool
is_dirty percent p s = nat_le LEAST_DIRTY (dirty_bytes p s) && nat_le (old_bytes p s / 100) (dirty_bytes p s / max percent 1)

-- whether the last pass began so long ago, and something came since
abbrev pub is_late : (within now : ℕ) → Part → Sample → Bool
is_late within now p s = has_passed p.marks.began within now && (nat_lt 0 (dirty_bytes p s) || int_lt p.marks.reached s.end)

-- whether more deletions may go than the last pass knew of
abbrev pub is_riper : (keep now : ℕ) → Part → Bool
is_riper keep now p = int_lt p.marks.used (tomb_bound keep now p.marks)

-- whether a pass up to the end of a sample is due
abbrev pub is_due : Settings → (now : ℕ) → Part → Sample → Bool
is_due o now p s =
    (int_lt p.start s.end && nat_le p.from now)
    && (is_dirty o.percent p s || (is_late o.within now p s || is_riper o.keep_deletes now p))

-- the frame of a pass up to the end of a sample
abbrev pub frame_of : Settings → (now : ℕ) → (partition : ℕ) → Part → Sample → Frame
frame_of o now i p s = record { partition = i; upto = s.end; tomb_before = tomb_bound o.keep_deletes now p.marks }

-- the pass of a partition that is due, or none
abbrev pub due_pass : Settings → (now : ℕ) → (partition : ℕ) → Part → Option Pass
due_pass o now i p = option_and_then
    (λ s. if is_due o now p s then Some (record { frame = frame_of o now i p s; came = s.came }) else None)
    (old_sample o.lag now p.samples)

-- nothing came since the last pass of a partition
abbrev pub IsIdle : Part → Type 0
IsIdle p = AllByRecursion (λ s. (s.came ≤ p.covered) × (s.end ≤ℤ p.marks.reached)) p.samples

-- ---- what becomes of a pass

-- a partition whose pass begins
abbrev pub begun_part : (now : ℕ) → Part → Part
begun_part now p = record p { marks = record p.marks { began = now } }

-- A partition whose pass is over, and left so many bytes in all.
abbrev pub cleaned_part : (keep now : ℕ) → Pass → (bytes : ℕ) → Part → Part
cleaned_part keep now q bytes p = record p {
  bytes = bytes;
  covered = q.came;
  marks = record (with_mark keep now q.frame.upto p.marks) {
    used = q.frame.tomb_before;
    reached = q.frame.upto;
    size = bytes - (p.came - q.came);
  };
}

-- a partition whose pass was given up; a number has 64 bits
abbrev pub given_up_part : (now : ℕ) → Part → Part
given_up_part now p = record p { from = min (now + RETRY) (2 ^ 64 - 1) }

-- a partition whose marks are put back, before anything was told of it: times that lie behind now count from now
abbrev pub part_with_marks : (now : ℕ) → Marks → Part → Part
part_with_marks now m p = record p {
  covered = m.size;
  marks = record m { older = by_now now m.older; newest = by_now now m.newest; began = min m.began now };
}
