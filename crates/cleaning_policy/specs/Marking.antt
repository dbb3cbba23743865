-- The marks of passes that are over, and the deletions that may go. Kafka's documentation, "Configuration", section "Topic
-- Configs", delete.retention.ms ("The amount of time to retain delete tombstone markers for log compacted topics. This setting
-- also gives a bound on the time in which a consumer must complete a read if they begin from offset 0"), and "Design", section
-- "Log Compaction" ("delete retention point"). That a deletion's time runs from the end of the pass that took what it deletes, and is
-- kept by two marks, is this project's own.
use Rattle.std.specs.Prelude.{ℕ, ℤ, pos, ◌&&◌, int_lt, min, Bool, true, false, Option, Some, None, if◌then◌else◌}
use Rattle.cleaning_policy.specs.declared.values.Mark.{Mark}
use Rattle.cleaning_policy.specs.declared.values.Marks.{Marks}
use Rattle.cleaning_policy.specs.Samples.{has_passed}

-- whether a mark is ripe: its pass ended so long ago. A mark that isn't is ripening
abbrev pub is_ripe : (keep now : ℕ) → Option Mark → Bool
is_ripe keep now None = false
is_ripe keep now (Some m) = has_passed m.ended keep now

-- up to where its pass cleaned
abbrev pub upto_of : Option Mark → ℤ
upto_of None = pos 0
upto_of (Some m) = m.upto

-- the offset below which deletions may go: up to where the pass of the newest ripe mark cleaned
abbrev pub tomb_bound : (keep now : ℕ) → Marks → ℤ
tomb_bound keep now marks =
    if is_ripe keep now marks.newest then upto_of marks.newest
    else (if is_ripe keep now marks.older then upto_of marks.older else pos 0)

-- whether a pass up to an offset leaves a mark: no other one is ripening, and it cleaned further than the newest one's
abbrev pub leaves_mark : (keep now : ℕ) → ℤ → Option Mark → Bool
leaves_mark keep now upto (Some m) = has_passed m.ended keep now && int_lt m.upto upto
leaves_mark keep now upto None = true

-- the marks behind a pass that ended now
abbrev pub with_mark : (keep now : ℕ) → ℤ → Marks → Marks
with_mark keep now upto marks =
    if leaves_mark keep now upto marks.newest
    then record marks { older = marks.newest; newest = Some (record { upto = upto; ended = now }) }
    else marks

-- a mark that counts from now, if its time lies behind that
abbrev pub by_now : (now : ℕ) → Option Mark → Option Mark
by_now now None = None
by_now now (Some m) = Some (record m { ended = min m.ended now })
