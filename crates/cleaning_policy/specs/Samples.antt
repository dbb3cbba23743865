-- Times, and samples of a partition: where it ended, and how many bytes had come, at some times. So a policy knows what came
-- long enough ago. Kafka's documentation, "Configuration", section "Topic Configs", min.compaction.lag.ms ("The minimum time a
-- message will remain uncompacted in the log"), and "Design", section "Log Compaction" ("to guarantee the minimum length of time
-- must pass after a message is written before it could be compacted"). Samples in place of messages' times are this project's
-- own.
use Rattle.std.specs.Prelude.{ℕ, ◌+◌, ◌-◌, ◌/◌, nat_le, nat_lt, nat_eq, Bool, ◌&&◌, ◌||◌, false, List, [], ◌∷◌, length, Option, if◌then◌else◌}
use Rattle.std.specs.List.{find}
use Rattle.std.specs.Ordering.{int_eq}
use Rattle.cleaning_policy.specs.declared.values.Sample.{Sample}
use Rattle.cleaning_policy.specs.declared.values.TheConstants.{MOST_SAMPLES}

-- so much time has passed since then
abbrev pub has_passed : (since span now : ℕ) → Bool
has_passed since span now = nat_le (since + span) now

-- The samples of a partition stand newest first.

-- the newest sample that is so old
abbrev pub old_sample : (lag now : ℕ) → List Sample → Option Sample
old_sample lag now samples = find (λ s. has_passed s.time lag now) samples

-- the samples that can still be asked for: the newest that is so old, and all that are newer
unfoldable pub asked_samples : (lag now : ℕ) → List Sample → List Sample
asked_samples lag now [] = []
asked_samples lag now (s ∷ earlier) = s ∷ (if has_passed s.time lag now then [] else asked_samples lag now earlier)

-- whether the newest sample says the same
abbrev pub is_known : Sample → List Sample → Bool
is_known x [] = false
is_known x (s ∷ earlier) = int_eq s.end x.end && nat_eq s.came x.came

-- whether the newest sample makes room for a newer one: there are eight to a lag
abbrev pub is_crowded : (lag : ℕ) → List Sample → Bool
is_crowded lag [] = false
is_crowded lag (s ∷ []) = false
is_crowded lag (s ∷ t ∷ earlier) = nat_lt (s.time - t.time) (lag / 8) || nat_le MOST_SAMPLES (length (s ∷ t ∷ earlier))

-- a sample in place of the newest one
abbrev pub in_place_of_newest : Sample → List Sample → List Sample
in_place_of_newest x [] = x ∷ []
in_place_of_newest x (s ∷ earlier) = x ∷ earlier

-- the samples with one more
abbrev pub with_sample : (lag : ℕ) → Sample → List Sample → List Sample
with_sample lag x samples =
    if is_known x samples then samples
    else (if is_crowded lag samples then in_place_of_newest x samples else x ∷ samples)
