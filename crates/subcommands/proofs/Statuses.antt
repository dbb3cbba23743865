-- The statuses of a session that is refused, and of one that is no success.
use Rattle.std.proofs.Common.{◌≡◌, ℕ, ◌≤◌, Option, Some, None, refl, sym, subst, ◌∙◌, arith}
use Rattle.std.specs.Prelude.{◌≢◌}
use Rattle.broker_state.specs.declared.error.ConfigError.{ConfigError}
use Rattle.broker_state.specs.declared.error.ConfigError.TheVariants as config
use Rattle.broker_state.specs.State.{ConfigValue}
use Rattle.broker_state.specs.Configs.{config_fault, IsValidConfig, ConfigFault}
use Rattle.broker_core.specs.declared.session.SessionError.TheVariants.{Frame, Read, Write, OutOfMemory}
use Rattle.subcommands.specs.declared.error.SessionFault.{SessionFault}
use Rattle.subcommands.specs.declared.error.SessionFault.TheVariants.{EndsInside, Stopped}
use Rattle.subcommands.specs.Status.{session_status}

-- ---- a configuration that is refused

apart : (n : ℕ) → n ≡ 3 → n ≢ 2
apart n three two = omega arith

one_answer : {X : Type 0} (found : Option X) (why : X) → found ≡ Some why → found ≢ None
one_answer found why some none = let clash : Some why ≡ None = sym some ∙ none in absurd cc

other_host : config.BadHost ≢ config.OutOfMemory
other_host is = absurd cc

other_many : config.TooManyTopics ≢ config.OutOfMemory
other_many is = absurd cc

other_producer : config.BadFirstProducer ≢ config.OutOfMemory
other_producer is = absurd cc

other_topic : config.BadTopic ≢ config.OutOfMemory
other_topic is = absurd cc

other_partitions : config.BadPartitions ≢ config.OutOfMemory
other_partitions is = absurd cc

other_twice : config.TopicTwice ≢ config.OutOfMemory
other_twice is = absurd cc

faulty_config : (k : ConfigValue) (why : ConfigError) (n : ℕ) → config_fault k ≡ Some why → n ≡ 2 → (IsValidConfig k → n ≢ 2) × (¬ IsValidConfig k → n ≡ 2)
faulty_config k why n fault two = (λ valid _. one_answer (config_fault k) why fault valid, λ _. two)

-- it has a fault exactly where the status is 2
pub refused_config : (k : ConfigValue) (why : ConfigError) (n : ℕ) → ConfigFault k why → (why ≡ config.OutOfMemory → n ≡ 3) → (why ≢ config.OutOfMemory → n ≡ 2)
    → (IsValidConfig k → n ≢ 2) × (¬ IsValidConfig k → n ≡ 2)
refused_config k config.OutOfMemory n fault memory other = (λ _. apart n (memory refl), λ faulty. absurd (faulty fault))
refused_config k config.BadHost n fault memory other = faulty_config k config.BadHost n fault (other other_host)
refused_config k config.TooManyTopics n fault memory other = faulty_config k config.TooManyTopics n fault (other other_many)
refused_config k config.BadFirstProducer n fault memory other = faulty_config k config.BadFirstProducer n fault (other other_producer)
refused_config k config.BadTopic n fault memory other = faulty_config k config.BadTopic n fault (other other_topic)
refused_config k config.BadPartitions n fault memory other = faulty_config k config.BadPartitions n fault (other other_partitions)
refused_config k config.TopicTwice n fault memory other = faulty_config k config.TopicTwice n fault (other other_twice)

-- where the status isn't 2, memory is all that is wanting
pub valid_config : (k : ConfigValue) (why : ConfigError) (n : ℕ) → ConfigFault k why → (why ≢ config.OutOfMemory → n ≡ 2) → n ≢ 2 → IsValidConfig k
valid_config k config.OutOfMemory n fault other some = fault
valid_config k config.BadHost n fault other some = absurd (some (other other_host))
valid_config k config.TooManyTopics n fault other some = absurd (some (other other_many))
valid_config k config.BadFirstProducer n fault other some = absurd (some (other other_producer))
valid_config k config.BadTopic n fault other some = absurd (some (other other_topic))
valid_config k config.BadPartitions n fault other some = absurd (some (other other_partitions))
valid_config k config.TopicTwice n fault other some = absurd (some (other other_twice))

-- ---- a session that is no success

is_failure : (why : SessionFault) → (session_status why ≤ 4) × (session_status why ≢ 0) × (session_status why ≢ 2)
is_failure EndsInside = (omega arith, λ done. omega arith, λ faulty. omega arith)
is_failure (Stopped (Frame index why)) = (omega arith, λ done. omega arith, λ faulty. omega arith)
is_failure (Stopped Read) = (omega arith, λ done. omega arith, λ faulty. omega arith)
is_failure (Stopped Write) = (omega arith, λ done. omega arith, λ faulty. omega arith)
is_failure (Stopped OutOfMemory) = (omega arith, λ done. omega arith, λ faulty. omega arith)

pub failed_status : (why : SessionFault) (n : ℕ) → n ≡ session_status why → (n ≤ 4) × (n ≢ 0) × (n ≢ 2)
failed_status why n is = subst (λ (m : ℕ). (m ≤ 4) × (m ≢ 0) × (m ≢ 2)) (sym is) (is_failure why)
