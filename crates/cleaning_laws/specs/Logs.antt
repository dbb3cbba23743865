-- The logs whose copies a broker holds, one of each partition. Kafka's design documentation, "Replication" (a partition's
-- log is its leader's, and followers copy it) and "Log Compaction".
use Rattle.std.specs.Prelude.{◌≡◌, ℕ, ℤ, true, List, [], ◌++◌}
use Rattle.batch_codec.specs.Values.{BatchValue}
use Rattle.content.specs.Content.{Content, IsContent}
use Rattle.content.specs.Logs.{IsPlainLog}
use Rattle.content.specs.Copies.{IsCopy}
use Rattle.content.specs.LegalLogs.{IsLegalLog, IsLeaderCopy}
use Rattle.broker_state.specs.declared.config.Role.{Role}
use Rattle.broker_state.specs.declared.config.Role.TheVariants.{Leader, Follower}
use Rattle.broker_state.specs.State.{State, content_at, is_known}

-- the log of each topic's partition, by the topic's name and the partition's index
abbrev pub Logs : Type 0
Logs = List ℕ → ℤ → List BatchValue

abbrev pub no_logs : Logs
no_logs name p = []

-- each log with none or some batches more at its end
abbrev pub Grows : Logs → Logs → Type 0
Grows logs longer = (name : List ℕ) (p : ℤ) → (more : List BatchValue) × (longer name p ≡ logs name p ++ more)

-- each batch of the log was new when the leader took it, by the start that the log had then
abbrev pub IsLegalFromSome : List BatchValue → Type 0
IsLegalFromSome log = (start : ℤ) × IsLegalLog log start

-- A leader's copy has seen its whole log from its start on, and that is the log's last start. A follower's has seen any
-- part of a legal log.
abbrev pub IsCopyAs : Role → Content → List BatchValue → Type 0
IsCopyAs Leader c log = IsLeaderCopy c log
IsCopyAs Follower c log = IsCopy c log × IsLegalFromSome log

pub record IsPartitionOf (role : Role) (c : Content) (log : List BatchValue) : Type 0 where
  pub content : IsContent c
  pub plain : IsPlainLog log
  pub copy : IsCopyAs role c log

-- each partition of the broker is a copy of its log
abbrev pub IsStateOf : Logs → State → Type 0
IsStateOf logs s = (name : List ℕ) (p : ℤ) → is_known s name p ≡ true →
    IsPartitionOf s.config.role (content_at s name p) (logs name p)
