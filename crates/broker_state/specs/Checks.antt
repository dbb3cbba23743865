-- The checks of what names a partition or a group: that the broker has the partition, that the broker leads, or follows,
-- and that the group has a name. Kafka's documentation, "Protocol Guide", section "Error Codes".
use Rattle.std.specs.Prelude.{ℕ, ℤ, ◌==◌, not, List, length, Option, Some, None}
use Rattle.answering.specs.declared.codes.ErrorCode.{ErrorCode}
use Rattle.answering.specs.declared.codes.ErrorCode.TheVariants.{UnknownTopicOrPartition, NotLeader, InvalidGroupId, InvalidRequest}
use Rattle.answering.specs.Lists.{fault_if}
use Rattle.broker_state.specs.declared.config.Role.{Role}
use Rattle.broker_state.specs.declared.config.Role.TheVariants.{Leader, Follower}
use Rattle.broker_state.specs.State.{State, is_known}

abbrev pub unknown : State → List ℕ → ℤ → Option ErrorCode
unknown s name p = fault_if (not (is_known s name p)) UnknownTopicOrPartition

abbrev pub role_code : Role → Option ErrorCode
role_code Leader = None
role_code Follower = Some NotLeader

abbrev pub not_leader : State → Option ErrorCode
not_leader s = role_code s.config.role

-- a leader takes no batches from another one
abbrev pub follower_code : Role → Option ErrorCode
follower_code Leader = Some InvalidRequest
follower_code Follower = None

abbrev pub not_follower : State → Option ErrorCode
not_follower s = follower_code s.config.role

-- the group has no name
abbrev pub no_group : List ℕ → Option ErrorCode
no_group group = fault_if (length group == 0) InvalidGroupId
