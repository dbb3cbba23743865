-- The checks of an OffsetCommit request and of an entry, as the code goes. Words of private clauses.
use Rattle.std.specs.Prelude.{ℕ, pos, not, int_lt, nat_lt, List, [], ◌∷◌, length, Option}
use Rattle.std.specs.Ordering.{int_eq}
use Rattle.frame_fields.specs.Types.{or_empty}
use Rattle.request_frames.specs.OffsetCommit.{OffsetCommitValue, OffsetCommitPartitionValue}
use Rattle.answering.specs.declared.codes.ErrorCode.{ErrorCode}
use Rattle.answering.specs.declared.codes.ErrorCode.TheVariants.{IllegalGeneration, OffsetMetadataTooLarge, InvalidRequest}
use Rattle.answering.specs.Lists.{fault_if}
use Rattle.broker_state.specs.State.{State}
use Rattle.broker_state.specs.Checks.{no_group, unknown, not_leader}
use Rattle.group_requests.specs.OffsetCommit.{offset_commit_generation}
use Rattle.group_requests.specs.declared.offset_commit.TheConstants.{MAX_METADATA_BYTES}

-- those that all entries of a request have
abbrev pub request_checks : OffsetCommitValue → List (Option ErrorCode)
request_checks q =
    no_group q.group ∷ fault_if (not (int_eq q.generation offset_commit_generation)) IllegalGeneration ∷ []

-- those of an entry's own
abbrev pub entry_checks : State → (name : List ℕ) → OffsetCommitPartitionValue → List (Option ErrorCode)
entry_checks s name e =
    unknown s name e.partition
    ∷ not_leader s
    ∷ fault_if (nat_lt MAX_METADATA_BYTES (length (or_empty e.metadata))) OffsetMetadataTooLarge
    ∷ fault_if (int_lt e.offset (pos 0)) InvalidRequest
    ∷ []
