use Rattle.std.proofs.Common.{refl}
use Rattle.group_offsets.specs.Batches.{commit_batch, forget_batch}
use Rattle.group_offsets.proofs.ValidBatches.{commit_sendable, forget_valid, forget_sendable}
use Rattle.group_offsets.proofs.BatchSizes.{commit_writable}
use Rattle.group_offsets.proofs.laws.batches_are_sendable.Goals as goal

pub returns-clause-commit_is_writable : goal.returns-clause-commit_is_writable
returns-clause-commit_is_writable c = commit_writable

pub returns-clause-commit_is_sendable : goal.returns-clause-commit_is_sendable
returns-clause-commit_is_sendable c = commit_sendable

pub returns-clause-commit_has_no_producer : goal.returns-clause-commit_has_no_producer
unfolding commit_batch
returns-clause-commit_has_no_producer c = λ k v. refl

pub returns-clause-forget_is_valid : goal.returns-clause-forget_is_valid
returns-clause-forget_is_valid c = forget_valid

pub returns-clause-forget_is_sendable : goal.returns-clause-forget_is_sendable
returns-clause-forget_is_sendable c = forget_sendable

pub returns-clause-forget_has_no_producer : goal.returns-clause-forget_has_no_producer
unfolding forget_batch
returns-clause-forget_has_no_producer c = λ keys. refl
