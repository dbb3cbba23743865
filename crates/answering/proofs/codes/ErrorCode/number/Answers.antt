use Rattle.std.proofs.Common.{rules}
use Rattle.answering.proofs.codes.ErrorCode.number.Goals as goal

pub returns-in-StorageError : goal.returns-in-StorageError
returns-in-StorageError c = search rules
