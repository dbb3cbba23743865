-- The code that answers each refusal of a batch. Which code answers which refusal is this project's own; their numbers are
-- those of Kafka's documentation, "Protocol Guide", section "Error Codes".
use Rattle.batch_codec.specs.declared.error.BatchError.{BatchError}
use Rattle.batch_codec.specs.declared.error.BatchError.TheVariants as batch
use Rattle.partition_log.specs.declared.leader.AppendError.{AppendError}
use Rattle.partition_log.specs.declared.leader.AppendError.TheVariants as append
use Rattle.answering.specs.declared.codes.ErrorCode.{ErrorCode}
use Rattle.answering.specs.declared.codes.ErrorCode.TheVariants.{CorruptMessage, UnsupportedForMessageFormat, MessageTooLarge, UnsupportedCompression, InvalidRecord, InvalidTransactionState, StorageError, InvalidProducerEpoch, OutOfOrderSequence, UnknownServerError}
use Rattle.answering.specs.declared.memory.Refused.{Refused}
use Rattle.answering.specs.declared.memory.Refused.TheVariants as refused

-- of bytes that are no batch
abbrev pub batch_code : BatchError → ErrorCode
batch_code batch.Short = CorruptMessage
batch_code batch.BadMagic = UnsupportedForMessageFormat
batch_code batch.BadLength = CorruptMessage
batch_code batch.TooLarge = MessageTooLarge
batch_code batch.BadCrc = CorruptMessage
batch_code batch.Compressed = UnsupportedCompression
batch_code batch.Control = InvalidRecord
batch_code batch.Transactional = InvalidTransactionState
batch_code batch.BadAttributes = InvalidRecord
batch_code batch.BadCount = InvalidRecord
batch_code (batch.BadRecord index) = InvalidRecord
batch_code batch.OutOfMemory = StorageError

-- of a batch that a leader does not append
abbrev pub append_code : AppendError → ErrorCode
append_code append.NotWhole = InvalidRecord
append_code append.NoKey = InvalidRecord
append_code append.BadProducer = InvalidRecord
append_code append.OldEpoch = InvalidProducerEpoch
append_code append.OutOfOrder = OutOfOrderSequence
append_code append.OffsetsFull = UnknownServerError
append_code append.OutOfMemory = StorageError

-- why an entry is refused whose batch a leader does not append
abbrev pub append_refused : AppendError → Refused
append_refused append.OutOfMemory = refused.OutOfMemory
append_refused e = refused.Check (append_code e)
