-- The numbers of error codes. Kafka's documentation, "Protocol Guide", section "Error Codes".
use Rattle.std.specs.Prelude.{ℤ, pos, negsuc}
use Rattle.answering.specs.declared.codes.ErrorCode.{ErrorCode}
use Rattle.answering.specs.declared.codes.ErrorCode.TheVariants.{UnknownServerError, OffsetOutOfRange, CorruptMessage, UnknownTopicOrPartition, LeaderNotAvailable, NotLeader, MessageTooLarge, OffsetMetadataTooLarge, InvalidTopic, InvalidRequiredAcks, IllegalGeneration, InvalidGroupId, UnsupportedVersion, InvalidRequest, UnsupportedForMessageFormat, OutOfOrderSequence, InvalidProducerEpoch, InvalidTransactionState, StorageError, UnsupportedCompression, InvalidRecord}

-- the number of no error
abbrev pub no_error : ℤ
no_error = pos 0

abbrev pub code_number : ErrorCode → ℤ
code_number UnknownServerError = negsuc 0
code_number OffsetOutOfRange = pos 1
code_number CorruptMessage = pos 2
code_number UnknownTopicOrPartition = pos 3
code_number LeaderNotAvailable = pos 5
code_number NotLeader = pos 6
code_number MessageTooLarge = pos 10
code_number OffsetMetadataTooLarge = pos 12
code_number InvalidTopic = pos 17
code_number InvalidRequiredAcks = pos 21
code_number IllegalGeneration = pos 22
code_number InvalidGroupId = pos 24
code_number UnsupportedVersion = pos 35
code_number InvalidRequest = pos 42
code_number UnsupportedForMessageFormat = pos 43
code_number OutOfOrderSequence = pos 45
code_number InvalidProducerEpoch = pos 47
code_number InvalidTransactionState = pos 48
code_number StorageError = pos 56
code_number UnsupportedCompression = pos 76
code_number InvalidRecord = pos 87
