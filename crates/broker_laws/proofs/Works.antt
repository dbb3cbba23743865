-- Faults without a code are none; and the numbers of codes and flags fit their fields.
use Rattle.std.proofs.Common.{◌≡◌, Bool, true, false, Option, Some, None, refl, arith}
use Rattle.std.specs.Prelude.{FitsSigned}
use Rattle.std.specs.Option.{option_map}
use Rattle.std.specs.Int.{w8, w16}
use Rattle.frame_fields.specs.Types.{flag}
use Rattle.answering.specs.declared.codes.ErrorCode.{ErrorCode}
use Rattle.answering.specs.declared.codes.ErrorCode.TheVariants.{UnknownServerError, OffsetOutOfRange, CorruptMessage, UnknownTopicOrPartition, LeaderNotAvailable, NotLeader, MessageTooLarge, OffsetMetadataTooLarge, InvalidTopic, InvalidRequiredAcks, IllegalGeneration, InvalidGroupId, UnsupportedVersion, InvalidRequest, UnsupportedForMessageFormat, OutOfOrderSequence, InvalidProducerEpoch, InvalidTransactionState, StorageError, UnsupportedCompression, InvalidRecord}
use Rattle.answering.specs.Codes.{no_error, code_number}

-- a fault that has no code is none
pub unmapped : {X Y : Type 0} (f : X → Y) (o : Option X) → option_map f o ≡ None → o ≡ None
unmapped f None h = refl
unmapped f (Some x) h = absurd cc

-- ---- codes are of 16 bits, and flags of 8

pub flag_fits : (b : Bool) → FitsSigned w8 (flag b)
flag_fits true = record { sfits = omega arith }
flag_fits false = record { sfits = omega arith }

pub no_error_fits : FitsSigned w16 no_error
no_error_fits = record { sfits = omega arith }

pub code_fits : (code : ErrorCode) → FitsSigned w16 (code_number code)
code_fits UnknownServerError = record { sfits = omega arith }
code_fits OffsetOutOfRange = record { sfits = omega arith }
code_fits CorruptMessage = record { sfits = omega arith }
code_fits UnknownTopicOrPartition = record { sfits = omega arith }
code_fits LeaderNotAvailable = record { sfits = omega arith }
code_fits NotLeader = record { sfits = omega arith }
code_fits MessageTooLarge = record { sfits = omega arith }
code_fits OffsetMetadataTooLarge = record { sfits = omega arith }
code_fits InvalidTopic = record { sfits = omega arith }
code_fits InvalidRequiredAcks = record { sfits = omega arith }
code_fits IllegalGeneration = record { sfits = omega arith }
code_fits InvalidGroupId = record { sfits = omega arith }
code_fits UnsupportedVersion = record { sfits = omega arith }
code_fits InvalidRequest = record { sfits = omega arith }
code_fits UnsupportedForMessageFormat = record { sfits = omega arith }
code_fits OutOfOrderSequence = record { sfits = omega arith }
code_fits InvalidProducerEpoch = record { sfits = omega arith }
code_fits InvalidTransactionState = record { sfits = omega arith }
code_fits StorageError = record { sfits = omega arith }
code_fits UnsupportedCompression = record { sfits = omega arith }
code_fits InvalidRecord = record { sfits = omega arith }
