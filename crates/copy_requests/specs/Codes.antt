-- The code that answers each refusal of a delivery, of an image, of a delta and of a trim. Which code answers which
-- refusal is this project's own; their numbers are those of Kafka's documentation, "Protocol Guide", section "Error
-- Codes".
use Rattle.content.specs.declared.delivery.DeliverError.{DeliverError}
use Rattle.content.specs.declared.delivery.DeliverError.TheVariants.{NotWhole, NoKey, BadOffset, Overlap, OutOfMemory}
use Rattle.copy_images.specs.declared.error.ImageError.{ImageError}
use Rattle.copy_images.specs.declared.error.ImageError.TheVariants as image
use Rattle.copy_deltas.specs.declared.error.PatchError.{PatchError}
use Rattle.copy_deltas.specs.declared.error.PatchError.TheVariants as patch
use Rattle.partition_log.specs.declared.trim.TrimError.{TrimError}
use Rattle.partition_log.specs.declared.trim.TrimError.TheVariants as trim
use Rattle.answering.specs.declared.codes.ErrorCode.{ErrorCode}
use Rattle.answering.specs.declared.codes.ErrorCode.TheVariants.{CorruptMessage, InvalidRecord, OffsetOutOfRange, InvalidRequest, StorageError}
use Rattle.answering.specs.declared.memory.Refused.{Refused}
use Rattle.answering.specs.declared.memory.Refused.TheVariants as refused

-- of a batch that a copy does not take
abbrev pub deliver_code : DeliverError → ErrorCode
deliver_code NotWhole = InvalidRecord
deliver_code NoKey = InvalidRecord
deliver_code BadOffset = OffsetOutOfRange
deliver_code Overlap = InvalidRequest
deliver_code OutOfMemory = StorageError

-- of bytes that are no image
abbrev pub image_code : ImageError → ErrorCode
image_code image.OutOfMemory = StorageError
image_code e = CorruptMessage

-- of a delta that a copy does not take
abbrev pub patch_code : PatchError → ErrorCode
patch_code patch.NotFor = InvalidRequest
patch_code (patch.Disagree base) = InvalidRequest
patch_code patch.OutOfMemory = StorageError
patch_code e = CorruptMessage

-- of an offset that a start can't move to
abbrev pub trim_code : TrimError → ErrorCode
trim_code trim.BelowStart = OffsetOutOfRange
trim_code trim.PastEnd = OffsetOutOfRange
trim_code trim.NotABase = InvalidRequest
trim_code trim.OutOfMemory = StorageError

-- ---- why an entry is refused, by a check or for lack of memory

abbrev pub deliver_refused : DeliverError → Refused
deliver_refused OutOfMemory = refused.OutOfMemory
deliver_refused e = refused.Check (deliver_code e)

abbrev pub image_refused : ImageError → Refused
image_refused image.OutOfMemory = refused.OutOfMemory
image_refused e = refused.Check (image_code e)

abbrev pub patch_refused : PatchError → Refused
patch_refused patch.OutOfMemory = refused.OutOfMemory
patch_refused e = refused.Check (patch_code e)
