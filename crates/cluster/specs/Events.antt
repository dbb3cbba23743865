-- What an event does in the world of a partition's copies, and when it is refused. Kafka's design documentation,
-- "Replication", "Log Compaction" and "Message Delivery Semantics"; images are this project's own.
use Rattle.std.specs.Prelude.{ℕ, ◌≡◌, ◌≢◌, ◌<◌, ◌≤◌, ◌⊎◌, ◌<ℤ◌, ◌+ℤ◌, ◌↔◌, ◌^◌, ℤ, pos, true, false, Bool, List, length, Some, None, slice_get, Result, Ok, Err, [], ◌∷◌}
use Rattle.batch_codec.specs.Values.{BatchValue}
use Rattle.batch_codec.specs.Grammar.{Writable, batch_encoding, StartsWith}
use Rattle.batch_codec.specs.Offsets.{IsWhole, HasKeys}
use Rattle.batch_codec.specs.Refusals.{FirstFault}
use Rattle.content.specs.Windows.{heads, heads_from}
use Rattle.content.specs.Verdicts.{verdict_on}
use Rattle.content.specs.declared.verdict.Verdict.{Verdict}
use Rattle.content.specs.declared.verdict.Verdict.TheVariants as verdict
use Rattle.content.specs.declared.delivery.Delivered.TheVariants.{Repeat}
use Rattle.content.specs.Content.{Content, add, has_seen_all, HasSeenNone, cut, IsAcceptedStart}
use Rattle.content.specs.Cleaning.{clean, clean_report}
use Rattle.content.specs.Parts.{clean_part, part_report}
use Rattle.content.specs.declared.report.CleanReport.{CleanReport}
use Rattle.content.specs.Joins.{join}
use Rattle.content.specs.Logs.{next_offset}
use Rattle.copy_images.specs.Images.{IsImage, image_of}
use Rattle.partition_log.specs.Appends.{IsProducerValid, IsSendable}
use Rattle.partition_log.specs.declared.leader.AppendError.{AppendError}
use Rattle.partition_log.specs.declared.leader.AppendError.TheVariants as append
use Rattle.partition_log.specs.Trims.{RefusesTrim}
use Rattle.partition_log.specs.declared.trim.TrimError.TheVariants as trim
use Rattle.cluster.specs.declared.event.Event.{Event}
use Rattle.cluster.specs.declared.event.Event.TheVariants.{Produce, Deliver, Clean, CleanPart, Send, Merge, Trim}
use Rattle.cluster.specs.declared.event.Outcome.{Outcome}
use Rattle.cluster.specs.declared.event.Outcome.TheVariants.{Based, Delivered, Cleaned, Sent, Merged, Trimmed}
use Rattle.cluster.specs.declared.event.EventError.{EventError}
use Rattle.cluster.specs.declared.event.EventError.TheVariants.{NoCopy, LeaderCopy, NoBatch, NoImage, BadBatch, Extra, Append, OutOfMemory}
use Rattle.cluster.specs.declared.event.EventError.TheVariants as refusal
use Rattle.cluster.specs.declared.event.ClusterError.{ClusterError}
use Rattle.cluster.specs.declared.event.ClusterError.TheVariants as cluster
use Rattle.cluster.specs.declared.TheConstants.{MAX_COPIES}
use Rattle.cluster.specs.Worlds.{World, copy_at, with_copy, at_log_end, with_appended, with_image_of}

-- ---- what is sent to the leader

-- bytes that are a batch and nothing else
abbrev pub IsBatch : List ℕ → BatchValue → Type 0
IsBatch bytes b = Writable b × (bytes ≡ batch_encoding b)

-- the verdict on a batch over the log, from the leader's start on
abbrev pub log_verdict : World → BatchValue → Verdict
log_verdict w b = verdict_on (heads_from w.leader.start (heads w.log)) b.head

-- its offsets behind the log's end lie below 2 ^ 62
abbrev pub FitsLog : World → BatchValue → Type 0
FitsLog w b = (next_offset w.log +ℤ b.head.last_delta) <ℤ pos (2 ^ 62)

-- a batch that goes to the log's end, if there is memory to keep it
abbrev pub IsNew : World → BatchValue → Type 0
IsNew w b = IsSendable b × (log_verdict w b ≡ verdict.New) × FitsLog w b

-- what comes of a batch that is not refused: a repeat has the base offset that it was given, and changes nothing
abbrev pub Appends : World → BatchValue → World → (base : ℤ) (repeat : Bool) → Type 0
Appends w b after base true = IsSendable b × (log_verdict w b ≡ verdict.Repeat base) × (after ≡ w)
Appends w b after base false =
    IsNew w b × (base ≡ next_offset w.log) × (after ≡ with_appended (at_log_end w b) w)

-- why the leader refuses a batch: the first fault in the order of the checks
abbrev pub RefusesBatch : World → BatchValue → AppendError → Type 0
RefusesBatch w b append.NotWhole = ¬ IsWhole b
RefusesBatch w b append.NoKey = IsWhole b × ¬ HasKeys b
RefusesBatch w b append.BadProducer = IsWhole b × HasKeys b × ¬ IsProducerValid b.head
RefusesBatch w b append.OldEpoch = IsSendable b × (log_verdict w b ≡ verdict.OldEpoch)
RefusesBatch w b append.OutOfOrder = IsSendable b × (log_verdict w b ≡ verdict.OutOfOrder)
RefusesBatch w b append.OffsetsFull = IsSendable b × (log_verdict w b ≡ verdict.New) × ¬ FitsLog w b
RefusesBatch w b append.OutOfMemory = ⊥

-- why bytes that are sent to the leader are refused
abbrev pub RefusesBytes : World → List ℕ → EventError → Type 0
RefusesBytes w bytes (BadBatch fault) = FirstFault fault bytes
RefusesBytes w bytes Extra =
    (b : BatchValue) × StartsWith b bytes × (length (batch_encoding b) < length bytes)
RefusesBytes w bytes (Append why) = (b : BatchValue) × IsBatch bytes b × RefusesBatch w b why
RefusesBytes w bytes OutOfMemory = (b : BatchValue) × IsBatch bytes b × IsNew w b
RefusesBytes w bytes _ = ⊥

-- ---- the events, each with its outcome or the first fault in the order of the checks; all but a trim may lack memory

abbrev pub Produces : World → List ℕ → World → Result Outcome EventError → Type 0
Produces w bytes after (Ok (Based base repeat)) = (b : BatchValue) × IsBatch bytes b × Appends w b after base repeat
Produces w bytes after (Ok _) = ⊥
Produces w bytes after (Err error) = RefusesBytes w bytes error × (after ≡ w)

-- a copy other than the leader's
abbrev pub IsFollower : World → ℕ → Content → Type 0
IsFollower w copy c = (0 < copy) × (copy_at w copy ≡ Some c)

-- why a number is refused as a follower's
abbrev pub RefusesFollower : World → (copy : ℕ) → EventError → Type 0
RefusesFollower w copy NoCopy = copy_at w copy ≡ None
RefusesFollower w copy LeaderCopy = copy ≡ 0
RefusesFollower w copy _ = ⊥

abbrev pub RefusesDelivery : World → (copy batch : ℕ) → EventError → Type 0
RefusesDelivery w copy batch NoBatch = (c : Content) × IsFollower w copy c × (slice_get w.log batch ≡ None)
RefusesDelivery w copy batch OutOfMemory =
    (c : Content) × (b : BatchValue) × IsFollower w copy c × (slice_get w.log batch ≡ Some b) × HasSeenNone c b
RefusesDelivery w copy batch error = RefusesFollower w copy error

abbrev pub Delivers : World → (copy batch : ℕ) → World → Result Outcome EventError → Type 0
Delivers w copy batch after (Ok (Delivered delivered)) =
    (c : Content) × (b : BatchValue) × IsFollower w copy c × (slice_get w.log batch ≡ Some b)
    × (after ≡ with_copy copy (add c b) w) × ((delivered ≡ Repeat) ↔ (has_seen_all c b ≡ true))
Delivers w copy batch after (Ok _) = ⊥
Delivers w copy batch after (Err error) = RefusesDelivery w copy batch error × (after ≡ w)

-- a cleaning and a sending are refused where there is no such copy
abbrev pub RefusesCopy : World → (copy : ℕ) → EventError → Type 0
RefusesCopy w copy NoCopy = copy_at w copy ≡ None
RefusesCopy w copy OutOfMemory = (c : Content) × (copy_at w copy ≡ Some c)
RefusesCopy w copy _ = ⊥

-- a copy is cleaned in some way, of which it is told what went
abbrev pub Cleans : World → (copy : ℕ) → (Content → Content) → (Content → CleanReport) → World → Result Outcome EventError → Type 0
Cleans w copy cleaned reported after (Ok (Cleaned report)) =
    (c : Content) × (copy_at w copy ≡ Some c) × (after ≡ with_copy copy (cleaned c) w) × (report ≡ reported c)
Cleans w copy cleaned reported after (Ok _) = ⊥
Cleans w copy cleaned reported after (Err error) = RefusesCopy w copy error × (after ≡ w)

abbrev pub Sends : World → (copy : ℕ) → World → Result Outcome EventError → Type 0
Sends w copy after (Ok (Sent image)) =
    (c : Content) × (copy_at w copy ≡ Some c) × IsImage (image_of c) c × (after ≡ with_image_of c w) × (image ≡ length w.images)
Sends w copy after (Ok _) = ⊥
Sends w copy after (Err error) = RefusesCopy w copy error × (after ≡ w)

abbrev pub RefusesMerge : World → (copy image : ℕ) → EventError → Type 0
RefusesMerge w copy image NoImage = (c : Content) × IsFollower w copy c × (slice_get w.images image ≡ None)
RefusesMerge w copy image OutOfMemory =
    (c : Content) × (bytes : List ℕ) × IsFollower w copy c × (slice_get w.images image ≡ Some bytes)
RefusesMerge w copy image error = RefusesFollower w copy error

abbrev pub Merges : World → (copy image : ℕ) → World → Result Outcome EventError → Type 0
Merges w copy image after (Ok Merged) =
    (c : Content) × (bytes : List ℕ) × (sent : Content) × IsFollower w copy c
    × (slice_get w.images image ≡ Some bytes) × IsImage bytes sent × (after ≡ with_copy copy (join c sent) w)
Merges w copy image after (Ok _) = ⊥
Merges w copy image after (Err error) = RefusesMerge w copy image error × (after ≡ w)

-- why a copy's start stays where it is
abbrev pub RefusesStart : World → (copy : ℕ) (start : ℤ) → EventError → Type 0
RefusesStart w copy start NoCopy = copy_at w copy ≡ None
RefusesStart w copy start (refusal.Trim why) =
    (c : Content) × (copy_at w copy ≡ Some c) × RefusesTrim c start why × (why ≢ trim.OutOfMemory)
RefusesStart w copy start _ = ⊥

-- the log is never cut
abbrev pub Trims : World → (copy : ℕ) (start : ℤ) → World → Result Outcome EventError → Type 0
Trims w copy start after (Ok Trimmed) =
    (c : Content) × (copy_at w copy ≡ Some c) × IsAcceptedStart c start × (after ≡ with_copy copy (cut start c) w)
Trims w copy start after (Ok _) = ⊥
Trims w copy start after (Err error) = RefusesStart w copy start error × (after ≡ w)

-- one event, whichever it is
abbrev pub Steps : {A : Type 0} → World → Event A → World → Result Outcome EventError → Type 0
Steps w (Produce bytes) after result = Produces w bytes.items after result
Steps w (Deliver copy batch) after result = Delivers w copy batch after result
Steps w (Clean copy upto tomb_before) after result =
    Cleans w copy (clean upto tomb_before) (clean_report upto tomb_before) after result
Steps w (CleanPart copy part) after result = Cleans w copy (clean_part part) (part_report part) after result
Steps w (Send copy) after result = Sends w copy after result
Steps w (Merge copy image) after result = Merges w copy image after result
Steps w (Trim copy start) after result = Trims w copy start after result

-- ---- lists of events

-- what came of a list of events, each in the world that those before it left
abbrev pub Runs : {A : Type 0} → World → List (Event A) → List (Result Outcome EventError) → World → Type 0
Runs w [] [] after = after ≡ w
Runs w (event ∷ events) (result ∷ results) after =
    (next : World) × Steps w event next result × Runs next events results after
Runs w _ _ after = ⊥

-- ---- a new cluster

-- the first fault in the order of the checks
abbrev pub RefusesCopies : (copies : ℕ) → ClusterError → Type 0
RefusesCopies copies cluster.BadCopies = (copies ≡ 0) ⊎ (MAX_COPIES < copies)
RefusesCopies copies cluster.OutOfMemory = (0 < copies) × (copies ≤ MAX_COPIES)
