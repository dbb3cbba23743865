-- Words of private clauses: what an event makes of the parts of a cluster.
use Rattle.std.specs.Prelude.{◌≡◌, ◌≢◌, ◌≤◌, ◌↔◌, ℕ, Some, length, true, false, List, [], ◌∷◌, ◌++◌, Result, Ok, Err}
use Rattle.std.specs.declared.alloc.AllocError.{AllocError}
use Rattle.batch_codec.specs.Values.{BatchValue}
use Rattle.content.specs.declared.report.CleanReport.{CleanReport}
use Rattle.content.specs.declared.verdict.Verdict.TheVariants as verdict
use Rattle.content.specs.declared.delivery.Delivered.TheVariants.{Repeat}
use Rattle.content.specs.Content.{Content, end, add, has_seen_all, HasSeenNone}
use Rattle.content.specs.Cleaning.{clean, clean_report}
use Rattle.content.specs.Parts.{clean_part, part_report}
use Rattle.content.specs.Joins.{join}
use Rattle.copy_images.specs.declared.layout.TheConstants.{MAX_COUNT}
use Rattle.copy_images.specs.Images.{image_of, IsImage}
use Rattle.partition_log.specs.Appends.{IsSendable, kept_verdict, at_end, IsNew, RefusesAppend}
use Rattle.partition_log.specs.declared.leader.AppendError.{AppendError}
use Rattle.partition_log.specs.declared.leader.AppendError.TheVariants as append
use Rattle.partition_log.specs.declared.trim.TrimError.{TrimError}
use Rattle.partition_log.specs.declared.trim.TrimError.TheVariants as trim
use Rattle.cluster.specs.Worlds.{World, copy_at}
use Rattle.cluster.specs.declared.cleaning.Cleaning.{Cleaning}
use Rattle.cluster.specs.declared.cleaning.Cleaning.TheVariants.{Whole, Part}
use Rattle.cluster.specs.declared.event.Outcome.{Outcome}
use Rattle.cluster.specs.declared.event.Outcome.TheVariants.{Based, Delivered, Cleaned, Sent, Merged, Trimmed}
use Rattle.cluster.specs.declared.event.EventError.{EventError}
use Rattle.cluster.specs.declared.event.EventError.TheVariants.{Append, Trim, OutOfMemory}

-- out of memory in a part of an event is out of memory for the event
abbrev pub append_refusal : AppendError → EventError
append_refusal append.OutOfMemory = OutOfMemory
append_refusal why = Append why

-- what a leader's copy and its log become, given a batch
abbrev pub AppendsTo : Content → List BatchValue → BatchValue → Content → List BatchValue → Result Outcome EventError → Type 0
AppendsTo c log b after longer (Ok (Based base true)) =
    IsSendable b × (kept_verdict c b ≡ verdict.Repeat base) × (after ≡ c) × (longer ≡ log)
AppendsTo c log b after longer (Ok (Based base false)) =
    IsNew c b × (base ≡ end c) × (after ≡ add c (at_end c b)) × (longer ≡ log ++ at_end c b ∷ [])
AppendsTo c log b after longer (Ok _) = ⊥
AppendsTo c log b after longer (Err (Append why)) =
    RefusesAppend c b why × (why ≢ append.OutOfMemory) × (after ≡ c) × (longer ≡ log)
AppendsTo c log b after longer (Err OutOfMemory) = IsNew c b × (after ≡ c) × (longer ≡ log)
AppendsTo c log b after longer (Err _) = ⊥

-- what a cleaning leaves of a copy, and what is told of it
abbrev pub cleaned : Cleaning → Content → Content
cleaned (Whole upto tomb_before) = clean upto tomb_before
cleaned (Part part) = clean_part part

abbrev pub reported : Cleaning → Content → CleanReport
reported (Whole upto tomb_before) = clean_report upto tomb_before
reported (Part part) = part_report part

-- the outcome of a cleaning
abbrev pub clean_outcome : Result CleanReport AllocError → Result Outcome EventError
clean_outcome (Ok report) = Ok (Cleaned report)
clean_outcome (Err error) = Err OutOfMemory

-- out of memory while a start moves is out of memory for the event
abbrev pub trim_refusal : TrimError → EventError
trim_refusal trim.OutOfMemory = OutOfMemory
trim_refusal why = Trim why

-- the outcome of a start that was to move
abbrev pub trim_outcome : Result (Unit {0}) TrimError → Result Outcome EventError
trim_outcome (Ok done) = Ok Trimmed
trim_outcome (Err why) = Err (trim_refusal why)

-- the image of a copy of the cluster, whose ranges and batches can be counted
abbrev pub WritesImage : World → (copy : ℕ) → List ℕ → Type 0
WritesImage w copy bytes =
    (c : Content) × (copy_at w copy ≡ Some c) × (length c.cover ≤ MAX_COUNT) × (length c.kept ≤ MAX_COUNT) × (bytes ≡ image_of c)

-- what the images become, given one more
abbrev pub KeepsImage : List (List ℕ) → List ℕ → List (List ℕ) → Result Outcome EventError → Type 0
KeepsImage images bytes after (Ok (Sent image)) = (after ≡ images ++ bytes ∷ []) × (image ≡ length images)
KeepsImage images bytes after (Err OutOfMemory) = after ≡ images
KeepsImage images bytes after _ = ⊥

-- what a copy becomes, given an image that it agrees with
abbrev pub MergesImage : Content → List ℕ → Content → Result Outcome EventError → Type 0
MergesImage c bytes after (Ok Merged) = (sent : Content) × IsImage bytes sent × (after ≡ join c sent)
MergesImage c bytes after (Err OutOfMemory) = after ≡ c
MergesImage c bytes after _ = ⊥

-- what a delivery makes of one copy
abbrev pub DeliversTo : Content → BatchValue → Content → Result Outcome EventError → Type 0
DeliversTo c b after (Ok (Delivered delivered)) = (after ≡ add c b) × ((delivered ≡ Repeat) ↔ (has_seen_all c b ≡ true))
DeliversTo c b after (Err OutOfMemory) = HasSeenNone c b × (after ≡ c)
DeliversTo c b after _ = ⊥
