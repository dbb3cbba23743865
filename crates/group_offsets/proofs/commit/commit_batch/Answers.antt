use Rattle.std.proofs.Common.{◌≡◌, ℤ, List, Option, ℕ, refl, sym, subst, ◌∙◌, FitsSigned, w32, w64}
use Rattle.std.proofs.lemmas.Int.{to_z-of_z}
use Rattle.batch_codec.specs.Values.{BatchValue}
use Rattle.batch_codec.specs.Grammar.{Writable}
use Rattle.partition_log.specs.Appends.{IsSendable}
use Rattle.group_offsets.specs.CommittedValues.{text_of}
use Rattle.group_offsets.specs.Refusals.{AreTexts}
use Rattle.group_offsets.specs.Batches.{commit_batch}
use Rattle.group_offsets.proofs.ValidBatches.{commit_sendable}
use Rattle.group_offsets.proofs.BatchSizes.{commit_writable}
use Rattle.group_offsets.proofs.commit.commit_batch.Goals as goal

module _ (group topic : List ℕ) (metadata : Option (List ℕ)) (partition offset : ℤ) where
  abbrev batch_of : ℤ → ℤ → BatchValue
  batch_of p o = commit_batch (record { group = group; topic = topic; partition = p }) (record { offset = o; metadata = metadata })

  -- the numbers as they were passed on
  commits : (b : BatchValue) (passed_partition passed_offset : ℤ) → b ≡ batch_of passed_partition passed_offset → passed_partition ≡ partition → passed_offset ≡ offset → b ≡ batch_of partition offset
  commits b p o is same_partition same_offset = is ∙ (λ i. batch_of (same_partition i) (same_offset i))

  writable : (b : BatchValue) → b ≡ batch_of partition offset → AreTexts group topic metadata → FitsSigned w32 partition → FitsSigned w64 offset → Writable b
  writable b is texts p o = subst Writable (sym is) (commit_writable _ _ (record { group = texts.0.0; topic = texts.0.1; partition = p }) (record { offset = o; metadata = texts.1 }))

  sendable : (b : BatchValue) → b ≡ batch_of partition offset → IsSendable b
  sendable b is = subst IsSendable (sym is) (commit_sendable _ _)

pub returns-in-Ok-clause-commits : goal.returns-in-Ok-clause-commits
returns-in-Ok-clause-commits g c =
    let a = c.args in
    commits a.group.now a.topic.now (text_of a.metadata) a.partition a.offset c.in-Ok.batch _ _ c.in-Ok.ensures (to_z-of_z w32 a.partition c.ranges.partition) (to_z-of_z w64 a.offset c.ranges.offset)

pub returns-in-Ok-clause-writable : goal.returns-in-Ok-clause-writable
returns-in-Ok-clause-writable g c =
    let a = c.args in
    writable a.group.now a.topic.now (text_of a.metadata) a.partition a.offset c.in-Ok.batch (returns-in-Ok-clause-commits g c) (c.if-not-are_texts.ensures.0 refl) c.ranges.partition c.ranges.offset

pub returns-in-Ok-clause-sendable : goal.returns-in-Ok-clause-sendable
returns-in-Ok-clause-sendable g c =
    let a = c.args in
    sendable a.group.now a.topic.now (text_of a.metadata) a.partition a.offset c.in-Ok.batch (returns-in-Ok-clause-commits g c)

pub returns-in-Ok-clause-texts_fit : goal.returns-in-Ok-clause-texts_fit
returns-in-Ok-clause-texts_fit g c = c.if-not-are_texts.ensures.0 refl
