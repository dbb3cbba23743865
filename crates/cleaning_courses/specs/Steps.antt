-- What happens to a partition on its leader, over time, and what its readers may rely on. Kafka's documentation, "Produce API",
-- "Fetch API", "DeleteRecords API", and "Design", section "Log Compaction", "What guarantees does log compaction provide?": "all
-- delete markers for deleted records will be seen, provided the consumer reaches the head of the log in a time period less than
-- the topic's delete.retention.ms setting". Here the time runs for each record that a reader was shown.
use Rattle.std.specs.Prelude.{◌≡◌, ◌⊎◌, ⊤, ℕ, ℤ, pos, ◌+◌, ◌<◌, ◌≤◌, ◌≤ℤ◌, ◌<ℤ◌, true, List, [], ◌∷◌, ◌++◌, Some, None}
use Rattle.std.specs.List.{filter}
use Rattle.batch_codec.specs.Values.{BatchValue}
use Rattle.batch_codec.specs.Offsets.{first_offset}
use Rattle.content.specs.declared.part.CleaningPart.{CleaningPart}
use Rattle.content.specs.Records.{LogRecord, record_at, same_key}
use Rattle.content.specs.Content.{Content, IsContent, IsLogBatch, add, cut, end}
use Rattle.content.specs.Cleaning.{is_cleanable}
use Rattle.content.specs.Parts.{clean_part, NoneIsAcross}
use Rattle.cleaning_policy.specs.Readers.{IsAmong}
use Rattle.cleaning_courses.specs.Places.{IsBetweenBatches}

-- What happens at a time: a batch is appended; a part of the partition is cleaned by its broker, or by somebody else; a reader is
-- shown a record; the start moves. A whole cleaning is a part from the start on up to its bound.
pub data Step : Type 0 where
  Produce : (time : ℕ) → BatchValue → Step
  Clean : (time : ℕ) → CleaningPart → Step
  ForeignClean : (time : ℕ) → CleaningPart → Step
  Fetch : (time : ℕ) → LogRecord → Step
  Trim : (time : ℕ) → (start : ℤ) → Step

-- A list of steps has the latest first.

-- when it happens
abbrev pub time_of : Step → ℕ
time_of (Produce t b) = t
time_of (Clean t p) = t
time_of (ForeignClean t p) = t
time_of (Fetch t x) = t
time_of (Trim t start) = t

-- what the leader holds behind some steps, of what it held before them
abbrev pub content_after : Content → List Step → Content
content_after c [] = c
content_after c (Produce t b ∷ before) = add (content_after c before) b
content_after c (Clean t p ∷ before) = clean_part p (content_after c before)
content_after c (ForeignClean t p ∷ before) = clean_part p (content_after c before)
content_after c (Fetch t x ∷ before) = content_after c before
content_after c (Trim t start ∷ before) = cut start (content_after c before)

-- all batches that there ever were: those that it held first, and those that were appended
abbrev pub batches_ever : Content → List Step → List BatchValue
batches_ever c [] = c.kept
batches_ever c (Produce t b ∷ before) = batches_ever c before ++ b ∷ []
batches_ever c (_ ∷ before) = batches_ever c before

-- ---- a pass: parts with one bound, each from where an earlier one ended

-- A pass with this bound has come to a place, or further: to the start as it was once, or to where a part ended that began no
-- further than the pass had come before.
abbrev pub HasComeTo : (upto : ℤ) → Content → List Step → (place : ℤ) → Type 0
HasComeTo upto c [] place = place ≤ℤ c.start
HasComeTo upto c (Clean t p ∷ before) place =
    HasComeTo upto c before place ⊎ ((p.upto ≡ upto) × (place ≤ℤ p.to) × HasComeTo upto c before p.from)
HasComeTo upto c (Trim t start ∷ before) place = HasComeTo upto c before place ⊎ (place ≤ℤ start)
HasComeTo upto c (_ ∷ before) place = HasComeTo upto c before place

-- by a time a pass had come to its bound
pub record WasOver (c : Content) (steps : List Step) (time : ℕ) (upto : ℤ) : Type 0 where
  pub since : List Step
  pub before : List Step
  pub are : steps ≡ since ++ before
  pub over : HasComeTo upto c before upto
  pub by_then : (a : Step) → IsAmong a before → time_of a ≤ time

-- deletions below an offset may go: there are none, or a pass up to there, or further, was over so long before
abbrev pub MayTakeDeletions : (keep : ℕ) → Content → List Step → (time : ℕ) → ℤ → Type 0
MayTakeDeletions keep c before t tomb_before =
    (tomb_before ≤ℤ pos 0)
    ⊎ ((u : ℕ) × (far : ℤ) × WasOver c before u far × (tomb_before ≤ℤ far) × (u + keep ≤ t))

-- ---- a course

-- no batch that a part is to clean lies across where it begins or ends
abbrev pub HasWholeEnds : Content → CleaningPart → Type 0
HasWholeEnds c p = NoneIsAcross p.from (filter (is_cleanable p.upto) c.kept) × NoneIsAcross p.to (filter (is_cleanable p.upto) c.kept)

-- What may come behind some steps. A batch is appended at the end; the broker cleans a part with whole ends, up to a bound between
-- batches, with deletions that may go, and others as they like; a reader is shown what is there; the start moves to an offset
-- between batches.
abbrev pub MayFollow : (keep : ℕ) → Content → List Step → Step → Type 0
MayFollow keep c before (Produce t b) = IsLogBatch b × (first_offset b ≡ end (content_after c before))
MayFollow keep c before (Clean t p) =
    IsBetweenBatches (content_after c before) p.upto × HasWholeEnds (content_after c before) p × MayTakeDeletions keep c before t p.tomb_before
MayFollow keep c before (ForeignClean t p) = ⊤
MayFollow keep c before (Fetch t x) = record_at (content_after c before).kept x.0 ≡ Some x.1
MayFollow keep c before (Trim t start) =
    ((content_after c before).start ≤ℤ start) × IsBetweenBatches (content_after c before) start

-- what can happen on a leader that keeps deletions so long, at rising times
abbrev pub IsCourse : (keep : ℕ) → Content → List Step → Type 0
IsCourse keep c [] = IsContent c
IsCourse keep c (a ∷ before) =
    MayFollow keep c before a × ((b : Step) → IsAmong b before → time_of b ≤ time_of a) × IsCourse keep c before

-- ---- what readers may rely on

-- it has this record, or a later one of its key
abbrev pub HasItOrLater : Content → LogRecord → Type 0
HasItOrLater c z =
    (y : LogRecord) × (record_at c.kept y.0 ≡ Some y.1) × (same_key y.1 z.1 ≡ true) × (z.0 ≤ℤ y.0)

-- Somebody else's cleaning took the last record of this one's key that there ever was, a deletion.
pub record LastWasTaken (c : Content) (steps : List Step) (z : LogRecord) : Type 0 where
  pub since : List Step
  pub before : List Step
  pub time : ℕ
  pub part : CleaningPart
  pub one : LogRecord
  pub are : steps ≡ since ++ ForeignClean time part ∷ before
  pub there : record_at (content_after c before).kept one.0 ≡ Some one.1
  pub gone : ¬ (record_at (clean_part part (content_after c before)).kept one.0 ≡ Some one.1)
  pub same : same_key one.1 z.1 ≡ true
  pub deletion : one.1.value ≡ None
  pub last : (y : LogRecord) → record_at (batches_ever c steps) y.0 ≡ Some y.1 → same_key y.1 z.1 ≡ true → y.0 ≤ℤ one.0
  pub below : one.0 <ℤ part.tomb_before

-- Whoever was shown a record of a key less than so long ago finds each later record of the key that there ever was, though it be
-- a deletion, or one behind it; unless the start has moved past it, or somebody else's cleaning took the key's last.
abbrev pub LearnsInTime : (keep now : ℕ) → Content → List Step → Type 0
LearnsInTime keep now c steps =
    (t : ℕ) (x z : LogRecord) → IsAmong (Fetch t x) steps → now < t + keep
    → record_at (batches_ever c steps) z.0 ≡ Some z.1 → same_key z.1 x.1 ≡ true → x.0 <ℤ z.0
    → (content_after c steps).start ≤ℤ z.0 → HasItOrLater (content_after c steps) z ⊎ LastWasTaken c steps z
