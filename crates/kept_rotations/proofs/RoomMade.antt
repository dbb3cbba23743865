-- A group that is put into the journal once more.
use Rattle.std.proofs.Common.{◌≡◌, inl, inr, ℕ, ◌+◌, ◌^◌, ◌<◌, ◌≤◌, ◌++◌, Bool, true, false, List, length, Option, Some, None, sym, ap, subst, ◌∙◌, true≢false}
use Rattle.std.specs.Prelude.{IfSome}
use Rattle.std.specs.Io.KnownBytes.{append_known}
use Rattle.data_directory.specs.declared.names.Name.TheVariants.{Making}
use Rattle.data_directory.specs.Directories.{DirectoryState, IsName, KeepsOthers}
use Rattle.journal.specs.declared.error.JournalError.{JournalError}
use Rattle.journal.specs.declared.error.JournalError.TheVariants.{Failed, Empty, TooLarge, Full, OnDisk}
use Rattle.journal.specs.declared.layout.TheConstants.{FRAMES_AT, MOST_GROUP}
use Rattle.journal.specs.Disks.{Tears}
use Rattle.journal.specs.Files.{group_with, group_bytes}
use Rattle.journal.specs.Journals.{JournalState, StopsMend, next_bytes}
use Rattle.broker_state.specs.State.{State}
use Rattle.kept_sessions.specs.declared.keeper.CommitError.{CommitError}
use Rattle.kept_sessions.specs.declared.keeper.CommitError.TheVariants.{OutOfMemory, Journal as InJournal}
use Rattle.kept_sessions.specs.Noting.{NotesValue}
use Rattle.kept_sessions.specs.Keeping.{IsKept, IsTornBy, KeptState, StopsCommit, TearsBy}
use Rattle.kept_rotations.specs.GoingOn.{IsSameButBarred}
use Rattle.snapshot_drafts.specs.Parts.{DraftState}
use Rattle.kept_rotations.specs.Moments.{RotationState, IsOfMoment, WritesMoment}
use Rattle.kept_rotations.specs.Steps.{Drops, IsBelow}
use Rattle.kept_rotations.specs.Putting.{GrowsByGroup, IsMended, IsRoom, StopsPut}
use Rattle.kept_rotations.proofs.Touched.{others_then}

module _ {D : Type 0} (seen : D → Option (List ℕ)) where
  -- what a call that appends does to a journal's file
  pub grows : (frames : List ℕ) (old new : JournalState D) → seen new.disk ≡ append_known (seen old.disk) (next_bytes old frames) → GrowsByGroup seen frames old new
  grows frames old new is = by (seen old.disk) is
    where
      by : (o : Option (List ℕ)) → seen new.disk ≡ append_known o (next_bytes old frames)
          → IfSome o (λ file. (synced : ℕ) × (seen new.disk ≡ Some (file ++ group_bytes old.key old.end (group_with synced frames))))
      by None is = tt
      by (Some file) is = (old.synced, is)

  abbrev grown_of : JournalState D → Option (List ℕ) → NotesValue → List ℕ → ℕ → Type 0
  grown_of new o notes key end = IfSome o (λ file. (synced : ℕ) × (seen new.disk ≡ Some (file ++ group_bytes key end (group_with synced notes.frames))))

  -- and where its end was mended before
  pub grows_back : (before mid : KeptState D) (new : JournalState D) → IsMended seen before mid → GrowsByGroup seen mid.notes.frames mid.journal new → GrowsByGroup seen before.notes.frames before.journal new
  grows_back before mid new mended grown =
      subst (λ (o : Option (List ℕ)). grown_of new o before.notes before.journal.key before.journal.end) mended.file
      (subst (λ (n : NotesValue). grown_of new (seen mid.journal.disk) n before.journal.key before.journal.end) mended.notes
      (subst (λ (k : List ℕ). grown_of new (seen mid.journal.disk) mid.notes k before.journal.end) mended.key
      (subst (λ (e : ℕ). grown_of new (seen mid.journal.disk) mid.notes mid.journal.key e) mended.end grown)))

  -- a torn end stays one where the barrier alone changes
  pub torn_still : (before k k' : KeptState D) → IsTornBy seen before k → IsSameButBarred seen k k' → IsTornBy seen before k'
  torn_still before k k' torn same = record {
    world = same.world ∙ torn.world;
    notes = same.notes ∙ torn.notes;
    torn = ap (λ (j : JournalState D). j.is_torn) same.journal ∙ torn.torn;
    key = ap (λ (j : JournalState D). j.key) same.journal ∙ torn.key;
    start = ap (λ (j : JournalState D). j.start) same.journal ∙ torn.start;
    end = ap (λ (j : JournalState D). j.end) same.journal ∙ torn.end;
    size = torn.size;
    tears = subst (λ (j : JournalState D). Tears (seen before.journal.disk) (seen j.disk)) (sym same.journal) torn.tears;
  }

  pub mended : (before k k' : KeptState D) → IsTornBy seen before k → k'.notes ≡ k.notes → k'.journal.key ≡ k.journal.key → k'.journal.start ≡ k.journal.start → k'.journal.end ≡ k.journal.end
      → ((b : KeptState D) → IsTornBy seen b k → seen k'.journal.disk ≡ seen b.journal.disk) → k'.journal.has_failed ≡ false
      → ((first start : State) (b : KeptState D) → IsTornBy seen b k → IsKept seen first start b → IsKept seen first start k') → IsMended seen before k'
  mended before k k' torn notes key start end file works kept = record {
    notes = notes ∙ torn.notes;
    key = key ∙ torn.key;
    start = start ∙ torn.start;
    end = end ∙ torn.end;
    file = file before torn;
    works = works;
    kept = λ first begun was. kept first begun before torn was;
  }

  -- where the disk failed in an append, and in nothing else, the end is torn
  pub torn_by : {why : CommitError} (old new : KeptState D) (e : _) → why ≡ InJournal (OnDisk e) → TearsBy seen old new why → new.journal.is_torn ≡ true → IsTornBy seen old new
  torn_by old new e is tears torn = subst (TearsBy seen old new) is tears torn

module _ {D : Type 0} (has_failed : D → Bool) (unsure : Bool) where
  -- why the first try stops
  pub stops_first : (old new : KeptState D) (why : CommitError) → StopsCommit has_failed old new why → StopsPut has_failed unsure old new why
  stops_first old new OutOfMemory stops = stops.0
  stops_first old new (InJournal Failed) stops = stops.2.1
  stops_first old new (InJournal Empty) stops = stops.2.1.1
  stops_first old new (InJournal TooLarge) stops = stops.2.1.1
  stops_first old new (InJournal Full) stops = stops.2.1.1
  stops_first old new (InJournal (OnDisk e)) stops = inl stops.2.0

  -- why the second try stops
  pub stops_second : (seen : D → Option (List ℕ)) (before mid new : KeptState D) (why : CommitError) → IsMended seen before mid → StopsCommit has_failed mid new why → StopsPut has_failed unsure before new why
  stops_second seen before mid new OutOfMemory mended stops = sym (ap (λ (n : NotesValue). n.has_lacked) mended.notes) ∙ stops.0
  stops_second seen before mid new (InJournal Failed) mended stops = absurd (true≢false (sym stops.2.1 ∙ mended.works))
  stops_second seen before mid new (InJournal Empty) mended stops = subst (λ (n : NotesValue). length n.frames ≡ 0) mended.notes stops.2.1.1
  stops_second seen before mid new (InJournal TooLarge) mended stops = subst (λ (n : NotesValue). MOST_GROUP < length n.frames) mended.notes stops.2.1.1
  stops_second seen before mid new (InJournal Full) mended stops =
      subst (λ (n : NotesValue). 2 ^ 64 ≤ before.journal.end + (FRAMES_AT + length n.frames)) mended.notes
      (subst (λ (e : ℕ). 2 ^ 64 ≤ e + (FRAMES_AT + length mid.notes.frames)) mended.end stops.2.1.1)
  stops_second seen before mid new (InJournal (OnDisk e)) mended stops = inl stops.2.0

  -- why the end isn't mended
  pub stops_mending : (before k k' : KeptState D) (why : JournalError) → k.journal.is_torn ≡ true → StopsMend has_failed k.journal k'.journal why → StopsPut has_failed unsure before k' (InJournal why)
  stops_mending before k k' (OnDisk e) torn stops = inl stops.0
  stops_mending before k k' Failed torn stops = absurd (true≢false (sym torn ∙ stops.2))
  stops_mending before k k' Empty torn stops = absurd stops
  stops_mending before k k' TooLarge torn stops = absurd stops
  stops_mending before k k' Full torn stops = absurd stops

-- ---- names, and what was being written

pub room_made : {F : Type 0} (old new : RotationState F) (snapshot : ℕ) (d e d' : DirectoryState) → old.files.snapshot ≡ snapshot → KeepsOthers (IsName Making) d e → Drops old new e d' → KeepsOthers (IsRoom snapshot) d d'
room_made old new snapshot d e d' is first dropped =
    subst (λ (n : ℕ). KeepsOthers (IsRoom n) d d') is
    (others_then (IsName Making) (IsRoom old.files.snapshot) d e (λ name at. inl at) (IsBelow old.files.snapshot) d' (λ name below. inr below) first dropped.names)

pub none_written : {D F : Type 0} (seen : F → Option (List ℕ)) (base : State) (k : KeptState D) (r : RotationState F) → r.draft ≡ None → WritesMoment seen base k r
none_written seen base k r none = subst (λ (o : Option (DraftState _)). IfSome o (IsOfMoment seen r.files.last base k)) (sym none) tt
