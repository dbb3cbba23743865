-- A broker that was started with a directory.
use Rattle.std.specs.Prelude.{◌≡◌, ℕ, ℤ, zero, suc, ◌⊎◌, ◌+◌, ◌-◌, ◌<◌, ◌≤◌, Bool, true, false, is_some, List, [], ◌++◌, length, take, drop, Option, None, IfSome, MatchBool}
use Rattle.std.specs.Int.{cast_unsigned, w64}
use Rattle.broker_state.specs.State.{ConfigValue, State, new_state}
use Rattle.snapshots.specs.Heads.{SnapshotValue, StartsWithHead}
use Rattle.state_snapshots.specs.Restoring.{IsRestored}
use Rattle.journal.specs.declared.head.Head.{Head}
use Rattle.journal.specs.Files.{HasLaterSync, HasNoGroup, head_bytes, head_size}
use Rattle.journal.specs.Heads.{StartsWithJournalHead}
use Rattle.journal.specs.Journals.{JournalState}
use Rattle.journal.specs.Readers.{IsReader, ReaderState}
use Rattle.data_directory.specs.declared.names.Name.{Name}
use Rattle.data_directory.specs.declared.names.Name.TheVariants.{Snapshot, Journal}
use Rattle.data_directory.specs.Directories.{DirectoryState, HasItsBytes}
use Rattle.kept_rotations.specs.Below.{HasRecovered, Replays}
use Rattle.kept_rotations.specs.Below.{IsKept, KeptState}
use Rattle.kept_rotations.specs.GoingOn.{IsKeptOn}
use Rattle.kept_rotations.specs.declared.opening.TheConstants.{MEANING}
use Rattle.kept_rotations.specs.declared.files.KeptFiles.{KeptFiles}
use Rattle.kept_rotations.specs.Moments.{RotationState}
use Rattle.kept_rotations.specs.Steps.{IsNextTaken}
use Rattle.kept_starts.specs.declared.starting.Found.{Found}
use Rattle.kept_starts.specs.declared.places.Stood.{Stood}
use Rattle.kept_starts.specs.declared.places.Stood.TheVariants.{OfSnapshot}
use Rattle.kept_starts.specs.declared.snapshot.Shape.{Shape}
use Rattle.kept_starts.specs.declared.snapshot.Shape.TheVariants.{Former, Asked}
use Rattle.kept_starts.specs.Places.{IsPlaced, stood_behind}
use Rattle.kept_starts.specs.Growth.{HasTopicsOf, HoldsStill, IsSetUp, asks_more}
use Rattle.kept_starts.specs.Rows.{HasNone, IsFileOf, IsTakenRow}

-- a file begins with these bytes, where it is known
abbrev pub IsFrontOf : (seen : Option (List ℕ)) → List ℕ → Type 0
IsFrontOf seen bytes = IfSome seen (λ file. bytes ≡ take (length bytes) file)

-- A file begins with this head, which has this key, if its version has one, and a broker of this configuration holds what the images behind it say.
pub record HoldsImages (seen : Option (List ℕ)) (config : ConfigValue) (s : State) : Type 0 where
  pub head : SnapshotValue
  pub key : Option ℤ
  pub at : ℕ
  pub stands : IfSome seen (λ bytes. StartsWithHead head key bytes (drop at bytes))
  pub restored : IsRestored head seen at (new_state config) s

-- so it is of some file
pub record IsOfSnapshot {D : Type 0} (seen : D → Option (List ℕ)) (config : ConfigValue) (s : State) : Type 0 where
  pub file : D
  pub holds : HoldsImages (seen file) config s

-- Some frames, handled again one after the other, lead from one state to another.
pub record LeadsTo (s after : State) : Type 0 where
  pub frames : List (List ℕ)
  pub replays : Replays s frames after

-- The broker holds what a snapshot said, of a broker of some configuration, and what frames of journals led to from there.
pub record IsRecovered {D : Type 0} (seen : D → Option (List ℕ)) (s : State) : Type 0 where
  pub config : ConfigValue
  pub held : State
  pub of_snapshot : IsOfSnapshot seen config held
  pub led : LeadsTo held s

-- No client has come. The broker began in the state that its last journal's first frame found, and holds what the frames of that
-- file led to from there.
abbrev pub GoesOn : {D : Type 0} (seen : D → Option (List ℕ)) (found : State) (k : KeptState D) → Type 0
GoesOn seen found k = (k.world.sessions ≡ []) × IsKept seen found k.world.state k

-- No client has come. The broker holds what a snapshot said, of a broker of some configuration, and what the frames of journals
-- led to from there, of which the last ones stand in the file of the last journal. What is so of every keeper follows: nothing
-- left, or will leave, that they don't lead to.
pub record IsStarted {D : Type 0} (seen : D → Option (List ℕ)) (k : KeptState D) : Type 0 where
  pub no_client : k.world.sessions ≡ []
  pub config : ConfigValue
  pub held : State
  pub of_snapshot : IsOfSnapshot seen config held
  pub kept : IsKeptOn seen held k.world.state k

-- ---- the files of a row

-- The file of the snapshot of this number, which its head has too, and this key of its journal, says what a broker of some configuration holds. It
-- has the bytes that the snapshot had when it got its name.
pub record SnapshotHolds {F : Type 0} (d : DirectoryState) (gives : Name → F → Type 0) (seen : F → Option (List ℕ)) (number : ℕ) (key : Option ℤ) (s : State) : Type 0 where
  pub file : F
  pub is_its : IsFileOf d gives (Snapshot number) file
  pub its_bytes : HasItsBytes d (Snapshot number) (seen file)
  pub config : ConfigValue
  pub holds : HoldsImages (seen file) config s
  pub says : cast_unsigned w64 holds.head.number ≡ number
  pub keyed : holds.key ≡ key

-- The file is that of the journal of this number, and begins with this head, which says the number; where there may be groups behind it,
-- their frames mean what the program takes them for.
pub record IsJournalOf {F : Type 0} (d : DirectoryState) (gives : Name → F → Type 0) (seen : F → Option (List ℕ)) (number : ℕ) (file : F) (head : Head) : Type 0 where
  pub is_its : IsFileOf d gives (Journal number) file
  pub begins : IfSome (seen file) (λ bytes. StartsWithJournalHead head bytes)
  pub says : cast_unsigned w64 head.number ≡ number
  pub means : IfSome (seen file) (λ bytes. (head.meaning ≡ MEANING) ⊎ (length bytes ≤ head_size head))

-- The frames of a file's groups, from behind its head up to where no group stands, lead from one state to another.
pub record GroupsLead (seen : Option (List ℕ)) (head : Head) (s after : State) : Type 0 where
  pub end : ℕ
  pub count : ℕ
  pub recovered : HasRecovered seen head.key (head_size head) end s after count
  pub ended : IfSome seen (λ file. HasNoGroup head.key end (drop end file))

-- So do those of the journal of this number.
pub record JournalLeads {F : Type 0} (d : DirectoryState) (gives : Name → F → Type 0) (seen : F → Option (List ℕ)) (number : ℕ) (s after : State) : Type 0 where
  pub file : F
  pub head : Head
  pub is_journal : IsJournalOf d gives seen number file head
  pub groups : GroupsLead (seen file) head s after

-- And behind them it has nothing.
pub record WholeLeads {F : Type 0} (d : DirectoryState) (gives : Name → F → Type 0) (seen : F → Option (List ℕ)) (number : ℕ) (s after : State) : Type 0 where
  pub journal : JournalLeads d gives seen number s after
  pub whole : IfSome (seen journal.file) (λ bytes. length bytes ≡ journal.groups.end)

-- It stands behind this, and the next one is to stand behind it.
pub record StandsWhole {F : Type 0} (d : DirectoryState) (gives : Name → F → Type 0) (seen : F → Option (List ℕ)) (number : ℕ) (stood : Stood) (s : State) (behind : Stood) (after : State) : Type 0 where
  pub whole : WholeLeads d gives seen number s after
  pub placed : IsPlaced stood whole.journal.head
  pub next : behind ≡ stood_behind whole.journal.head whole.journal.groups.end

-- The whole journals of so many numbers in a row, from this one on, lead from one state to another, each from where the one before led to. The first
-- stands behind this, each other one behind the one before it, and so the next one is to.
abbrev pub RowLeads : {F : Type 0} (d : DirectoryState) (gives : Name → F → Type 0) (seen : F → Option (List ℕ)) (first count : ℕ) (stood : Stood) (s : State) (behind : Stood) (after : State) → Type 0
RowLeads d gives seen first zero stood s behind after = (s ≡ after) × (behind ≡ stood)
RowLeads d gives seen first (suc count) stood s behind after =
    (mid : State) × (between : Stood) × RowLeads d gives seen first count stood s between mid × StandsWhole d gives seen (first + count) between mid behind after

-- What the snapshot says, and the whole journals from its number up to before the last one, lead to this state; behind this the last one is to stand.
pub record FormerLead {F : Type 0} (d : DirectoryState) (gives : Name → F → Type 0) (seen : F → Option (List ℕ)) (snapshot last : ℕ) (stood : Stood) (s : State) : Type 0 where
  pub held : State
  pub key : Option ℤ
  pub of_snapshot : SnapshotHolds d gives seen snapshot key held
  pub led : RowLeads d gives seen snapshot (last - snapshot) (OfSnapshot key) held stood s

-- A journal was read to the end of its last sound group, behind which no group says that more was on the disk; its frames lead from one
-- state to another.
pub record IsReadUp {D : Type 0} (seen : D → Option (List ℕ)) (s : State) (reader : ReaderState D) (after : State) : Type 0 where
  pub is_reader : IsReader seen reader
  pub count : ℕ
  pub recovered : HasRecovered (seen reader.disk) reader.head.key (head_size reader.head) reader.at s after count
  pub ended : IfSome (seen reader.disk) (λ file. HasNoGroup reader.head.key reader.at (drop reader.at file))
  pub undamaged : IfSome (seen reader.disk) (λ file. HasLaterSync reader.head.key reader.at (drop reader.at file) → ⊥)

-- From there the last journal, which stands behind these, leads to this state.
pub record FilesLead {F : Type 0} (d : DirectoryState) (gives : Name → F → Type 0) (seen : F → Option (List ℕ)) (snapshot last : ℕ) (s : State) : Type 0 where
  pub between : State
  pub stood : Stood
  pub former : FormerLead d gives seen snapshot last stood between
  pub newest : JournalLeads d gives seen last between s
  pub placed : IsPlaced stood newest.head

-- The files of a directory were taken, from its highest snapshot up to its last journal, and lead to this state.
pub record AreTaken {F : Type 0} (d : DirectoryState) (gives : Name → F → Type 0) (seen : F → Option (List ℕ)) (snapshot last : ℕ) (s : State) : Type 0 where
  pub row : IsTakenRow d gives seen snapshot last
  pub lead : FilesLead d gives seen snapshot last s

-- ---- what the last journal's frames mean

-- a file begins with the bytes of this head
abbrev pub BeginsWith : (seen : Option (List ℕ)) → Head → Type 0
BeginsWith seen head = IfSome seen (λ file. (rest : List ℕ) × (file ≡ head_bytes head ++ rest))

-- a journal's file begins with a head that says that its frames mean what they mean to this program
abbrev pub MeansThis : {D : Type 0} (seen : D → Option (List ℕ)) → JournalState D → Type 0
MeansThis seen journal = IfSome (seen journal.disk) (λ file. (head : Head) × (rest : List ℕ) × (head.meaning ≡ MEANING) × (file ≡ head_bytes head ++ rest))

-- a head is one that this program writes: of its meaning, and of version 1, which says what stood before
abbrev pub IsCurrent : Head → Type 0
IsCurrent head = (head.meaning ≡ MEANING) × (is_some head.before ≡ true)

-- a journal's file begins with such a head
abbrev pub HasNewHead : {D : Type 0} (seen : D → Option (List ℕ)) → JournalState D → Type 0
HasNewHead seen journal = IfSome (seen journal.disk) (λ file. (head : Head) × (rest : List ℕ) × IsCurrent head × (file ≡ head_bytes head ++ rest))

-- the last journal's frames mean that; and where it is taken for one that this program writes it has such a head
abbrev pub GoesOnMeaning : {D F : Type 0} (seen : D → Option (List ℕ)) → RotationState F → JournalState D → Type 0
GoesOnMeaning seen r journal = MeansThis seen journal × (r.files.is_current ≡ true → HasNewHead seen journal)

-- ---- the snapshots that follow

-- A snapshot was taken, and none is being written. It has the number behind the last one; or that of the last one, which had no snapshot.
pub record IsFolded {F : Type 0} (old new : RotationState F) : Type 0 where
  pub last : IsNextTaken old new
  pub snapshot : new.files.snapshot ≡ new.files.last
  pub draft : new.draft ≡ None

-- a snapshot was taken behind these files, of the last number
abbrev pub IsPast : (snapshot journal : ℕ) → KeptFiles → Type 0
IsPast snapshot journal files = (files.snapshot ≡ files.last) × ((snapshot < files.last) × (journal ≤ files.last))

-- it was taken behind what was found
abbrev pub IsBehind : Found → KeptFiles → Type 0
IsBehind found files = IsPast found.snapshot found.journal files

-- snapshots go on from these files, or from a snapshot that was taken behind them
abbrev pub GoesOnBehind : (snapshot journal : ℕ) → KeptFiles → Type 0
GoesOnBehind snapshot journal files = ((files.snapshot ≡ snapshot) × (files.last ≡ journal)) ⊎ IsPast snapshot journal files

-- none is being written, and they go on from the files that were found, or behind them
abbrev pub RotatesFrom : {F : Type 0} → Found → RotationState F → Type 0
RotatesFrom found r = (r.draft ≡ None) × MatchBool found.has_grown (IsBehind found r.files) (GoesOnBehind found.snapshot found.journal r.files)

-- ---- what is taken

-- where the snapshot's journal is the last one, and is to have no frame, the files lead to what the snapshot says
abbrev pub IsAsHeld : Shape → (snapshot last : ℕ) → (held s : State) → Type 0
IsAsHeld Former snapshot last held s = Unit {0}
IsAsHeld Asked snapshot last held s = snapshot ≡ last → s ≡ held

-- the last journal has no frame, where it is to have none
abbrev pub IsEmptyIf : Shape → (count : ℕ) → Type 0
IsEmptyIf Former count = Unit {0}
IsEmptyIf Asked count = count ≡ 0

-- The files lead to this state, from a broker that was set up as the snapshot says, or as is asked for.
pub record LeadAsAsked {F : Type 0} (d : DirectoryState) (gives : Name → F → Type 0) (seen : F → Option (List ℕ)) (asked : ConfigValue) (shape : Shape) (is_grown : Bool)
    (snapshot last : ℕ) (s : State) : Type 0 where
  pub lead : FilesLead d gives seen snapshot last s
  pub set_up : IsSetUp asked shape is_grown lead.former.of_snapshot.holds.head lead.former.of_snapshot.config
  pub unchanged : IsAsHeld shape snapshot last lead.former.held s

-- the configuration of the broker that was restored from their snapshot
abbrev pub set_up_of : {F : Type 0} {d : DirectoryState} {gives : Name → F → Type 0} {seen : F → Option (List ℕ)} {snapshot last : ℕ} {s : State}
    → AreTaken d gives seen snapshot last s → ConfigValue
set_up_of taken = taken.lead.former.of_snapshot.config

-- Of some topic more partitions are asked for than the snapshot has, and the broker holds still what the files lead to.
pub record IsGrown (knows : Type 0) (asked had : ConfigValue) (led now : State) : Type 0 where
  pub asks : asks_more asked had ≡ true
  pub holds : HoldsStill knows led now

-- None of a broker's files was there; or the files that are told were taken, and the broker holds what they lead to, of the topics that are asked
-- for, unless topics or partitions were added to that.
abbrev pub TakesFiles : {F : Type 0} (knows : Type 0) (d : DirectoryState) (gives : Name → F → Type 0) (seen : F → Option (List ℕ)) (asked : ConfigValue) (found : Found)
    (now : State) → Type 0
TakesFiles knows d gives seen asked found now =
    MatchBool found.is_new (HasNone d gives seen × (found.has_grown ≡ false))
    ((led : State) × (taken : AreTaken d gives seen found.snapshot found.journal led)
    × MatchBool found.has_grown (IsGrown knows asked (set_up_of taken) led now) ((now ≡ led) × HasTopicsOf asked (set_up_of taken)))

-- none of a broker's files is there; or the files that are told are taken, and lead to some state
abbrev pub TellsFiles : {F : Type 0} (d : DirectoryState) (gives : Name → F → Type 0) (seen : F → Option (List ℕ)) (found : Found) → Type 0
TellsFiles d gives seen found = MatchBool found.is_new (HasNone d gives seen) ((led : State) × AreTaken d gives seen found.snapshot found.journal led)
