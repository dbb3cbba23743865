-- The names of a directory by the list of all changes of them. A change takes a name away, or gives one to a file, or does both at
-- once, and the bytes of that file may be known; or it shortens the file of a name: of changes of any type, four functions say this.
use Rattle.std.specs.Prelude.{ℕ, Bool, true, false, not, ◌&&◌, ◌||◌, nat_eq, if◌then◌else◌, List, [], fold, take, Option, None, Some}
use Rattle.snapshot_drafts.specs.declared.memory.MemoryDraft.{MemoryDraft}
use Rattle.snapshot_drafts.specs.MemoryDrafts.{bytes_of}
use Rattle.data_directory.specs.declared.names.Name.{Name}
use Rattle.data_directory.specs.declared.names.Name.TheVariants.{Snapshot, Journal, Making}
use Rattle.data_directory.specs.Directories.{DirectoryState}

-- whether two names are the same
abbrev pub is_name : Name → Name → Bool
is_name (Snapshot number) (Snapshot other) = nat_eq number other
is_name (Journal number) (Journal other) = nat_eq number other
is_name Making Making = true
is_name _ _ = false

-- whether there is a name, and it is this one
abbrev pub has_name : Name → Option Name → Bool
has_name name None = false
has_name name (Some other) = is_name name other

-- whether a file has the name after a change that takes one away and gives one, where it is said whether one had it before
abbrev pub there_after : Name → (gone named : Option Name) → (before : Bool) → Bool
there_after name gone named before = has_name name named || (not (has_name name gone) && before)

-- whether a file has the name after these changes; at first none has it
abbrev pub is_there_by : {C : Type 0} (changes : List C) (gone named : C → Option Name) → Name → Bool
is_there_by changes gone named name = fold (λ before change. there_after name (gone change) (named change) before) false changes

-- the bytes of a file that got a name: those of a snapshot in the making, or none
abbrev pub draft_bytes : {A : Type 0} → Option (MemoryDraft A) → List ℕ
draft_bytes None = []
draft_bytes (Some draft) = bytes_of draft

-- the bytes of the snapshot of a number after a change, where those before are said: those of the file that got its name, or none where
-- it was shortened
abbrev pub bytes_after : ℕ → (named cut : Option Name) → (bytes : List ℕ) → (before : Option (List ℕ)) → Option (List ℕ)
bytes_after number named cut bytes before =
    if has_name (Snapshot number) named then Some bytes else if has_name (Snapshot number) cut then Some [] else before

-- those after these changes; at first they aren't known
abbrev pub bytes_by : {C : Type 0} (changes : List C) (named cut : C → Option Name) (bytes : C → List ℕ) → ℕ → Option (List ℕ)
bytes_by changes named cut bytes number =
    fold (λ before change. bytes_after number (named change) (cut change) (bytes change) before) None changes

-- whether no change shortened the file of a name
abbrev pub is_whole_by : {C : Type 0} (changes : List C) (cut : C → Option Name) → Name → Bool
is_whole_by changes cut name = fold (λ before change. not (has_name name (cut change)) && before) true changes

-- of these changes so many, from the first on, are on the disk for certain; and this is the last snapshot in the making
abbrev pub state_by : {C : Type 0} (changes : List C) (gone named cut : C → Option Name) (bytes : C → List ℕ) (synced making : ℕ) → DirectoryState
state_by changes gone named cut bytes synced making = record {
  there = λ name. Some (is_there_by changes gone named name);
  certain = λ name. Some (is_there_by (take synced changes) gone named name);
  bytes = bytes_by changes named cut bytes;
  whole = λ name. Some (is_whole_by changes cut name);
  making = making;
}
