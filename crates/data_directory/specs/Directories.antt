-- What is known of a directory. This project's own; Kafka's documentation has its like in "Implementation", section "Log" (the
-- files of a log's directory).
use Rattle.std.specs.Prelude.{◌≡◌, ◌⊎◌, ℕ, Bool, true, false, List, Option, None, IfSome}
use Rattle.std.specs.Option.{option_map}
use Rattle.data_directory.specs.declared.directory.Kind.{Kind}
use Rattle.data_directory.specs.declared.directory.Kind.TheVariants.{File}
use Rattle.data_directory.specs.declared.names.Name.{Name}
use Rattle.data_directory.specs.declared.names.Name.TheVariants.{Snapshot, Journal, Making}

-- Whether a regular file has a name; whether one has it on the disk for certain; the bytes of the snapshot of a number, which it
-- had when it got its name, and has; whether no file of a name was shortened; and which file was the last one that was made as a
-- snapshot in the making. Each where it is known: of a directory of the operating system nothing is.
pub record DirectoryState : Type 0 where
  pub there : Name → Option Bool
  pub certain : Name → Option Bool
  pub bytes : ℕ → Option (List ℕ)
  pub whole : Name → Option Bool
  pub making : ℕ

-- of this directory nothing is known
abbrev pub unknown : DirectoryState
unknown = record { there = λ name. None; certain = λ name. None; bytes = λ number. None; whole = λ name. None; making = 0 }

-- a regular file has the name, or none has it
abbrev pub IsThere : DirectoryState → Name → Bool → Type 0
IsThere d name is_there = IfSome (d.there name) (λ known. known ≡ is_there)

-- from then on a file has the name, or none has it, and this is known where it was known before
abbrev pub Becomes : (name : Name) (is_there : Bool) (old new : DirectoryState) → Type 0
Becomes name is_there old new = new.there name ≡ option_map (λ before. is_there) (old.there name)

-- All names are there as before, snapshots have the bytes that they had, no file was shortened, and the last snapshot in the making
-- is the one that it was, but for these names perhaps.
pub record KeepsOthers (touched : Name → Type 0) (old new : DirectoryState) : Type 0 where
  pub there : (name : Name) → (touched name → ⊥) → new.there name ≡ old.there name
  pub bytes : (number : ℕ) → (touched (Snapshot number) → ⊥) → new.bytes number ≡ old.bytes number
  pub whole : (name : Name) → (touched name → ⊥) → new.whole name ≡ old.whole name
  pub making : (touched Making → ⊥) → new.making ≡ old.making

-- what is on the disk for certain is so still, but for these names perhaps
abbrev pub KeepsCertain : (touched : Name → Type 0) (old new : DirectoryState) → Type 0
KeepsCertain touched old new = (name : Name) → (touched name → ⊥) → new.certain name ≡ old.certain name

-- the names that are there are on the disk for certain
abbrev pub AreCertain : DirectoryState → Type 0
AreCertain d = (name : Name) → d.certain name ≡ d.there name

-- no name
abbrev pub IsNone : Name → Type 0
IsNone name = ⊥

-- the name is this one
abbrev pub IsName : (name other : Name) → Type 0
IsName name other = other ≡ name

-- it is the name of a snapshot in the making, or that of the snapshot of this number
abbrev pub IsPublished : ℕ → Name → Type 0
IsPublished number name = (name ≡ Making) ⊎ (name ≡ Snapshot number)

-- A snapshot in the making has got the name of its number.
pub record Publishes (number : ℕ) (seen : Option (List ℕ)) (old new : DirectoryState) : Type 0 where
  pub gone : Becomes Making false old new
  pub named : Becomes (Snapshot number) true old new
  pub bytes : new.bytes number ≡ seen

-- whether a regular file stands there
abbrev pub is_file : Kind → Bool
is_file File = true
is_file _ = false

-- a file that was opened by the name of a snapshot has the bytes that this has
abbrev pub HasItsBytes : DirectoryState → Name → (seen : Option (List ℕ)) → Type 0
HasItsBytes d (Snapshot number) seen = IfSome (d.bytes number) (λ known. IfSome seen (λ file. file ≡ known))
HasItsBytes d (Journal number) seen = Unit {0}
HasItsBytes d Making seen = Unit {0}
