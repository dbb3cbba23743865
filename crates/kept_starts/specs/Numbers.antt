-- The numbers in the names of files.
use Rattle.std.specs.Prelude.{◌≡◌, ℕ, ◌≤◌, true, List, [], ◌∷◌, ◌++◌, Some}
use Rattle.std.specs.List.{Contains}
use Rattle.std.specs.List.Sorted.{IsNonDecreasingBy}
use Rattle.data_directory.specs.declared.names.Name.{Name}
use Rattle.data_directory.specs.declared.names.Name.TheVariants.{Snapshot, Journal, Making}
use Rattle.data_directory.specs.Directories.{DirectoryState}

-- each name that is there is one of these
abbrev pub AreListed : DirectoryState → List Name → Type 0
AreListed d names = (name : Name) → d.there name ≡ Some true → Contains names name

-- the number of a name is among those of its kind
abbrev pub IsAmong : (snapshots journals : List ℕ) → Name → Type 0
IsAmong snapshots journals (Snapshot number) = Contains snapshots number
IsAmong snapshots journals (Journal number) = Contains journals number
IsAmong snapshots journals Making = Unit {0}

-- the number of a name was added to those of its kind
abbrev pub Notes : Name → (snapshots journals snapshots' journals' : List ℕ) → Type 0
Notes (Snapshot number) ss js ss' js' = (ss' ≡ ss ++ number ∷ []) × (js' ≡ js)
Notes (Journal number) ss js ss' js' = (ss' ≡ ss) × (js' ≡ js ++ number ∷ [])
Notes Making ss js ss' js' = (ss' ≡ ss) × (js' ≡ js)

-- none is lower than one before it
abbrev pub Rise : List ℕ → Type 0
Rise numbers = IsNonDecreasingBy (λ (n : ℕ). n) numbers

-- none is higher than this one
abbrev pub AreAtMost : List ℕ → ℕ → Type 0
AreAtMost numbers highest = (number : ℕ) → Contains numbers number → number ≤ highest

-- there is none
abbrev pub HaveNone : List ℕ → Type 0
HaveNone numbers = (number : ℕ) → Contains numbers number → ⊥
