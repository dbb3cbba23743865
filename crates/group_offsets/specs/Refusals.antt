-- Why nothing is written, and why a value isn't read. Kafka's documentation, "Protocol Guide", section "Protocol
-- Primitive Types": the length of a STRING is an INT16.
use Rattle.std.specs.Prelude.{◌≡◌, ℕ, List, Option, Some, None, Result, Ok, Err}
use Rattle.group_offsets.specs.declared.values.Committed.{Committed}
use Rattle.group_offsets.specs.declared.error.GroupError.{GroupError}
use Rattle.group_offsets.specs.declared.error.GroupError.TheVariants.{NameTooLong, BadValue, OutOfMemory}
use Rattle.group_offsets.specs.Keys.{IsName}
use Rattle.group_offsets.specs.CommittedValues.{CommittedValue, IsMetadata, committed_value}

-- the names of a key
abbrev pub AreNames : (group topic : List ℕ) → Type 0
AreNames group topic = IsName group × IsName topic

-- the texts of a commit
abbrev pub AreTexts : (group topic : List ℕ) (metadata : Option (List ℕ)) → Type 0
AreTexts group topic metadata = AreNames group topic × IsMetadata metadata

-- One of the texts is too long, or memory lacks for texts that fit.
abbrev pub RefusesTexts : (fit : Type 0) → GroupError → Type 0
RefusesTexts fit NameTooLong = ¬ fit
RefusesTexts fit BadValue = ⊥
RefusesTexts fit OutOfMemory = fit

-- what was answered is the value that was read; where there is none, that it is bad
abbrev pub ReadsAs : Result Committed GroupError → Option CommittedValue → Type 0
ReadsAs (Ok v) read = read ≡ Some (committed_value v)
ReadsAs (Err BadValue) read = read ≡ None
ReadsAs (Err NameTooLong) read = ⊥
ReadsAs (Err OutOfMemory) read = ⊥
