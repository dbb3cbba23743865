-- An entry's work as the code does it: it is done, or a check fails, or memory lacks. No definition of a reply names it.
use Rattle.std.specs.Prelude.{◌≡◌, ◌⊎◌, true, ◌++◌, Some, None, Result, Ok, Err}
use Rattle.answering.specs.declared.codes.ErrorCode.{ErrorCode}
use Rattle.answering.specs.declared.codes.ErrorCode.TheVariants.{StorageError}
use Rattle.answering.specs.declared.memory.Refused.{Refused}
use Rattle.answering.specs.declared.memory.Refused.TheVariants.{Check, OutOfMemory}
use Rattle.answering.specs.Lists.{first_some}
use Rattle.answering.specs.Work.{Work}

-- ---- where the code alone is told

-- the first check that fails is named, or memory lacks, and nothing changed
abbrev pub FailsWork : {R S : Type 0} → Work R S → ErrorCode → S → S → Type 0
FailsWork w code s after =
    ((first_some (w.early ++ w.late) ≡ Some code)
    ⊎ (first_some w.early ≡ None) × (w.takes_memory ≡ true) × (code ≡ StorageError))
    × (after ≡ s)

-- the work was done, with what came of it for the answer, or it failed
abbrev pub DoesWork : {R S T : Type 0} → Work R S → (T → R) → Result T ErrorCode → S → S → Type 0
DoesWork w result (Ok x) s after = (first_some (w.early ++ w.late) ≡ None) × ((result x, after) ≡ w.done)
DoesWork w result (Err code) s after = FailsWork w code s after

-- ---- where it is told beside it whether memory lacked

-- the first check that fails is named, or memory lacks, and nothing changed
abbrev pub RefusesWork : {R S : Type 0} → Work R S → Refused → S → S → Type 0
RefusesWork w (Check code) s after = (first_some (w.early ++ w.late) ≡ Some code) × (after ≡ s)
RefusesWork w OutOfMemory s after = (first_some w.early ≡ None) × (w.takes_memory ≡ true) × (after ≡ s)

-- the work was done, with what came of it for the answer, or it was refused
abbrev pub DoesTold : {R S T : Type 0} → Work R S → (T → R) → Result T Refused → S → S → Type 0
DoesTold w result (Ok x) s after = (first_some (w.early ++ w.late) ≡ None) × ((result x, after) ≡ w.done)
DoesTold w result (Err refused) s after = RefusesWork w refused s after
