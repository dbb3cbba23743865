-- The work that an entry of a request asks for, and how it is answered. Kafka's documentation, "Protocol Guide": a
-- response has an error code for each partition, so one entry's failure is none of another's.
use Rattle.std.specs.Prelude.{◌≡◌, ◌⊎◌, Bool, true, List, ◌++◌, Option, Some, None}
use Rattle.answering.specs.declared.codes.ErrorCode.{ErrorCode}
use Rattle.answering.specs.declared.codes.ErrorCode.TheVariants.{StorageError}
use Rattle.answering.specs.Lists.{first_some}

-- An entry's checks in their order, with a result `R` and a state `S`. The early ones take no memory. `takes_memory` says
-- whether the work does from there on. `done` is the result where all pass, and the state after it; `failed` is the
-- result of a check that doesn't.
pub record Work (R S : Type 0) : Type 0 where
  pub early : List (Option ErrorCode)
  pub takes_memory : Bool
  pub late : List (Option ErrorCode)
  pub done : R × S
  pub failed : ErrorCode → R

abbrev pub answer_after : {R S : Type 0} → Option ErrorCode → Work R S → S → R × S
answer_after (Some code) w s = (w.failed code, s)
answer_after None w s = w.done

-- the answer to an entry, and the state after it, where memory suffices
abbrev pub answer : {R S : Type 0} → Work R S → S → R × S
answer w s = answer_after (first_some (w.early ++ w.late)) w s

abbrev pub IsAnswer : {R S : Type 0} → Work R S → S → R → S → Type 0
IsAnswer w s r after = (r, after) ≡ answer w s

-- the answer where memory runs out: the early checks passed, and the state stays
pub record IsOutOfMemory {R S : Type 0} (w : Work R S) (s : S) (r : R) (after : S) : Type 0 where
  pub passes : first_some w.early ≡ None
  pub takes_memory : w.takes_memory ≡ true
  pub fails : r ≡ w.failed StorageError
  pub unchanged : after ≡ s

-- what may be answered, whether memory suffices or not
abbrev pub MayAnswer : {R S : Type 0} → Work R S → S → R → S → Type 0
MayAnswer w s r after = IsAnswer w s r after ⊎ IsOutOfMemory w s r after
