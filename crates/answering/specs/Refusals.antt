-- Why an entry's work was not done, and what is told of memory.
use Rattle.std.specs.Prelude.{Option, Some, None}
use Rattle.answering.specs.declared.codes.ErrorCode.{ErrorCode}
use Rattle.answering.specs.declared.codes.ErrorCode.TheVariants.{StorageError}
use Rattle.answering.specs.declared.memory.Memory.{Memory}
use Rattle.answering.specs.declared.memory.Memory.TheVariants.{Sufficed, Lacked, LackedInPart}
use Rattle.answering.specs.declared.memory.Refused.{Refused}
use Rattle.answering.specs.declared.memory.Refused.TheVariants.{Check, OutOfMemory}

-- what is told of some entries and of others
abbrev pub of_both : Memory → Memory → Memory
of_both Sufficed Sufficed = Sufficed
of_both Lacked Lacked = Lacked
of_both _ _ = LackedInPart

-- what is told of entries, and of one more; of none nothing is told
abbrev pub noted : Option Memory → Memory → Option Memory
noted None told = Some told
noted (Some before) told = Some (of_both before told)

-- what is told of a request, by what was told of its entries
abbrev pub of_all : Option Memory → Memory
of_all None = Sufficed
of_all (Some told) = told

-- the code that answers an entry whose work was not done
abbrev pub refused_code : Refused → ErrorCode
refused_code (Check code) = code
refused_code OutOfMemory = StorageError

abbrev pub refused_memory : Refused → Memory
refused_memory (Check code) = Sufficed
refused_memory OutOfMemory = Lacked
