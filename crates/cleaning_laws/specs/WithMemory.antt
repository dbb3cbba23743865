-- Answers in which memory suffices. Kafka's documentation, "Protocol Guide", section "Error Codes".
use Rattle.std.specs.Prelude.{◌≢◌}
use Rattle.answering.specs.declared.codes.ErrorCode.TheVariants.{StorageError}
use Rattle.answering.specs.Work.{MayAnswer}
use Rattle.answering.specs.Plans.{HowAnswered}

-- an entry is answered as it may be, and the result is not the one that lacks memory
abbrev pub AnsweredWithMemory : HowAnswered
AnsweredWithMemory = λ R S w s r after. MayAnswer w s r after × (r ≢ w.failed StorageError)
