-- What is told of memory beside the answer to an entry.
use Rattle.std.proofs.Common.{◌≡◌, inl, inr, ℕ, ℤ, List, ◌++◌, Option, Ok, refl, sym, ap, ◌∙◌}
use Rattle.answering.specs.declared.memory.Memory.{Memory}
use Rattle.answering.specs.declared.memory.Memory.TheVariants.{Sufficed, Lacked, LackedInPart}
use Rattle.answering.specs.declared.memory.Refused.{Refused}
use Rattle.answering.specs.declared.memory.Refused.TheVariants.{Check, OutOfMemory}
use Rattle.answering.specs.Work.{Work, answer_after, IsAnswer, MayAnswer}
use Rattle.answering.specs.Refusals.{noted, refused_code, refused_memory}
use Rattle.answering.specs.Telling.{AnswersTold, TellsNext, WritesTold}
use Rattle.answering.specs.Doing.{RefusesWork, DoesTold}

-- it is one of the ways in which the entry may be answered
pub told_may : {R S : Type 0} (memory : Memory) (w : Work R S) (s : S) (r : R) (after : S) → AnswersTold memory w s r after → MayAnswer w s r after
told_may Sufficed w s r after is = inl is
told_may Lacked w s r after lacks = inr lacks
told_may LackedInPart w s r after in_part = absurd in_part

-- work that was done is answered so
pub done_told : {R S T : Type 0} (w : Work R S) (result : T → R) (x : T) (s after : S) → DoesTold w result (Ok x) s after → IsAnswer w s (result x) after
done_told w result x s after h = h.1 ∙ sym (ap (λ o. answer_after o w s) h.0)

-- and work that was refused
pub refused_told : {R S : Type 0} (w : Work R S) (refused : Refused) (s after : S) → RefusesWork w refused s after
    → AnswersTold (refused_memory refused) w s (w.failed (refused_code refused)) after
refused_told w (Check code) s after h = (λ i. (w.failed code, h.1 i)) ∙ sym (ap (λ o. answer_after o w s) h.0)
refused_told w OutOfMemory s after h = record { passes = h.0; takes_memory = h.1; fails = refl; unchanged = h.2 }

-- what was written is a response to the work's answer
pub told_written : {R S : Type 0} (sent : ℤ → R → List ℕ) (memory : Memory) (w : Work R S) (s after : S) (r : R) (n z : ℤ) (out out' : List ℕ) → z ≡ n
    → AnswersTold memory w s r after → out' ≡ out ++ sent z r → WritesTold (sent n) w s out out' memory after
told_written sent memory w s after r n z out out' same told e =
    record { result = r; answers = told; appends = e ∙ ap (λ m. out ++ sent m r) same }

-- it is noted behind what was told of the entries before
pub told_next : {R S : Type 0} (told : Memory) (before now : Option Memory) (w : Work R S) (s : S) (r : R) (after : S) → now ≡ noted before told → AnswersTold told w s r after
    → TellsNext w (s, before) r (after, now)
told_next told before now w s r after is answers = record { told = told; answers = answers; notes = is }
