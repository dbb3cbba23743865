-- Requests of one entry, which are answered as one. Both what is replied and what may be replied go by the entry's work.
use Rattle.std.specs.Prelude.{◌≡◌, ℕ, List, ◌++◌, Option, Some}
use Rattle.answering.specs.Work.{Work, answer, MayAnswer}
use Rattle.answering.specs.Plans.{HowAnswered}

-- what is sent, and the state after, where memory suffices
abbrev pub reply_once : {R S : Type 0} → (response : R → List ℕ) → Work R S → S → Option (List ℕ) × S
reply_once response w s = let a = answer w s in (Some (response a.0), a.1)

-- what is sent and the state after, where the entry is answered in such a way
pub record RepliesOnce {R S : Type 0} (A : HowAnswered) (response : R → List ℕ) (w : Work R S) (s : S) (reply : Option (List ℕ)) (after : S) : Type 0 where
  pub result : R
  pub answers : A R S w s result after
  pub sends : reply ≡ Some (response result)

-- the entry is answered, whether memory suffices or not, and the response is written behind the output
pub record WritesOnce {R S : Type 0} (response : R → List ℕ) (w : Work R S) (s : S) (out out' : List ℕ) (after : S) : Type 0 where
  pub result : R
  pub answers : MayAnswer w s result after
  pub appends : out' ≡ out ++ response result
