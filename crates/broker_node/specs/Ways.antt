-- The ways in which a request is answered: entry by entry, as one entry, or by a response that is fixed. What is replied, and
-- what may be replied where memory runs out, are both read from the way.
use Rattle.std.specs.Prelude.{◌≡◌, ℕ, List, Option, Some}
use Rattle.answering.specs.Work.{Work}
use Rattle.answering.specs.Plans.{Plan, HowAnswered, reply_by, RepliesBy}
use Rattle.answering.specs.Once.{reply_once, RepliesOnce}

-- `B` is the broker's state. `once` and `fixed` have the state in which the request is answered; a fixed response leaves it
-- as it is.
pub data Way (B : Type 0) : Type 1 where
  planned : {E R S : Type 0} → Plan E R S B → Way B
  once : {R : Type 0} → (response : R → List ℕ) → Work R B → B → Way B
  fixed : (response : List ℕ) → B → Way B

-- what is sent, and the state after, where memory suffices
abbrev pub reply_by_way : {B : Type 0} → Way B → Option (List ℕ) × B
reply_by_way (planned p) = reply_by p
reply_by_way (once response w s) = reply_once response w s
reply_by_way (fixed response s) = (Some response, s)

-- what is sent and the state after, where each entry is answered in the given way
abbrev pub RepliesByWay : {B : Type 0} → HowAnswered → Way B → Option (List ℕ) → B → Type 0
RepliesByWay A (planned p) out after = RepliesBy A p out after
RepliesByWay A (once response w s) out after = RepliesOnce A response w s out after
RepliesByWay A (fixed response s) out after = (out ≡ Some response) × (after ≡ s)
