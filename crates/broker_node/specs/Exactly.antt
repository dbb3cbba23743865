-- Requests handled so that it is told whether memory sufficed. Where it did, the reply and the state after are those that the
-- state and the request make. Kafka's documentation, "Protocol Guide", section "The Messages".
use Rattle.std.specs.Prelude.{◌≡◌, ℕ, true, false, List, ◌++◌, Option, Result, Ok, Err}
use Rattle.request_frames.specs.Requests.{RequestValue}
use Rattle.answering.specs.declared.memory.Memory.{Memory}
use Rattle.answering.specs.declared.memory.Memory.TheVariants.{Sufficed, Lacked, LackedInPart}
use Rattle.answering.specs.Work.{IsOutOfMemory, MayAnswer}
use Rattle.answering.specs.Plans.{RepliesBy}
use Rattle.answering.specs.Once.{RepliesOnce}
use Rattle.answering.specs.Responding.{sent}
pub use Rattle.answering.specs.Telling.{AnyPair, LacksEntry, LacksAny, SufficesEntry, SufficesAny}
use Rattle.broker_state.specs.State.{State}
use Rattle.broker_node.specs.Ways.Way.{planned, once, fixed}
use Rattle.broker_node.specs.Ways.{Way}
use Rattle.broker_node.specs.Kinds.{kind}
use Rattle.broker_node.specs.Effects.{may_change}
use Rattle.broker_node.specs.Replies.{IsReply, MayReply}

-- ---- replies that lack memory

-- what is replied, where the work of each entry lacks memory, and there is one
abbrev pub LacksByWay : {B : Type 0} → Way B → Option (List ℕ) → B → Type 0
LacksByWay (planned p) out after = (replies : RepliesBy (λ R S w. IsOutOfMemory w) p out after) × LacksAny p replies.results
LacksByWay (once response w s) out after = RepliesOnce (λ R S w. IsOutOfMemory w) response w s out after
LacksByWay (fixed response s) out after = ⊥

abbrev pub LacksMemory : State → RequestValue → Option (List ℕ) → State → Type 0
LacksMemory s q out after = LacksByWay ((kind q.body).way s q.correlation) out after

-- what may be replied, where the work of an entry lacks memory, and that of another doesn't; so there are several
abbrev pub LacksInPartByWay : {B : Type 0} → Way B → Option (List ℕ) → B → Type 0
LacksInPartByWay (planned p) out after = (replies : RepliesBy (λ R S w. MayAnswer w) p out after) × LacksAny p replies.results × SufficesAny p replies.results
LacksInPartByWay (once response w s) out after = ⊥
LacksInPartByWay (fixed response s) out after = ⊥

abbrev pub LacksMemoryInPart : State → RequestValue → Option (List ℕ) → State → Type 0
LacksMemoryInPart s q out after = LacksInPartByWay ((kind q.body).way s q.correlation) out after

-- ---- what is told

-- Memory is told of requests that may change something. Where it lacked, the broker is as it was.
abbrev pub Tells : Memory → State → RequestValue → Option (List ℕ) → State → Type 0
Tells Sufficed s q out after = may_change q.body ≡ true → IsReply s q out after
Tells Lacked s q out after = LacksMemory s q out after × (after ≡ s)
Tells LackedInPart s q out after = LacksMemoryInPart s q out after

-- The output has what may be replied behind what it held, and what is told of memory is so. A request that only reads
-- leaves the broker as it is.
pub record HandlesExactly (s : State) (q : RequestValue) (held held' : List ℕ) (memory : Memory) (after : State) : Type 0 where
  pub response : Option (List ℕ)
  pub replies : MayReply s q response after
  pub appends : held' ≡ held ++ sent response
  pub tells : Tells memory s q response after
  pub reads_only : may_change q.body ≡ false → (memory ≡ Sufficed) × (after ≡ s)

-- ---- as the code goes

-- what is told of a request that only reads
abbrev pub told_sufficed : {E : Type 0} → Result (Unit {0}) E → Result Memory E
told_sufficed (Ok done) = Ok Sufficed
told_sufficed (Err e) = Err e
