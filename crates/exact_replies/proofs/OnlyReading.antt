-- Requests that may not change anything only read.
use Rattle.std.proofs.Common.{◌≡◌, ℕ, ℤ, false, List, Option, arith}
use Rattle.request_frames.specs.Requests.{BodyValue, RequestValue}
use Rattle.broker_state.specs.State.{State}
use Rattle.broker_node.specs.Kinds.{kind}
use Rattle.broker_node.specs.Effects.{may_change}
use Rattle.broker_node.specs.Replies.{MayReply}
use Rattle.broker_node.proofs.KeptStates.{Keeps, way_keeps}

only_reads : (s : State) (n : ℤ) (body : BodyValue) → may_change body ≡ false → Keeps (λ m. m ≡ s) ((kind body).way s n)
only_reads s n body is = grind (arith, is)

pub unchanged : (s after : State) (q : RequestValue) (out : Option (List ℕ)) → may_change q.body ≡ false → MayReply s q out after → after ≡ s
unchanged s after q out is = way_keeps (λ m. m ≡ s) ((kind q.body).way s q.correlation) out after (only_reads s q.correlation q.body is)
