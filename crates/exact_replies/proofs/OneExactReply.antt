-- A request has one exact reply, the one that the function gives; so handled again it leaves the same state.
use Rattle.std.proofs.Common.{◌≡◌, ℕ, Bool, true, false, List, Option, refl, sym, ap, ◌∙◌}
use Rattle.request_frames.specs.Requests.{RequestValue}
use Rattle.answering.specs.declared.memory.Memory.TheVariants.{Sufficed}
use Rattle.broker_state.specs.State.{State}
use Rattle.broker_node.specs.Replies.{IsReply}
use Rattle.broker_node.proofs.PlannedReplies.{one_reply}
use Rattle.broker_node.specs.Effects.{may_change}
use Rattle.broker_node.specs.Exactly.{HandlesExactly}

pub same_reply : (s after after' : State) (q : RequestValue) (out out' : Option (List ℕ)) → IsReply s q out after → IsReply s q out' after' → (out ≡ out') × (after ≡ after')
same_reply s after after' q out out' is is_too =
    let same = (one_reply s after q out).0 is ∙ sym ((one_reply s after' q out').0 is_too) in (ap (λ x. x.0) same, ap (λ x. x.1) same)

pub same_again : (s after after' : State) (q : RequestValue) (held held' more more' : List ℕ) → HandlesExactly s q held held' Sufficed after → HandlesExactly s q more more' Sufficed after' → after ≡ after'
same_again s after after' q held held' more more' one two = by (may_change q.body) refl
  where
    by : (b : Bool) → may_change q.body ≡ b → after ≡ after'
    by true changes = (same_reply s after after' q one.response two.response (one.tells changes) (two.tells changes)).1
    by false reads = (one.reads_only reads).1 ∙ sym (two.reads_only reads).1
