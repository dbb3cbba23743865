-- A request that is answered once is answered by what fits, and leaves a sound state, where each of its results fits and the
-- work that is done leaves one.
use Rattle.std.proofs.Common.{◌≡◌, ℕ, ◌≤◌, ℤ, pos, List, ◌++◌, length, Option, None, sym, subst}
use Rattle.std.specs.Prelude.{FitsSigned}
use Rattle.std.specs.Int.{w32}
use Rattle.frame_fields.specs.Fields.{size32, Fields, Value, be, Fits, encoded}
use Rattle.frame_fields.specs.Types.{bytes, ◌⨾◌}
use Rattle.frame_fields.specs.Frames.{IsBytes}
use Rattle.frame_fields.proofs.Numbers.{IsBytes-second}
use Rattle.responses.specs.Responses.{response}
use Rattle.answering.specs.declared.codes.ErrorCode.{ErrorCode}
use Rattle.answering.specs.Lists.{first_some}
use Rattle.answering.specs.Work.{Work, MayAnswer}
use Rattle.answering.specs.Once.{RepliesOnce}
use Rattle.broker_state.specs.State.{State}
use Rattle.broker_state.specs.Sound.{IsSound}
use Rattle.broker_node.specs.Fitting.{FitsIfSent}
use Rattle.broker_node.proofs.KeptStates.{worked}
use Rattle.broker_laws.proofs.Said.{IsSaid, bytes_first}
use Rattle.broker_laws.proofs.FittingResponses.{enough, fitting_response, IsKept}

-- the values fit, and have fewer bytes than any response
pub record FitsOnce (d : Fields) (v : Value d) : Type 0 where
  pub fits : Fits d v
  pub size : length (encoded d v) ≤ enough

pub once_fits : {R : Type 0} (correlation : ℤ) (d : Fields) (value : R → Value d) (w : Work R State) (s : State) (out : Option (List ℕ)) (after : State) → FitsSigned w32 correlation → IsSound s
    → ((code : ErrorCode) → FitsOnce d (value (w.failed code)))
    → (first_some (w.early ++ w.late) ≡ None → FitsOnce d (value w.done.0) × IsSound w.done.1)
    → RepliesOnce (λ R S w. MayAnswer w) (λ r. response correlation d (value r)) w s out after → IsKept correlation d out after
once_fits correlation d value w s out after number sound failed done h =
    let has = worked (λ r m. FitsOnce d (value r) × IsSound m) w s h.result after (λ code. (failed code, sound)) done h.answers in
    (subst (FitsIfSent correlation d) (sym h.sends) (fitting_response correlation d (value h.result) number has.0.fits has.0.size), has.1)

-- what a field of bytes says is of bytes
pub bytes_said : (d : Fields) (v : Value (bytes ⨾ d)) → IsSaid (bytes ⨾ d) v → IsBytes v.0
unfolding encoded
bytes_said d v said = IsBytes-second (be size32 (pos (length v.0))) v.0 (bytes_first (be size32 (pos (length v.0)) ++ v.0) (encoded d v.1) said.bytes)
