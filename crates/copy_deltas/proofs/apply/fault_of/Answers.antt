use Rattle.std.proofs.Common.{ℕ, List, sym, subst}
use Rattle.delta_bytes.specs.declared.error.DeltaError.{DeltaError}
use Rattle.delta_bytes.specs.Fronts.{Refuses}
use Rattle.copy_deltas.specs.Applying.{BytesFault}
use Rattle.copy_deltas.proofs.apply.fault_of.Goals as goal

pub returns-in-InFront : goal.returns-in-InFront
returns-in-InFront c = subst (λ (f : DeltaError). (bytes : List ℕ) → Refuses bytes f → BytesFault bytes c.fault_in_front.result) (sym c.in-InFront.is) c.fault_in_front.ensures
