-- Lists of protocols, compared one by one.
use Rattle.std.proofs.Common.{◌≡◌, Bool, true, false, [], ◌∷◌, List, length, suc, refl, ap}
use Rattle.std.specs.Prelude.{◌&&◌}
use Rattle.group_coordinator.specs.Members.{Protocol}
use Rattle.group_coordinator.specs.Joining.{same_protocol, same_protocols}

-- lists of which one is longer aren't the same
pub other_length : (ps rs : List Protocol) → (length ps ≡ length rs → ⊥) → false ≡ same_protocols ps rs
other_length [] [] e = absurd (e refl)
other_length [] (r ∷ rs) e = refl
other_length (p ∷ ps) [] e = refl
other_length (p ∷ ps) (r ∷ rs) e = by (same_protocol p r) (other_length ps rs (λ same. e (ap suc same))) where
  by : (b : Bool) → false ≡ same_protocols ps rs → false ≡ (b && same_protocols ps rs)
  by true f = f
  by false f = refl
