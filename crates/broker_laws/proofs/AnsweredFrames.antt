-- Frames that are answered one after the other.
use Rattle.std.proofs.Common.{ℕ, List, [], ◌∷◌, ◌++◌, refl, sym, ap, subst, ◌∙◌, append_assoc}
use Rattle.std.proofs.lemmas.List.{append-nil}
use Rattle.broker_state.specs.State.{State}
use Rattle.broker_node.specs.Streams.{IsAnswered, AreAnswered}

pub answered_snoc : (s m after : State) (frames : List (List ℕ)) (frame out one : List ℕ) → AreAnswered s frames out m → IsAnswered m frame one after → AreAnswered s (frames ++ frame ∷ []) (out ++ one) after
answered_snoc s m after [] frame out one before answered =
    (one, [], after, subst (λ x. IsAnswered x frame one after) (sym before.1) answered, ap (λ x. x ++ one) before.0 ∙ sym (append-nil one), (refl, refl))
answered_snoc s m after (f ∷ fs) frame out one before answered = (
  before.0,
  before.1 ++ one,
  before.2,
  before.3,
  ap (λ x. x ++ one) before.4 ∙ append_assoc before.0 before.1 one,
  answered_snoc before.2 m after fs frame before.1 one before.5 answered,
)
