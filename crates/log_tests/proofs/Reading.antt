-- A list that is read into memory, one batch after another.
use Rattle.std.proofs.Common.{◌≡◌, ℕ, ◌+◌, ◌<◌, List, [], ◌∷◌, ◌++◌, length, take, get_or, sym, ap, ◌∙◌}
use Rattle.std.proofs.lemmas.List.{take_more}
use Rattle.batch_codec.specs.Values.{BatchValue}

pub one_more : (bs old new : List BatchValue) (seen copy : BatchValue) (i : ℕ) → i < length bs
    → old ≡ take i bs → new ≡ old ++ copy ∷ [] → copy ≡ seen → seen ≡ get_or bs i seen → new ≡ take (i + 1) bs
one_more bs old new seen copy i lt before pushed same is =
    pushed ∙ ap (λ (xs : List BatchValue). xs ++ copy ∷ []) before
    ∙ ap (λ (x : BatchValue). take i bs ++ x ∷ []) (same ∙ is)
    ∙ sym (take_more bs i seen lt)
