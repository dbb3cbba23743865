-- A copy's content, put together again of its parts.
use Rattle.std.proofs.Common.{◌≡◌, ◌<◌, ◌+◌, ℕ, ℤ, List, [], ◌∷◌, ◌++◌, length, take, get_or, sym, ap, subst, ◌∙◌}
use Rattle.std.proofs.lemmas.List.{take_more}
use Rattle.batch_codec.specs.Values.{BatchValue}
use Rattle.cover_ranges.specs.Runs.{Runs}
use Rattle.content.specs.Content.{Content, IsContent}
use Rattle.cleaner.specs.Given.{content_of}

pub is_content : (c : Content) (start : ℤ) (runs : Runs) (kept : List BatchValue) → start ≡ c.start → runs ≡ c.cover → kept ≡ c.kept → IsContent c → IsContent (content_of start runs kept)
is_content c start runs kept start_is cover_is kept_is valid = subst IsContent (λ i. record { start = sym start_is i; cover = sym cover_is i; kept = sym kept_is i }) valid

-- ---- the batches, read one after another

pub one_more : (bs old new : List BatchValue) (seen copy : BatchValue) (i : ℕ) → i < length bs
    → old ≡ take i bs → new ≡ old ++ copy ∷ [] → copy ≡ seen → seen ≡ get_or bs i seen → new ≡ take (i + 1) bs
one_more bs old new seen copy i lt before pushed same is =
    pushed ∙ ap (λ (xs : List BatchValue). xs ++ copy ∷ []) before
    ∙ ap (λ (x : BatchValue). take i bs ++ x ∷ []) (same ∙ is)
    ∙ sym (take_more bs i seen lt)
