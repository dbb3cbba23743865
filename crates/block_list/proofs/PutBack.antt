-- One block that is read, changed or left as it was, and put back in its place.
use Rattle.std.specs.Prelude.{if◌then◌else◌}
use Rattle.std.specs.Result.{IsErr, is_ok}
use Rattle.std.proofs.Common.{◌≡◌, ℕ, ◌<◌, List, [], length, get_or, set, Result, Ok, Err, sym, ap, ◌∙◌, arith}
use Rattle.std.proofs.lemmas.Bool.{false≢true}
use Rattle.std.proofs.lemmas.List.{set-get_or, get_or_read}
use Rattle.block_list.specs.Blocks.{starts_of}

-- as it was
pub put_back : {X : Type 0} (bs : List (List X)) (k : ℕ) (read now : List X) → read ≡ get_or bs k read → now ≡ read → set bs k now ≡ bs
put_back {X = X} bs k read now reads same = ap (λ (b : List X). set bs k b) (same ∙ reads) ∙ set-get_or bs k read

pub starts_kept : {X : Type 0} (bs : List (List X)) (k : ℕ) (read now : List X) (starts : List ℕ) → starts ≡ starts_of 0 bs → read ≡ get_or bs k read → now ≡ read
    → starts ≡ starts_of 0 (set bs k now)
starts_kept {X = X} bs k read now starts is reads same = is ∙ ap (λ (x : List (List X)). starts_of 0 x) (sym (put_back bs k read now reads same))

-- after a call that failed
pub as_they_were : {X T E : Type 0} (r : Result T E) (bs shown other : List (List X)) → IsErr r → bs ≡ shown → bs ≡ (if is_ok r then other else shown)
as_they_were (Ok x) bs shown other fails view = absurd (false≢true fails)
as_they_were (Err e) bs shown other fails view = view

-- changed
pub changed : {X : Type 0} (f : List X → List X) (bs shown : List (List X)) (k : ℕ) (read now : List X) → bs ≡ shown → k < length shown → read ≡ get_or bs k read → now ≡ f read
    → set bs k now ≡ set shown k (f (get_or shown k []))
changed {X = X} f bs shown k read now view lt reads made =
    let long : length bs ≡ length shown = ap (λ (x : List (List X)). length x) view in
    let from : read ≡ get_or shown k [] = get_or_read bs k read (omega (arith, lt, long)) reads [] ∙ ap (λ (x : List (List X)). get_or x k []) view in
    λ i. set (view i) k ((made ∙ ap f from) i)

-- how long it is
pub length_read : {X : Type 0} (bs shown : List (List X)) (k : ℕ) (read : List X) → bs ≡ shown → k < length shown → read ≡ get_or bs k read → length read ≡ length (get_or shown k [])
length_read {X = X} bs shown k read view lt reads =
    let long : length bs ≡ length shown = ap (λ (x : List (List X)). length x) view in
    ap (λ (x : List X). length x) (get_or_read bs k read (omega (arith, lt, long)) reads [] ∙ ap (λ (x : List (List X)). get_or x k []) view)
