-- Lists that are written element by element.
use Rattle.std.proofs.Common.{◌≡◌, ℕ, ◌+◌, ◌<◌, get_or, take, List, [], ◌∷◌, ◌++◌, length, refl, sym, ap, ◌∙◌, append_assoc, append-nil}
use Rattle.std.specs.Prelude.{map}
use Rattle.std.specs.List.{flat_map}
use Rattle.std.proofs.lemmas.List.{take_more, map-append}
use Rattle.std.proofs.lemmas.Grind.{flat_map-append}

-- one more of the elements that are written one after the other
pub next_written : {X R : Type 0} (enc : R → List ℕ) (f : X → R) (old out new : List ℕ) (i : ℕ) (xs : List X) (x : X) → i < length xs → x ≡ get_or xs i x
    → out ≡ old ++ flat_map enc (map f (take i xs)) → new ≡ out ++ enc (f x) → new ≡ old ++ flat_map enc (map f (take (i + 1) xs))
next_written enc f old out new i xs x low is so_far e =
    let before = map f (take i xs) in
    let all : map f (take (i + 1) xs) ≡ before ++ f x ∷ [] = ap (map f) (take_more xs i x low) ∙ map-append f (take i xs) (get_or xs i x ∷ []) ∙ ap (λ y. before ++ f y ∷ []) (sym is) in
    e ∙ ap (λ (y : List ℕ). y ++ enc (f x)) so_far ∙ append_assoc old (flat_map enc before) (enc (f x))
    ∙ ap (λ (y : List ℕ). old ++ (flat_map enc before ++ y)) (sym (append-nil (enc (f x))))
    ∙ ap (λ (y : List ℕ). old ++ y) (sym (ap (flat_map enc) all ∙ flat_map-append enc before (f x ∷ [])))

pub map_twice : {X Y Z : Type 0} (f : X → Y) (g : Y → Z) (xs : List X) → map g (map f xs) ≡ map (λ x. g (f x)) xs
map_twice f g [] = refl
map_twice f g (x ∷ xs) = ap (λ zs. g (f x) ∷ zs) (map_twice f g xs)
