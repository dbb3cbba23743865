-- An image written part by part.
use Rattle.std.proofs.Common.{◌≡◌, ℕ, ◌+◌, ◌-◌, ◌<◌, ◌≤◌, ℤ, pos, List, [], ◌∷◌, ◌++◌, length, get_or, take, drop, sym, ap, subst, ◌∙◌, append_assoc, append-nil, arith}
use Rattle.std.specs.List.{flat_map}
use Rattle.std.specs.Prelude.{FitsSigned, Result, Ok, Err, OnOk, is_ok, if◌then◌else◌}
use Rattle.std.specs.Int.{w16, w32, w64, to_be_bytes, cast_signed, cast_unsigned}
use Rattle.std.proofs.lemmas.Int.{to_z-of_z}
use Rattle.std.proofs.lemmas.List.{take_all, take_more}
use Rattle.std.proofs.lemmas.Grind.{flat_map-append}
use Rattle.batch_codec.specs.Values.{BatchValue}
use Rattle.batch_codec.specs.Grammar.{fields, signed, batch_encoding}
use Rattle.cover_ranges.specs.Runs.{Runs}
use Rattle.content.specs.Content.{Content}
use Rattle.copy_images.specs.declared.layout.TheConstants.{MARK, VERSION, MAX_COUNT}
use Rattle.copy_images.specs.Images.{head_of, range_encoding, front_of, with_crc, image_of}

-- one more of the elements that are written one after the other
pub next_written : {X : Type 0} (enc : X → List ℕ) (old out new : List ℕ) (i : ℕ) (xs : List X) (x : X) → i < length xs → out ≡ old ++ flat_map enc (take i xs)
    → new ≡ out ++ enc (get_or xs i x) → new ≡ old ++ flat_map enc (take (i + 1) xs)
next_written enc old out new i xs x low so_far e =
    let here : List ℕ = enc (get_or xs i x) in
    let before : List ℕ = flat_map enc (take i xs) in
    let one : flat_map enc (take (i + 1) xs) ≡ before ++ here =
    ap (flat_map enc) (take_more xs i x low) ∙ flat_map-append enc (take i xs) (get_or xs i x ∷ []) ∙ ap (λ (y : List ℕ). before ++ y) (append-nil here) in
    e ∙ ap (λ (y : List ℕ). y ++ here) so_far ∙ append_assoc old before here ∙ ap (λ (y : List ℕ). old ++ y) (sym one)

-- all elements, where none is left
pub all_written : {X : Type 0} (enc : X → List ℕ) (old out : List ℕ) (i : ℕ) (xs : List X) → length xs ≤ i → out ≡ old ++ flat_map enc (take i xs) → out ≡ old ++ flat_map enc xs
all_written enc old out i xs over so_far = so_far ∙ ap (λ ys. old ++ flat_map enc ys) (take_all i xs over)

-- what is written so far, and what is left: one element more, and all
pub next_put : {X : Type 0} (enc : X → List ℕ) (out new : List ℕ) (left rest : List X) (x : X) (all : List ℕ) → left ≡ x ∷ rest → new ≡ out ++ enc x
    → out ++ flat_map enc left ≡ all → new ++ flat_map enc rest ≡ all
next_put {X = X} enc out new left rest x all next put so_far =
    ap (λ (y : List ℕ). y ++ flat_map enc rest) put ∙ append_assoc out (enc x) (flat_map enc rest) ∙ sym (ap (λ (xs : List X). out ++ flat_map enc xs) next) ∙ so_far

pub all_put : {X : Type 0} (enc : X → List ℕ) (out : List ℕ) (left : List X) (all : List ℕ) → left ≡ [] → out ++ flat_map enc left ≡ all → out ≡ all
all_put {X = X} enc out left all none so_far = sym (append-nil out) ∙ sym (ap (λ (xs : List X). out ++ flat_map enc xs) none) ∙ so_far

-- the batches from the first to before the last index are all
pub all_bytes : (out new : List ℕ) (bs : List BatchValue) (n : ℕ) → n ≡ length bs → new ≡ out ++ flat_map batch_encoding (take (n - 0) (drop 0 bs)) → new ≡ out ++ flat_map batch_encoding bs
all_bytes out new bs n is put =
    let whole : n - 0 ≡ n = omega arith in
    put ∙ ap (λ (k : ℕ). out ++ flat_map batch_encoding (take k bs)) whole ∙ ap (λ (xs : List BatchValue). out ++ flat_map batch_encoding xs) (take_all n bs (omega (arith, is)))

-- one more range
pub range_written : (old out new : List ℕ) (i : ℕ) (ranges : Runs) (range : ℤ × ℤ) → i < length ranges → out ≡ old ++ flat_map range_encoding (take i ranges)
    → new ≡ out ++ range_encoding (get_or ranges i range) → new ≡ old ++ flat_map range_encoding (take (i + 1) ranges)
range_written old out new i ranges range low so_far e = next_written range_encoding old out new i ranges range low so_far e

-- the two halves of a range, as code writes them
pub range_put : {T E : Type 0} (r : Result T E) (old mid new first last : List ℕ) (range : ℤ × ℤ) → FitsSigned w64 range.0 → FitsSigned w64 range.1
    → first ≡ to_be_bytes w64 (cast_unsigned w64 (cast_signed w64 (cast_unsigned w64 range.0))) → last ≡ to_be_bytes w64 (cast_unsigned w64 (cast_signed w64 (cast_unsigned w64 range.1)))
    → mid ≡ old ++ first → new ≡ (if is_ok r then mid ++ last else mid) → OnOk r (new ≡ old ++ range_encoding range)
unfolding range_encoding
range_put (Err e) old mid new first last range f g one two m n = tt
range_put (Ok x) old mid new first last range f g one two m n =
    let a : first ≡ to_be_bytes w64 (cast_unsigned w64 range.0) = one ∙ ap (λ (z : ℤ). to_be_bytes w64 (cast_unsigned w64 z)) (to_z-of_z w64 range.0 f) in
    let b : last ≡ to_be_bytes w64 (cast_unsigned w64 range.1) = two ∙ ap (λ (z : ℤ). to_be_bytes w64 (cast_unsigned w64 z)) (to_z-of_z w64 range.1 g) in
    n ∙ ap (λ (y : List ℕ). y ++ last) m ∙ append_assoc old first last ∙ (λ i. old ++ (a i ++ (b ∙ sym (append-nil (to_be_bytes w64 (cast_unsigned w64 range.1)))) i))

-- the head, as code writes it
pub head_put : {T E : Type 0} (r : Result T E) (old a b new mark version number : List ℕ) (start : ℤ) → FitsSigned w64 start
    → mark ≡ fields ((w32, MARK) ∷ []) → version ≡ fields (signed w16 VERSION ∷ []) → number ≡ fields (signed w64 (cast_signed w64 (cast_unsigned w64 start)) ∷ [])
    → a ≡ old ++ mark → b ≡ a ++ version → new ≡ (if is_ok r then b ++ number else b) → OnOk r (new ≡ old ++ head_of start)
unfolding head_of
head_put (Err e) old a b new mark version number start f one two three p q n = tt
head_put (Ok x) old a b new mark version number start f one two three p q n =
    let same = to_z-of_z w64 start f in
    n ∙ ap (λ (y : List ℕ). y ++ number) (q ∙ ap (λ (y : List ℕ). y ++ version) p) ∙ append_assoc (old ++ mark) version number ∙ append_assoc old mark (version ++ number)
    ∙ (λ i. old ++ (one i ++ (two i ++ (three ∙ ap (λ (z : ℤ). fields (signed w64 z ∷ [])) same) i)))

-- what comes between the head and the batches, as code writes it
pub front_put : {T E : Type 0} (r : Result T E) (old a b new first last : List ℕ) (ranges : Runs) (range_count batch_count : ℤ) → FitsSigned w32 range_count → FitsSigned w32 batch_count → range_count ≡ pos (length ranges)
    → first ≡ fields (signed w32 (cast_signed w32 (cast_unsigned w32 range_count)) ∷ []) → a ≡ old ++ first → b ≡ a ++ flat_map range_encoding ranges
    → last ≡ fields (signed w32 (cast_signed w32 (cast_unsigned w32 batch_count)) ∷ []) → new ≡ (if is_ok r then b ++ last else b) → OnOk r (new ≡ old ++ front_of ranges batch_count)
unfolding front_of
front_put (Err e) old a b new first last ranges range_count batch_count f g is one p q two n = tt
front_put (Ok x) old a b new first last ranges range_count batch_count f g is one p q two n =
    let middle = flat_map range_encoding ranges in
    let number : ℤ → List ℕ = λ z. fields (signed w32 z ∷ []) in
    let counted : first ≡ number (pos (length ranges)) = one ∙ ap number (to_z-of_z w32 range_count f ∙ is) in
    let batches : last ≡ number batch_count = two ∙ ap number (to_z-of_z w32 batch_count g) in
    n ∙ ap (λ (y : List ℕ). y ++ last) (q ∙ ap (λ (y : List ℕ). y ++ middle) p)
    ∙ append_assoc (old ++ first) middle last ∙ append_assoc old first (middle ++ last)
    ∙ (λ i. old ++ (counted i ++ (middle ++ batches i)))

-- an image, as code writes it
pub image_put : {T E : Type 0} (r : Result T E) (old a b d new : List ℕ) (c : Content) (start : ℤ) (ranges : Runs) (count : ℤ) → FitsSigned w64 start → FitsSigned w32 count → old ≡ [] → start ≡ c.start → ranges ≡ c.cover → count ≡ pos (length c.kept)
    → a ≡ old ++ head_of (cast_signed w64 (cast_unsigned w64 start)) → b ≡ a ++ front_of ranges (cast_signed w32 (cast_unsigned w32 count)) → d ≡ b ++ flat_map batch_encoding c.kept → OnOk r (new ≡ with_crc d) → OnOk r (new ≡ image_of c)
image_put (Err e) old a b d new c start ranges count g f none starts runs is p q s n = tt
image_put (Ok x) old a b d new c start ranges count g f none starts runs is p q s n =
    let counted : cast_signed w32 (cast_unsigned w32 count) ≡ pos (length c.kept) = to_z-of_z w32 count f ∙ is in
    let started : cast_signed w64 (cast_unsigned w64 start) ≡ c.start = to_z-of_z w64 start g ∙ starts in
    let head : a ≡ head_of c.start = p ∙ (λ i. none i ++ head_of (started i)) in
    let front : b ≡ head_of c.start ++ front_of c.cover (pos (length c.kept)) = q ∙ (λ i. head i ++ front_of (runs i) (counted i)) in
    n ∙ ap with_crc (s ∙ ap (λ (y : List ℕ). y ++ flat_map batch_encoding c.kept) front ∙ append_assoc (head_of c.start) (front_of c.cover (pos (length c.kept))) (flat_map batch_encoding c.kept))

-- a count as code passes it on
pub count_passed : (field : ℤ) (n m : ℕ) → field ≡ pos n → n ≤ MAX_COUNT → n ≡ m → cast_signed w32 (cast_unsigned w32 field) ≡ pos m
count_passed field n m is few same =
    let fits : FitsSigned w32 field = subst (FitsSigned w32) (sym is) (record { sfits = omega (arith, few) }) in
    to_z-of_z w32 field fits ∙ is ∙ ap pos same

pub on_ok : {T E : Type 0} (r : Result T E) (P : Type 0) → P → OnOk r P
on_ok (Ok x) P p = p
on_ok (Err e) P p = tt
