-- Bytes that are written at an offset of a file, and those that stand before and behind them.
use Rattle.std.proofs.Common.{◌≡◌, ℕ, zero, suc, ◌+◌, ◌-◌, ◌<◌, ◌≤◌, List, [], ◌∷◌, ◌++◌, length, take, drop, replicate, refl, sym, ap, ◌∙◌, arith, append_assoc, append-nil}
use Rattle.std.proofs.lemmas.List.{take_all, take-append-le, drop-append-le, drop_all, length-take, length-drop, length-append, length-replicate, take-replicate, drop-drop, take-append-drop}
use Rattle.std.proofs.Math.Seq.{take-append_seam, drop-append_seam, drop-append-add, take-append-add}
use Rattle.std.proofs.Common.{inl, inr}
use Rattle.std.specs.Prelude.{◌⊎◌}
use Rattle.std.proofs.lemmas.Bool.{cases_lt}
use Rattle.snapshot_drafts.specs.Files.{with_bytes, StandsAt}

-- what stands before the bytes that are written, as long as their offset says
abbrev pub front : (at : ℕ) (file : List ℕ) → List ℕ
front at file = take at file ++ replicate (at - length file) 0

pub length-front : (at : ℕ) (file : List ℕ) → length (front at file) ≡ at
length-front at file =
    let zeros : List ℕ = replicate (at - length file) 0 in
    omega (arith, length-append (take at file) zeros, length-take at file, length-replicate {A = ℕ} (at - length file) 0)

-- behind a front of that length
behind_front : (xs ys : List ℕ) (n : ℕ) → length xs ≡ n → drop n (xs ++ ys) ≡ ys
behind_front xs ys n is = ap (λ (k : ℕ). drop k (xs ++ ys)) (sym is) ∙ drop-append_seam xs ys

pub stands_here : (at : ℕ) (bytes file : List ℕ) → StandsAt at bytes (with_bytes at bytes file)
stands_here at bytes file =
    let rest = drop (at + length bytes) file in
    ap (take (length bytes)) (behind_front (front at file) (bytes ++ rest) at (length-front at file)) ∙ take-append_seam bytes rest

-- ---- behind

-- far behind the bytes that are written there is what was there
drop_behind : (at low : ℕ) (bytes file : List ℕ) → at + length bytes ≤ low → drop low (with_bytes at bytes file) ≡ drop low file
drop_behind at low bytes file le =
    let n = at + length bytes in
    let more = low - n in
    let rest = drop n file in
    let split : n + more ≡ low = omega (arith, le) in
    let long : length (front at file ++ bytes) ≡ n = omega (arith, length-append (front at file) bytes, length-front at file) in
    let counted : low ≡ length (front at file ++ bytes) + more = omega (arith, split, long) in
    let parts : with_bytes at bytes file ≡ (front at file ++ bytes) ++ rest = sym (append_assoc (front at file) bytes rest) in
    let moved : drop low ((front at file ++ bytes) ++ rest) ≡ drop more rest = ap (λ (k : ℕ). drop k ((front at file ++ bytes) ++ rest)) counted ∙ drop-append-add (front at file ++ bytes) rest more in
    ap (drop low) parts ∙ moved ∙ drop-drop more n file ∙ ap (λ (k : ℕ). drop k file) split

pub stands_behind : (at low : ℕ) (bytes file xs : List ℕ) → at + length bytes ≤ low → StandsAt low xs file → StandsAt low xs (with_bytes at bytes file)
stands_behind at low bytes file xs le stands = ap (take (length xs)) (drop_behind at low bytes file le) ∙ stands

-- ---- before

-- a slice that lies within the front
within_front : (xs ys : List ℕ) (low n : ℕ) → low + n ≤ length xs → take n (drop low (xs ++ ys)) ≡ take n (drop low xs)
within_front xs ys low n le =
    let some : n ≤ length (drop low xs) = omega (arith, le, length-drop low xs) in
    ap (take n) (drop-append-le low xs ys (omega (arith, le))) ∙ take-append-le n (drop low xs) ys some

-- some bytes stand within a file
stand_within : (low : ℕ) (file : List ℕ) (x : ℕ) (xs : List ℕ) → StandsAt low (x ∷ xs) file → low + length (x ∷ xs) ≤ length file
stand_within low file x xs stands =
    let count : length (take (length (x ∷ xs)) (drop low file)) ≡ length (x ∷ xs) = ap length stands in
    omega (arith, count, length-take (length (x ∷ xs)) (drop low file), length-drop low file)

-- a slice of the first bytes
within_take : (at low n : ℕ) (file : List ℕ) → low + n ≤ at → low + n ≤ length file → take n (drop low (take at file)) ≡ take n (drop low file)
within_take at low n file le fits =
    let some : low + n ≤ length (take at file) = omega (arith, le, fits, length-take at file) in
    sym (within_front (take at file) (drop at file) low n some) ∙ ap (λ (l : List ℕ). take n (drop low l)) (take-append-drop at file)

pub stands_before : (at low : ℕ) (bytes file xs : List ℕ) → low + length xs ≤ at → StandsAt low xs file → StandsAt low xs (with_bytes at bytes file)
stands_before at low bytes file [] le stands = refl
stands_before at low bytes file (x ∷ xs) le stands =
    let n = length (x ∷ xs) in
    let fits = stand_within low file x xs stands in
    let some : low + n ≤ length (front at file) = omega (arith, le, length-front at file) in
    let first : low + n ≤ length (take at file) = omega (arith, le, fits, length-take at file) in
    within_front (front at file) (bytes ++ drop (at + length bytes) file) low n some
    ∙ within_front (take at file) (replicate (at - length file) 0) low n first
    ∙ within_take at low n file le fits ∙ stands

-- ---- the whole

pub length_within : (at most : ℕ) (bytes file : List ℕ) → at + length bytes ≤ most → length file ≤ most → length (with_bytes at bytes file) ≤ most
length_within at most bytes file le short =
    let rest = drop (at + length bytes) file in
    omega (arith, le, short, length-append (front at file) (bytes ++ rest), length-append bytes rest, length-front at file, length-drop (at + length bytes) file)

pub both_stand : (at : ℕ) (xs ys file : List ℕ) → StandsAt at xs file → StandsAt (at + length xs) ys file → StandsAt at (xs ++ ys) file
both_stand at xs ys file first then =
    let here = drop at file in
    let rest = drop (length xs) here in
    let parts : here ≡ xs ++ rest = sym (take-append-drop (length xs) here) ∙ ap (λ (l : List ℕ). l ++ rest) first in
    let behind : take (length ys) rest ≡ ys = ap (take (length ys)) (drop-drop (length xs) at file) ∙ then in
    ap (λ (k : ℕ). take k here) (length-append xs ys) ∙ ap (take (length xs + length ys)) parts
    ∙ take-append-add xs rest (length ys) ∙ ap (λ (l : List ℕ). xs ++ l) behind

pub is_whole : (xs file : List ℕ) → StandsAt 0 xs file → length file ≤ length xs → file ≡ xs
is_whole xs file stands short = sym (take_all (length xs) file short) ∙ stands

-- ---- in memory

-- a vector whose elements were all written over
written_over : (len : ℕ) (new old : List ℕ) → length new ≡ length old → len ≡ length old → take len (new ++ drop (length new) old) ≡ new
written_over len new old same is =
    let none : drop (length new) old ≡ [] = drop_all (length new) old (omega (arith, same)) in
    ap (λ (l : List ℕ). take len (new ++ l)) none ∙ ap (take len) (append-nil new) ∙ take_all len new (omega (arith, same, is))

take_split : (xs ys : List ℕ) (n : ℕ) → take n (xs ++ ys) ≡ take n xs ++ take (n - length xs) ys
take_split [] ys zero = refl
take_split [] ys (suc n) = let e : suc n ≡ suc n - 0 = omega arith in ap (λ (k : ℕ). take k ys) e
take_split (x ∷ xs) ys zero = let e : 0 ≡ 0 - length (x ∷ xs) = omega arith in ap (λ (k : ℕ). take k ys) e
take_split (x ∷ xs) ys (suc n) =
    let e : n - length xs ≡ suc n - length (x ∷ xs) = omega arith in
    ap (λ (l : List ℕ). x ∷ l) (take_split xs ys n ∙ ap (λ (k : ℕ). take n xs ++ take k ys) e)

-- the bytes up to an index within those that a file was lengthened to
take_lengthened : (at size : ℕ) (file : List ℕ) → at ≤ size → take at (file ++ replicate (size - length file) 0) ≡ front at file
take_lengthened at size file le =
    take_split file (replicate (size - length file) 0) at
    ∙ ap (λ (l : List ℕ). take at file ++ l) (take-replicate (at - length file) (size - length file) 0 (omega (arith, le)))

-- nothing was added where the file was long enough
drop_lengthened : (size : ℕ) (file : List ℕ) → drop size (file ++ replicate (size - length file) 0) ≡ drop size file
drop_lengthened size file = by (cases_lt (length file) size)
  where
    by : (length file < size) ⊎ (size ≤ length file) → drop size (file ++ replicate (size - length file) 0) ≡ drop size file
    by (inl lt) =
        let zeros : List ℕ = replicate (size - length file) 0 in
        let long : length (file ++ zeros) ≤ size = omega (arith, lt, length-append file zeros, length-replicate {A = ℕ} (size - length file) 0) in
        drop_all size (file ++ zeros) long ∙ sym (drop_all size file (omega (arith, lt)))
    by (inr le) =
        let none : size - length file ≡ 0 = omega (arith, le) in
        ap (λ (n : ℕ). drop size (file ++ replicate n 0)) none ∙ ap (drop size) (append-nil file)

-- a file that was made long enough by zeros, and bytes written over its own
pub put_into : (at end : ℕ) (bytes file grown before new : List ℕ) → end ≡ at + length bytes → grown ≡ file ++ replicate (end - length file) 0 → before ≡ grown
    → take (at + length bytes) new ≡ take at before ++ bytes → drop (at + length bytes) new ≡ drop (at + length bytes) before → new ≡ with_bytes at bytes file
put_into at end bytes file grown before new is lengthened same puts keeps =
    let n = at + length bytes in
    let all : before ≡ file ++ replicate (n - length file) 0 = same ∙ lengthened ∙ ap (λ (k : ℕ). file ++ replicate (k - length file) 0) is in
    let first : take at before ≡ front at file = ap (take at) all ∙ take_lengthened at n file (omega arith) in
    let rest : drop n new ≡ drop n file = keeps ∙ ap (drop n) all ∙ drop_lengthened n file in
    let parts : new ≡ (front at file ++ bytes) ++ drop n file = sym (take-append-drop n new) ∙ (λ i. (puts ∙ ap (λ (l : List ℕ). l ++ bytes) first) i ++ rest i) in
    parts ∙ append_assoc (front at file) bytes (drop n file)

-- the vector that holds what was put into its elements
pub put_back : (at end len : ℕ) (bytes file grown before new : List ℕ) → end ≡ at + length bytes → grown ≡ file ++ replicate (end - length file) 0 → before ≡ grown
    → take (at + length bytes) new ≡ take at before ++ bytes → drop (at + length bytes) new ≡ drop (at + length bytes) before → length new ≡ length before → len ≡ length grown
    → take len (new ++ drop (length new) grown) ≡ with_bytes at bytes file
put_back at end len bytes file grown before new is lengthened same puts keeps stays long =
    written_over len new grown (stays ∙ ap length same) long ∙ put_into at end bytes file grown before new is lengthened same puts keeps
