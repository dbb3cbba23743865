-- Lemmas on the printed form of bytes.
use Rattle.std.proofs.Common.{◌≡◌, ℕ, ◌+◌, ◌<◌, ◌≤◌, Bool, true, false, not, ◌&&◌, cond, None, Some, List, [], ◌∷◌, ◌++◌, length, take, drop, get_or, refl, sym, ap, ◌∙◌, arith, append-nil, append_assoc, add-one, suc, ◌-◌, drop-cons}
use Rattle.std.specs.List.{position, position_or_len, list_all}
use Rattle.std.proofs.lemmas.Bool.{not-true, and_parts}
use Rattle.std.proofs.lemmas.Bool.Decides.{nat_tests}
use Rattle.std.proofs.lemmas.List.{take_more, take_all, take_rest, drop_all}
use Rattle.std.proofs.lemmas.List.Folds.{list_all-append}
use Rattle.std.proofs.lemmas.List.Quantifiers.{position-Some}
use Rattle.table_lines.specs.Lines.{is_unescaped, printed, printed_byte}

abbrev pub is_escaped : ℕ → Bool
is_escaped byte = not (is_unescaped byte)

-- a byte before bytes whose first n stand for themselves
printed_run_at : (b : Bool) (byte : ℕ) (bytes whole : List ℕ) (n : ℕ) → printed bytes ≡ take n bytes ++ printed (drop n bytes) → printed (byte ∷ bytes) ≡ whole → (b ≡ true → whole ≡ byte ∷ printed bytes) → printed (byte ∷ bytes) ≡ take (cond (not (not b)) (1 + n) 0) (byte ∷ bytes) ++ printed (drop (cond (not (not b)) (1 + n) 0) (byte ∷ bytes))
printed_run_at true byte bytes whole n rest e unescaped =
    let next : 1 + n ≡ suc n = omega arith in
    rw next (e ∙ unescaped refl ∙ ap (λ xs. byte ∷ xs) rest)
printed_run_at false byte bytes whole n rest e unescaped = refl

-- the unescaped bytes at the front are printed as they are
printed_run : (bytes : List ℕ) → printed bytes ≡ take (position_or_len is_escaped bytes) bytes ++ printed (drop (position_or_len is_escaped bytes) bytes)
printed_run [] = refl
printed_run (byte ∷ bytes) =
    printed_run_at (is_unescaped byte) byte bytes _ (position_or_len is_escaped bytes) (printed_run bytes) refl (λ unescaped. rw unescaped refl)

chosen_none : (b : Bool) (n : ℕ) → cond b (Some n) None ≡ None → b ≡ false
chosen_none true n e = cc
chosen_none false n e = refl

chosen_some : (b : Bool) (n k : ℕ) → cond b (Some n) None ≡ Some k → n ≡ k
chosen_some true n k e = cc
chosen_some false n k e = cc

-- bytes that are all unescaped are printed as they are
pub printed_all : (bytes : List ℕ) → position is_escaped bytes ≡ None → printed bytes ≡ bytes
printed_all bytes none =
    let over = chosen_none _ _ none in
    let long : length bytes ≤ position_or_len is_escaped bytes = grind (arith, nat_tests, over) in
    printed_run bytes ∙ rw (take_all _ bytes long, drop_all _ bytes long) (append-nil bytes)

and_true : (b : Bool) → (b && true) ≡ b
and_true true = refl
and_true false = refl

-- one byte more was tested
pub all_next : (bytes : List ℕ) (k d : ℕ) → k < length bytes → list_all is_unescaped (take (k + 1) bytes) ≡ (list_all is_unescaped (take k bytes) && is_unescaped (get_or bytes k d))
all_next bytes k d within =
    ap (λ (xs : List ℕ). list_all is_unescaped xs) (take_more bytes k d within) ∙ list_all-append is_unescaped (take k bytes) (get_or bytes k d ∷ [])
    ∙ ap (λ (b : Bool). list_all is_unescaped (take k bytes) && b) (and_true (is_unescaped (get_or bytes k d)))

-- bytes that are all printed as they are
pub printed_same : (bytes : List ℕ) → list_all is_unescaped bytes ≡ true → printed bytes ≡ bytes
printed_same [] all = refl
printed_same (byte ∷ bytes) all =
    let both = and_parts (is_unescaped byte) (list_all is_unescaped bytes) all in
    rw both.0 (ap (λ (xs : List ℕ). byte ∷ xs) (printed_same bytes both.1))

-- the first byte that is escaped
pub escaped_there : (bytes : List ℕ) (k : ℕ) → position is_escaped bytes ≡ Some k → is_unescaped (get_or bytes k 0) ≡ false
escaped_there bytes k some = not-true _ (position-Some is_escaped bytes k 0 some).1

-- the bytes before it are printed as they are
pub printed_split : (bytes : List ℕ) (k : ℕ) → position is_escaped bytes ≡ Some k → printed bytes ≡ take k bytes ++ (printed_byte (get_or bytes k 0) ++ printed (drop (k + 1) bytes))
printed_split bytes k some =
    let there = (position-Some is_escaped bytes k 0 some).0 in
    let index = chosen_some _ _ k some in
    let next : k + 1 ≡ suc k = add-one k in
    printed_run bytes ∙ rw (index, next, drop-cons bytes k 0 there) refl

-- bytes that are all unescaped, and nothing after them
pub all_printed : (bytes : List ℕ) → position is_escaped bytes ≡ None → printed bytes ≡ bytes ++ printed (take (length bytes - length bytes) (drop (length bytes) bytes))
all_printed bytes none =
    let long : length bytes ≤ length bytes = omega arith in
    rw (take_rest bytes (length bytes), drop_all _ bytes long) (printed_all bytes none ∙ sym (append-nil bytes))

-- the bytes up to the first that is escaped, and its escape
pub run_printed : (bytes : List ℕ) (k : ℕ) → position is_escaped bytes ≡ Some k → printed bytes ≡ (take k bytes ++ printed_byte (get_or bytes k 0)) ++ printed (take (length bytes - (k + 1)) (drop (k + 1) bytes))
run_printed bytes k some =
    rw (take_rest bytes (k + 1)) (printed_split bytes k some ∙ sym (append_assoc (take k bytes) (printed_byte (get_or bytes k 0)) (printed (drop (k + 1) bytes))))
