-- Lemmas on what a writer took, piece by piece.
use Rattle.std.proofs.Common.{◌≡◌, ℕ, ◌<◌, ◌-◌, List, [], ◌++◌, length, take, drop, Option, refl, sym, ap, subst, ◌∙◌, append-nil, append_assoc, take-append-drop, arith}
use Rattle.std.specs.Prelude.{◌≢◌}
use Rattle.std.specs.Io.KnownBytes.{Appends, Keeps}
use Rattle.std.proofs.KnownBytes.{Appends-nil, Appends-trans, Appends-kept}
use Rattle.std.proofs.lemmas.List.{nil_from_length, take_rest}
use Rattle.streams.specs.State.{TakesAllBut, LosesRest}

pub nothing_taken : (a : Option (List ℕ)) (bytes : List ℕ) → TakesAllBut a a bytes bytes
nothing_taken a bytes = record { front = []; parts = refl; appends = Appends-nil a }

-- the writer took some more bytes
took_more : (a b c : Option (List ℕ)) (rest bytes : List ℕ) (count : ℕ) → TakesAllBut a b rest bytes → Appends b c (take count rest) → TakesAllBut a c (drop count rest) bytes
took_more a b c rest bytes count before piece = record {
  front = before.front ++ take count rest;
  parts =
      before.parts ∙ ap (λ (t : List ℕ). before.front ++ t) (sym (take-append-drop count rest))
      ∙ sym (append_assoc before.front (take count rest) (drop count rest));
  appends = Appends-trans a b c before.front (take count rest) before.appends piece;
}

-- the same of the slice from `count` on
pub piece_taken : (a b c : Option (List ℕ)) (rest bytes : List ℕ) (count : ℕ) → TakesAllBut a b rest bytes → Appends b c (take count rest) → TakesAllBut a c (take (length rest - count) (drop count rest)) bytes
piece_taken a b c rest bytes count before piece = subst (λ left. TakesAllBut a c left bytes) (sym (take_rest rest count)) (took_more a b c rest bytes count before piece)

-- no byte is left to take
pub all_taken : (a b : Option (List ℕ)) (rest bytes : List ℕ) → length rest ≡ 0 → TakesAllBut a b rest bytes → Appends a b bytes
all_taken a b rest bytes none took =
    let front : bytes ≡ took.front = took.parts ∙ ap (λ (t : List ℕ). took.front ++ t) (nil_from_length rest none) ∙ append-nil took.front in
    subst (Appends a b) (sym front) took.appends

-- the writer took no more of them
pub rest_lost : (a b c : Option (List ℕ)) (rest bytes : List ℕ) → 0 < length rest → TakesAllBut a b rest bytes → Keeps b c → LosesRest a c bytes
rest_lost a b c rest bytes some took kept =
    (rest, some, record { front = took.front; parts = took.parts; appends = Appends-kept a b c took.front took.appends kept })

-- ---- what is sent

-- bytes that are none
pub nothing_sent : (a : Option (List ℕ)) (bytes : List ℕ) → length bytes ≡ 0 → Appends a a bytes
nothing_sent a bytes none = subst (Appends a a) (sym (nil_from_length bytes none)) (Appends-nil a)

-- nothing of them is written
pub all_lost : (a : Option (List ℕ)) (bytes : List ℕ) → length bytes ≢ 0 → LosesRest a a bytes
all_lost a bytes some = (bytes, omega (arith, some), nothing_taken a bytes)
