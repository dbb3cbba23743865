-- The front of bytes is one entry, and a list of entries goes on where a shorter one ends.
use Rattle.std.proofs.Common.{◌≡◌, ℕ, ◌≤◌, ℤ, pos, ◌+ℤ◌, List, [], ◌∷◌, ◌++◌, length, drop, refl, sym, ap, subst, ◌∙◌, append_assoc, arith}
use Rattle.std.specs.List.{flat_map}
use Rattle.batch_codec.specs.Grammar.{batch_encoding}
use Rattle.batch_codec.proofs.Views.{one_encoding}
use Rattle.cover_ranges.specs.Runs.{Runs}
use Rattle.delta_bytes.specs.declared.layout.TheConstants.{LISTED, SENT}
use Rattle.deltas.specs.Entries.{Entry, entry_last, IsList, MayFollow, IsWithin, AreEntries}
use Rattle.deltas.specs.Entries.Entry.{Listed, Sent}
use Rattle.delta_bytes.specs.EntryBytes.{list_encoding, entry_bytes, IsNext}
use Rattle.delta_bytes.specs.Judging.{IsListAt}
use Rattle.delta_bytes.proofs.OffsetLists.{list_once}
use Rattle.delta_bytes.proofs.NextEntry.{first_byte}
use Rattle.delta_bytes.proofs.Walk.{low_from}

abbrev list_of : (base : ℤ) (os : List ℤ) (rest bytes : List ℕ) → IsList base os → bytes ≡ list_encoding base os ++ rest → IsListAt base os bytes
list_of base os rest bytes list is = record {
  listable = record { base_fits = list.base_fits; offsets_fit = list.offsets_fit; counted = list.counted };
  rest = rest;
  encoded = is;
}

lists_once : (base other : ℤ) (os qs : List ℤ) (r t : List ℕ) → IsList base os → IsList other qs → list_encoding base os ++ r ≡ list_encoding other qs ++ t → (Listed base os ≡ Listed other qs) × (r ≡ t)
lists_once base other os qs r t a b e =
    let once = list_once base other os qs (list_encoding base os ++ r) (list_of base os r (list_encoding base os ++ r) a refl) (list_of other qs t (list_encoding base os ++ r) b e) in
    ((λ i. Listed (once.base_same i) (once.offsets_same i)), once.rest_same)

-- entries of which the bytes begin alike are equal, and so is what follows
pub entry_once : (low high : ℤ) (x y : Entry) (r t : List ℕ) → MayFollow low x → MayFollow high y → entry_bytes x ++ r ≡ entry_bytes y ++ t → (x ≡ y) × (r ≡ t)
entry_once low high (Listed base os) (Listed other qs) r t a b e = lists_once base other os qs r t a.1 b.1 (ap (drop 1) e)
entry_once low high (Listed base os) (Sent y) r t a b e =
    let k : LISTED ≡ SENT = first_byte LISTED SENT (list_encoding base os ++ r) (batch_encoding y ++ t) e in
    absurd (omega (arith, k))
entry_once low high (Sent x) (Listed other qs) r t a b e =
    let k : SENT ≡ LISTED = first_byte SENT LISTED (batch_encoding x ++ r) (list_encoding other qs ++ t) e in
    absurd (omega (arith, k))
entry_once low high (Sent x) (Sent y) r t a b e =
    let once = one_encoding x y r t a.1.0 b.1.0 (ap (drop 1) e) in
    (ap Sent once.0, once.1)

pub next_once : (low high : ℤ) (x y : Entry) (bytes : List ℕ) → (at : IsNext low x bytes) → (other : IsNext high y bytes) → (x ≡ y) × (at.rest ≡ other.rest)
next_once low high x y bytes at other = entry_once low high x y at.rest other.rest at.may_follow other.may_follow (sym at.encoded ∙ other.encoded)

-- ---- lists of entries

-- of two fronts of the same bytes the longer one goes on where the shorter one ends
pub record GoesOn (less more : List Entry) (rest other : List ℕ) : Type 0 where
  pub later : List Entry
  pub is : more ≡ less ++ later
  pub left : rest ≡ flat_map entry_bytes later ++ other

pub goes_on : (runs asked : Runs) (low : ℤ) (xs ys : List Entry) (rest other : List ℕ) → AreEntries runs asked low xs → AreEntries runs asked low ys → length xs ≤ length ys → flat_map entry_bytes xs ++ rest ≡ flat_map entry_bytes ys ++ other
    → GoesOn xs ys rest other
goes_on runs asked low [] ys rest other v w le e = record { later = ys; is = refl; left = e }
goes_on runs asked low (x ∷ xs) [] rest other v w le e = absurd (omega arith)
goes_on runs asked low (x ∷ xs) (y ∷ ys) rest other v w le e =
    let left : entry_bytes x ++ (flat_map entry_bytes xs ++ rest) ≡ entry_bytes y ++ (flat_map entry_bytes ys ++ other) =
    sym (append_assoc (entry_bytes x) (flat_map entry_bytes xs) rest) ∙ e ∙ append_assoc (entry_bytes y) (flat_map entry_bytes ys) other in
    let first = entry_once low low x y (flat_map entry_bytes xs ++ rest) (flat_map entry_bytes ys ++ other) v.0 w.0 left in
    let rises : AreEntries runs asked (entry_last x +ℤ pos 1) ys = subst (λ (z : Entry). AreEntries runs asked (entry_last z +ℤ pos 1) ys) (sym first.0) w.2 in
    let others : GoesOn xs ys rest other = goes_on runs asked (entry_last x +ℤ pos 1) xs ys rest other v.2 rises (omega (arith, le)) first.1 in
    record { later = others.later; is = (λ i. sym first.0 i ∷ others.is i); left = others.left }

-- what follows the first of them may follow, and is within
pub after_first : (runs asked : Runs) (low : ℤ) (xs : List Entry) (x : Entry) (later : List Entry) → AreEntries runs asked low (xs ++ x ∷ later) → MayFollow (low_from low xs) x × IsWithin runs asked x
after_first runs asked low [] x later h = (h.0, h.1)
after_first runs asked low (y ∷ ys) x later h = after_first runs asked (entry_last y +ℤ pos 1) ys x later h.2
