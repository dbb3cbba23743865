-- Whether offsets rise, judged one after the other.
use Rattle.std.proofs.Common.{get_or, ◌≡◌, ℕ, zero, suc, ◌+◌, ◌≤◌, ◌<◌, ℤ, pos, ◌+ℤ◌, List, [], ◌∷◌, length, drop, refl, sym, ap, subst, ◌∙◌, add-one, arith}
use Rattle.std.specs.Prelude.{◌<ℤ◌, ◌≤ℤ◌, ◌↔◌}
use Rattle.std.proofs.lemmas.Int.{ints}
use Rattle.std.proofs.lemmas.List.{drop_all}
use Rattle.deltas.specs.Entries.{OffsetsRise, last_listed}
use Rattle.delta_bytes.specs.Judging.{offset_at, offsets_of}

abbrev pub Parts : Type 0
Parts = List (List ℕ)

next : (parts : Parts) (i : ℕ) (o : ℤ) → i < length parts → o ≡ offset_at (get_or parts i []) → drop i (offsets_of parts) ≡ o ∷ drop (suc i) (offsets_of parts)
next [] i o lt is = absurd (omega arith)
next (part ∷ parts) zero o lt is = ap (λ (x : ℤ). x ∷ offsets_of parts) (sym is)
next (part ∷ parts) (suc i) o lt is = next parts i o (omega arith) is

-- the offset that the part at an index says, and those after it
pub next_offset : (parts : Parts) (i : ℕ) (o : ℤ) → i < length parts → o ≡ offset_at (get_or parts i []) → drop i (offsets_of parts) ≡ o ∷ drop (i + 1) (offsets_of parts)
next_offset parts i o lt is = rw add-one (next parts i o lt is)

pub no_offset : (parts : Parts) (i : ℕ) → length parts ≤ i → drop i (offsets_of parts) ≡ []
no_offset [] i le = drop_all i [] (omega arith)
no_offset (part ∷ parts) zero le = absurd (omega arith)
no_offset (part ∷ parts) (suc i) le = no_offset parts i (omega arith)

-- the offsets so far rise above `before`, where those from the index on rise above `last`
pub record RiseSoFar (before : ℤ) (parts : Parts) (i : ℕ) (last : ℤ) : Type 0 where
  pub rise : OffsetsRise (before +ℤ pos 1) (offsets_of parts) ↔ OffsetsRise (last +ℤ pos 1) (drop i (offsets_of parts))
  pub end : last_listed before (offsets_of parts) ≡ last_listed last (drop i (offsets_of parts))

pub none_judged : (before : ℤ) (parts : Parts) → RiseSoFar before parts 0 before
none_judged before parts = record { rise = (λ h. h, λ h. h); end = refl }

pub one_rises : (before : ℤ) (parts : Parts) (i : ℕ) (last o : ℤ) → i < length parts → o ≡ offset_at (get_or parts i []) → last <ℤ o → RiseSoFar before parts i last → RiseSoFar before parts (i + 1) o
one_rises before parts i last o lt is less so_far =
    let next = next_offset parts i o lt is in record {
      rise = (λ h. (subst (OffsetsRise (last +ℤ pos 1)) next (so_far.rise.0 h)).1, λ h. so_far.rise.1 (subst (OffsetsRise (last +ℤ pos 1)) (sym next) (omega (arith, ints, less), h)));
      end = so_far.end ∙ ap (last_listed last) next;
    }

pub one_falls : (before : ℤ) (parts : Parts) (i : ℕ) (last o : ℤ) → i < length parts → o ≡ offset_at (get_or parts i []) → o ≤ℤ last → RiseSoFar before parts i last → OffsetsRise (before +ℤ pos 1) (offsets_of parts) → ⊥
one_falls before parts i last o lt is le so_far h =
    let at : OffsetsRise (last +ℤ pos 1) (o ∷ drop (i + 1) (offsets_of parts)) = subst (OffsetsRise (last +ℤ pos 1)) (next_offset parts i o lt is) (so_far.rise.0 h) in
    let low : (last +ℤ pos 1) ≤ℤ o = at.0 in
    omega (arith, ints, low, le)

pub all_rise : (before : ℤ) (parts : Parts) (i : ℕ) (last : ℤ) → length parts ≤ i → RiseSoFar before parts i last → OffsetsRise (before +ℤ pos 1) (offsets_of parts) × (last ≡ last_listed before (offsets_of parts))
all_rise before parts i last le so_far =
    let none = no_offset parts i le in
    (so_far.rise.1 (subst (OffsetsRise (last +ℤ pos 1)) (sym none) tt), sym (so_far.end ∙ ap (last_listed last) none))
