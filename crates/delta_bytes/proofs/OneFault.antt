-- Entries behind a count have one first fault, or are all there.
use Rattle.std.proofs.Common.{◌≡◌, ℕ, ◌<◌, ℤ, pos, ◌⊎◌, inl, inr, Option, Some, None, List, [], ◌∷◌, ◌++◌, length, drop, refl, sym, ap, subst, ◌∙◌, append_assoc, append-nil, arith}
use Rattle.std.specs.Prelude.{◌<ℤ◌, ◌≤ℤ◌}
use Rattle.std.specs.List.{flat_map}
use Rattle.std.proofs.lemmas.Int.{ints, by_lt_z}
use Rattle.std.proofs.lemmas.Bool.{cases_lt}
use Rattle.std.proofs.lemmas.Option.{none-some, same_Some}
use Rattle.std.proofs.lemmas.List.{length-append, drop_at}
use Rattle.cover_ranges.specs.Runs.{Runs}
use Rattle.deltas.specs.Entries.{Entry, IsWithin, AreEntries}
use Rattle.deltas.specs.declared.TheConstants.{LEAST_BASE}
use Rattle.delta_bytes.specs.declared.error.EntriesError.{EntriesError}
use Rattle.delta_bytes.specs.declared.error.EntriesError.TheVariants.{BadBatch, Outside, Extra}
use Rattle.delta_bytes.specs.EntryBytes.{entry_bytes, IsNext, low_after}
use Rattle.delta_bytes.specs.RangeLists.{count_encoding, count_in}
use Rattle.delta_bytes.specs.Faults.{HasItems, AreAllItems, ItemsFault}
use Rattle.delta_bytes.proofs.OneEntry.{next_once, GoesOn, goes_on, after_first}

-- each way to end: a fault, or none
abbrev pub Ends : (runs asked : Runs) → ℤ → List Entry → List ℕ → Option EntriesError → Type 0
Ends runs asked count xs rest out =
    (((pos (length xs) <ℤ count) × ((x : Entry) → IsNext (low_after xs) x rest → ⊥)) × (out ≡ Some (BadBatch (length xs))))
    ⊎ (((x : Entry) × (pos (length xs) <ℤ count) × IsNext (low_after xs) x rest × ¬ IsWithin runs asked x) × (out ≡ Some Outside)
    ⊎ (((pos (length xs) ≡ count) × (0 < length rest)) × (out ≡ Some Extra) ⊎ ((pos (length xs) ≡ count) × (rest ≡ [])) × (out ≡ None)))

pub record StopsFor (runs asked : Runs) (count : ℤ) (bytes : List ℕ) (out : Option EntriesError) : Type 0 where
  pub entries : List Entry
  pub rest : List ℕ
  pub encoded : bytes ≡ flat_map entry_bytes entries ++ rest
  pub valid : AreEntries runs asked LEAST_BASE entries
  pub ends : Ends runs asked count entries rest out

-- it does not end where another entry stands next, which is within
does_not_end : (runs asked : Runs) (count : ℤ) (xs : List Entry) (rest : List ℕ) (out : Option EntriesError) (x : Entry) → Ends runs asked count xs rest out → pos (length xs) <ℤ count → IsNext (low_after xs) x rest → IsWithin runs asked x → ⊥
does_not_end runs asked count xs rest out x (inl why) few next within = why.0.1 x next
does_not_end runs asked count xs rest out x (inr (inl why)) few next within =
    let same : x ≡ why.0.0 = (next_once _ _ x why.0.0 rest next why.0.2).0 in
    why.0.3 (subst (IsWithin runs asked) same within)
does_not_end runs asked count xs rest out x (inr (inr (inl why))) few next within = let e = why.0.0 in omega (arith, ints)
does_not_end runs asked count xs rest out x (inr (inr (inr why))) few next within = let e = why.0.0 in omega (arith, ints)

at_most : (runs asked : Runs) (count : ℤ) (xs : List Entry) (rest : List ℕ) (out : Option EntriesError) → Ends runs asked count xs rest out → pos (length xs) ≤ℤ count
at_most runs asked count xs rest out (inl why) = let e = why.0.0 in omega (arith, ints)
at_most runs asked count xs rest out (inr (inl why)) = let e = why.0.1 in omega (arith, ints)
at_most runs asked count xs rest out (inr (inr (inl why))) = let e = why.0.0 in omega (arith, ints)
at_most runs asked count xs rest out (inr (inr (inr why))) = let e = why.0.0 in omega (arith, ints)

not_shorter : (runs asked : Runs) (count : ℤ) (bytes : List ℕ) (e f : Option EntriesError) → (s : StopsFor runs asked count bytes e) → (t : StopsFor runs asked count bytes f) → length s.entries < length t.entries → ⊥
not_shorter runs asked count bytes e f s t less = by g.later g.is g.left
  where
    g : GoesOn s.entries t.entries s.rest t.rest
    g = goes_on runs asked LEAST_BASE s.entries t.entries s.rest t.rest s.valid t.valid (omega (arith, less)) (sym s.encoded ∙ t.encoded)

    by : (later : List Entry) → t.entries ≡ s.entries ++ later → s.rest ≡ flat_map entry_bytes later ++ t.rest → ⊥
    by [] is left = omega (arith, less, ap length is, length-append s.entries [])
    by (x ∷ later) is left =
        let first = after_first runs asked LEAST_BASE s.entries x later (subst (AreEntries runs asked LEAST_BASE) is t.valid) in
        let most = at_most runs asked count t.entries t.rest f t.ends in
        let few : pos (length s.entries) <ℤ count = omega (arith, ints, less, most) in
        let next : IsNext (low_after s.entries) x s.rest = record {
          may_follow = first.0;
          rest = flat_map entry_bytes later ++ t.rest;
          encoded = left ∙ append_assoc (entry_bytes x) (flat_map entry_bytes later) t.rest;
        } in
        does_not_end runs asked count s.entries s.rest e x s.ends few next first.1

-- at the same entry there is one way
one_end : (runs asked : Runs) (count : ℤ) (xs : List Entry) (rest : List ℕ) (e f : Option EntriesError) → Ends runs asked count xs rest e → Ends runs asked count xs rest f → e ≡ f
one_end runs asked count xs rest e f (inl why) (inl other) = why.1 ∙ sym other.1
one_end runs asked count xs rest e f (inl why) (inr (inl other)) = absurd (why.0.1 other.0.0 other.0.2)
one_end runs asked count xs rest e f (inl why) (inr (inr (inl other))) = let a = why.0.0 in let b = other.0.0 in absurd (omega (arith, ints))
one_end runs asked count xs rest e f (inl why) (inr (inr (inr other))) = let a = why.0.0 in let b = other.0.0 in absurd (omega (arith, ints))
one_end runs asked count xs rest e f (inr (inl why)) (inl other) = absurd (other.0.1 why.0.0 why.0.2)
one_end runs asked count xs rest e f (inr (inl why)) (inr (inl other)) = why.1 ∙ sym other.1
one_end runs asked count xs rest e f (inr (inl why)) (inr (inr (inl other))) = let a = why.0.1 in let b = other.0.0 in absurd (omega (arith, ints))
one_end runs asked count xs rest e f (inr (inl why)) (inr (inr (inr other))) = let a = why.0.1 in let b = other.0.0 in absurd (omega (arith, ints))
one_end runs asked count xs rest e f (inr (inr (inl why))) (inl other) = let a = why.0.0 in let b = other.0.0 in absurd (omega (arith, ints))
one_end runs asked count xs rest e f (inr (inr (inl why))) (inr (inl other)) = let a = why.0.0 in let b = other.0.1 in absurd (omega (arith, ints))
one_end runs asked count xs rest e f (inr (inr (inl why))) (inr (inr (inl other))) = why.1 ∙ sym other.1
one_end runs asked count xs rest e f (inr (inr (inl why))) (inr (inr (inr other))) = let a = why.0.1 in absurd (omega (arith, ap length other.0.1))
one_end runs asked count xs rest e f (inr (inr (inr why))) (inl other) = let a = why.0.0 in let b = other.0.0 in absurd (omega (arith, ints))
one_end runs asked count xs rest e f (inr (inr (inr why))) (inr (inl other)) = let a = why.0.0 in let b = other.0.1 in absurd (omega (arith, ints))
one_end runs asked count xs rest e f (inr (inr (inr why))) (inr (inr (inl other))) = let a = other.0.1 in absurd (omega (arith, ap length why.0.1))
one_end runs asked count xs rest e f (inr (inr (inr why))) (inr (inr (inr other))) = why.1 ∙ sym other.1

one_stop : (runs asked : Runs) (count : ℤ) (bytes : List ℕ) (e f : Option EntriesError) → StopsFor runs asked count bytes e → StopsFor runs asked count bytes f → e ≡ f
one_stop runs asked count bytes e f s t =
    elim (cases_lt (length s.entries) (length t.entries)) [
      | inl less ↦ absurd (not_shorter runs asked count bytes e f s t less)
      | inr le ↦ (elim (cases_lt (length t.entries) (length s.entries)) [
        | inl less ↦ absurd (not_shorter runs asked count bytes f e t s less)
        | inr ge ↦ by (omega (arith, le, ge)) (goes_on runs asked LEAST_BASE s.entries t.entries s.rest t.rest s.valid t.valid ge (sym s.encoded ∙ t.encoded))
      ])
    ]
  where
    by : length s.entries ≡ length t.entries → GoesOn s.entries t.entries s.rest t.rest → e ≡ f
    by same g = nothing g.later g.is g.left
      where
        nothing : (later : List Entry) → t.entries ≡ s.entries ++ later → s.rest ≡ flat_map entry_bytes later ++ t.rest → e ≡ f
        nothing [] is left =
            let entries : t.entries ≡ s.entries = is ∙ append-nil s.entries in
            one_end runs asked count s.entries s.rest e f s.ends (subst (λ (x : List Entry). Ends runs asked count x s.rest f) entries (subst (λ (x : List ℕ). Ends runs asked count t.entries x f) (sym left) t.ends))
        nothing (x ∷ later) is left = absurd (omega (arith, same, ap length is, length-append s.entries (x ∷ later)))

-- ---- as faults

behind_count : (runs asked : Runs) (bytes : List ℕ) (xs : List Entry) (rest : List ℕ) → HasItems runs asked bytes xs rest → drop 4 bytes ≡ flat_map entry_bytes xs ++ rest
behind_count runs asked bytes xs rest has = ap (drop 4) has.encoded ∙ drop_at (count_encoding (count_in bytes)) (flat_map entry_bytes xs ++ rest) 4 refl

stops : (runs asked : Runs) (bytes : List ℕ) (xs : List Entry) (rest : List ℕ) (out : Option EntriesError) → HasItems runs asked bytes xs rest → Ends runs asked (count_in bytes) xs rest out → StopsFor runs asked (count_in bytes) (drop 4 bytes) out
stops runs asked bytes xs rest out has ends = record { entries = xs; rest = rest; encoded = behind_count runs asked bytes xs rest has; valid = has.valid; ends = ends }

fault_stops : (runs asked : Runs) (bytes : List ℕ) (e : EntriesError) → pos 0 ≤ℤ count_in bytes → ItemsFault runs asked bytes e → StopsFor runs asked (count_in bytes) (drop 4 bytes) (Some e)
fault_stops runs asked bytes (BadBatch i) some (inl negative) = let a = negative.1 in absurd (omega (arith, ints, some, a))
fault_stops runs asked bytes (BadBatch i) some (inr fault) =
    let few : pos (length fault.0) <ℤ count_in bytes = subst (λ (n : ℕ). pos n <ℤ count_in bytes) (sym fault.3) fault.4 in
    stops runs asked bytes fault.0 fault.1 (Some (BadBatch i)) fault.2 (inl ((few, fault.5), ap (λ (n : ℕ). Some (BadBatch n)) (sym fault.3)))
fault_stops runs asked bytes Outside some fault = stops runs asked bytes fault.0 fault.1 (Some Outside) fault.3 (inr (inl ((fault.2, fault.4, fault.5, fault.6), refl)))
fault_stops runs asked bytes Extra some fault = stops runs asked bytes fault.0 fault.1 (Some Extra) fault.2 (inr (inr (inl ((fault.3, fault.4), refl))))

-- a negative count is the first fault
negative_fault : (runs asked : Runs) (bytes : List ℕ) (e : EntriesError) → count_in bytes <ℤ pos 0 → ItemsFault runs asked bytes e → e ≡ BadBatch 0
negative_fault runs asked bytes (BadBatch i) less (inl negative) = ap BadBatch negative.0
negative_fault runs asked bytes (BadBatch i) less (inr fault) = let a = fault.4 in absurd (omega (arith, ints, less, a))
negative_fault runs asked bytes Outside less fault = let a = fault.4 in absurd (omega (arith, ints, less, a))
negative_fault runs asked bytes Extra less fault = let a = fault.3 in absurd (omega (arith, ints, less, a))

pub one_items_fault : (runs asked : Runs) (bytes : List ℕ) (e f : EntriesError) → ItemsFault runs asked bytes e → ItemsFault runs asked bytes f → e ≡ f
one_items_fault runs asked bytes e f a b =
    by_lt_z (count_in bytes) (pos 0) (λ less. negative_fault runs asked bytes e less a ∙ sym (negative_fault runs asked bytes f less b))
    (λ some. same_Some e f (one_stop runs asked (count_in bytes) (drop 4 bytes) (Some e) (Some f) (fault_stops runs asked bytes e some a) (fault_stops runs asked bytes f some b)))

counted : (runs asked : Runs) (bytes : List ℕ) (xs : List Entry) → AreAllItems runs asked bytes xs → pos 0 ≤ℤ count_in bytes
counted runs asked bytes xs all = let e = all.1 in omega (arith, ints, e)

pub no_items_fault : (runs asked : Runs) (bytes : List ℕ) (xs : List Entry) (e : EntriesError) → AreAllItems runs asked bytes xs → ItemsFault runs asked bytes e → ⊥
no_items_fault runs asked bytes xs e all fault =
    none-some e (one_stop runs asked (count_in bytes) (drop 4 bytes) None (Some e) (stops runs asked bytes xs [] None all.0 (inr (inr (inr ((all.1, refl), refl))))) (fault_stops runs asked bytes e (counted runs asked bytes xs all) fault))

pos_same : (m n : ℕ) → pos m ≡ pos n → m ≡ n
pos_same m n e = cc

pub one_items : (runs asked : Runs) (bytes : List ℕ) (xs ys : List Entry) → AreAllItems runs asked bytes xs → AreAllItems runs asked bytes ys → xs ≡ ys
one_items runs asked bytes xs ys a b = by g.later g.is
  where
    same : length xs ≡ length ys
    same = pos_same (length xs) (length ys) (a.1 ∙ sym b.1)

    g : GoesOn xs ys [] []
    g = goes_on runs asked LEAST_BASE xs ys [] [] a.0.valid b.0.valid (omega (arith, same)) (sym (behind_count runs asked bytes xs [] a.0) ∙ behind_count runs asked bytes ys [] b.0)

    by : (later : List Entry) → ys ≡ xs ++ later → xs ≡ ys
    by [] is = sym (is ∙ append-nil xs)
    by (x ∷ later) is = absurd (omega (arith, same, ap length is, length-append xs (x ∷ later)))
