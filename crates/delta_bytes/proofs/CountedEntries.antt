-- Entries behind their count.
use Rattle.std.proofs.Common.{◌≡◌, ℕ, ◌-◌, ◌≤◌, ◌<◌, ℤ, pos, inr, List, [], ◌∷◌, ◌++◌, length, take, drop, refl, sym, ap, subst, ◌∙◌, arith}
use Rattle.std.specs.Prelude.{◌<ℤ◌, Result, Ok, Err, OnOk, IfErr}
use Rattle.std.specs.Int.{w32}
use Rattle.std.proofs.lemmas.Int.{ints}
use Rattle.std.proofs.lemmas.List.{take_rest}
use Rattle.batch_codec.specs.Grammar.{fields}
use Rattle.batch_codec.specs.Fields.{unsigned_at}
use Rattle.batch_codec.proofs.Fixed.{wide32, fields_back}
use Rattle.cover_ranges.specs.Runs.{Runs}
use Rattle.copy_images.proofs.Parts.{IsBytes, signed_field}
use Rattle.deltas.specs.Entries.{Entry}
use Rattle.delta_bytes.specs.declared.error.EntriesError.{EntriesError}
use Rattle.delta_bytes.specs.declared.error.EntriesError.TheVariants.{BadBatch, Outside, Extra}
use Rattle.delta_bytes.specs.EntryLists.{HasEntries, HoldsEntries, EntriesFault}
use Rattle.delta_bytes.specs.RangeLists.{count_encoding, count_in}
use Rattle.delta_bytes.specs.Faults.{HasItems, AreAllItems, ItemsFault}

-- what stands behind a count
pub count_front : (bytes : List ℕ) → IsBytes bytes → 4 ≤ length bytes → bytes ≡ count_encoding (count_in bytes) ++ drop 4 bytes
count_front bytes fits long =
    let read : bytes ≡ fields ((w32, unsigned_at w32 0 bytes) ∷ []) ++ drop 4 bytes = fields_back (w32 ∷ []) 0 bytes (wide32, tt) fits (omega (arith, long)) in
    let number = signed_field w32 wide32 0 bytes (count_in bytes) fits refl in
    read ∙ (λ i. fields ((w32, number i) ∷ []) ++ drop 4 bytes)

-- from entries to counted ones, where the bytes of both are known
module _ (runs asked : Runs) (bytes behind : List ℕ) (n : ℕ) (fits : IsBytes bytes) (long : 4 ≤ length bytes) (is : behind ≡ take (length bytes - 4) (drop 4 bytes)) (count : count_in bytes ≡ pos n) where
  has_items : (xs : List Entry) (rest : List ℕ) → HasEntries runs asked xs behind rest → HasItems runs asked bytes xs rest
  has_items xs rest has = record {
    encoded = count_front bytes fits long ∙ ap (λ (x : List ℕ). count_encoding (count_in bytes) ++ x) (sym (take_rest bytes 4) ∙ sym is ∙ has.encoded);
    valid = has.valid;
  }

  fewer : (k : ℕ) → k < n → pos k <ℤ count_in bytes
  fewer k less = subst (λ (z : ℤ). pos k <ℤ z) (sym count) (below k n less)
    where
      below : (a b : ℕ) → a < b → pos a <ℤ pos b
      below a b less = omega (arith, ints, less)

  as_many : (k : ℕ) → k ≡ n → pos k ≡ count_in bytes
  as_many k same = ap pos same ∙ sym count

  all_items : HoldsEntries runs asked n behind → (entries : List Entry) × AreAllItems runs asked bytes entries
  all_items holds = (holds.0, (has_items holds.0 [] holds.1, as_many (length holds.0) holds.2))

  items_fault : (e : EntriesError) → EntriesFault runs asked n behind e → ItemsFault runs asked bytes e
  items_fault (BadBatch i) fault = inr (fault.0, fault.1, has_items fault.0 fault.1 fault.2, fault.3, fewer i fault.4, fault.5)
  items_fault Outside fault = (fault.0, fault.1, fault.2, has_items fault.0 fault.1 fault.3, fewer (length fault.0) fault.4, fault.5, fault.6)
  items_fault Extra fault = (fault.0, fault.1, has_items fault.0 fault.1 fault.2, as_many (length fault.0) fault.3, fault.4)

  pub counted_accepts : (r : Result Unit EntriesError) → OnOk r (HoldsEntries runs asked n behind) → OnOk r ((entries : List Entry) × AreAllItems runs asked bytes entries)
  counted_accepts (Ok u) holds = all_items holds
  counted_accepts (Err e) holds = tt

  pub counted_refuses : (r : Result Unit EntriesError) → IfErr r (EntriesFault runs asked n behind) → IfErr r (ItemsFault runs asked bytes)
  counted_refuses (Ok u) fault = tt
  counted_refuses (Err e) fault = items_fault e fault
