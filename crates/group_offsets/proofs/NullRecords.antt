-- The null records of keys, one after the other.
use Rattle.std.proofs.Common.{◌≡◌, ◌<◌, ◌+◌, ℕ, suc, ℤ, pos, List, [], ◌∷◌, ◌++◌, take, length, get_or, None, refl, sym, ap, ◌∙◌, arith}
use Rattle.std.proofs.lemmas.List.{take_more, length-take}
use Rattle.batch_codec.specs.Values.{RecordValue}
use Rattle.group_offsets.specs.Batches.{offsets_record, null_records}

null-append : (delta : ℕ) (keys more : List (List ℕ)) → null_records delta (keys ++ more) ≡ null_records delta keys ++ null_records (delta + length keys) more
unfolding null_records
null-append delta [] more = ap (λ (n : ℕ). null_records n more) (omega arith)
null-append delta (key ∷ keys) more =
    ap (λ (rs : List RecordValue). offsets_record (pos delta) key None ∷ rs) (null-append (suc delta) keys more ∙ ap (λ (n : ℕ). null_records (suc delta) keys ++ null_records n more) (omega arith))

one_null : (delta : ℕ) (key : List ℕ) → null_records delta (key ∷ []) ≡ offsets_record (pos delta) key None ∷ []
unfolding null_records
one_null delta key = refl

pub null_more : (keys : List (List ℕ)) (i : ℕ) (recs new : List RecordValue) (r : RecordValue) (key : List ℕ) → i < length keys → key ≡ get_or keys i key
    → r ≡ offsets_record (pos i) key None → new ≡ recs ++ r ∷ [] → recs ≡ null_records 0 (take i keys) → new ≡ null_records 0 (take (i + 1) keys)
null_more keys i recs new r key within is same pushed so_far =
    let count : 0 + length (take i keys) ≡ i = omega (arith, length-take i keys, within) in
    pushed ∙ (λ k. so_far k ++ same k ∷ [])
    ∙ ap (λ (rs : List RecordValue). null_records 0 (take i keys) ++ rs) (sym (one_null i key) ∙ ap (λ (n : ℕ). null_records n (key ∷ [])) (sym count))
    ∙ sym (null-append 0 (take i keys) (key ∷ []))
    ∙ ap (λ (k : List ℕ). null_records 0 (take i keys ++ k ∷ [])) is
    ∙ ap (null_records 0) (sym (take_more keys i key within))

-- a null record that was made of a number and of bytes that were passed on
pub null_record_is : (r : RecordValue) (passed : ℤ) (i : ℕ) (copy key : List ℕ) → r ≡ offsets_record passed copy None → passed ≡ pos i → copy ≡ key → r ≡ offsets_record (pos i) key None
null_record_is r passed i copy key is same_delta same_key = is ∙ (λ k. offsets_record (same_delta k) (same_key k) None)
