-- What is read fits its fields, whatever the elements of the list are: so a key or a value that is read has an encoding.
use Rattle.std.proofs.Common.{◌≡◌, ℕ, suc, zero, ◌<◌, ◌≤◌, ◌^◌, Bool, true, false, cond, ◌&&◌, ltb, eqb, ℤ, pos, negsuc, List, length, take, drop, Option, Some, None, Ok, Err, refl, ap, subst, ◌∙◌, inl, inr, arith}
use Rattle.std.specs.Prelude.{FitsSigned}
use Rattle.std.specs.Int.{w16, w64, byte_len, cast_signed}
use Rattle.std.specs.Option.{option_and_then}
use Rattle.std.specs.Ordering.{int_eq}
use Rattle.std.specs.FinMap as finite
use Rattle.std.proofs.lemmas.Bool.{cases_lt, lt-ltb, le-ltb}
use Rattle.std.proofs.lemmas.List.{length-take}
use Rattle.frame_fields.specs.declared.error.FieldFault.TheVariants.{ShortBody}
use Rattle.frame_fields.specs.Types.{int64, nullable_string, ◌⨾◌}
use Rattle.frame_fields.specs.Fields.{Size, size16, size64, width, number, sized_or_null, end, Value, number_at, FieldFits}
use Rattle.frame_fields.specs.Reading.{At, ◌>>=◌, read_number, read_text, read_text_or_null, read_field, then_read, read_fields}
use Rattle.frame_fields.proofs.ReaderLaws.{done, done_is, map_read_ok}
use Rattle.group_offsets.specs.WholeFields.{all_of}
use Rattle.group_offsets.specs.CommittedValues.{CommittedValue, CommittedFits, committed_fields, committed_said, committed_at}
use Rattle.content.specs.Table.{Table}
use Rattle.group_offsets.specs.declared.error.GroupError.TheVariants.{NameTooLong}
use Rattle.group_offsets.specs.Keys.{GroupKeyValue, group_key_bytes}
use Rattle.group_offsets.specs.Lookups.{found_value, shown_value, is_name, lookup_in}
use Rattle.group_offsets.specs.declared.layout.TheConstants.{VALUE_VERSION}
use Rattle.group_offsets.proofs.WholeFieldLaws.{passed}
use Rattle.group_offsets.proofs.KeyEncodings.{metadata_from}

fits16 : (n : ℕ) → FitsSigned w16 (cast_signed w16 n)
fits16 n =
    elim (cases_lt n (2 ^ 15)) [
      | inl less ↦ rw (lt-ltb n (2 ^ 15) less) (record { sfits = less })
      | inr more ↦ rw (le-ltb n (2 ^ 15) more) (record { sfits = omega arith })
    ]

fits64 : (n : ℕ) → FitsSigned w64 (cast_signed w64 n)
fits64 n =
    elim (cases_lt n (2 ^ 63)) [
      | inl less ↦ rw (lt-ltb n (2 ^ 63) less) (record { sfits = less })
      | inr more ↦ rw (le-ltb n (2 ^ 63) more) (record { sfits = omega arith })
    ]

number_read : (s : Size) → ((n : ℕ) → FitsSigned (width s) (cast_signed (width s) n)) → (bytes : List ℕ) (z : ℤ) (rest : List ℕ) → read_number s bytes ≡ Ok (z, rest) → FitsSigned (width s) z
unfolding read_number
number_read s fits bytes z rest e = by (ltb (length bytes) (byte_len (width s))) e
  where
    by : (b : Bool) → cond {A = At ℤ} b (Err ShortBody) (done (number_at s bytes) (drop (byte_len (width s)) bytes)) ≡ Ok (z, rest) → FitsSigned (width s) z
    by true f = absurd cc
    by false f = subst (FitsSigned (width s)) (done_is (number_at s bytes) z (drop (byte_len (width s)) bytes) rest f).0 (fits _)

text_read : (n : ℕ) (bytes text rest : List ℕ) → read_text (pos n) bytes ≡ Ok (text, rest) → length text ≤ n
text_read n bytes text rest e = by (ltb (length bytes) n) e
  where
    by : (b : Bool) → cond {A = At (List ℕ)} b (Err ShortBody) (done (take n bytes) (drop n bytes)) ≡ Ok (text, rest) → length text ≤ n
    by true f = absurd cc
    by false f = let same : take n bytes ≡ text = (done_is (take n bytes) text (drop n bytes) rest f).0 in omega (arith, ap length same, length-take n bytes)

nullable_read : (z : ℤ) (bytes : List ℕ) (text : Option (List ℕ)) (rest : List ℕ) → FitsSigned w16 z → read_text_or_null z bytes ≡ Ok (text, rest) → FieldFits (sized_or_null size16) text
nullable_read (pos n) bytes text rest fits e =
    let m = map_read_ok Some (read_text (pos n) bytes) text rest e in
    let few = text_read n bytes m.0 rest m.1 in
    let small : n < 2 ^ 15 = fits.sfits in
    subst (FieldFits (sized_or_null size16)) m.2 (record { sfits = omega (arith, few, small) })
nullable_read (negsuc zero) bytes text rest fits e = subst (FieldFits (sized_or_null size16)) (done_is None text bytes rest e).0 tt
nullable_read (negsuc (suc n)) bytes text rest fits e = absurd cc

-- the first field and those after it
both_read : {A B : Type 0} (r : At A) (next : List ℕ → At B) (v : A × B) (rest : List ℕ) → then_read r next ≡ Ok (v, rest) → (tail : List ℕ) × (r ≡ Ok (v.0, tail)) × (next tail ≡ Ok (v.1, rest))
both_read (Ok x) next v rest e =
    let m = map_read_ok (λ y. (x.0, y)) (next x.1) v rest e in
    (x.1, (λ i. done ((m.2 i).0) x.1), m.1 ∙ (λ i. done ((m.2 i).1) rest))
both_read (Err f) next v rest e = absurd cc

metadata_read : (bytes : List ℕ) (text : Option (List ℕ)) (rest : List ℕ) → read_field (sized_or_null size16) bytes ≡ Ok (text, rest) → FieldFits (sized_or_null size16) text
unfolding read_field
metadata_read bytes text rest e = by (read_number size16 bytes) refl e
  where
    by : (r : At ℤ) → read_number size16 bytes ≡ r → (r >>= λ n. read_text_or_null n.0 n.1) ≡ Ok (text, rest) → FieldFits (sized_or_null size16) text
    by (Ok x) read f = nullable_read x.0 x.1 text rest (number_read size16 fits16 bytes x.0 x.1 read) f
    by (Err g) read f = absurd cc

offset_read : (bytes : List ℕ) (z : ℤ) (rest : List ℕ) → read_field (number size64) bytes ≡ Ok (z, rest) → FitsSigned w64 z
unfolding read_field
offset_read bytes z rest e = number_read size64 fits64 bytes z rest e

fields_read : (bytes : List ℕ) (v : Value committed_fields) (rest : List ℕ) → read_fields committed_fields bytes ≡ Ok (v, rest) → FitsSigned w64 v.1.0 × FieldFits (sized_or_null size16) v.1.1.0
unfolding read_fields
fields_read bytes v rest e =
    let a = both_read (read_field (number size16) bytes) (read_fields (int64 ⨾ nullable_string ⨾ end)) v rest e in
    let b = both_read (read_field (number size64) a.0) (read_fields (nullable_string ⨾ end)) v.1 rest a.2 in
    let d = both_read (read_field (sized_or_null size16) b.0) (read_fields end) v.1.1 rest b.2 in
    (offset_read a.0 v.1.0 b.0 b.1, metadata_read b.0 v.1.1.0 d.0 d.1)

pub read_value_fits : (bytes : List ℕ) (v : CommittedValue) → committed_at bytes ≡ Some v → CommittedFits v
unfolding committed_at
read_value_fits bytes v e = by (read_fields committed_fields bytes) refl e
  where
    said : (x : Value committed_fields) → FitsSigned w64 x.1.0 × FieldFits (sized_or_null size16) x.1.1.0 → committed_said x ≡ Some v → CommittedFits v
    said x fits some =
        let p = passed (int_eq x.0 VALUE_VERSION) _ v some in
        subst CommittedFits p.1 (record { offset = fits.0; metadata = metadata_from x.1.1.0 fits.1 })

    rest_is : (b : Bool) (x : Value committed_fields) → FitsSigned w64 x.1.0 × FieldFits (sized_or_null size16) x.1.1.0 → option_and_then committed_said (cond b (Some x) None) ≡ Some v → CommittedFits v
    rest_is true x fits some = said x fits some
    rest_is false x fits some = absurd cc

    by : (r : At (Value committed_fields)) → read_fields committed_fields bytes ≡ r → option_and_then committed_said (all_of r) ≡ Some v → CommittedFits v
    by (Ok x) read some = rest_is (eqb (length x.1) 0) x.0 (fields_read bytes x.0 x.1 read) some
    by (Err f) read some = absurd cc

-- ---- what a look-up finds

found : (o : Option (List ℕ)) (v : CommittedValue) → shown_value o ≡ Ok (Some v) → CommittedFits v
found None v e = absurd cc
found (Some bytes) v e = by (committed_at bytes) refl e
  where
    by : (o : Option CommittedValue) → committed_at bytes ≡ o → found_value o ≡ Ok (Some v) → CommittedFits v
    by (Some x) read f = let same : x ≡ v = cc in subst CommittedFits same (read_value_fits bytes x read)
    by None read f = absurd cc

pub found_fits : (t : Table) (k : GroupKeyValue) (v : CommittedValue) → lookup_in t k ≡ Ok (Some v) → CommittedFits v
unfolding lookup_in
found_fits t k v e = by (is_name k.group && is_name k.topic) e
  where
    by : (b : Bool) → cond b (shown_value (finite.get t (group_key_bytes k))) (Err NameTooLong) ≡ Ok (Some v) → CommittedFits v
    by true f = found (finite.get t (group_key_bytes k)) v f
    by false f = absurd cc
