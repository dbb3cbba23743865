-- A key has one encoding, and that alone is read as the key; likewise a value.
use Rattle.std.proofs.Common.{◌≡◌, ℕ, ◌≤◌, ◌<◌, ◌^◌, ℤ, pos, true, List, length, Option, Some, None, refl, ap, subst, ◌∙◌, arith}
use Rattle.std.specs.Prelude.{FitsSigned}
use Rattle.std.specs.Int.{w16}
use Rattle.std.specs.Option.{option_and_then}
use Rattle.std.specs.Ordering.{int_eq}
use Rattle.std.proofs.lemmas.Int.{ints}
use Rattle.frame_fields.specs.Fields.{Value, encoded, Fits, FieldFits, sized_or_null, size16}
use Rattle.frame_fields.specs.Frames.{IsBytes}
use Rattle.frame_fields.specs.Reading.{read_fields}
use Rattle.group_offsets.specs.declared.layout.TheConstants.{KEY_VERSION, VALUE_VERSION, MAX_NAME_BYTES}
use Rattle.group_offsets.specs.WholeFields.{all_of}
use Rattle.group_offsets.specs.Keys.{GroupKeyValue, GroupKeyFits, group_key_fields, group_key_fields_value, group_key_bytes, group_key_said, group_key_at}
use Rattle.group_offsets.specs.CommittedValues.{CommittedValue, CommittedFits, IsMetadata, committed_fields, committed_fields_value, committed_bytes, committed_said, committed_at}
use Rattle.group_offsets.proofs.WholeFieldLaws.{passed, all_again, all_takes}

same_number : (a b : ℤ) → int_eq a b ≡ true → a ≡ b
same_number a b e = grind (arith, ints)

name_fits : (n : ℕ) → n ≤ MAX_NAME_BYTES → FitsSigned w16 (pos n)
name_fits n le = record { sfits = omega arith }

name_from : (n : ℕ) → FitsSigned w16 (pos n) → n ≤ MAX_NAME_BYTES
name_from n fits = let less : n < 2 ^ 15 = fits.sfits in omega arith

-- ---- keys

key_fits : (k : GroupKeyValue) → GroupKeyFits k → Fits group_key_fields (group_key_fields_value k)
unfolding Fits
key_fits k fits = (record { sfits = omega arith }, (name_fits (length k.group) fits.group, (name_fits (length k.topic) fits.topic, (fits.partition, tt))))

key_from : (k : GroupKeyValue) → Fits group_key_fields (group_key_fields_value k) → GroupKeyFits k
unfolding Fits
key_from k fits = record { group = name_from (length k.group) fits.1.0; topic = name_from (length k.topic) fits.1.1.0; partition = fits.1.1.1.0 }

pub key_again : (k : GroupKeyValue) → GroupKeyFits k → group_key_at (group_key_bytes k) ≡ Some k
unfolding group_key_at
key_again k fits = ap (option_and_then group_key_said) (all_again group_key_fields (group_key_fields_value k) (key_fits k fits))

pub key_takes : (bytes : List ℕ) (k : GroupKeyValue) → IsBytes bytes → group_key_at bytes ≡ Some k → (bytes ≡ group_key_bytes k) × GroupKeyFits k
unfolding group_key_at
key_takes bytes k is e = by (all_of (read_fields group_key_fields bytes)) refl e
  where
    by : (o : Option (Value group_key_fields)) → all_of (read_fields group_key_fields bytes) ≡ o → option_and_then group_key_said o ≡ Some k → (bytes ≡ group_key_bytes k) × GroupKeyFits k
    by None read some = absurd cc
    by (Some v) read some =
        let p = passed (int_eq v.0 KEY_VERSION) _ k some in
        let version : v.0 ≡ KEY_VERSION = same_number v.0 KEY_VERSION p.0 in
        let same : v ≡ group_key_fields_value k = λ i. (version i, ((p.1 i).group, ((p.1 i).topic, ((p.1 i).partition, tt)))) in
        let t = all_takes group_key_fields bytes v is read in
        (t.1 ∙ ap (encoded group_key_fields) same, key_from k (subst (Fits group_key_fields) same t.0))

-- ---- values

metadata_fits : (text : Option (List ℕ)) → IsMetadata text → FieldFits (sized_or_null size16) text
metadata_fits None fits = tt
metadata_fits (Some text) fits = name_fits (length text) fits

pub metadata_from : (text : Option (List ℕ)) → FieldFits (sized_or_null size16) text → IsMetadata text
metadata_from None fits = tt
metadata_from (Some text) fits = name_from (length text) fits

value_fits : (v : CommittedValue) → CommittedFits v → Fits committed_fields (committed_fields_value v)
unfolding Fits
value_fits v fits = (record { sfits = omega arith }, (fits.offset, (metadata_fits v.metadata fits.metadata, tt)))

value_from : (v : CommittedValue) → Fits committed_fields (committed_fields_value v) → CommittedFits v
unfolding Fits
value_from v fits = record { offset = fits.1.0; metadata = metadata_from v.metadata fits.1.1.0 }

pub value_again : (v : CommittedValue) → CommittedFits v → committed_at (committed_bytes v) ≡ Some v
unfolding committed_at
value_again v fits = ap (option_and_then committed_said) (all_again committed_fields (committed_fields_value v) (value_fits v fits))

pub value_takes : (bytes : List ℕ) (v : CommittedValue) → IsBytes bytes → committed_at bytes ≡ Some v → (bytes ≡ committed_bytes v) × CommittedFits v
unfolding committed_at
value_takes bytes v is e = by (all_of (read_fields committed_fields bytes)) refl e
  where
    by : (o : Option (Value committed_fields)) → all_of (read_fields committed_fields bytes) ≡ o → option_and_then committed_said o ≡ Some v → (bytes ≡ committed_bytes v) × CommittedFits v
    by None read some = absurd cc
    by (Some x) read some =
        let p = passed (int_eq x.0 VALUE_VERSION) _ v some in
        let version : x.0 ≡ VALUE_VERSION = same_number x.0 VALUE_VERSION p.0 in
        let same : x ≡ committed_fields_value v = λ i. (version i, ((p.1 i).offset, ((p.1 i).metadata, tt))) in
        let t = all_takes committed_fields bytes x is read in
        (t.1 ∙ ap (encoded committed_fields) same, value_from v (subst (Fits committed_fields) same t.0))
