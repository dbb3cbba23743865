-- The entry at the front of bytes in which entries stand, by its kind.
use Rattle.std.proofs.Common.{◌≡◌, ◌≢◌, ℕ, ◌+◌, ◌-◌, ◌*◌, ◌≤◌, ℤ, pos, List, [], ◌∷◌, ◌++◌, length, take, drop, refl, sym, ap, subst, ◌∙◌, arith}
use Rattle.std.specs.Prelude.{◌/◌, unsigned_abs, FitsSigned}
use Rattle.std.specs.List.{AllByRecursion, flat_map}
use Rattle.std.specs.Int.{w32, w64, cast_signed, cast_unsigned}
use Rattle.std.specs.Simd.{first_chunks}
use Rattle.std.proofs.lemmas.Int.{to_z-of_z}
use Rattle.std.proofs.lemmas.List.{take_rest, drop-drop}
use Rattle.batch_codec.specs.Values.{BatchValue}
use Rattle.batch_codec.specs.Grammar.{Writable, batch_encoding}
use Rattle.batch_codec.specs.Fields.{signed_at}
use Rattle.copy_images.specs.declared.layout.TheConstants.{MAX_COUNT}
use Rattle.copy_images.proofs.Parts.{IsBytes}
use Rattle.delta_bytes.specs.declared.layout.TheConstants.{LISTED, SENT}
use Rattle.deltas.specs.Entries.{Entry}
use Rattle.deltas.specs.Entries.Entry.{Listed, Sent}
use Rattle.delta_bytes.specs.EntryBytes.{list_encoding, entry_bytes}
use Rattle.delta_bytes.specs.Judging.{offsets_of, IsListAt}
use Rattle.delta_bytes.specs.EntryViews.{IsValidEntry, AreEncoded, IsFirst}
use Rattle.delta_bytes.proofs.OffsetLists.{list_again, list_found, list_once}
use Rattle.delta_bytes.proofs.NextEntry.{first_byte}

-- ---- none

pub none_left : (entries : List Entry) (bytes : List ℕ) → AreEncoded entries bytes → length bytes ≡ 0 → entries ≡ []
none_left [] bytes are none = refl
none_left (Listed base os ∷ xs) bytes are none = absurd (omega (arith, none, ap length are.encoded))
none_left (Sent b ∷ xs) bytes are none = absurd (omega (arith, none, ap length are.encoded))

-- ---- a list

pub record HasList (entries : List Entry) (behind : List ℕ) : Type 0 where
  pub base : ℤ
  pub offsets : List ℤ
  pub others : List Entry
  pub are : entries ≡ Listed base offsets ∷ others
  pub valid : IsValidEntry (Listed base offsets)
  pub at : IsListAt base offsets behind
  pub rest_is : at.rest ≡ flat_map entry_bytes others
  pub left : AllByRecursion IsValidEntry others

pub list_there : (entries : List Entry) (kind : ℕ) (behind bytes : List ℕ) → AreEncoded entries bytes → bytes ≡ kind ∷ behind → kind ≡ LISTED → HasList entries behind
list_there [] kind behind bytes are parts is = absurd (omega (arith, ap length parts, ap length are.encoded))
list_there (Listed base os ∷ xs) kind behind bytes are parts is = record {
  base = base;
  offsets = os;
  others = xs;
  are = refl;
  valid = are.valid.0;
  at = record {
    listable = record {
      base_fits = are.valid.0.1.base_fits;
      offsets_fit = are.valid.0.1.offsets_fit;
      counted = are.valid.0.1.counted;
    };
    rest = flat_map entry_bytes xs;
    encoded = ap (drop 1) (sym parts ∙ are.encoded);
  };
  rest_is = refl;
  left = are.valid.1;
}
list_there (Sent b ∷ xs) kind behind bytes are parts is =
    let e : kind ≡ SENT = first_byte kind SENT behind (batch_encoding b ++ flat_map entry_bytes xs) (sym parts ∙ are.encoded) in
    absurd (omega (arith, e, is))

pub list_first : (entries : List Entry) (behind : List ℕ) (h : HasList entries behind) (base : ℤ) (os : List ℤ) (rest : List ℕ) → base ≡ h.base → os ≡ h.offsets → rest ≡ h.at.rest → IsFirst entries (Listed base os) rest
list_first entries behind h base os rest base_is offsets_are is =
    subst (λ (z : ℤ). IsFirst entries (Listed z os) rest) (sym base_is) (subst (λ (z : List ℤ). IsFirst entries (Listed h.base z) rest) (sym offsets_are) there)
  where
    there : IsFirst entries (Listed h.base h.offsets) rest
    there = record { others = h.others; are = h.are; valid = h.valid; left = record { encoded = is ∙ h.rest_is; valid = h.left } }

-- ---- a batch

pub record HasBatch (entries : List Entry) (behind : List ℕ) : Type 0 where
  pub batch : BatchValue
  pub others : List Entry
  pub are : entries ≡ Sent batch ∷ others
  pub valid : IsValidEntry (Sent batch)
  pub encoded : behind ≡ batch_encoding batch ++ flat_map entry_bytes others
  pub left : AllByRecursion IsValidEntry others

pub batch_there : (entries : List Entry) (kind : ℕ) (behind bytes : List ℕ) → AreEncoded entries bytes → bytes ≡ kind ∷ behind → kind ≢ LISTED → HasBatch entries behind
batch_there [] kind behind bytes are parts other = absurd (omega (arith, ap length parts, ap length are.encoded))
batch_there (Listed base os ∷ xs) kind behind bytes are parts other =
    absurd (other (first_byte kind LISTED behind (list_encoding base os ++ flat_map entry_bytes xs) (sym parts ∙ are.encoded)))
batch_there (Sent b ∷ xs) kind behind bytes are parts other = record {
  batch = b;
  others = xs;
  are = refl;
  valid = are.valid.0;
  encoded = ap (drop 1) (sym parts ∙ are.encoded);
  left = are.valid.1;
}

pub batch_writable : (b : BatchValue) → IsValidEntry (Sent b) → Writable b
batch_writable b valid = valid.1.0

pub batch_first : (entries : List Entry) (behind : List ℕ) (h : HasBatch entries behind) (b : BatchValue) (rest : List ℕ) → b ≡ h.batch → rest ≡ flat_map entry_bytes h.others → IsFirst entries (Sent b) rest
batch_first entries behind h b rest batch_is is = subst (λ (z : BatchValue). IsFirst entries (Sent z) rest) (sym batch_is) there
  where
    there : IsFirst entries (Sent h.batch) rest
    there = record { others = h.others; are = h.are; valid = h.valid; left = record { encoded = is; valid = h.left } }

-- ---- the parts of a list that is known to stand there

pub list_long : (base : ℤ) (os : List ℤ) (bytes : List ℕ) → IsListAt base os bytes → 12 ≤ length bytes
list_long base os bytes at = omega (arith, (list_again base os bytes at).long)

pub list_count : (base : ℤ) (os : List ℤ) (bytes : List ℕ) (field : ℤ) (n : ℕ) → IsListAt base os bytes → field ≡ signed_at w32 8 bytes → FitsSigned w32 field
    → n ≡ unsigned_abs (cast_signed w32 (cast_unsigned w32 field)) → n ≡ length os
list_count base os bytes field n at read fits size = size ∙ ap unsigned_abs (to_z-of_z w32 field fits ∙ read ∙ (list_again base os bytes at).counted)

pub list_size : (base : ℤ) (os : List ℤ) (bytes : List ℕ) (n : ℕ) → IsListAt base os bytes → n ≡ length os → 12 + 8 * n ≤ length bytes
list_size base os bytes n at count = omega (arith, count, (list_again base os bytes at).long)

pub list_read : (base : ℤ) (os : List ℤ) (bytes : List ℕ) (at : IsListAt base os bytes) (field read_base : ℤ) (n : ℕ) (parts : List (List ℕ)) (rest : List ℕ) → IsBytes bytes → field ≡ signed_at w32 8 bytes → n ≡ length os
    → parts ≡ first_chunks 8 (length (take ((12 + 8 * n) - 12) (drop 12 bytes)) / 8) (take ((12 + 8 * n) - 12) (drop 12 bytes)) → read_base ≡ signed_at w64 0 bytes → FitsSigned w64 read_base
    → rest ≡ take (length bytes - (12 + 8 * n)) (drop (12 + 8 * n) bytes)
    → (cast_signed w64 (cast_unsigned w64 read_base) ≡ base) × (offsets_of parts ≡ os) × (rest ≡ at.rest)
list_read base os bytes at field read_base n parts rest fits read count chunks base_is base_fits behind =
    let again = list_again base os bytes at in
    let number : field ≡ pos n = read ∙ again.counted ∙ ap pos (sym count) in
    let small : n ≤ MAX_COUNT = subst (λ (k : ℕ). k ≤ MAX_COUNT) (sym count) at.listable.counted in
    let here = list_found bytes read_base field n parts fits read (number, small) (list_size base os bytes n at count) chunks base_is base_fits in
    let once = list_once (cast_signed w64 (cast_unsigned w64 read_base)) base (offsets_of parts) os bytes here at in
    (once.base_same, once.offsets_same, behind ∙ take_rest bytes (12 + 8 * n) ∙ sym (drop-drop (8 * n) 12 bytes) ∙ ap (λ (k : ℕ). drop (8 * k) (drop 12 bytes)) count ∙ sym again.rest_is)
