-- From what is read of bytes to the head that they begin with, or to their first fault.
use Rattle.std.proofs.Common.{◌≡◌, ℕ, ℤ, List, [], ◌++◌, length, Ok, Err, Option, Some, None, refl, sym, ap, subst, ◌∙◌, append-nil, append_assoc, inl, inr, to_z, of_z}
use Rattle.std.specs.Prelude.{pos, ◌≢◌, FitsSigned, IfSome, bit_xor}
use Rattle.std.specs.Int.{w32, w64}
use Rattle.std.proofs.lemmas.Int.{to_z-of_z}
use Rattle.frame_fields.specs.declared.error.FieldFault.{FieldFault}
use Rattle.frame_fields.specs.declared.error.FieldFault.TheVariants as field
use Rattle.frame_fields.specs.Fields.{Value, Encodes, Breaks, Fits, FitsLength, end, size16, size32, size64, be, encoded}
use Rattle.frame_fields.specs.Types.{bytes, ◌⨾◌}
use Rattle.frame_fields.specs.Reading.{map_read, read_fields, nothing}
use Rattle.frame_fields.proofs.ReaderLaws.{map_read_ok, map_read_err}
use Rattle.std.proofs.lemmas.List.{nil_from_length}
use Rattle.std.specs.List.{fold}
use Rattle.std.proofs.lemmas.List.Sums.{fold-append}
use Rattle.checksum.specs.Crc.{all_ones, crc_of, feed_byte, feed_bytes}
use Rattle.frame_fields.proofs.Numbers.{IsBytes, IsBytes-second}
use Rattle.frame_fields.proofs.FieldLaws.{read_encodes, read_breaks, one_value, never_both}
use Rattle.snapshots.specs.declared.layout.TheConstants.{MARK, OLD_VERSION, VERSION}
use Rattle.snapshots.specs.declared.error.SnapshotError.{SnapshotError}
use Rattle.snapshots.specs.declared.error.SnapshotError.TheVariants.{Short, BadMark, BadVersion, BadCrc, BadFields}
use Rattle.snapshots.specs.Heads.{SnapshotValue, StartsWithHead, covered, front_of, head_bytes, key_fields, signed_crc, start_fields, version_of, snapshot_fields, snapshot_said, snapshot_view}
use Rattle.snapshots.specs.declared.head.SnapshotHead.{SnapshotHead}
use Rattle.snapshots.specs.Faults.{HasFront, HasKey, HasParts, HasStart, HeadFault, IsFrontFault, IsNoEncoding, size_error}

-- ---- the front

abbrev ReadsStart : (crc mark version : ℤ) (all behind : List ℕ) → Type 0
ReadsStart crc mark version all behind = read_fields start_fields all ≡ Ok ((crc, (mark, (version, nothing))), behind)

pub start_read : (crc mark version : ℤ) (all behind : List ℕ) → IsBytes all → ReadsStart crc mark version all behind → HasStart crc mark version all behind
start_read crc mark version all behind fits read = record { start = read_encodes start_fields (crc, (mark, (version, nothing))) all behind fits read }

never_malformed : (all : List ℕ) → Breaks start_fields field.Malformed all → ⊥
unfolding Breaks
never_malformed all (inl none) = none
never_malformed all (inr (z, tail, fits, parts, inl none)) = none
never_malformed all (inr (z, tail, fits, parts, inr (y, more, fits2, parts2, inl none))) = none
never_malformed all (inr (z, tail, fits, parts, inr (y, more, fits2, parts2, inr (x, last, fits3, parts3, none)))) = none

never_malformed_key : (all : List ℕ) → Breaks key_fields field.Malformed all → ⊥
unfolding Breaks
never_malformed_key all (inl none) = none
never_malformed_key all (inr (z, tail, fits, parts, none)) = none

-- a start that is there is there as a whole
pub start_broken : (e : FieldFault) (all : List ℕ) → IsBytes all → read_fields start_fields all ≡ Err e → IsFrontFault Short all
start_broken field.ShortBody all fits read = inl (read_breaks start_fields field.ShortBody all fits read)
start_broken field.Malformed all fits read = absurd (never_malformed all (read_breaks start_fields field.Malformed all fits read))

-- what stands behind it are bytes
start_fits : (crc mark version : ℤ) (all behind : List ℕ) → IsBytes all → HasStart crc mark version all behind → IsBytes behind
start_fits crc mark version all behind fits h = IsBytes-second (encoded start_fields (crc, (mark, (version, nothing)))) behind (subst IsBytes h.start.parts fits)

-- with this program's mark and one of its versions
start_given : (crc mark version wanted : ℤ) (all behind : List ℕ) → IsBytes all → ReadsStart crc mark version all behind → mark ≡ MARK → version ≡ wanted
    → HasStart crc MARK wanted all behind
start_given crc mark version wanted all behind fits read is_mark is_version =
    subst (λ (v : ℤ). HasStart crc MARK v all behind) is_version (subst (λ (m : ℤ). HasStart crc m version all behind) is_mark
    (start_read crc mark version all behind fits read))

-- the crc is an int32, and the key an int64
crc_fits : (crc mark version : ℤ) (all behind : List ℕ) → HasStart crc mark version all behind → FitsSigned w32 crc
unfolding Fits
crc_fits crc mark version all behind h = h.start.fits.0

key_fits : (key : Option ℤ) (behind from : List ℕ) → HasKey key behind from → IfSome key (FitsSigned w64)
unfolding Fits
key_fits None behind from h = tt
key_fits (Some key) behind from h = h.fits.0

pub front_without_key : (crc mark version : ℤ) (all behind : List ℕ) → IsBytes all → ReadsStart crc mark version all behind → mark ≡ MARK → version ≡ OLD_VERSION
    → HasFront (to_z w32 (of_z w32 crc)) None all behind
front_without_key crc mark version all behind fits read is_mark is_version =
    let h = start_given crc mark version OLD_VERSION all behind fits read is_mark is_version in
    record {
      behind = behind;
      front = subst (λ (z : ℤ). HasStart z MARK OLD_VERSION all behind) (sym (to_z-of_z w32 crc (crc_fits crc MARK OLD_VERSION all behind h))) h;
      keyed = refl;
    }

pub front_with_key : (crc mark version key : ℤ) (all behind from : List ℕ) → IsBytes all → ReadsStart crc mark version all behind → mark ≡ MARK → version ≡ VERSION
    → read_fields key_fields behind ≡ Ok ((key, nothing), from) → HasFront (to_z w32 (of_z w32 crc)) (Some (to_z w64 (of_z w64 key))) all from
front_with_key crc mark version key all behind from fits read is_mark is_version is_key =
    let h = start_given crc mark version VERSION all behind fits read is_mark is_version in
    let keyed : HasKey (Some key) behind from = read_encodes key_fields (key, nothing) behind from (start_fits crc MARK VERSION all behind fits h) is_key in
    record {
      behind = behind;
      front = subst (λ (z : ℤ). HasStart z MARK VERSION all behind) (sym (to_z-of_z w32 crc (crc_fits crc MARK VERSION all behind h))) h;
      keyed = subst (λ (z : ℤ). HasKey (Some z) behind from) (sym (to_z-of_z w64 key (key_fits (Some key) behind from keyed))) keyed;
    }

pub key_broken : (e : FieldFault) (crc mark version : ℤ) (all behind : List ℕ) → IsBytes all → ReadsStart crc mark version all behind → mark ≡ MARK → version ≡ VERSION
    → read_fields key_fields behind ≡ Err e → IsFrontFault Short all
key_broken field.ShortBody crc mark version all behind fits read is_mark is_version broken =
    let h = start_given crc mark version VERSION all behind fits read is_mark is_version in
    inr (crc, behind, h, read_breaks key_fields field.ShortBody behind (start_fits crc MARK VERSION all behind fits h) broken)
key_broken field.Malformed crc mark version all behind fits read is_mark is_version broken =
    let h = start_given crc mark version VERSION all behind fits read is_mark is_version in
    absurd (never_malformed_key behind (read_breaks key_fields field.Malformed behind (start_fits crc MARK VERSION all behind fits h) broken))

pub other_mark : (crc mark version : ℤ) (all behind : List ℕ) → IsBytes all → ReadsStart crc mark version all behind → mark ≢ MARK → IsFrontFault BadMark all
other_mark crc mark version all behind fits read differs = (crc, mark, version, behind, start_read crc mark version all behind fits read, differs)

pub other_version : (crc mark version : ℤ) (all behind : List ℕ) → IsBytes all → ReadsStart crc mark version all behind → mark ≡ MARK → version ≢ OLD_VERSION → version ≢ VERSION
    → IsFrontFault BadVersion all
other_version crc mark version all behind fits read same old new =
    (crc, version, behind, subst (λ (m : ℤ). HasStart crc m version all behind) same (start_read crc mark version all behind fits read), old, new)

-- ---- the fields

module _ (head : SnapshotHead) (all rest : List ℕ) (fits : IsBytes all) (read : map_read snapshot_said (read_fields snapshot_fields all) ≡ Ok (snapshot_view head, rest)) where
  said : (v : Value snapshot_fields) × (read_fields snapshot_fields all ≡ Ok (v, rest)) × (snapshot_said v ≡ snapshot_view head)
  said = map_read_ok snapshot_said (read_fields snapshot_fields all) (snapshot_view head) rest read

  pub fields_read : length rest ≡ 0 → (v : Value snapshot_fields) × Encodes snapshot_fields v all [] × (snapshot_view head ≡ snapshot_said v)
  fields_read none = (said.0, subst (Encodes snapshot_fields said.0 all) (nil_from_length rest none) (read_encodes snapshot_fields said.0 all rest fits said.1), sym said.2)

  pub more_behind : (length rest ≡ 0 → ⊥) → IsNoEncoding all
  more_behind some = λ v e. some (ap length (sym (one_value snapshot_fields v said.0 all [] rest e (read_encodes snapshot_fields said.0 all rest fits said.1)).1))

pub not_read : (e : FieldFault) (all : List ℕ) → IsBytes all → map_read snapshot_said (read_fields snapshot_fields all) ≡ Err e → IsNoEncoding all
not_read e all fits read = λ v is. never_both snapshot_fields v all [] e is (read_breaks snapshot_fields e all fits (map_read_err snapshot_said (read_fields snapshot_fields all) e read))

-- ---- the crc

-- bytes that are fed in parts
pub crc_in_parts : (a b c d : List ℕ) → feed_bytes (feed_bytes (feed_bytes (feed_bytes all_ones a) b) c) d ≡ feed_bytes all_ones (a ++ (b ++ (c ++ d)))
unfolding feed_bytes
crc_in_parts a b c d = sym (fold-append feed_byte all_ones a (b ++ (c ++ d)) ∙ fold-append feed_byte (fold feed_byte all_ones a) b (c ++ d) ∙ fold-append feed_byte (fold feed_byte (fold feed_byte all_ones a) b) c d)

pub crc_in_more_parts : (a b c d e : List ℕ) → feed_bytes (feed_bytes (feed_bytes (feed_bytes (feed_bytes all_ones a) b) c) d) e ≡ feed_bytes all_ones (a ++ (b ++ (c ++ (d ++ e))))
unfolding feed_bytes
crc_in_more_parts a b c d e =
    ap (λ (x : ℕ). fold feed_byte x e) (crc_in_parts a b c d) ∙ sym (fold-append feed_byte all_ones (a ++ (b ++ (c ++ d))) e)
    ∙ ap (fold feed_byte all_ones) (append_assoc a (b ++ (c ++ d)) e ∙ ap (λ (x : List ℕ). a ++ x) (append_assoc b (c ++ d) e ∙ ap (λ (x : List ℕ). b ++ x) (append_assoc c d e)))

pub crc_of_more_is : (r : ℕ) (a b c d e : List ℕ) → r ≡ bit_xor (feed_bytes (feed_bytes (feed_bytes (feed_bytes (feed_bytes all_ones a) b) c) d) e) all_ones
    → r ≡ crc_of (a ++ (b ++ (c ++ (d ++ e))))
unfolding crc_of
crc_of_more_is r a b c d e is = is ∙ ap (λ (x : ℕ). bit_xor x all_ones) (crc_in_more_parts a b c d e)

pub crc_is : (r : ℕ) (a b c d : List ℕ) → r ≡ bit_xor (feed_bytes (feed_bytes (feed_bytes (feed_bytes all_ones a) b) c) d) all_ones → r ≡ crc_of (a ++ (b ++ (c ++ d)))
unfolding crc_of
crc_is r a b c d is = is ∙ ap (λ (x : ℕ). bit_xor x all_ones) (crc_in_parts a b c d)

-- ---- the whole

-- what stands behind the front are bytes
keyed_fits : (key : Option ℤ) (behind from : List ℕ) → IsBytes behind → HasKey key behind from → IsBytes from
keyed_fits None behind from fits h = subst IsBytes h fits
keyed_fits (Some key) behind from fits h = IsBytes-second (encoded key_fields (key, nothing)) from (subst IsBytes h.parts fits)

pub front_fits : (crc : ℤ) (key : Option ℤ) (all from : List ℕ) → IsBytes all → HasFront crc key all from → IsBytes from
front_fits crc key all from fits h =
    keyed_fits key h.behind from (start_fits crc MARK (version_of key) all h.behind fits h.front) h.keyed

-- the fault of the size
pub breaks_behind : (crc : ℤ) (key : Option ℤ) (e : FieldFault) (all from : List ℕ) → IsBytes all → HasFront crc key all from → read_fields (bytes ⨾ end) from ≡ Err e → (o : SnapshotError) → o ≡ size_error e → HeadFault o all
breaks_behind crc key field.ShortBody all from fits front read o is =
    subst (λ (x : SnapshotError). HeadFault x all) (sym is) (inr (crc, key, from, front, read_breaks (bytes ⨾ end) field.ShortBody from (front_fits crc key all from fits front) read))
breaks_behind crc key field.Malformed all from fits front read o is =
    subst (λ (x : SnapshotError). HeadFault x all) (sym is) (crc, key, from, front, read_breaks (bytes ⨾ end) field.Malformed from (front_fits crc key all from fits front) read)

-- the parts that were read
pub has_parts : (crc : ℤ) (key : Option ℤ) (all from fields rest : List ℕ) → IsBytes all → HasFront crc key all from → read_fields (bytes ⨾ end) from ≡ Ok ((fields, nothing), rest) → HasParts crc key fields all rest
has_parts crc key all from fields rest fits front read = record { from = from; front = front; sized = read_encodes (bytes ⨾ end) (fields, nothing) from rest (front_fits crc key all from fits front) read }

-- the bytes of a head that is right
parts_of : (crc : ℤ) (key : Option ℤ) (all fields rest : List ℕ) → HasParts crc key fields all rest → all ≡ be size32 crc ++ covered key fields ++ rest
unfolding encoded
parts_of crc None all fields rest parts =
    parts.front.front.start.parts ∙ (ap (λ (x : List ℕ). encoded start_fields (crc, (MARK, (OLD_VERSION, nothing))) ++ x) (parts.front.keyed ∙ parts.sized.parts)
    ∙ ap (λ (x : List ℕ). be size32 crc ++ (be size32 MARK ++ (be size16 OLD_VERSION ++ (be size32 (pos (length fields)) ++ (x ++ rest))))) (append-nil fields))
parts_of crc (Some key) all fields rest parts =
    parts.front.front.start.parts
    ∙ (ap (λ (x : List ℕ). encoded start_fields (crc, (MARK, (VERSION, nothing))) ++ x)
    (parts.front.keyed.parts ∙ ap (λ (x : List ℕ). encoded key_fields (key, nothing) ++ x) parts.sized.parts)
    ∙ ap (λ (x : List ℕ). be size32 crc ++ (be size32 MARK ++ (be size16 VERSION ++ (be size64 key ++ (be size32 (pos (length fields)) ++ (x ++ rest)))))) (append-nil fields))

head_of : (key : Option ℤ) (fields : List ℕ) (v : Value snapshot_fields) → fields ≡ encoded snapshot_fields v
    → be size32 (signed_crc (covered key fields)) ++ covered key fields ≡ head_bytes key v
unfolding front_of
head_of None fields v whole = ap (λ (x : List ℕ). front_of None x ++ x) whole
head_of (Some key) fields v whole = ap (λ (x : List ℕ). front_of (Some key) x ++ x) whole

sized_fits : (crc : ℤ) (key : Option ℤ) (all fields rest : List ℕ) → HasParts crc key fields all rest → FitsLength size32 (length fields)
unfolding Fits
sized_fits crc key all fields rest parts = parts.sized.fits.0

pub starts : (s : SnapshotValue) (crc : ℤ) (key : Option ℤ) (all fields rest : List ℕ) → HasParts crc key fields all rest → crc ≡ signed_crc (covered key fields)
    → (v : Value snapshot_fields) × Encodes snapshot_fields v fields [] × (s ≡ snapshot_said v) → StartsWithHead s key all rest
starts s crc key all fields rest parts same is = record {
  fields = is.0;
  fits = is.1.fits;
  sized = subst (λ (x : List ℕ). FitsLength size32 (length x)) whole (sized_fits crc key all fields rest parts);
  keyed = key_fits key parts.front.behind parts.from parts.front.keyed;
  says = is.2;
  parts = parts_of crc key all fields rest parts
      ∙ ap (λ (x : List ℕ). x ++ rest) (ap (λ (z : ℤ). be size32 z ++ covered key fields) same ∙ head_of key fields is.0 whole);
} where
  whole : fields ≡ encoded snapshot_fields is.0
  whole = is.1.parts ∙ append-nil (encoded snapshot_fields is.0)

pub wrong_crc : (crc own : ℤ) (key : Option ℤ) (all fields rest : List ℕ) → HasParts crc key fields all rest → own ≡ signed_crc (covered key fields) → (own ≡ crc → ⊥) → HeadFault BadCrc all
wrong_crc crc own key all fields rest parts is differs = (crc, key, fields, rest, parts, λ same. differs (is ∙ sym same))

pub no_fields : (crc own : ℤ) (key : Option ℤ) (all fields rest : List ℕ) (e : SnapshotError) → HasParts crc key fields all rest → own ≡ signed_crc (covered key fields) → own ≡ crc → (e ≡ BadFields) × IsNoEncoding fields → HeadFault e all
no_fields crc own key all fields rest e parts is same refused =
    subst (λ (x : SnapshotError). HeadFault x all) (sym refused.0) (key, fields, rest, subst (λ (z : ℤ). HasParts z key fields all rest) (sym same ∙ is) parts, refused.1)
