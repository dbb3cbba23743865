-- A delta is read again: its bytes tell its parts, and no fault stands in them.
use Rattle.std.proofs.Common.{◌≡◌, ◌≢◌, ℕ, ◌≤◌, ◌<◌, ◌^◌, ℤ, pos, Bool, true, false, ◌⊎◌, inl, inr, List, [], ◌∷◌, ◌++◌, length, refl, sym, ap, subst, ◌∙◌, append-nil, arith}
use Rattle.std.specs.Prelude.{negsuc, ◌≤ℤ◌, FitsSigned, if◌then◌else◌}
use Rattle.std.specs.List.{AllByRecursion, flat_map}
use Rattle.std.specs.Int.{w16, w32, w64}
use Rattle.std.proofs.lemmas.Int.{ints}
use Rattle.std.proofs.lemmas.List.{length-append}
use Rattle.batch_codec.specs.Grammar.{Field, fields, signed}
use Rattle.batch_codec.specs.Fields.{unsigned_at, signed_at}
use Rattle.batch_codec.proofs.Fixed.{wide16, wide32, wide64, fields_at, fields_again}
use Rattle.cover_ranges.specs.Runs.{Runs, IsCanonical}
use Rattle.cover_ranges.proofs.RunsFrom.{canonical_from}
use Rattle.copy_images.specs.declared.layout.TheConstants.{VERSION, FIRST_VERSION, MAX_COUNT}
use Rattle.copy_images.specs.Images.{range_encoding, with_crc}
use Rattle.copy_images.specs.Refusals.{FitsInt64, IsLogStart, version_in, has_start, start_in, body_in}
use Rattle.copy_images.proofs.Contents.{runs_above, cover_from}
use Rattle.copy_images.proofs.FirstFaults.{fits_runs}
use Rattle.copy_images.proofs.Parts.{body_from}
use Rattle.copy_images.proofs.PartsAgain.{number_in, fits_field, signed_again, own_crc, IsBehind, behind_head}
use Rattle.deltas.specs.Deltas.{Delta, IsDelta}
use Rattle.delta_bytes.specs.declared.layout.TheConstants.{MARK}
use Rattle.delta_bytes.specs.declared.error.FrontError.{FrontError}
use Rattle.delta_bytes.specs.declared.error.FrontError.TheVariants.{Short, BadMark, BadVersion, BadCrc, BadStart}
use Rattle.delta_bytes.specs.declared.error.DeltaError.{DeltaError}
use Rattle.delta_bytes.specs.declared.error.DeltaError.TheVariants.{InFront, InBody}
use Rattle.delta_bytes.specs.EntryBytes.{entry_bytes}
use Rattle.delta_bytes.specs.RangeLists.{count_encoding, count_in, ranges_encoding}
use Rattle.delta_bytes.specs.Faults.{HasBody}
use Rattle.delta_bytes.specs.Deltas.{front_of, first_front, entries_encoding, body_encoding, IsDeltaOf}
use Rattle.delta_bytes.specs.Fronts.{HasSize, HasCrc, HasStart, FrontFault, Refuses}
use Rattle.delta_bytes.proofs.OneBody.{one_body_fault, no_body_fault, body_once}
use Rattle.delta_bytes.proofs.WholeDelta.{IsFramed}

-- ---- the front

-- the crc, the start and the body as they are read
record IsFrameOf (bytes : List ℕ) (start : ℤ) (body : List ℕ) : Type 0 where
  crc : HasCrc bytes
  start_is : start_in bytes ≡ start
  body_is : body_in bytes ≡ body

front_again : (bytes : List ℕ) (start : ℤ) (body : List ℕ) → FitsSigned w64 start → 12 ≤ length body → bytes ≡ with_crc (front_of start ++ body) → IsFrameOf bytes start body
unfolding front_of number_in
front_again bytes start body fits long is =
    let fs = (w32, MARK) ∷ signed w16 VERSION ∷ signed w64 start ∷ [] in
    let b : IsBehind bytes (fields fs) body 14 = behind_head bytes (fields fs) body 14 is refl in
    let version_fits : FitsSigned w16 VERSION = record { sfits = omega arith } in
    let mark_fits : MARK < 2 ^ 32 = omega arith in
    let again : fields_at (w32 ∷ w16 ∷ w64 ∷ []) 0 (fields fs ++ b.tail) ≡ fs =
    fields_again fs [] b.tail 0 (wide32, (wide16, (wide64, tt))) (mark_fits, (fits_field w16 VERSION version_fits, (fits_field w64 start fits, tt))) refl in
    let number = λ (i : ℕ). ap (λ (x : List Field). number_in x i) again in
    let mark : unsigned_at w32 0 bytes ≡ MARK = ap (unsigned_at w32 0) b.parts ∙ number 0 in
    let version : version_in bytes ≡ VERSION = ap (signed_at w16 4) b.parts ∙ signed_again w16 VERSION _ version_fits (number 1) in
    let start_read : signed_at w64 6 bytes ≡ start = ap (signed_at w64 6) b.parts ∙ signed_again w64 start _ fits (number 2) in
    let there : has_start bytes ≡ true = grind (arith, ints, version) in
    record {
      crc = (((omega (arith, b.size, long), mark), inl version), own_crc (fields fs ++ body) bytes is);
      start_is = ap (λ (t : Bool). if t then signed_at w64 6 bytes else pos 0) there ∙ start_read;
      body_is = ap (λ (t : Bool). body_from t bytes) there ∙ b.body_is;
    }

first_front_again : (bytes body : List ℕ) → 12 ≤ length body → bytes ≡ with_crc (first_front ++ body) → IsFrameOf bytes (pos 0) body
unfolding first_front number_in
first_front_again bytes body long is =
    let fs = (w32, MARK) ∷ signed w16 FIRST_VERSION ∷ [] in
    let b : IsBehind bytes (fields fs) body 6 = behind_head bytes (fields fs) body 6 is refl in
    let version_fits : FitsSigned w16 FIRST_VERSION = record { sfits = omega arith } in
    let mark_fits : MARK < 2 ^ 32 = omega arith in
    let again : fields_at (w32 ∷ w16 ∷ []) 0 (fields fs ++ b.tail) ≡ fs =
    fields_again fs [] b.tail 0 (wide32, (wide16, tt)) (mark_fits, (fits_field w16 FIRST_VERSION version_fits, tt)) refl in
    let number = λ (i : ℕ). ap (λ (x : List Field). number_in x i) again in
    let mark : unsigned_at w32 0 bytes ≡ MARK = ap (unsigned_at w32 0) b.parts ∙ number 0 in
    let version : version_in bytes ≡ FIRST_VERSION = ap (signed_at w16 4) b.parts ∙ signed_again w16 FIRST_VERSION _ version_fits (number 1) in
    let none : has_start bytes ≡ false = grind (arith, ints, version) in
    record {
      crc = (((omega (arith, b.size, long), mark), inr version), own_crc (fields fs ++ body) bytes is);
      start_is = ap (λ (t : Bool). if t then signed_at w64 6 bytes else pos 0) none;
      body_is = ap (λ (t : Bool). body_from t bytes) none ∙ b.body_is;
    }

frame_again : (bytes : List ℕ) (start : ℤ) (body : List ℕ) → FitsSigned w64 start → 12 ≤ length body → IsFramed start body bytes → IsFrameOf bytes start body
frame_again bytes start body fits long (inl is) = front_again bytes start body fits long is
frame_again bytes start body fits long (inr (zero, is)) = subst (λ (z : ℤ). IsFrameOf bytes z body) (sym zero) (first_front_again bytes body long is)

-- ---- the body

length-count : (z : ℤ) → length (count_encoding z) ≡ 4
length-count z = refl

body_long : (e : Delta) → 12 ≤ length (body_encoding e)
unfolding ranges_encoding
body_long e =
    let rest = ranges_encoding e.asked ++ entries_encoding e.entries in
    let a = length-append (count_encoding (pos (length e.cover))) (flat_map range_encoding e.cover) in
    let b = length-append (count_encoding (pos (length e.asked))) (flat_map range_encoding e.asked) in
    let c = length-append (count_encoding (pos (length e.entries))) (flat_map entry_bytes e.entries) in
    omega (arith, length-append (ranges_encoding e.cover) rest, length-append (ranges_encoding e.asked) (entries_encoding e.entries), a, b, c, length-count (pos (length e.cover)), length-count (pos (length e.asked)), length-count (pos (length e.entries)))

fits_count : (n : ℕ) → n ≤ MAX_COUNT → FitsSigned w32 (pos n)
fits_count n le = record { sfits = omega arith }

count_again : (n : ℕ) (rest : List ℕ) → n ≤ MAX_COUNT → count_in (count_encoding (pos n) ++ rest) ≡ pos n
unfolding number_in
count_again n rest le =
    let fs = signed w32 (pos n) ∷ [] in
    let small : FitsSigned w32 (pos n) = fits_count n le in
    let again : fields_at (w32 ∷ []) 0 (fields fs ++ rest) ≡ fs = fields_again fs [] rest 0 (wide32, tt) (fits_field w32 (pos n) small, tt) refl in
    signed_again w32 (pos n) _ small (ap (λ (x : List Field). number_in x 0) again)

zero_least : pos 0 ≤ℤ pos 0
zero_least = omega (arith, ints)

runs_fit : (runs : Runs) → IsCanonical runs → AllByRecursion FitsInt64 runs
runs_fit runs canonical = fits_runs (pos 0) runs zero_least (canonical_from runs canonical)

body_again : (e : Delta) → IsDelta e → length e.cover ≤ MAX_COUNT → length e.asked ≤ MAX_COUNT → length e.entries ≤ MAX_COUNT → HasBody e.start (body_encoding e) e.cover e.asked (entries_encoding e.entries) e.entries
body_again e valid ranges asked entries =
    let count : count_in (entries_encoding e.entries) ≡ pos (length e.entries) = count_again (length e.entries) (flat_map entry_bytes e.entries) entries in
    let four = length-append (count_encoding (pos (length e.entries))) (flat_map entry_bytes e.entries) in
    let size = length-count (pos (length e.entries)) in
    record {
      rest = ranges_encoding e.asked ++ entries_encoding e.entries;
      ranges = (record { encoded = refl; fit = runs_fit e.cover valid.canonical; counted = ranges; long = omega arith }, (valid.canonical, runs_above e.start e.cover valid.canonical valid.above));
      asked_ranges = (record { encoded = refl; fit = runs_fit e.asked valid.asked; counted = asked; long = omega (arith, four, size) }, cover_from (pos 0) e.asked zero_least (canonical_from e.asked valid.asked));
      items = (
        record {
          encoded = (λ i. count_encoding (sym count i) ++ sym (append-nil (flat_map entry_bytes e.entries)) i);
          valid = valid.entries;
        },
        sym count,
      );
    }

-- ---- the whole

fits_start : (start : ℤ) → IsLogStart start → FitsSigned w64 start
fits_start (pos n) starts = let a = starts.1 in record { sfits = omega (arith, ints, a) }
fits_start (negsuc n) starts = let a = starts.0 in absurd (omega (arith, ints, a))

-- what bytes of a delta are read as
pub record IsReadAs (bytes : List ℕ) (e : Delta) : Type 0 where
  pub starts : HasStart bytes
  pub start_is : start_in bytes ≡ e.start
  pub body : HasBody (start_in bytes) (body_in bytes) e.cover e.asked (entries_encoding e.entries) e.entries

pub delta_again : (bytes : List ℕ) (e : Delta) → IsDeltaOf bytes e → IsReadAs bytes e
delta_again bytes e is =
    let frame : IsFrameOf bytes e.start (body_encoding e) = frame_again bytes e.start (body_encoding e) (fits_start e.start is.valid.in_range) (body_long e) is.encoded in
    let body = body_again e is.valid is.ranges is.asked is.entries in
    record {
      starts = (frame.crc, subst IsLogStart (sym frame.start_is) is.valid.in_range);
      start_is = frame.start_is;
      body = subst (λ (z : ℤ). HasBody z (body_in bytes) e.cover e.asked (entries_encoding e.entries) e.entries) (sym frame.start_is)
          (subst (λ (x : List ℕ). HasBody e.start x e.cover e.asked (entries_encoding e.entries) e.entries) (sym frame.body_is) body);
    }

pub delta_once : (bytes : List ℕ) (e f : Delta) → IsDeltaOf bytes e → IsDeltaOf bytes f → e ≡ f
delta_once bytes e f a b =
    let r : IsReadAs bytes e = delta_again bytes e a in
    let s : IsReadAs bytes f = delta_again bytes f b in
    let start : e.start ≡ f.start = sym r.start_is ∙ s.start_is in
    let same = body_once (start_in bytes) (body_in bytes) e.cover e.asked f.cover f.asked (entries_encoding e.entries) (entries_encoding f.entries) e.entries f.entries r.body s.body in
    (λ i. record { start = start i; cover = same.0 i; asked = same.1 i; entries = same.2 i })

-- ---- faults

no_size : (bytes : List ℕ) → length bytes < 22 → HasSize bytes → ⊥
no_size bytes short size = omega (arith, short, size)

no_version : (bytes : List ℕ) → version_in bytes ≢ VERSION → version_in bytes ≢ FIRST_VERSION → (version_in bytes ≡ VERSION) ⊎ (version_in bytes ≡ FIRST_VERSION) → ⊥
no_version bytes a b (inl is) = a is
no_version bytes a b (inr is) = b is

no_front_fault : (bytes : List ℕ) (e : FrontError) → HasStart bytes → FrontFault bytes e → ⊥
no_front_fault bytes Short has fault = let size : 22 ≤ length bytes = has.0.0.0.0 in omega (arith, size, fault)
no_front_fault bytes BadMark has fault = fault.1 has.0.0.0.1
no_front_fault bytes BadVersion has fault = no_version bytes fault.1 fault.2 has.0.0.1
no_front_fault bytes BadCrc has fault = fault.1 has.0.1
no_front_fault bytes BadStart has fault = fault.1 has.1

pub no_fault : (bytes : List ℕ) (e : Delta) (f : DeltaError) → IsDeltaOf bytes e → Refuses bytes f → ⊥
no_fault bytes e (InFront f) is fault = no_front_fault bytes f (delta_again bytes e is).starts fault
no_fault bytes e (InBody f) is fault = no_body_fault (start_in bytes) (body_in bytes) e.cover e.asked (entries_encoding e.entries) e.entries f (delta_again bytes e is).body fault.1

one_front_fault : (bytes : List ℕ) (e f : FrontError) → FrontFault bytes e → FrontFault bytes f → e ≡ f
one_front_fault bytes Short Short a b = refl
one_front_fault bytes Short BadMark a b = absurd (no_size bytes a b.0)
one_front_fault bytes Short BadVersion a b = absurd (no_size bytes a b.0.0)
one_front_fault bytes Short BadCrc a b = absurd (no_size bytes a b.0.0.0)
one_front_fault bytes Short BadStart a b = absurd (no_size bytes a b.0.0.0.0)
one_front_fault bytes BadMark Short a b = absurd (no_size bytes b a.0)
one_front_fault bytes BadMark BadMark a b = refl
one_front_fault bytes BadMark BadVersion a b = absurd (a.1 b.0.1)
one_front_fault bytes BadMark BadCrc a b = absurd (a.1 b.0.0.1)
one_front_fault bytes BadMark BadStart a b = absurd (a.1 b.0.0.0.1)
one_front_fault bytes BadVersion Short a b = absurd (no_size bytes b a.0.0)
one_front_fault bytes BadVersion BadMark a b = absurd (b.1 a.0.1)
one_front_fault bytes BadVersion BadVersion a b = refl
one_front_fault bytes BadVersion BadCrc a b = absurd (no_version bytes a.1 a.2 b.0.1)
one_front_fault bytes BadVersion BadStart a b = absurd (no_version bytes a.1 a.2 b.0.0.1)
one_front_fault bytes BadCrc Short a b = absurd (no_size bytes b a.0.0.0)
one_front_fault bytes BadCrc BadMark a b = absurd (b.1 a.0.0.1)
one_front_fault bytes BadCrc BadVersion a b = absurd (no_version bytes b.1 b.2 a.0.1)
one_front_fault bytes BadCrc BadCrc a b = refl
one_front_fault bytes BadCrc BadStart a b = absurd (a.1 b.0.1)
one_front_fault bytes BadStart Short a b = absurd (no_size bytes b a.0.0.0.0)
one_front_fault bytes BadStart BadMark a b = absurd (b.1 a.0.0.0.1)
one_front_fault bytes BadStart BadVersion a b = absurd (no_version bytes b.1 b.2 a.0.0.1)
one_front_fault bytes BadStart BadCrc a b = absurd (b.1 a.0.1)
one_front_fault bytes BadStart BadStart a b = refl

pub one_refusal : (bytes : List ℕ) (e f : DeltaError) → Refuses bytes e → Refuses bytes f → e ≡ f
one_refusal bytes (InFront e) (InFront f) a b = ap InFront (one_front_fault bytes e f a b)
one_refusal bytes (InFront e) (InBody f) a b = absurd (no_front_fault bytes e b.0 a)
one_refusal bytes (InBody e) (InFront f) a b = absurd (no_front_fault bytes f a.0 b)
one_refusal bytes (InBody e) (InBody f) a b = ap InBody (one_body_fault (start_in bytes) (body_in bytes) e f a.1 b.1)
