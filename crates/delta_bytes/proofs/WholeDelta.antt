-- From the parts of a delta to the whole.
use Rattle.std.proofs.Common.{◌≡◌, ℕ, ◌-◌, ◌≤◌, ℤ, pos, Bool, true, false, ◌⊎◌, inl, inr, List, [], ◌∷◌, ◌++◌, length, take, drop, refl, sym, ap, subst, ◌∙◌, append-nil, arith}
use Rattle.std.specs.Prelude.{FitsSigned, if◌then◌else◌}
use Rattle.std.specs.List.{flat_map}
use Rattle.std.specs.Int.{w16, w32, w64}
use Rattle.std.proofs.lemmas.Int.{ints}
use Rattle.std.proofs.lemmas.List.{drop_at}
use Rattle.batch_codec.specs.Grammar.{fields, signed}
use Rattle.batch_codec.specs.Fields.{unsigned_at, signed_at}
use Rattle.batch_codec.proofs.Steps.{IsBytes-drop}
use Rattle.batch_codec.proofs.Fixed.{wide16, wide32, wide64, fields_back}
use Rattle.cover_ranges.specs.Runs.{Runs}
use Rattle.copy_images.specs.declared.layout.TheConstants.{VERSION, FIRST_VERSION, MAX_COUNT}
use Rattle.copy_images.specs.Images.{with_crc}
use Rattle.copy_images.specs.Refusals.{IsLogStart, version_in, has_start, start_in, body_in}
use Rattle.copy_images.proofs.Contents.{from_cover, seen_from}
use Rattle.copy_images.proofs.Parts.{IsBytes, signed_field, signed_fits, behind_head, body_from, body_bytes}
use Rattle.deltas.specs.Entries.{Entry}
use Rattle.deltas.specs.Deltas.{IsDelta}
use Rattle.delta_bytes.specs.declared.layout.TheConstants.{MARK}
use Rattle.delta_bytes.specs.EntryBytes.{entry_bytes}
use Rattle.delta_bytes.specs.RangeLists.{count_encoding, ranges_encoding}
use Rattle.delta_bytes.specs.declared.error.BodyError.{BodyError}
use Rattle.delta_bytes.specs.declared.error.DeltaError.TheVariants.{InBody}
use Rattle.delta_bytes.specs.Faults.{HasBody, BodyFault}
use Rattle.delta_bytes.specs.Deltas.{front_of, first_front, entries_encoding, body_encoding, delta_with, IsDeltaOf, IsDeltaAt}
use Rattle.delta_bytes.specs.Fronts.{HasCrc, HasStart, Refuses}

-- ---- the front

-- the bytes are this body between a front with this start and the crc
abbrev pub IsFramed : (start : ℤ) → (body bytes : List ℕ) → Type 0
IsFramed start body bytes = (bytes ≡ with_crc (front_of start ++ body)) ⊎ ((start ≡ pos 0) × (bytes ≡ with_crc (first_front ++ body)))

front_back : (bytes : List ℕ) → IsBytes bytes → HasCrc bytes → version_in bytes ≡ VERSION → bytes ≡ with_crc (front_of (signed_at w64 6 bytes) ++ take ((length bytes - 4) - 14) (drop 14 bytes))
unfolding front_of
front_back bytes fits has is =
    let size : 22 ≤ length bytes = has.0.0.0 in
    let read : bytes ≡ fields ((w32, unsigned_at w32 0 bytes) ∷ (w16, unsigned_at w16 4 bytes) ∷ (w64, unsigned_at w64 6 bytes) ∷ []) ++ drop 14 bytes = fields_back (w32 ∷ w16 ∷ w64 ∷ []) 0 bytes (wide32, (wide16, (wide64, tt))) fits (omega (arith, size)) in
    let mark : unsigned_at w32 0 bytes ≡ MARK = has.0.0.1 in
    let version = signed_field w16 wide16 4 bytes VERSION fits is in
    let start = signed_field w64 wide64 6 bytes (signed_at w64 6 bytes) fits refl in
    behind_head bytes (fields ((w32, MARK) ∷ signed w16 VERSION ∷ signed w64 (signed_at w64 6 bytes) ∷ [])) 14 fits (omega (arith, size)) has.1
    (read ∙ (λ i. fields ((w32, mark i) ∷ (w16, version i) ∷ (w64, start i) ∷ []) ++ drop 14 bytes)) refl

first_front_back : (bytes : List ℕ) → IsBytes bytes → HasCrc bytes → version_in bytes ≡ FIRST_VERSION → bytes ≡ with_crc (first_front ++ take ((length bytes - 4) - 6) (drop 6 bytes))
unfolding first_front
first_front_back bytes fits has is =
    let size : 22 ≤ length bytes = has.0.0.0 in
    let read : bytes ≡ fields ((w32, unsigned_at w32 0 bytes) ∷ (w16, unsigned_at w16 4 bytes) ∷ []) ++ drop 6 bytes = fields_back (w32 ∷ w16 ∷ []) 0 bytes (wide32, (wide16, tt)) fits (omega (arith, size)) in
    let mark : unsigned_at w32 0 bytes ≡ MARK = has.0.0.1 in
    let version = signed_field w16 wide16 4 bytes FIRST_VERSION fits is in
    behind_head bytes (fields ((w32, MARK) ∷ signed w16 FIRST_VERSION ∷ [])) 6 fits (omega (arith, size)) has.1
    (read ∙ (λ i. fields ((w32, mark i) ∷ (w16, version i) ∷ []) ++ drop 6 bytes)) refl

frame_back : (bytes : List ℕ) → IsBytes bytes → HasCrc bytes → IsFramed (start_in bytes) (body_in bytes) bytes
frame_back bytes fits has = by has.0.1
  where
    by : (version_in bytes ≡ VERSION) ⊎ (version_in bytes ≡ FIRST_VERSION) → IsFramed (start_in bytes) (body_in bytes) bytes
    by (inl is) =
        let there : has_start bytes ≡ true = grind (arith, ints, is) in
        inl (front_back bytes fits has is ∙ (λ i. with_crc (front_of (if sym there i then signed_at w64 6 bytes else pos 0) ++ body_from (sym there i) bytes)))
    by (inr is) =
        let none : has_start bytes ≡ false = grind (arith, ints, is) in
        inr (ap (λ (t : Bool). if t then signed_at w64 6 bytes else pos 0) none, first_front_back bytes fits has is ∙ (λ i. with_crc (first_front ++ body_from (sym none i) bytes)))

-- ---- the body

back_bytes : (xs ys : List ℕ) → IsBytes (xs ++ ys) → IsBytes ys
back_bytes xs ys fits = subst IsBytes (drop_at xs ys (length xs) refl) (IsBytes-drop (length xs) (xs ++ ys) fits)

small_count : (n : ℕ) → FitsSigned w32 (pos n) → n ≤ MAX_COUNT
small_count n fits = omega (arith, fits.sfits)

module _ (start : ℤ) (body : List ℕ) (runs asked : Runs) (more : List ℕ) (xs : List Entry) (has : HasBody start body runs asked more xs) where
  entries_are : more ≡ entries_encoding xs
  entries_are =
      has.items.0.encoded ∙ ap (λ (z : ℤ). count_encoding z ++ (flat_map entry_bytes xs ++ [])) (sym has.items.1)
      ∙ ap (λ (x : List ℕ). count_encoding (pos (length xs)) ++ x) (append-nil (flat_map entry_bytes xs))

  body_is : body ≡ body_encoding (delta_with start runs asked xs)
  body_is =
      has.ranges.0.encoded ∙ ap (λ (x : List ℕ). ranges_encoding runs ++ x) (has.asked_ranges.0.encoded ∙ ap (λ (x : List ℕ). ranges_encoding asked ++ x) entries_are)

  is_delta : IsLogStart start → IsDelta (delta_with start runs asked xs)
  is_delta starts = record {
    in_range = starts;
    canonical = has.ranges.1.0;
    above = λ o e. seen_from start runs (from_cover start runs has.ranges.1) o e;
    asked = has.asked_ranges.1.0;
    entries = has.items.0.valid;
  }

  few_entries : IsBytes body → length xs ≤ MAX_COUNT
  few_entries fits =
      let rest_bytes : IsBytes has.rest = back_bytes (ranges_encoding runs) has.rest (subst IsBytes has.ranges.0.encoded fits) in
      let more_bytes : IsBytes more = back_bytes (ranges_encoding asked) more (subst IsBytes has.asked_ranges.0.encoded rest_bytes) in
      small_count (length xs) (subst (FitsSigned w32) (sym has.items.1) (signed_fits w32 wide32 0 more more_bytes))

  with_frame : (bytes : List ℕ) → IsFramed start body bytes → IsFramed start (body_encoding (delta_with start runs asked xs)) bytes
  with_frame bytes framed = subst (λ (x : List ℕ). IsFramed start x bytes) body_is framed

pub is_delta_of : (bytes body : List ℕ) (start : ℤ) (runs asked : Runs) (more : List ℕ) (xs : List Entry) → IsBytes bytes → HasStart bytes → start ≡ start_in bytes → body ≡ body_in bytes → HasBody start body runs asked more xs
    → IsDeltaOf bytes (delta_with start runs asked xs)
is_delta_of bytes body start runs asked more xs fits has start_is body_is found =
    let framed : IsFramed start body bytes = subst (λ (z : ℤ). IsFramed z body bytes) (sym start_is) (subst (λ (x : List ℕ). IsFramed (start_in bytes) x bytes) (sym body_is) (frame_back bytes fits has.0)) in
    let here : IsBytes body = subst IsBytes (sym body_is) (body_bytes bytes fits) in
    record {
      valid = is_delta start body runs asked more xs found (subst IsLogStart (sym start_is) has.1);
      ranges = found.ranges.0.counted;
      asked = found.asked_ranges.0.counted;
      entries = few_entries start body runs asked more xs found here;
      encoded = with_frame start body runs asked more xs found bytes framed;
    }

pub is_delta_at : (bytes body : List ℕ) (start : ℤ) (runs asked : Runs) (more : List ℕ) → IsBytes bytes → HasStart bytes → start ≡ start_in bytes → body ≡ body_in bytes → (xs : List Entry) × HasBody start body runs asked more xs
    → IsDeltaAt bytes start runs asked more
is_delta_at bytes body start runs asked more fits has start_is body_is found = record {
  entries = found.0;
  delta = is_delta_of bytes body start runs asked more found.0 fits has start_is body_is found.1;
  entries_are = entries_are start body runs asked more found.0 found.1;
}

pub in_body : (bytes body : List ℕ) (start : ℤ) (e : BodyError) → HasStart bytes → start ≡ start_in bytes → body ≡ body_in bytes → BodyFault start body e → Refuses bytes (InBody e)
in_body bytes body start e has start_is body_is fault = (has, subst (λ (z : ℤ). BodyFault z (body_in bytes) e) start_is (subst (λ (x : List ℕ). BodyFault start x e) body_is fault))
