-- Both lists of ranges are read in one way, and so is the whole body; it has one first fault, or none.
use Rattle.std.proofs.Common.{◌≡◌, ℕ, ◌+◌, ◌*◌, ◌≤◌, ℤ, pos, inl, inr, List, [], ◌∷◌, ◌++◌, length, drop, refl, sym, ap, subst, ◌∙◌, append_assoc, arith}
use Rattle.std.specs.Prelude.{◌<ℤ◌, FitsSigned, unsigned_abs}
use Rattle.std.specs.List.{flat_map}
use Rattle.std.specs.Int.{w32}
use Rattle.std.specs.Simd.{first_chunks}
use Rattle.std.proofs.lemmas.Int.{ints}
use Rattle.std.proofs.lemmas.List.{length-append, drop_at}
use Rattle.batch_codec.specs.Grammar.{Field, fields, signed}
use Rattle.batch_codec.specs.Fields.{signed_at}
use Rattle.batch_codec.proofs.Fixed.{wide32, fields_at, fields_again}
use Rattle.cover_ranges.specs.Runs.{Runs}
use Rattle.copy_images.specs.declared.layout.TheConstants.{MAX_COUNT}
use Rattle.copy_images.specs.Images.{range_encoding}
use Rattle.copy_images.specs.Refusals.{IsCoverFrom}
use Rattle.copy_images.specs.Judging.{ranges_of}
use Rattle.copy_images.proofs.PartsAgain.{number_in, fits_field, signed_again, ranges_again, length-ranges}
use Rattle.deltas.specs.Entries.{Entry}
use Rattle.delta_bytes.specs.declared.error.RangesError.{RangesError}
use Rattle.delta_bytes.specs.declared.error.RangesError.TheVariants.{Short, BadCover}
use Rattle.delta_bytes.specs.declared.error.BodyError.{BodyError}
use Rattle.delta_bytes.specs.declared.error.BodyError.TheVariants.{InRanges, InEntries}
use Rattle.delta_bytes.specs.RangeLists.{count_in, ranges_encoding, IsRangeList, HasRanges, RangesFault}
use Rattle.delta_bytes.specs.Faults.{HasBody, AreAllItems, ItemsFault, BodyFault}
use Rattle.delta_bytes.proofs.OneFault.{one_items_fault, no_items_fault, one_items}

-- ---- a list of ranges

-- each part of it as it is read
pub record IsReadAs (bytes : List ℕ) (ranges : Runs) (rest : List ℕ) : Type 0 where
  pub counted : count_in bytes ≡ pos (length ranges)
  pub size : length bytes ≡ 4 + 16 * length ranges + length rest
  pub ranges_are : ranges ≡ ranges_of (first_chunks 16 (length ranges) (drop 4 bytes))
  pub rest_is : rest ≡ drop (16 * length ranges) (drop 4 bytes)

fits_count : (n : ℕ) → n ≤ MAX_COUNT → FitsSigned w32 (pos n)
fits_count n le = record { sfits = omega arith }

pub ranges_read : (behind : ℕ) (bytes : List ℕ) (ranges : Runs) (rest : List ℕ) → IsRangeList behind bytes ranges rest → IsReadAs bytes ranges rest
unfolding ranges_encoding number_in
ranges_read behind bytes ranges rest list =
    let fs = signed w32 (pos (length ranges)) ∷ [] in
    let middle = flat_map range_encoding ranges in
    let small : FitsSigned w32 (pos (length ranges)) = fits_count (length ranges) list.counted in
    let parts : bytes ≡ fields fs ++ (middle ++ rest) = list.encoded ∙ append_assoc (fields fs) middle rest in
    let again : fields_at (w32 ∷ []) 0 (fields fs ++ (middle ++ rest)) ≡ fs = fields_again fs [] (middle ++ rest) 0 (wide32, tt) (fits_field w32 (pos (length ranges)) small, tt) refl in
    let head : length (fields fs) ≡ 4 = refl in
    let behind_head : drop 4 bytes ≡ middle ++ rest = ap (drop 4) parts ∙ drop_at (fields fs) (middle ++ rest) 4 refl in
    let read = ranges_again ranges rest list.fit in
    record {
      counted = ap (signed_at w32 0) parts ∙ signed_again w32 (pos (length ranges)) _ small (ap (λ (x : List Field). number_in x 0) again);
      size = omega (arith, ap length parts, length-append (fields fs) (middle ++ rest), length-append middle rest, head, length-ranges ranges);
      ranges_are = sym (ap (λ (x : List ℕ). ranges_of (first_chunks 16 (length ranges) x)) behind_head ∙ read.0);
      rest_is = sym (ap (drop (16 * length ranges)) behind_head ∙ read.1);
    }

pos_same : (m n : ℕ) → pos m ≡ pos n → m ≡ n
pos_same m n e = cc

pub ranges_once : (behind after : ℕ) (bytes : List ℕ) (a b : Runs) (rest other : List ℕ) → IsRangeList behind bytes a rest → IsRangeList after bytes b other → (a ≡ b) × (rest ≡ other)
ranges_once behind after bytes a b rest other list another =
    let r : IsReadAs bytes a rest = ranges_read behind bytes a rest list in
    let s : IsReadAs bytes b other = ranges_read after bytes b other another in
    let number : length a ≡ length b = pos_same (length a) (length b) (sym r.counted ∙ s.counted) in (
      r.ranges_are ∙ ap (λ (n : ℕ). ranges_of (first_chunks 16 n (drop 4 bytes))) number ∙ sym s.ranges_are,
      r.rest_is ∙ ap (λ (n : ℕ). drop (16 * n) (drop 4 bytes)) number ∙ sym s.rest_is,
    )

-- ---- and its faults

not_short : (low : ℤ) (behind : ℕ) (bytes : List ℕ) (ranges : Runs) (rest : List ℕ) → IsRangeList behind bytes ranges rest → RangesFault low behind bytes Short → ⊥
not_short low behind bytes ranges rest list (inl short) = omega (arith, short, (ranges_read behind bytes ranges rest list).size)
not_short low behind bytes ranges rest list (inr short) =
    let read : IsReadAs bytes ranges rest = ranges_read behind bytes ranges rest list in
    let number : unsigned_abs (count_in bytes) ≡ length ranges = ap unsigned_abs read.counted in
    omega (arith, number, short.1, read.size, list.long)

not_negative : (behind : ℕ) (bytes : List ℕ) (ranges : Runs) (rest : List ℕ) → IsRangeList behind bytes ranges rest → count_in bytes <ℤ pos 0 → ⊥
not_negative behind bytes ranges rest list less =
    let e = (ranges_read behind bytes ranges rest list).counted in
    omega (arith, ints, e, less)

short_or_bad : (low : ℤ) (behind : ℕ) (bytes : List ℕ) → RangesFault low behind bytes Short → RangesFault low behind bytes BadCover → ⊥
short_or_bad low behind bytes short (inr bad) = not_short low behind bytes bad.0 bad.1 bad.2 short
short_or_bad low behind bytes (inl short) (inl bad) = omega (arith, short, bad.0)
short_or_bad low behind bytes (inr short) (inl bad) = let a = short.0 in let b = bad.1 in omega (arith, ints, a, b)

one_ranges_fault : (low : ℤ) (behind : ℕ) (bytes : List ℕ) (e f : RangesError) → RangesFault low behind bytes e → RangesFault low behind bytes f → e ≡ f
one_ranges_fault low behind bytes Short Short a b = refl
one_ranges_fault low behind bytes Short BadCover a b = absurd (short_or_bad low behind bytes a b)
one_ranges_fault low behind bytes BadCover Short a b = absurd (short_or_bad low behind bytes b a)
one_ranges_fault low behind bytes BadCover BadCover a b = refl

no_ranges_fault : (low : ℤ) (behind : ℕ) (bytes : List ℕ) (ranges : Runs) (rest : List ℕ) (e : RangesError) → HasRanges low behind bytes ranges rest → RangesFault low behind bytes e → ⊥
no_ranges_fault low behind bytes ranges rest Short has fault = not_short low behind bytes ranges rest has.0 fault
no_ranges_fault low behind bytes ranges rest BadCover has (inl bad) = not_negative behind bytes ranges rest has.0 bad.1
no_ranges_fault low behind bytes ranges rest BadCover has (inr bad) =
    let same = ranges_once behind behind bytes ranges bad.0 rest bad.1 has.0 bad.2 in
    bad.3 (subst (IsCoverFrom low) same.0 has.1)

-- ---- both lists, one after the other

pub record AreSame (a b c d : Runs) (more other : List ℕ) : Type 0 where
  pub runs_same : a ≡ b
  pub asked_same : c ≡ d
  pub more_same : more ≡ other

both_once : (start : ℤ) (bytes : List ℕ) (a b c d : Runs) (r s more other : List ℕ) → HasRanges start 0 bytes a r → HasRanges (pos 0) 4 r c more → HasRanges start 0 bytes b s → HasRanges (pos 0) 4 s d other → AreSame a b c d more other
both_once start bytes a b c d r s more other first second first' second' =
    let one = ranges_once 0 0 bytes a b r s first.0 first'.0 in
    let two = ranges_once 4 4 r c d more other second.0 (subst (λ (x : List ℕ). IsRangeList 4 x d other) (sym one.1) second'.0) in
    record { runs_same = one.0; asked_same = two.0; more_same = two.1 }

-- what is said of the bytes behind some ranges, of those behind the same ones
same_rest : (start : ℤ) (bytes : List ℕ) (a b : Runs) (r s : List ℕ) (P : List ℕ → Type 0) → HasRanges start 0 bytes a r → HasRanges start 0 bytes b s → P s → P r
same_rest start bytes a b r s P first other p = subst P (sym (ranges_once 0 0 bytes a b r s first.0 other.0).1) p

moved : (a b c d : Runs) (more other : List ℕ) (P : Runs → Runs → List ℕ → Type 0) → AreSame a b c d more other → P b d other → P a c more
moved a b c d more other P same p =
    subst (λ (x : Runs). P x c more) (sym same.runs_same) (subst (λ (x : Runs). P b x more) (sym same.asked_same) (subst (P b d) (sym same.more_same) p))

-- a fault in ranges, where both lists are as they should be
no_fault_before : (start : ℤ) (bytes : List ℕ) (runs asked : Runs) (rest more : List ℕ) (e : RangesError) → HasRanges start 0 bytes runs rest → HasRanges (pos 0) 4 rest asked more → BodyFault start bytes (InRanges e) → ⊥
no_fault_before start bytes runs asked rest more e first second (inl fault) = no_ranges_fault start 0 bytes runs rest e first fault
no_fault_before start bytes runs asked rest more e first second (inr fault) =
    no_ranges_fault (pos 0) 4 rest asked more e second (same_rest start bytes runs fault.0 rest fault.1 (λ x. RangesFault (pos 0) 4 x e) first fault.2 fault.3)

pub one_body_fault : (start : ℤ) (bytes : List ℕ) (e f : BodyError) → BodyFault start bytes e → BodyFault start bytes f → e ≡ f
one_body_fault start bytes (InRanges e) (InRanges f) (inl a) (inl b) = ap InRanges (one_ranges_fault start 0 bytes e f a b)
one_body_fault start bytes (InRanges e) (InRanges f) (inl a) (inr b) = absurd (no_ranges_fault start 0 bytes b.0 b.1 e b.2 a)
one_body_fault start bytes (InRanges e) (InRanges f) (inr a) (inl b) = absurd (no_ranges_fault start 0 bytes a.0 a.1 f a.2 b)
one_body_fault start bytes (InRanges e) (InRanges f) (inr a) (inr b) =
    ap InRanges (one_ranges_fault (pos 0) 4 a.1 e f a.3 (same_rest start bytes a.0 b.0 a.1 b.1 (λ x. RangesFault (pos 0) 4 x f) a.2 b.2 b.3))
one_body_fault start bytes (InRanges e) (InEntries f) a b = absurd (no_fault_before start bytes b.0 b.2 b.1 b.3 e b.4 b.5 a)
one_body_fault start bytes (InEntries e) (InRanges f) a b = absurd (no_fault_before start bytes a.0 a.2 a.1 a.3 f a.4 a.5 b)
one_body_fault start bytes (InEntries e) (InEntries f) a b =
    let same : AreSame a.0 b.0 a.2 b.2 a.3 b.3 = both_once start bytes a.0 b.0 a.2 b.2 a.1 b.1 a.3 b.3 a.4 a.5 b.4 b.5 in
    ap InEntries (one_items_fault a.0 a.2 a.3 e f a.6 (moved a.0 b.0 a.2 b.2 a.3 b.3 (λ x y z. ItemsFault x y z f) same b.6))

pub no_body_fault : (start : ℤ) (bytes : List ℕ) (runs asked : Runs) (more : List ℕ) (xs : List Entry) (e : BodyError) → HasBody start bytes runs asked more xs → BodyFault start bytes e → ⊥
no_body_fault start bytes runs asked more xs (InRanges e) has fault = no_fault_before start bytes runs asked has.rest more e has.ranges has.asked_ranges fault
no_body_fault start bytes runs asked more xs (InEntries e) has fault =
    let same : AreSame runs fault.0 asked fault.2 more fault.3 = both_once start bytes runs fault.0 asked fault.2 has.rest fault.1 more fault.3 has.ranges has.asked_ranges fault.4 fault.5 in
    no_items_fault runs asked more xs e has.items (moved runs fault.0 asked fault.2 more fault.3 (λ x y z. ItemsFault x y z e) same fault.6)

pub body_once : (start : ℤ) (bytes : List ℕ) (runs asked others other_asked : Runs) (more other : List ℕ) (xs ys : List Entry) → HasBody start bytes runs asked more xs → HasBody start bytes others other_asked other ys → (runs ≡ others) × (asked ≡ other_asked) × (xs ≡ ys)
body_once start bytes runs asked others other_asked more other xs ys a b =
    let same : AreSame runs others asked other_asked more other = both_once start bytes runs others asked other_asked a.rest b.rest more other a.ranges a.asked_ranges b.ranges b.asked_ranges in
    (same.runs_same, same.asked_same, one_items runs asked more xs ys a.items (moved runs others asked other_asked more other (λ x y z. AreAllItems x y z ys) same b.items))
