-- From the parts of an image to the whole.
use Rattle.std.proofs.Common.{◌≡◌, ℕ, ◌≤◌, ℤ, pos, Bool, true, false, inr, Result, Ok, Err, List, ◌++◌, length, refl, sym, ap, subst, ◌∙◌, append-nil, arith}
use Rattle.std.specs.Prelude.{negsuc, ◌<ℤ◌, unsigned_abs, MatchBool, FitsSigned, IfErr, IsErrAnd}
use Rattle.std.specs.List.{flat_map}
use Rattle.std.specs.Int.{w32, w64, cast_signed, cast_unsigned, FitsUnsignedBits}
use Rattle.std.proofs.lemmas.Int.{ints, to_z-of_z}
use Rattle.std.proofs.lemmas.Bool.{MatchBool-at_true, MatchBool-at_false}
use Rattle.batch_codec.specs.Values.{BatchValue}
use Rattle.batch_codec.specs.Grammar.{batch_encoding}
use Rattle.cover_ranges.specs.Runs.{Runs}
use Rattle.content.specs.Content.{Content}
use Rattle.partition_log.specs.Below.{content_of}
use Rattle.copy_images.specs.declared.layout.TheConstants.{MAX_COUNT}
use Rattle.copy_images.specs.declared.error.ImageError.{ImageError}
use Rattle.copy_images.specs.declared.error.ImageError.TheVariants.{Short, BadMark, BadVersion, BadCrc, BadCover, BadBatch, Outside, Extra, OutOfMemory}
use Rattle.copy_images.specs.Images.{front_of, body_of, IsImage}
use Rattle.copy_images.specs.Refusals.{IsLogStart, HasStart, start_in, body_in, IsCoverFrom, HasFront, HasBatches, Refuses}
use Rattle.copy_images.specs.Judging.{HasKept, HoldsBatches, BatchesFault, AreJudged, IsBuilt}
use Rattle.copy_images.proofs.Contents.{kept_content}
use Rattle.copy_images.proofs.Parts.{IsBytes, IsFramed, frame_back}
use Rattle.copy_images.proofs.Kept.{same_batches}

has_batches : (bytes : List ℕ) (ranges : Runs) (count : ℤ) (all : List ℕ) (batches : List BatchValue) (rest : List ℕ) → HasStart bytes → HasFront (body_in bytes) ranges count all → IsCoverFrom (start_in bytes) ranges → HasKept ranges batches all rest
    → HasBatches bytes ranges count batches rest
has_batches bytes ranges count all batches rest start front cover has = record {
  start = start;
  front = subst (HasFront (body_in bytes) ranges count) has.encoded front;
  content = kept_content (start_in bytes) ranges batches start.1 cover has.list.disjoint has.keepable has.seen;
}

module _ (bytes : List ℕ) (ranges : Runs) (count : ℤ) (all : List ℕ) (start : HasStart bytes) (front : HasFront (body_in bytes) ranges count all) (cover : IsCoverFrom (start_in bytes) ranges) where
  with_batches : (batches : List BatchValue) (rest : List ℕ) → HasKept ranges batches all rest → HasBatches bytes ranges count batches rest
  with_batches batches rest has = has_batches bytes ranges count all batches rest start front cover has

  pub whole_fault : (error : ImageError) → BatchesFault ranges count all error → Refuses bytes error
  whole_fault (BadBatch i) (batches, rest, has, at, few, none) = inr (ranges, count, batches, rest, with_batches batches rest has, at, few, none)
  whole_fault Outside (batches, rest, b, has, few, next, unseen) = (ranges, count, batches, rest, b, with_batches batches rest has, few, next, unseen)
  whole_fault Extra (batches, rest, has, all_there, some) = (ranges, batches, rest, subst (λ (n : ℤ). HasBatches bytes ranges n batches rest) (sym all_there) (with_batches batches rest has), some)
  whole_fault Short none = absurd none
  whole_fault BadMark none = absurd none
  whole_fault BadVersion none = absurd none
  whole_fault BadCrc none = absurd none
  whole_fault BadCover none = absurd none
  whole_fault OutOfMemory none = absurd none

-- the count as code has it
pub count_is : (count : ℤ) (n : ℕ) → FitsSigned w32 count → FitsUnsignedBits 32 (cast_signed w32 (cast_unsigned w32 count)) → n ≡ unsigned_abs (cast_signed w32 (cast_unsigned w32 count)) → count ≡ pos n
count_is count n fits whole is =
    let same = to_z-of_z w32 count fits in
    by count (subst (FitsUnsignedBits 32) same whole) (is ∙ ap unsigned_abs same)
  where
    by : (z : ℤ) → FitsUnsignedBits 32 z → n ≡ unsigned_abs z → z ≡ pos n
    by (pos k) whole is = ap pos (sym is)
    by (negsuc k) whole is = absurd whole

-- ---- what is read is an image

small_count : (count : ℤ) (n : ℕ) → FitsSigned w32 count → pos n ≡ count → n ≤ MAX_COUNT
small_count count n fits is = let small : FitsSigned w32 (pos n) = subst (FitsSigned w32) (sym is) fits in omega (arith, small.sfits)

pub negative : (count : ℤ) → FitsSigned w32 count → (FitsUnsignedBits 32 (cast_signed w32 (cast_unsigned w32 count)) → ⊥) → count <ℤ pos 0
negative (pos k) fits none = absurd (none (subst (FitsUnsignedBits 32) (sym (to_z-of_z w32 (pos k) fits)) (omega (arith, fits.sfits))))
negative (negsuc k) fits none = omega (arith, ints)

-- whether the ranges are those of a copy with the start that the bytes say
module _ (bytes : List ℕ) (ranges : Runs) (start : ℤ) (may : Bool) (fits : FitsSigned w64 start) (same : start ≡ start_in bytes)
    (asked : MatchBool may (IsCoverFrom (cast_signed w64 (cast_unsigned w64 start)) ranges) (¬ IsCoverFrom (cast_signed w64 (cast_unsigned w64 start)) ranges)) where
  passed : cast_signed w64 (cast_unsigned w64 start) ≡ start_in bytes
  passed = to_z-of_z w64 start fits ∙ same

  pub a_cover : may ≡ true → IsCoverFrom (start_in bytes) ranges
  a_cover here = subst (λ (z : ℤ). IsCoverFrom z ranges) passed (MatchBool-at_true _ _ here asked)

  pub no_cover : may ≡ false → ¬ IsCoverFrom (start_in bytes) ranges
  no_cover here = subst (λ (z : ℤ). ¬ IsCoverFrom z ranges) passed (MatchBool-at_false _ _ here asked)

pub are_judged : (bytes : List ℕ) (ranges : Runs) (count : ℤ) (all : List ℕ) (start : ℤ) → start ≡ start_in bytes → IsLogStart (start_in bytes) → IsCoverFrom (start_in bytes) ranges → HoldsBatches ranges count all → AreJudged start ranges count all
are_judged bytes ranges count all start same has cover batches =
    subst (λ (z : ℤ). AreJudged z ranges count all) (sym same) (record { start = has; cover = cover; batches = batches })

-- a content of which the bytes are an image, where it is built of the bytes between the head and the crc
module _ (bytes : List ℕ) (ranges : Runs) (count : ℤ) (all : List ℕ) (fits : IsBytes bytes) (start : HasStart bytes) (front : HasFront (body_in bytes) ranges count all) where
  built_is_image : (c : Content) → HoldsBatches ranges count all → IsBuilt (start_in bytes) ranges all c → IsImage bytes c
  built_is_image c holds built =
      let has = holds.1 in
      let same : holds.0 ≡ c.kept = same_batches holds.0 c.kept has.list.writable built.encoded.list.writable (sym (append-nil (flat_map batch_encoding holds.0)) ∙ sym has.encoded ∙ built.encoded.encoded) in
      let number : count ≡ pos (length c.kept) = sym (ap (λ (x : List BatchValue). pos (length x)) (sym same) ∙ holds.2) in
      let body : body_in bytes ≡ body_of c = front.encoded ∙ (λ i. front_of (sym built.cover i) (number i) ++ built.encoded.encoded i) in
      record {
        content = built.content;
        ranges = subst (λ (x : Runs). length x ≤ MAX_COUNT) (sym built.cover) front.counted;
        batches = small_count count (length c.kept) front.count_fits (sym number);
        encoded = subst (λ (x : List ℕ). IsFramed c.start x bytes) body (subst (λ (z : ℤ). IsFramed z (body_in bytes) bytes) (sym built.start) (frame_back bytes fits start.0));
      }

  pub read_is_image : (c : Content) (from : ℤ) → from ≡ start_in bytes → AreJudged from ranges count all → IsBuilt from ranges all c → IsImage bytes c
  read_is_image c from same judged built = built_is_image c judged.batches (subst (λ (z : ℤ). IsBuilt z ranges all c) same built)

  -- so there is an image where there is no memory
  pub is_an_image : (from : ℤ) → from ≡ start_in bytes → AreJudged from ranges count all → Refuses bytes OutOfMemory
  is_an_image from same judged =
      let batches : List BatchValue = judged.batches.0 in
      let has = judged.batches.1 in
      let c : Content = content_of from ranges batches in
      let built : IsBuilt from ranges all c = record {
        content = kept_content from ranges batches judged.start judged.cover has.list.disjoint has.keepable has.seen;
        start = refl;
        cover = refl;
        encoded = record { encoded = has.encoded ∙ append-nil (flat_map batch_encoding batches); list = has.list };
      } in
      (c, read_is_image c from same judged built)

pub err_is : {V E : Type 0} (r : Result V E) (P : E → Type 0) (e : E) → IsErrAnd r (λ x. x ≡ e) → P e → IfErr r P
err_is (Ok v) P e is p = tt
err_is (Err x) P e is p = subst P (sym is) p
