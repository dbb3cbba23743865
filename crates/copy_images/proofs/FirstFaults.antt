-- Bytes have one first fault, and an image has none.
use Rattle.std.proofs.Common.{◌≡◌, ℕ, zero, suc, ◌+◌, ◌*◌, ◌≤◌, ◌<◌, ◌^◌, ℤ, pos, negsuc, ◌+ℤ◌, ◌⊎◌, inl, inr, List, [], ◌∷◌, ◌++◌, length, refl, sym, ap, subst, ◌∙◌, append-nil, arith}
use Rattle.std.specs.Prelude.{FitsSigned, ◌≢◌, ◌≤ℤ◌, ◌<ℤ◌, unsigned_abs}
use Rattle.std.specs.List.{AllByRecursion, flat_map}
use Rattle.std.specs.Int.{w32, w64}
use Rattle.std.proofs.lemmas.Int.{ints}
use Rattle.std.proofs.lemmas.Bool.{cases_lt}
use Rattle.batch_codec.specs.Grammar.{Writable, batch_encoding}
use Rattle.batch_codec.specs.Fields.{unsigned_at}
use Rattle.cover_ranges.specs.Runs.{Runs}
use Rattle.cover_ranges.proofs.RunsFrom.{RunsFrom, canonical_from}
use Rattle.content.specs.Records.{IsKeepable}
use Rattle.content.specs.Content.{Content, IsContent}
use Rattle.partition_log.specs.Below.{content_of}
use Rattle.copy_images.specs.declared.layout.TheConstants.{MARK, VERSION, FIRST_VERSION, RANGE_SIZE, COUNT_SIZE, COUNTS_SIZE, LEAST_SIZE}
use Rattle.copy_images.specs.declared.error.ImageError.{ImageError}
use Rattle.copy_images.specs.declared.error.ImageError.TheVariants.{Short, BadMark, BadVersion, BadCrc, BadCover, BadBatch, Outside, Extra, OutOfMemory}
use Rattle.copy_images.specs.Images.{body_of, IsImage}
use Rattle.copy_images.specs.Refusals.{HasSize, HasVersion, version_in, HasCrc, IsOwnCrc, IsLogStart, HasStart, start_in, body_in, range_count, IsCut, HasFront, IsCoverFrom, FitsInt64, Refuses}
use Rattle.copy_images.proofs.PartsAgain.{IsReadAs, front_again, IsFrameOf, frame_again}
use Rattle.copy_images.proofs.Kept.{Batches, same_batches}
use Rattle.copy_images.proofs.Contents.{content_cover}
use Rattle.copy_images.proofs.Unique.{IsSameFront, one_front, StopsFor, one_stop, at_most}

-- ---- the checks of the whole, by their number

abbrev Passes : List ℕ → ℕ → Type 0
Passes bytes zero = LEAST_SIZE ≤ length bytes
Passes bytes (suc zero) = unsigned_at w32 0 bytes ≡ MARK
Passes bytes (suc (suc zero)) = (version_in bytes ≡ VERSION) ⊎ (version_in bytes ≡ FIRST_VERSION)
Passes bytes (suc (suc (suc zero))) = IsOwnCrc bytes
Passes bytes (suc (suc (suc (suc zero)))) = IsLogStart (start_in bytes)
Passes bytes (suc (suc (suc (suc (suc zero))))) = COUNT_SIZE ≤ length (body_in bytes)
Passes bytes (suc (suc (suc (suc (suc (suc zero)))))) = pos 0 ≤ℤ range_count (body_in bytes)
Passes bytes (suc (suc (suc (suc (suc (suc (suc zero))))))) = COUNTS_SIZE + RANGE_SIZE * unsigned_abs (range_count (body_in bytes)) ≤ length (body_in bytes)
Passes bytes _ = ⊥

-- so many checks pass, and the next does not; what no number is of is left to the parts
record StopsAt (bytes : List ℕ) (i : ℕ) : Type 0 where
  before : (k : ℕ) → k < i → Passes bytes k
  here : Passes bytes i → ⊥

one_place : (bytes : List ℕ) (i j : ℕ) → StopsAt bytes i → StopsAt bytes j → i ≡ j
one_place bytes i j a b =
    elim (cases_lt i j) [
      | inl less ↦ absurd (a.here (b.before i less))
      | inr le ↦ (elim (cases_lt j i) [
        | inl less ↦ absurd (b.here (a.before j less))
        | inr ge ↦ omega (arith, le, ge)
      ])
    ]

more_pass : (P : ℕ → Type 0) (i : ℕ) → ((k : ℕ) → k < i → P k) → P i → (k : ℕ) → k < suc i → P k
more_pass P i before here k lt =
    elim (cases_lt k i) [
      | inl less ↦ before k less
      | inr le ↦ subst P (omega (arith, lt, le)) here
    ]

none_pass : (P : ℕ → Type 0) → (k : ℕ) → k < 0 → P k
none_pass P k lt = absurd (omega (arith, lt))

-- ---- what is wrong with the parts

abbrev Wrong : ℤ → Runs → ℤ → List ℕ → ImageError → Type 0
Wrong start ranges count rest error =
    ((¬ IsCoverFrom start ranges) × (error ≡ BadCover))
    ⊎ (((IsCoverFrom start ranges × (count <ℤ pos 0)) × (error ≡ BadBatch 0)) ⊎ StopsFor start ranges count rest error)

one_wrong : (start : ℤ) (ranges : Runs) (count : ℤ) (rest : List ℕ) (e f : ImageError) → Wrong start ranges count rest e → Wrong start ranges count rest f → e ≡ f
one_wrong start ranges count rest e f (inl a) (inl b) = a.1 ∙ sym b.1
one_wrong start ranges count rest e f (inl a) (inr (inl b)) = absurd (a.0 b.0.0)
one_wrong start ranges count rest e f (inl a) (inr (inr b)) = absurd (a.0 (content_cover start ranges b.batches b.content))
one_wrong start ranges count rest e f (inr (inl a)) (inl b) = absurd (b.0 a.0.0)
one_wrong start ranges count rest e f (inr (inl a)) (inr (inl b)) = a.1 ∙ sym b.1
one_wrong start ranges count rest e f (inr (inl a)) (inr (inr b)) =
    let less = a.0.1 in
    let most : pos (length b.batches) ≤ℤ count = at_most ranges count b.batches b.rest f b.ends in
    absurd (omega (arith, ints, less, most))
one_wrong start ranges count rest e f (inr (inr a)) (inl b) = absurd (b.0 (content_cover start ranges a.batches a.content))
one_wrong start ranges count rest e f (inr (inr a)) (inr (inl b)) =
    let less = b.0.1 in
    let most : pos (length a.batches) ≤ℤ count = at_most ranges count a.batches a.rest e a.ends in
    absurd (omega (arith, ints, less, most))
one_wrong start ranges count rest e f (inr (inr a)) (inr (inr b)) = one_stop start ranges count rest e f a b

record IsWrong (bytes : List ℕ) (error : ImageError) : Type 0 where
  ranges : Runs
  count : ℤ
  rest : List ℕ
  start : HasStart bytes
  front : HasFront (body_in bytes) ranges count rest
  wrong : Wrong (start_in bytes) ranges count rest error

one_wrong_part : (bytes : List ℕ) (e f : ImageError) → IsWrong bytes e → IsWrong bytes f → e ≡ f
one_wrong_part bytes e f a b =
    let start = start_in bytes in
    let same : IsSameFront b.ranges a.ranges b.count a.count b.rest a.rest = one_front (body_in bytes) b.ranges a.ranges b.count a.count b.rest a.rest b.front a.front in
    let one : Wrong start a.ranges b.count b.rest f = subst (λ (x : Runs). Wrong start x b.count b.rest f) same.ranges_same b.wrong in
    let two : Wrong start a.ranges a.count b.rest f = subst (λ (x : ℤ). Wrong start a.ranges x b.rest f) same.count_same one in
    let three : Wrong start a.ranges a.count a.rest f = subst (λ (x : List ℕ). Wrong start a.ranges a.count x f) same.rest_same two in
    one_wrong start a.ranges a.count a.rest e f a.wrong three

-- ---- which refusal the checks give

abbrev Gives : List ℕ → ℕ → ImageError → Type 0
Gives bytes zero error = error ≡ Short
Gives bytes (suc zero) error = error ≡ BadMark
Gives bytes (suc (suc zero)) error = error ≡ BadVersion
Gives bytes (suc (suc (suc zero))) error = error ≡ BadCrc
Gives bytes (suc (suc (suc (suc zero)))) error = error ≡ BadCover
Gives bytes (suc (suc (suc (suc (suc zero))))) error = error ≡ Short
Gives bytes (suc (suc (suc (suc (suc (suc zero)))))) error = error ≡ BadCover
Gives bytes (suc (suc (suc (suc (suc (suc (suc zero))))))) error = error ≡ Short
Gives bytes _ error = IsWrong bytes error

record IsGiven (bytes : List ℕ) (error : ImageError) : Type 0 where
  place : ℕ
  stops : StopsAt bytes place
  gives : Gives bytes place error

gives_one : (bytes : List ℕ) (i : ℕ) (e f : ImageError) → Gives bytes i e → Gives bytes i f → e ≡ f
gives_one bytes zero e f a b = a ∙ sym b
gives_one bytes (suc zero) e f a b = a ∙ sym b
gives_one bytes (suc (suc zero)) e f a b = a ∙ sym b
gives_one bytes (suc (suc (suc zero))) e f a b = a ∙ sym b
gives_one bytes (suc (suc (suc (suc zero)))) e f a b = a ∙ sym b
gives_one bytes (suc (suc (suc (suc (suc zero))))) e f a b = a ∙ sym b
gives_one bytes (suc (suc (suc (suc (suc (suc zero)))))) e f a b = a ∙ sym b
gives_one bytes (suc (suc (suc (suc (suc (suc (suc zero))))))) e f a b = a ∙ sym b
gives_one bytes (suc (suc (suc (suc (suc (suc (suc (suc i)))))))) e f a b = one_wrong_part bytes e f a b

one_given : (bytes : List ℕ) (e f : ImageError) → IsGiven bytes e → IsGiven bytes f → e ≡ f
one_given bytes e f a b = gives_one bytes b.place e f (subst (λ (i : ℕ). Gives bytes i e) (one_place bytes a.place b.place a.stops b.stops) a.gives) b.gives

-- ---- each refusal is given

marked : (bytes : List ℕ) → HasSize bytes → (k : ℕ) → k < 1 → Passes bytes k
marked bytes size = more_pass (Passes bytes) 0 (none_pass (Passes bytes)) size

versioned : (bytes : List ℕ) → HasSize bytes → unsigned_at w32 0 bytes ≡ MARK → (k : ℕ) → k < 2 → Passes bytes k
versioned bytes size mark = more_pass (Passes bytes) 1 (marked bytes size) mark

checked : (bytes : List ℕ) → HasVersion bytes → (k : ℕ) → k < 3 → Passes bytes k
checked bytes has = more_pass (Passes bytes) 2 (versioned bytes has.0.0 has.0.1) has.1

framed : (bytes : List ℕ) → HasCrc bytes → (k : ℕ) → k < 4 → Passes bytes k
framed bytes has = more_pass (Passes bytes) 3 (checked bytes has.0) has.1

started : (bytes : List ℕ) → HasStart bytes → (k : ℕ) → k < 5 → Passes bytes k
started bytes has = more_pass (Passes bytes) 4 (framed bytes has.0) has.1

placed : (bytes : List ℕ) → HasStart bytes → COUNT_SIZE ≤ length (body_in bytes) → (k : ℕ) → k < 6 → Passes bytes k
placed bytes has place = more_pass (Passes bytes) 5 (started bytes has) place

parts_stop : (bytes : List ℕ) (ranges : Runs) (count : ℤ) (rest : List ℕ) → HasStart bytes → HasFront (body_in bytes) ranges count rest → StopsAt bytes 8
parts_stop bytes ranges count rest has front =
    let a : IsReadAs (body_in bytes) ranges count rest = front_again (body_in bytes) ranges count rest front in
    let positive : pos 0 ≤ℤ range_count (body_in bytes) = omega (arith, ints, a.counted) in
    let number : unsigned_abs (range_count (body_in bytes)) ≡ length ranges = ap unsigned_abs a.counted in
    let long : COUNTS_SIZE + RANGE_SIZE * unsigned_abs (range_count (body_in bytes)) ≤ length (body_in bytes) = omega (arith, number, a.size) in
    let place : COUNT_SIZE ≤ length (body_in bytes) = omega (arith, a.size) in
    record { before = more_pass (Passes bytes) 7 (more_pass (Passes bytes) 6 (placed bytes has place) positive) long; here = λ h. h }

of_parts : (bytes : List ℕ) (error : ImageError) → IsWrong bytes error → IsGiven bytes error
of_parts bytes error wrong = record { place = 8; stops = parts_stop bytes wrong.ranges wrong.count wrong.rest wrong.start wrong.front; gives = wrong }

-- ---- the front of an image

fits_offset : (z : ℤ) → pos 0 ≤ℤ z → z <ℤ pos (2 ^ 62) → FitsSigned w64 z
fits_offset (pos n) p q = record { sfits = omega (arith, ints) }
fits_offset (negsuc n) p q = absurd (omega (arith, ints))

pub fits_runs : (low : ℤ) (runs : Runs) → pos 0 ≤ℤ low → RunsFrom low runs → AllByRecursion FitsInt64 runs
fits_runs low [] z h = tt
fits_runs low (run ∷ runs) z h =
    let a : low ≤ℤ run.0 = h.0 in
    let b : run.0 ≤ℤ run.1 = h.1 in
    let c = h.2 in (
      (fits_offset run.0 (omega (arith, ints)) (omega (arith, ints, c)), fits_offset run.1 (omega (arith, ints)) (omega (arith, ints, c))),
      fits_runs (run.1 +ℤ pos 2) runs (omega (arith, ints)) h.3,
    )

-- the start, and the front between head and crc
pub record IsFrontOf (bytes : List ℕ) (c : Content) : Type 0 where
  pub start : HasStart bytes
  pub start_is : start_in bytes ≡ c.start
  pub front : HasFront (body_in bytes) c.cover (pos (length c.kept)) (flat_map batch_encoding c.kept)

fits_start : (z : ℤ) → pos 0 ≤ℤ z → z ≤ℤ pos (2 ^ 62) → FitsSigned w64 z
fits_start (pos n) p q = record { sfits = omega (arith, ints) }
fits_start (negsuc n) p q = absurd (omega (arith, ints))

pub image_front : (bytes : List ℕ) (c : Content) → IsImage bytes c → IsFrontOf bytes c
image_front bytes c is =
    let few = is.batches in
    let body = body_of c in
    let front : HasFront body c.cover (pos (length c.kept)) (flat_map batch_encoding c.kept) = record {
      ranges_fit = fits_runs (pos 0) c.cover (omega (arith, ints)) (canonical_from c.cover is.content.canonical);
      counted = is.ranges;
      count_fits = record { sfits = omega (arith, few) };
      encoded = refl;
    } in
    let read : IsReadAs body c.cover (pos (length c.kept)) (flat_map batch_encoding c.kept) = front_again body c.cover (pos (length c.kept)) (flat_map batch_encoding c.kept) front in
    let frame : IsFrameOf bytes c.start body = frame_again bytes c.start body (fits_start c.start is.content.in_range.0 is.content.in_range.1) (omega (arith, read.size)) is.encoded in
    record {
      start = (frame.crc, subst IsLogStart (sym frame.start_is) (is.content.in_range.0, is.content.in_range.1));
      start_is = frame.start_is;
      front = subst (λ (x : List ℕ). HasFront x c.cover (pos (length c.kept)) (flat_map batch_encoding c.kept)) (sym frame.body_is) front;
    }

pub from_start : (bytes : List ℕ) (c : Content) → IsImage bytes c → IsContent (content_of (start_in bytes) c.cover c.kept)
from_start bytes c is = subst (λ (z : ℤ). IsContent (content_of z c.cover c.kept)) (sym (image_front bytes c is).start_is) is.content

-- ---- each refusal is given

cut_given : (bytes : List ℕ) → HasStart bytes → IsCut (body_in bytes) → (length (body_in bytes) < COUNT_SIZE) ⊎ (COUNT_SIZE ≤ length (body_in bytes)) → IsGiven bytes Short
cut_given bytes has cut (inl few) = record { place = 5; stops = record { before = started bytes has; here = λ h. omega (arith, few, h) }; gives = refl }
cut_given bytes has (inl few) (inr place) = absurd (omega (arith, few, place))
cut_given bytes has (inr (positive, less)) (inr place) = record {
  place = 7;
  stops = record { before = more_pass (Passes bytes) 6 (placed bytes has place) positive; here = λ h. omega (arith, less, h) };
  gives = refl;
}

neither : (bytes : List ℕ) → version_in bytes ≢ VERSION → version_in bytes ≢ FIRST_VERSION → (version_in bytes ≡ VERSION) ⊎ (version_in bytes ≡ FIRST_VERSION) → ⊥
neither bytes a b (inl is) = a is
neither bytes a b (inr is) = b is

refusal_given : (bytes : List ℕ) (error : ImageError) → Refuses bytes error → IsGiven bytes error
refusal_given bytes Short (inl less) = record { place = 0; stops = record { before = none_pass (Passes bytes); here = λ h. omega (arith, less, h) }; gives = refl }
refusal_given bytes Short (inr (has, cut)) = cut_given bytes has cut (cases_lt (length (body_in bytes)) COUNT_SIZE)
refusal_given bytes BadMark (size, other) = record { place = 1; stops = record { before = marked bytes size; here = other }; gives = refl }
refusal_given bytes BadVersion (has, other, first) = record { place = 2; stops = record { before = versioned bytes has.0 has.1; here = neither bytes other first }; gives = refl }
refusal_given bytes BadCrc (has, other) = record { place = 3; stops = record { before = checked bytes has; here = other }; gives = refl }
refusal_given bytes BadCover (inl (has, other)) = record { place = 4; stops = record { before = framed bytes has; here = other }; gives = refl }
refusal_given bytes BadCover (inr (inl (has, place, less))) = record { place = 6; stops = record { before = placed bytes has place; here = λ h. omega (arith, ints, less, h) }; gives = refl }
refusal_given bytes BadCover (inr (inr (ranges, count, rest, has, front, not))) =
    of_parts bytes BadCover (record { ranges = ranges; count = count; rest = rest; start = has; front = front; wrong = inl (not, refl) })
refusal_given bytes (BadBatch i) (inl (first, (ranges, count, rest, has, front, cover, less))) =
    of_parts bytes (BadBatch i) (record { ranges = ranges; count = count; rest = rest; start = has; front = front; wrong = inr (inl ((cover, less), ap BadBatch first)) })
refusal_given bytes (BadBatch i) (inr (ranges, count, batches, rest, has, at, few, none)) =
    of_parts bytes (BadBatch i) (record {
      ranges = ranges;
      count = count;
      rest = flat_map batch_encoding batches ++ rest;
      start = has.start;
      front = has.front;
      wrong = inr (inr (record { batches = batches; rest = rest; encoded = refl; content = has.content; ends = inl ((subst (λ (n : ℕ). pos n <ℤ count) (sym at) few, none), ap BadBatch (sym at)) }));
    })
refusal_given bytes Outside (ranges, count, batches, rest, b, has, few, next, unseen) =
    of_parts bytes Outside (record {
      ranges = ranges;
      count = count;
      rest = flat_map batch_encoding batches ++ rest;
      start = has.start;
      front = has.front;
      wrong = inr (inr (record { batches = batches; rest = rest; encoded = refl; content = has.content; ends = inr (inl ((b, few, next, unseen), refl)) }));
    })
refusal_given bytes Extra (ranges, batches, rest, has, some) =
    of_parts bytes Extra (record {
      ranges = ranges;
      count = pos (length batches);
      rest = flat_map batch_encoding batches ++ rest;
      start = has.start;
      front = has.front;
      wrong = inr (inr (record { batches = batches; rest = rest; encoded = refl; content = has.content; ends = inr (inr (inl ((refl, some), refl))) }));
    })
refusal_given bytes OutOfMemory (c, is) =
    of_parts bytes OutOfMemory (record {
      ranges = c.cover;
      count = pos (length c.kept);
      rest = flat_map batch_encoding c.kept;
      start = (image_front bytes c is).start;
      front = (image_front bytes c is).front;
      wrong = inr (inr (record { batches = c.kept; rest = []; encoded = sym (append-nil (flat_map batch_encoding c.kept)); content = from_start bytes c is; ends = inr (inr (inr ((refl, refl), refl))) }));
    })

-- ---- the laws

pub one_refusal : (bytes : List ℕ) (e f : ImageError) → Refuses bytes e → Refuses bytes f → e ≡ f
one_refusal bytes e f a b = one_given bytes e f (refusal_given bytes e a) (refusal_given bytes f b)

pub not_refused : (bytes : List ℕ) (c : Content) (e : ImageError) → IsImage bytes c → Refuses bytes e → e ≡ OutOfMemory
not_refused bytes c e is a = one_refusal bytes e OutOfMemory a (c, is)

kept_writable : (bs : Batches) → AllByRecursion IsKeepable bs → AllByRecursion Writable bs
kept_writable [] h = tt
kept_writable (b ∷ bs) h = (h.0.0, kept_writable bs h.1)

pub one_copy : (bytes : List ℕ) (c d : Content) → IsImage bytes c → IsImage bytes d → c ≡ d
one_copy bytes c d a b =
    let f : IsFrontOf bytes c = image_front bytes c a in
    let g : IsFrontOf bytes d = image_front bytes d b in
    let same = one_front (body_in bytes) c.cover d.cover (pos (length c.kept)) (pos (length d.kept)) (flat_map batch_encoding c.kept) (flat_map batch_encoding d.kept) f.front g.front in
    let start : c.start ≡ d.start = sym f.start_is ∙ g.start_is in
    let cover : c.cover ≡ d.cover = same.ranges_same in
    let kept : c.kept ≡ d.kept = same_batches c.kept d.kept (kept_writable c.kept a.content.keepable) (kept_writable d.kept b.content.keepable) same.rest_same in
    λ i. record { start = start i; cover = cover i; kept = kept i }
