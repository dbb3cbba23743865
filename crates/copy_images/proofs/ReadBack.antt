-- The reader of images gives the content of which the bytes are the image, and nothing of other bytes. The front is that of
-- the lemmas on parts; the batches are read one after the other.
use Rattle.std.proofs.Common.{◌≡◌, ℕ, zero, suc, ◌+◌, ◌-◌, ◌*◌, ◌≤◌, ℤ, pos, negsuc, ◌+ℤ◌, Bool, true, false, cond, ◌⊎◌, inl, inr, List, [], ◌∷◌, ◌++◌, length, take, drop, Option, Some, None, Result, Ok, Err, refl, sym, ap, subst, ◌∙◌, arith}
use Rattle.std.specs.Prelude.{◌≤ℤ◌, ◌<ℤ◌, ◌&&◌, ◌||◌, ◌==◌, is_some, int_le, int_lt, nat_le, unsigned_abs, FitsSigned}
use Rattle.std.specs.List.{AllByRecursion, list_all, flat_map}
use Rattle.std.specs.Option.{option_map}
use Rattle.std.specs.Ordering.{int_eq}
use Rattle.std.specs.Int.{w32}
use Rattle.std.specs.Simd.{first_chunks}
use Rattle.std.proofs.lemmas.Int.{ints}
use Rattle.std.proofs.lemmas.Bool.{eqb-true}
use Rattle.std.proofs.lemmas.List.{take_at, drop_at, take-append-drop, take-take, drop-take, drop-drop}
use Rattle.batch_codec.specs.declared.error.BatchError.{BatchError}
use Rattle.batch_codec.specs.Values.{BatchValue}
use Rattle.batch_codec.specs.Grammar.{Writable, batch_encoding}
use Rattle.checksum.specs.Crc.{crc_of}
use Rattle.batch_codec.specs.Fields.{unsigned_at, signed_at}
use Rattle.batch_codec.specs.Offsets.{first_offset, last_offset, HasKeys, SpansRise}
use Rattle.batch_codec.specs.Reading.{batch_of, IsEncoding}
use Rattle.batch_codec.specs.Checks.{Checked, size_at, check_batch}
use Rattle.batch_codec.proofs.Steps.{IsBytes-drop, IsBytes-take}
use Rattle.batch_codec.proofs.Fixed.{wide32}
use Rattle.batch_codec.proofs.Batches.{framed_front}
use Rattle.batch_codec.proofs.Accepted.{accepted}
use Rattle.batch_codec.proofs.Encoded.{size_again, batch_again, checks_again}
use Rattle.cover_ranges.specs.declared.TheConstants.{OFFSETS_END}
use Rattle.cover_ranges.specs.Runs.{Runs, IsCanonical, CoversAll, has_all}
use Rattle.cover_ranges.proofs.RunEnds.{has_all_covers, covers_has_all}
use Rattle.cover_ranges.proofs.RunsFrom.{RunsFrom}
use Rattle.content.specs.Records.{IsKeepable}
use Rattle.content.specs.Content.{Content, IsContent}
use Rattle.partition_log.specs.Below.{content_of}
use Rattle.copy_images.specs.declared.layout.TheConstants.{MARK, VERSION, FIRST_VERSION, RANGE_SIZE, COUNTS_SIZE, LEAST_SIZE, MAX_COUNT}
use Rattle.copy_images.specs.Images.{front_of, body_of, IsImage}
use Rattle.copy_images.specs.Refusals.{IsOwnCrc, IsLogStart, HasStart, version_in, start_in, body_in, range_count, HasFront, IsCoverFrom}
use Rattle.copy_images.specs.Judging.{ranges_of}
use Rattle.copy_images.specs.Reading.{has_front, has_frame, are_runs, ranges_in, batch_count, batch_bytes, is_passed, may_follow, with_batch, sized_batches, batches_at, content_in, content_in_body, image_at}
use Rattle.copy_images.proofs.Parts.{IsBytes, IsFramed, body_back, frame_back, body_bytes, signed_fits}
use Rattle.copy_images.proofs.PartsAgain.{IsReadAs, front_again}
use Rattle.copy_images.proofs.Unique.{IsInside, all_inside}
use Rattle.copy_images.proofs.FirstFaults.{IsFrontOf, image_front}
use Rattle.copy_images.proofs.Contents.{cover_from, from_cover, content_cover, kept_content, rise_from_0}

abbrev Batches : Type 0
Batches = List BatchValue

-- ---- tests

pub both : (a b : Bool) → (a && b) ≡ true → (a ≡ true) × (b ≡ true)
both true b e = (refl, e)
both false b e = absurd (grind (arith, e))

pub true_both : (a b : Bool) → a ≡ true → b ≡ true → (a && b) ≡ true
true_both a b e f = grind (arith, e, f)

pub all_pass : {X : Type 0} (p : X → Bool) (xs : List X) → list_all p xs ≡ true → AllByRecursion (λ x. p x ≡ true) xs
all_pass p [] e = tt
all_pass p (x ∷ xs) e = let h = both (p x) (list_all p xs) e in (h.0, all_pass p xs h.1)

pub pass_all : {X : Type 0} (p : X → Bool) (xs : List X) → AllByRecursion (λ x. p x ≡ true) xs → list_all p xs ≡ true
pass_all p [] all = refl
pass_all p (x ∷ xs) all = true_both (p x) (list_all p xs) all.0 (pass_all p xs all.1)

pub at_most : (m n : ℕ) → nat_le m n ≡ true → m ≤ n
at_most m n e = grind (arith, e)

pub is_at_most : (m n : ℕ) → m ≤ n → nat_le m n ≡ true
is_at_most m n le = grind (arith, le)

pub below : (a b : ℤ) → int_le a b ≡ true → a ≤ℤ b
below a b e = grind (arith, ints, e)

pub is_below : (a b : ℤ) → a ≤ℤ b → int_le a b ≡ true
is_below a b le = grind (arith, ints, le)

pub lower : (a b : ℤ) → int_lt a b ≡ true → a <ℤ b
lower a b e = grind (arith, ints, e)

pub is_lower : (a b : ℤ) → a <ℤ b → int_lt a b ≡ true
is_lower a b lt = grind (arith, ints, lt)

pub same_int : (a b : ℤ) → int_eq a b ≡ true → a ≡ b
same_int a b e = grind (arith, ints, e)

pub is_same_int : (a b : ℤ) → a ≡ b → int_eq a b ≡ true
is_same_int a b e = grind (arith, ints, e)

pub is_same : (m n : ℕ) → m ≡ n → (m == n) ≡ true
is_same m n e = grind (arith, e)

pub runs_say : (low : ℤ) (runs : Runs) → are_runs low runs ≡ true → RunsFrom low runs
runs_say low [] e = tt
runs_say low (run ∷ runs) e =
    let a = both (int_le low run.0) _ e in
    let b = both (int_le run.0 run.1) _ a.1 in
    let c = both (int_lt run.1 OFFSETS_END) (are_runs (run.1 +ℤ pos 2) runs) b.1 in
    (below low run.0 a.0, below run.0 run.1 b.0, lower run.1 OFFSETS_END c.0, runs_say (run.1 +ℤ pos 2) runs c.1)

pub runs_said : (low : ℤ) (runs : Runs) → RunsFrom low runs → are_runs low runs ≡ true
runs_said low [] h = refl
runs_said low (run ∷ runs) h =
    true_both (int_le low run.0) _ (is_below low run.0 h.0)
    (true_both (int_le run.0 run.1) _ (is_below run.0 run.1 h.1)
    (true_both (int_lt run.1 OFFSETS_END) (are_runs (run.1 +ℤ pos 2) runs) (is_lower run.1 OFFSETS_END h.2) (runs_said (run.1 +ℤ pos 2) runs h.3)))

-- ---- batches that were read

record AreRead (ranges : Runs) (from : ℤ) (n : ℕ) (bytes : List ℕ) (bs : Batches) : Type 0 where
  encoded : bytes ≡ flat_map batch_encoding bs
  counted : length bs ≡ n
  rise : SpansRise from bs
  keepable : AllByRecursion IsKeepable bs
  seen : AllByRecursion (λ b. CoversAll ranges (first_offset b) (last_offset b)) bs

pub passed : (c : Checked) → is_passed c ≡ true → c ≡ Ok tt
passed (Ok u) e = refl
passed (Err x) e = absurd cc

record IsWith (b : BatchValue) (test : Bool) (more : Option Batches) (bs : Batches) : Type 0 where
  passes : test ≡ true
  others : Batches
  there : more ≡ Some others
  is : b ∷ others ≡ bs

with_one : (b : BatchValue) (test : Bool) (more : Option Batches) (bs : Batches) → with_batch b test more ≡ Some bs → IsWith b test more bs
with_one b true (Some others) bs e = record { passes = refl; others = others; there = refl; is = cc }
with_one b true None bs e = absurd cc
with_one b false more bs e = absurd cc

module _ (ranges : Runs) where
  one_read : (n : ℕ) (from : ℤ) (bytes : List ℕ) (bs : Batches) (r : Result ℕ BatchError) → IsBytes bytes → size_at bytes ≡ r
      → ((low : ℤ) (rest : List ℕ) (others : Batches) → IsBytes rest → batches_at ranges n low rest ≡ Some others → AreRead ranges low n rest others)
      → sized_batches ranges from bytes r (batches_at ranges n) ≡ Some bs → AreRead ranges from (suc n) bytes bs
  one_read n from bytes bs (Err x) fits sized rest e = absurd cc
  one_read n from bytes bs (Ok size) fits sized rest e =
      let chunk = take size bytes in
      let b = batch_of chunk in
      let w = with_one b (is_passed (check_batch chunk) && may_follow ranges from b) (batches_at ranges n (last_offset b +ℤ pos 1) (drop size bytes)) bs e in
      let tests = both (is_passed (check_batch chunk)) (may_follow ranges from b) w.passes in
      let keys = both (list_all (λ r. is_some r.key) b.recs) _ tests.1 in
      let place = both (int_le from (first_offset b)) (has_all ranges (first_offset b) (last_offset b)) keys.1 in
      let framed = framed_front bytes size sized in
      let encodes : IsEncoding chunk = accepted chunk (IsBytes-take size bytes fits) framed.1 (passed (check_batch chunk) tests.0) in
      let later = rest (last_offset b +ℤ pos 1) (drop size bytes) w.others (IsBytes-drop size bytes fits) w.there in
      subst (AreRead ranges from (suc n) bytes) w.is (record {
        encoded = sym (take-append-drop size bytes) ∙ (λ i. encodes.1 i ++ later.encoded i);
        counted = ap suc later.counted;
        rise = (below from (first_offset b) place.0, later.rise);
        keepable = ((encodes.0, all_pass (λ r. is_some r.key) b.recs keys.0), later.keepable);
        seen = (has_all_covers ranges (first_offset b) (last_offset b) place.1, later.seen);
      })

  batches_read : (n : ℕ) (from : ℤ) (bytes : List ℕ) (bs : Batches) → IsBytes bytes → batches_at ranges n from bytes ≡ Some bs → AreRead ranges from n bytes bs
  unfolding batches_at
  batches_read zero from [] bs fits e =
      let none : [] ≡ bs = cc in
      subst (AreRead ranges from 0 []) none (record { encoded = refl; counted = refl; rise = tt; keepable = tt; seen = tt })
  batches_read zero from (x ∷ xs) bs fits e = absurd (grind (arith, e))
  batches_read (suc n) from bytes bs fits e = one_read n from bytes bs (size_at bytes) fits refl (batches_read n) e

  -- ---- batches are read again

  abbrev step : (from : ℤ) (n : ℕ) → Checked → BatchValue → List ℕ → Option Batches
  step from n checks b rest = with_batch b (is_passed checks && may_follow ranges from b) (batches_at ranges n (last_offset b +ℤ pos 1) rest)

  follows : (from : ℤ) (b : BatchValue) → IsCanonical ranges → from ≤ℤ first_offset b → HasKeys b → CoversAll ranges (first_offset b) (last_offset b) → may_follow ranges from b ≡ true
  follows from b canonical rises keys all =
      true_both (list_all (λ r. is_some r.key) b.recs) _ (pass_all (λ r. is_some r.key) b.recs keys)
      (true_both (int_le from (first_offset b)) (has_all ranges (first_offset b) (last_offset b)) (is_below from (first_offset b) rises)
      (covers_has_all ranges (first_offset b) (last_offset b) canonical all))

  batches_again : (from : ℤ) (bs : Batches) → IsCanonical ranges → SpansRise from bs → AllByRecursion (IsInside ranges) bs
      → batches_at ranges (length bs) from (flat_map batch_encoding bs) ≡ Some bs
  unfolding batches_at
  batches_again from [] canonical rise all = refl
  batches_again from (b ∷ bs) canonical rise all =
      let others = flat_map batch_encoding bs in
      let bytes = batch_encoding b ++ others in
      let size = length (batch_encoding b) in
      let w : Writable b = all.0.writable in
      let front : take size bytes ≡ batch_encoding b = take_at (batch_encoding b) others size refl in
      let back : drop size bytes ≡ others = drop_at (batch_encoding b) others size refl in
      let next : may_follow ranges from b ≡ true = follows from b canonical rise.0 all.0.keys all.0.all in
      ap (λ (r : Result ℕ BatchError). sized_batches ranges from bytes r (batches_at ranges (length bs))) (size_again b others w)
      ∙ (λ i. step from (length bs) (check_batch (front i)) (batch_of (front i)) (back i))
      ∙ (λ i. step from (length bs) (checks_again b w i) (batch_again b w i) others)
      ∙ (λ i. with_batch b (next i) (batches_again (last_offset b +ℤ pos 1) bs canonical rise.1 all.1 i))

-- ---- the whole

pub cond_some : {X : Type 0} (b : Bool) (o : Option X) (x : X) → cond b o None ≡ Some x → (b ≡ true) × (o ≡ Some x)
cond_some true o x e = (refl, e)
cond_some false o x e = absurd cc

pub map_some : {X Y : Type 0} (f : X → Y) (o : Option X) (y : Y) → option_map f o ≡ Some y → (x : X) × (o ≡ Some x) × (f x ≡ y)
map_some f (Some x) y e = (x, refl, cc)
map_some f None y e = absurd cc

pub either : (a b : Bool) → (a || b) ≡ true → (a ≡ true) ⊎ (b ≡ true)
either true b e = inl refl
either false b e = inr e

-- what the test of a front says of bytes that begin with this mark and are at least so many
abbrev pub HasStartOf : (mark least : ℕ) → List ℕ → Type 0
HasStartOf mark least bytes =
    ((((least ≤ length bytes) × (unsigned_at w32 0 bytes ≡ mark)) × ((version_in bytes ≡ VERSION) ⊎ (version_in bytes ≡ FIRST_VERSION))) × IsOwnCrc bytes) × IsLogStart (start_in bytes)

pub front_says : (mark least : ℕ) (bytes : List ℕ) → has_front mark least bytes ≡ true → HasStartOf mark least bytes
front_says mark least bytes e =
    let a = both (nat_le least (length bytes)) _ e in
    let b = both (unsigned_at w32 0 bytes == mark) _ a.1 in
    let c = both (int_eq (version_in bytes) VERSION || int_eq (version_in bytes) FIRST_VERSION) _ b.1 in
    let d = both (unsigned_at w32 (length bytes - 4) bytes == crc_of (take (length bytes - 4) bytes)) _ c.1 in
    let f = both (int_le (pos 0) (start_in bytes)) (int_le (start_in bytes) OFFSETS_END) d.1 in (
      (
        ((at_most least (length bytes) a.0, eqb-true (unsigned_at w32 0 bytes) mark b.0), known (either (int_eq (version_in bytes) VERSION) (int_eq (version_in bytes) FIRST_VERSION) c.0)),
        eqb-true _ _ d.0,
      ),
      (below (pos 0) (start_in bytes) f.0, below (start_in bytes) OFFSETS_END f.1),
    )
  where
    known : (int_eq (version_in bytes) VERSION ≡ true) ⊎ (int_eq (version_in bytes) FIRST_VERSION ≡ true) → (version_in bytes ≡ VERSION) ⊎ (version_in bytes ≡ FIRST_VERSION)
    known (inl e) = inl (same_int (version_in bytes) VERSION e)
    known (inr e) = inr (same_int (version_in bytes) FIRST_VERSION e)

pub front_said : (mark least : ℕ) (bytes : List ℕ) → HasStartOf mark least bytes → has_front mark least bytes ≡ true
front_said mark least bytes has =
    true_both (nat_le least (length bytes)) _ (is_at_most least (length bytes) has.0.0.0.0)
    (true_both (unsigned_at w32 0 bytes == mark) _ (is_same (unsigned_at w32 0 bytes) mark has.0.0.0.1)
    (true_both (int_eq (version_in bytes) VERSION || int_eq (version_in bytes) FIRST_VERSION) _ (known has.0.0.1)
    (true_both (unsigned_at w32 (length bytes - 4) bytes == crc_of (take (length bytes - 4) bytes)) _ (is_same _ _ has.0.1)
    (true_both (int_le (pos 0) (start_in bytes)) (int_le (start_in bytes) OFFSETS_END) (is_below (pos 0) (start_in bytes) has.1.0) (is_below (start_in bytes) OFFSETS_END has.1.1)))))
  where
    known : (version_in bytes ≡ VERSION) ⊎ (version_in bytes ≡ FIRST_VERSION) → (int_eq (version_in bytes) VERSION || int_eq (version_in bytes) FIRST_VERSION) ≡ true
    known (inl e) = grind (arith, ints, e)
    known (inr e) = grind (arith, ints, e)

pub count_small : (z : ℤ) (n : ℕ) → FitsSigned w32 z → z ≡ pos n → n ≤ MAX_COUNT
count_small z n fits is = let small : FitsSigned w32 (pos n) = subst (FitsSigned w32) is fits in omega (arith, small.sfits)

module _ (bytes : List ℕ) (c : Content) (fits : IsBytes bytes) (has : HasStart bytes) where
  abbrev body : List ℕ
  body = body_in bytes

  -- the content of so many ranges and batches in the body
  given_read : (n count : ℕ) → range_count body ≡ pos n → batch_count n body ≡ pos count → 8 + 16 * n ≤ length body → are_runs (start_in bytes) (ranges_in n body) ≡ true
      → (bs : Batches) → batches_at (ranges_in n body) count (pos 0) (batch_bytes n body) ≡ Some bs → IsImage bytes (content_of (start_in bytes) (ranges_in n body) bs)
  given_read n count ranged counted long runs bs made =
      let start = start_in bytes in
      let ranges = ranges_in n body in
      let here : IsBytes body = body_bytes bytes fits in
      let cover : IsCoverFrom start ranges = cover_from start ranges has.1.0 (runs_say start ranges runs) in
      let front : HasFront body ranges (pos count) (batch_bytes n body) = body_back body n (pos count) (first_chunks 16 n (take (16 * n) (drop 4 body))) (batch_bytes n body) here ranged
      (count_small (range_count body) n (signed_fits w32 wide32 0 body here) ranged) long refl (sym counted) refl in
      let read : AreRead ranges (pos 0) count (batch_bytes n body) bs = batches_read ranges count (pos 0) (batch_bytes n body) bs (IsBytes-drop _ body here) made in
      let number : pos count ≡ pos (length bs) = ap pos (sym read.counted) in
      let same : body ≡ body_of (content_of start ranges bs) = front.encoded ∙ (λ i. front_of ranges (number i) ++ read.encoded i) in
      record {
        content = kept_content start ranges bs has.1 cover read.rise read.keepable read.seen;
        ranges = front.counted;
        batches = count_small (pos count) (length bs) front.count_fits number;
        encoded = subst (λ (x : List ℕ). IsFramed start x bytes) same (frame_back bytes fits has.0);
      }

  counted_read : (n count : ℤ) → range_count body ≡ n → batch_count (unsigned_abs n) body ≡ count → content_in (start_in bytes) n count body ≡ Some c → IsImage bytes c
  counted_read (pos n) (pos count) ranged counted e =
      let start = start_in bytes in
      let ranges = ranges_in n body in
      let test = cond_some (nat_le (COUNTS_SIZE + RANGE_SIZE * n) (length body) && are_runs start ranges) (option_map (content_of start ranges) (batches_at ranges count (pos 0) (batch_bytes n body))) c e in
      let parts = both (nat_le (COUNTS_SIZE + RANGE_SIZE * n) (length body)) (are_runs start ranges) test.0 in
      let made = map_some (content_of start ranges) (batches_at ranges count (pos 0) (batch_bytes n body)) c test.1 in
      subst (IsImage bytes) made.2 (given_read n count ranged counted (at_most (COUNTS_SIZE + RANGE_SIZE * n) (length body) parts.0) parts.1 made.0 made.1)
  counted_read (pos n) (negsuc count) ranged counted e = absurd cc
  counted_read (negsuc n) count ranged counted e = absurd cc

pub image_read : (bytes : List ℕ) (c : Content) → IsBytes bytes → image_at bytes ≡ Some c → IsImage bytes c
unfolding image_at
image_read bytes c fits e =
    let body = body_in bytes in
    let test = cond_some (has_frame bytes) (content_in_body (start_in bytes) body) c e in
    counted_read bytes c fits (front_says MARK LEAST_SIZE bytes test.0) (range_count body) (batch_count (unsigned_abs (range_count body)) body) refl refl test.1

-- ---- an image is read again

-- chunks of the front alone
pub chunks_in_front : (n : ℕ) (xs : List ℕ) → first_chunks 16 n (take (16 * n) xs) ≡ first_chunks 16 n xs
chunks_in_front zero xs = refl
chunks_in_front (suc n) xs =
    let split : 16 * suc n ≡ 16 + 16 * n = omega arith in
    let first : take 16 (take (16 * suc n) xs) ≡ take 16 xs = take-take 16 (16 * suc n) xs (omega arith) in
    let rest : drop 16 (take (16 * suc n) xs) ≡ take (16 * n) (drop 16 xs) = ap (λ (m : ℕ). drop 16 (take m xs)) split ∙ drop-take 16 (16 * n) xs in
    λ i. first i ∷ (ap (first_chunks 16 n) rest ∙ chunks_in_front n (drop 16 xs)) i

module _ (body : List ℕ) (start : ℤ) (ranges : Runs) (bs : Batches) (read : IsReadAs body ranges (pos (length bs)) (flat_map batch_encoding bs)) (content : IsContent (content_of start ranges bs)) where
  abbrev n : ℕ
  n = length ranges

  behind : drop (16 * n) (drop 4 body) ≡ drop (4 + 16 * n) body
  behind = drop-drop (16 * n) 4 body

  ranges_same : ranges_in n body ≡ ranges
  ranges_same = ap ranges_of (chunks_in_front n (drop 4 body)) ∙ sym read.ranges_are

  count_same : batch_count n body ≡ pos (length bs)
  count_same = ap (signed_at w32 0) (sym behind) ∙ sym read.count_is

  rest_same : batch_bytes n body ≡ flat_map batch_encoding bs
  rest_same =
      let at : 8 + 16 * n ≡ 4 + 16 * n + 4 = omega arith in
      let from : drop 4 (drop (16 * n) (drop 4 body)) ≡ drop (4 + 16 * n + 4) body =
      ap (drop 4) behind ∙ drop-drop 4 (4 + 16 * n) body in
      ap (λ (k : ℕ). drop k body) at ∙ sym from ∙ sym read.rest_is

  abbrev given : Bool → Runs → ℕ → List ℕ → Option Content
  given long rs count rest = cond (long && are_runs start rs) (option_map (content_of start rs) (batches_at rs count (pos 0) rest)) None

  content_again : content_in start (pos n) (pos (length bs)) body ≡ Some (content_of start ranges bs)
  content_again =
      let long : nat_le (COUNTS_SIZE + RANGE_SIZE * n) (length body) ≡ true = is_at_most (COUNTS_SIZE + RANGE_SIZE * n) (length body) (omega (arith, read.size)) in
      let runs : are_runs start ranges ≡ true = runs_said start ranges (from_cover start ranges (content_cover start ranges bs content)) in
      (λ i. given (long i) (ranges_same i) (length bs) (rest_same i))
      ∙ (λ i. cond (runs i) (option_map (content_of start ranges) (batches_again ranges (pos 0) bs content.canonical (rise_from_0 start ranges bs content) (all_inside start ranges bs content) i)) None)

  pub body_again : content_in_body start body ≡ Some (content_of start ranges bs)
  body_again =
      let counted : range_count body ≡ pos n = read.counted in
      (λ i. content_in start (counted i) (batch_count (unsigned_abs (counted i)) body) body)
      ∙ (λ i. content_in start (pos n) (count_same i) body)
      ∙ content_again

pub image_is_read : (bytes : List ℕ) (c : Content) → IsImage bytes c → image_at bytes ≡ Some c
unfolding image_at
image_is_read bytes c is =
    let f : IsFrontOf bytes c = image_front bytes c is in
    let body = body_in bytes in
    let read = front_again body c.cover (pos (length c.kept)) (flat_map batch_encoding c.kept) f.front in
    (λ i. cond (front_said MARK LEAST_SIZE bytes f.start i) (content_in_body (f.start_is i) body) None)
    ∙ body_again body c.start c.cover c.kept read is.content
