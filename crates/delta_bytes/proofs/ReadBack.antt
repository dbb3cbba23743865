-- The delta that is read of bytes is the one of which they are an encoding; of other bytes nothing is read.
use Rattle.std.proofs.Common.{◌≡◌, ℕ, ◌+◌, ◌*◌, ◌≤◌, ℤ, pos, negsuc, Bool, true, cond, List, [], ◌++◌, length, take, drop, Option, Some, None, refl, sym, ap, subst, ◌∙◌, append-nil, arith}
use Rattle.std.specs.Prelude.{◌≤ℤ◌, ◌&&◌, nat_le}
use Rattle.std.specs.List.{flat_map}
use Rattle.std.specs.Option.{option_map, option_and_then}
use Rattle.std.specs.Int.{w32}
use Rattle.std.specs.Simd.{first_chunks}
use Rattle.std.proofs.lemmas.Int.{ints}
use Rattle.std.proofs.lemmas.List.{drop_at, drop-drop}
use Rattle.batch_codec.proofs.Steps.{IsBytes-drop}
use Rattle.batch_codec.proofs.Fixed.{wide32}
use Rattle.cover_ranges.specs.Runs.{Runs, IsCanonical}
use Rattle.copy_images.specs.Refusals.{start_in, body_in}
use Rattle.copy_images.specs.Judging.{ranges_of}
use Rattle.copy_images.specs.Reading.{are_runs, ranges_in}
use Rattle.copy_images.proofs.Parts.{IsBytes, body_bytes, signed_fits}
use Rattle.copy_images.proofs.Contents.{cover_from, from_cover}
use Rattle.copy_images.proofs.ReadBack.{both, at_most, is_at_most, runs_say, runs_said, front_says, front_said, cond_some, map_some, count_small, chunks_in_front}
use Rattle.deltas.specs.declared.TheConstants.{LEAST_BASE}
use Rattle.deltas.specs.Entries.{Entry}
use Rattle.deltas.specs.Deltas.{Delta}
use Rattle.delta_bytes.specs.declared.layout.TheConstants.{MARK, LEAST_SIZE}
use Rattle.delta_bytes.specs.EntryBytes.{entry_bytes}
use Rattle.delta_bytes.specs.RangeLists.{count_encoding, count_in, HasRanges}
use Rattle.delta_bytes.specs.Faults.{HasBody, AreAllItems}
use Rattle.delta_bytes.specs.Deltas.{entries_encoding, delta_with, IsDeltaOf}
use Rattle.delta_bytes.specs.Fronts.{HasStart}
use Rattle.delta_bytes.specs.Reading.{has_frame, counted_ranges, ranges_at, entries_at, counted_entries, delta_of_ranges, delta_in_body, delta_at}
use Rattle.delta_bytes.proofs.RangeParts.{ranges_cut}
use Rattle.delta_bytes.proofs.OneBody.{ranges_read, IsReadAs}
use Rattle.delta_bytes.proofs.CountedEntries.{count_front}
use Rattle.delta_bytes.proofs.WholeDelta.{is_delta_of}
use Rattle.delta_bytes.proofs.DeltaAgain.{delta_again, IsReadAs as IsDeltaReadAs}
use Rattle.delta_bytes.proofs.EntriesRead.{entries_read, AreRead, entries_are_read}

-- ---- the ranges

record AreRangesRead (low : ℤ) (behind : ℕ) (bytes : List ℕ) (q : Runs × List ℕ) : Type 0 where
  has : HasRanges low behind bytes q.0 q.1
  fits : IsBytes q.1

some_same : {X : Type 0} (x y : X) → Some x ≡ Some y → x ≡ y
some_same x y e = cc

counted_read : (low : ℤ) (behind : ℕ) (bytes : List ℕ) (count : ℤ) (q : Runs × List ℕ) → IsBytes bytes → pos 0 ≤ℤ low → count_in bytes ≡ count → counted_ranges low behind bytes count ≡ Some q → AreRangesRead low behind bytes q
counted_read low behind bytes (pos n) q fits from counted e =
    let ranges = ranges_in n bytes in
    let rest = drop (16 * n) (drop 4 bytes) in
    let test = cond_some (nat_le (4 + 16 * n + behind) (length bytes) && are_runs low ranges) (Some (ranges, rest)) q e in
    let parts = both (nat_le (4 + 16 * n + behind) (length bytes)) (are_runs low ranges) test.0 in
    subst (AreRangesRead low behind bytes) (some_same (ranges, rest) q test.1) (record {
      has = (
        ranges_cut bytes n behind (first_chunks 16 n (take (16 * n) (drop 4 bytes))) rest fits counted (count_small (count_in bytes) n (signed_fits w32 wide32 0 bytes fits) counted) (at_most (4 + 16 * n + behind) (length bytes) parts.0) refl (drop-drop (16 * n) 4 bytes),
        cover_from low ranges from (runs_say low ranges parts.1),
      );
      fits = IsBytes-drop (16 * n) (drop 4 bytes) (IsBytes-drop 4 bytes fits);
    })
counted_read low behind bytes (negsuc n) q fits from counted e = absurd cc

ranges_are_read : (low : ℤ) (behind : ℕ) (bytes : List ℕ) (ranges : Runs) (rest : List ℕ) → HasRanges low behind bytes ranges rest → ranges_at low behind bytes ≡ Some (ranges, rest)
ranges_are_read low behind bytes ranges rest has =
    let n = length ranges in
    let read : IsReadAs bytes ranges rest = ranges_read behind bytes ranges rest has.0 in
    let long : nat_le (4 + 16 * n + behind) (length bytes) ≡ true = is_at_most (4 + 16 * n + behind) (length bytes) (omega (arith, read.size, has.0.long)) in
    let same : ranges_in n bytes ≡ ranges = ap ranges_of (chunks_in_front n (drop 4 bytes)) ∙ sym read.ranges_are in
    let runs : are_runs low ranges ≡ true = runs_said low ranges (from_cover low ranges has.1) in
    ap (counted_ranges low behind bytes) read.counted
    ∙ (λ i. cond (long i && are_runs low (same i)) (Some (same i, sym read.rest_is i)) None)
    ∙ (λ i. cond (runs i) (Some (ranges, rest)) None)

-- ---- the body

four_there : (low : ℤ) (bytes : List ℕ) (ranges : Runs) (rest : List ℕ) → HasRanges low 4 bytes ranges rest → 4 ≤ length rest
four_there low bytes ranges rest has = has.0.long

items_read : (runs asked : Runs) (bytes : List ℕ) (count : ℤ) (xs : List Entry) → IsBytes bytes → 4 ≤ length bytes → count_in bytes ≡ count → counted_entries runs asked bytes count ≡ Some xs → AreAllItems runs asked bytes xs
items_read runs asked bytes (pos n) xs fits long counted e =
    let read : AreRead runs asked n LEAST_BASE (drop 4 bytes) xs = entries_read runs asked n LEAST_BASE (drop 4 bytes) xs (IsBytes-drop 4 bytes fits) e in (
      record {
        encoded = count_front bytes fits long ∙ ap (λ (z : List ℕ). count_encoding (count_in bytes) ++ z) (read.encoded ∙ sym (append-nil (flat_map entry_bytes xs)));
        valid = read.valid;
      },
      ap pos read.counted ∙ sym counted,
    )
items_read runs asked bytes (negsuc n) xs fits long counted e = absurd cc

items_are_read : (runs asked : Runs) (bytes : List ℕ) (xs : List Entry) → IsCanonical runs → IsCanonical asked → AreAllItems runs asked bytes xs → counted_entries runs asked bytes (count_in bytes) ≡ Some xs
items_are_read runs asked bytes xs canonical asked_canonical items =
    let behind : drop 4 bytes ≡ flat_map entry_bytes xs = ap (drop 4) items.0.encoded ∙ drop_at (count_encoding (count_in bytes)) (flat_map entry_bytes xs ++ []) 4 refl ∙ append-nil (flat_map entry_bytes xs) in
    ap (counted_entries runs asked bytes) (sym items.1)
    ∙ ap (entries_at runs asked (length xs) LEAST_BASE) behind
    ∙ entries_are_read runs asked LEAST_BASE xs canonical asked_canonical items.0.valid

and_then_some : {X Y : Type 0} (f : X → Option Y) (o : Option X) (y : Y) → option_and_then f o ≡ Some y → (x : X) × (o ≡ Some x) × (f x ≡ Some y)
and_then_some f (Some x) y e = (x, refl, e)
and_then_some f None y e = absurd cc

record IsBodyRead (start : ℤ) (body : List ℕ) (e : Delta) : Type 0 where
  runs : Runs
  asked : Runs
  more : List ℕ
  entries : List Entry
  has : HasBody start body runs asked more entries
  is : delta_with start runs asked entries ≡ e

body_read : (start : ℤ) (body : List ℕ) (e : Delta) → IsBytes body → pos 0 ≤ℤ start → delta_in_body start body ≡ Some e → IsBodyRead start body e
body_read start body e fits from is =
    let first = and_then_some (delta_of_ranges start) (ranges_at start 0 body) e is in
    let cover = first.0 in
    let sender : AreRangesRead start 0 body cover = counted_read start 0 body (count_in body) cover fits from refl first.1 in
    let second = and_then_some (λ (q : Runs × List ℕ). option_map (delta_with start cover.0 q.0) (counted_entries cover.0 q.0 q.1 (count_in q.1))) (ranges_at (pos 0) 4 cover.1) e first.2 in
    let asked = second.0 in
    let other : AreRangesRead (pos 0) 4 cover.1 asked = counted_read (pos 0) 4 cover.1 (count_in cover.1) asked sender.fits (omega (arith, ints)) refl second.1 in
    let third = map_some (delta_with start cover.0 asked.0) (counted_entries cover.0 asked.0 asked.1 (count_in asked.1)) e second.2 in
    record {
      runs = cover.0;
      asked = asked.0;
      more = asked.1;
      entries = third.0;
      has = record {
        rest = cover.1;
        ranges = sender.has;
        asked_ranges = other.has;
        items = items_read cover.0 asked.0 asked.1 (count_in asked.1) third.0 other.fits (four_there (pos 0) cover.1 asked.0 asked.1 other.has) refl third.1;
      };
      is = third.2;
    }

body_is_read : (start : ℤ) (body : List ℕ) (runs asked : Runs) (more : List ℕ) (xs : List Entry) → HasBody start body runs asked more xs → delta_in_body start body ≡ Some (delta_with start runs asked xs)
body_is_read start body runs asked more xs has =
    ap (option_and_then (delta_of_ranges start)) (ranges_are_read start 0 body runs has.rest has.ranges)
    ∙ ap (option_and_then (λ (q : Runs × List ℕ). option_map (delta_with start runs q.0) (counted_entries runs q.0 q.1 (count_in q.1)))) (ranges_are_read (pos 0) 4 has.rest asked more has.asked_ranges)
    ∙ ap (option_map (delta_with start runs asked)) (items_are_read runs asked more xs has.ranges.1.0 has.asked_ranges.1.0 has.items)

-- ---- the whole

pub delta_read : (bytes : List ℕ) (e : Delta) → IsBytes bytes → delta_at bytes ≡ Some e → IsDeltaOf bytes e
unfolding delta_at
delta_read bytes e fits is =
    let body = body_in bytes in
    let start = start_in bytes in
    let test = cond_some (has_frame bytes) (delta_in_body start body) e is in
    let has : HasStart bytes = front_says MARK LEAST_SIZE bytes test.0 in
    let read : IsBodyRead start body e = body_read start body e (body_bytes bytes fits) has.1.0 test.1 in
    subst (IsDeltaOf bytes) read.is (is_delta_of bytes body start read.runs read.asked read.more read.entries fits has refl refl read.has)

pub delta_is_read : (bytes : List ℕ) (e : Delta) → IsDeltaOf bytes e → delta_at bytes ≡ Some e
unfolding delta_at
delta_is_read bytes e is =
    let read : IsDeltaReadAs bytes e = delta_again bytes e is in
    let body = body_in bytes in
    ap (λ (t : Bool). cond t (delta_in_body (start_in bytes) body) None) (front_said MARK LEAST_SIZE bytes read.starts)
    ∙ body_is_read (start_in bytes) body e.cover e.asked (entries_encoding e.entries) e.entries read.body
    ∙ (λ i. Some (delta_with (read.start_is i) e.cover e.asked e.entries))
