-- How many bytes some batches have, piece by piece.
use Rattle.std.proofs.Common.{◌≡◌, ℕ, ◌+◌, ◌-◌, ◌<◌, ◌≤◌, arith, ℤ, Bool, true, false, Result, Ok, Err, List, [], ◌∷◌, ◌++◌, length, take, drop, Some, None, sym, ap, refl, ◌∙◌}
use Rattle.std.specs.Prelude.{max, nat_lt, IfOk, if◌then◌else◌}
use Rattle.std.specs.declared.ops.Range.{Range}
use Rattle.std.specs.List.{flat_map}
use Rattle.std.proofs.lemmas.Grind.{flat_map-append}
use Rattle.std.proofs.lemmas.List.{length-append, length-drop, length-take, take_all}
use Rattle.std.proofs.Math.Seq.{drop-drop, take-add}
use Rattle.batch_codec.specs.Values.{BatchValue}
use Rattle.batch_codec.specs.Grammar.{batch_encoding}
use Rattle.segment.specs.BatchLists.{first_from}
use Rattle.partition_log.specs.Lookups.{fetched}
use Rattle.log_requests.specs.Fetch.Entries.{between}
use Rattle.log_requests.proofs.FetchRuns.{bytes_of, bytes_more}
use Rattle.fetch_waits.specs.Waiting.Entries.{left_of}

-- ---- where a run starts and ends

pub run_starts : {E : Type 0} (r : Result (Range ℕ) E) (kept : List BatchValue) (passed offset : ℤ) → passed ≡ offset → IfOk r (λ run. run.start ≡ first_from passed kept) → IfOk r (λ run. run.start ≡ first_from offset kept)
run_starts (Ok run) kept passed offset same is = is ∙ ap (λ (o : ℤ). first_from o kept) same
run_starts (Err x) kept passed offset same is = tt

pub run_ends : {E : Type 0} (r : Result (Range ℕ) E) (kept : List BatchValue) (force : Bool) (passed limit : ℕ) → passed ≡ limit → IfOk r (λ run. run.end ≡ run.start + fetched force passed (drop run.start kept))
    → IfOk r (λ run. run.end ≡ run.start + fetched force limit (drop run.start kept))
run_ends (Ok run) kept force passed limit same is = is ∙ ap (λ (n : ℕ). run.start + fetched force n (drop run.start kept)) same
run_ends (Err x) kept force passed limit same is = tt

-- ---- how many bytes it has

abbrev pub size : List BatchValue → (start end : ℕ) → ℕ
size kept start end = length (flat_map batch_encoding (between start end kept))

size_add : (kept : List BatchValue) (a b c : ℕ) → a ≤ b → b ≤ c → size kept a c ≡ size kept a b + size kept b c
size_add kept a b c ab bc =
    let count : c - a ≡ (b - a) + (c - b) = omega (arith, ab, bc) in
    let behind : drop (b - a) (drop a kept) ≡ drop b kept = drop-drop (b - a) a kept ∙ ap (λ (n : ℕ). drop n kept) (omega (arith, ab)) in
    let parts : between a c kept ≡ between a b kept ++ between b c kept =
    ap (λ (n : ℕ). take n (drop a kept)) count ∙ take-add (b - a) (c - b) (drop a kept) ∙ ap (λ (x : List BatchValue). between a b kept ++ take (c - b) x) behind in
    ap (λ (x : List BatchValue). length (flat_map batch_encoding x)) parts
    ∙ ap length (flat_map-append batch_encoding (between a b kept) (between b c kept))
    ∙ length-append (flat_map batch_encoding (between a b kept)) (flat_map batch_encoding (between b c kept))

size_none : (kept : List BatchValue) (a b : ℕ) → b ≤ a → size kept a b ≡ 0
size_none kept a b le = let none : b - a ≡ 0 = omega (arith, le) in ap (λ (n : ℕ). length (flat_map batch_encoding (take n (drop a kept)))) none

pub run_none : (kept : List BatchValue) (start missing : ℕ) → missing ≡ missing - size kept start start
run_none kept start missing = omega (arith, size_none kept start start (omega arith))

pub run_more : (kept : List BatchValue) (a start next missing left left' : ℕ) (piece : List ℕ) → left ≡ missing - size kept a start → a ≤ start → start < next
    → piece ≡ flat_map batch_encoding (take (next - start) (drop start kept)) → left' ≡ left - length piece → left' ≡ missing - size kept a next
run_more kept a start next missing left left' piece so_far from goes_on is takes =
    omega (arith, so_far, takes, ap length is, size_add kept a start next from (omega (arith, goes_on)))

-- what was seen is no more than there is, and all of it where the end was reached
seen : (kept : List BatchValue) (a start end : ℕ) → a ≤ start → start ≤ max a end → size kept a start ≤ size kept a end
seen kept a start end from to = by (nat_lt a end) refl where
  by : (t : Bool) → nat_lt a end ≡ t → size kept a start ≤ size kept a end
  by true some = omega (arith, size_add kept a start end from (grind (arith, some, to)))
  by false none = let here : start ≤ a = grind (arith, none, to) in omega (arith, size_none kept a start here)

seen_all : (kept : List BatchValue) (a start end : ℕ) → a ≤ start → end ≤ start → start ≤ max a end → size kept a start ≡ size kept a end
seen_all kept a start end from reached to = by (nat_lt a end) refl where
  by : (t : Bool) → nat_lt a end ≡ t → size kept a start ≡ size kept a end
  by true some = let same : start ≡ end = grind (arith, some, to, reached) in ap (size kept a) same
  by false none = let here : start ≤ a = grind (arith, none, to) in size_none kept a start here ∙ sym (size_none kept a end (grind (arith, none)))

pub run_lacks : (kept : List BatchValue) (a start end missing left : ℕ) → left ≡ missing - size kept a start → a ≤ start → end ≤ start → start ≤ max a end → 0 < left
    → Some left ≡ left_of missing (size kept a end)
run_lacks kept a start end missing left so_far from reached to some =
    let all = seen_all kept a start end from reached to in
    let less : nat_lt (size kept a end) missing ≡ true = grind (arith, so_far, all, some) in
    let is : left ≡ missing - size kept a end = so_far ∙ ap (λ (n : ℕ). missing - n) all in
    (λ i. Some (is i)) ∙ ap (λ (b : Bool). if b then Some (missing - size kept a end) else None) (sym less)

pub run_suffices : (kept : List BatchValue) (a start end missing left : ℕ) → left ≡ missing - size kept a start → a ≤ start → start ≤ max a end → left ≡ 0
    → None ≡ left_of missing (size kept a end)
run_suffices kept a start end missing left so_far from to none =
    let full : nat_lt (size kept a end) missing ≡ false = grind (arith, so_far, seen kept a start end from to, none) in
    ap (λ (b : Bool). if b then Some (missing - size kept a end) else None) (sym full)

-- ---- how many bytes were counted

pub counted_none : (kept : List BatchValue) (a : ℕ) → 0 ≡ size kept a a
counted_none kept a = sym (size_none kept a a (omega arith))

pub counted_more : (kept : List BatchValue) (a start next bytes bytes' : ℕ) (piece : List ℕ) → bytes ≡ size kept a start → a ≤ start → start < next
    → piece ≡ flat_map batch_encoding (take (next - start) (drop start kept)) → bytes' ≡ bytes + length piece → bytes' ≡ size kept a next
counted_more kept a start next bytes bytes' piece so_far from goes_on is adds =
    omega (arith, so_far, adds, ap length is, size_add kept a start next from (omega (arith, goes_on)))

pub counted_all : (kept : List BatchValue) (a start end bytes : ℕ) → bytes ≡ size kept a start → a ≤ start → end ≤ start → start ≤ max a end → bytes ≡ size kept a end
counted_all kept a start end bytes so_far from reached to = so_far ∙ seen_all kept a start end from reached to

-- ---- a run and all that is there behind it

some_bytes : (b : BatchValue) → 0 < length (batch_encoding b)
unfolding batch_encoding
some_bytes b = omega arith

-- batches are some bytes
pub some_of : (bs : List BatchValue) → 0 < length bs → 0 < bytes_of bs
some_of [] some = absurd (omega (arith, some))
some_of (b ∷ bs) some = omega (arith, bytes_more b bs, some_bytes b)

-- a run up to the last batch is all
pub size_all : (kept : List BatchValue) (start : ℕ) → size kept start (length kept) ≡ bytes_of (drop start kept)
size_all kept start = ap bytes_of (take_all (length kept - start) (drop start kept) (omega (arith, length-drop start kept)))

-- one that ends before has fewer bytes
pub size_cut : (kept : List BatchValue) (start end : ℕ) → start ≤ end → end < length kept → size kept start end < bytes_of (drop start kept)
size_cut kept start end from before =
    let more : 0 < size kept end (length kept) = some_of (between end (length kept) kept) (omega (arith, length-take (length kept - end) (drop end kept), length-drop end kept, before)) in
    omega (arith, more, size_add kept start end (length kept) from (omega (arith, before)), size_all kept start)
