-- Batches judged where they stand, one after the other.
use Rattle.std.proofs.Common.{◌≡◌, ℕ, ◌+◌, ◌-◌, ◌<◌, ◌≤◌, ℤ, pos, ◌+ℤ◌, Bool, true, false, ◌||◌, ◌&&◌, Result, Err, List, [], ◌∷◌, ◌++◌, length, take, drop, refl, sym, ap, subst, ◌∙◌, append_assoc, append-nil, arith}
use Rattle.std.specs.Prelude.{◌≤ℤ◌, ◌<ℤ◌, int_lt, int_le, IsTrue, ◌↔◌, IsOkAnd, FitsSigned, if◌then◌else◌}
use Rattle.std.specs.List.{AllByRecursion, flat_map, list_any, fold}
use Rattle.std.specs.Int.{w64, cast_signed, cast_unsigned}
use Rattle.std.proofs.lemmas.Int.{ints, to_z-of_z}
use Rattle.std.proofs.lemmas.List.{length-append, take_rest, drop_at}
use Rattle.std.proofs.lemmas.Grind.{flat_map-append}
use Rattle.checksum.specs.Crc.{feed_bytes}
use Rattle.checksum.proofs.CrcWords.{fed_on}
use Rattle.batch_codec.specs.Values.{BatchValue}
use Rattle.batch_codec.specs.Grammar.{Writable, StartsWith, batch_encoding}
use Rattle.batch_codec.specs.Offsets.{first_offset, last_offset, HasKeys, SpansRise}
use Rattle.cover_ranges.specs.Runs.{Runs, IsCanonical, has_all, CoversAll}
use Rattle.cover_ranges.proofs.RunEnds.{has_all_covers, covers_has_all}
use Rattle.cover_ranges.proofs.RunsFrom.{RunsFrom, runs_lower, canonical_from}
use Rattle.content.specs.Records.{IsKeepable}
use Rattle.content.specs.Content.{IsInRange}
use Rattle.copy_images.specs.Refusals.{IsNext, end_of_batches}
use Rattle.copy_images.specs.Judging.{ending_from, first_holds, HasKept, HoldsBatches, BatchesFault}
use Rattle.copy_images.specs.declared.error.ImageError.TheVariants.{BadBatch, Outside, Extra}

abbrev pub Batches : Type 0
Batches = List BatchValue

-- ---- the next batch

pub refused : {V E : Type 0} (r : Result V E) (P : V → Type 0) (e : E) → r ≡ Err e → IsOkAnd r P → ⊥
refused {V = V} {E = E} r P e is ok = subst (λ (x : Result V E). IsOkAnd x P) is ok

pub not_next : (from : ℤ) (bytes : List ℕ) (batch : BatchValue) (may : Bool) → ((b : BatchValue) → StartsWith b bytes → batch ≡ b) → (IsTrue may ↔ (HasKeys batch × IsInRange batch × (from ≤ℤ first_offset batch))) → may ≡ false
    → (b : BatchValue) → IsNext from b bytes → ⊥
not_next from bytes batch may same asked denied b next =
    let is : b ≡ batch = sym (same b next.starts) in
    let yes : IsTrue may = asked.1 (subst (λ (x : BatchValue). HasKeys x × IsInRange x × (from ≤ℤ first_offset x)) is (next.keys, next.in_range, next.rises)) in
    both may yes denied
  where
    both : (t : Bool) → IsTrue t → t ≡ false → ⊥
    both t p q = cc

pub starts_within : (from : ℤ) (b : BatchValue) (rest bytes : List ℕ) → IsNext from b rest → bytes ≡ batch_encoding b → length bytes ≤ length rest
starts_within from b rest bytes next is = omega (arith, ap length is, ap length next.starts.encoded, length-append (batch_encoding b) next.starts.rest)

-- what comes behind the next batch, as code has it
pub behind_next : (from : ℤ) (b : BatchValue) (rest : List ℕ) (n : ℕ) (next : IsNext from b rest) → n ≡ length (batch_encoding b) → take (length rest - n) (drop n rest) ≡ next.starts.rest
behind_next from b rest n next size = take_rest rest n ∙ ap (drop n) next.starts.encoded ∙ drop_at (batch_encoding b) next.starts.rest n (sym size)

-- ---- a register, which takes in one batch more, and has taken in all

pub fed_one : (from : ℤ) (b : BatchValue) (rest : List ℕ) (n v w : ℕ) → IsNext from b rest → n ≡ length (batch_encoding b) → w ≡ feed_bytes v (batch_encoding b) → feed_bytes w (take (length rest - n) (drop n rest)) ≡ feed_bytes v rest
fed_one from b rest n v w next size fed =
    (λ i. feed_bytes (fed i) (behind_next from b rest n next size i))
    ∙ sym (fed_on v (batch_encoding b) next.starts.rest)
    ∙ ap (feed_bytes v) (sym next.starts.encoded)

pub fed_all : (bytes rest : List ℕ) (v w : ℕ) → feed_bytes w rest ≡ feed_bytes v bytes → rest ≡ [] → w ≡ feed_bytes v bytes
unfolding feed_bytes
fed_all bytes rest v w so_far none = ap (feed_bytes w) (sym none) ∙ so_far

-- ---- spans against ranges

-- the first run that ends at an offset or later decides of all from there on
none_later : (low first last : ℤ) (runs : Runs) → first <ℤ low → RunsFrom low runs → list_any (λ run. int_le run.0 first && int_le last run.1) runs ≡ false
none_later low first last [] less h = refl
none_later low first last (run ∷ runs) less h =
    let a : low ≤ℤ run.0 = h.0 in
    let b : run.0 ≤ℤ run.1 = h.1 in
    let ih = none_later (run.1 +ℤ pos 2) first last runs (omega (arith, ints)) h.3 in
    let here : (int_le run.0 first && int_le last run.1) ≡ false = grind (arith, ints) in
    (λ i. here i || ih i)

not_empty : (first last : ℤ) → first ≤ℤ last → int_lt last first ≡ false
not_empty first last le = grind (arith, ints)

-- spans from an offset on, in some runs and in fewer of them
abbrev pub SameSpans : ℤ → Runs → Runs → Type 0
SameSpans from all left = (first last : ℤ) → from ≤ℤ first → first ≤ℤ last → has_all all first last ≡ has_all left first last

pub skipped : (low from : ℤ) (runs : Runs) → RunsFrom low runs → RunsFrom low (ending_from from runs)
unfolding ending_from
skipped low from [] h = tt
skipped low from (run ∷ runs) h = by (int_lt run.1 from) (skipped (run.1 +ℤ pos 2) from runs h.3)
  where
    by : (t : Bool) → RunsFrom (run.1 +ℤ pos 2) (ending_from from runs) → RunsFrom low (if t then ending_from from runs else run ∷ runs)
    by true ih = let a : low ≤ℤ run.0 = h.0 in let b : run.0 ≤ℤ run.1 = h.1 in runs_lower low (run.1 +ℤ pos 2) (ending_from from runs) (omega (arith, ints)) ih
    by false ih = h

pub skipped_same : (from : ℤ) (runs : Runs) → SameSpans from runs (ending_from from runs)
unfolding ending_from
skipped_same from [] first last p q = refl
skipped_same from (run ∷ runs) first last p q = by (int_lt run.1 from) refl (skipped_same from runs first last p q)
  where
    by : (t : Bool) → int_lt run.1 from ≡ t → has_all runs first last ≡ has_all (ending_from from runs) first last → has_all (run ∷ runs) first last ≡ has_all (if t then ending_from from runs else run ∷ runs) first last
    by true e ih =
        let here : (int_le run.0 first && int_le last run.1) ≡ false = grind (arith, ints, e) in
        ap (λ (t : Bool). int_lt last first || (t || list_any (λ run. int_le run.0 first && int_le last run.1) runs)) here ∙ ih
    by false e ih = refl

pub first_decides : (low first last : ℤ) (runs : Runs) → RunsFrom low runs → first ≤ℤ last → has_all (ending_from first runs) first last ≡ first_holds first last (ending_from first runs)
unfolding ending_from first_holds
first_decides low first last [] h le = ap (λ (t : Bool). t || false) (not_empty first last le)
first_decides low first last (run ∷ runs) h le = by (int_lt run.1 first) refl (first_decides (run.1 +ℤ pos 2) first last runs h.3 le)
  where
    or_none : (s t u : Bool) → s ≡ false → u ≡ false → (s || (t || u)) ≡ t
    or_none s t u e f = grind arith

    by : (t : Bool) → int_lt run.1 first ≡ t → has_all (ending_from first runs) first last ≡ first_holds first last (ending_from first runs)
        → has_all (if t then ending_from first runs else run ∷ runs) first last ≡ first_holds first last (if t then ending_from first runs else run ∷ runs)
    by true e ih = ih
    by false e ih =
        let later : list_any (λ run. int_le run.0 first && int_le last run.1) runs ≡ false = none_later (run.1 +ℤ pos 2) first last runs (grind (arith, ints, e)) h.3 in
        or_none (int_lt last first) (int_le run.0 first && int_le last run.1) (list_any (λ run. int_le run.0 first && int_le last run.1) runs) (not_empty first last le) later

-- ---- one batch more

abbrev end_from : ℤ → Batches → ℤ
end_from low batches = fold (λ _ b. last_offset b +ℤ pos 1) low batches

end_more : (low : ℤ) (bs : Batches) (b : BatchValue) → end_from low (bs ++ b ∷ []) ≡ last_offset b +ℤ pos 1
end_more low [] b = refl
end_more low (x ∷ xs) b = end_more (last_offset x +ℤ pos 1) xs b

spans_more : (low : ℤ) (bs : Batches) (b : BatchValue) → SpansRise low bs → end_from low bs ≤ℤ first_offset b → SpansRise low (bs ++ b ∷ [])
spans_more low [] b h le = (le, tt)
spans_more low (x ∷ xs) b h le = (h.0, spans_more (last_offset x +ℤ pos 1) xs b h.1 le)

all_more : {X : Type 0} (P : X → Type 0) (xs : List X) (x : X) → AllByRecursion P xs → P x → AllByRecursion P (xs ++ x ∷ [])
all_more P [] x h p = (p, tt)
all_more P (y ∷ ys) x h p = (h.0, all_more P ys x h.1 p)

pub nothing_yet : (ranges : Runs) (bytes : List ℕ) → HasKept ranges [] bytes bytes
nothing_yet ranges bytes = record {
  encoded = refl;
  list = record { disjoint = tt; in_range = tt; writable = tt };
  keepable = tt;
  seen = tt;
}

pub one_batch : (ranges : Runs) (batches : Batches) (bytes rest : List ℕ) (b : BatchValue) (more : List ℕ) → HasKept ranges batches bytes rest → IsNext (end_of_batches batches) b rest → CoversAll ranges (first_offset b) (last_offset b)
    → rest ≡ batch_encoding b ++ more → HasKept ranges (batches ++ b ∷ []) bytes more
one_batch ranges batches bytes rest b more has next all is = record {
  encoded =
      has.encoded ∙ ap (λ (x : List ℕ). flat_map batch_encoding batches ++ x) is
      ∙ sym (append_assoc (flat_map batch_encoding batches) (batch_encoding b) more)
      ∙ ap (λ (x : List ℕ). x ++ more) (sym (flat_map-append batch_encoding batches (b ∷ []) ∙ ap (λ (x : List ℕ). flat_map batch_encoding batches ++ x) (append-nil (batch_encoding b))));
  list = record {
    disjoint = spans_more (pos 0) batches b has.list.disjoint next.rises;
    in_range = all_more IsInRange batches b has.list.in_range next.in_range;
    writable = all_more Writable batches b has.list.writable next.starts.writable;
  };
  keepable = all_more IsKeepable batches b has.keepable (next.starts.writable, next.keys);
  seen = all_more (λ x. CoversAll ranges (first_offset x) (last_offset x)) batches b has.seen all;
}

-- ---- how far the loop has come

pub record IsJudged (ranges : Runs) (bytes : List ℕ) (index : ℕ) (from : ℤ) (rest : List ℕ) (left : Runs) : Type 0 where
  pub batches : Batches
  pub has : HasKept ranges batches bytes rest
  pub counted : length batches ≡ index
  pub ends : from ≡ end_of_batches batches
  pub runs : RunsFrom (pos 0) left
  pub same : SameSpans from ranges left

pub judged_none : (ranges : Runs) (bytes : List ℕ) → IsCanonical ranges → IsJudged ranges bytes 0 (pos 0) bytes ranges
judged_none ranges bytes canonical = record {
  batches = [];
  has = nothing_yet ranges bytes;
  counted = refl;
  ends = refl;
  runs = canonical_from ranges canonical;
  same = λ first last p q. refl;
}

-- whether the next batch's span was seen is decided by the first of the ranges left
pub decided : (ranges : Runs) (bytes : List ℕ) (index : ℕ) (from : ℤ) (rest : List ℕ) (left : Runs) (b : BatchValue) → IsJudged ranges bytes index from rest left → IsNext from b rest
    → has_all ranges (first_offset b) (last_offset b) ≡ first_holds (first_offset b) (last_offset b) (ending_from (first_offset b) left)
decided ranges bytes index from rest left b j next =
    let delta : pos 0 ≤ℤ b.head.last_delta = next.starts.writable.valid.last_delta in
    let some : first_offset b ≤ℤ last_offset b = omega (arith, ints, delta) in
    j.same (first_offset b) (last_offset b) next.rises some
    ∙ skipped_same (first_offset b) left (first_offset b) (last_offset b) (omega (arith, ints)) some
    ∙ first_decides (pos 0) (first_offset b) (last_offset b) left j.runs some

pub judged_one : (ranges : Runs) (bytes : List ℕ) (index : ℕ) (from : ℤ) (rest : List ℕ) (left : Runs) (b : BatchValue) (n : ℕ) → IsCanonical ranges → IsJudged ranges bytes index from rest left → IsNext from b rest
    → first_holds (first_offset b) (last_offset b) (ending_from (first_offset b) left) ≡ true → n ≡ length (batch_encoding b)
    → IsJudged ranges bytes (index + 1) (last_offset b +ℤ pos 1) (take (length rest - n) (drop n rest)) (ending_from (first_offset b) left)
judged_one ranges bytes index from rest left b n canonical j next holds size =
    let delta : pos 0 ≤ℤ b.head.last_delta = next.starts.writable.valid.last_delta in
    let next_here : IsNext (end_of_batches j.batches) b rest = subst (λ (o : ℤ). IsNext o b rest) j.ends next in
    let all : CoversAll ranges (first_offset b) (last_offset b) = has_all_covers ranges (first_offset b) (last_offset b) (decided ranges bytes index from rest left b j next ∙ holds) in
    let behind : take (length rest - n) (drop n rest) ≡ next.starts.rest = behind_next from b rest n next size in
    let is : rest ≡ batch_encoding b ++ take (length rest - n) (drop n rest) = next.starts.encoded ∙ ap (λ (x : List ℕ). batch_encoding b ++ x) (sym behind) in
    record {
      batches = j.batches ++ b ∷ [];
      has = one_batch ranges j.batches bytes rest b (take (length rest - n) (drop n rest)) j.has next_here all is;
      counted = omega (arith, length-append j.batches (b ∷ []), j.counted);
      ends = sym (end_more (pos 0) j.batches b);
      runs = skipped (pos 0) (first_offset b) left j.runs;
      same = λ first last p q.
          let later : first_offset b ≤ℤ first = omega (arith, ints, p, delta) in
          let rises = next.rises in
          j.same first last (omega (arith, ints, later, rises)) q ∙ skipped_same (first_offset b) left first last later q;
    }

pub not_seen : (ranges : Runs) (bytes : List ℕ) (index : ℕ) (from : ℤ) (rest : List ℕ) (left : Runs) (b : BatchValue) → IsCanonical ranges → IsJudged ranges bytes index from rest left → IsNext from b rest
    → first_holds (first_offset b) (last_offset b) (ending_from (first_offset b) left) ≡ false → CoversAll ranges (first_offset b) (last_offset b) → ⊥
not_seen ranges bytes index from rest left b canonical j next unseen all =
    both (has_all ranges (first_offset b) (last_offset b)) (covers_has_all ranges (first_offset b) (last_offset b) canonical all) (decided ranges bytes index from rest left b j next ∙ unseen)
  where
    both : (t : Bool) → IsTrue t → t ≡ false → ⊥
    both t p q = cc

-- ---- as code has it

-- the ranges left, and what the first of them says
pub record IsAsked (b : BatchValue) (old left : Runs) (says : Bool) : Type 0 where
  pub left_is : left ≡ ending_from (first_offset b) old
  pub says_is : says ≡ first_holds (first_offset b) (last_offset b) (ending_from (first_offset b) old)

pub asked : (b : BatchValue) (old left : Runs) (says : Bool) (first last : ℤ) → first ≡ first_offset b → last ≡ last_offset b → FitsSigned w64 first → FitsSigned w64 last
    → left ≡ ending_from (cast_signed w64 (cast_unsigned w64 first)) old → says ≡ first_holds (cast_signed w64 (cast_unsigned w64 first)) (cast_signed w64 (cast_unsigned w64 last)) left → IsAsked b old left says
asked b old left says first last base end f l skips holds =
    let first_is = to_z-of_z w64 first f ∙ base in
    let last_is = to_z-of_z w64 last l ∙ end in
    let left_is : left ≡ ending_from (first_offset b) old = skips ∙ ap (λ (z : ℤ). ending_from z old) first_is in
    record { left_is = left_is; says_is = holds ∙ (λ i. first_holds (first_is i) (last_is i) (left_is i)) }

pub judged_step : (ranges : Runs) (bytes : List ℕ) (index : ℕ) (from next_from : ℤ) (rest : List ℕ) (old left : Runs) (b : BatchValue) (n : ℕ) (says : Bool) → IsCanonical ranges → IsJudged ranges bytes index from rest old → IsNext from b rest
    → IsAsked b old left says → says ≡ true → n ≡ length (batch_encoding b) → next_from ≡ last_offset b +ℤ pos 1
    → IsJudged ranges bytes (index + 1) next_from (take (length rest - n) (drop n rest)) left
judged_step ranges bytes index from next_from rest old left b n says canonical j next a yes_here size ends =
    let step = judged_one ranges bytes index from rest old b n canonical j next (sym a.says_is ∙ yes_here) size in
    let rest_after = take (length rest - n) (drop n rest) in
    let with_left : IsJudged ranges bytes (index + 1) (last_offset b +ℤ pos 1) rest_after left = subst (λ (x : Runs). IsJudged ranges bytes (index + 1) (last_offset b +ℤ pos 1) rest_after x) (sym a.left_is) step in
    subst (λ (z : ℤ). IsJudged ranges bytes (index + 1) z rest_after left) (sym ends) with_left

pub outside : (ranges : Runs) (bytes : List ℕ) (index count : ℕ) (from : ℤ) (rest : List ℕ) (old left : Runs) (b : BatchValue) (says : Bool) → IsCanonical ranges → IsJudged ranges bytes index from rest old → IsNext from b rest
    → IsAsked b old left says → says ≡ false → index < count → BatchesFault ranges (pos count) bytes Outside
outside ranges bytes index count from rest old left b says canonical j next a no_here lt =
    let few : pos (length j.batches) <ℤ pos count = omega (arith, ints, j.counted, lt) in
    (j.batches, rest, b, j.has, few, subst (λ (o : ℤ). IsNext o b rest) j.ends next, not_seen ranges bytes index from rest old b canonical j next (sym a.says_is ∙ no_here))

pub no_next : (ranges : Runs) (bytes : List ℕ) (index count : ℕ) (from : ℤ) (rest : List ℕ) (left : Runs) → IsJudged ranges bytes index from rest left → ((b : BatchValue) → IsNext from b rest → ⊥) → index < count
    → BatchesFault ranges (pos count) bytes (BadBatch index)
no_next ranges bytes index count from rest left j none lt =
    (j.batches, rest, j.has, j.counted, omega (arith, ints, lt), λ b next. none b (subst (λ (o : ℤ). IsNext o b rest) (sym j.ends) next))

all_counted : (n index count : ℕ) → n ≡ index → index ≤ count → count ≤ index → pos n ≡ pos count
all_counted n index count is most least = ap pos (omega (arith, is, most, least))

pub extra : (ranges : Runs) (bytes : List ℕ) (index count : ℕ) (from : ℤ) (rest : List ℕ) (left : Runs) → IsJudged ranges bytes index from rest left → index ≤ count → count ≤ index → 0 < length rest
    → BatchesFault ranges (pos count) bytes Extra
extra ranges bytes index count from rest left j most least some = (j.batches, rest, j.has, all_counted (length j.batches) index count j.counted most least, some)

pub all_held : (ranges : Runs) (bytes : List ℕ) (index count : ℕ) (from : ℤ) (rest : List ℕ) (left : Runs) → IsJudged ranges bytes index from rest left → index ≤ count → count ≤ index → rest ≡ []
    → HoldsBatches ranges (pos count) bytes
all_held ranges bytes index count from rest left j most least none =
    (j.batches, subst (HasKept ranges j.batches bytes) none j.has, all_counted (length j.batches) index count j.counted most least)
