-- What a leader appends lies behind the end of its log: the log grows by that batch, or by nothing.
use Rattle.std.proofs.Common.{◌≡◌, ℕ, ◌+◌, ℤ, pos, ◌+ℤ◌, ◌≤ℤ◌, arith, Bool, true, false, cond, List, [], ◌∷◌, ◌++◌, length, refl, subst, sym}
use Rattle.std.specs.Prelude.{⊤, ◌<ℤ◌, int_lt}
use Rattle.std.specs.Int.{int_min, int_max}
use Rattle.std.specs.List.{AllByRecursion, flat_map}
use Rattle.std.proofs.lemmas.Int.{ints, clamps}
use Rattle.batch_codec.specs.Values.{BatchValue}
use Rattle.batch_codec.specs.Grammar.{batch_encoding}
use Rattle.batch_codec.specs.Offsets.{first_offset, last_offset}
use Rattle.cover_ranges.specs.Runs.{Runs, end_of, with_range}
use Rattle.cover_ranges.proofs.RunEnds.{start_to_end}
use Rattle.cover_ranges.proofs.RunsFrom.{RunsFrom, canonical_from}
use Rattle.content.specs.ByOffset.{put}
use Rattle.content.specs.Content.{Content, IsContent, add, end, has_seen_all, with_batch}
use Rattle.content.specs.declared.verdict.Verdict.{Verdict}
use Rattle.content.specs.declared.verdict.Verdict.TheVariants.{New, Repeat, OldEpoch, OutOfOrder}
use Rattle.content_laws.proofs.ByOffset.{all_from_at}
use Rattle.content_laws.proofs.Slots.{bases_rise, kept_covered}
use Rattle.partition_log.specs.Appends.{at_end, kept_verdict}
use Rattle.partition_log.proofs.Behind.{below_end}
use Rattle.broker_state.specs.Batches.{appended, appended_by}
use Rattle.fetch_waits.specs.Sleeping.{GrowsBy}
use Rattle.fetch_waits.proofs.Left.{all_left}
use Rattle.fetch_waits.proofs.Sleeping.{grows_nothing, grows_twice}

-- ---- runs, and batches, below an offset

abbrev RunsBelow : ℤ → Runs → Type 0
RunsBelow high [] = ⊤
RunsBelow high (r ∷ rs) = (r.0 ≤ℤ high) × (r.1 <ℤ high) × RunsBelow high rs

runs_below : (start low : ℤ) (runs : Runs) → RunsFrom low runs → RunsBelow (end_of start runs) runs
runs_below start low [] from = tt
runs_below start low (r ∷ rs) from =
    let least = start_to_end (r.1 +ℤ pos 1) (r.1 +ℤ pos 2) rs (omega (arith, ints)) from.3 in
    (omega (arith, ints, least, from.1), omega (arith, ints, least), runs_below (r.1 +ℤ pos 1) (r.1 +ℤ pos 2) rs from.3)

runs_more : (low high : ℤ) (runs : Runs) → low ≤ℤ high → RunsBelow low runs → RunsBelow high runs
runs_more low high [] less below = tt
runs_more low high (r ∷ rs) less below = (omega (arith, ints, less, below.0), omega (arith, ints, less, below.1), runs_more low high rs less below.2)

-- a run to behind them all is the last one
abbrev IsLast : (start last : ℤ) → Runs → Type 0
IsLast start last runs = (end_of start runs ≡ (last +ℤ pos 1)) × RunsBelow (last +ℤ pos 1) runs

last_run : (start first last : ℤ) (runs : Runs) → first ≤ℤ (last +ℤ pos 1) → RunsBelow (last +ℤ pos 1) runs → IsLast start last (with_range first last runs)
unfolding with_range
last_run start first last [] from below = (refl, (from, omega (arith, ints), tt))
last_run start first last (r ∷ rs) from below =
    let low : int_min first r.0 ≤ℤ (last +ℤ pos 1) = omega (arith, ints, clamps, from) in
    let most : last ≡ int_max last r.1 = omega (arith, ints, clamps, below.1) in
    by (int_lt (r.1 +ℤ pos 1) first) (int_lt (last +ℤ pos 1) r.0) refl (last_run (r.1 +ℤ pos 1) first last rs from below.2)
    (subst (λ (m : ℤ). IsLast start last (with_range (int_min first r.0) m rs)) most (last_run start (int_min first r.0) last rs low below.2))
  where
    by : (p q : Bool) → int_lt (last +ℤ pos 1) r.0 ≡ q → IsLast (r.1 +ℤ pos 1) last (with_range first last rs) → IsLast start last (with_range (int_min first r.0) (int_max last r.1) rs)
        → IsLast start last (cond p (r ∷ with_range first last rs) (cond q ((first, last) ∷ r ∷ rs) (with_range (int_min first r.0) (int_max last r.1) rs)))
    by true q e behind joined = (behind.0, (below.0, below.1, behind.1))
    by false true e behind joined = absurd (grind (arith, ints, e, below.0))
    by false false e behind joined = joined

abbrev KeptBelow : ℤ → List BatchValue → Type 0
KeptBelow high bs = AllByRecursion (λ b. first_offset b <ℤ high) bs

put_last : (b : BatchValue) (bs : List BatchValue) → KeptBelow (first_offset b) bs → put first_offset b bs ≡ bs ++ b ∷ []
unfolding put
put_last b [] below = refl
put_last b (x ∷ bs) below = grind (arith, ints, put_last b bs below.1, below.0)

kept_more : (low high : ℤ) (b : BatchValue) (bs : List BatchValue) → low ≤ℤ high → first_offset b <ℤ high → KeptBelow low bs → KeptBelow high (bs ++ b ∷ [])
kept_more low high b [] less one below = (one, tt)
kept_more low high b (x ∷ bs) less one below = (let first = below.0 in omega (arith, ints, less, first), kept_more low high b bs less one below.1)

-- ---- a content

-- All that a content has seen and keeps begins before its end.
pub record Ends (c : Content) : Type 0 where
  pub runs : RunsBelow (end c) c.cover
  pub kept : KeptBelow (end c) c.kept

pub valid_ends : (c : Content) → IsContent c → Ends c
valid_ends c is = record {
  runs = runs_below c.start (pos 0) c.cover (canonical_from c.cover is.canonical);
  kept = all_from_at first_offset (λ b. first_offset b <ℤ end c) c.start c.kept (bases_rise c is)
      (λ b there. below_end c.start (first_offset b) c.cover is.canonical (kept_covered c (first_offset b) b is there));
}

-- a content that grew from another, by something or nothing
pub record Grown (old new : Content) : Type 0 where
  pub more : ℕ
  pub grows : GrowsBy old new more
  pub ends : Ends new

pub grown_same : (c : Content) → Ends c → Grown c c
grown_same c ends = record { more = 0; grows = grows_nothing c c refl; ends = ends }

pub grown_twice : (a b c : Content) → Grown a b → Grown b c → Grown a c
grown_twice a b c first second =
    record { more = first.more + second.more; grows = grows_twice a b c first.more second.more first.grows second.grows; ends = second.ends }

module _ (c : Content) (b : BatchValue) (ends : Ends c) (first : first_offset b ≡ end c) where
  below : KeptBelow (first_offset b) c.kept
  below = subst (λ (o : ℤ). KeptBelow o c.kept) (sym first) ends.kept

  last : end c ≤ℤ last_offset b → IsLast c.start (last_offset b) (with_batch c b).cover
  last some = last_run c.start (first_offset b) (last_offset b) c.cover (omega (arith, ints, some, first)) (runs_more (end c) (last_offset b +ℤ pos 1) c.cover (omega (arith, ints, some)) ends.runs)

  spans : has_seen_all c b ≡ false → end c ≤ℤ last_offset b
  spans some = grind (arith, ints, clamps, some, first)

  with_last : end c ≤ℤ last_offset b → Grown c (with_batch c b)
  with_last some = let end_is : end (with_batch c b) ≡ (last_offset b +ℤ pos 1) = (last some).0 in record {
    more = length (flat_map batch_encoding (b ∷ []));
    grows = record {
      left = c.kept;
      batches = b ∷ [];
      start = refl;
      are_left = all_left c.kept;
      kept = put_last b c.kept below;
      behind = (some, tt);
      ends = omega (arith, ints, some, end_is);
      bytes = omega arith;
    };
    ends = record {
      runs = subst (λ (o : ℤ). RunsBelow o (with_batch c b).cover) (sym end_is) (last some).1;
      kept = subst (λ (bs : List BatchValue). KeptBelow (end (with_batch c b)) bs) (sym (put_last b c.kept below))
          (kept_more (end c) (end (with_batch c b)) b c.kept (omega (arith, ints, some, end_is)) (omega (arith, ints, some, first, end_is)) ends.kept);
    };
  }

  grown_add : Grown c (add c b)
  grown_add = by (has_seen_all c b) refl
    where
      by : (t : Bool) → has_seen_all c b ≡ t → Grown c (cond t c (with_batch c b))
      by true e = grown_same c ends
      by false e = with_last (spans e)

-- ---- an append

pub grown_append : (a c : Content) (b : BatchValue) → Grown a c → Grown a (appended c b).1
grown_append a c b grown = grown_twice a c (appended c b).1 grown (by (kept_verdict c b))
  where
    by : (v : Verdict) → Grown c (appended_by v c b).1
    by New = grown_add c (at_end c b) grown.ends refl
    by (Repeat base) = grown_same c grown.ends
    by OldEpoch = grown_add c (at_end c b) grown.ends refl
    by OutOfOrder = grown_add c (at_end c b) grown.ends refl
