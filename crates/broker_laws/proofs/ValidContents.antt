-- What a valid content has in its batches and offsets.
use Rattle.std.proofs.Common.{◌≡◌, ℤ, true, List, [], ◌∷◌, ◌++◌, Some, subst, sym, arith}
use Rattle.std.specs.Prelude.{◌≤ℤ◌, ◌<ℤ◌, map, FitsSigned}
use Rattle.std.specs.List.{AllByRecursion}
use Rattle.std.specs.Int.{w64}
use Rattle.std.proofs.lemmas.Int.{ints, fits_signed_from_abs}
use Rattle.std.proofs.lemmas.List.Concat.{flat_map-cons}
use Rattle.batch_codec.specs.declared.head.BatchHead.{BatchHead}
use Rattle.batch_codec.specs.Values.{RecordValue, BatchValue}
use Rattle.batch_codec.specs.Offsets.{first_offset, last_offset}
use Rattle.cover_ranges.specs.Runs.{covers}
use Rattle.content.specs.ByOffset.{look_up}
use Rattle.content.specs.Records.{IsKeepable}
use Rattle.content.specs.Content.{Content, IsContent, IsInRange, end}
use Rattle.content_laws.proofs.ByOffset.{all_from_at}
use Rattle.content_laws.proofs.Slots.{bases_rise, kept_ends}
use Rattle.time_index.specs.Times.{stamp_of, stamps, first_by_time}
use Rattle.partition_log.proofs.Behind.{below_end, end_within}
use Rattle.time_index.proofs.Stamped.{AreStamped, stamped}
use Rattle.broker_state.proofs.SoundStates.{found_has}

-- ---- offsets are of 64 bits

pub start_fits : (c : Content) → IsContent c → FitsSigned w64 c.start
start_fits c is =
    let low = is.in_range.0 in
    let high = is.in_range.1 in
    fits_signed_from_abs w64 c.start (omega (arith, ints, low, high))

pub kept_in_range : (c : Content) → IsContent c → AllByRecursion IsInRange c.kept
kept_in_range c is = all_from_at first_offset IsInRange c.start c.kept (bases_rise c is) within
  where
    within : (x : BatchValue) → look_up first_offset (first_offset x) c.kept ≡ Some x → IsInRange x
    within x there =
        let ends : first_offset x ≤ℤ last_offset x = kept_ends c (first_offset x) x is there in
        let first : covers c.cover (first_offset x) ≡ true = is.inside (first_offset x) (first_offset x) x there (omega (arith, ints)) ends in
        let last : covers c.cover (last_offset x) ≡ true = is.inside (first_offset x) (last_offset x) x there ends (omega (arith, ints)) in
        let above : c.start ≤ℤ first_offset x = is.above (first_offset x) first in
        let below : last_offset x <ℤ end c = below_end c.start (last_offset x) c.cover is.canonical last in
        let most = end_within c is in
        let low = is.in_range.0 in
        (omega (arith, ints, low, above), omega (arith, ints, below, most))

-- ---- times of records are of 64 bits, and so are their offsets

abbrev pub StampFits : ℤ × ℤ → Type 0
StampFits stamp = FitsSigned w64 stamp.0 × FitsSigned w64 stamp.1

all_of_both : {X : Type 0} (P : X → Type 0) (xs ys : List X) → AllByRecursion P xs → AllByRecursion P ys → AllByRecursion P (xs ++ ys)
all_of_both P [] ys all more = more
all_of_both P (x ∷ xs) ys all more = (all.0, all_of_both P xs ys all.1 more)

stamps_of_batch : (h : BatchHead) (rs : List RecordValue) → AreStamped h rs → AllByRecursion StampFits (map (stamp_of h) rs)
stamps_of_batch h [] all = tt
stamps_of_batch h (r ∷ rs) all = (all.0, stamps_of_batch h rs all.1)

stamps_fit : (bs : List BatchValue) → AllByRecursion IsKeepable bs → AllByRecursion IsInRange bs → AllByRecursion StampFits (stamps bs)
stamps_fit [] keepable ranges = tt
stamps_fit (b ∷ bs) keepable ranges =
    subst (AllByRecursion StampFits) (sym (flat_map-cons (λ (x : BatchValue). map (stamp_of x.head) x.recs) b bs))
    (all_of_both StampFits (map (stamp_of b.head) b.recs) (stamps bs) (stamps_of_batch b.head b.recs (stamped b keepable.0.0 ranges.0)) (stamps_fit bs keepable.1 ranges.1))

pub time_fits : (c : Content) (time : ℤ) (stamp : ℤ × ℤ) → IsContent c → first_by_time time c.kept ≡ Some stamp → StampFits stamp
time_fits c time stamp is = found_has StampFits _ (stamps c.kept) stamp (stamps_fit c.kept is.keepable (kept_in_range c is))
