-- Batches of which each has the head of a log's batch: their records, by the log's batches.
use Rattle.std.proofs.Common.{◌≡◌, ◌≤◌, ℤ, pos, ◌+ℤ◌, ◌-ℤ◌, Bool, true, false, cond, not, ◌||◌, [], ◌∷◌, Option, Some, None, refl, sym, ap, subst, ◌∙◌, true≢false, arith}
use Rattle.std.specs.Prelude.{◌≤ℤ◌, count_by}
use Rattle.std.specs.List.{filter, list_all, AllByRecursion}
use Rattle.std.specs.Option.{option_and_then}
use Rattle.std.specs.Ordering.{int_eq}
use Rattle.std.proofs.lemmas.Int.{ints}
use Rattle.batch_codec.specs.declared.head.BatchHead.{BatchHead}
use Rattle.batch_codec.specs.Values.{RecordValue, BatchValue}
use Rattle.batch_codec.specs.Offsets.{first_offset, last_offset, SpansRise}
use Rattle.cover_ranges.specs.Runs.{Runs, covers, IsCanonical}
use Rattle.cover_ranges.proofs.RunEnds.{has_all_covers, covers_has_all}
use Rattle.content.specs.ByOffset.{look_up}
use Rattle.content.specs.Records.{record_at, record_at_delta, IsKeepable}
use Rattle.content.specs.Windows.{heads, is_later, is_in_window}
use Rattle.content.specs.Logs.{IsPlainLog, is_inside, heads_inside}
use Rattle.content_laws.proofs.Batches.{record_in, record_from}
use Rattle.content_laws.proofs.Windows.{count-cons}
use Rattle.content_laws.proofs.PlainLogs.{Batches, IsIn, IsOver, log_one, at_base}
use Rattle.content_laws.proofs.CopyFacts.{plain_spans, plain_keepable}

-- ---- heads of a log

abbrev pub HaveHeadsOf : Batches → Batches → Type 0
HaveHeadsOf log bs = (base : ℤ) (b : BatchValue) → look_up first_offset base bs ≡ Some b → (y : BatchValue) × (look_up first_offset base log ≡ Some y) × (y.head ≡ b.head)

pub same_some : {X : Type 0} (o : Option X) (x y : X) → o ≡ Some x → o ≡ Some y → x ≡ y
same_some o x y e f = cc

-- the log's batch with the head of one of these
pub same_head : (log bs : Batches) (b y : BatchValue) → HaveHeadsOf log bs → look_up first_offset (first_offset y) bs ≡ Some b → IsIn log y → y.head ≡ b.head
same_head log bs b y have e there =
    let found = have (first_offset y) b e in
    let same : found.0 ≡ y = same_some (look_up first_offset (first_offset y) log) found.0 y found.1 there in
    sym (ap (λ (z : BatchValue). z.head) same) ∙ found.2

pub record_of_part : (log : Batches) (low : ℤ) (bs : Batches) (o : ℤ) (y : BatchValue) → IsPlainLog log → SpansRise low bs → AllByRecursion IsKeepable bs → HaveHeadsOf log bs → IsOver log o y
    → record_at bs o ≡ option_and_then (record_at_delta (o -ℤ first_offset y)) (look_up first_offset (first_offset y) bs)
record_of_part log low bs o y plain spans keepable have over = by (look_up first_offset (first_offset y) bs) refl
  where
    none_of : look_up first_offset (first_offset y) bs ≡ None → (z : Option RecordValue) → record_at bs o ≡ z → record_at bs o ≡ None
    none_of e None f = f
    none_of e (Some r) f =
        let has = record_from low o bs r spans keepable f in
        let found = have (first_offset has.batch) has.batch has.there in
        let in_log = at_base log (first_offset has.batch) found.0 found.1 in
        let begins : first_offset found.0 ≤ℤ o = omega (arith, ints, in_log.0, has.from) in
        let ends : o ≤ℤ last_offset found.0 = let last : last_offset found.0 ≡ last_offset has.batch = ap (λ (h : BatchHead). h.base +ℤ h.last_delta) found.2 in omega (arith, ints, last, has.to) in
        let same : found.0 ≡ y = log_one 0 log o found.0 y plain (record { there = in_log.1; from = begins; to = ends }) over in
        let base : first_offset has.batch ≡ first_offset y = sym in_log.0 ∙ ap first_offset same in
        absurd (clash (look_up first_offset (first_offset y) bs) has.batch (sym (ap (λ (k : ℤ). look_up first_offset k bs) base) ∙ has.there) e)
      where
        clash : (q : Option BatchValue) (b : BatchValue) → q ≡ Some b → q ≡ None → ⊥
        clash q b g h = cc

    by : (z : Option BatchValue) → look_up first_offset (first_offset y) bs ≡ z → record_at bs o ≡ option_and_then (record_at_delta (o -ℤ first_offset y)) z
    by None e = none_of e (record_at bs o) refl
    by (Some b) e =
        let last : last_offset y ≡ last_offset b = ap (λ (h : BatchHead). h.base +ℤ h.last_delta) (same_head log bs b y have e over.there) in
        record_in low (first_offset y) o bs b spans keepable e over.from (omega (arith, ints, last, over.to))

-- a log has its own heads
pub own_heads : (log : Batches) → HaveHeadsOf log log
own_heads log base b e = (b, e, refl)

pub record_of_log : (log : Batches) (o : ℤ) (y : BatchValue) → IsPlainLog log → IsOver log o y → record_at log o ≡ record_at_delta (o -ℤ first_offset y) y
record_of_log log o y plain over =
    record_of_part log (pos 0) log o y plain (plain_spans 0 log plain) (plain_keepable 0 log plain) (own_heads log) over
    ∙ ap (option_and_then (record_at_delta (o -ℤ first_offset y))) over.there

-- ---- parts of a log, and windows

count_heads : (q : BatchHead → Bool) (t : BatchValue → Bool) (bs : Batches) → count_by q (heads (filter t bs)) ≤ count_by q (heads bs)
count_heads q t [] = grind arith
count_heads q t (b ∷ bs) = by (t b) (count_heads q t bs)
  where
    by : (c : Bool) → count_by q (heads (filter t bs)) ≤ count_by q (heads bs) → count_by q (heads (cond c (b ∷ filter t bs) (filter t bs))) ≤ count_by q (heads (b ∷ bs))
    by true ih = grind (arith, count-cons q b.head (heads (filter t bs)), count-cons q b.head (heads bs), ih)
    by false ih = grind (arith, count-cons q b.head (heads bs), ih)

all_heads : (q : BatchHead → Bool) (t : BatchValue → Bool) (bs : Batches) → list_all q (heads bs) ≡ true → list_all q (heads (filter t bs)) ≡ true
all_heads q t [] all = refl
all_heads q t (b ∷ bs) all = by (t b) (all_heads q t bs (grind (arith, all)))
  where
    by : (c : Bool) → list_all q (heads (filter t bs)) ≡ true → list_all q (heads (cond c (b ∷ filter t bs) (filter t bs))) ≡ true
    by true ih = grind (arith, ih, all)
    by false ih = ih

-- a batch of a list's window is in the window of each part
pub in_window_of_part : (t : BatchValue → Bool) (bs : Batches) (h : BatchHead) → is_in_window (heads bs) h ≡ true → is_in_window (heads (filter t bs)) h ≡ true
in_window_of_part t bs h is = grind (arith, count_heads (is_later h) t bs, all_heads (λ x. not (is_later h x) || int_eq x.producer_epoch h.producer_epoch) t bs)

filter_twice : (t more : BatchValue → Bool) (bs : Batches) → ((b : BatchValue) → t b ≡ true → more b ≡ true) → filter t (filter more bs) ≡ filter t bs
filter_twice t more [] weaker = refl
filter_twice t more (b ∷ bs) weaker = by (t b) (more b) refl refl (filter_twice t more bs weaker)
  where
    by : (p q : Bool) → t b ≡ p → more b ≡ q → filter t (filter more bs) ≡ filter t bs → filter t (cond q (b ∷ filter more bs) (filter more bs)) ≡ cond p (b ∷ filter t bs) (filter t bs)
    by true true e f ih = grind (arith, e, ih)
    by true false e f ih = absurd (true≢false (sym (weaker b e) ∙ f))
    by false true e f ih = grind (arith, e, ih)
    by false false e f ih = ih

-- more cover only takes batches out of a window, and never brings an old one in
pub inside_more : (less more : Runs) (b : BatchValue) → IsCanonical more → ((o : ℤ) → covers less o ≡ true → covers more o ≡ true) → is_inside less b ≡ true → is_inside more b ≡ true
inside_more less more b canonical weaker inside = covers_has_all more (first_offset b) (last_offset b) canonical (λ o from to. weaker o (has_all_covers less (first_offset b) (last_offset b) inside o from to))

pub more_cover : (less more : Runs) (log : Batches) (h : BatchHead) → IsCanonical more → ((o : ℤ) → covers less o ≡ true → covers more o ≡ true) → is_in_window (heads_inside more log) h ≡ true → is_in_window (heads_inside less log) h ≡ true
more_cover less more log h canonical weaker is =
    subst (λ (bs : Batches). is_in_window (heads bs) h ≡ true) (filter_twice (is_inside less) (is_inside more) log (λ b e. inside_more less more b canonical weaker e))
    (in_window_of_part (is_inside less) (filter (is_inside more) log) h is)
