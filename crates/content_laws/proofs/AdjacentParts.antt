-- Two parts of a cleaning, one behind the other, are one part, where no batch that is cleaned lies across the place between them: the
-- second finds the later records as they were, and of the older ones in the first those that it left have no later one.
use Rattle.std.proofs.Common.{◌≡◌, ℕ, ◌+◌, ◌-◌, ◌≤◌, ℤ, pos, ◌+ℤ◌, ◌-ℤ◌, Bool, true, false, cond, not, ◌&&◌, ◌||◌, ◌⊎◌, inl, inr, List, [], ◌∷◌, ◌++◌, map, length, Option, Some, None, refl, sym, ap, ◌∙◌, true≢false, arith}
use Rattle.std.specs.Prelude.{◌≤ℤ◌, ◌<ℤ◌, int_lt, int_le, nat_lt, count_by}
use Rattle.std.specs.List.{filter, filter_map, cons_option, list_all, AllByRecursion}
use Rattle.std.specs.Option.{option_and_then}
use Rattle.std.specs.Ordering.{int_eq}
use Rattle.std.proofs.lemmas.Int.{ints, by_lt_z}
use Rattle.std.proofs.lemmas.List.Concat.{flat_map-cons}
use Rattle.batch_codec.specs.declared.head.BatchHead.{BatchHead}
use Rattle.batch_codec.specs.Values.{RecordValue, BatchValue}
use Rattle.batch_codec.specs.Offsets.{first_offset, last_offset, offset_of}
use Rattle.content.specs.declared.part.CleaningPart.{CleaningPart}
use Rattle.content.specs.ByOffset.{look_up}
use Rattle.content.specs.Records.{LogRecord, log_records, record_at, record_at_delta, same_key, IsKeepable}
use Rattle.content.specs.Windows.{heads, is_later, is_in_window}
use Rattle.content.specs.Content.{Content, IsContent}
use Rattle.content.specs.Cleaning.{is_cleanable, is_superseded, is_removable_tombstone, is_exempt, unless_empty}
use Rattle.content.specs.Parts.{is_in_part, part_records, has_older, is_expired_in_part, is_removed_in_part, cleaned_in_part, clean_batch_by_part, clean_part, part_report, part_of, sum_of_reports, NoneIsAcross}
use Rattle.content_laws.proofs.ByOffset.{all_at, all_from_at}
use Rattle.content_laws.proofs.Batches.{Batches, delta_of, records_rise, rec_below, rec_above, HasRecord, spans_apart}
use Rattle.content_laws.proofs.BatchParts.{part_head}
use Rattle.content_laws.proofs.Slots.{bases_rise, kept_keepable, kept_ends}
use Rattle.content_laws.proofs.ContentSteps.{part_batch_thins, content_part}
use Rattle.content_laws.proofs.Windows.{Heads, count-cons, filter_same, count_same}
use Rattle.content_laws.proofs.Tables.{offset_in_log}
use Rattle.content_laws.proofs.Sweeps.{IsStillIn, held, to_reach, of_reached, reached_rise, any_by, any_of, still_unreached, was_in, gone}
use Rattle.content_laws.proofs.CopyClean.{key_sym}

-- two tests that imply each other are equal
pub same_bool : (s t : Bool) → (s ≡ true → t ≡ true) → (t ≡ true → s ≡ true) → s ≡ t
same_bool true t up down = sym (up refl)
same_bool false true up down = down refl
same_bool false false up down = refl

-- ---- lists of which some elements are mapped away

pub filter_map_then : {X : Type 0} (f g h : X → Option X) (xs : List X) → AllByRecursion (λ x. option_and_then g (f x) ≡ h x) xs → filter_map g (filter_map f xs) ≡ filter_map h xs
filter_map_then f g h [] all = refl
filter_map_then {X = X} f g h (x ∷ xs) all = by (f x) all.0 (filter_map_then f g h xs all.1)
  where
    by : (o : Option X) → option_and_then g o ≡ h x → filter_map g (filter_map f xs) ≡ filter_map h xs → filter_map g (cons_option o (filter_map f xs)) ≡ cons_option (h x) (filter_map h xs)
    by None own rest = λ i. cons_option (own i) (rest i)
    by (Some y) own rest = λ i. cons_option (own i) (rest i)

pub filter_map_same : {X : Type 0} (f g : X → Option X) (xs : List X) → AllByRecursion (λ x. f x ≡ g x) xs → filter_map f xs ≡ filter_map g xs
filter_map_same f g [] all = refl
filter_map_same f g (x ∷ xs) all = let rest = filter_map_same f g xs all.1 in let own = all.0 in λ i. cons_option (own i) (rest i)

pub filter_map_all : {X : Type 0} (f : X → Option X) (xs : List X) → AllByRecursion (λ x. f x ≡ Some x) xs → filter_map f xs ≡ xs
filter_map_all f [] all = refl
filter_map_all f (x ∷ xs) all = let rest = filter_map_all f xs all.1 in let own = all.0 in λ i. cons_option (own i) (rest i)

pub filter_map_less : {X : Type 0} (f : X → Option X) (xs : List X) → length (filter_map f xs) ≤ length xs
filter_map_less f [] = omega arith
filter_map_less {X = X} f (x ∷ xs) = by (f x) (filter_map_less f xs)
  where
    by : (o : Option X) → length (filter_map f xs) ≤ length xs → length (cons_option o (filter_map f xs)) ≤ length (x ∷ xs)
    by None rest = omega (arith, rest)
    by (Some y) rest = omega (arith, rest)

-- what is mapped fails the test, before and after; or it stays as it is
abbrev pub IsUntouched : {X : Type 0} → (X → Option X) → (X → Bool) → X → Type 0
IsUntouched {X = X} f t x = (f x ≡ Some x) ⊎ ((t x ≡ false) × ((z : X) → f x ≡ Some z → t z ≡ false))

filter_mapped : {X : Type 0} (f : X → Option X) (t : X → Bool) (xs : List X) → AllByRecursion (IsUntouched f t) xs → filter t (filter_map f xs) ≡ filter t xs
filter_mapped f t [] all = refl
filter_mapped {X = X} f t (x ∷ xs) all = by (f x) refl all.0 (filter_mapped f t xs all.1)
  where
    clash : None ≡ Some x → ⊥
    clash e = absurd cc

    by : (o : Option X) → f x ≡ o → IsUntouched f t x → filter t (filter_map f xs) ≡ filter t xs → filter t (cons_option o (filter_map f xs)) ≡ filter t (x ∷ xs)
    by None e (inl same) rest = absurd (clash (sym e ∙ same))
    by (Some z) e (inl same) rest = let is : z ≡ x = cc in λ i. cond (t (is i)) (is i ∷ rest i) (rest i)
    by None e (inr fails) rest = rest ∙ sym (ap (λ (b : Bool). cond b (x ∷ filter t xs) (filter t xs)) fails.0)
    by (Some z) e (inr fails) rest =
        ap (λ (b : Bool). cond b (z ∷ filter t (filter_map f xs)) (filter t (filter_map f xs))) (fails.1 z e)
        ∙ rest ∙ sym (ap (λ (b : Bool). cond b (x ∷ filter t xs) (filter t xs)) fails.0)

-- ---- heads of later batches, and the window by them

heads_mapped : (p : BatchHead → Bool) (f : BatchValue → Option BatchValue) (bs : Batches) → ((b z : BatchValue) → f b ≡ Some z → z.head ≡ b.head) → AllByRecursion (λ b. (f b ≡ Some b) ⊎ (p b.head ≡ false)) bs → filter p (heads (filter_map f bs)) ≡ filter p (heads bs)
heads_mapped p f [] same all = refl
heads_mapped p f (b ∷ bs) same all = by (f b) refl all.0 (heads_mapped p f bs same all.1)
  where
    clash : None ≡ Some b → ⊥
    clash e = absurd cc

    by : (o : Option BatchValue) → f b ≡ o → (f b ≡ Some b) ⊎ (p b.head ≡ false) → filter p (heads (filter_map f bs)) ≡ filter p (heads bs) → filter p (heads (cons_option o (filter_map f bs))) ≡ filter p (heads (b ∷ bs))
    by None e (inl stays) rest = absurd (clash (sym e ∙ stays))
    by None e (inr fails) rest = rest ∙ sym (ap (λ (t : Bool). cond t (b.head ∷ filter p (heads bs)) (filter p (heads bs))) fails)
    by (Some z) e which rest = let head = same b z e in λ i. cond (p (head i)) (head i ∷ rest i) (rest i)

count_is : {X : Type 0} (p : X → Bool) (xs : List X) → count_by p xs ≡ length (filter p xs)
count_is p [] = refl
count_is {X = X} p (x ∷ xs) = count-cons p x xs ∙ by (p x) (count_is p xs)
  where
    by : (t : Bool) → count_by p xs ≡ length (filter p xs) → cond t 1 0 + count_by p xs ≡ length (cond t (x ∷ filter p xs) (filter p xs))
    by true e = omega (arith, e)
    by false e = omega (arith, e)

all_of_those : {X : Type 0} (p q : X → Bool) (xs : List X) → list_all (λ x. not (p x) || q x) xs ≡ list_all q (filter p xs)
all_of_those p q [] = refl
all_of_those p q (x ∷ xs) = grind (arith, all_of_those p q xs)

window_by_later : (hs : Heads) (h : BatchHead) → is_in_window hs h ≡ (nat_lt (length (filter (is_later h) hs)) 5 && list_all (λ x. int_eq x.producer_epoch h.producer_epoch) (filter (is_later h) hs))
window_by_later hs h =
    let counts = count_is (is_later h) hs in
    let epochs = all_of_those (is_later h) (λ (x : BatchHead). int_eq x.producer_epoch h.producer_epoch) hs in
    λ i. nat_lt (counts i) 5 && epochs i

same_window : (hs ks : Heads) (h : BatchHead) → filter (is_later h) hs ≡ filter (is_later h) ks → is_in_window hs h ≡ is_in_window ks h
same_window hs ks h same =
    window_by_later hs h
    ∙ ap (λ (later : Heads). nat_lt (length later) 5 && list_all (λ x. int_eq x.producer_epoch h.producer_epoch) later) same
    ∙ sym (window_by_later ks h)

-- ---- records of two kinds of batches, counted

zero_left : (n : ℕ) → n ≡ 0 + n
zero_left n = omega arith

count-append : {X : Type 0} (p : X → Bool) (xs ys : List X) → count_by p (xs ++ ys) ≡ count_by p xs + count_by p ys
count-append p [] ys = zero_left (count_by p ys)
count-append p (x ∷ xs) ys = omega (arith, count-cons p x (xs ++ ys), count-append p xs ys, count-cons p x xs)

abbrev records_of : BatchValue → List LogRecord
records_of b = map (λ r. (offset_of b r, r)) b.recs

count_first : (q : LogRecord → Bool) (t : Bool) (b : BatchValue) (bs : Batches) → count_by q (log_records (cond t (b ∷ bs) bs)) ≡ cond t (count_by q (records_of b)) 0 + count_by q (log_records bs)
count_first q true b bs = ap (count_by q) (flat_map-cons records_of b bs) ∙ count-append q (records_of b) (log_records bs)
count_first q false b bs = zero_left (count_by q (log_records bs))

abbrev IsSplit : (BatchValue → Bool) → (BatchValue → Bool) → (BatchValue → Bool) → BatchValue → Type 0
IsSplit both first second b = (both b ≡ (first b || second b)) × ((first b && second b) ≡ false)

count_split : (q : LogRecord → Bool) (both first second : BatchValue → Bool) (bs : Batches) → AllByRecursion (IsSplit both first second) bs
    → count_by q (log_records (filter both bs)) ≡ count_by q (log_records (filter first bs)) + count_by q (log_records (filter second bs))
count_split q both first second [] all = refl
count_split q both first second (b ∷ bs) all =
    let rest = count_split q both first second bs all.1 in
    let whole = count_first q (both b) b (filter both bs) in
    let left = count_first q (first b) b (filter first bs) in
    let right = count_first q (second b) b (filter second bs) in
    let own : cond (both b) (count_by q (records_of b)) 0 ≡ cond (first b) (count_by q (records_of b)) 0 + cond (second b) (count_by q (records_of b)) 0 = sum (count_by q (records_of b)) (both b) (first b) (second b) all.0.0 all.0.1 in
    omega (arith, rest, whole, left, right, own)
  where
    sum : (n : ℕ) (s t v : Bool) → s ≡ (t || v) → (t && v) ≡ false → cond s n 0 ≡ cond t n 0 + cond v n 0
    sum n s true true e f = absurd (true≢false f)
    sum n s true false e f = ap (λ (x : Bool). cond x n 0) e ∙ zero_right n
      where
        zero_right : (m : ℕ) → m ≡ m + 0
        zero_right m = omega arith
    sum n s false true e f = ap (λ (x : Bool). cond x n 0) e ∙ zero_left n
    sum n s false false e f = ap (λ (x : Bool). cond x n 0) e ∙ zero_left 0

-- ---- two parts

-- what a test leaves as it is
unchanged : {X : Type 0} (g : X → Option X) (o : Option X) → ((z : X) → o ≡ Some z → g z ≡ Some z) → option_and_then g o ≡ o
unchanged g None same = refl
unchanged g (Some z) same = same z refl

module _ (u d from mid to : ℤ) (c : Content) (content : IsContent c) (starts : from ≤ℤ mid) (ends : mid ≤ℤ to) (none : NoneIsAcross mid (filter (is_cleanable u) c.kept)) where
  abbrev first : CleaningPart
  first = part_of u d from mid

  abbrev second : CleaningPart
  second = part_of u d mid to

  abbrev both : CleaningPart
  both = part_of u d from to

  abbrev now : Content
  now = clean_part first c

  now_content : IsContent now
  now_content = content_part first c content

  lies : (b : BatchValue) → look_up first_offset (first_offset b) c.kept ≡ Some b → is_cleanable u b ≡ true → (last_offset b <ℤ mid) ⊎ (mid ≤ℤ first_offset b)
  lies b there is = all_at first_offset (λ (x : BatchValue). (last_offset x <ℤ mid) ⊎ (mid ≤ℤ first_offset x)) (first_offset b) (filter (is_cleanable u) c.kept) b none (to_reach c content (is_cleanable u) (λ x. true) (first_offset b) b there is)

  spans : (b : BatchValue) → look_up first_offset (first_offset b) c.kept ≡ Some b → first_offset b ≤ℤ last_offset b
  spans b there = kept_ends c (first_offset b) b content there

  past_first : (b : BatchValue) → mid ≤ℤ last_offset b → is_in_part first b ≡ false
  past_first b le = grind (arith, ints, le)

  before_first : (b : BatchValue) → first_offset b <ℤ from → is_in_part first b ≡ false
  before_first b less = grind (arith, ints, less)

  cleanable_head : (b e : BatchValue) → b.head ≡ e.head → is_cleanable u e ≡ true → is_cleanable u b ≡ true
  cleanable_head b e same is = ap (λ (h : BatchHead). int_lt (h.base +ℤ h.last_delta) u) same ∙ is

  first_head : (b e : BatchValue) → b.head ≡ e.head → first_offset b ≡ first_offset e
  first_head b e same = ap (λ (h : BatchHead). h.base) same

  still : (q : ℤ) (t : RecordValue) (has : HasRecord c.kept q t) → is_in_part first has.batch ≡ false → IsStillIn now.kept q t has.batch.head
  still q t has is = still_unreached (is_in_part first) (is_removed_in_part first c) c content q t has is

  was : (q : ℤ) (t : RecordValue) (has : HasRecord now.kept q t) → IsStillIn c.kept q t has.batch.head
  was q t has = was_in (is_in_part first) (is_removed_in_part first c) c content q t has

  -- ---- the second part's tests

  superseded_same : (x : LogRecord) → mid ≤ℤ x.0 → is_superseded now u x ≡ is_superseded c u x
  superseded_same x least = same_bool (is_superseded now u x) (is_superseded c u x) up down
    where
      up : is_superseded now u x ≡ true → is_superseded c u x ≡ true
      up e =
          let any = any_of now now_content (is_cleanable u) (λ y. int_lt x.0 y.0 && same_key y.1 x.1) e in
          let before = was any.offset any.value any.has in
          any_by c content (is_cleanable u) (λ y. int_lt x.0 y.0 && same_key y.1 x.1) (record { offset = any.offset; value = any.value; has = before.has; reached = cleanable_head before.has.batch any.has.batch before.of any.reached; passes = any.passes })

      down : is_superseded c u x ≡ true → is_superseded now u x ≡ true
      down e =
          let any = any_of c content (is_cleanable u) (λ y. int_lt x.0 y.0 && same_key y.1 x.1) e in
          let passes = any.passes in
          let later : x.0 <ℤ any.offset = grind (arith, ints, passes) in
          let last : any.offset ≤ℤ last_offset any.has.batch = any.has.to in
          let after = still any.offset any.value any.has (past_first any.has.batch (omega (arith, ints, least, later, last))) in
          any_by now now_content (is_cleanable u) (λ y. int_lt x.0 y.0 && same_key y.1 x.1) (record { offset = any.offset; value = any.value; has = after.has; reached = cleanable_head after.has.batch any.has.batch after.of any.reached; passes = any.passes })

  older_same : (o : ℤ) (r : RecordValue) (has : HasRecord c.kept o r) → is_cleanable u has.batch ≡ true → mid ≤ℤ first_offset has.batch → has_older now mid (o, r) ≡ has_older c from (o, r)
  older_same o r has cleanable least = same_bool (has_older now mid (o, r)) (has_older c from (o, r)) up down
    where
      begins : first_offset has.batch ≤ℤ o
      begins = has.from

      -- an older record from the first part on is superseded by this one, so it went
      went : (q : ℤ) (t : RecordValue) (old : HasRecord c.kept q t) → from ≤ℤ first_offset old.batch → first_offset old.batch <ℤ mid → same_key t r ≡ true → record_at now.kept q ≡ Some t → ⊥
      went q t old low high same there =
          let apart : last_offset old.batch <ℤ first_offset has.batch = spans_apart c.start (first_offset old.batch) (first_offset has.batch) c.kept old.batch has.batch content.disjoint content.keepable old.there has.there (omega (arith, ints, high, least)) in
          let own : first_offset has.batch ≤ℤ last_offset has.batch = spans has.batch has.there in
          let cleaned : is_cleanable u old.batch ≡ true = grind (arith, ints, apart, own, cleanable) in
          let ends_below : last_offset old.batch <ℤ mid = below (lies old.batch old.there cleaned) in
          let to_q : q ≤ℤ last_offset old.batch = old.to in
          let before : int_lt q o ≡ true = grind (arith, ints, to_q, apart, begins) in
          let turned : same_key r t ≡ true = key_sym t.key r.key same in
          let sup : is_superseded c u (q, t) ≡ true = any_by c content (is_cleanable u) (λ y. int_lt q y.0 && same_key y.1 t) (record { offset = o; value = r; has = has; reached = cleanable; passes = grind (arith, turned, before) }) in
          gone (is_in_part first) (is_removed_in_part first c) c content q t old (grind (arith, ints, low, ends_below, cleaned)) (grind (arith, sup)) t there
        where
          below : (last_offset old.batch <ℤ mid) ⊎ (mid ≤ℤ first_offset old.batch) → last_offset old.batch <ℤ mid
          below (inl less) = less
          below (inr le) = absurd (omega (arith, ints, le, high))

      up : has_older now mid (o, r) ≡ true → has_older c from (o, r) ≡ true
      up e =
          let any = any_of now now_content (λ b. int_lt (first_offset b) mid) (λ y. same_key y.1 r) e in
          let before = was any.offset any.value any.has in
          let base : first_offset before.has.batch ≡ first_offset any.has.batch = first_head before.has.batch any.has.batch before.of in
          let reached = any.reached in
          let under : first_offset before.has.batch <ℤ mid = grind (arith, ints, base, reached) in
          by_lt_z (first_offset before.has.batch) from
          (λ less. any_by c content (λ b. int_lt (first_offset b) from) (λ y. same_key y.1 r) (record { offset = any.offset; value = any.value; has = before.has; reached = grind (arith, ints, less); passes = any.passes }))
          (λ low. absurd (went any.offset any.value before.has low under any.passes (held now now_content any.offset any.value any.has)))

      down : has_older c from (o, r) ≡ true → has_older now mid (o, r) ≡ true
      down e =
          let any = any_of c content (λ b. int_lt (first_offset b) from) (λ y. same_key y.1 r) e in
          let reached = any.reached in
          let under : first_offset any.has.batch <ℤ from = grind (arith, ints, reached) in
          let after = still any.offset any.value any.has (before_first any.has.batch under) in
          let base : first_offset after.has.batch ≡ first_offset any.has.batch = first_head after.has.batch any.has.batch after.of in
          any_by now now_content (λ b. int_lt (first_offset b) mid) (λ y. same_key y.1 r) (record { offset = any.offset; value = any.value; has = after.has; reached = grind (arith, ints, base, under, starts); passes = any.passes })

  expired_same : (o : ℤ) (r : RecordValue) (has : HasRecord c.kept o r) → is_cleanable u has.batch ≡ true → mid ≤ℤ first_offset has.batch → is_expired_in_part second now (o, r) ≡ is_expired_in_part both c (o, r)
  expired_same o r has cleanable least = ap (λ (t : Bool). is_removable_tombstone c d (o, r) && not t) (older_same o r has cleanable least)

  sup_same : (o : ℤ) (r : RecordValue) (has : HasRecord c.kept o r) → mid ≤ℤ first_offset has.batch → is_superseded now u (o, r) ≡ is_superseded c u (o, r)
  sup_same o r has least = superseded_same (o, r) (let begins : first_offset has.batch ≤ℤ o = has.from in omega (arith, ints, begins, least))

  removed_same : (o : ℤ) (r : RecordValue) (has : HasRecord c.kept o r) → is_cleanable u has.batch ≡ true → mid ≤ℤ first_offset has.batch → is_removed_in_part second now (o, r) ≡ is_removed_in_part both c (o, r)
  removed_same o r has cleanable least = let sup = sup_same o r has least in let old = expired_same o r has cleanable least in λ i. sup i || old i

  exempt_same : (b : BatchValue) → mid ≤ℤ first_offset b → is_exempt now b ≡ is_exempt c b
  exempt_same b least = ap (λ (t : Bool). int_le (pos 0) b.head.producer && t) (same_window (heads now.kept) (heads c.kept) b.head (heads_mapped (is_later b.head) (clean_batch_by_part first c) c.kept (λ x z e. part_head z x (part_batch_thins first c x z e)) later))
    where
      by : (x : BatchValue) → (t : Bool) → is_in_part first x ≡ t → first_offset x ≤ℤ last_offset x → (clean_batch_by_part first c x ≡ Some x) ⊎ (is_later b.head x.head ≡ false)
      by x true is span = inr (grind (arith, ints, is, span, least))
      by x false is span = inl (ap (λ (t : Bool). cond t (cleaned_in_part first c x) (Some x)) is)

      later : AllByRecursion (λ x. (clean_batch_by_part first c x ≡ Some x) ⊎ (is_later b.head x.head ≡ false)) c.kept
      later = all_from_at first_offset (λ (x : BatchValue). (clean_batch_by_part first c x ≡ Some x) ⊎ (is_later b.head x.head ≡ false)) c.start c.kept (bases_rise c content) (λ x there. by x (is_in_part first x) refl (spans x there))

  -- ---- what the second part leaves of a batch

  record_of : (b : BatchValue) → look_up first_offset (first_offset b) c.kept ≡ Some b → (r : RecordValue) → look_up delta_of r.delta b.recs ≡ Some r → HasRecord c.kept (offset_of b r) r
  record_of b there r e = record {
    batch = b;
    there = there;
    from = by_lt_z (offset_of b r) (first_offset b) (λ less. absurd (clash (rec_below r.delta b keepable (omega (arith, ints, less))))) (λ le. le);
    to = by_lt_z (last_offset b) (offset_of b r) (λ less. absurd (clash (rec_above r.delta b keepable (omega (arith, ints, less))))) (λ le. le);
    here = (let delta : offset_of b r -ℤ first_offset b ≡ r.delta = omega (arith, ints) in ap (λ (k : ℤ). record_at_delta k b) delta ∙ e);
  }
    where
      keepable : IsKeepable b
      keepable = kept_keepable c (first_offset b) b content there

      none_some : None ≡ Some r → ⊥
      none_some f = absurd cc

      clash : record_at_delta r.delta b ≡ None → ⊥
      clash f = none_some (sym f ∙ e)

  rest_same : (b : BatchValue) → look_up first_offset (first_offset b) c.kept ≡ Some b → is_cleanable u b ≡ true → mid ≤ℤ first_offset b → cleaned_in_part second now b ≡ cleaned_in_part both c b
  unfolding record_of
  rest_same b there cleanable least =
      let exempt = exempt_same b least in
      let same = filter_same (λ (r : RecordValue). not (is_removed_in_part second now (offset_of b r, r))) (λ (r : RecordValue). not (is_removed_in_part both c (offset_of b r, r))) b.recs each in
      λ i. unless_empty (exempt i) (record { head = b.head; recs = same i })
    where
      each : AllByRecursion (λ r. not (is_removed_in_part second now (offset_of b r, r)) ≡ not (is_removed_in_part both c (offset_of b r, r))) b.recs
      each = all_from_at delta_of (λ (r : RecordValue). not (is_removed_in_part second now (offset_of b r, r)) ≡ not (is_removed_in_part both c (offset_of b r, r))) (pos 0) b.recs
          (records_rise b (kept_keepable c (first_offset b) b content there)) (λ r e. ap not (removed_same (offset_of b r) r (record_of b there r e) cleanable least))

  -- a kept batch is in both parts together where it is in one
  split : (b : BatchValue) → look_up first_offset (first_offset b) c.kept ≡ Some b → IsSplit (is_in_part both) (is_in_part first) (is_in_part second) b
  split b there = by (is_cleanable u b) refl
    where
      span : first_offset b ≤ℤ last_offset b
      span = spans b there

      cut : is_cleanable u b ≡ true → (last_offset b <ℤ mid) ⊎ (mid ≤ℤ first_offset b) → IsSplit (is_in_part both) (is_in_part first) (is_in_part second) b
      cut is (inl less) = (grind (arith, ints, is, less, span, starts, ends), grind (arith, ints, is, less, span, starts, ends))
      cut is (inr le) = (grind (arith, ints, is, le, span, starts, ends), grind (arith, ints, is, le, span, starts, ends))

      by : (t : Bool) → is_cleanable u b ≡ t → IsSplit (is_in_part both) (is_in_part first) (is_in_part second) b
      by true is = cut is (lies b there is)
      by false is = (grind (arith, is), grind (arith, is))

  abbrev if_in : Bool → CleaningPart → Content → BatchValue → Option BatchValue
  if_in t p x b = cond t (cleaned_in_part p x b) (Some b)

  step : (b : BatchValue) → look_up first_offset (first_offset b) c.kept ≡ Some b → option_and_then (clean_batch_by_part second now) (clean_batch_by_part first c b) ≡ clean_batch_by_part both c b
  step b there = by (is_in_part first b) (is_in_part second b) (is_in_part both b) refl refl refl (split b there)
    where
      -- what the first part leaves of a batch of its own isn't in the second
      own : is_in_part first b ≡ true → (z : BatchValue) → cleaned_in_part first c b ≡ Some z → clean_batch_by_part second now z ≡ Some z
      own is z e =
          let left : clean_batch_by_part first c b ≡ Some z = ap (λ (t : Bool). if_in t first c b) is ∙ e in
          let base : first_offset z ≡ first_offset b = ap (λ (h : BatchHead). h.base) (part_head z b (part_batch_thins first c b z left)) in
          let span : first_offset b ≤ℤ last_offset b = spans b there in
          let not_in : is_in_part second z ≡ false = grind (arith, ints, base, span, is) in
          ap (λ (t : Bool). if_in t second now z) not_in

      by : (f s w : Bool) → is_in_part first b ≡ f → is_in_part second b ≡ s → is_in_part both b ≡ w → IsSplit (is_in_part both) (is_in_part first) (is_in_part second) b → option_and_then (clean_batch_by_part second now) (if_in f first c b) ≡ if_in w both c b
      by true s false x y z parts = absurd (true≢false (grind (arith, x, z, parts.0)))
      by true s true x y z parts = unchanged (clean_batch_by_part second now) (cleaned_in_part first c b) (own x)
      by false true false x y z parts = absurd (true≢false (grind (arith, y, z, parts.0)))
      by false true true x y z parts = ap (λ (t : Bool). if_in t second now b) y ∙ rest_same b there (grind (arith, y)) (grind (arith, ints, y))
      by false false true x y z parts = absurd (true≢false (grind (arith, x, y, z, parts.0)))
      by false false false x y z parts = ap (λ (t : Bool). if_in t second now b) y

  pub adjacent_content : clean_part second now ≡ clean_part both c
  adjacent_content =
      let same = filter_map_then (clean_batch_by_part first c) (clean_batch_by_part second now) (clean_batch_by_part both c) c.kept
      (all_from_at first_offset (λ (b : BatchValue). option_and_then (clean_batch_by_part second now) (clean_batch_by_part first c b) ≡ clean_batch_by_part both c b) c.start c.kept (bases_rise c content) step) in
      λ i. record { start = c.start; cover = c.cover; kept = same i }

  -- ---- the reports

  second_batches : filter (is_in_part second) now.kept ≡ filter (is_in_part second) c.kept
  second_batches = filter_mapped (clean_batch_by_part first c) (is_in_part second) c.kept
      (all_from_at first_offset (IsUntouched (clean_batch_by_part first c) (is_in_part second)) c.start c.kept (bases_rise c content) (λ b there. by b there (is_in_part first b) refl))
    where
      by : (b : BatchValue) → look_up first_offset (first_offset b) c.kept ≡ Some b → (t : Bool) → is_in_part first b ≡ t → IsUntouched (clean_batch_by_part first c) (is_in_part second) b
      by b there false is = inl (ap (λ (t : Bool). cond t (cleaned_in_part first c b) (Some b)) is)
      by b there true is =
          let span : first_offset b ≤ℤ last_offset b = spans b there in
          inr (grind (arith, ints, span, is), λ z e. let base : first_offset z ≡ first_offset b = ap (λ (h : BatchHead). h.base) (part_head z b (part_batch_thins first c b z e)) in grind (arith, ints, base, span, is))

  -- a count of the second part's records, by a test that is the same before and behind the first
  count_second : (before after : LogRecord → Bool) → ((o : ℤ) (r : RecordValue) (has : HasRecord c.kept o r) → is_cleanable u has.batch ≡ true → mid ≤ℤ first_offset has.batch → after (o, r) ≡ before (o, r)) → count_by after (part_records second now) ≡ count_by before (part_records second c)
  count_second before after same =
      ap (λ (bs : Batches). count_by after (log_records bs)) second_batches
      ∙ count_same after before (part_records second c)
      (all_from_at offset_in_log (λ (x : LogRecord). after x ≡ before x) c.start (part_records second c) (reached_rise c content (is_in_part second) (λ x. true))
      (λ x e. let of = of_reached c content (is_in_part second) (λ x. true) x e in let is = of.1 in same x.0 x.1 of.0 (grind (arith, is)) (grind (arith, ints, is))))

  abbrev takes_tombstone : CleaningPart → Content → LogRecord → Bool
  takes_tombstone p x y = not (is_superseded x u y) && is_expired_in_part p x y

  splits : AllByRecursion (IsSplit (is_in_part both) (is_in_part first) (is_in_part second)) c.kept
  splits = all_from_at first_offset (IsSplit (is_in_part both) (is_in_part first) (is_in_part second)) c.start c.kept (bases_rise c content) split

  records_add : count_by (is_superseded c u) (part_records both c) ≡ count_by (is_superseded c u) (part_records first c) + count_by (is_superseded now u) (part_records second now)
  records_add =
      let whole = count_split (is_superseded c u) (is_in_part both) (is_in_part first) (is_in_part second) c.kept splits in
      let later = count_second (is_superseded c u) (is_superseded now u) (λ o r has cleanable least. sup_same o r has least) in
      whole ∙ ap (λ (n : ℕ). count_by (is_superseded c u) (part_records first c) + n) (sym later)

  tombstones_add : count_by (takes_tombstone both c) (part_records both c) ≡ count_by (takes_tombstone first c) (part_records first c) + count_by (takes_tombstone second now) (part_records second now)
  tombstones_add =
      let whole = count_split (takes_tombstone both c) (is_in_part both) (is_in_part first) (is_in_part second) c.kept splits in
      let later = count_second (takes_tombstone both c) (takes_tombstone second now) (λ o r has cleanable least. let sup = sup_same o r has least in let old = expired_same o r has cleanable least in λ i. not (sup i) && old i) in
      whole ∙ ap (λ (n : ℕ). count_by (takes_tombstone first c) (part_records first c) + n) (sym later)

  batches_add : length c.kept - length (clean_part both c).kept ≡ (length c.kept - length now.kept) + (length now.kept - length (clean_part second now).kept)
  batches_add =
      let same : length (clean_part both c).kept ≡ length (clean_part second now).kept = ap (λ (x : Content). length x.kept) (sym adjacent_content) in
      let less = filter_map_less (clean_batch_by_part first c) c.kept in
      let fewer = filter_map_less (clean_batch_by_part second now) now.kept in
      ap (λ (n : ℕ). length c.kept - n) same ∙ sub (length c.kept) (length now.kept) (length (clean_part second now).kept) less fewer
    where
      sub : (a b e : ℕ) → b ≤ a → e ≤ b → a - e ≡ (a - b) + (b - e)
      sub a b e p q = omega (arith, p, q)

  pub adjacent_report : part_report both c ≡ sum_of_reports (part_report first c) (part_report second now)
  adjacent_report = λ i. record { records = records_add i; tombstones = tombstones_add i; batches = batches_add i }
