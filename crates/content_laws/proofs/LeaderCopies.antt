-- Windows of copies. Where a producer's epochs never fall, the batches that a copy keeps have the
-- window of all that it has seen; a leader's copy has seen its log from the start on.
use Rattle.std.proofs.Common.{◌≡◌, ℤ, pos, ◌+ℤ◌, Bool, true, false, cond, ◌&&◌, ◌||◌, inl, inr, [], ◌∷◌, ◌++◌, Option, Some, None, refl, sym, ap, subst, ◌∙◌, true≢false, arith}
use Rattle.std.specs.Prelude.{◌≤ℤ◌, ◌<ℤ◌, int_lt, int_le, is_some, IsSome, if◌then◌else◌}
use Rattle.std.specs.List.{filter, list_all}
use Rattle.std.specs.Option.{option_map, option_and_then, option_or}
use Rattle.std.specs.Ordering.{int_eq}
use Rattle.std.specs.Int.{int_max}
use Rattle.std.proofs.lemmas.Int.{ints, clamps}
use Rattle.std.proofs.lemmas.List.{map-append}
use Rattle.std.proofs.lemmas.List.Sums.{fold-append}
use Rattle.std.proofs.lemmas.List.Folds.{find-append}
use Rattle.batch_codec.specs.declared.head.BatchHead.{BatchHead}
use Rattle.batch_codec.specs.Values.{BatchValue}
use Rattle.batch_codec.specs.Offsets.{first_offset, last_offset}
use Rattle.cover_ranges.specs.Runs.{covers, has_all, is_within}
use Rattle.cover_ranges.proofs.RunSets.{range_covers, cut_covers}
use Rattle.cover_ranges.proofs.RunEnds.{has_all_covers, covers_has_all}
use Rattle.content.specs.ByOffset.{look_up, Rises}
use Rattle.content.specs.Windows.{heads, is_in_window, window, heads_from, EpochsNeverFall}
use Rattle.content.specs.Content.{Content, IsContent, has_seen_all, with_batch, HasSeenNone, add, cut, IsAcceptedStart}
use Rattle.content.specs.declared.part.CleaningPart.{CleaningPart}
use Rattle.content.specs.Cleaning.{clean}
use Rattle.content.specs.Parts.{clean_part}
use Rattle.content.specs.Logs.{IsPlainLog, IsBoundary, next_offset, is_inside, heads_inside}
use Rattle.content.specs.LegalLogs.{IsNew, IsLegalAfter, IsLeaderCopy}
use Rattle.content.specs.Copies.{IsCopy}
use Rattle.content_laws.proofs.ByOffset.{look_up-low, look_up-filter, rises-filter, all_from_at}
use Rattle.content_laws.proofs.Windows.{Heads, base_of, from, filter_same, window_is}
use Rattle.content_laws.proofs.WindowPart.{newest_part}
use Rattle.content_laws.proofs.Epochs.{never_falls_is}
use Rattle.content_laws.proofs.Legal.{legal_epochs, legal-push, legal_raise, plain_rises}
use Rattle.content_laws.proofs.PlainLogs.{Batches, IsIn, log_batch, span_of, plain-rises, at_base, below_end}
use Rattle.content_laws.proofs.ContentSteps.{content_with_batch, content_cut}
use Rattle.content_laws.proofs.CopyAdd.{copy_with_batch}
use Rattle.content_laws.proofs.CopyGrow.{plain_front, last_base, copy_of_longer}
use Rattle.content_laws.proofs.CopyCut.{copy_of_cut}
use Rattle.content_laws.proofs.CopyStarts.{accepted_boundary, accepted_in_range}
use Rattle.content_laws.proofs.CopyClean.{kept_heads, look_up-heads, rises-heads, copy_of_clean, copy_of_part}

-- ---- entries that pass a test

found_batch : (k : ℤ) (bs : Batches) (x : BatchHead) → look_up base_of k (heads bs) ≡ Some x → (b : BatchValue) × (look_up first_offset k bs ≡ Some b) × (b.head ≡ x)
found_batch k bs x e = by (look_up first_offset k bs) refl (sym (look_up-heads k bs) ∙ e)
  where
    by : (o : Option BatchValue) → look_up first_offset k bs ≡ o → option_map (λ (b : BatchValue). b.head) o ≡ Some x → (b : BatchValue) × (look_up first_offset k bs ≡ Some b) × (b.head ≡ x)
    by None f g = absurd cc
    by (Some b) f g = (b, f, cc)

all_of_filter : (t q : BatchHead → Bool) (low : ℤ) (hs : Heads) → Rises base_of low hs → ((x : BatchHead) → look_up base_of x.base hs ≡ Some x → q x ≡ true → t x ≡ true) → list_all t (filter q hs) ≡ true
all_of_filter t q low [] rise each = refl
all_of_filter t q low (h ∷ later) rise each = by (q h) refl (all_of_filter t q (h.base +ℤ pos 1) later rise.1 (λ x e own. each x (behind x e) own))
  where
    behind : (x : BatchHead) → look_up base_of x.base later ≡ Some x → look_up base_of x.base (h ∷ later) ≡ Some x
    behind x e = grind (arith, ints, e, look_up-low base_of (h.base +ℤ pos 1) x.base later rise.1)

    by : (b : Bool) → q h ≡ b → list_all t (filter q later) ≡ true → list_all t (cond b (h ∷ filter q later) (filter q later)) ≡ true
    by true own rest = let here : t h ≡ true = each h (grind (arith, ints)) own in grind (arith, here, rest)
    by false own rest = rest

-- ---- the window of what a copy keeps

pub window_of_copy : (c : Content) (log : Batches) (p : ℤ) → IsContent c → IsPlainLog log → IsCopy c log → pos 0 ≤ℤ p → EpochsNeverFall p (heads_inside c.cover log) → window (heads c.kept) p ≡ window (heads_inside c.cover log) p
window_of_copy c log p content plain copy least falls =
    ap (λ (hs : Heads). window hs p) (kept_heads c log content plain copy)
    ∙ window_is p (pos 0) (filter test (heads_inside c.cover log)) (rises-filter base_of test (pos 0) (heads_inside c.cover log) rise)
    ∙ newest_part p test (heads_inside c.cover log) (never_falls_is p (heads_inside c.cover log) falls) (ap (list_all test) (sym (window_is p (pos 0) (heads_inside c.cover log) rise)) ∙ passes)
    ∙ sym (window_is p (pos 0) (heads_inside c.cover log) rise)
  where
    test : BatchHead → Bool
    test x = is_some (look_up base_of x.base (heads c.kept))

    rise : Rises base_of (pos 0) (heads_inside c.cover log)
    rise = rises-heads (pos 0) (filter (is_inside c.cover) log) (rises-filter first_offset (is_inside c.cover) (pos 0) log (plain-rises 0 log plain))

    kept_has : (x : BatchHead) → look_up base_of x.base (heads_inside c.cover log) ≡ Some x → (int_eq x.producer p && is_in_window (heads_inside c.cover log) x) ≡ true → test x ≡ true
    kept_has x e own =
        let found = found_batch x.base (filter (is_inside c.cover) log) x e in
        let inner = inside_of (look_up first_offset x.base log) found.0 (sym (look_up-filter first_offset (is_inside c.cover) (pos 0) x.base log (plain-rises 0 log plain)) ∙ found.1) in
        let mine : x.producer ≡ p = grind (arith, ints, own) in
        let producer : pos 0 ≤ℤ found.0.head.producer = subst (λ (h : BatchHead). pos 0 ≤ℤ h.producer) (sym found.2) (subst (λ (q : ℤ). pos 0 ≤ℤ q) (sym mine) least) in
        let newest : is_in_window (heads_inside c.cover log) x ≡ true = grind (arith, own) in
        let kept : IsSome (look_up first_offset x.base c.kept) = copy.window x.base found.0 inner.0 inner.1 producer (subst (λ (h : BatchHead). is_in_window (heads_inside c.cover log) h ≡ true) (sym found.2) newest) in
        ap is_some (look_up-heads x.base c.kept) ∙ some_head (look_up first_offset x.base c.kept) kept
      where
        some_head : (o : Option BatchValue) → IsSome o → is_some (option_map (λ (b : BatchValue). b.head) o) ≡ true
        some_head None e = e
        some_head (Some b) e = refl

        inside_of : (o : Option BatchValue) (b : BatchValue) → option_and_then (λ (y : BatchValue). if is_inside c.cover y then Some y else None) o ≡ Some b → (o ≡ Some b) × (is_inside c.cover b ≡ true)
        inside_of None b f = absurd cc
        inside_of (Some y) b f = by (is_inside c.cover y) refl f
          where
            by : (t : Bool) → is_inside c.cover y ≡ t → cond t (Some y) None ≡ Some b → (Some y ≡ Some b) × (is_inside c.cover b ≡ true)
            by true is g = let same : y ≡ b = cc in (g, subst (λ (z : BatchValue). is_inside c.cover z ≡ true) same is)
            by false is g = absurd cc

    passes : list_all test (window (heads_inside c.cover log) p) ≡ true
    passes = all_of_filter test (λ x. int_eq x.producer p && is_in_window (heads_inside c.cover log) x) (pos 0) (heads_inside c.cover log) rise kept_has

-- ---- a leader's copy

module _ (c : Content) (log : Batches) (content : IsContent c) (plain : IsPlainLog log) (leads : IsLeaderCopy c log) where
  -- all of the log's batches from the start on were seen
  inside_is : (y : BatchValue) → IsIn log y → is_inside c.cover y ≡ int_le c.start (first_offset y)
  inside_is y there = by (is_inside c.cover y) (int_le c.start (first_offset y)) refl refl
    where
      span : first_offset y ≤ℤ last_offset y
      span = (span_of y (log_batch 0 log y plain there)).0

      ends : last_offset y <ℤ next_offset log
      ends = below_end 0 log y plain there

      down : is_inside c.cover y ≡ true → int_le c.start (first_offset y) ≡ true
      down e = let least : c.start ≤ℤ first_offset y = content.above (first_offset y) (has_all_covers c.cover (first_offset y) (last_offset y) e (first_offset y) (omega (arith, ints)) span) in grind (arith, ints)

      up : int_le c.start (first_offset y) ≡ true → is_inside c.cover y ≡ true
      up e = covers_has_all c.cover (first_offset y) (last_offset y) content.canonical (λ o low high. leads.whole o ∙ grind (arith, ints, e, low, high, ends))

      by : (p q : Bool) → is_inside c.cover y ≡ p → int_le c.start (first_offset y) ≡ q → p ≡ q
      by true q e f = sym (down e) ∙ f
      by false true e f = sym e ∙ up f
      by false false e f = refl

  heads_of_filter : (bs : Batches) → heads (filter (λ (b : BatchValue). int_le c.start (first_offset b)) bs) ≡ heads_from c.start (heads bs)
  heads_of_filter [] = refl
  heads_of_filter (b ∷ bs) = by (int_le c.start (first_offset b)) (heads_of_filter bs)
    where
      by : (t : Bool) → heads (filter (λ (x : BatchValue). int_le c.start (first_offset x)) bs) ≡ heads_from c.start (heads bs)
          → heads (cond t (b ∷ filter (λ (x : BatchValue). int_le c.start (first_offset x)) bs) (filter (λ (x : BatchValue). int_le c.start (first_offset x)) bs)) ≡ cond t (b.head ∷ heads_from c.start (heads bs)) (heads_from c.start (heads bs))
      by true ih = ap (λ (hs : Heads). b.head ∷ hs) ih
      by false ih = ih

  pub leader_inside : heads_inside c.cover log ≡ heads_from c.start (heads log)
  leader_inside = ap heads (filter_same (is_inside c.cover) (λ (y : BatchValue). int_le c.start (first_offset y)) log (all_from_at first_offset (λ (y : BatchValue). is_inside c.cover y ≡ int_le c.start (first_offset y)) (pos 0) log (plain-rises 0 log plain) inside_is)) ∙ heads_of_filter log

  pub leader_window : (p : ℤ) → pos 0 ≤ℤ p → window (heads c.kept) p ≡ window (heads_from c.start (heads log)) p
  leader_window p least =
      let falls = legal_epochs c.start (pos 0) [] (heads log) leads.legal.0 (plain_rises 0 log plain) (λ q low i j d less within. absurd (omega arith)) leads.legal.1 in
      window_of_copy c log p content plain leads.copy least (subst (EpochsNeverFall p) (sym leader_inside) (falls p least)) ∙ ap (λ (hs : Heads). window hs p) leader_inside

-- ---- a leader's copy stays one

pub leader_clean : (u d : ℤ) (c : Content) (log : Batches) → IsContent c → IsPlainLog log → IsLeaderCopy c log → IsLeaderCopy (clean u d c) log
leader_clean u d c log content plain leads = record {
  copy = copy_of_clean u d c log content plain leads.copy;
  whole = leads.whole;
  legal = leads.legal;
}

pub leader_part : (p : CleaningPart) (c : Content) (log : Batches) → IsContent c → IsPlainLog log → IsLeaderCopy c log → IsLeaderCopy (clean_part p c) log
leader_part p c log content plain leads = record {
  copy = copy_of_part p c log content plain leads.copy;
  whole = leads.whole;
  legal = leads.legal;
}

pub leader_cut : (c : Content) (start : ℤ) (log : Batches) → IsContent c → IsPlainLog log → IsLeaderCopy c log → IsAcceptedStart c start → IsLeaderCopy (cut start c) log
leader_cut c start log content plain leads accepted = record {
  copy = copy_of_cut c start log content plain leads.copy (accepted_boundary c log content plain leads.copy start accepted) accepted.from_start
      (content_cut c start content accepted.from_start (accepted_in_range c log content plain leads.copy start accepted));
  whole = λ o. cut_covers start c.cover o ∙ ap (λ (t : Bool). t && int_le start o) (leads.whole o) ∙ later c.start start (next_offset log) o accepted.from_start;
  legal = (leads.legal.0, legal_raise c.start start (pos 0) [] (heads log) leads.legal.0 accepted.from_start leads.legal.1);
}
  where
    later : (s t e o : ℤ) → s ≤ℤ t → ((int_le s o && int_lt o e) && int_le t o) ≡ (int_le t o && int_lt o e)
    later s t e o less = grind (arith, ints, less)

end_of_longer : (log : Batches) (b : BatchValue) → next_offset (log ++ b ∷ []) ≡ last_offset b +ℤ pos 1
end_of_longer log b = fold-append (λ _ (x : BatchValue). last_offset x +ℤ pos 1) (pos 0) log (b ∷ [])

module _ (c : Content) (b : BatchValue) (log : Batches) (content : IsContent c) (plain : IsPlainLog (log ++ b ∷ [])) (leads : IsLeaderCopy c log) where
  front : IsPlainLog log
  front = plain_front 0 log b plain

  first_is : first_offset b ≡ next_offset log
  first_is = last_base 0 log b plain

  in_longer : look_up first_offset (first_offset b) (log ++ b ∷ []) ≡ Some b
  in_longer = find-append (λ (x : BatchValue). int_eq (first_offset x) (first_offset b)) log (b ∷ []) ∙ by (look_up first_offset (first_offset b) log) refl
    where
      by : (z : Option BatchValue) → look_up first_offset (first_offset b) log ≡ z → option_or z (look_up first_offset (first_offset b) (b ∷ [])) ≡ Some b
      by None e = grind (arith, ints)
      by (Some y) e =
          let found = at_base log (first_offset b) y e in
          let span : first_offset y ≤ℤ last_offset y = (span_of y (log_batch 0 log y front found.1)).0 in
          let below : last_offset y <ℤ next_offset log = below_end 0 log y front found.1 in
          absurd (omega (arith, ints, found.0, first_is))

  span_b : first_offset b ≤ℤ last_offset b
  span_b = (span_of b (log_batch 0 (log ++ b ∷ []) b plain in_longer)).0

  start_to_end : c.start ≤ℤ next_offset log
  start_to_end = by leads.copy.boundary
    where
      at : (o : Option BatchValue) → look_up first_offset c.start log ≡ o → IsSome o → c.start ≤ℤ next_offset log
      at None e some = absurd (true≢false (sym some))
      at (Some y) e some =
          let found = at_base log c.start y e in
          let span : first_offset y ≤ℤ last_offset y = (span_of y (log_batch 0 log y front found.1)).0 in
          let below : last_offset y <ℤ next_offset log = below_end 0 log y front found.1 in
          omega (arith, ints, found.0)

      by : IsBoundary log c.start → c.start ≤ℤ next_offset log
      by (inl same) = omega (arith, ints, same)
      by (inr some) = at (look_up first_offset c.start log) refl some

  none_seen : HasSeenNone c b
  none_seen o from to = (omega (arith, ints, from, start_to_end, first_is), leads.whole o ∙ grind (arith, ints, from, first_is))

  not_all_seen : has_seen_all c b ≡ false
  not_all_seen = by (has_seen_all c b) refl
    where
      clash : has_seen_all c b ≡ true → ⊥
      clash e =
          let same : int_max c.start (first_offset b) ≡ first_offset b = omega (arith, ints, clamps, start_to_end, first_is) in
          let all : has_all c.cover (first_offset b) (last_offset b) ≡ true = ap (λ (o : ℤ). has_all c.cover o (last_offset b)) (sym same) ∙ e in
          let seen : covers c.cover (first_offset b) ≡ true = has_all_covers c.cover (first_offset b) (last_offset b) all (first_offset b) (omega (arith, ints)) span_b in
          true≢false (sym seen ∙ (none_seen (first_offset b) (omega (arith, ints)) span_b).1)

      by : (t : Bool) → has_seen_all c b ≡ t → has_seen_all c b ≡ false
      by true e = absurd (clash e)
      by false e = e

  add_is : add c b ≡ with_batch c b
  add_is = ap (λ (t : Bool). cond t c (with_batch c b)) not_all_seen

  covers_longer : (o : ℤ) → covers (with_batch c b).cover o ≡ (int_le c.start o && int_lt o (next_offset (log ++ b ∷ [])))
  covers_longer o = range_covers (first_offset b) (last_offset b) c.cover o ∙ ap (λ (t : Bool). t || is_within o (first_offset b, last_offset b)) (leads.whole o)
      ∙ joined c.start (first_offset b) (last_offset b) (next_offset log) o first_is start_to_end span_b ∙ ap (λ (e : ℤ). int_le c.start o && int_lt o e) (sym (end_of_longer log b))
    where
      joined : (s f l e o : ℤ) → f ≡ e → s ≤ℤ e → f ≤ℤ l → ((int_le s o && int_lt o e) || is_within o (f, l)) ≡ (int_le s o && int_lt o (l +ℤ pos 1))
      joined s f l e o same least span = grind (arith, ints)

  pub leader_append : IsNew (heads log) c.start b.head → IsLeaderCopy (add c b) (log ++ b ∷ [])
  leader_append new = subst (λ (n : Content). IsLeaderCopy n (log ++ b ∷ [])) (sym add_is) (record {
    copy = copy_with_batch c b (log ++ b ∷ []) content plain (copy_of_longer c log b content plain leads.copy) in_longer none_seen (content_with_batch c b content (log_batch 0 (log ++ b ∷ []) b plain in_longer) none_seen);
    whole = covers_longer;
    legal = (
      leads.legal.0 ++ c.start ∷ [],
      subst (λ (hs : Heads). IsLegalAfter [] (pos 0) hs (leads.legal.0 ++ c.start ∷ []) c.start) (sym (map-append (λ (x : BatchValue). x.head) log (b ∷ [])))
          (legal-push c.start (pos 0) [] (heads log) leads.legal.0 b.head content.in_range.0 leads.legal.1 new),
    );
  })
