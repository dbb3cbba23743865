-- The test of agreement finds out whether two copies agree. Each of its three parts goes over kept batches, and says of
-- each what the definition says of a batch that is looked up by its base.
use Rattle.std.proofs.Common.{◌≡◌, ℤ, ◌≤ℤ◌, ◌<ℤ◌, Bool, true, false, not, ◌&&◌, ◌||◌, cond, List, [], ◌∷◌, ◌++◌, Option, Some, None, refl, sym, ap, subst, ◌∙◌, arith}
use Rattle.std.specs.Prelude.{◌↔◌, int_lt, int_le, is_some, if◌then◌else◌}
use Rattle.std.specs.Int.{int_max}
use Rattle.std.specs.List.{All, AllByRecursion, list_all}
use Rattle.std.proofs.lemmas.Int.{ints, clamps}
use Rattle.std.proofs.lemmas.List.Elements.{All-head, All-tail}
use Rattle.std.proofs.lemmas.Slice.Eq.{bytes_eq-Decides}
use Rattle.batch_codec.specs.Values.{RecordValue, BatchValue}
use Rattle.batch_codec.specs.Grammar.{batch_encoding}
use Rattle.batch_codec.specs.Offsets.{first_offset, last_offset}
use Rattle.batch_codec.proofs.Views.{one_encoding}
use Rattle.cover_ranges.specs.Runs.{Runs, IsRun, is_within, covers, IsCanonical, CoversAll, has_all}
use Rattle.cover_ranges.proofs.RunEnds.{has_all_covers, covers_has_all}
use Rattle.content.specs.ByOffset.{look_up}
use Rattle.content.specs.Records.{IsKeepable, record_at_delta, with_common_records}
use Rattle.content.specs.Content.{Content, IsContent}
use Rattle.content.specs.Joins.{greater_start, FitsAt, Agree}
use Rattle.content_laws.proofs.ByOffset.{look_up-offset, all_at, all_from_at}
use Rattle.content_laws.proofs.BatchParts.{keepable-with_records_that, rec_common, common_comm}
use Rattle.content_laws.proofs.Slots.{bases_rise, kept_keepable, kept_ends}
use Rattle.side_by_side.specs.Agreement.{AreAlike}
use Rattle.copy_merge.specs.Agreeing.{has_any, fits, are_alike, is_alike_or_none, agree}

-- ---- tests

both : (a b : Bool) → (a && b) ≡ true → (a ≡ true) × (b ≡ true)
both true b e = (refl, e)
both false b e = absurd (grind (arith, e))

true_both : (a b : Bool) → a ≡ true → b ≡ true → (a && b) ≡ true
true_both a b e f = grind (arith, e, f)

all_pass : {X : Type 0} (p : X → Bool) (xs : List X) → list_all p xs ≡ true → AllByRecursion (λ x. p x ≡ true) xs
all_pass p [] e = tt
all_pass p (x ∷ xs) e = let h = both (p x) (list_all p xs) e in (h.0, all_pass p xs h.1)

pass_all : {X : Type 0} (p : X → Bool) (xs : List X) → AllByRecursion (λ x. p x ≡ true) xs → list_all p xs ≡ true
pass_all p [] all = refl
pass_all p (x ∷ xs) all = true_both (p x) (list_all p xs) all.0 (pass_all p xs all.1)

lower : (a b : ℤ) → int_lt a b ≡ true → a <ℤ b
lower a b e = grind (arith, ints, e)

not_lower : (a b : ℤ) → int_lt a b ≡ false → b ≤ℤ a
not_lower a b e = grind (arith, ints, e)

is_lower : (a b : ℤ) → a <ℤ b → int_lt a b ≡ true
is_lower a b lt = grind (arith, ints, lt)

-- ---- spans that were seen

pub none_covered : (runs : Runs) (first last o : ℤ) → has_any runs first last ≡ false → first ≤ℤ o → o ≤ℤ last → covers runs o ≡ false
none_covered [] first last o none from to = refl
none_covered (run ∷ runs) first last o none from to =
    by (int_le run.0 last && int_le first run.1) refl (has_any runs first last) refl none (λ e. none_covered runs first last o e from to)
  where
    apart : (int_le run.0 last && int_le first run.1) ≡ false → covers runs o ≡ false → (is_within o run || covers runs o) ≡ false
    apart e rest = grind (arith, ints, e, rest, from, to)

    by : (t : Bool) → (int_le run.0 last && int_le first run.1) ≡ t → (u : Bool) → has_any runs first last ≡ u → (t || u) ≡ false → (has_any runs first last ≡ false → covers runs o ≡ false)
        → (is_within o run || covers runs o) ≡ false
    by true e u f h rest = absurd (grind (arith, h))
    by false e true f h rest = absurd (grind (arith, h))
    by false e false f h rest = apart e (rest f)

witness : (run : ℤ × ℤ) (first last : ℤ) → IsRun run → first ≤ℤ last → (int_le run.0 last && int_le first run.1) ≡ true
    → (first ≤ℤ int_max run.0 first) × (int_max run.0 first ≤ℤ last) × (is_within (int_max run.0 first) run ≡ true)
witness run first last is le e =
    let rises = is.1 in
    (omega (arith, ints, clamps), grind (arith, ints, clamps, e, le), grind (arith, ints, clamps, e, rises))

pub covered_none : (runs : Runs) (first last : ℤ) → All IsRun runs → first ≤ℤ last → ((o : ℤ) → first ≤ℤ o → o ≤ℤ last → covers runs o ≡ false) → has_any runs first last ≡ false
covered_none [] first last are le none = refl
covered_none (run ∷ runs) first last are le none =
    by (int_le run.0 last && int_le first run.1) refl (covered_none runs first last (All-tail IsRun run runs are) le (λ o from to. second (is_within o run) (covers runs o) (none o from to)))
  where
    second : (a b : Bool) → (a || b) ≡ false → b ≡ false
    second true b e = absurd (grind (arith, e))
    second false b e = e

    by : (t : Bool) → (int_le run.0 last && int_le first run.1) ≡ t → has_any runs first last ≡ false → (t || has_any runs first last) ≡ false
    by false e rest = rest
    by true e rest =
        let w = witness run first last (All-head IsRun run runs are) le e in
        let there : (true || covers runs (int_max run.0 first)) ≡ false = ap (λ (t : Bool). t || covers runs (int_max run.0 first)) (sym w.2) ∙ none (int_max run.0 first) w.0 w.1 in
        absurd (grind (arith, there))

abbrev FitsSpan : (start : ℤ) → Runs → BatchValue → Type 0
FitsSpan start seen b =
    (first_offset b <ℤ start → last_offset b <ℤ start)
    × (start ≤ℤ first_offset b → (o : ℤ) → first_offset b ≤ℤ o → o ≤ℤ last_offset b → covers seen o ≡ covers seen (first_offset b))

above_not : (a b : ℤ) → a <ℤ b → b ≤ℤ a → ⊥
above_not a b lt le = omega (arith, ints, lt, le)

module _ (start : ℤ) (seen : Runs) (canonical : IsCanonical seen) (b : BatchValue) (ends : first_offset b ≤ℤ last_offset b) where
  abbrev first : ℤ
  first = first_offset b

  abbrev last : ℤ
  last = last_offset b

  alike_span : (all any : Bool) → has_all seen first last ≡ all → has_any seen first last ≡ any → (all || not any) ≡ true
      → (o : ℤ) → first ≤ℤ o → o ≤ℤ last → covers seen o ≡ covers seen first
  alike_span true any e f h o from to =
      let all : CoversAll seen first last = has_all_covers seen first last e in
      all o from to ∙ sym (all first (omega (arith, ints)) ends)
  alike_span false false e f h o from to =
      none_covered seen first last o f from to ∙ sym (none_covered seen first last first f (omega (arith, ints)) ends)
  alike_span false true e f h o from to = absurd (grind (arith, h))

  span_alike : ((o : ℤ) → first ≤ℤ o → o ≤ℤ last → covers seen o ≡ covers seen first) → (has_all seen first last || not (has_any seen first last)) ≡ true
  span_alike same = by (covers seen first) refl
    where
      by : (t : Bool) → covers seen first ≡ t → (has_all seen first last || not (has_any seen first last)) ≡ true
      by true e =
          let all : has_all seen first last ≡ true = covers_has_all seen first last canonical (λ o from to. same o from to ∙ e) in
          ap (λ (t : Bool). t || not (has_any seen first last)) all
      by false e =
          let none : has_any seen first last ≡ false = covered_none seen first last canonical.are_runs ends (λ o from to. same o from to ∙ e) in
          ap (λ (t : Bool). has_all seen first last || not t) none ∙ or_true (has_all seen first last)
        where
          or_true : (t : Bool) → (t || true) ≡ true
          or_true true = refl
          or_true false = refl

  fits_says : fits start seen b ≡ true → FitsSpan start seen b
  fits_says e = by (int_lt first start) refl e
    where
      by : (t : Bool) → int_lt first start ≡ t → cond t (int_lt last start) (has_all seen first last || not (has_any seen first last)) ≡ true → FitsSpan start seen b
      by true below h = (λ _. lower last start h, λ from. absurd (above_not first start (lower first start below) from))
      by false below h = (λ lt. absurd (above_not first start lt (not_lower first start below)), λ _. alike_span (has_all seen first last) (has_any seen first last) refl refl h)

  fits_said : FitsSpan start seen b → fits start seen b ≡ true
  fits_said h = by (int_lt first start) refl
    where
      by : (t : Bool) → int_lt first start ≡ t → cond t (int_lt last start) (has_all seen first last || not (has_any seen first last)) ≡ true
      by true below = is_lower last start (h.0 (lower first start below))
      by false below = span_alike (h.1 (not_lower first start below))

-- ---- batches that both keep

alike_says : (x y : BatchValue) → IsKeepable x → IsKeepable y → are_alike x y ≡ true → AreAlike x y
alike_says x y keep_x keep_y e =
    let xs = with_common_records x y in
    let ys = with_common_records y x in
    let bytes : batch_encoding xs ≡ batch_encoding ys = (bytes_eq-Decides (batch_encoding xs) (batch_encoding ys)).0 e in
    let writable_x = (keepable-with_records_that (λ r. is_some (record_at_delta r.delta y)) x keep_x).0 in
    let writable_y = (keepable-with_records_that (λ r. is_some (record_at_delta r.delta x)) y keep_y).0 in
    let same : xs ≡ ys = (one_encoding xs ys [] [] writable_x writable_y (ap (λ bs. bs ++ []) bytes)).0 in
    (ap (λ (b : BatchValue). b.head) same, λ d r s there also. by d (record_at_delta d x) (record_at_delta d y) r s there also (sym (rec_common d x y) ∙ ap (record_at_delta d) same ∙ rec_common d y x))
  where
    by : (d : ℤ) (u v : Option RecordValue) (r s : RecordValue) → u ≡ Some r → v ≡ Some s → (if is_some v then u else None) ≡ (if is_some u then v else None) → r ≡ s
    by d (Some p) (Some q) r s there also h = let one : p ≡ r = cc in let two : q ≡ s = cc in let three : p ≡ q = cc in sym one ∙ three ∙ two
    by d None v r s there also h = absurd cc
    by d (Some p) None r s there also h = absurd cc

alike_said : (x y : BatchValue) → IsKeepable x → IsKeepable y → AreAlike x y → are_alike x y ≡ true
alike_said x y keep_x keep_y h =
    (bytes_eq-Decides (batch_encoding (with_common_records x y)) (batch_encoding (with_common_records y x))).1
    (ap batch_encoding (common_comm x y keep_x keep_y h.0 h.1))

-- ---- agreement

module _ (a b : Content) (content_a : IsContent a) (content_b : IsContent b) where
  abbrev start : ℤ
  start = greater_start a b

  abbrev alike_test : BatchValue → Bool
  alike_test x = int_lt (first_offset x) start || is_alike_or_none x (look_up first_offset (first_offset x) b.kept)

  pub agree_says : agree a b ≡ true → Agree a b
  unfolding agree
  agree_says e base =
      let parts = both (list_all (fits start b.cover) a.kept) _ e in
      let others = both (list_all (fits start a.cover) b.kept) (list_all alike_test a.kept) parts.1 in (
        fits_at a b content_a content_b.canonical (all_pass (fits start b.cover) a.kept parts.0),
        fits_at b a content_b content_a.canonical (all_pass (fits start a.cover) b.kept others.0),
        λ left right from there also. alike_at left right from there also (all_pass alike_test a.kept others.1),
      )
    where
      fits_at : (x y : Content) → IsContent x → IsCanonical y.cover → AllByRecursion (λ v. fits start y.cover v ≡ true) x.kept → FitsAt start x y base
      fits_at x y content canonical all v there =
          let at : first_offset v ≡ base = look_up-offset first_offset base x.kept v there in
          let ends : first_offset v ≤ℤ last_offset v = subst (λ (o : ℤ). o ≤ℤ last_offset v) (sym at) (kept_ends x base v content there) in
          let says : FitsSpan start y.cover v = fits_says start y.cover canonical v ends (all_at first_offset (λ v. fits start y.cover v ≡ true) base x.kept v all there) in
          subst (λ (o : ℤ). (o <ℤ start → last_offset v <ℤ start) × (start ≤ℤ o → (p : ℤ) → o ≤ℤ p → p ≤ℤ last_offset v → covers y.cover p ≡ covers y.cover o)) at says

      alike_at : (left right : BatchValue) → start ≤ℤ base → look_up first_offset base a.kept ≡ Some left → look_up first_offset base b.kept ≡ Some right
          → AllByRecursion (λ x. alike_test x ≡ true) a.kept → AreAlike left right
      alike_at left right from there also all =
          let at : first_offset left ≡ base = look_up-offset first_offset base a.kept left there in
          let passes : alike_test left ≡ true = all_at first_offset (λ x. alike_test x ≡ true) base a.kept left all there in
          let found : look_up first_offset (first_offset left) b.kept ≡ Some right = ap (λ (o : ℤ). look_up first_offset o b.kept) at ∙ also in
          alike_says left right (kept_keepable a base left content_a there) (kept_keepable b base right content_b also)
          (by (int_lt (first_offset left) start) refl (ap (λ o. int_lt (first_offset left) start || is_alike_or_none left o) (sym found) ∙ passes))
        where
          by : (t : Bool) → int_lt (first_offset left) start ≡ t → (t || are_alike left right) ≡ true → are_alike left right ≡ true
          by true below h = absurd (above_not (first_offset left) start (lower (first_offset left) start below) (subst (λ (o : ℤ). start ≤ℤ o) (sym (look_up-offset first_offset base a.kept left there)) from))
          by false below h = h

  pub agree_said : Agree a b → agree a b ≡ true
  unfolding agree
  agree_said h =
      true_both (list_all (fits start b.cover) a.kept) _
      (pass_all (fits start b.cover) a.kept (all_fit a b content_a content_b.canonical (λ v there. (h (first_offset v)).0 v there)))
      (true_both (list_all (fits start a.cover) b.kept) (list_all alike_test a.kept)
      (pass_all (fits start a.cover) b.kept (all_fit b a content_b content_a.canonical (λ v there. (h (first_offset v)).1 v there)))
      (pass_all alike_test a.kept (all_from_at first_offset (λ x. alike_test x ≡ true) a.start a.kept (bases_rise a content_a) all_alike)))
    where
      all_fit : (x y : Content) → IsContent x → IsCanonical y.cover → ((v : BatchValue) → look_up first_offset (first_offset v) x.kept ≡ Some v → FitsSpan start y.cover v)
          → AllByRecursion (λ v. fits start y.cover v ≡ true) x.kept
      all_fit x y content canonical each =
          all_from_at first_offset (λ v. fits start y.cover v ≡ true) x.start x.kept (bases_rise x content)
          (λ v there. fits_said start y.cover canonical v (kept_ends x (first_offset v) v content there) (each v there))

      all_alike : (x : BatchValue) → look_up first_offset (first_offset x) a.kept ≡ Some x → alike_test x ≡ true
      all_alike x there = by (int_lt (first_offset x) start) refl (look_up first_offset (first_offset x) b.kept) refl
        where
          by : (t : Bool) → int_lt (first_offset x) start ≡ t → (o : Option BatchValue) → look_up first_offset (first_offset x) b.kept ≡ o → (t || is_alike_or_none x o) ≡ true
          by true below o e = refl
          by false below None e = refl
          by false below (Some y) e =
              alike_said x y (kept_keepable a (first_offset x) x content_a there) (kept_keepable b (first_offset x) y content_b e)
              ((h (first_offset x)).2 x y (not_lower (first_offset x) start below) there e)

pub decided : (a b : Content) → IsContent a → IsContent b → (agree a b ≡ true) ↔ Agree a b
decided a b content_a content_b = (agree_says a b content_a content_b, agree_said a b content_a content_b)
