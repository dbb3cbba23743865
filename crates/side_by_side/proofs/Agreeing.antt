-- Two copies agree at a base offset exactly where what they keep there begins and ends on one side of the merged start, and,
-- from that start on, is compared and found alike.
use Rattle.std.proofs.Common.{◌≡◌, ℤ, ◌+ℤ◌, Bool, true, false, not, Option, Some, None, refl, sym, ap, subst, ◌∙◌, arith, IsTrue, FitsSigned, to_z, of_z}
use Rattle.std.specs.Prelude.{◌↔◌, ◌≤ℤ◌, ◌<ℤ◌}
use Rattle.std.specs.Int.{w64}
use Rattle.std.proofs.lemmas.Int.{ints, by_lt_z, to_z-of_z}
use Rattle.batch_codec.specs.declared.head.BatchHead.{BatchHead}
use Rattle.batch_codec.specs.Values.{BatchValue}
use Rattle.batch_codec.specs.Offsets.{first_offset, last_offset}
use Rattle.cover_ranges.specs.Runs.{Runs, covers, CoversAll, CoversAny}
use Rattle.content.specs.ByOffset.{look_up}
use Rattle.content.specs.Content.{Content, IsContent}
use Rattle.content.specs.Joins.{greater_start, FitsAt, AreAlikeAt, AgreeAt}
use Rattle.content_laws.proofs.ByOffset.{look_up-offset}
use Rattle.side_by_side.specs.Agreement.{AreAlike, CoversAllOrNone}

-- ---- all of a span, or none of it

not_is : (t : Bool) → IsTrue (not t) → t ≡ false
not_is true e = absurd cc
not_is false e = refl

pub none_or_part : (runs : Runs) (x : BatchValue) (first last : ℤ) (all any : Bool) → first ≡ first_offset x → last ≡ last_offset x → all ≡ false
    → (IsTrue all ↔ CoversAll runs first last) → (IsTrue any ↔ CoversAny runs first last) → (IsTrue (not any) ↔ CoversAllOrNone runs x)
none_or_part runs x first last all any is_first is_last part whole some = (
  λ none o from to. let e : any ≡ false = not_is any none in unseen o e (omega (arith, ints, is_first, from)) (omega (arith, ints, is_last, to))
      ∙ sym (unseen (first_offset x) e (omega (arith, ints, is_first)) (omega (arith, ints, is_first, is_last, from, to))),
  λ same. by same any refl,
)
  where
    unseen : (o : ℤ) → any ≡ false → first ≤ℤ o → o ≤ℤ last → covers runs o ≡ false
    unseen o e from to = test (covers runs o) refl
      where
        clash : any ≡ true → ⊥
        clash g = cc

        test : (t : Bool) → covers runs o ≡ t → covers runs o ≡ false
        test true f = absurd (clash (some.1 (o, from, to, f)))
        test false f = f

    clash : all ≡ true → ⊥
    clash g = cc

    by : CoversAllOrNone runs x → (t : Bool) → any ≡ t → IsTrue (not any)
    by same true e =
        let found = some.0 e in
        let at_first : covers runs (first_offset x) ≡ true = sym (same found.0 (omega (arith, ints, is_first, found.1)) (omega (arith, ints, is_last, found.2))) ∙ found.3 in
        absurd (clash (whole.1 (λ k from to. same k (omega (arith, ints, is_first, from)) (omega (arith, ints, is_last, to)) ∙ at_first)))
    by same false e = ap not e

-- ---- at one base

none_some : (z : Option BatchValue) (x : BatchValue) → z ≡ None → z ≡ Some x → ⊥
none_some z x e f = cc

same_some : (z : Option BatchValue) (x y : BatchValue) → z ≡ Some x → z ≡ Some y → x ≡ y
same_some z x y e f = cc

pub agree_nowhere : (a b : Content) (k : ℤ) → look_up first_offset k a.kept ≡ None → look_up first_offset k b.kept ≡ None → AgreeAt a b k
agree_nowhere a b k left right = (
  λ x e. absurd (none_some (look_up first_offset k a.kept) x left e),
  λ y e. absurd (none_some (look_up first_offset k b.kept) y right e),
  λ x y from e f. absurd (none_some (look_up first_offset k a.kept) x left e),
)

fits_one : (s n : ℤ) (a b : Content) (x : BatchValue) → look_up first_offset n a.kept ≡ Some x → s ≤ℤ n → CoversAllOrNone b.cover x → FitsAt s a b n
fits_one s n a b x there least all z e =
    let base : first_offset x ≡ n = look_up-offset first_offset n a.kept x there in
    subst (λ (w : BatchValue). (n <ℤ s → last_offset w <ℤ s) × (s ≤ℤ n → (o : ℤ) → n ≤ℤ o → o ≤ℤ last_offset w → covers b.cover o ≡ covers b.cover n))
    (same_some (look_up first_offset n a.kept) x z there e)
    (λ less. absurd (omega (arith, ints, less, least)), λ from o low high. all o (omega (arith, ints, base, low)) high ∙ ap (covers b.cover) base)

fits_none : (s n : ℤ) (a b : Content) → look_up first_offset n a.kept ≡ None → FitsAt s a b n
fits_none s n a b none z e = absurd (none_some (look_up first_offset n a.kept) z none e)

one_fits : (s n : ℤ) (a b : Content) (x : BatchValue) → look_up first_offset n a.kept ≡ Some x → s ≤ℤ n → FitsAt s a b n → CoversAllOrNone b.cover x
one_fits s n a b x there least fits o low high =
    let base : first_offset x ≡ n = look_up-offset first_offset n a.kept x there in
    (fits x there).1 least o (omega (arith, ints, base, low)) high ∙ sym (ap (covers b.cover) base)

-- a batch whose span is that of a batch that the other copy keeps
fits_both : (s n : ℤ) (a b : Content) (x y : BatchValue) → IsContent b → look_up first_offset n a.kept ≡ Some x → look_up first_offset n b.kept ≡ Some y → s ≤ℤ n → x.head ≡ y.head → FitsAt s a b n
fits_both s n a b x y is_b left right least head =
    let base : first_offset x ≡ n = look_up-offset first_offset n a.kept x left in
    let ends : last_offset x ≡ last_offset y = ap (λ (h : BatchHead). h.base +ℤ h.last_delta) head in
    fits_one s n a b x left least
    (λ o low high. is_b.inside n o y right (omega (arith, ints, base, low)) (omega (arith, ints, ends, high))
    ∙ sym (is_b.inside n (first_offset x) y right (omega (arith, ints, base)) (omega (arith, ints, ends, low, high))))

alike_both : (s n : ℤ) (a b : Content) (x y : BatchValue) → look_up first_offset n a.kept ≡ Some x → look_up first_offset n b.kept ≡ Some y → AreAlike x y → AreAlikeAt s a b n
alike_both s n a b x y left right alike u v from e f =
    subst (λ (w : BatchValue). AreAlike u w) (same_some (look_up first_offset n b.kept) y v right f)
    (subst (λ (w : BatchValue). AreAlike w y) (same_some (look_up first_offset n a.kept) x u left e) alike)

-- below the merged start

below_one : (s n : ℤ) (a b : Content) (x : BatchValue) → look_up first_offset n a.kept ≡ Some x → n <ℤ s → last_offset x <ℤ s → FitsAt s a b n
below_one s n a b x there less ends z e = (
  λ _. subst (λ (w : BatchValue). last_offset w <ℤ s) (same_some (look_up first_offset n a.kept) x z there e) ends,
  λ from. absurd (omega (arith, ints, less, from)),
)

not_alike_below : (s n : ℤ) (a b : Content) → n <ℤ s → AreAlikeAt s a b n
not_alike_below s n a b less left right from e f = absurd (omega (arith, ints, less, from))

-- what begins below the merged start ends below it, and only what begins from there on is compared
abbrev AgreeOn : (start n : ℤ) → (Ends Alike : Type 0) → Type 0
AgreeOn start n Ends Alike = (n <ℤ start → Ends) × (start ≤ℤ n → Alike)

pub agree_left : (a b : Content) (x : BatchValue) → look_up first_offset (first_offset x) a.kept ≡ Some x → look_up first_offset (first_offset x) b.kept ≡ None
    → AgreeOn (greater_start a b) (first_offset x) (last_offset x <ℤ greater_start a b) (CoversAllOrNone b.cover x) ↔ AgreeAt a b (first_offset x)
agree_left a b x left right =
    let s = greater_start a b in
    let n = first_offset x in (
      λ on. by_lt_z n s
          (λ less. (below_one s n a b x left less (on.0 less), fits_none s n b a right, not_alike_below s n a b less))
          (λ from. (fits_one s n a b x left from (on.1 from), fits_none s n b a right, λ u v _ e f. absurd (none_some (look_up first_offset n b.kept) v right f))),
      λ agree. (λ less. (agree.0 x left).0 less, λ from. one_fits s n a b x left from agree.0),
    )

pub agree_right : (a b : Content) (y : BatchValue) → look_up first_offset (first_offset y) a.kept ≡ None → look_up first_offset (first_offset y) b.kept ≡ Some y
    → AgreeOn (greater_start a b) (first_offset y) (last_offset y <ℤ greater_start a b) (CoversAllOrNone a.cover y) ↔ AgreeAt a b (first_offset y)
agree_right a b y left right =
    let s = greater_start a b in
    let n = first_offset y in (
      λ on. by_lt_z n s
          (λ less. (fits_none s n a b left, below_one s n b a y right less (on.0 less), not_alike_below s n a b less))
          (λ from. (fits_none s n a b left, fits_one s n b a y right from (on.1 from), λ u v _ e f. absurd (none_some (look_up first_offset n a.kept) u left e))),
      λ agree. (λ less. (agree.1 y right).0 less, λ from. one_fits s n b a y right from agree.1),
    )

pub agree_both : (a b : Content) (x y : BatchValue) → IsContent a → IsContent b → look_up first_offset (first_offset x) a.kept ≡ Some x → look_up first_offset (first_offset x) b.kept ≡ Some y
    → AgreeOn (greater_start a b) (first_offset x) ((last_offset x <ℤ greater_start a b) × (last_offset y <ℤ greater_start a b)) (AreAlike x y) ↔ AgreeAt a b (first_offset x)
agree_both a b x y is_a is_b left right =
    let s = greater_start a b in
    let n = first_offset x in (
      λ on. by_lt_z n s
          (λ less. (below_one s n a b x left less (on.0 less).0, below_one s n b a y right less (on.0 less).1, not_alike_below s n a b less))
          (λ from. let alike = on.1 from in (fits_both s n a b x y is_b left right from alike.0, fits_both s n b a y x is_a right left from (sym alike.0), alike_both s n a b x y left right alike)),
      λ agree. (λ less. ((agree.0 x left).0 less, (agree.1 y right).0 less), λ from. agree.2 x y from left right),
    )

-- ---- as code has it

-- a number that is passed on by value
pub passed_on : (x z : ℤ) → FitsSigned w64 x → x ≡ z → to_z w64 (of_z w64 x) ≡ z
passed_on x z fits is = to_z-of_z w64 x fits ∙ is

pub some_next : (has done : Bool) → has ≡ not done → has ≡ true → done ≡ false
some_next has true is e = absurd cc
some_next has false is e = refl

pub none_next : (has done : Bool) → has ≡ not done → has ≡ false → done ≡ true
none_next has true is e = refl
none_next has false is e = absurd cc
