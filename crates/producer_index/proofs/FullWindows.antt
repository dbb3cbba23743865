-- A window that is full: what lies behind it stays outside of it, whatever goes there.
use Rattle.std.proofs.Common.{◌≡◌, ℤ, pos, ◌+ℤ◌, Bool, true, false, cond, ◌&&◌, List, [], ◌∷◌, length, refl, sym, ap, subst, ◌∙◌, true≢false, arith}
use Rattle.std.specs.Prelude.{⊤, ◌≤◌, ◌<◌, ◌≤ℤ◌, ◌<ℤ◌, int_le, int_lt, nat_lt, None}
use Rattle.std.specs.List.{AllByRecursion}
use Rattle.std.proofs.lemmas.Int.{ints}
use Rattle.content.specs.ByOffset.{Rises, look_up, put}
use Rattle.content.specs.Windows.{Entry}
use Rattle.producer_state.specs.AnyOrder.{is_kept, newest, behind_of, is_full}
use Rattle.producer_state.specs.Slots.{entries_from}
use Rattle.producer_state.proofs.Putting.{put_length, few_behind, from_all, alike}
use Rattle.producer_index.proofs.Steps.{entry_base, after_put, absent_newest, rises_newest}

-- ---- what a window is

abbrev pub Kept : List Entry → Type 0
Kept [] = ⊤
Kept (x ∷ xs) = is_kept x xs ≡ true

pub newest_form : (es : List Entry) → Kept (newest es)
newest_form [] = tt
newest_form (e ∷ es) = by (is_kept e es) refl (newest_form es)
  where
    by : (b : Bool) → is_kept e es ≡ b → Kept (newest es) → Kept (cond b (e ∷ es) (newest es))
    by true kept ih = kept
    by false kept ih = ih

pub newest_kept : (w : List Entry) → Kept w → newest w ≡ w
newest_kept [] kept = refl
newest_kept (x ∷ xs) kept = ap (λ (b : Bool). cond b (x ∷ xs) (newest xs)) kept

pub behind_kept : (none : ℤ) (w : List Entry) → Kept w → behind_of none w ≡ none
behind_kept none [] kept = refl
behind_kept none (x ∷ xs) kept = ap (λ (b : Bool). cond b none (behind_of x.base xs)) kept

pub full_not_kept : (e : Entry) (w : List Entry) → 5 ≤ length w → is_kept e w ≡ false
full_not_kept e w full = let few : nat_lt (length w) 5 ≡ false = grind arith in grind (arith, few)

-- of more than five, the first is outside of the window
pub six_behind : (a b : ℤ) (xs : List Entry) → 5 < length xs → behind_of a xs ≡ behind_of b xs
six_behind a b [] more = absurd (omega (arith, more))
six_behind a b (x ∷ xs) more =
    let out : is_kept x xs ≡ false = full_not_kept x xs (omega (arith, more)) in
    ap (λ (t : Bool). cond t a (behind_of x.base xs)) out ∙ sym (ap (λ (t : Bool). cond t b (behind_of x.base xs)) out)

pub is_five : (w : List Entry) → is_full w ≡ true → length w ≡ 5
is_five w full = grind (arith, full)

put_front : (e : Entry) (w : List Entry) → AllByRecursion (λ x. e.base <ℤ x.base) w → put entry_base e w ≡ e ∷ w
unfolding put
put_front e [] above = refl
put_front e (x ∷ xs) above = let less : e.base <ℤ x.base = above.0 in grind (arith, ints, less)

each_above : (a b : ℤ) (w : List Entry) → a ≤ℤ b → AllByRecursion (λ x. b <ℤ x.base) w → AllByRecursion (λ x. a <ℤ x.base) w
each_above a b [] less above = tt
each_above a b (x ∷ xs) less above = (omega (arith, ints, less, above.0), each_above a b xs less above.1)

-- ---- one entry more

module _ (none b : ℤ) (e : Entry) (es w : List Entry) (is : w ≡ newest es) (rise : Rises entry_base (none +ℤ pos 1) es) (least : none <ℤ e.base) (absent : look_up entry_base e.base es ≡ None)
    (full : is_full w ≡ true) (from : behind_of none es ≤ℤ b) (below : AllByRecursion (λ x. b <ℤ x.base) w) where
  law : (newest (put entry_base e es) ≡ cond (int_le e.base (behind_of none es)) (newest es) (newest (put entry_base e (newest es))))
      × (behind_of none (put entry_base e es) ≡ cond (int_le e.base (behind_of none es)) (behind_of none es) (behind_of (behind_of none es) (put entry_base e (newest es))))
  law = after_put none e es rise least absent

  kept : Kept w
  kept = subst Kept (sym is) (newest_form es)

  -- where it lies at most at the number, the window stays
  pub under_it : int_le e.base b ≡ true → (newest (put entry_base e es) ≡ w) × (behind_of none (put entry_base e es) ≤ℤ b)
  under_it low = by (int_le e.base (behind_of none es)) law
    where
      least_b : e.base ≤ℤ b
      least_b = grind (arith, ints, low)

      front : put entry_base e w ≡ e ∷ w
      front = put_front e w (each_above e.base b w least_b below)

      out : is_kept e w ≡ false
      out = full_not_kept e w (omega (arith, is_five w full))

      by : (t : Bool) → (newest (put entry_base e es) ≡ cond t (newest es) (newest (put entry_base e (newest es)))) × (behind_of none (put entry_base e es) ≡ cond t (behind_of none es) (behind_of (behind_of none es) (put entry_base e (newest es))))
          → (newest (put entry_base e es) ≡ w) × (behind_of none (put entry_base e es) ≤ℤ b)
      by true l = (l.0 ∙ sym is, subst (λ (z : ℤ). z ≤ℤ b) (sym l.1) from)
      by false l =
          let made : newest (put entry_base e (newest es)) ≡ w
          = ap (λ (v : List Entry). newest (put entry_base e v)) (sym is) ∙ ap newest front ∙ ap (λ (t : Bool). cond t (e ∷ w) (newest w)) out ∙ newest_kept w kept in
          let number : behind_of (behind_of none es) (put entry_base e (newest es)) ≡ e.base
          = ap (λ (v : List Entry). behind_of (behind_of none es) (put entry_base e v)) (sym is) ∙ ap (behind_of (behind_of none es)) front
          ∙ ap (λ (t : Bool). cond t (behind_of none es) (behind_of e.base w)) out ∙ behind_kept e.base w kept in
          (l.0 ∙ made, subst (λ (z : ℤ). z ≤ℤ b) (sym (l.1 ∙ number)) least_b)

  -- where it lies above, all is as if the number were the one of the batch
  pub above_it : int_le e.base b ≡ false → (newest (put entry_base e es) ≡ newest (put entry_base e w)) × (behind_of none (put entry_base e es) ≡ behind_of b (put entry_base e w))
  above_it high =
      let over : int_le e.base (behind_of none es) ≡ false = grind (arith, ints, high, from) in
      let six : length (put entry_base e w) ≡ 6 = put_length e w (ap (look_up entry_base e.base) is ∙ absent_newest e.base es absent) ∙ grind (arith, is_five w full) in (
        law.0 ∙ ap (λ (t : Bool). cond t (newest es) (newest (put entry_base e (newest es)))) over ∙ ap (λ (v : List Entry). newest (put entry_base e v)) (sym is),
        law.1 ∙ ap (λ (t : Bool). cond t (behind_of none es) (behind_of (behind_of none es) (put entry_base e (newest es)))) over
            ∙ ap (λ (v : List Entry). behind_of (behind_of none es) (put entry_base e v)) (sym is) ∙ six_behind (behind_of none es) b (put entry_base e w) (omega (arith, six)),
      )

-- ---- a later start, which lies within the window

alike_from : (own start : ℤ) (es : List Entry) → alike own es ≡ true → alike own (entries_from start es) ≡ true
alike_from own start [] all = refl
alike_from own start (e ∷ es) all = by (int_le start e.base) (alike_from own start es (grind (arith, all)))
  where
    by : (t : Bool) → alike own (entries_from start es) ≡ true → alike own (cond t (e ∷ entries_from start es) (entries_from start es)) ≡ true
    by true ih = grind (arith, all, ih)
    by false ih = ih

fewer_from : (start : ℤ) (es : List Entry) → length (entries_from start es) ≤ length es
fewer_from start [] = omega arith
fewer_from start (e ∷ es) = by (int_le start e.base) (fewer_from start es)
  where
    by : (t : Bool) → length (entries_from start es) ≤ length es → length (cond t (e ∷ entries_from start es) (entries_from start es)) ≤ length (e ∷ es)
    by true ih = omega (arith, ih)
    by false ih = omega (arith, ih)

-- all that is left is in the window
pub cut_behind : (n start low : ℤ) (es : List Entry) (x : Entry) (xs : List Entry) → newest es ≡ x ∷ xs → Rises entry_base low es → x.base <ℤ start → behind_of n (entries_from start es) ≡ n
cut_behind n start low [] x xs is rise less = absurd cc
cut_behind n start low (e ∷ es) x xs is rise less = by (is_kept e es) refl is (λ same. cut_behind n start (e.base +ℤ pos 1) es x xs same rise.1 less)
  where
    dropped : int_le start e.base ≡ false → behind_of n (entries_from start (e ∷ es)) ≡ behind_of n (entries_from start es)
    dropped out = ap (λ (t : Bool). behind_of n (cond t (e ∷ entries_from start es) (entries_from start es))) out

    by : (t : Bool) → is_kept e es ≡ t → cond t (e ∷ es) (newest es) ≡ x ∷ xs → (newest es ≡ x ∷ xs → behind_of n (entries_from start es) ≡ n) → behind_of n (entries_from start (e ∷ es)) ≡ n
    by true kept same ih =
        let first : e ≡ x = cc in
        let under : e.base <ℤ start = subst (λ (y : Entry). y.base <ℤ start) (sym first) less in
        let all : alike e.epoch es ≡ true = grind (arith, kept) in
        let few : nat_lt (length es) 5 ≡ true = grind (arith, kept) in
        let fewer = fewer_from start es in
        dropped (grind (arith, ints, under)) ∙ few_behind e.epoch n (entries_from start es) (alike_from e.epoch start es all) (grind (arith, few, fewer))
    by false kept same ih =
        let first : (e.base +ℤ pos 1) ≤ℤ x.base = (subst (Rises entry_base (e.base +ℤ pos 1)) same (rises_newest (e.base +ℤ pos 1) es rise.1)).0 in
        let under : e.base <ℤ start = omega (arith, ints, first, less) in
        dropped (grind (arith, ints, under)) ∙ ih same
