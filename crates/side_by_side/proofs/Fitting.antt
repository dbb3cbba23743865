-- A copy may take a delta at a base offset exactly where what comes next there fits.
use Rattle.std.proofs.Common.{◌≡◌, ℤ, pos, ◌+ℤ◌, Bool, true, false, List, [], ◌∷◌, Option, Some, None, refl, sym, ap, subst, ◌∙◌, arith}
use Rattle.std.specs.Prelude.{◌↔◌, ◌≤ℤ◌, ◌<ℤ◌, int_lt, if◌then◌else◌}
use Rattle.std.specs.List.{AllByRecursion}
use Rattle.std.specs.Option.{option_and_then}
use Rattle.std.proofs.lemmas.Int.{ints, clamps}
use Rattle.batch_codec.specs.Values.{BatchValue}
use Rattle.batch_codec.specs.Offsets.{first_offset, last_offset}
use Rattle.cover_ranges.specs.Runs.{covers}
use Rattle.content.specs.ByOffset.{look_up}
use Rattle.content.specs.Content.{Content, IsContent}
use Rattle.content.specs.Joins.Slot.{Below}
use Rattle.content_laws.proofs.ByOffset.{look_up-offset}
use Rattle.content_laws.proofs.Slots.{kept_ends, kept_covered}
use Rattle.side_by_side.proofs.Agreeing.{agree_nowhere, agree_left, agree_right, agree_both}
use Rattle.deltas.specs.declared.TheConstants.{LEAST_BASE}
use Rattle.deltas.specs.Entries.{Entry, entry_base, OffsetsRise, last_listed, batch_sent, sent}
use Rattle.deltas.specs.Entries.Entry.{Listed, Sent}
use Rattle.deltas.specs.Deltas.{Delta, IsDelta}
use Rattle.deltas.specs.Patches.{said_by, said_at, later_start}
use Rattle.deltas.specs.Patches.Said.{Says, Lists}
use Rattle.deltas.specs.Accepting.{sent_part, ListFitsAt, AcceptsAt}
use Rattle.deltas.proofs.Entries.{sent_at}
use Rattle.deltas.proofs.Sayings.{rises_all, is_entry, entry_above}
use Rattle.deltas.proofs.SentParts.{sent_content}
use Rattle.side_by_side.specs.Steps.{Step, base_of, kept_of, told_of}
use Rattle.side_by_side.specs.Steps.Step.{Done, Kept, Told, Both}
use Rattle.side_by_side.specs.Fitting.{Fits}

-- ---- what a list ends at

from_last : (base o : ℤ) (os : List ℤ) → OffsetsRise base os → o <ℤ base → o ≤ℤ last_listed o os
from_last base o [] rise less = omega (arith, ints)
from_last base o (q ∷ os) rise less =
    let a : base ≤ℤ q = rise.0 in
    let b : q ≤ℤ last_listed q os = from_last (q +ℤ pos 1) q os rise.1 (omega (arith, ints)) in
    omega (arith, ints, a, b, less)

-- offsets that rise end at the last one
pub all_to_last : (base o : ℤ) (os : List ℤ) → OffsetsRise base os → AllByRecursion (λ k. k ≤ℤ last_listed o os) os
all_to_last base o [] rise = tt
all_to_last base o (q ∷ os) rise = (from_last (q +ℤ pos 1) q os rise.1 (omega (arith, ints)), all_to_last (q +ℤ pos 1) q os rise.1)

all_within : (high last : ℤ) (os : List ℤ) → last ≤ℤ high → AllByRecursion (λ k. k ≤ℤ last) os → AllByRecursion (λ k. k ≤ℤ high) os
all_within high last [] le all = tt
all_within high last (q ∷ os) le all = let here = all.0 in (omega (arith, ints, le, here), all_within high last os le all.1)

all_below : (high last : ℤ) (os : List ℤ) → last <ℤ high → AllByRecursion (λ k. k ≤ℤ last) os → AllByRecursion (λ k. k <ℤ high) os
all_below high last [] less all = tt
all_below high last (q ∷ os) less all = let here = all.0 in (omega (arith, ints, less, here), all_below high last os less all.1)

last_within : (high base : ℤ) (os : List ℤ) → base ≤ℤ high → AllByRecursion (λ k. k ≤ℤ high) os → last_listed base os ≤ℤ high
last_within high base [] le all = le
last_within high base (q ∷ os) le all = last_within high q os all.0 all.1

last_below : (high base : ℤ) (os : List ℤ) → base <ℤ high → AllByRecursion (λ k. k <ℤ high) os → last_listed base os <ℤ high
last_below high base [] less all = less
last_below high base (q ∷ os) less all = last_below high q os all.0 all.1

-- ---- what is listed at a base

lists_inside : (os ps : List ℤ) → Lists os ≡ Lists ps → os ≡ ps
lists_inside os ps e = cc

not_listed : (t : Bool) (z : Option Entry) (s : Bool) (os : List ℤ) → option_and_then batch_sent z ≡ None → z ≡ None → (if t then Says Below else said_by z s) ≡ Lists os → ⊥
not_listed true z s os e f g = cc
not_listed false None true os e f g = cc
not_listed false None false os e f g = cc
not_listed false (Some x) s os e f g = cc

not_listed_sent : (t : Bool) (b : BatchValue) (s : Bool) (os : List ℤ) → (if t then Says Below else said_by (Some (Sent b)) s) ≡ Lists os → ⊥
not_listed_sent true b s os g = cc
not_listed_sent false b s os g = cc

lists_none : (c : Content) (e : Delta) (o : ℤ) → look_up entry_base o e.entries ≡ None → ListFitsAt c e o
lists_none c e o none os said =
    absurd (not_listed (int_lt o e.start) None (covers e.cover o) os refl refl (ap (λ (z : Option Entry). if int_lt o e.start then Says Below else said_by z (covers e.cover o)) (sym none) ∙ said))

lists_sent : (c : Content) (e : Delta) (o : ℤ) (b : BatchValue) → look_up entry_base o e.entries ≡ Some (Sent b) → ListFitsAt c e o
lists_sent c e o b there os said =
    absurd (not_listed_sent (int_lt o e.start) b (covers e.cover o) os (ap (λ (z : Option Entry). if int_lt o e.start then Says Below else said_by z (covers e.cover o)) (sym there) ∙ said))

said_list : (e : Delta) (o base : ℤ) (os : List ℤ) → IsDelta e → look_up entry_base o e.entries ≡ Some (Listed base os) → said_at e o ≡ Lists os
said_list e o base os is there =
    let from : e.start ≤ℤ o = entry_above e o (Listed base os) is there in
    let above : int_lt o e.start ≡ false = grind (arith, ints, from) in
    (λ i. if above i then Says Below else said_by (there i) (covers e.cover o))

-- ---- a list fits, by its last offset

list_rises : (e : Delta) (o base : ℤ) (os : List ℤ) → IsDelta e → look_up entry_base o e.entries ≡ Some (Listed base os) → OffsetsRise base os
list_rises e o base os is there = (is_entry e o (Listed base os) is there).0.1.rise

none_some : (z : Option BatchValue) (x : BatchValue) → z ≡ None → z ≡ Some x → ⊥
none_some z x e f = cc

same_some : (z : Option BatchValue) (x y : BatchValue) → z ≡ Some x → z ≡ Some y → x ≡ y
same_some z x y e f = cc

module _ (c : Content) (e : Delta) (base : ℤ) (os : List ℤ) (is : IsContent c) (delta : IsDelta e) (there : look_up entry_base base e.entries ≡ Some (Listed base os)) where
  rise : OffsetsRise base os
  rise = list_rises e base base os delta there

  -- where the copy keeps nothing at its base
  alone_fits : look_up first_offset base c.kept ≡ None → Fits (later_start c e) c.cover e.cover (Told (Listed base os)) → ListFitsAt c e base
  alone_fits none fits ps said =
      let from : e.start ≤ℤ base = entry_above e base (Listed base os) delta there in
      subst (λ (qs : List ℤ). (base <ℤ c.start → AllByRecursion (λ o. o <ℤ c.start) qs)
      × (c.start ≤ℤ base → (covers c.cover base ≡ true) × ((b : BatchValue) → look_up first_offset base c.kept ≡ Some b → AllByRecursion (λ o. o ≤ℤ last_offset b) qs)))
      (lists_inside os ps (sym (said_list e base base os delta there) ∙ said)) (
        (λ less. let ends : last_listed base os <ℤ later_start c e = fits.0 (omega (arith, ints, clamps, less, from)) in
            all_below c.start (last_listed base os) os (omega (arith, ints, clamps, less, from, ends)) (all_to_last base base os rise)),
        (λ le. (fits.1 (omega (arith, ints, clamps, le, from)), λ b f. absurd (none_some (look_up first_offset base c.kept) b none f))),
      )

  alone_fitted : ListFitsAt c e base → Fits (later_start c e) c.cover e.cover (Told (Listed base os))
  alone_fitted fits =
      let from : e.start ≤ℤ base = entry_above e base (Listed base os) delta there in
      let here = fits os (said_list e base base os delta there) in (
        λ less. let low : base <ℤ c.start = omega (arith, ints, clamps, less, from) in
            let ends : last_listed base os <ℤ c.start = last_below c.start base os low (here.0 low) in
            omega (arith, ints, clamps, ends),
        λ le. (here.1 (omega (arith, ints, clamps, le))).0,
      )

  -- where it keeps a batch there
  module _ (x : BatchValue) (kept : look_up first_offset base c.kept ≡ Some x) where
    beside_fits : last_listed base os ≤ℤ last_offset x → ListFitsAt c e base
    beside_fits ends ps said =
        subst (λ (qs : List ℤ). (base <ℤ c.start → AllByRecursion (λ o. o <ℤ c.start) qs)
        × (c.start ≤ℤ base → (covers c.cover base ≡ true) × ((b : BatchValue) → look_up first_offset base c.kept ≡ Some b → AllByRecursion (λ o. o ≤ℤ last_offset b) qs)))
        (lists_inside os ps (sym (said_list e base base os delta there) ∙ said)) (
          (λ less. let above : c.start ≤ℤ base = is.above base (kept_covered c base x is kept) in absurd (omega (arith, ints, less, above))),
          (λ le. (
            kept_covered c base x is kept,
            λ b f. subst (λ (z : BatchValue). AllByRecursion (λ o. o ≤ℤ last_offset z) os) (same_some (look_up first_offset base c.kept) x b kept f)
                (all_within (last_offset x) (last_listed base os) os ends (all_to_last base base os rise)),
          )),
        )

    beside_fitted : ListFitsAt c e base → last_listed base os ≤ℤ last_offset x
    beside_fitted fits =
        let above : c.start ≤ℤ base = is.above base (kept_covered c base x is kept) in
        last_within (last_offset x) base os (kept_ends c base x is kept) (((fits os (said_list e base base os delta there)).1 above).1 x kept)

-- ---- a step fits exactly where the copy may take the delta there

sent_here : (e : Delta) (o : ℤ) (z : Option Entry) → IsDelta e → look_up entry_base o e.entries ≡ z → look_up first_offset o (sent e.entries) ≡ option_and_then batch_sent z
sent_here e o z is there = sent_at LEAST_BASE o e.entries (rises_all e is) ∙ ap (option_and_then batch_sent) there

module _ (c : Content) (e : Delta) (is : IsContent c) (delta : IsDelta e) where
  abbrev s : ℤ
  s = later_start c e

  -- nothing is kept and nothing is told
  pub accepts_nowhere : (o : ℤ) → look_up first_offset o c.kept ≡ None → look_up entry_base o e.entries ≡ None → AcceptsAt c e o
  accepts_nowhere o kept told = (agree_nowhere c (sent_part e) o kept (sent_here e o None delta told), lists_none c e o told)

  none_here : (n : ℤ) → base_of Done ≡ n → look_up first_offset n c.kept ≡ None → look_up entry_base n e.entries ≡ None → Fits s c.cover e.cover Done ↔ AcceptsAt c e n
  none_here n at kept told = (λ fits. accepts_nowhere n kept told, λ accepts. (λ less. tt, λ le. tt))

  kept_here : (x : BatchValue) → look_up first_offset (first_offset x) c.kept ≡ Some x → look_up entry_base (first_offset x) e.entries ≡ None → Fits s c.cover e.cover (Kept x) ↔ AcceptsAt c e (first_offset x)
  kept_here x kept told =
      let agree = agree_left c (sent_part e) x kept (sent_here e (first_offset x) None delta told) in
      (λ fits. (agree.0 fits, lists_none c e (first_offset x) told), λ accepts. agree.1 accepts.0)

  sent_alone : (b : BatchValue) → look_up first_offset (first_offset b) c.kept ≡ None → look_up entry_base (first_offset b) e.entries ≡ Some (Sent b) → Fits s c.cover e.cover (Told (Sent b)) ↔ AcceptsAt c e (first_offset b)
  sent_alone b kept told =
      let agree = agree_right c (sent_part e) b kept (sent_here e (first_offset b) (Some (Sent b)) delta told) in
      (λ fits. (agree.0 fits, lists_sent c e (first_offset b) b told), λ accepts. agree.1 accepts.0)

  sent_beside : (x b : BatchValue) → look_up first_offset (first_offset x) c.kept ≡ Some x → look_up entry_base (first_offset x) e.entries ≡ Some (Sent b) → Fits s c.cover e.cover (Both x (Sent b)) ↔ AcceptsAt c e (first_offset x)
  sent_beside x b kept told =
      let agree = agree_both c (sent_part e) x b is (sent_content e delta) kept (sent_here e (first_offset x) (Some (Sent b)) delta told) in
      (λ fits. (agree.0 fits, lists_sent c e (first_offset x) b told), λ accepts. agree.1 accepts.0)

  list_alone : (base : ℤ) (os : List ℤ) → look_up first_offset base c.kept ≡ None → look_up entry_base base e.entries ≡ Some (Listed base os) → Fits s c.cover e.cover (Told (Listed base os)) ↔ AcceptsAt c e base
  list_alone base os kept told =
      let agree = agree_nowhere c (sent_part e) base kept (sent_here e base (Some (Listed base os)) delta told) in
      (λ fits. (agree, alone_fits c e base os is delta told kept fits), λ accepts. alone_fitted c e base os is delta told accepts.1)

  list_beside : (x : BatchValue) (base : ℤ) (os : List ℤ) → base ≡ first_offset x → look_up first_offset (first_offset x) c.kept ≡ Some x → look_up entry_base (first_offset x) e.entries ≡ Some (Listed base os)
      → Fits s c.cover e.cover (Both x (Listed base os)) ↔ AcceptsAt c e (first_offset x)
  list_beside x base os same kept told =
      let agree = agree_left c (sent_part e) x kept (sent_here e (first_offset x) (Some (Listed base os)) delta told) in
      let kept_base : look_up first_offset base c.kept ≡ Some x = ap (λ (o : ℤ). look_up first_offset o c.kept) same ∙ kept in
      let told_base : look_up entry_base base e.entries ≡ Some (Listed base os) = ap (λ (o : ℤ). look_up entry_base o e.entries) same ∙ told in
      let above : c.start ≤ℤ first_offset x = is.above (first_offset x) (kept_covered c (first_offset x) x is kept) in
      let from : e.start ≤ℤ first_offset x = entry_above e (first_offset x) (Listed base os) delta told in (
        λ fits. (
          agree.0 (λ less. absurd (omega (arith, ints, clamps, above, from, less)), λ le. (fits.1 le).0),
          subst (ListFitsAt c e) same (beside_fits c e base os is delta told_base x kept_base (fits.1 (omega (arith, ints, clamps, above, from))).1),
        ),
        λ accepts. (
          λ less. absurd (omega (arith, ints, clamps, above, from, less)),
          λ le. ((agree.1 accepts.0).1 le, beside_fitted c e base os is delta told_base x kept_base (subst (ListFitsAt c e) (sym same) accepts.1)),
        ),
      )

  pub fits_here : (step : Step) → look_up first_offset (base_of step) c.kept ≡ kept_of step → look_up entry_base (base_of step) e.entries ≡ told_of step → Fits s c.cover e.cover step ↔ AcceptsAt c e (base_of step)
  fits_here Done kept told = none_here (base_of Done) refl kept told
  fits_here (Kept x) kept told = kept_here x kept told
  fits_here (Told (Listed base os)) kept told = list_alone base os kept told
  fits_here (Told (Sent b)) kept told = sent_alone b kept told
  fits_here (Both x (Listed base os)) kept told = list_beside x base os (look_up-offset entry_base (first_offset x) e.entries (Listed base os) told) kept told
  fits_here (Both x (Sent b)) kept told = sent_beside x b kept told
