-- The merge of contents: idempotent, associative, and commutative where both are alike. A content
-- is its slots, so each of these is a law of slots.
use Rattle.std.proofs.Common.{◌≡◌, ◌^◌, ℤ, pos, ◌+ℤ◌, ◌-ℤ◌, Bool, true, false, ◌&&◌, ◌||◌, ◌⊎◌, inl, inr, [], ◌∷◌, Option, Some, None, refl, sym, ap, subst, ◌∙◌, arith}
use Rattle.std.specs.Prelude.{◌≤ℤ◌, ◌<ℤ◌, int_lt, int_le, IsSome, if◌then◌else◌}
use Rattle.std.specs.List.{cons_option}
use Rattle.std.specs.Int.{int_max}
use Rattle.std.proofs.lemmas.Int.{ints, clamps, by_lt_z}
use Rattle.batch_codec.specs.Values.{RecordValue, BatchValue}
use Rattle.batch_codec.specs.Offsets.{first_offset, last_offset}
use Rattle.cover_ranges.specs.Runs.{Runs, covers, cut_below}
use Rattle.cover_ranges.proofs.RunSets.{cut_covers}
use Rattle.cover_ranges.proofs.RunsFrom.{RunsFrom, canonical_from}
use Rattle.content.specs.ByOffset.{look_up}
use Rattle.content.specs.Records.{record_at, record_at_delta, with_common_records}
use Rattle.content.specs.Content.{Content, IsContent, cut}
use Rattle.content.specs.Joins.{Slot, slot_at, slot_join, batch_of_slot, greater_start, join, FitsAt, AreAlikeAt, Agree}
use Rattle.content.specs.Joins.Slot.{Unknown, Kept, Gone, Below}
use Rattle.content_laws.proofs.ByOffset.{look_up-filter_offset, rises-filter, same_lists}
use Rattle.content_laws.proofs.Batches.{record_in, record_from, HasRecord}
use Rattle.content_laws.proofs.BatchParts.{part_head, part_record, common_comm}
use Rattle.content_laws.proofs.Slots.{is_below, is_seen, bases_rise, kept_keepable, kept_covered, slot_batch, slot_seen, slot_below, slot_kept, same_content, cut_slots, join_kept, join_start, join_covers, join_slots, slot_join_self, slot_join_assoc, slot_join_comm}
use Rattle.content_laws.proofs.ContentSteps.{both_bools, IsFrom, join_from, join_side, join_above, end_of_part, content_cut, content_join}

-- ---- idempotent, associative: at each base offset the merge of slots is

pub join_self : (c : Content) → IsContent c → join c c ≡ c
join_self c is = same_content (join c c) c (content_join c c is is) is (λ o. join_slots c c o is is ∙ slot_join_self (slot_at c o))

pub join_assoc : (a b c : Content) → IsContent a → IsContent b → IsContent c → join (join a b) c ≡ join a (join b c)
join_assoc a b c is_a is_b is_c =
    let is_ab = content_join a b is_a is_b in
    let is_bc = content_join b c is_b is_c in
    same_content (join (join a b) c) (join a (join b c)) (content_join (join a b) c is_ab is_c) (content_join a (join b c) is_a is_bc)
    (λ o. join_slots (join a b) c o is_ab is_c
    ∙ ap (λ (u : Slot). slot_join u (slot_at c o)) (join_slots a b o is_a is_b)
    ∙ slot_join_assoc (slot_at a o) (slot_at b o) (slot_at c o)
    ∙ sym (ap (slot_join (slot_at a o)) (join_slots b c o is_b is_c))
    ∙ sym (join_slots a (join b c) o is_a is_bc))

-- ---- commutative, where batches that both keep are alike: then either's common records are the
-- other's, and all else in a merge of slots treats both sides alike

from_start : (c : Content) (o : ℤ) (b : BatchValue) → slot_at c o ≡ Kept b → c.start ≤ℤ o
from_start c o b e = let below : int_lt o c.start ≡ false = slot_below c o ∙ ap is_below e in grind (arith, ints, below)

pub join_comm : (a b : Content) → IsContent a → IsContent b → ((base : ℤ) → AreAlikeAt (greater_start a b) a b base) → join a b ≡ join b a
join_comm a b is_a is_b alike = same_content (join a b) (join b a) (content_join a b is_a is_b) (content_join b a is_b is_a)
    (λ o. join_slots a b o is_a is_b ∙ slot_join_comm (slot_at a o) (slot_at b o) (common o) ∙ sym (join_slots b a o is_b is_a))
  where
    common : (o : ℤ) (x y : BatchValue) → slot_at a o ≡ Kept x → slot_at b o ≡ Kept y → with_common_records x y ≡ with_common_records y x
    common o x y s t =
        let left : look_up first_offset o a.kept ≡ Some x = slot_batch a o is_a ∙ ap batch_of_slot s in
        let right : look_up first_offset o b.kept ≡ Some y = slot_batch b o is_b ∙ ap batch_of_slot t in
        let from_a = from_start a o x s in
        let from_b = from_start b o y t in
        let same = alike o x y (omega (arith, ints, clamps, from_a, from_b)) left right in
        common_comm x y (kept_keepable a o x is_a left) (kept_keepable b o y is_b right) same.0 same.1

pub join_comm_agree : (a b : Content) → IsContent a → IsContent b → Agree a b → join a b ≡ join b a
join_comm_agree a b is_a is_b agree = join_comm a b is_a is_b (λ o. (agree o).2)

-- ---- a merge of two contents cut is their merge cut: a cut makes slots Below, which wins over all

pub cut_start : (c : Content) → IsContent c → cut c.start c ≡ c
cut_start c is = same_content (cut c.start c) c (content_cut c c.start is (omega (arith, ints)) is.in_range.1) is (λ o. cut_slots c c.start o (omega (arith, ints)) ∙ low (slot_at c o) (int_lt o c.start) (slot_below c o))
  where
    low : (u : Slot) (t : Bool) → t ≡ is_below u → (if t then Below else u) ≡ u
    low u t e = grind (arith, e)

cut_table : (t : Bool) (u v : Slot) → (if t then Below else slot_join u v) ≡ slot_join (if t then Below else u) (if t then Below else v)
cut_table true u v = refl
cut_table false u v = refl

join_cut_within : (a b : Content) (start : ℤ) → IsContent a → IsContent b → a.start ≤ℤ start → b.start ≤ℤ start → start ≤ℤ pos (2 ^ 62) → cut start (join a b) ≡ join (cut start a) (cut start b)
join_cut_within a b start is_a is_b after_a after_b end =
    let is_join = content_join a b is_a is_b in
    let after : (join a b).start ≤ℤ start = (let s = join_start a b in omega (arith, ints, clamps, s, after_a, after_b)) in
    let cut_a = content_cut a start is_a after_a end in
    let cut_b = content_cut b start is_b after_b end in
    same_content (cut start (join a b)) (join (cut start a) (cut start b)) (content_cut (join a b) start is_join after end) (content_join (cut start a) (cut start b) cut_a cut_b)
    (λ o. cut_slots (join a b) start o after
    ∙ ap (λ (u : Slot). if int_lt o start then Below else u) (join_slots a b o is_a is_b)
    ∙ cut_table (int_lt o start) (slot_at a o) (slot_at b o)
    ∙ sym (λ i. slot_join (cut_slots a start o after_a i) (cut_slots b start o after_b i))
    ∙ sym (join_slots (cut start a) (cut start b) o cut_a cut_b))

-- from the end of all offsets on nothing is left
runs_to_end : (start low : ℤ) (rs : Runs) → RunsFrom low rs → pos (2 ^ 62) ≤ℤ start → cut_below start rs ≡ []
runs_to_end start low [] runs end = refl
runs_to_end start low (r ∷ rs) runs end =
    let last : r.1 <ℤ pos (2 ^ 62) = runs.2 in
    let none : int_lt r.1 start ≡ true = grind (arith, ints, last, end) in
    ap (λ (t : Bool). cons_option (if t then None else Some (int_max start r.0, r.1)) (cut_below start rs)) none ∙ runs_to_end start (r.1 +ℤ pos 2) rs runs.3 end

abbrev nothing_from : ℤ → Content
nothing_from start = record { start = start; cover = []; kept = [] }

cut_end : (c : Content) (start : ℤ) → IsContent c → pos (2 ^ 62) ≤ℤ start → cut start c ≡ nothing_from start
cut_end c start is end =
    let runs : cut_below start c.cover ≡ [] = runs_to_end start (pos 0) c.cover (canonical_from c.cover is.canonical) end in
    let kept : (cut start c).kept ≡ [] = same_lists first_offset c.start c.start (cut start c).kept [] (rises-filter first_offset (λ b. int_le start (first_offset b)) c.start c.kept (bases_rise c is)) tt
    (λ o. look_up-filter_offset first_offset (int_le start) o c.kept ∙ by (int_le start o) (look_up first_offset o c.kept) (covers c.cover o) (λ b e. kept_covered c o b is e) (sym (cut_covers start c.cover o) ∙ ap (λ (rs : Runs). covers rs o) runs)) in
    λ i. record { start = start; cover = runs i; kept = kept i }
  where
    by : (t : Bool) (z : Option BatchValue) (s : Bool) → ((b : BatchValue) → z ≡ Some b → s ≡ true) → (s && t) ≡ false → (if t then z else None) ≡ None
    by false z s kept none = refl
    by true None s kept none = refl
    by true (Some b) s kept none = let seen : s ≡ true = kept b refl in absurd (grind (arith, seen, none))

join_nothing : (start : ℤ) → join (nothing_from start) (nothing_from start) ≡ nothing_from start
unfolding join
join_nothing start = let same : int_max start start ≡ start = omega (arith, ints, clamps) in λ i. record { start = same i; cover = []; kept = [] }

pub join_cut : (a b : Content) (start : ℤ) → IsContent a → IsContent b → a.start ≤ℤ start → b.start ≤ℤ start → cut start (join a b) ≡ join (cut start a) (cut start b)
join_cut a b start is_a is_b after_a after_b = by_lt_z (pos (2 ^ 62)) start
    (λ less. let end : pos (2 ^ 62) ≤ℤ start = omega (arith, ints, less) in
    cut_end (join a b) start (content_join a b is_a is_b) end ∙ sym (join_nothing start) ∙ sym (λ i. join (cut_end a start is_a end i) (cut_end b start is_b end i)))
    (λ le. join_cut_within a b start is_a is_b after_a after_b le)

-- ---- two that agree, in either order

max_comm : (s t : ℤ) → int_max s t ≡ int_max t s
max_comm s t = omega (arith, ints, clamps)

pub agree_sym : (a b : Content) → Agree a b → Agree b a
agree_sym a b agree o =
    let both = agree o in
    subst (λ (s : ℤ). FitsAt s b a o × FitsAt s a b o × AreAlikeAt s b a o) (max_comm a.start b.start)
    (both.1, both.0, λ x y from e f. let same = both.2 y x from f e in (sym same.0, λ d r s p q. sym (same.1 d s r q p)))

-- ---- a merge agrees with what both agree with: each of its batches is a part of a side's, with
-- the same span, and what is constant on a span for both sides is constant for the merge

pub join_agrees : (a b c : Content) → IsContent a → IsContent b → IsContent c → Agree a c → Agree b c → Agree (join a b) c
join_agrees a b c is_a is_b is_c agree_a agree_b o = (fits, back, alike)
  where
    start : (join a b).start ≡ greater_start a b
    start = join_start a b

    fits : FitsAt (greater_start (join a b) c) (join a b) c o
    fits z e = by (join_side a b o z is_a is_b e)
      where
        above : greater_start a b ≤ℤ o
        above = join_above a b o z is_a is_b e

        side : (d : Content) → d.start ≤ℤ greater_start a b → IsFrom d o z → FitsAt (greater_start d c) d c o
            → (o <ℤ greater_start (join a b) c → last_offset z <ℤ greater_start (join a b) c)
            × (greater_start (join a b) c ≤ℤ o → (i : ℤ) → o ≤ℤ i → i ≤ℤ last_offset z → covers c.cover i ≡ covers c.cover o)
        side d less p fit =
            let ends = end_of_part z p.batch p.part in
            let old = fit p.batch p.there in (
              λ l. (let here : last_offset p.batch <ℤ greater_start d c = old.0 (omega (arith, ints, clamps, start, above, less, l)) in omega (arith, ints, clamps, start, above, less, ends, l, here)),
              λ from i least most. old.1 (omega (arith, ints, clamps, start, less, from)) i least (subst (λ (k : ℤ). i ≤ℤ k) ends most),
            )

        by : IsFrom a o z ⊎ IsFrom b o z
            → (o <ℤ greater_start (join a b) c → last_offset z <ℤ greater_start (join a b) c)
            × (greater_start (join a b) c ≤ℤ o → (i : ℤ) → o ≤ℤ i → i ≤ℤ last_offset z → covers c.cover i ≡ covers c.cover o)
        by (inl p) = side a (omega (arith, ints, clamps)) p (agree_a o).0
        by (inr p) = side b (omega (arith, ints, clamps)) p (agree_b o).0

    back : FitsAt (greater_start (join a b) c) c (join a b) o
    back y e =
        let old_a = (agree_a o).1 y e in
        let old_b = (agree_b o).1 y e in
        let least : c.start ≤ℤ o = is_c.above o (kept_covered c o y is_c e) in (
          λ l. by_lt_z a.start b.start
              (λ less. (let end : last_offset y <ℤ greater_start b c = old_b.0 (omega (arith, ints, clamps, start, least, less, l)) in omega (arith, ints, clamps, start, least, less, l, end)))
              (λ le. (let end : last_offset y <ℤ greater_start a c = old_a.0 (omega (arith, ints, clamps, start, least, le, l)) in omega (arith, ints, clamps, start, least, le, l, end))),
          λ from i first last.
              let in_a : covers a.cover i ≡ covers a.cover o = old_a.1 (omega (arith, ints, clamps, start, from)) i first last in
              let in_b : covers b.cover i ≡ covers b.cover o = old_b.1 (omega (arith, ints, clamps, start, from)) i first last in
              let at_i : int_le (greater_start a b) i ≡ true = above i (omega (arith, ints, clamps, start, from, first)) in
              let at_o : int_le (greater_start a b) o ≡ true = above o (omega (arith, ints, clamps, start, from)) in
              join_covers a b i ∙ (λ k. (in_a k || in_b k) && (at_i ∙ sym at_o) k) ∙ sym (join_covers a b o),
        )
      where
        above : (k : ℤ) → greater_start a b ≤ℤ k → int_le (greater_start a b) k ≡ true
        above k le = grind (arith, ints, le)

    alike : AreAlikeAt (greater_start (join a b) c) (join a b) c o
    alike z y from e f = by (join_side a b o z is_a is_b e)
      where
        side : (d : Content) → IsContent d → greater_start d c ≤ℤ o → IsFrom d o z → AreAlikeAt (greater_start d c) d c o
            → (z.head ≡ y.head) × ((n : ℤ) (r s : RecordValue) → record_at_delta n z ≡ Some r → record_at_delta n y ≡ Some s → r ≡ s)
        side d is_d least p old =
            let same = old p.batch y least p.there f in
            (part_head z p.batch p.part ∙ same.0, λ n r s g h. same.1 n r s (part_record z p.batch n r (kept_keepable d o p.batch is_d p.there) p.part g) h)

        by : IsFrom a o z ⊎ IsFrom b o z → (z.head ≡ y.head) × ((n : ℤ) (r s : RecordValue) → record_at_delta n z ≡ Some r → record_at_delta n y ≡ Some s → r ≡ s)
        by (inl p) = side a is_a (omega (arith, ints, clamps, start, from)) p (agree_a o).2
        by (inr p) = side b is_b (omega (arith, ints, clamps, start, from)) p (agree_b o).2

pub agrees_with_join : (a b c : Content) → IsContent a → IsContent b → IsContent c → Agree a b → Agree a c → Agree a (join b c)
agrees_with_join a b c is_a is_b is_c with_b with_c = agree_sym (join b c) a (join_agrees b c a is_b is_c is_a (agree_sym a b with_b) (agree_sym a c with_c))

-- ---- what a merge of two that agree holds, each side holds that has seen the offset: such a side
-- has seen the batch's base too, so it keeps the batch, or the merge would have dropped it

pub held_in_left : (a b : Content) (o : ℤ) (r : RecordValue) → IsContent a → IsContent b → Agree a b → record_at (join a b).kept o ≡ Some r → covers a.cover o ≡ true → record_at a.kept o ≡ Some r
held_in_left a b o r is_a is_b agree e seen = by (join_from a b base z is_a is_b of.there)
  where
    is_join : IsContent (join a b)
    is_join = content_join a b is_a is_b

    of : HasRecord (join a b).kept o r
    of = record_from (join a b).start o (join a b).kept r is_join.disjoint is_join.keepable e

    z : BatchValue
    z = of.batch

    base : ℤ
    base = first_offset of.batch

    by : IsFrom a base z ⊎ ((slot_at a base ≡ Unknown) × (look_up first_offset base b.kept ≡ Some z)) → record_at a.kept o ≡ Some r
    by (inl p) =
        record_in a.start base o a.kept p.batch is_a.disjoint is_a.keepable p.there of.from (subst (λ (k : ℤ). o ≤ℤ k) (end_of_part z p.batch p.part) of.to)
        ∙ part_record z p.batch (o -ℤ base) r (kept_keepable a base p.batch is_a p.there) p.part of.here
    by (inr p) =
        let unseen : covers a.cover base ≡ false = slot_seen a base is_a ∙ ap is_seen p.0 in
        let same : covers a.cover o ≡ covers a.cover base = ((agree base).1 z p.1).1 (join_above a b base z is_a is_b of.there) o of.from of.to in
        absurd (both_bools (covers a.cover o) seen (same ∙ unseen))

pub held_in_join : (a b : Content) (o : ℤ) (r : RecordValue) → IsContent a → IsContent b → Agree a b → record_at (join a b).kept o ≡ Some r
    → (covers a.cover o ≡ true → record_at a.kept o ≡ Some r) × (covers b.cover o ≡ true → record_at b.kept o ≡ Some r)
held_in_join a b o r is_a is_b agree e = (
  held_in_left a b o r is_a is_b agree e,
  held_in_left b a o r is_b is_a (agree_sym a b agree) (ap (λ (c : Content). record_at c.kept o) (sym (join_comm_agree a b is_a is_b agree)) ∙ e),
)

-- ---- a kept batch stays, unless it lies below the later start or the other side dropped it: these
-- are the cases of its slot

pub join_keeps : (a b : Content) (base : ℤ) (x : BatchValue) → IsContent a → IsContent b → Agree a b → look_up first_offset base a.kept ≡ Some x
    → IsSome (look_up first_offset base (join a b).kept) ⊎ ((last_offset x <ℤ (join a b).start) ⊎ (slot_at b base ≡ Gone))
join_keeps a b base x is_a is_b agree e = by_lt_z base (greater_start a b)
    (λ less. inr (inl (subst (λ (s : ℤ). last_offset x <ℤ s) (sym (join_start a b)) (((agree base).0 x e).0 less))))
    (λ from. by from (slot_at b base) refl (join_kept a b base is_a is_b ∙ ap (λ (u : Slot). batch_of_slot (slot_join u (slot_at b base))) (slot_kept a base x is_a e)))
  where
    some : (o : Option BatchValue) (y : BatchValue) → o ≡ Some y → IsSome o
    some o y f = subst IsSome (sym f) refl

    by : greater_start a b ≤ℤ base → (v : Slot) → slot_at b base ≡ v → look_up first_offset base (join a b).kept ≡ batch_of_slot (slot_join (Kept x) (slot_at b base))
        → IsSome (look_up first_offset base (join a b).kept) ⊎ ((last_offset x <ℤ (join a b).start) ⊎ (slot_at b base ≡ Gone))
    by from Unknown s f = inl (some (look_up first_offset base (join a b).kept) x (f ∙ ap (λ (v : Slot). batch_of_slot (slot_join (Kept x) v)) s))
    by from (Kept y) s f = inl (some (look_up first_offset base (join a b).kept) (with_common_records x y) (f ∙ ap (λ (v : Slot). batch_of_slot (slot_join (Kept x) v)) s))
    by from Gone s f = inr (inr s)
    by from Below s f = let below : int_lt base b.start ≡ true = slot_below b base ∙ ap is_below s in absurd (grind (arith, ints, clamps, below, from))
