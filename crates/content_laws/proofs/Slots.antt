-- What a content says of each base offset: a content is its slots, and a merge merges them.
use Rattle.std.proofs.Common.{◌≡◌, ℤ, pos, Bool, true, false, not, ◌&&◌, ◌||◌, Option, Some, None, refl, sym, ap, ◌∙◌, arith}
use Rattle.std.specs.Prelude.{◌≤ℤ◌, ◌<ℤ◌, int_lt, int_le, if◌then◌else◌}
use Rattle.std.specs.List.{filter, filter_map}
use Rattle.std.specs.Option.{option_and_then, option_or}
use Rattle.std.specs.Int.{int_max}
use Rattle.std.proofs.lemmas.Int.{ints, clamps}
use Rattle.batch_codec.specs.Values.{BatchValue}
use Rattle.batch_codec.specs.Offsets.{first_offset, last_offset}
use Rattle.cover_ranges.specs.Runs.{covers, union_of}
use Rattle.cover_ranges.proofs.Law.{equal_lists}
use Rattle.cover_ranges.proofs.RunSets.{union_covers, cut_covers}
use Rattle.content.specs.ByOffset.{look_up, Rises}
use Rattle.content.specs.Records.{with_common_records, IsKeepable}
use Rattle.content.specs.Content.{Content, IsContent, cut}
use Rattle.content.specs.Joins.{Slot, slot_from, slot_at, slot_join, batch_of_slot, is_unknown, merged_batch, greater_start, join}
use Rattle.content.specs.Joins.Slot.{Unknown, Kept, Gone, Below}
use Rattle.content_laws.proofs.ByOffset.{look_up-offset, look_up-low, look_up-filter_offset, look_up-filter_map, look_up-put_all, rises-filter, same_lists, all_at}
use Rattle.content_laws.proofs.Batches.{spans_bases, spans_apart}
use Rattle.content_laws.proofs.BatchParts.{common_self, common_assoc}

-- ---- a slot says whether a batch is kept, whether the offset was seen, and whether it is below
-- the start: in a content a kept batch's base was seen, and nothing below the start was

abbrev pub is_seen : Slot → Bool
is_seen Unknown = false
is_seen (Kept b) = true
is_seen Gone = true
is_seen Below = false

abbrev pub is_below : Slot → Bool
is_below Below = true
is_below u = false

-- a content's bases rise, and each kept batch ends at its base or later
pub bases_rise : (c : Content) → IsContent c → Rises first_offset c.start c.kept
bases_rise c is = spans_bases c.start c.kept is.disjoint is.keepable

pub kept_keepable : (c : Content) (o : ℤ) (b : BatchValue) → IsContent c → look_up first_offset o c.kept ≡ Some b → IsKeepable b
kept_keepable c o b is e = all_at first_offset IsKeepable o c.kept b is.keepable e

pub kept_ends : (c : Content) (o : ℤ) (b : BatchValue) → IsContent c → look_up first_offset o c.kept ≡ Some b → o ≤ℤ last_offset b
kept_ends c o b is e =
    let keepable = kept_keepable c o b is e in
    let least : pos 0 ≤ℤ b.head.last_delta = keepable.0.valid.last_delta in
    let base : first_offset b ≡ o = look_up-offset first_offset o c.kept b e in
    omega (arith, ints, least, base)

pub kept_covered : (c : Content) (o : ℤ) (b : BatchValue) → IsContent c → look_up first_offset o c.kept ≡ Some b → covers c.cover o ≡ true
kept_covered c o b is e = is.inside o o b e (omega (arith, ints)) (kept_ends c o b is e)

-- nothing below the start is kept or seen
below_none : (c : Content) (o : ℤ) → IsContent c → int_lt o c.start ≡ true → look_up first_offset o c.kept ≡ None
below_none c o is below = look_up-low first_offset c.start o c.kept (bases_rise c is) (grind (arith, ints))

below_unseen : (c : Content) (o : ℤ) → IsContent c → int_lt o c.start ≡ true → covers c.cover o ≡ false
below_unseen c o is below = by (covers c.cover o) refl
  where
    by : (b : Bool) → covers c.cover o ≡ b → covers c.cover o ≡ false
    by true e = let from : c.start ≤ℤ o = is.above o e in absurd (grind (arith, ints, from, below))
    by false e = e

pub slot_batch : (c : Content) (o : ℤ) → IsContent c → look_up first_offset o c.kept ≡ batch_of_slot (slot_at c o)
slot_batch c o is = by (int_lt o c.start) (look_up first_offset o c.kept) (covers c.cover o) (below_none c o is)
  where
    by : (t : Bool) (z : Option BatchValue) (s : Bool) → (t ≡ true → z ≡ None) → z ≡ batch_of_slot (if t then Below else slot_from z s)
    by true z s low = low refl
    by false None true low = refl
    by false None false low = refl
    by false (Some b) s low = refl

pub slot_seen : (c : Content) (o : ℤ) → IsContent c → covers c.cover o ≡ is_seen (slot_at c o)
slot_seen c o is = by (int_lt o c.start) (look_up first_offset o c.kept) (covers c.cover o) (below_unseen c o is) (λ b. kept_covered c o b is)
  where
    by : (t : Bool) (z : Option BatchValue) (s : Bool) → (t ≡ true → s ≡ false) → ((b : BatchValue) → z ≡ Some b → s ≡ true) → s ≡ is_seen (if t then Below else slot_from z s)
    by true z s low kept = low refl
    by false None true low kept = refl
    by false None false low kept = refl
    by false (Some b) s low kept = kept b refl

pub slot_below : (c : Content) (o : ℤ) → int_lt o c.start ≡ is_below (slot_at c o)
slot_below c o = by (int_lt o c.start) (look_up first_offset o c.kept) (covers c.cover o)
  where
    by : (t : Bool) (z : Option BatchValue) (s : Bool) → t ≡ is_below (if t then Below else slot_from z s)
    by true z s = refl
    by false None true = refl
    by false None false = refl
    by false (Some b) s = refl

-- a slot from the start on, by what is kept and seen
pub slot_is : (c : Content) (o : ℤ) → c.start ≤ℤ o → slot_at c o ≡ slot_from (look_up first_offset o c.kept) (covers c.cover o)
slot_is c o from = let test : int_lt o c.start ≡ false = grind (arith, ints) in ap (λ (t : Bool). if t then Below else slot_from (look_up first_offset o c.kept) (covers c.cover o)) test

kept_in_slot : (u : Slot) (b : BatchValue) → batch_of_slot u ≡ Some b → u ≡ Kept b
kept_in_slot Unknown b e = absurd cc
kept_in_slot (Kept x) b e = let same : x ≡ b = cc in ap Kept same
kept_in_slot Gone b e = absurd cc
kept_in_slot Below b e = absurd cc

pub slot_kept : (c : Content) (o : ℤ) (b : BatchValue) → IsContent c → look_up first_offset o c.kept ≡ Some b → slot_at c o ≡ Kept b
slot_kept c o b is e = kept_in_slot (slot_at c o) b (sym (slot_batch c o is) ∙ e)

-- the offsets behind a kept batch's base are seen, and no batch begins there
pub span_gone : (c : Content) (o i : ℤ) (b : BatchValue) → IsContent c → look_up first_offset o c.kept ≡ Some b → o <ℤ i → i ≤ℤ last_offset b → slot_at c i ≡ Gone
span_gone c o i b is e less within =
    let from : c.start ≤ℤ o = is.above o (kept_covered c o b is e) in
    slot_is c i (omega (arith, ints, from, less))
    ∙ by (look_up first_offset i c.kept) (covers c.cover i) (λ x f. spans_apart c.start o i c.kept b x is.disjoint is.keepable e f less) (is.inside o i b e (omega (arith, ints, less)) within)
  where
    by : (z : Option BatchValue) (s : Bool) → ((x : BatchValue) → z ≡ Some x → last_offset b <ℤ i) → s ≡ true → slot_from z s ≡ Gone
    by (Some x) s apart seen = let clash : last_offset b <ℤ i = apart x refl in absurd (omega (arith, ints, clash, within))
    by None true apart seen = refl
    by None false apart seen = absurd cc

-- ---- equal slots make equal contents: they say the start, the members of the runs, and the batch
-- at each base offset

same_start : (s t : ℤ) → ((o : ℤ) → int_lt o s ≡ int_lt o t) → s ≡ t
same_start s t same = let at_s = same s in let at_t = same t in grind (arith, ints, at_s, at_t)

pub same_content : (a b : Content) → IsContent a → IsContent b → ((o : ℤ) → slot_at a o ≡ slot_at b o) → a ≡ b
same_content a b is_a is_b same =
    let start : a.start ≡ b.start = same_start a.start b.start (λ o. slot_below a o ∙ ap is_below (same o) ∙ sym (slot_below b o)) in
    let cover : a.cover ≡ b.cover = equal_lists a.cover b.cover is_a.canonical is_b.canonical (λ o. slot_seen a o is_a ∙ ap is_seen (same o) ∙ sym (slot_seen b o is_b)) in
    let kept : a.kept ≡ b.kept = same_lists first_offset a.start b.start a.kept b.kept (bases_rise a is_a) (bases_rise b is_b) (λ o. slot_batch a o is_a ∙ ap batch_of_slot (same o) ∙ sym (slot_batch b o is_b)) in
    λ i. record { start = start i; cover = cover i; kept = kept i }

-- ---- a later start makes all slots below it Below

pub cut_slots : (c : Content) (start o : ℤ) → c.start ≤ℤ start → slot_at (cut start c) o ≡ (if int_lt o start then Below else slot_at c o)
cut_slots c start o later = by (int_lt o start) refl
  where
    by : (t : Bool) → int_lt o start ≡ t → (if t then Below else slot_from (look_up first_offset o (cut start c).kept) (covers (cut start c).cover o)) ≡ (if t then Below else slot_at c o)
    by true e = refl
    by false e =
        let from : int_le start o ≡ true = grind (arith, ints, e) in
        let kept : look_up first_offset o (cut start c).kept ≡ look_up first_offset o c.kept = look_up-filter_offset first_offset (int_le start) o c.kept ∙ ap (λ (b : Bool). if b then look_up first_offset o c.kept else None) from in
        let seen : covers (cut start c).cover o ≡ covers c.cover o = cut_covers start c.cover o ∙ grind (arith, from) in
        let above : start ≤ℤ o = grind (arith, ints, from) in
        (λ i. slot_from (kept i) (seen i)) ∙ sym (slot_is c o (omega (arith, ints, above, later)))

-- ---- a merge's slots are the merges of the two contents' slots: its kept batches, its runs and
-- its start are each read from them, case by case

pub merged_base : (b : Content) (x z : BatchValue) → merged_batch b x ≡ Some z → first_offset z ≡ first_offset x
merged_base b x z e = by (slot_at b (first_offset x)) e
  where
    by : (v : Slot) → batch_of_slot (slot_join (Kept x) v) ≡ Some z → first_offset z ≡ first_offset x
    by Unknown f = let same : x ≡ z = cc in ap first_offset (sym same)
    by (Kept y) f = let same : with_common_records x y ≡ z = cc in ap first_offset (sym same)
    by Gone f = absurd cc
    by Below f = absurd cc

-- the left one's batches as the right one leaves them, and the right one's where the left one is
-- Unknown
kept_table : (u v : Slot) → option_or (if is_unknown u then batch_of_slot v else None) (option_and_then (λ x. batch_of_slot (slot_join (Kept x) v)) (batch_of_slot u)) ≡ batch_of_slot (slot_join u v)
kept_table u v = grind arith

merged_here : (b : Content) (o : ℤ) (z : Option BatchValue) → ((x : BatchValue) → z ≡ Some x → first_offset x ≡ o) → option_and_then (merged_batch b) z ≡ option_and_then (λ x. batch_of_slot (slot_join (Kept x) (slot_at b o))) z
merged_here b o None base = refl
merged_here b o (Some x) base = ap (λ (k : ℤ). batch_of_slot (slot_join (Kept x) (slot_at b k))) (base x refl)

pub join_kept : (a b : Content) (o : ℤ) → IsContent a → IsContent b → look_up first_offset o (join a b).kept ≡ batch_of_slot (slot_join (slot_at a o) (slot_at b o))
unfolding join
join_kept a b o is_a is_b =
    let news = filter (λ y. is_unknown (slot_at a (first_offset y))) b.kept in
    let left : look_up first_offset o (filter_map (merged_batch b) a.kept) ≡ option_and_then (λ x. batch_of_slot (slot_join (Kept x) (slot_at b o))) (batch_of_slot (slot_at a o))
    = look_up-filter_map first_offset (merged_batch b) (merged_base b) a.start o a.kept (bases_rise a is_a)
    ∙ merged_here b o (look_up first_offset o a.kept) (λ x e. look_up-offset first_offset o a.kept x e)
    ∙ ap (option_and_then (λ x. batch_of_slot (slot_join (Kept x) (slot_at b o)))) (slot_batch a o is_a) in
    let right : look_up first_offset o news ≡ (if is_unknown (slot_at a o) then batch_of_slot (slot_at b o) else None)
    = look_up-filter_offset first_offset (λ n. is_unknown (slot_at a n)) o b.kept
    ∙ ap (λ (z : Option BatchValue). if is_unknown (slot_at a o) then z else None) (slot_batch b o is_b) in
    look_up-put_all first_offset b.start o (filter_map (merged_batch b) a.kept) news (rises-filter first_offset (λ y. is_unknown (slot_at a (first_offset y))) b.start b.kept (bases_rise b is_b))
    ∙ (λ i. option_or (right i) (left i)) ∙ kept_table (slot_at a o) (slot_at b o)

pub join_start : (a b : Content) → (join a b).start ≡ greater_start a b
unfolding join
join_start a b = refl

pub join_covers : (a b : Content) (o : ℤ) → covers (join a b).cover o ≡ ((covers a.cover o || covers b.cover o) && int_le (greater_start a b) o)
unfolding join
join_covers a b o = cut_covers (greater_start a b) (union_of a.cover b.cover) o ∙ ap (λ (t : Bool). t && int_le (greater_start a b) o) (union_covers a.cover b.cover o)

below_either : (s t o : ℤ) → int_lt o (int_max s t) ≡ (int_lt o s || int_lt o t)
below_either s t o = grind (arith, ints, clamps)

from_both : (s o : ℤ) → int_le s o ≡ not (int_lt o s)
from_both s o = grind (arith, ints)

slot_table : (u v : Slot) → (if is_below u || is_below v then Below else slot_from (batch_of_slot (slot_join u v)) ((is_seen u || is_seen v) && not (is_below u || is_below v))) ≡ slot_join u v
slot_table u v = grind arith

pub join_slots : (a b : Content) (o : ℤ) → IsContent a → IsContent b → slot_at (join a b) o ≡ slot_join (slot_at a o) (slot_at b o)
join_slots a b o is_a is_b =
    let below : int_lt o (greater_start a b) ≡ (is_below (slot_at a o) || is_below (slot_at b o)) = below_either a.start b.start o ∙ (λ i. slot_below a o i || slot_below b o i) in
    let under : int_lt o (join a b).start ≡ (is_below (slot_at a o) || is_below (slot_at b o)) = ap (int_lt o) (join_start a b) ∙ below in
    let seen : covers (join a b).cover o ≡ ((is_seen (slot_at a o) || is_seen (slot_at b o)) && not (is_below (slot_at a o) || is_below (slot_at b o)))
    = join_covers a b o ∙ (λ i. (slot_seen a o is_a i || slot_seen b o is_b i) && (from_both (greater_start a b) o ∙ ap not below) i) in
    (λ i. if under i then Below else slot_from (join_kept a b o is_a is_b i) (seen i)) ∙ slot_table (slot_at a o) (slot_at b o)

-- ---- the merge of slots: all cases, and of two Kept the records that both have

pub slot_join_self : (u : Slot) → slot_join u u ≡ u
slot_join_self Unknown = refl
slot_join_self (Kept x) = ap Kept (common_self x)
slot_join_self Gone = refl
slot_join_self Below = refl

pub slot_join_assoc : (u v w : Slot) → slot_join (slot_join u v) w ≡ slot_join u (slot_join v w)
slot_join_assoc u v w = grind (arith, common_assoc)

pub slot_join_comm : (u v : Slot) → ((x y : BatchValue) → u ≡ Kept x → v ≡ Kept y → with_common_records x y ≡ with_common_records y x) → slot_join u v ≡ slot_join v u
slot_join_comm u v alike = grind (arith, alike)
