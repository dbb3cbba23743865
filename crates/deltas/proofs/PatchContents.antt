-- A patch of a content is a content, whether the copy may take the delta or not: each of its batches is
-- a part of one that the copy keeps, or one that is sent, so its span is one that that side has seen.
use Rattle.std.proofs.Common.{◌≡◌, ℤ, Bool, true, false, ◌&&◌, ◌||◌, ◌⊎◌, inl, inr, Option, Some, None, refl, sym, ap, subst, ◌∙◌, arith}
use Rattle.std.specs.Prelude.{◌≤ℤ◌, ◌<ℤ◌, int_lt, int_le}
use Rattle.std.specs.List.{filter, filter_map, list_any}
use Rattle.std.specs.Ordering.{int_eq}
use Rattle.std.specs.Prelude.{is_some}
use Rattle.std.proofs.lemmas.Int.{ints, clamps, by_lt_z}
use Rattle.batch_codec.specs.Values.{BatchValue}
use Rattle.batch_codec.specs.Offsets.{first_offset, last_offset, offset_of, SpansRise}
use Rattle.cover_ranges.specs.Runs.{covers, union_of, IsCanonical}
use Rattle.cover_ranges.proofs.RunSets.{union_canonical, cut_canonical}
use Rattle.content.specs.ByOffset.{look_up, Rises}
use Rattle.content.specs.Records.{record_at_delta, with_common_records, IsKeepable}
use Rattle.content.specs.Content.{Content, IsContent}
use Rattle.content.specs.Joins.{Slot, slot_at, batch_of_slot, is_unknown}
use Rattle.content.specs.Joins.Slot.{Unknown, Kept, Gone, Below}
use Rattle.content_laws.proofs.ByOffset.{look_up-offset, rises-filter, rises-filter_map, rises-lower, rises-raise, rises-put_all, all_from_at}
use Rattle.content_laws.proofs.Batches.{AreApart, spans_from}
use Rattle.content_laws.proofs.BatchParts.{IsPartOf, thin_keepable, part_self}
use Rattle.content_laws.proofs.Slots.{is_below, bases_rise, kept_keepable, slot_batch, slot_below, span_gone}
use Rattle.content_laws.proofs.ContentSteps.{IsFrom, end_of_part}
use Rattle.deltas.specs.Entries.{sent}
use Rattle.deltas.specs.Entries.Entry.{Sent}
use Rattle.deltas.specs.declared.TheConstants.{LEAST_BASE}
use Rattle.deltas.specs.Deltas.{Delta, IsDelta}
use Rattle.deltas.specs.Patches.{Said, said_at, with_listed, slot_patch, patched_batch, later_start, patch}
use Rattle.deltas.specs.Patches.Said.{Says, Lists}
use Rattle.deltas.proofs.Entries.{IsEntry, sent_rises, sent_entry}
use Rattle.deltas.proofs.Sayings.{said_batch, said_below, rises_all, is_entry, reads_batch, reads_below, sent_gone}
use Rattle.deltas.proofs.PatchSlots.{patched_base, patch_kept, patch_start, patch_covers}

-- ---- the side that a batch is from

-- a batch that is sent
abbrev pub IsSent : Delta → ℤ → BatchValue → Type 0
IsSent e o z = look_up first_offset o (sent e.entries) ≡ Some z

none_some : (z : Option BatchValue) (x : BatchValue) → z ≡ Some x → z ≡ None → ⊥
none_some z x e f = cc

pub gone_left : (v : Said) → batch_of_slot (slot_patch Gone v) ≡ None
gone_left (Says v) = grind arith
gone_left (Lists offsets) = refl

gone_right : (u : Slot) → batch_of_slot (slot_patch u (Says Gone)) ≡ None
gone_right u = grind arith

below_none : (u : Slot) (v : Said) → (is_below u || said_below v) ≡ true → batch_of_slot (slot_patch u v) ≡ None
below_none u (Says v) e = grind arith
below_none u (Lists offsets) e = grind arith

pub patch_from : (c : Content) (e : Delta) (o : ℤ) (z : BatchValue) → IsContent c → IsDelta e → look_up first_offset o (patch c e).kept ≡ Some z
    → IsFrom c o z ⊎ ((slot_at c o ≡ Unknown) × IsSent e o z)
patch_from c e o z is delta f = by (slot_at c o) (said_at e o) refl refl (sym (patch_kept c e o is delta) ∙ f)
  where
    from_copy : (x : BatchValue) → slot_at c o ≡ Kept x → IsPartOf z x → IsFrom c o z
    from_copy x s part = record { batch = x; there = slot_batch c o is ∙ ap batch_of_slot s; part = part }

    by : (u : Slot) (v : Said) → slot_at c o ≡ u → said_at e o ≡ v → batch_of_slot (slot_patch u v) ≡ Some z → IsFrom c o z ⊎ ((slot_at c o ≡ Unknown) × IsSent e o z)
    by Unknown (Says Unknown) s t g = absurd cc
    by Unknown (Says (Kept y)) s t g = inr (s, reads_batch e o delta ∙ ap said_batch t ∙ g)
    by Unknown (Says Gone) s t g = absurd cc
    by Unknown (Says Below) s t g = absurd cc
    by Unknown (Lists offsets) s t g = absurd cc
    by (Kept x) (Says Unknown) s t g = let same : x ≡ z = cc in inl (from_copy x s (subst (λ (w : BatchValue). IsPartOf w x) same (part_self x)))
    by (Kept x) (Says (Kept y)) s t g = let same : with_common_records x y ≡ z = cc in inl (from_copy x s (record { test = λ r. is_some (record_at_delta r.delta y); is = sym same }))
    by (Kept x) (Says Gone) s t g = absurd cc
    by (Kept x) (Says Below) s t g = absurd cc
    by (Kept x) (Lists offsets) s t g = let same : with_listed offsets x ≡ z = cc in inl (from_copy x s (record { test = λ r. list_any (λ q. int_eq q (offset_of x r)) offsets; is = sym same }))
    by Gone v s t g = absurd (none_some (batch_of_slot (slot_patch Gone v)) z g (gone_left v))
    by Below (Says v) s t g = absurd cc
    by Below (Lists offsets) s t g = absurd cc

pub patch_side : (c : Content) (e : Delta) (o : ℤ) (z : BatchValue) → IsContent c → IsDelta e → look_up first_offset o (patch c e).kept ≡ Some z → IsFrom c o z ⊎ IsSent e o z
patch_side c e o z is delta f = by (patch_from c e o z is delta f)
  where
    by : IsFrom c o z ⊎ ((slot_at c o ≡ Unknown) × IsSent e o z) → IsFrom c o z ⊎ IsSent e o z
    by (inl p) = inl p
    by (inr p) = inr p.1

-- a sent batch is one that a copy may keep, and each offset of its span was seen
pub sent_is_entry : (e : Delta) (o : ℤ) (z : BatchValue) → IsDelta e → IsSent e o z → IsEntry e.cover e.asked (Sent z)
sent_is_entry e o z is f = is_entry e o (Sent z) is (sent_entry LEAST_BASE o e.entries z (rises_all e is) f)

-- ---- where the batches lie

pub patch_above : (c : Content) (e : Delta) (o : ℤ) (z : BatchValue) → IsContent c → IsDelta e → look_up first_offset o (patch c e).kept ≡ Some z → later_start c e ≤ℤ o
patch_above c e o z is delta f = by (int_lt o c.start || int_lt o e.start) refl
  where
    by : (t : Bool) → (int_lt o c.start || int_lt o e.start) ≡ t → later_start c e ≤ℤ o
    by true s =
        let below : (is_below (slot_at c o) || said_below (said_at e o)) ≡ true = (λ i. sym (slot_below c o) i || sym (reads_below e o) i) ∙ s in
        absurd (none_some (batch_of_slot (slot_patch (slot_at c o) (said_at e o))) z (sym (patch_kept c e o is delta) ∙ f) (below_none (slot_at c o) (said_at e o) below))
    by false s = grind (arith, ints, clamps, s)

rises_all_kept : (c : Content) (e : Delta) → IsContent c → IsDelta e → Rises first_offset LEAST_BASE (patch c e).kept
unfolding patch
rises_all_kept c e is delta =
    let least = is.in_range.0 in
    let left : Rises first_offset c.start (filter_map (patched_batch e) c.kept) = rises-filter_map first_offset (patched_batch e) (patched_base e) c.start c.kept (bases_rise c is) in
    let right : Rises first_offset LEAST_BASE (filter (λ b. is_unknown (slot_at c (first_offset b))) (sent e.entries)) = rises-filter first_offset (λ b. is_unknown (slot_at c (first_offset b))) LEAST_BASE (sent e.entries) (sent_rises LEAST_BASE e.entries (rises_all e delta)) in
    rises-put_all first_offset LEAST_BASE (filter_map (patched_batch e) c.kept) (filter (λ b. is_unknown (slot_at c (first_offset b))) (sent e.entries))
    (rises-lower first_offset LEAST_BASE c.start (filter_map (patched_batch e) c.kept) left (omega (arith, ints, least))) right

pub patch_bases_rise : (c : Content) (e : Delta) → IsContent c → IsDelta e → Rises first_offset (later_start c e) (patch c e).kept
patch_bases_rise c e is delta = rises-raise first_offset LEAST_BASE (later_start c e) (patch c e).kept (rises_all_kept c e is delta)
    (all_from_at first_offset (λ (z : BatchValue). later_start c e ≤ℤ first_offset z) LEAST_BASE (patch c e).kept (rises_all_kept c e is delta) (λ z f. patch_above c e (first_offset z) z is delta f))

-- a batch that reached into another one's base would make that base Gone, on its own side
pub patch_apart : (c : Content) (e : Delta) → IsContent c → IsDelta e → AreApart (patch c e).kept
patch_apart c e is delta i j z w f g less = by (patch_side c e i z is delta f)
  where
    kept : batch_of_slot (slot_patch (slot_at c j) (said_at e j)) ≡ Some w
    kept = sym (patch_kept c e j is delta) ∙ g

    by : IsFrom c i z ⊎ IsSent e i z → last_offset z <ℤ j
    by (inl p) = by_lt_z (last_offset z) j (λ l. l) (λ le.
        let gone : slot_at c j ≡ Gone = span_gone c i j p.batch is p.there less (subst (λ (k : ℤ). j ≤ℤ k) (end_of_part z p.batch p.part) le) in
        absurd (none_some (batch_of_slot (slot_patch (slot_at c j) (said_at e j))) w kept (ap (λ (u : Slot). batch_of_slot (slot_patch u (said_at e j))) gone ∙ gone_left (said_at e j))))
    by (inr p) = by_lt_z (last_offset z) j (λ l. l) (λ le.
        let gone : said_at e j ≡ Says Gone = sent_gone e i j z delta p less le in
        absurd (none_some (batch_of_slot (slot_patch (slot_at c j) (said_at e j))) w kept (ap (λ (v : Said). batch_of_slot (slot_patch (slot_at c j) v)) gone ∙ gone_right (slot_at c j))))

-- ---- the content

patch_runs : (c : Content) (e : Delta) → IsContent c → IsDelta e → IsCanonical (patch c e).cover
unfolding patch
patch_runs c e is delta = cut_canonical (later_start c e) (union_of c.cover e.cover) (union_canonical c.cover e.cover is.canonical delta.canonical)

pub content_patch : (c : Content) (e : Delta) → IsContent c → IsDelta e → IsContent (patch c e)
content_patch c e is delta = record {
  in_range = (let least = is.in_range.0 in omega (arith, ints, clamps, start, least), let end_c = is.in_range.1 in let end_e = delta.in_range.1 in omega (arith, ints, clamps, start, end_c, end_e));
  canonical = patch_runs c e is delta;
  above = λ o f. above o (sym (patch_covers c e o) ∙ f);
  disjoint = subst (λ (s : ℤ). SpansRise s (patch c e).kept) (sym start) (spans_from (later_start c e) (patch c e).kept (patch_bases_rise c e is delta) (patch_apart c e is delta));
  keepable = all_from_at first_offset IsKeepable (later_start c e) (patch c e).kept (patch_bases_rise c e is delta) (λ z f. keep z (patch_side c e (first_offset z) z is delta f));
  inside = λ base o z f from to.
      patch_covers c e o ∙ both (covers c.cover o || covers e.cover o) (int_le (later_start c e) o)
      (seen base o z from to (patch_side c e base z is delta f))
      (let least = patch_above c e base z is delta f in grind (arith, ints, least, from));
}
  where
    start : (patch c e).start ≡ later_start c e
    start = patch_start c e

    above : (o : ℤ) → ((covers c.cover o || covers e.cover o) && int_le (later_start c e) o) ≡ true → (patch c e).start ≤ℤ o
    above o f = grind (arith, ints, start)

    keep : (z : BatchValue) → IsFrom c (first_offset z) z ⊎ IsSent e (first_offset z) z → IsKeepable z
    keep z (inl p) = thin_keepable z p.batch p.part (kept_keepable c (first_offset z) p.batch is p.there)
    keep z (inr p) = (sent_is_entry e (first_offset z) z delta p).0.1

    both : (s t : Bool) → s ≡ true → t ≡ true → (s && t) ≡ true
    both s t p q = grind arith

    or_right : (s t : Bool) → t ≡ true → (s || t) ≡ true
    or_right s t p = grind arith

    or_left : (s t : Bool) → s ≡ true → (s || t) ≡ true
    or_left s t p = grind arith

    seen : (base o : ℤ) (z : BatchValue) → base ≤ℤ o → o ≤ℤ last_offset z → IsFrom c base z ⊎ IsSent e base z → (covers c.cover o || covers e.cover o) ≡ true
    seen base o z from to (inl p) = or_left (covers c.cover o) (covers e.cover o) (is.inside base o p.batch p.there from (subst (λ (k : ℤ). o ≤ℤ k) (end_of_part z p.batch p.part) to))
    seen base o z from to (inr p) =
        let base_is : first_offset z ≡ base = look_up-offset first_offset base (sent e.entries) z p in
        or_right (covers c.cover o) (covers e.cover o) ((sent_is_entry e base z delta p).1.0 o (omega (arith, ints, base_is, from)) to)
