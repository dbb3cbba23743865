-- A patch's slots are what the copy and the delta say together: its kept batches, its runs and its start
-- are each read from that, as a merge's are.
use Rattle.std.proofs.Common.{◌≡◌, ℤ, Bool, not, ◌&&◌, ◌||◌, Option, Some, None, refl, sym, ap, ◌∙◌, arith}
use Rattle.std.specs.Prelude.{int_lt, int_le, if◌then◌else◌}
use Rattle.std.specs.List.{filter, filter_map}
use Rattle.std.specs.Option.{option_and_then, option_or}
use Rattle.std.specs.Int.{int_max}
use Rattle.std.proofs.lemmas.Int.{ints, clamps}
use Rattle.batch_codec.specs.Values.{BatchValue}
use Rattle.batch_codec.specs.Offsets.{first_offset}
use Rattle.cover_ranges.specs.Runs.{covers, union_of}
use Rattle.cover_ranges.proofs.RunSets.{union_covers, cut_covers}
use Rattle.content.specs.ByOffset.{look_up}
use Rattle.content.specs.Records.{with_common_records}
use Rattle.content.specs.Content.{Content, IsContent}
use Rattle.content.specs.Joins.{Slot, slot_from, slot_at, batch_of_slot, is_unknown}
use Rattle.content.specs.Joins.Slot.{Unknown, Kept, Gone, Below}
use Rattle.content_laws.proofs.ByOffset.{look_up-offset, look_up-filter_offset, look_up-filter_map, look_up-put_all, rises-filter}
use Rattle.content_laws.proofs.Slots.{is_seen, is_below, bases_rise, slot_batch, slot_seen, slot_below}
use Rattle.deltas.specs.Entries.{sent}
use Rattle.deltas.specs.declared.TheConstants.{LEAST_BASE}
use Rattle.deltas.specs.Deltas.{Delta, IsDelta}
use Rattle.deltas.specs.Patches.{Said, said_at, with_listed, slot_patch, patched_batch, later_start, patch}
use Rattle.deltas.specs.Patches.Said.{Says, Lists}
use Rattle.deltas.proofs.Entries.{sent_rises}
use Rattle.deltas.proofs.Sayings.{said_batch, said_seen, said_below, rises_all, reads_batch, reads_seen, reads_below}

-- ---- batches

pub patched_base : (e : Delta) (x z : BatchValue) → patched_batch e x ≡ Some z → first_offset z ≡ first_offset x
patched_base e x z f = by (said_at e (first_offset x)) f
  where
    by : (v : Said) → batch_of_slot (slot_patch (Kept x) v) ≡ Some z → first_offset z ≡ first_offset x
    by (Says Unknown) g = let same : x ≡ z = cc in ap first_offset (sym same)
    by (Says (Kept y)) g = let same : with_common_records x y ≡ z = cc in ap first_offset (sym same)
    by (Says Gone) g = absurd cc
    by (Says Below) g = absurd cc
    by (Lists offsets) g = let same : with_listed offsets x ≡ z = cc in ap first_offset (sym same)

-- the copy's batches as the delta leaves them, and the sent ones where the copy is Unknown
kept_table : (u : Slot) (v : Said) → option_or (if is_unknown u then said_batch v else None) (option_and_then (λ x. batch_of_slot (slot_patch (Kept x) v)) (batch_of_slot u)) ≡ batch_of_slot (slot_patch u v)
kept_table u (Says v) = grind arith
kept_table u (Lists offsets) = grind arith

patched_here : (e : Delta) (o : ℤ) (z : Option BatchValue) → ((x : BatchValue) → z ≡ Some x → first_offset x ≡ o) → option_and_then (patched_batch e) z ≡ option_and_then (λ x. batch_of_slot (slot_patch (Kept x) (said_at e o))) z
patched_here e o None base = refl
patched_here e o (Some x) base = ap (λ (k : ℤ). batch_of_slot (slot_patch (Kept x) (said_at e k))) (base x refl)

pub patch_kept : (c : Content) (e : Delta) (o : ℤ) → IsContent c → IsDelta e → look_up first_offset o (patch c e).kept ≡ batch_of_slot (slot_patch (slot_at c o) (said_at e o))
unfolding patch
patch_kept c e o is delta =
    let news = filter (λ b. is_unknown (slot_at c (first_offset b))) (sent e.entries) in
    let left : look_up first_offset o (filter_map (patched_batch e) c.kept) ≡ option_and_then (λ x. batch_of_slot (slot_patch (Kept x) (said_at e o))) (batch_of_slot (slot_at c o))
    = look_up-filter_map first_offset (patched_batch e) (patched_base e) c.start o c.kept (bases_rise c is)
    ∙ patched_here e o (look_up first_offset o c.kept) (λ x f. look_up-offset first_offset o c.kept x f)
    ∙ ap (option_and_then (λ x. batch_of_slot (slot_patch (Kept x) (said_at e o)))) (slot_batch c o is) in
    let right : look_up first_offset o news ≡ (if is_unknown (slot_at c o) then said_batch (said_at e o) else None)
    = look_up-filter_offset first_offset (λ n. is_unknown (slot_at c n)) o (sent e.entries)
    ∙ ap (λ (z : Option BatchValue). if is_unknown (slot_at c o) then z else None) (reads_batch e o delta) in
    look_up-put_all first_offset LEAST_BASE o (filter_map (patched_batch e) c.kept) news (rises-filter first_offset (λ b. is_unknown (slot_at c (first_offset b))) LEAST_BASE (sent e.entries) (sent_rises LEAST_BASE e.entries (rises_all e delta)))
    ∙ (λ i. option_or (right i) (left i)) ∙ kept_table (slot_at c o) (said_at e o)

-- ---- start and runs

pub patch_start : (c : Content) (e : Delta) → (patch c e).start ≡ later_start c e
unfolding patch
patch_start c e = refl

pub patch_covers : (c : Content) (e : Delta) (o : ℤ) → covers (patch c e).cover o ≡ ((covers c.cover o || covers e.cover o) && int_le (later_start c e) o)
unfolding patch
patch_covers c e o = cut_covers (later_start c e) (union_of c.cover e.cover) o ∙ ap (λ (t : Bool). t && int_le (later_start c e) o) (union_covers c.cover e.cover o)

-- ---- slots

below_either : (s t o : ℤ) → int_lt o (int_max s t) ≡ (int_lt o s || int_lt o t)
below_either s t o = grind (arith, ints, clamps)

from_both : (s o : ℤ) → int_le s o ≡ not (int_lt o s)
from_both s o = grind (arith, ints)

slot_table : (u : Slot) (v : Said) → (if is_below u || said_below v then Below else slot_from (batch_of_slot (slot_patch u v)) ((is_seen u || said_seen v) && not (is_below u || said_below v))) ≡ slot_patch u v
slot_table u (Says v) = grind arith
slot_table u (Lists offsets) = grind arith

pub patch_slots : (c : Content) (e : Delta) (o : ℤ) → IsContent c → IsDelta e → slot_at (patch c e) o ≡ slot_patch (slot_at c o) (said_at e o)
patch_slots c e o is delta =
    let below : int_lt o (later_start c e) ≡ (is_below (slot_at c o) || said_below (said_at e o)) = below_either c.start e.start o ∙ (λ i. slot_below c o i || reads_below e o i) in
    let under : int_lt o (patch c e).start ≡ (is_below (slot_at c o) || said_below (said_at e o)) = ap (int_lt o) (patch_start c e) ∙ below in
    let seen : covers (patch c e).cover o ≡ ((is_seen (slot_at c o) || said_seen (said_at e o)) && not (is_below (slot_at c o) || said_below (said_at e o)))
    = patch_covers c e o ∙ (λ i. (slot_seen c o is i || reads_seen e o delta i) && (from_both (later_start c e) o ∙ ap not below) i) in
    (λ i. if under i then Below else slot_from (patch_kept c e o is delta i) (seen i)) ∙ slot_table (slot_at c o) (said_at e o)
