-- The delta of a copy has the effect of a merge with it, for a copy that knows what was asked: it says of
-- each base offset what the sender would, or the offsets of the records that the sender has.
use Rattle.std.proofs.Common.{◌≡◌, ℤ, Bool, true, false, Option, Some, None, [], ◌∷◌, map, refl, sym, ap, ◌∙◌, arith}
use Rattle.std.specs.Prelude.{int_lt, if◌then◌else◌}
use Rattle.std.specs.List.{AllByRecursion, filter, filter_map}
use Rattle.std.specs.Option.{option_map}
use Rattle.batch_codec.specs.Values.{BatchValue}
use Rattle.batch_codec.specs.Offsets.{first_offset}
use Rattle.cover_ranges.specs.Runs.{Runs, covers, IsCanonical, union_of, cut_below}
use Rattle.content.specs.ByOffset.{look_up, put_all}
use Rattle.content.specs.Records.{with_common_records}
use Rattle.content.specs.Content.{Content, IsContent}
use Rattle.content.specs.Joins.{Slot, slot_from, slot_at, slot_join, batch_of_slot, is_unknown, merged_batch, greater_start, join, FitsAt, Agree}
use Rattle.content.specs.Joins.Slot.{Unknown, Kept, Gone, Below}
use Rattle.content_laws.proofs.ByOffset.{look_up-offset, all_from_at}
use Rattle.content_laws.proofs.Slots.{bases_rise}
use Rattle.deltas.specs.Entries.{Entry, sent}
use Rattle.deltas.specs.Entries.Entry.{Listed, Sent}
use Rattle.deltas.specs.Deltas.{offsets_of, is_asked, entry_for, delta_of}
use Rattle.deltas.specs.Patches.{Said, said_by, said_at, slot_patch, patched_batch, patch}
use Rattle.deltas.specs.Patches.Said.{Says, Lists}
use Rattle.deltas.specs.Accepting.{IsFor}
use Rattle.deltas.proofs.Entries.{Batches, entry_at}
use Rattle.deltas.proofs.Offsets.{listed_common}
use Rattle.deltas.proofs.Asking.{asked_known}

-- ---- what a copy's delta says, from what the copy says

abbrev listed_or_kept : Runs → BatchValue → Said
listed_or_kept asked b = if is_asked asked b then Lists (offsets_of b) else Says (Kept b)

abbrev pub said_of : Runs → Slot → Said
said_of asked (Kept b) = listed_or_kept asked b
said_of asked Unknown = Says Unknown
said_of asked Gone = Says Gone
said_of asked Below = Says Below

said_entry : (asked : Runs) (b : BatchValue) (s : Bool) → said_by (Some (entry_for asked b)) s ≡ listed_or_kept asked b
said_entry asked b s = by (is_asked asked b)
  where
    by : (t : Bool) → said_by (Some (if t then Listed (first_offset b) (offsets_of b) else Sent b)) s ≡ (if t then Lists (offsets_of b) else Says (Kept b))
    by true = refl
    by false = refl

pub delta_said : (x : Content) (asked : Runs) (o : ℤ) → said_at (delta_of x asked) o ≡ said_of asked (slot_at x o)
delta_said x asked o =
    ap (λ (z : Option Entry). if int_lt o x.start then Says Below else said_by z (covers x.cover o)) (entry_at asked o x.kept)
    ∙ by (int_lt o x.start) (look_up first_offset o x.kept) (covers x.cover o)
  where
    by : (t : Bool) (z : Option BatchValue) (s : Bool) → (if t then Says Below else said_by (option_map (entry_for asked) z) s) ≡ said_of asked (if t then Below else slot_from z s)
    by true z s = refl
    by false None true = refl
    by false None false = refl
    by false (Some b) s = said_entry asked b s

-- a copy that says Kept keeps that batch
pub slot_keeps : (c : Content) (o : ℤ) (b : BatchValue) → slot_at c o ≡ Kept b → look_up first_offset o c.kept ≡ Some b
slot_keeps c o b = by (int_lt o c.start) (look_up first_offset o c.kept) (covers c.cover o)
  where
    by : (t : Bool) (z : Option BatchValue) (s : Bool) → (if t then Below else slot_from z s) ≡ Kept b → z ≡ Some b
    by true z s e = absurd cc
    by false None true e = absurd cc
    by false None false e = absurd cc
    by false (Some x) s e = let same : x ≡ b = cc in ap Some same

-- ---- a batch that the receiver keeps: the same is left of it

kept_row : (asked : Runs) (z : BatchValue) (v : Slot) → ((b : BatchValue) → v ≡ Kept b → first_offset z ≡ first_offset b) → slot_patch (Kept z) (said_of asked v) ≡ slot_join (Kept z) v
kept_row asked z Unknown same = refl
kept_row asked z Gone same = refl
kept_row asked z Below same = refl
kept_row asked z (Kept b) same = by (is_asked asked b)
  where
    by : (t : Bool) → slot_patch (Kept z) (if t then Lists (offsets_of b) else Says (Kept b)) ≡ Kept (with_common_records z b)
    by true = ap Kept (listed_common z b (same b refl))
    by false = refl

pub merged_same : (x : Content) (asked : Runs) (z : BatchValue) → patched_batch (delta_of x asked) z ≡ merged_batch x z
merged_same x asked z =
    ap (λ (v : Said). batch_of_slot (slot_patch (Kept z) v)) (delta_said x asked (first_offset z))
    ∙ ap batch_of_slot (kept_row asked z (slot_at x (first_offset z)) (λ b e. sym (look_up-offset first_offset (first_offset z) x.kept b (slot_keeps x (first_offset z) b e))))

-- ---- the batches that the receiver never saw: none of them is only listed

pub sent_same : (asked : Runs) (unknown : BatchValue → Bool) (bs : Batches) → AllByRecursion (λ b. is_asked asked b ≡ true → unknown b ≡ false) bs → filter unknown (sent (map (entry_for asked) bs)) ≡ filter unknown bs
sent_same asked unknown [] all = refl
sent_same asked unknown (b ∷ bs) all = by (is_asked asked b) refl (sent_same asked unknown bs all.1)
  where
    by : (t : Bool) → is_asked asked b ≡ t → filter unknown (sent (map (entry_for asked) bs)) ≡ filter unknown bs → filter unknown (sent ((if t then Listed (first_offset b) (offsets_of b) else Sent b) ∷ map (entry_for asked) bs)) ≡ filter unknown (b ∷ bs)
    by true t rest = let known : unknown b ≡ false = all.0 t in grind (arith, known, rest)
    by false t rest = grind (arith, rest)

-- ---- the merge

pub patch_is_join : (x y : Content) (asked : Runs) → IsContent x → IsCanonical asked → IsFor y asked → ((base : ℤ) → FitsAt (greater_start y x) x y base) → patch y (delta_of x asked) ≡ join y x
unfolding patch join
patch_is_join x y asked is canonical knows fits =
    let news : filter (λ b. is_unknown (slot_at y (first_offset b))) (sent (map (entry_for asked) x.kept)) ≡ filter (λ b. is_unknown (slot_at y (first_offset b))) x.kept
    = sent_same asked (λ b. is_unknown (slot_at y (first_offset b))) x.kept
    (all_from_at first_offset (λ (b : BatchValue). is_asked asked b ≡ true → is_unknown (slot_at y (first_offset b)) ≡ false) x.start x.kept (bases_rise x is)
    (λ b e a. asked_known x y asked (first_offset b) b is canonical knows (fits (first_offset b)) e a)) in
    λ i. record {
      start = greater_start y x;
      cover = cut_below (greater_start y x) (union_of y.cover x.cover);
      kept = put_all first_offset (filter_map (λ z. merged_same x asked z i) y.kept) (news i);
    }

pub patch_is_join_agree : (x y : Content) (asked : Runs) → IsContent x → IsCanonical asked → IsFor y asked → Agree y x → patch y (delta_of x asked) ≡ join y x
patch_is_join_agree x y asked is canonical knows agree = patch_is_join x y asked is canonical knows (λ o. (agree o).1)
