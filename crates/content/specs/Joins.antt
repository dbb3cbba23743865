-- Two copies of a partition merged into one, by this project's own rule. Each base offset is decided
-- by what the two copies say of it: a batch that only one has seen is taken over; one that either
-- dropped is removed.
use Rattle.std.specs.Prelude.{◌≡◌, ℤ, ◌≤ℤ◌, ◌<ℤ◌, Bool, true, false, int_lt, Option, Some, None, if◌then◌else◌}
use Rattle.std.specs.List.{filter, filter_map}
use Rattle.std.specs.Int.{int_max}
use Rattle.batch_codec.specs.Values.{RecordValue, BatchValue}
use Rattle.batch_codec.specs.Offsets.{first_offset, last_offset}
use Rattle.cover_ranges.specs.Runs.{covers, union_of, cut_below}
use Rattle.content.specs.ByOffset.{look_up, put_all}
use Rattle.content.specs.Records.{record_at_delta, with_common_records}
use Rattle.content.specs.Content.{Content}

-- ---- what a copy says of a base offset

pub data Slot : Type 0 where
  -- the offset was not seen
  Unknown : Slot
  -- a batch with this base is kept
  Kept : BatchValue → Slot
  -- the offset was seen, and no kept batch has this base
  Gone : Slot
  -- the offset is below the start
  Below : Slot

abbrev pub slot_from : Option BatchValue → Bool → Slot
slot_from (Some b) is_seen = Kept b
slot_from None true = Gone
slot_from None false = Unknown

abbrev pub slot_at : Content → ℤ → Slot
slot_at c o =
    if int_lt o c.start then Below else slot_from (look_up first_offset o c.kept) (covers c.cover o)

-- What two copies say together: below one start is below the merged start; Unknown gives way to the
-- other; Gone wins over Kept; of a batch that both keep, the records stay that both have.
abbrev pub slot_join : Slot → Slot → Slot
slot_join Below v = Below
slot_join u Below = Below
slot_join Unknown v = v
slot_join u Unknown = u
slot_join (Kept x) (Kept y) = Kept (with_common_records x y)
slot_join u v = Gone

-- ---- the join

abbrev pub batch_of_slot : Slot → Option BatchValue
batch_of_slot (Kept b) = Some b
batch_of_slot u = None

abbrev pub is_unknown : Slot → Bool
is_unknown Unknown = true
is_unknown u = false

-- what the merge leaves of a batch, given the other copy
abbrev pub merged_batch : Content → BatchValue → Option BatchValue
merged_batch other b = batch_of_slot (slot_join (Kept b) (slot_at other (first_offset b)))

abbrev pub greater_start : Content → Content → ℤ
greater_start a b = int_max a.start b.start

-- From the greater start on: the offsets that either has seen, a's batches as `b` leaves them, and
-- b's batches that `a` never saw.
unfoldable pub join : Content → Content → Content
join a b = record {
  start = greater_start a b;
  cover = cut_below (greater_start a b) (union_of a.cover b.cover);
  kept = put_all first_offset
      (filter_map (merged_batch b) a.kept)
      (filter (λ y. is_unknown (slot_at a (first_offset y))) b.kept);
}

-- ---- which two can be merged

-- A batch that `x` keeps lies wholly below the start or wholly from it on; in the second case `y` has
-- seen all of its span or none.
abbrev pub FitsAt : ℤ → Content → Content → ℤ → Type 0
FitsAt start x y base = (b : BatchValue) → look_up first_offset base x.kept ≡ Some b →
    (base <ℤ start → last_offset b <ℤ start)
    × (start ≤ℤ base → (o : ℤ) → base ≤ℤ o → o ≤ℤ last_offset b →
    covers y.cover o ≡ covers y.cover base)

-- Batches that both keep at a base offset have the same head, and the same record at each offset at
-- which both have one.
abbrev pub AreAlikeAt : ℤ → Content → Content → ℤ → Type 0
AreAlikeAt start x y base = (left right : BatchValue) → start ≤ℤ base →
    look_up first_offset base x.kept ≡ Some left →
    look_up first_offset base y.kept ≡ Some right →
    (left.head ≡ right.head)
    × ((d : ℤ) (r s : RecordValue) → record_at_delta d left ≡ Some r →
    record_at_delta d right ≡ Some s → r ≡ s)

abbrev pub AgreeAt : Content → Content → ℤ → Type 0
AgreeAt a b base =
    FitsAt (greater_start a b) a b base
    × FitsAt (greater_start a b) b a base
    × AreAlikeAt (greater_start a b) a b base

-- two copies that may be merged
abbrev pub Agree : Content → Content → Type 0
Agree a b = (base : ℤ) → AgreeAt a b base
