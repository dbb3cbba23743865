-- What a delta leaves of a copy: what a merge does, with one thing more that may be said of a base
-- offset, the offsets of a batch's records.
use Rattle.std.specs.Prelude.{ℤ, Bool, true, false, int_lt, List, Option, Some, None, if◌then◌else◌}
use Rattle.std.specs.List.{list_any, filter, filter_map}
use Rattle.std.specs.Int.{int_max}
use Rattle.std.specs.Ordering.{int_eq}
use Rattle.batch_codec.specs.Values.{BatchValue}
use Rattle.batch_codec.specs.Offsets.{first_offset, offset_of}
use Rattle.cover_ranges.specs.Runs.{covers, union_of, cut_below}
use Rattle.content.specs.ByOffset.{look_up, put_all}
use Rattle.content.specs.Records.{with_records_that}
use Rattle.content.specs.Content.{Content}
use Rattle.content.specs.Joins.{Slot, slot_at, slot_join, batch_of_slot, is_unknown}
use Rattle.content.specs.Joins.Slot.{Unknown, Kept, Gone, Below}
use Rattle.deltas.specs.Entries.{Entry, entry_base, sent}
use Rattle.deltas.specs.Entries.Entry.{Listed, Sent}
use Rattle.deltas.specs.Deltas.{Delta}

-- ---- what a delta says of a base offset

pub data Said : Type 0 where
  -- what a copy could say
  Says : Slot → Said
  -- a batch with this base is kept, and has records at these offsets
  Lists : List ℤ → Said

abbrev pub said_by : Option Entry → Bool → Said
said_by (Some (Listed base offsets)) is_seen = Lists offsets
said_by (Some (Sent b)) is_seen = Says (Kept b)
said_by None true = Says Gone
said_by None false = Says Unknown

abbrev pub said_at : Delta → ℤ → Said
said_at e o =
    if int_lt o e.start then Says Below else said_by (look_up entry_base o e.entries) (covers e.cover o)

-- the batch with only those of its records whose offsets are listed
abbrev pub with_listed : List ℤ → BatchValue → BatchValue
with_listed offsets b = with_records_that (λ r. list_any (λ o. int_eq o (offset_of b r)) offsets) b

-- What a copy and a delta say together: as two copies, and of a batch that the delta lists the records
-- stay that are listed. A list says nothing of a base that the copy has not seen: it may not take one.
abbrev pub slot_patch : Slot → Said → Slot
slot_patch u (Says v) = slot_join u v
slot_patch Below (Lists offsets) = Below
slot_patch (Kept b) (Lists offsets) = Kept (with_listed offsets b)
slot_patch Gone (Lists offsets) = Gone
slot_patch Unknown (Lists offsets) = Gone

-- ---- the patch

-- what the delta leaves of a batch
abbrev pub patched_batch : Delta → BatchValue → Option BatchValue
patched_batch e b = batch_of_slot (slot_patch (Kept b) (said_at e (first_offset b)))

abbrev pub later_start : Content → Delta → ℤ
later_start c e = int_max c.start e.start

-- From the greater start on: the offsets that either has seen, the copy's batches as the delta leaves
-- them, and the batches sent that the copy never saw.
unfoldable pub patch : Content → Delta → Content
patch c e = record {
  start = later_start c e;
  cover = cut_below (later_start c e) (union_of c.cover e.cover);
  kept = put_all first_offset
      (filter_map (patched_batch e) c.kept)
      (filter (λ b. is_unknown (slot_at c (first_offset b))) (sent e.entries));
}
