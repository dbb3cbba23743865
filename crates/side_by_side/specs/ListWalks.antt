-- Words of private clauses: the records of a batch that a delta lists.
use Rattle.std.specs.Prelude.{ℤ, ◌+ℤ◌, int_lt, Bool, true, false, ◌&&◌, List, [], ◌∷◌, if◌then◌else◌}
use Rattle.std.specs.Ordering.{int_eq}
use Rattle.batch_codec.specs.Values.{RecordValue, BatchValue}
use Rattle.batch_codec.specs.Offsets.{first_offset}

-- ---- walks over a batch's records and offsets side by side, as the code goes

-- the offsets from the first on that is not below this one
unfoldable pub offsets_from : ℤ → List ℤ → List ℤ
offsets_from offset [] = []
offsets_from offset (o ∷ os) = if int_lt o offset then offsets_from offset os else o ∷ os

-- whether the first of the offsets is this one
unfoldable pub begins_with : ℤ → List ℤ → Bool
begins_with offset [] = false
begins_with offset (o ∷ os) = int_eq o offset

-- the offset of the record of a batch that has this delta
abbrev pub offset_in : BatchValue → ℤ → ℤ
offset_in b delta = first_offset b +ℤ delta

-- whether all of the records are at one of the offsets
abbrev pub walk_all_listed : BatchValue → List RecordValue → List ℤ → Bool
walk_all_listed b [] offsets = true
walk_all_listed b (r ∷ rs) offsets =
    begins_with (offset_in b r.delta) (offsets_from (offset_in b r.delta) offsets)
    && walk_all_listed b rs (offsets_from (offset_in b r.delta) offsets)

-- of each of the records, whether it is
abbrev pub listed_flags : BatchValue → List RecordValue → List ℤ → List Bool
listed_flags b [] offsets = []
listed_flags b (r ∷ rs) offsets =
    begins_with (offset_in b r.delta) (offsets_from (offset_in b r.delta) offsets)
    ∷ listed_flags b rs (offsets_from (offset_in b r.delta) offsets)

-- those of the records that are
abbrev pub walk_listed : BatchValue → List RecordValue → List ℤ → List RecordValue
walk_listed b [] offsets = []
walk_listed b (r ∷ rs) offsets =
    if begins_with (offset_in b r.delta) (offsets_from (offset_in b r.delta) offsets)
    then r ∷ walk_listed b rs (offsets_from (offset_in b r.delta) offsets)
    else walk_listed b rs (offsets_from (offset_in b r.delta) offsets)
