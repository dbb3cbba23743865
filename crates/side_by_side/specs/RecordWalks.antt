-- Walks over two batches' records side by side, by rising offset delta, as the code goes.
use Rattle.std.specs.Prelude.{◌≡◌, ℤ, int_lt, Bool, true, false, ◌&&◌, is_some, List, [], ◌∷◌, Option, Some, None, if◌then◌else◌}
use Rattle.std.specs.Ordering.{int_eq}
use Rattle.batch_codec.specs.Values.{RecordValue}

abbrev pub starts_below : ℤ → List RecordValue → Bool
starts_below d [] = false
starts_below d (r ∷ rs) = int_lt r.delta d

abbrev pub starts_at : ℤ → List RecordValue → Bool
starts_at d [] = false
starts_at d (r ∷ rs) = int_eq r.delta d

-- the records from the first one on that is not below a delta
abbrev pub from_delta : ℤ → List RecordValue → List RecordValue
from_delta d [] = []
from_delta d (r ∷ rs) = if int_lt r.delta d then from_delta d rs else r ∷ rs

-- the first record, where it is of this delta, and the records without it
abbrev pub front_at : ℤ → List RecordValue → Option RecordValue
front_at d [] = None
front_at d (r ∷ rs) = if int_eq r.delta d then Some r else None

abbrev pub without_front_at : ℤ → List RecordValue → List RecordValue
without_front_at d [] = []
without_front_at d (r ∷ rs) = if int_eq r.delta d then rs else r ∷ rs

-- the record of a delta, and the records behind it
abbrev pub at_delta : ℤ → List RecordValue → Option RecordValue
at_delta d rs = front_at d (from_delta d rs)

abbrev pub behind_delta : ℤ → List RecordValue → List RecordValue
behind_delta d rs = without_front_at d (from_delta d rs)

-- each of the first records equals the second ones' of its delta, where they have one
abbrev pub WalkAlike : List RecordValue → List RecordValue → Type 0
WalkAlike [] ss = Unit {0}
WalkAlike (r ∷ rs) ss = ((s : RecordValue) → at_delta r.delta ss ≡ Some s → r ≡ s)
    × WalkAlike rs (behind_delta r.delta ss)

-- whether the second records have one at the delta of each of the first ones
abbrev pub walk_has_all : List RecordValue → List RecordValue → Bool
walk_has_all [] ss = true
walk_has_all (r ∷ rs) ss =
    is_some (at_delta r.delta ss) && walk_has_all rs (behind_delta r.delta ss)

-- of each of the first records, whether the second ones have one at its delta
abbrev pub walk_flags : List RecordValue → List RecordValue → List Bool
walk_flags [] ss = []
walk_flags (r ∷ rs) ss = is_some (at_delta r.delta ss) ∷ walk_flags rs (behind_delta r.delta ss)

-- those of the first records at whose deltas the second ones have one
abbrev pub walk_common : List RecordValue → List RecordValue → List RecordValue
walk_common [] ss = []
walk_common (r ∷ rs) ss =
    if is_some (at_delta r.delta ss) then r ∷ walk_common rs (behind_delta r.delta ss)
    else walk_common rs (behind_delta r.delta ss)
