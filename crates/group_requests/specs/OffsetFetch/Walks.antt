-- What a walk back over the batches of a partition says of the keys that it looks for. Words of private clauses.
use Rattle.std.specs.Prelude.{◌≡◌, ℕ, ◌-◌, Bool, true, nat_eq, bytes_eq, List, ◌++◌, take, drop, Option, Some, None, if◌then◌else◌}
use Rattle.std.specs.List.{fold, flat_map}
use Rattle.std.specs.Option.{option_map}
use Rattle.std.specs.FinMap as finite
use Rattle.std.specs.declared.vec.Vec.{Vec}
use Rattle.indexmap.specs.IndexMap as index
use Rattle.batch_codec.specs.Values.{RecordValue, BatchValue}
use Rattle.content.specs.Records.{equal_keys}
use Rattle.content.specs.Table.{Table}
use Rattle.partition_log.specs.Newest.{value_of}
use Rattle.group_requests.specs.declared.offset_fetch.walk.Latest.{Latest}
use Rattle.group_requests.specs.declared.offset_fetch.walk.CommitWalk.{CommitWalk}

-- what was found of a key: the index at which a stretch of batches starts, and the key's latest value in it
abbrev pub Slot : Type 0
Slot = Option (ℕ × Option (List ℕ))

abbrev pub slot_value : Option Latest → Slot
slot_value slot = option_map (λ f. (f.stretch, value_of f.value)) slot

-- whether nothing was found, or only in that stretch
abbrev pub is_open : ℕ → Slot → Bool
is_open i None = true
is_open i (Some f) = nat_eq f.0 i

abbrev pub filled_with : ℕ → Option (List ℕ) → Slot → Slot
filled_with i value slot = if is_open i slot then Some (i, value) else slot

-- after a record of a stretch
abbrev pub filled : ℕ → List ℕ → Slot → RecordValue → Slot
filled i key slot r = if equal_keys r.key (Some key) then filled_with i r.value slot else slot

-- what was found of the key that ends so, if it is looked for
abbrev pub slot_in : {A S : Type 0} → index.IndexMap (Vec ℕ A) (Option Latest) S → List ℕ → Option Slot
slot_in slots rest = option_map slot_value (index.get_by (λ key. bytes_eq rest key.items) slots)

abbrev pub slot_at : {A : Type 0} → CommitWalk A → List ℕ → Option Slot
slot_at w rest = slot_in w.slots rest

-- the records of the batches from one index to before another
abbrev pub stretch_records : ℕ → ℕ → List BatchValue → List RecordValue
stretch_records start end bs = flat_map (λ (b : BatchValue). b.recs) (take (end - start) (drop start bs))

-- all keys see the records of a stretch
pub record Fills {A : Type 0} (i : ℕ) (rs : List RecordValue) (old new : CommitWalk A) : Type 0 where
  pub front : new.front.items ≡ old.front.items
  pub slots : (rest : List ℕ) → slot_at new rest ≡ option_map (λ slot. fold (filled i (old.front.items ++ rest)) slot rs) (slot_at old rest)

-- nothing was found
pub record HasNone {A : Type 0} (w : CommitWalk A) : Type 0 where
  pub none : (rest : List ℕ) (slot : Slot) → slot_at w rest ≡ Some slot → slot ≡ None

-- what a slot tells of its key's value in the table: where nothing was found, and all was walked, there is none
abbrev pub Tells : Bool → Table → List ℕ → Slot → Type 0
Tells whole t key (Some f) = f.1 ≡ finite.get t key
Tells whole t key None = whole ≡ true → finite.get t key ≡ None

-- what the walk found is what the table has
pub record Knows {A : Type 0} (t : Table) (w : CommitWalk A) : Type 0 where
  pub tells : (rest : List ℕ) (slot : Slot) → slot_at w rest ≡ Some slot → Tells w.is_whole t (w.front.items ++ rest) slot
