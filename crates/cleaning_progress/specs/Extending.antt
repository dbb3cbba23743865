-- A map that takes in more batches. Words of private clauses, but for `has_room`.
use Rattle.std.specs.Prelude.{◌≡◌, ℕ, ℤ, ◌<ℤ◌, ◌≤ℤ◌, ◌++◌, ◌&&◌, Bool, nat_lt, List}
use Rattle.std.specs.List.{AllByRecursion, filter}
use Rattle.batch_codec.specs.Values.{BatchValue}
use Rattle.batch_codec.specs.Grammar.{Writable}
use Rattle.batch_codec.specs.Offsets.{last_offset, SpansRise}
use Rattle.content.specs.Records.{log_records}
use Rattle.content.specs.Content.{IsInRange}
use Rattle.swept_contents.specs.Swept.{is_dirty}
use Rattle.newest_keys.specs.Newest.{Newest, with_records}
use Rattle.cleaning_progress.specs.declared.extending.Room.{Room}

-- whether there is room for more
abbrev pub has_room : Room → Bool
has_room r = nat_lt 0 r.read && nat_lt 0 r.taken

-- a map takes in the batches that end from one offset on to below another one
pub record TakesDirty (from end : ℤ) (old new : Newest) (bs : List BatchValue) : Type 0 where
  pub on : from ≤ℤ end
  pub takes : (key : List ℕ) → new key ≡ with_records old (log_records (filter (is_dirty from end) bs)) key

-- batches of a walk: they rise, and end from an offset on
pub record IsLeft (end : ℤ) (bs : List BatchValue) : Type 0 where
  pub low : ℤ
  pub rise : SpansRise low bs
  pub writable : AllByRecursion Writable bs
  pub in_range : AllByRecursion IsInRange bs
  pub behind : AllByRecursion (λ b. end ≤ℤ last_offset b) bs

-- some batches were taken in, and some are left
pub record HasTaken (from end : ℤ) (old now : Newest) (left all : List BatchValue) : Type 0 where
  pub front : List BatchValue
  pub taken : List BatchValue
  pub whole : all ≡ front ++ (taken ++ left)
  pub on : from ≤ℤ end
  pub before : AllByRecursion (λ b. last_offset b <ℤ from) front
  pub within : AllByRecursion (λ b. (from ≤ℤ last_offset b) × (last_offset b <ℤ end)) taken
  pub takes : (key : List ℕ) → now key ≡ with_records old (log_records taken) key
  pub is_left : IsLeft end left
