-- What a look-up answers: a function of the table that the copy shows, and of the key. Kafka's documentation, section
-- "Consumer Offset Tracking": a group's offset is the latest one committed. The order of the checks is this project's
-- own.
use Rattle.std.specs.Prelude.{◌≡◌, ℕ, Bool, ◌&&◌, nat_le, List, length, Option, Some, None, Result, Ok, Err, if◌then◌else◌}
use Rattle.std.specs.Option.{option_map}
use Rattle.std.specs.FinMap as finite
use Rattle.content.specs.Table.{Table}
use Rattle.group_offsets.specs.declared.layout.TheConstants.{MAX_NAME_BYTES}
use Rattle.group_offsets.specs.declared.values.Committed.{Committed}
use Rattle.group_offsets.specs.declared.error.GroupError.{GroupError}
use Rattle.group_offsets.specs.declared.error.GroupError.TheVariants.{NameTooLong, BadValue, OutOfMemory}
use Rattle.group_offsets.specs.Keys.{GroupKeyValue, group_key_bytes}
use Rattle.group_offsets.specs.CommittedValues.{CommittedValue, committed_at, committed_value}
use Rattle.group_offsets.specs.Refusals.{AreNames}

-- a committed offset that was read, which is there
abbrev pub found_value : Option CommittedValue → Result (Option CommittedValue) GroupError
found_value (Some v) = Ok (Some v)
found_value None = Err BadValue

-- the committed offset that a shown value is, if there is one
abbrev pub shown_value : Option (List ℕ) → Result (Option CommittedValue) GroupError
shown_value None = Ok None
shown_value (Some bytes) = found_value (committed_at bytes)

-- whether a text has a size that a STRING can hold
abbrev pub is_name : List ℕ → Bool
is_name text = nat_le (length text) MAX_NAME_BYTES

-- what the table shows of a key
unfoldable pub lookup_in : Table → GroupKeyValue → Result (Option CommittedValue) GroupError
lookup_in t k =
    if is_name k.group && is_name k.topic then shown_value (finite.get t (group_key_bytes k))
    else Err NameTooLong

-- what was answered is that, or memory lacks for a key that has an encoding
abbrev pub LooksUp : Table → GroupKeyValue → Result (Option Committed) GroupError → Type 0
LooksUp t k (Ok found) = lookup_in t k ≡ Ok (option_map committed_value found)
LooksUp t k (Err NameTooLong) = lookup_in t k ≡ Err NameTooLong
LooksUp t k (Err BadValue) = lookup_in t k ≡ Err BadValue
LooksUp t k (Err OutOfMemory) = AreNames k.group k.topic
