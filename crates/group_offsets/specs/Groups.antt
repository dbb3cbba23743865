-- The keys of a group that a copy shows, as the table does, in the order of their records. Kafka's documentation, "Log
-- Compaction": a key's record is its latest.
use Rattle.std.specs.Prelude.{ℕ, Bool, false, ◌&&◌, not, is_some, bytes_eq, List, [], ◌∷◌, Option, Some, None, if◌then◌else◌}
use Rattle.std.specs.List.{list_any, filter_map}
use Rattle.std.specs.Option.{option_and_then}
use Rattle.content.specs.Records.{LogRecord, log_records, same_key}
use Rattle.content.specs.Content.{Content}
use Rattle.group_offsets.specs.Keys.{GroupKeyValue, group_key_at}

-- whether one of the records has the key of a record
abbrev pub has_key_of : LogRecord → List LogRecord → Bool
has_key_of x xs = list_any (λ y. same_key y.1 x.1) xs

-- the records with a value after which none has their key
unfoldable pub shown_records : List LogRecord → List LogRecord
shown_records [] = []
shown_records (x ∷ xs) =
    if is_some x.1.value && not (has_key_of x xs) then x ∷ shown_records xs else shown_records xs

-- whether a key that was read is one of the group
abbrev pub is_of_group : List ℕ → Option GroupKeyValue → Bool
is_of_group group None = false
is_of_group group (Some k) = bytes_eq k.group group

-- a key, where it is one of the group
abbrev pub if_of_group : List ℕ → List ℕ → Option (List ℕ)
if_of_group group key = if is_of_group group (group_key_at key) then Some key else None

-- a record's key, where it is one of the group
abbrev pub key_of_group : List ℕ → LogRecord → Option (List ℕ)
key_of_group group x = option_and_then (if_of_group group) x.1.key

-- the group's keys that have a value, whatever that is
unfoldable pub group_keys : Content → List ℕ → List (List ℕ)
group_keys c group = filter_map (key_of_group group) (shown_records (log_records c.kept))
