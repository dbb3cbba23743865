-- The two walks that find a group's keys, as the code goes: forward over all records, then back over those of the
-- group. Words of private clauses.
use Rattle.std.specs.Prelude.{◌≡◌, ℕ, Bool, ◌&&◌, not, is_some, bytes_eq, List, [], ◌∷◌, map, reverse, Option, nat_eq, if◌then◌else◌}
use Rattle.std.specs.List.{list_any, filter_map}
use Rattle.std.specs.Option.{option_map, option_and_then}
use Rattle.std.specs.Cmp.Lexicographic.{pointwise}
use Rattle.std.specs.Borrow.{Bor}
use Rattle.indexmap.specs.IndexSet as index
use Rattle.batch_codec.specs.Values.{RecordValue}
use Rattle.content.specs.Records.{LogRecord}
use Rattle.group_offsets.specs.declared.entries.Entry.{Entry}
use Rattle.group_offsets.specs.Groups.{if_of_group}

-- a record's key, and whether it has a value
abbrev pub EntryValue : Type 0
EntryValue = List ℕ × Bool

abbrev pub entry_value : Entry → EntryValue
entry_value e = (e.key.now, e.has_value)

-- the entry of a record whose key is one of the group
abbrev pub entry_of : List ℕ → RecordValue → Option EntryValue
entry_of group r = option_map (λ key. (key, is_some r.value)) (option_and_then (if_of_group group) r.key)

-- the entries of some records, in their order
abbrev pub entries_of : List ℕ → List RecordValue → List EntryValue
entries_of group rs = filter_map (entry_of group) rs

-- the same of records with their offsets
abbrev pub log_entries : List ℕ → List LogRecord → List EntryValue
log_entries group xs = filter_map (λ x. entry_of group x.1) xs

-- whether one of the entries has the key
abbrev pub has_key : List ℕ → List EntryValue → Bool
has_key key es = list_any (λ e. bytes_eq e.0 key) es

-- the keys of the entries with a value after which none has their key
abbrev pub shown_keys : List EntryValue → List (List ℕ)
shown_keys [] = []
shown_keys (e ∷ es) = if e.1 && not (has_key e.0 es) then e.0 ∷ shown_keys es else shown_keys es

-- borrowed bytes
abbrev pub Borrowed : Type 0
Borrowed = Bor (List ℕ)

abbrev pub borrowed_eq : Borrowed → Borrowed → Bool
borrowed_eq x y = pointwise nat_eq x.now y.now

abbrev pub Seen : Type 0 → Type 0
Seen S = index.IndexSet Borrowed S

-- the set has the keys of these entries
abbrev pub Saw : {S : Type 0} → Seen S → List EntryValue → Type 0
Saw set es = (q : Borrowed) → index.contains borrowed_eq set q ≡ has_key q.now es

-- the keys that were seen, and those that are shown, the last first
pub record HasShown {S : Type 0} (set : Seen S) (keys : List Borrowed) (es : List EntryValue) : Type 0 where
  pub saw : Saw set es
  pub backwards : map (λ key. key.now) keys ≡ reverse (shown_keys es)
