-- Entries that are known to stand in bytes, one after another.
use Rattle.std.specs.Prelude.{◌≡◌, ℕ, List, ◌∷◌}
use Rattle.std.specs.List.{AllByRecursion, flat_map}
use Rattle.deltas.specs.Entries.{Entry, entry_base, MayFollow}
use Rattle.deltas.specs.Entries.Entry.{Listed, Sent}
use Rattle.delta_bytes.specs.declared.entries.EntryView.{EntryView}
use Rattle.delta_bytes.specs.declared.entries.EntryView.TheVariants as view
use Rattle.delta_bytes.specs.EntryBytes.{entry_bytes}
use Rattle.delta_bytes.specs.Judging.{offsets_of}

-- a valid entry, by itself
abbrev pub IsValidEntry : Entry → Type 0
IsValidEntry x = MayFollow (entry_base x) x

-- the bytes are the encodings of these entries, and nothing else
pub record AreEncoded (entries : List Entry) (bytes : List ℕ) : Type 0 where
  pub encoded : bytes ≡ flat_map entry_bytes entries
  pub valid : AllByRecursion IsValidEntry entries

-- the entry that is borrowed
abbrev pub entry_of : EntryView → Entry
entry_of (view.Listed list) = Listed list.base (offsets_of list.offsets.now)
entry_of (view.Sent b) = Sent b

-- the first of these entries, and what stands in the bytes behind it
pub record IsFirst (entries : List Entry) (x : Entry) (rest : List ℕ) : Type 0 where
  pub others : List Entry
  pub are : entries ≡ x ∷ others
  pub valid : IsValidEntry x
  pub left : AreEncoded others rest
