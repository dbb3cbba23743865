-- The bytes of an entry, and the entry that stands at the front of bytes. The form is this project's own; batches stand
-- in it as Kafka's documentation has them, "Record Batch".
use Rattle.std.specs.Prelude.{◌≡◌, ℕ, ℤ, pos, ◌+ℤ◌, List, [], ◌∷◌, ◌++◌, length}
use Rattle.std.specs.List.{flat_map, fold}
use Rattle.std.specs.Int.{w32, w64}
use Rattle.batch_codec.specs.Grammar.{fields, signed, batch_encoding}
use Rattle.deltas.specs.declared.TheConstants.{LEAST_BASE}
use Rattle.delta_bytes.specs.declared.layout.TheConstants.{LISTED, SENT}
use Rattle.deltas.specs.Entries.{Entry, entry_last, MayFollow}
use Rattle.deltas.specs.Entries.Entry.{Listed, Sent}

-- one of the offsets of a list
unfoldable pub offset_encoding : ℤ → List ℕ
offset_encoding o = fields (signed w64 o ∷ [])

-- what follows the kind of a list: the base, and the offsets behind their count
unfoldable pub list_encoding : ℤ → List ℤ → List ℕ
list_encoding base offsets =
    fields (signed w64 base ∷ signed w32 (pos (length offsets)) ∷ []) ++ flat_map offset_encoding offsets

-- the kind, and what it says of the batch
abbrev pub entry_bytes : Entry → List ℕ
entry_bytes (Listed base offsets) = LISTED ∷ list_encoding base offsets
entry_bytes (Sent b) = SENT ∷ batch_encoding b

-- the offset after the last entry; where there is none, the least base
abbrev pub low_after : List Entry → ℤ
low_after entries = fold (λ _ x. entry_last x +ℤ pos 1) LEAST_BASE entries

-- The entry stands at the front of the bytes, and may follow others that end before `low`.
pub record IsNext (low : ℤ) (x : Entry) (bytes : List ℕ) : Type 0 where
  pub may_follow : MayFollow low x
  pub rest : List ℕ
  pub encoded : bytes ≡ entry_bytes x ++ rest
