-- A file in memory.
use Rattle.std.specs.Prelude.{ℕ, List, Option, Some, None, if◌then◌else◌}
use Rattle.snapshot_drafts.specs.declared.memory.MemoryDraft.{MemoryDraft}

abbrev pub bytes_of : {A : Type 0} → MemoryDraft A → List ℕ
bytes_of file = file.bytes.items

-- these bytes, where they are synced; else it is not known which are
abbrev pub synced_of : {A : Type 0} → MemoryDraft A → Option (List ℕ)
synced_of file = if file.synced then Some (bytes_of file) else None

-- which file it is
abbrev pub number_of : {A : Type 0} → MemoryDraft A → ℕ
number_of file = file.number
