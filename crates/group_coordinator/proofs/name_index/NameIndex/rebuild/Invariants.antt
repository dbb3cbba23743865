use Rattle.std.proofs.Common.{◌≡◌, take, length}
use Rattle.group_coordinator.specs.Finding.{Finds, names_of}
use Rattle.group_coordinator.proofs.name_index.NameIndex.rebuild.Given as goal

-- the names are those of the groups before the index
abbrev pub invariant-loop-group : goal.invariant-loop-group
invariant-loop-group g l =
    Finds l.self (names_of (take l.group-index l.groups)) × (length l.self.last ≡ length l.fn.self.last) × (l.self.capacity ≡ l.fn.self.capacity)
