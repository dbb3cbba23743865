use Rattle.std.proofs.Common.{◌≡◌, take, length}
use Rattle.group_coordinator.specs.Finding.{Finds, protocol_names}
use Rattle.group_coordinator.proofs.name_index.NameIndex.rebuild_known.Given as goal

-- the names are those of the protocols before the index
abbrev pub invariant-loop-protocol : goal.invariant-loop-protocol
invariant-loop-protocol g l =
    Finds l.self (protocol_names (take l.protocol-index l.protocols)) × (length l.self.last ≡ length l.fn.self.last) × (l.self.capacity ≡ l.fn.self.capacity)
