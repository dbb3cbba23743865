use Rattle.std.proofs.Common.{map, drop}
use Rattle.group_offsets.specs.Walks.{entry_value, HasShown}
use Rattle.group_offsets.proofs.groups.shown_keys.Given as goal

-- what was seen and shown of the entries from an index on
abbrev pub invariant-loop-i : goal.invariant-loop-i
invariant-loop-i g l = HasShown l.seen l.keys.items (drop l.i (map entry_value l.entries))
