use Rattle.std.proofs.Common.{◌≡◌, take}
use Rattle.std.specs.List.{list_all}
use Rattle.table_lines.specs.Lines.{is_unescaped}
use Rattle.table_lines.proofs.lines.are_unescaped.Given as goal

-- what is known of the bytes so far
abbrev pub invariant-loop-byte : goal.invariant-loop-byte
invariant-loop-byte l = l.so_far ≡ list_all is_unescaped (take l.byte-index l.bytes)
