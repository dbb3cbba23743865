use Rattle.std.proofs.Common.{◌≡◌, ◌++◌, drop}
use Rattle.std.specs.Prelude.{map}
use Rattle.std.specs.List.{flat_map}
use Rattle.frame_fields.specs.Fields.{encoded, elements}
use Rattle.cleaning_marks.specs.Files.{entry_fields, part_value}
use Rattle.cleaning_marks.proofs.writing.put_entries.Given as goal

-- what is left to be written gives what all gives
abbrev pub invariant-loop-one : goal.invariant-loop-one
invariant-loop-one g l =
    l.out.items ++ flat_map (encoded entry_fields) (map part_value (drop l.one-index l.partitions)) ≡ l.fn.out.items ++ elements (encoded entry_fields) (map part_value l.partitions)
