use Rattle.std.proofs.Common.{◌≡◌}
use Rattle.std.specs.List.{list_all}
use Rattle.frame_fields.specs.Arrays.{values}
use Rattle.cleaning_marks.specs.Files.{entry_fields, is_entry}
use Rattle.cleaning_marks.proofs.reading.have_marks.Given as goal

-- what is left tells what all tell
abbrev pub invariant-loop-one : goal.invariant-loop-one
invariant-loop-one l = list_all is_entry (values entry_fields l.one-iterator) ≡ list_all is_entry (values entry_fields l.fn.partitions)
