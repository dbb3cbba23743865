-- When a broker that starts may take the marks of its file: when the journal behind which they hold is there as it was. Else the
-- pass that a mark tells of may be gone with the end of that journal, and its offsets given anew. This project's own.
use Rattle.std.specs.Prelude.{nat_eq, nat_lt, ◌&&◌, not, Option, Some, None, Result, Ok, Err, Bool, false, if◌then◌else◌}
use Rattle.std.specs.Ordering.{int_eq}
use Rattle.cleaning_marks.specs.declared.believing.Unbelieved.{Unbelieved}
use Rattle.cleaning_marks.specs.declared.believing.Unbelieved.TheVariants.{OfAnotherJournal, NotReached, OfAnotherGroup}
use Rattle.cleaning_marks.specs.declared.place.GroupSeen.{GroupSeen}
use Rattle.cleaning_marks.specs.declared.place.JournalPlace.{JournalPlace}
use Rattle.cleaning_marks.specs.declared.place.JournalSeen.{JournalSeen}

-- whether a group that was seen begins and ends where the one below a place does, and has its crc
abbrev pub is_group_of : JournalPlace → Option GroupSeen → Bool
is_group_of p None = false
is_group_of p (Some g) = nat_eq g.at p.group_at && (nat_eq g.end p.size && nat_eq g.crc p.group_crc)

-- the first difference, if there is one
abbrev pub belief : JournalPlace → JournalSeen → Result (Unit {0}) Unbelieved
belief p j =
    if not (nat_eq j.number p.number && int_eq j.key p.key) then Err OfAnotherJournal
    else (if nat_lt j.read p.size then Err NotReached
    else (if is_group_of p j.group then Ok tt else Err OfAnotherGroup))
