use Rattle.std.proofs.Common.{rules}
use Rattle.cover_ranges.proofs.set.Cover.reserve_one.Goals as goal

pub returns-clause-makes_room : goal.returns-clause-makes_room
returns-clause-makes_room c = search rules
