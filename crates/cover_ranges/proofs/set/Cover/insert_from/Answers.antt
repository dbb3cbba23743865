use Rattle.std.proofs.Common.{get_or}
use Rattle.std.specs.Prelude.{pos}
use Rattle.cover_ranges.proofs.Runs.{passed_run, adds_passed}
use Rattle.cover_ranges.proofs.set.Cover.insert_from.Goals as goal

pub insert-requires-clause-not_negative : goal.insert-requires-clause-not_negative
insert-requires-clause-not_negative g c = (passed_run (get_or c.args.ranges.now c.args.at (pos 0, pos 0)) (c.requires.canonical.are_runs c.args.at (pos 0, pos 0) c.requires.is_there)).0

pub insert-requires-clause-not_empty : goal.insert-requires-clause-not_empty
insert-requires-clause-not_empty g c = (passed_run (get_or c.args.ranges.now c.args.at (pos 0, pos 0)) (c.requires.canonical.are_runs c.args.at (pos 0, pos 0) c.requires.is_there)).1

pub insert-requires-clause-in_bounds : goal.insert-requires-clause-in_bounds
insert-requires-clause-in_bounds g c = (passed_run (get_or c.args.ranges.now c.args.at (pos 0, pos 0)) (c.requires.canonical.are_runs c.args.at (pos 0, pos 0) c.requires.is_there)).2

pub returns-clause-adds_offsets : goal.returns-clause-adds_offsets
returns-clause-adds_offsets g c =
    adds_passed c.insert.result c.args.self.now.runs c.insert.new.self.runs (get_or c.args.ranges.now c.args.at (pos 0, pos 0)) (c.requires.canonical.are_runs c.args.at (pos 0, pos 0) c.requires.is_there) c.insert.ensures.adds_offsets
