use Rattle.std.proofs.Common.{rules}
use Rattle.table_lines.proofs.lines.pass_on.Goals as goal

pub returns-clause-empties_buffer : goal.returns-clause-empties_buffer
returns-clause-empties_buffer c = search rules
