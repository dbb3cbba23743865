use Rattle.std.proofs.Common.{rules}
use Rattle.cleaning_marks.proofs.Judging.{start_given}
use Rattle.cleaning_marks.proofs.reading.judge_start.Goals as goal

pub returns-clause-has_start : goal.returns-clause-has_start
returns-clause-has_start c =
    start_given c.in-Ok.start.crc c.in-Ok.start.mark c.in-Ok.start.version c.args.bytes.now c.in-Ok.fields.now (search rules) (search rules) (search rules) (search rules)
