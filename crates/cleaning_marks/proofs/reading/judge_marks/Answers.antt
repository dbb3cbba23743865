use Rattle.std.proofs.Common.{rules}
use Rattle.cleaning_marks.proofs.Judging.{is_file}
use Rattle.cleaning_marks.proofs.reading.judge_marks.Goals as goal

pub returns-clause-accepts : goal.returns-clause-accepts
returns-clause-accepts c =
    is_file c.in_ok-crc.crc c.crc_of_fields.result c.args.bytes.now c.in_ok-crc.fields.now c.in_ok-crc.ensures.has_start c.crc_of_fields.ensures
    c.in_ok-file.file (search rules) c.in_ok-file.ensures.reads (search rules)
