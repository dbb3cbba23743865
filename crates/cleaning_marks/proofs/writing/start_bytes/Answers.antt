use Rattle.std.proofs.Common.{rules}
use Rattle.cleaning_marks.proofs.Parts.{start_put}
use Rattle.cleaning_marks.proofs.writing.start_bytes.Goals as goal

pub returns : goal.returns
returns c = start_put c.int32_bytes.result c.int32_bytes-2.result c.int16_bytes.result c.crc_of_fields.result c.args.fields.now (search rules) (search rules) (search rules) (search rules)
