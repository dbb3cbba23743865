use Rattle.std.proofs.Common.{rules}
use Rattle.varint.proofs.writing.put_i32.Goals as goal

pub returns-clause-appends_encoding : goal.returns-clause-appends_encoding
returns-clause-appends_encoding c = search rules
