use Rattle.std.proofs.Common.{rules}
use Rattle.varint.proofs.writing.len_i32.Goals as goal

pub returns-clause-counts_encoding : goal.returns-clause-counts_encoding
returns-clause-counts_encoding c = search rules
