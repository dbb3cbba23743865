use Rattle.std.proofs.Common.{rules}
use Rattle.varint.specs.Encoding.{encoding}
use Rattle.varint.proofs.writing.len_i64.Goals as goal

pub returns-clause-counts_encoding : goal.returns-clause-counts_encoding
unfolding encoding
returns-clause-counts_encoding c = search rules
