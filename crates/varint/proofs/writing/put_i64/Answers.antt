use Rattle.std.proofs.Common.{rules}
use Rattle.varint.specs.Encoding.{encoding}
use Rattle.varint.proofs.Encodings.{digits_last}
use Rattle.varint.proofs.writing.put_i64.Goals as goal

pub returns-clause-appends_encoding : goal.returns-clause-appends_encoding
unfolding encoding
returns-clause-appends_encoding c = search (rules, digits_last)
