use Rattle.std.proofs.Common.{rules}
use Rattle.varint.specs.Reading.{varlong_at}
use Rattle.varint.proofs.Number.{greatest64}
use Rattle.varint.proofs.reading.number_i64.Goals as goal

pub read_signed-requires-clause-greatest : goal.read_signed-requires-clause-greatest
read_signed-requires-clause-greatest c = search (greatest64)

pub returns : goal.returns
unfolding varlong_at
returns c = search rules
