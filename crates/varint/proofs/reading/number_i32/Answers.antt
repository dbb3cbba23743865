use Rattle.std.proofs.Common.{rules}
use Rattle.varint.proofs.Number.{greatest32}
use Rattle.varint.proofs.reading.number_i32.Goals as goal

pub read_signed-requires-clause-greatest : goal.read_signed-requires-clause-greatest
read_signed-requires-clause-greatest c = search (greatest32)

pub overflow_cast-result : goal.overflow_cast-result
overflow_cast-result c = search rules
