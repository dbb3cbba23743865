use Rattle.delta_bytes.proofs.ReadBack.{delta_read, delta_is_read}
use Rattle.delta_bytes.proofs.laws.reading_is_exact.Goals as goal

pub returns-clause-reads : goal.returns-clause-reads
returns-clause-reads c = delta_is_read

pub returns-clause-reads_only_deltas : goal.returns-clause-reads_only_deltas
returns-clause-reads_only_deltas c = delta_read
