use Rattle.group_offsets.proofs.KeyEncodings.{value_again, value_takes}
use Rattle.group_offsets.proofs.ReadFits.{read_value_fits}
use Rattle.group_offsets.proofs.laws.one_value_encoding.Goals as goal

pub returns-clause-reads_its_encoding : goal.returns-clause-reads_its_encoding
returns-clause-reads_its_encoding c = value_again

pub returns-clause-reads_no_other : goal.returns-clause-reads_no_other
returns-clause-reads_no_other c = λ bytes v is e. value_takes bytes v is e

pub returns-clause-reads_what_fits : goal.returns-clause-reads_what_fits
returns-clause-reads_what_fits c = read_value_fits
