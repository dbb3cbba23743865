use Rattle.group_offsets.proofs.KeyEncodings.{key_again, key_takes}
use Rattle.group_offsets.proofs.laws.one_key_encoding.Goals as goal

pub returns-clause-reads_its_encoding : goal.returns-clause-reads_its_encoding
returns-clause-reads_its_encoding c = key_again

pub returns-clause-reads_no_other : goal.returns-clause-reads_no_other
returns-clause-reads_no_other c = λ bytes k is e. key_takes bytes k is e
