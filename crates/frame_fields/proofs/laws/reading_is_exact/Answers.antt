use Rattle.frame_fields.proofs.FieldLaws as law
use Rattle.frame_fields.proofs.laws.reading_is_exact.Goals as goal

pub returns-clause-encoded_is_read : goal.returns-clause-encoded_is_read
returns-clause-encoded_is_read c = law.encodes_read

pub returns-clause-read_is_encoded : goal.returns-clause-read_is_encoded
returns-clause-read_is_encoded c = law.read_encodes

pub returns-clause-broken_is_refused : goal.returns-clause-broken_is_refused
returns-clause-broken_is_refused c = law.breaks_read

pub returns-clause-refused_is_broken : goal.returns-clause-refused_is_broken
returns-clause-refused_is_broken c = law.read_breaks
