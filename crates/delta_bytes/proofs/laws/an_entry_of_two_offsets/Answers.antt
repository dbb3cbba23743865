use Rattle.std.proofs.Common.{refl}
use Rattle.delta_bytes.specs.EntryBytes.{offset_encoding, list_encoding}
use Rattle.delta_bytes.proofs.laws.an_entry_of_two_offsets.Goals as goal

pub returns : goal.returns
unfolding list_encoding offset_encoding
returns c = refl
