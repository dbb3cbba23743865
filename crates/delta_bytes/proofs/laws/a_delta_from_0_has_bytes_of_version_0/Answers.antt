use Rattle.std.proofs.Common.{inr, refl}
use Rattle.delta_bytes.proofs.laws.a_delta_from_0_has_bytes_of_version_0.Goals as goal

pub returns : goal.returns
returns c e valid from_0 ranges asked entries = record { valid = valid; ranges = ranges; asked = asked; entries = entries; encoded = inr (from_0, refl) }
