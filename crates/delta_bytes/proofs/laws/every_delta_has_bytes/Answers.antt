use Rattle.std.proofs.Common.{inl, refl}
use Rattle.delta_bytes.proofs.laws.every_delta_has_bytes.Goals as goal

pub returns : goal.returns
returns c e valid ranges asked entries = record { valid = valid; ranges = ranges; asked = asked; entries = entries; encoded = inl refl }
