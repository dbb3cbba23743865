use Rattle.coordinator_laws.proofs.Acting.{groups_sound}
use Rattle.coordinator_laws.proofs.soundness.groups_are_sound.Goals as goal

pub returns : goal.returns
returns c = groups_sound
