use Rattle.std.proofs.Common.{refl}
use Rattle.group_coordinator.proofs.examples.a_group_without_members.Goals as goal

pub returns-clause-no_generation : goal.returns-clause-no_generation
returns-clause-no_generation c = refl

pub returns-clause-a_generation : goal.returns-clause-a_generation
returns-clause-a_generation c = refl
