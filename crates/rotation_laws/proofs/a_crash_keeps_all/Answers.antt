use Rattle.rotation_laws.proofs.Kept.{crash_keeps}
use Rattle.rotation_laws.proofs.a_crash_keeps_all.Goals as goal

pub returns : goal.returns
returns g c = crash_keeps g.L.Leading.leads
