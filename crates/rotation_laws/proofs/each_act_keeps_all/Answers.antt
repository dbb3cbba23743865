use Rattle.rotation_laws.proofs.Kept.{act_keeps}
use Rattle.rotation_laws.proofs.each_act_keeps_all.Goals as goal

pub returns : goal.returns
returns g c = act_keeps g.L.Leading.leads
