use Rattle.rotation_laws.proofs.Kept.{found_again, recovered_all}
use Rattle.rotation_laws.proofs.a_start_recovers_what_is_kept.Goals as goal

pub returns-clause-finds : goal.returns-clause-finds
returns-clause-finds g c = found_again g.L.Leading.leads

pub returns-clause-finds_no_other : goal.returns-clause-finds_no_other
returns-clause-finds_no_other g c = recovered_all g.L.Leading.leads
