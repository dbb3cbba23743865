use Rattle.rotation_laws.proofs.Kept.{found_again, left_keeps, recovered_all}
use Rattle.rotation_laws.proofs.rotations_lose_nothing.Goals as goal

pub returns-clause-finds : goal.returns-clause-finds
returns-clause-finds g c first after acts frames frames' made now left laws is_new run crash =
    found_again g.L.Leading.leads first after frames' left laws (left_keeps g.L.Leading.leads first acts frames frames' made now left laws is_new run crash)

pub returns-clause-finds_no_other : goal.returns-clause-finds_no_other
returns-clause-finds_no_other g c first recovered acts frames frames' made now left laws is_new run crash =
    recovered_all g.L.Leading.leads first recovered frames' left laws (left_keeps g.L.Leading.leads first acts frames frames' made now left laws is_new run crash)
