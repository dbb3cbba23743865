use Rattle.side_by_side.proofs.CommonRecords.{heads_equal_of}
use Rattle.side_by_side.proofs.alike.have_equal_heads.Goals as goal

pub returns-clause-equal : goal.returns-clause-equal
returns-clause-equal c = heads_equal_of c.head.result c.head-2.result c.args.x.now.head c.args.y.now.head c.eq.result c.eq.ensures c.head.ensures.head c.head-2.ensures.head
