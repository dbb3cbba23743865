use Rattle.side_by_side.proofs.CommonRecords.{alike_is}
use Rattle.side_by_side.proofs.alike.are_alike_by_records.Goals as goal

pub returns-then-have_equal_heads : goal.returns-then-have_equal_heads
returns-then-have_equal_heads c =
    alike_is c.args.x.now c.args.y.now c.have_equal_records.result c.have_equal_heads.ensures.left_writable c.have_equal_heads.ensures.right_writable (c.have_equal_heads.ensures.equal.0 c.if-have_equal_heads.true) c.have_equal_records.ensures
