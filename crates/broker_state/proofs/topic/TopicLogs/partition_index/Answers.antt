use Rattle.std.proofs.Common.{arith, to_z, of_z}
use Rattle.std.specs.Int.{w32}
use Rattle.std.proofs.lemmas.Int.{ints, to_z-of_z}
use Rattle.broker_state.proofs.NumberedPartitions.{index_fits}
use Rattle.broker_state.proofs.topic.TopicLogs.partition_index.Goals as goal

pub overflow_cast-index : goal.overflow_cast-index
overflow_cast-index g c =
    let same = to_z-of_z w32 c.args.number c.ranges.number in
    let least = c.if-number-lt0.false in
    (omega (arith, ints, same, least), index_fits c.args.number (to_z w32 (of_z w32 c.args.number)) c.ranges.number same)
