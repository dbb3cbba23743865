use Rattle.std.proofs.Common.{rules}
use Rattle.answering.proofs.room.topic_room.Goals as goal

pub returns : goal.returns
returns g c = search rules
