use Rattle.std.proofs.Common.{◌≡◌, ◌+◌}
use Rattle.answering.specs.Writing.{topics_said, topics_room, response_room}
use Rattle.answering.proofs.room.response_room.Given as goal

abbrev pub invariant-loop-topic : goal.invariant-loop-topic
invariant-loop-topic g l =
    l.room + topics_room l.fn.size (topics_said g.E.Element.fields l.topic-iterator)
    ≡ response_room l.fn.size l.fn.around (topics_said g.E.Element.fields l.fn.topics)
