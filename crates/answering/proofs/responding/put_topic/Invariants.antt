use Rattle.std.proofs.Common.{◌*◌, ◌++◌, length}
use Rattle.std.specs.Vec.{vec_len, vec_capacity}
use Rattle.frame_fields.specs.Arrays.{values}
use Rattle.responses.specs.Responses.{topic_head}
use Rattle.answering.specs.Writing.{Said, topic_room}
use Rattle.answering.specs.WritingParts.{InTopic, WritesSoFar, FitsSoFar}
use Rattle.answering.proofs.responding.put_topic.Given as goal

abbrev pub invariant-loop-entry : goal.invariant-loop-entry
invariant-loop-entry g l =
    let all = values g.E.Element.fields l.fn.topic.partitions in
    let left = values g.E.Element.fields l.entry-iterator in
    let name = l.fn.topic.name.now in
    WritesSoFar (InTopic (Said g.E.Element.value (g.Q.Answers.answers l.fn.asked)) name) g.Q.Answers.bytes (l.fn.state, l.fn.memory) all
    (l.fn.out.items ++ topic_head name (length all)) (l.state, l.memory) left l.out.items
    × FitsSoFar g.Q.Answers.size (λ n. topic_room n name (length all)) (λ n. n * length left) (vec_len l.out) (vec_len l.fn.out) (vec_capacity l.out) (vec_capacity l.fn.out)
