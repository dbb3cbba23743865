use Rattle.std.specs.Vec.{vec_len, vec_capacity}
use Rattle.responses.specs.Responses.{topic_bytes}
use Rattle.answering.specs.Plans.{AnswersTopic}
use Rattle.answering.specs.Writing.{Said, topics_said, topics_room}
use Rattle.answering.specs.WritingParts.{WritesSoFar, FitsSoFar}
use Rattle.answering.proofs.responding.put_topics.Given as goal

abbrev pub invariant-loop-topic : goal.invariant-loop-topic
invariant-loop-topic g l =
    let all = topics_said g.E.Element.fields l.fn.topics in
    let left = topics_said g.E.Element.fields l.topic-iterator in
    WritesSoFar (AnswersTopic (Said g.E.Element.value (g.Q.Answers.answers l.fn.asked))) (topic_bytes g.Q.Answers.bytes) (l.fn.state, l.fn.memory) all l.fn.out.items (l.state, l.memory) left l.out.items
    × FitsSoFar g.Q.Answers.size (λ n. topics_room n all) (λ n. topics_room n left) (vec_len l.out) (vec_len l.fn.out) (vec_capacity l.out) (vec_capacity l.fn.out)
