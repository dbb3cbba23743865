use Rattle.std.proofs.Common.{ap}
use Rattle.std.specs.Prelude.{map}
use Rattle.std.specs.Vec.{vec_len, vec_capacity}
use Rattle.responses.specs.Responses.{topic_bytes}
use Rattle.answering.specs.Plans.{AnswersTopic}
use Rattle.answering.specs.Writing.{Said, topic_said, topics_said, topics_room}
use Rattle.answering.proofs.SoFar.{writes_more, answers_all, counts_all, fits_more, topics_parts, no_less}
use Rattle.answering.proofs.responding.put_topics.Goals as goal

pub loop-topic-preserved : goal.loop-topic-preserved
loop-topic-preserved g c =
    let so_far = c.loop-topic.invariant in
    let first = ap (map (topic_said g.E.Element.fields)) c.in-Some.ensures.steps in
    let made = c.in_ok-put_topic.ensures.writes in
    let all = topics_said g.E.Element.fields c.args.topics in
    let left = topics_said g.E.Element.fields c.loop-topic.topic-iterator in
    let next = topics_said g.E.Element.fields c.next.new.self in (
      writes_more (AnswersTopic (Said g.E.Element.value (g.Q.Answers.answers c.args.asked.now))) (topic_bytes g.Q.Answers.bytes) (c.args.state.now, c.args.memory.now) all c.args.out.now.items
          (c.loop-topic.state, c.loop-topic.memory) (c.put_topic.new.state, c.put_topic.new.memory) left next c.loop-topic.out.items c.put_topic.new.out.items _ made.result first made.answers made.appends so_far.0,
      fits_more g.Q.Answers.size (λ n. topics_room n all) (λ n. topics_room n left) (λ n. topics_room n next) _
          (vec_len c.loop-topic.out) (vec_len c.put_topic.new.out) _ (vec_capacity c.loop-topic.out) (vec_capacity c.put_topic.new.out) _ (topics_parts left next _ first) c.in_ok-put_topic.ensures.len c.in_ok-put_topic.ensures.keeps_capacity so_far.1,
    )

pub returns-in_err-put_topic-clause-keeps_capacity : goal.returns-in_err-put_topic-clause-keeps_capacity
returns-in_err-put_topic-clause-keeps_capacity g c n is =
    no_less (vec_capacity c.args.out.now) (vec_capacity c.loop-topic.out) (vec_capacity c.put_topic.new.out) (c.loop-topic.invariant.1 n is).1 (c.put_topic.ensures.keeps_capacity n is)

pub returns-clause-writes : goal.returns-clause-writes
returns-clause-writes g c =
    let so_far = c.loop-topic.invariant.0 in
    let none = ap (map (topic_said g.E.Element.fields)) c.in-None.ensures.steps.0 in
    let all = topics_said g.E.Element.fields c.args.topics in
    let left = topics_said g.E.Element.fields c.loop-topic.topic-iterator in
    let A = AnswersTopic (Said g.E.Element.value (g.Q.Answers.answers c.args.asked.now)) in
    let enc = topic_bytes g.Q.Answers.bytes in
    record {
      results = so_far.done;
      answers = answers_all A enc (c.args.state.now, c.args.memory.now) all c.args.out.now.items (c.loop-topic.state, c.loop-topic.memory) left c.loop-topic.out.items none so_far;
      as_many = counts_all A enc (c.args.state.now, c.args.memory.now) all c.args.out.now.items (c.loop-topic.state, c.loop-topic.memory) left c.loop-topic.out.items none so_far;
      appends = so_far.appends;
    }

pub returns-clause-keeps_capacity : goal.returns-clause-keeps_capacity
returns-clause-keeps_capacity g c n is = (c.loop-topic.invariant.1 n is).1
