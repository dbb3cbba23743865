use Rattle.std.proofs.Common.{◌*◌, ◌++◌, length, refl}
use Rattle.std.specs.Vec.{vec_len, vec_capacity}
use Rattle.frame_fields.specs.Arrays.{values}
use Rattle.responses.specs.Responses.{topic_head}
use Rattle.answering.specs.Writing.{Said, topic_room}
use Rattle.answering.specs.WritingParts.{InTopic}
use Rattle.answering.proofs.SoFar.{writes_more, answers_all, counts_all, topic_written, fits_more, entries_parts, no_less}
use Rattle.answering.proofs.responding.put_topic.Goals as goal

pub loop-entry-preserved : goal.loop-entry-preserved
loop-entry-preserved g c =
    let so_far = c.loop-entry.invariant in
    let first = c.in-Some.ensures.steps in
    let made = c.in_ok-put.ensures.writes in
    let name = c.args.topic.name.now in
    let all = values g.E.Element.fields c.args.topic.partitions in (
      writes_more (InTopic (Said g.E.Element.value (g.Q.Answers.answers c.args.asked.now)) name) g.Q.Answers.bytes (c.args.state.now, c.args.memory.now) all (c.args.out.now.items ++ topic_head name (length all))
          (c.loop-entry.state, c.loop-entry.memory) (c.put.new.state, c.put.new.memory) _ _ c.loop-entry.out.items c.put.new.out.items _ made.result first (c.in-Some.entry, refl, made.answers) made.appends so_far.0,
      fits_more g.Q.Answers.size (λ n. topic_room n name (length all)) (λ n. n * length (values g.E.Element.fields c.loop-entry.entry-iterator)) (λ n. n * length (values g.E.Element.fields c.next.new.self)) (λ n. n)
          (vec_len c.loop-entry.out) (vec_len c.put.new.out) _ (vec_capacity c.loop-entry.out) (vec_capacity c.put.new.out) _ (entries_parts _ _ _ first) c.in_ok-put.ensures.len c.in_ok-put.ensures.keeps_capacity so_far.1,
    )

pub returns-in_err-put-clause-keeps_capacity : goal.returns-in_err-put-clause-keeps_capacity
returns-in_err-put-clause-keeps_capacity g c n is =
    no_less (vec_capacity c.args.out.now) (vec_capacity c.loop-entry.out) (vec_capacity c.put.new.out) (c.loop-entry.invariant.1 n is).1 (c.put.ensures.keeps_capacity n is)

pub returns-clause-writes : goal.returns-clause-writes
returns-clause-writes g c =
    let so_far = c.loop-entry.invariant.0 in
    let none = c.in-None.ensures.steps.0 in
    let name = c.args.topic.name.now in
    let all = values g.E.Element.fields c.args.topic.partitions in
    let left = values g.E.Element.fields c.loop-entry.entry-iterator in
    let A = InTopic (Said g.E.Element.value (g.Q.Answers.answers c.args.asked.now)) name in
    let front = c.args.out.now.items ++ topic_head name (length all) in
    record {
      result = record { name = name; entries = so_far.done };
      answers = (refl, answers_all A g.Q.Answers.bytes (c.args.state.now, c.args.memory.now) all front (c.loop-entry.state, c.loop-entry.memory) left c.loop-entry.out.items none so_far);
      appends = topic_written g.Q.Answers.bytes c.args.out.now.items c.loop-entry.out.items name so_far.done (length all)
          (counts_all A g.Q.Answers.bytes (c.args.state.now, c.args.memory.now) all front (c.loop-entry.state, c.loop-entry.memory) left c.loop-entry.out.items none so_far) so_far.appends;
    }

pub returns-clause-keeps_capacity : goal.returns-clause-keeps_capacity
returns-clause-keeps_capacity g c n is = (c.loop-entry.invariant.1 n is).1
