use Rattle.std.proofs.Common.{◌∙◌, sym}
use Rattle.std.specs.Int.{w32}
use Rattle.std.proofs.lemmas.Int.{to_z-of_z}
use Rattle.std.proofs.lemmas.List.{length-map}
use Rattle.frame_fields.specs.Types.{topic}
use Rattle.frame_fields.specs.Arrays.{values}
use Rattle.answering.specs.Writing.{topic_said, topics_said}
use Rattle.answering.proofs.SoFar.{response_written}
use Rattle.answering.proofs.responding.put_response.Goals as goal

pub returns-clause-writes : goal.returns-clause-writes
returns-clause-writes g c =
    let d = g.E.Element.fields in
    response_written c.extend_from_slice.result _ g.Q.Answers.bytes c.args.correlation _ c.args.before.now c.args.after.now (c.args.state.now, c.args.memory.now) (c.put_topics.new.state, c.put_topics.new.memory) (topics_said d c.args.topics) c.args.out.now.items c.put_head.new.out.items c.put_topics.new.out.items c.extend_from_slice.new.self.items c.len.result
    (to_z-of_z w32 c.args.correlation c.ranges.correlation) (c.len.ensures ∙ sym (length-map (values (topic d) c.args.topics) (topic_said d))) c.in_ok-put_head.ensures.appends c.in_ok-put_topics.ensures.writes c.extend_from_slice.ensures.items
