use Rattle.std.proofs.Common.{◌≡◌, ◌+◌, ◌-◌, length}
use Rattle.frame_fields.specs.Types.{topic}
use Rattle.frame_fields.specs.Reading.{read_fields}
use Rattle.frame_fields.specs.Arrays.{elements_at}
use Rattle.frame_fields.proofs.topics.Topics.len.Given as goal

abbrev pub invariant-loop-count : goal.invariant-loop-count
invariant-loop-count g l = l.count + length (elements_at (read_fields (topic g.E.Element.fields)) (l.self.count - l.count) l.rest) ≡ length (elements_at (read_fields (topic g.E.Element.fields)) l.self.count l.self.bytes)
