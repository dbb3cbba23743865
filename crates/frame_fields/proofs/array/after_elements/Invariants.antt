use Rattle.std.proofs.Common.{◌≡◌, ◌-◌}
use Rattle.frame_fields.specs.Reading.{map_ok, read_times, read_fields}
use Rattle.frame_fields.proofs.array.after_elements.Given as goal

abbrev pub invariant-loop : goal.invariant-loop
invariant-loop g l = map_ok (λ x. x.1) (read_times (read_fields g.E.Element.fields) (l.count - l.counter) l.rest) ≡ map_ok (λ x. x.1) (read_times (read_fields g.E.Element.fields) l.count l.bytes)
