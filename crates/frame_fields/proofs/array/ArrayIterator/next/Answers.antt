use Rattle.std.proofs.Common.{rules}
use Rattle.frame_fields.proofs.Arrays.{next_element}
use Rattle.frame_fields.proofs.array.ArrayIterator.next.Goals as goal

pub returns-clause-steps : goal.returns-clause-steps
returns-clause-steps c = search (rules, next_element)

pub returns-clause-goes : goal.returns-clause-goes
returns-clause-goes c = search (rules, next_element)
