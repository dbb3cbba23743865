use Rattle.std.proofs.Common.{rules}
use Rattle.frame_fields.proofs.Arrays.{count_elements}
use Rattle.frame_fields.proofs.array.Array.len.Goals as goal

pub returns-in-Err : goal.returns-in-Err
returns-in-Err c = search (rules, count_elements)
