use Rattle.std.proofs.Common.{rules}
use Rattle.frame_fields.proofs.FramesCut.{frame_read}
use Rattle.frame_fields.proofs.frame.first_size.Goals as goal

pub returns-clause-is_first : goal.returns-clause-is_first
returns-clause-is_first c = search (rules, frame_read)
