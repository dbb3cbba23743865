use Rattle.std.proofs.Common.{length}
use Rattle.std.proofs.Common.{arith}
use Rattle.frame_fields.proofs.FramesCut.{one_cutting, some_cutting, incomplete_is_not_refused, one_refusal}
use Rattle.frame_fields.proofs.laws.frames_once.Goals as goal

pub returns-clause-one_cutting : goal.returns-clause-one_cutting
returns-clause-one_cutting c = one_cutting

pub returns-clause-every_stream_is_cut : goal.returns-clause-every_stream_is_cut
returns-clause-every_stream_is_cut c = λ bytes fits. some_cutting (length bytes) bytes (omega arith) fits

pub returns-clause-incomplete_is_not_refused : goal.returns-clause-incomplete_is_not_refused
returns-clause-incomplete_is_not_refused c = incomplete_is_not_refused

pub returns-clause-one_refusal : goal.returns-clause-one_refusal
returns-clause-one_refusal c = one_refusal
