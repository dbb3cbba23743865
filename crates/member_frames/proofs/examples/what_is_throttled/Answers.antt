use Rattle.std.proofs.Common.{refl}
use Rattle.member_frames.proofs.examples.what_is_throttled.Goals as goal

pub returns : goal.returns
returns c = refl
