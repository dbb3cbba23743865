use Rattle.member_frames.proofs.ReadTexts.{texts_short}
use Rattle.member_frames.proofs.laws.read_texts_are_short.Goals as goal

pub returns : goal.returns
returns c = texts_short
