use Rattle.deltas.proofs.SentParts.{sent_unasked}
use Rattle.deltas.proofs.contents.a_delta_sends_nothing_that_was_asked.Goals as goal

pub returns : goal.returns
returns c = sent_unasked
