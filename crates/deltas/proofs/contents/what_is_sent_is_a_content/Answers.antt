use Rattle.deltas.proofs.SentParts.{sent_content}
use Rattle.deltas.proofs.contents.what_is_sent_is_a_content.Goals as goal

pub returns : goal.returns
returns c = sent_content
