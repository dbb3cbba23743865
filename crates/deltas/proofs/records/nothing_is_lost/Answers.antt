use Rattle.deltas.proofs.Keeping.{sent_is_held, listed_is_known}
use Rattle.deltas.proofs.records.nothing_is_lost.Goals as goal

pub returns : goal.returns
returns c = record { sent_is_held = sent_is_held; listed_is_known = listed_is_known }
