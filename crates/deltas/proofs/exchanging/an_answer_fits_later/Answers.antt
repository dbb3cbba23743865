use Rattle.deltas.proofs.CopyEvents.{answer_accepted, answer_merges, answer_leaves_copy}
use Rattle.deltas.proofs.exchanging.an_answer_fits_later.Goals as goal

pub returns : goal.returns
returns c = record { accepted = answer_accepted; merge = answer_merges; copy = answer_leaves_copy }
