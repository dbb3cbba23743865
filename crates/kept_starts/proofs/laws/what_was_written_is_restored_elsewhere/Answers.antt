use Rattle.kept_starts.proofs.Grown.{restored_same, restored_more}
use Rattle.kept_starts.proofs.laws.what_was_written_is_restored_elsewhere.Goals as goal

pub returns-clause-same : goal.returns-clause-same
returns-clause-same c = restored_same

pub returns-clause-more : goal.returns-clause-more
returns-clause-more c = restored_more
