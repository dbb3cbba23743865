use Rattle.std.proofs.Common.{◌≡◌}
use Rattle.log_requests.proofs.list_offsets.indexing.index_topic.Given as goal

abbrev pub invariant-loop-entry : goal.invariant-loop-entry
invariant-loop-entry g l = l.state ≡ l.fn.state
