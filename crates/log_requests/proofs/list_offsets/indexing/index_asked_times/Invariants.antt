use Rattle.std.proofs.Common.{◌≡◌}
use Rattle.log_requests.proofs.list_offsets.indexing.index_asked_times.Given as goal

abbrev pub invariant-loop-topic : goal.invariant-loop-topic
invariant-loop-topic g l = l.state ≡ l.fn.state
