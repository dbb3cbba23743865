use Rattle.group_requests.specs.OffsetFetch.Walks.{HasNone}
use Rattle.group_requests.proofs.offset_fetch.walk_for.Given as goal

abbrev pub invariant-loop-topic : goal.invariant-loop-topic
invariant-loop-topic g l = HasNone l.walk
