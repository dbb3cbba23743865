use Rattle.group_requests.specs.OffsetFetch.Walks.{HasNone}
use Rattle.group_requests.proofs.offset_fetch.want_topic.Given as goal

abbrev pub invariant-loop-entry : goal.invariant-loop-entry
invariant-loop-entry g l = HasNone l.fn.walk → HasNone l.walk
