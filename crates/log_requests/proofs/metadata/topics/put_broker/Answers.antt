use Rattle.std.proofs.Common.{rules}
use Rattle.log_requests.proofs.metadata.topics.put_broker.Goals as goal

pub returns-clause-appends : goal.returns-clause-appends
returns-clause-appends g c = search rules
