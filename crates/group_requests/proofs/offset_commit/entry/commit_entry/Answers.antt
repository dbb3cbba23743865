use Rattle.std.proofs.Common.{rules}
use Rattle.group_requests.proofs.offset_commit.entry.commit_entry.Goals as goal

pub returns-in-Ok : goal.returns-in-Ok
returns-in-Ok g c = search rules
