use Rattle.std.proofs.Common.{rules}
use Rattle.request_frames.proofs.ApiTable.{no_version}
use Rattle.request_frames.proofs.api.Api.find.Goals as goal

pub returns-else-version-2-clause-refused : goal.returns-else-version-2-clause-refused
returns-else-version-2-clause-refused c = search (rules, no_version)
