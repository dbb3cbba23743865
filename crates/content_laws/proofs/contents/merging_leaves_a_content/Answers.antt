use Rattle.content_laws.proofs.ContentSteps.{content_join}
use Rattle.content_laws.proofs.contents.merging_leaves_a_content.Goals as goal

pub returns : goal.returns
returns c = content_join
