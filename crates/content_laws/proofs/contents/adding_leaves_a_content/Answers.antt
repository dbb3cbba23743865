use Rattle.content_laws.proofs.ContentSteps.{content_add}
use Rattle.content_laws.proofs.contents.adding_leaves_a_content.Goals as goal

pub returns : goal.returns
returns c = content_add
