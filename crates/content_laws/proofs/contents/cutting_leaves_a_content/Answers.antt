use Rattle.content_laws.proofs.ContentSteps.{content_cut}
use Rattle.content_laws.proofs.contents.cutting_leaves_a_content.Goals as goal

pub returns : goal.returns
returns c = content_cut
