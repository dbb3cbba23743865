use Rattle.content_laws.proofs.ContentSteps.{content_clean}
use Rattle.content_laws.proofs.contents.cleaning_leaves_a_content.Goals as goal

pub returns : goal.returns
returns c = content_clean
