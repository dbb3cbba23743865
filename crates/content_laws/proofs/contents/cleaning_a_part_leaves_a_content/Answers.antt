use Rattle.content_laws.proofs.ContentSteps.{content_part}
use Rattle.content_laws.proofs.contents.cleaning_a_part_leaves_a_content.Goals as goal

pub returns : goal.returns
returns c = content_part
