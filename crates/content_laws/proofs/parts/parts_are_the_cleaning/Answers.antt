use Rattle.content_laws.proofs.CleaningParts.{parts_content, parts_report}
use Rattle.content_laws.proofs.parts.parts_are_the_cleaning.Goals as goal

pub returns-clause-content : goal.returns-clause-content
returns-clause-content c = parts_content

pub returns-clause-report : goal.returns-clause-report
returns-clause-report c = parts_report
