use Rattle.content_laws.proofs.CleaningParts.{whole_content, whole_report}
use Rattle.content_laws.proofs.parts.a_part_of_all_is_the_cleaning.Goals as goal

pub returns-clause-content : goal.returns-clause-content
returns-clause-content c = whole_content

pub returns-clause-report : goal.returns-clause-report
returns-clause-report c = whole_report
