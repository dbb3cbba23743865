use Rattle.content_laws.proofs.AdjacentParts.{adjacent_content, adjacent_report}
use Rattle.content_laws.proofs.parts.two_parts_that_meet_are_one.Goals as goal

pub returns-clause-content : goal.returns-clause-content
returns-clause-content c = adjacent_content

pub returns-clause-report : goal.returns-clause-report
returns-clause-report c = adjacent_report
