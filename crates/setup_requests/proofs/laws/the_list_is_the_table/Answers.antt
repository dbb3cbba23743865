use Rattle.setup_requests.proofs.ListedVersions.{list_is_table, list_rises}
use Rattle.setup_requests.proofs.laws.the_list_is_the_table.Goals as goal

pub returns-clause-lists_the_table : goal.returns-clause-lists_the_table
returns-clause-lists_the_table c = list_is_table

pub returns-clause-rises : goal.returns-clause-rises
returns-clause-rises c = list_rises
