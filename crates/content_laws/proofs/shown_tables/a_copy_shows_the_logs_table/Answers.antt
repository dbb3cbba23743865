use Rattle.content_laws.proofs.CopyFacts.{shown_is_table}
use Rattle.content_laws.proofs.shown_tables.a_copy_shows_the_logs_table.Goals as goal

pub returns : goal.returns
returns c = λ x log content plain copy. shown_is_table x log content plain copy
