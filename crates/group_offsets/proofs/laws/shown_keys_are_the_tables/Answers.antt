use Rattle.group_offsets.proofs.ShownTables.{keys_of_table}
use Rattle.group_offsets.proofs.laws.shown_keys_are_the_tables.Goals as goal

pub returns : goal.returns
returns c = record { exactly = keys_of_table }
