use Rattle.std.proofs.Common.{refl}
use Rattle.subcommands.proofs.RunLemmas.{table_done, table_failed}
use Rattle.subcommands.proofs.table_subcommand.run_table_subcommand.Goals as goal

pub returns-in-Ok-clause-runs : goal.returns-in-Ok-clause-runs
returns-in-Ok-clause-runs g c =
    table_done c.args.source.now c.run_table.new.source c.args.sink.now c.run_table.new.sink 0 refl c.in-Ok.ensures.prints_table c.in-Ok.ensures.fails_nothing

pub returns-in-Err-clause-runs : goal.returns-in-Err-clause-runs
returns-in-Err-clause-runs g c =
    table_failed c.args.source.now c.run_table.new.source c.args.sink.now c.run_table.new.sink c.in-Err.why c.table_status.result c.in-Err.ensures.fails c.table_status.ensures
