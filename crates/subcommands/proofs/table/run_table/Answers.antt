use Rattle.std.proofs.lemmas.Result.{on_ok_weaker, IfErr-weaker}
use Rattle.std.proofs.Common.{rules}
use Rattle.subcommands.proofs.Intake.{intake_fails, printing_fails, table_printed}
use Rattle.subcommands.proofs.table.run_table.Goals as goal

pub returns-clause-prints_table : goal.returns-clause-prints_table
returns-clause-prints_table g c =
    on_ok_weaker c.print_log.result
    (λ appends. table_printed c.args.source.now c.read_log.new.source c.args.sink.now c.print_log.new.sink c.in_ok-log.log c.in_ok-log.ensures.read appends)
    c.print_log.ensures.writes_lines

pub returns-clause-fails : goal.returns-clause-fails
returns-clause-fails g c =
    IfErr-weaker c.print_log.result _ _
    (λ e. printing_fails c.args.source.now c.read_log.new.source c.args.sink.now c.print_log.new.sink c.in_ok-log.log e c.in_ok-log.ensures.read c.in_ok-log.ensures.fails_no_read)
    c.print_log.ensures.stops

pub returns-in_err-log-clause-fails : goal.returns-in_err-log-clause-fails
returns-in_err-log-clause-fails g c =
    let stopped = IfErr-weaker c.read_log.result _ _ (intake_fails c.args.source.now c.read_log.new.source c.args.sink.now) c.read_log.ensures.stops in
    search (rules, stopped)
