use Rattle.std.proofs.Common.{◌≡◌, ◌++◌, map, ap, subst, sym, ◌∙◌}
use Rattle.streams.specs.State.{TakesFront}
use Rattle.table_lines.specs.Lines.{lines}
use Rattle.partition_log.specs.Latest.{pair}
use Rattle.subcommands.specs.Tables.{content_lines}
use Rattle.subcommands.proofs.Intake.{when_err}
use Rattle.subcommands.proofs.table.print_log.Goals as goal

pub returns-then-is_err-clause-stops : goal.returns-then-is_err-clause-stops
returns-then-is_err-clause-stops g c =
    let is = sym c.is_err.ensures.value ∙ c.if-is_err.true in
    let front = when_err c.write_lines.result _ is c.write_lines.ensures.writes_front in
    let same : c.in-Ok-with_capacity.buffer.items ++ lines (map pair c.deref.result.now) ≡ content_lines c.args.log.now =
    ap (λ t. t ++ lines (map pair c.deref.result.now)) c.in-Ok-with_capacity.ensures.items ∙ ap (λ t. lines (map pair t)) c.deref.ensures.value ∙ ap (λ t. lines t) c.in-Ok.ensures in
    (when_err c.write_lines.result _ is c.write_lines.ensures.sets_flag, subst (TakesFront c.args.sink.now.taken c.write_lines.new.sink.taken) same front)
