use Rattle.std.proofs.Common.{rules, arith, subst}
use Rattle.std.proofs.lemmas.Bool.{MatchBool-at_true, MatchBool-at_false}
use Rattle.std.proofs.lemmas.Result.{on_ok_weaker, IfErr-weaker}
use Rattle.streams.specs.State.{StopsFilling}
use Rattle.subcommands.proofs.Streams.{all_taken}
use Rattle.subcommands.proofs.Intake.{more_taken, read_stopped, reads_out, taking_stopped, end_stopped}
use Rattle.subcommands.proofs.table.take_input.Goals as goal

pub returns-in-Ok-false-clause-read : goal.returns-in-Ok-false-clause-read
returns-in-Ok-false-clause-read g c =
    let end = MatchBool-at_false _ _ c.in-Ok-false.field-0-test c.in-Ok-false.ensures.fills in
    on_ok_weaker c.end_input.result
    (λ none. all_taken c.args.source.now.left c.loop.source c.fill.new.source c.loop.held.items c.fill.new.buffer.items c.loop.intake.log c.loop.intake.count c.loop.invariant.taken end none)
    c.end_input.ensures.all_taken

pub returns-in-Ok-false-clause-stops : goal.returns-in-Ok-false-clause-stops
returns-in-Ok-false-clause-stops g c =
    let end = MatchBool-at_false _ _ c.in-Ok-false.field-0-test c.in-Ok-false.ensures.fills in
    IfErr-weaker c.end_input.result _ _
    (λ e. end_stopped c.args.source.now c.loop.source c.fill.new.source c.loop.intake.log c.loop.intake.count c.loop.held.items c.fill.new.buffer.items c.loop.counter e c.loop.invariant end c.in-Ok-false.ensures.reads_once)
    c.end_input.ensures.short

pub returns-in-Err-Read-clause-stops : goal.returns-in-Err-Read-clause-stops
returns-in-Err-Read-clause-stops g c =
    read_stopped c.args.source.now c.loop.source c.fill.new.source c.loop.intake.log c.loop.intake.count c.loop.held.items c.loop.counter c.loop.invariant
    (subst (StopsFilling c.loop.source c.fill.new.source) c.in-Err-Read.field-0-is c.in-Err-Read.ensures.stops)

pub returns-in_err-take_batches-clause-stops : goal.returns-in_err-take_batches-clause-stops
returns-in_err-take_batches-clause-stops g c =
    let more = MatchBool-at_true _ _ c.in-Ok-true.field-0-test c.in-Ok-true.ensures.fills in
    let stopped = IfErr-weaker c.take_batches.result _ _
    (λ e. taking_stopped c.args.source.now c.loop.source c.fill.new.source c.loop.intake.log c.take_batches.new.intake.log c.loop.intake.count c.take_batches.new.intake.count c.loop.held.items c.fill.new.buffer.items c.take_batches.new.held.items c.loop.counter e c.loop.invariant more c.in-Ok-true.ensures.reads_once c.take_batches.ensures.taken)
    c.take_batches.ensures.stops in
    search (rules, stopped)

pub loop-preserved : goal.loop-preserved
loop-preserved g c =
    let more = MatchBool-at_true _ _ c.in-Ok-true.field-0-test c.in-Ok-true.ensures.fills in
    more_taken c.args.source.now c.loop.source c.fill.new.source c.loop.intake.log c.take_batches.new.intake.log c.loop.intake.count c.take_batches.new.intake.count c.loop.held.items c.fill.new.buffer.items c.take_batches.new.held.items c.loop.counter c.loop.invariant more c.in-Ok-true.ensures.reads_once c.take_batches.ensures.taken c.in_ok-take_batches.ensures.short

pub returns-clause-stops : goal.returns-clause-stops
returns-clause-stops g c =
    reads_out c.args.source.now c.loop.source c.loop.intake.log c.loop.intake.count c.loop.held.items c.loop.counter c.loop.invariant (omega (arith, c.loop-test.false, c.loop.auto.counter-end))
