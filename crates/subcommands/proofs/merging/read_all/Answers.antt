use Rattle.std.proofs.Common.{arith, subst}
use Rattle.streams.specs.State.{StopsFilling}
use Rattle.std.proofs.lemmas.Bool.{MatchBool-at_true, MatchBool-at_false}
use Rattle.subcommands.proofs.Images.{more_held, all_held, read_stopped, reads_out}
use Rattle.subcommands.proofs.merging.read_all.Goals as goal

pub returns-in-Ok-false-clause-reads : goal.returns-in-Ok-false-clause-reads
returns-in-Ok-false-clause-reads g c =
    all_held c.args.source.now c.loop.source c.fill.new.source c.loop.input.items c.fill.new.buffer.items c.loop.counter c.loop.invariant
    (MatchBool-at_false _ _ c.in-Ok-false.field-0-test c.in-Ok-false.ensures.fills)

pub loop-preserved : goal.loop-preserved
loop-preserved g c =
    more_held c.args.source.now c.loop.source c.fill.new.source c.loop.input.items c.fill.new.buffer.items c.loop.counter c.loop.invariant
    (MatchBool-at_true _ _ c.in-Ok-true.field-0-test c.in-Ok-true.ensures.fills) c.in-Ok-true.ensures.reads_once

pub returns-clause-stops : goal.returns-clause-stops
returns-clause-stops g c =
    reads_out c.args.source.now c.loop.source c.loop.input.items c.loop.counter c.loop.invariant (omega (arith, c.loop-test.false, c.loop.auto.counter-end))

pub returns-in-Err-Read-clause-stops : goal.returns-in-Err-Read-clause-stops
returns-in-Err-Read-clause-stops g c =
    read_stopped c.args.source.now c.loop.source c.fill.new.source c.loop.input.items c.loop.counter c.loop.invariant
    (subst (StopsFilling c.loop.source c.fill.new.source) c.in-Err-Read.field-0-is c.in-Err-Read.ensures.stops)
