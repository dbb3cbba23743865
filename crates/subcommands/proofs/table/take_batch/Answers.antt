use Rattle.std.proofs.Common.{subst}
use Rattle.subcommands.specs.Input.{DeliversNext}
use Rattle.subcommands.proofs.Streams.{takes_front, front_left}
use Rattle.subcommands.proofs.table.take_batch.Goals as goal

pub returns-clause-more : goal.returns-clause-more
returns-clause-more g c =
    let next = subst (λ s. DeliversNext c.as_slice.result.now s c.args.intake.now.log c.deliver_next.new.intake.log c.args.intake.now.count c.deliver_next.new.intake.count) c.in-Some.is c.in_ok-size.ensures.delivers_next in
    takes_front c.args.held.now.items c.advance.new.self.items c.as_slice.result.now c.in-Some.size c.args.intake.now.log c.deliver_next.new.intake.log c.args.intake.now.count c.deliver_next.new.intake.count c.as_slice.ensures c.advance.ensures.items next

pub returns-clause-fewer : goal.returns-clause-fewer
returns-clause-fewer g c =
    let next = subst (λ s. DeliversNext c.as_slice.result.now s c.args.intake.now.log c.deliver_next.new.intake.log c.args.intake.now.count c.deliver_next.new.intake.count) c.in-Some.is c.in_ok-size.ensures.delivers_next in
    front_left c.args.held.now.items c.advance.new.self.items c.as_slice.result.now c.in-Some.size c.args.intake.now.log c.deliver_next.new.intake.log c.args.intake.now.count c.deliver_next.new.intake.count c.as_slice.ensures c.advance.ensures.items next
