use Rattle.answering.proofs.Begun.{three_parts}
use Rattle.answering.proofs.once.ThreePartsBody.put.Goals as goal

pub returns-clause-appends : goal.returns-clause-appends
returns-clause-appends g c =
    three_parts c.extend_from_slice-3.result c.args.out.now.items c.extend_from_slice.new.self.items c.extend_from_slice-2.new.self.items c.extend_from_slice-3.new.self.items
    c.args.self.now.before.now c.args.self.now.middle.now c.args.self.now.after.now c.in_ok-extend_from_slice.ensures.items c.in_ok-extend_from_slice-2.ensures.items c.extend_from_slice-3.ensures.items
