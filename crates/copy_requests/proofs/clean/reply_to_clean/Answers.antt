use Rattle.std.proofs.Common.{FitsSigned, w32, w64, rules}
use Rattle.std.proofs.lemmas.Int.{to_z-of_z}
use Rattle.copy_requests.specs.declared.clean.Cleaning.TheVariants.{Whole}
use Rattle.copy_requests.proofs.Entries.{cleaning_writes}
use Rattle.copy_requests.proofs.clean.reply_to_clean.Goals as goal

pub returns-clause-responds : goal.returns-clause-responds
returns-clause-responds g c =
    let q = c.args.request.now in
    let partition : FitsSigned w32 q.partition = search rules in
    let upto : FitsSigned w64 q.upto = search rules in
    let tomb_before : FitsSigned w64 q.tomb_before = search rules in
    cleaning_writes c.reply_to_cleaning.result c.args.correlation _ c.args.state.now c.reply_to_cleaning.new.state q.topic.now q.partition _ (Whole q.upto q.tomb_before) _ c.args.out.now.items c.reply_to_cleaning.new.out.items
    (to_z-of_z w32 c.args.correlation c.ranges.correlation) (to_z-of_z w32 q.partition partition)
    (λ i. Whole (to_z-of_z w64 q.upto upto i) (to_z-of_z w64 q.tomb_before tomb_before i))
    c.reply_to_cleaning.ensures.responds
