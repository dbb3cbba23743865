use Rattle.std.proofs.Common.{FitsSigned, w64, ap, subst, ◌∙◌, rules}
use Rattle.std.specs.List.{AllByRecursion}
use Rattle.std.specs.Prelude.{map}
use Rattle.state_snapshots.specs.Snapshots.{SizesFit}
use Rattle.state_snapshots.proofs.Readable.{readable}
use Rattle.state_snapshots.proofs.Written.{all_said, head_is, head_made}
use Rattle.state_snapshots.proofs.head.head_of.Goals as goal

pub rows_of-requires : goal.rows_of-requires
rows_of-requires g c = ap (map (λ z. z.items)) c.deref.ensures.value ∙ c.in_ok-sizes.ensures.sizes

pub returns-clause-bytes : goal.returns-clause-bytes
returns-clause-bytes g c =
    let s = c.args.state.now in
    let rows = c.deref-2.result.now in
    let said = all_said c.in_ok-rows.rows.items rows c.topics-topics.result.now s.topics c.deref-2.ensures.value c.in_ok-rows.ensures c.topics-topics.ensures.topics in
    let id = c.numbers_of.ensures.id in
    let made = head_made c.numbers_of.result rows c.args.id s id c.numbers_of.ensures.role c.numbers_of.ensures.first c.numbers_of.ensures.next said in
    head_is c.numbers_of.result rows c.args.id s c.new-head.result.items c.put_head.new.out.items id made c.new-head.ensures.items c.in_ok-put_head.ensures.appends

pub returns-clause-readable : goal.returns-clause-readable
returns-clause-readable g c =
    let number : FitsSigned w64 c.args.id.number = search rules in
    let key : FitsSigned w64 c.args.id.key = search rules in
    readable c.args.id c.args.state.now number key c.know_sound.ensures (subst (AllByRecursion SizesFit) c.topics-topics.ensures.topics c.in_ok-sizes.ensures.fit)
