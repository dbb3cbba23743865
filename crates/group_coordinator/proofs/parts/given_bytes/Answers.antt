use Rattle.std.proofs.Common.{length, min, sym, ap, ◌∙◌}
use Rattle.std.specs.List.{sum_by}
use Rattle.std.proofs.lemmas.List.{take_all}
use Rattle.group_coordinator.specs.Members.{Member}
use Rattle.group_coordinator.specs.Joining.{part_of}
use Rattle.group_coordinator.proofs.Giving.{given_lengths, given_more}
use Rattle.group_coordinator.proofs.parts.given_bytes.Goals as goal

pub loop-member-preserved : goal.loop-member-preserved
loop-member-preserved g c = λ ps gives.
    given_more ps c.args.members.now c.loop-member.member-index c.member-item.result c.id.result.now c.loop-member.bytes c.part_len.result c.saturating_add-bytes.result c.loop-member-test.true c.member-item.is
    c.id.ensures (c.part_len.ensures ps gives) (c.loop-member.invariant ps gives) c.saturating_add-bytes.ensures

pub returns : goal.returns
returns g c = λ ps gives.
    c.loop-member.invariant ps gives
    ∙ ap (λ n. min n 18446744073709551615) (ap (sum_by (λ (m : Member). length (part_of ps m.id))) (take_all c.loop-member.member-index c.args.members.now c.loop-member-test.false) ∙ sym (given_lengths ps c.args.members.now))
