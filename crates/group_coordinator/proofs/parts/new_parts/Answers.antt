use Rattle.std.proofs.Common.{◌∷◌, [], map, ap, ◌∙◌}
use Rattle.std.proofs.lemmas.List.{take_all, map-append}
use Rattle.group_coordinator.specs.Joining.{part_of}
use Rattle.group_coordinator.specs.Giving.{parts_for}
use Rattle.group_coordinator.proofs.Giving.{parts_more}
use Rattle.group_coordinator.proofs.parts.new_parts.Goals as goal

pub loop-member-preserved : goal.loop-member-preserved
loop-member-preserved g c = λ ps gives.
    parts_more ps c.args.members.now c.loop-member.member-index c.member-item.result (map (λ x. x.items) c.loop-member.parts.items) _ c.in_ok-copy_part.field-0.items c.loop-member-test.true c.member-item.is
    (c.in_ok-copy_part.ensures ps gives ∙ ap (part_of ps) c.id.ensures) (ap (map (λ x. x.items)) c.in_ok-push.ensures.items ∙ map-append (λ x. x.items) c.loop-member.parts.items (c.in_ok-copy_part.field-0 ∷ [])) (c.loop-member.invariant ps gives)

pub returns : goal.returns
returns g c = λ ps gives. ap (map (λ x. x.items)) c.into_iter.ensures.rest ∙ c.loop-member.invariant ps gives ∙ ap (parts_for ps) (take_all c.loop-member.member-index c.args.members.now c.loop-member-test.false)
