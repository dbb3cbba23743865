use Rattle.std.proofs.Common.{ap}
use Rattle.group_coordinator.specs.Coordinators.{Groups}
use Rattle.group_coordinator.specs.Requests.Reply.{Given}
use Rattle.group_coordinator.proofs.Telling.{group_low, member_low, replies_as}
use Rattle.group_coordinator.proofs.coordinator.Coordinator.given.Goals as goal

pub group-requires : goal.group-requires
group-requires g c = record { within = group_low (λ x m. Given m.part) c.args.self.now c.self.inside.groups c.args.group c.args.member (ap (λ (v : Groups). v.groups) c.self.view_is) c.requires.there }

pub part-requires : goal.part-requires
part-requires g c = record {
  within = member_low (λ x m. Given m.part) c.args.self.now c.self.inside.groups c.args.group c.args.member c.group.result.now (ap (λ (v : Groups). v.groups) c.self.view_is) c.requires.there c.group.ensures;
}

pub returns : goal.returns
returns g c =
    replies_as (λ x m. Given m.part) c.args.self.now c.self.inside.groups c.args.group c.args.member c.group.result.now (Given c.part.result.now) (ap (λ (v : Groups). v.groups) c.self.view_is) c.requires.there c.group.ensures
    (λ m at i. Given (c.part.ensures m at i))
