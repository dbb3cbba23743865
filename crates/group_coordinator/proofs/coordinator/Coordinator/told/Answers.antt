use Rattle.std.proofs.Common.{ap}
use Rattle.group_coordinator.specs.Coordinators.{Groups}
use Rattle.group_coordinator.specs.Groups.{told}
use Rattle.group_coordinator.specs.Requests.Reply.{Joined}
use Rattle.group_coordinator.proofs.Bytes.{numbered_at}
use Rattle.group_coordinator.proofs.Telling.{group_low, member_low, replies_as}
use Rattle.group_coordinator.proofs.coordinator.Coordinator.told.Goals as goal

pub group-requires : goal.group-requires
group-requires g c = record { within = group_low (λ x m. Joined (told x m)) c.args.self.now c.self.inside.groups c.args.group c.args.member (ap (λ (v : Groups). v.groups) c.self.view_is) c.requires.there }

pub told-requires : goal.told-requires
told-requires g c =
    let same = ap (λ (v : Groups). v.groups) c.self.view_is in
    record {
      within = member_low (λ x m. Joined (told x m)) c.args.self.now c.self.inside.groups c.args.group c.args.member c.group.result.now same c.requires.there c.group.ensures;
      numbered = numbered_at c.self.inside.groups c.args.group c.group.result.now (group_low (λ x m. Joined (told x m)) c.args.self.now c.self.inside.groups c.args.group c.args.member same c.requires.there) c.group.ensures
          c.self.invariant.4.1;
    }

pub returns : goal.returns
returns g c =
    replies_as (λ x m. Joined (told x m)) c.args.self.now c.self.inside.groups c.args.group c.args.member c.group.result.now (Joined c.told.result) (ap (λ (v : Groups). v.groups) c.self.view_is) c.requires.there c.group.ensures
    (λ m at i. Joined (c.told.ensures m at i))
