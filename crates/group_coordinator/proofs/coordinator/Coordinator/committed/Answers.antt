use Rattle.std.proofs.Common.{◌∙◌, ap, subst, rules}
use Rattle.group_coordinator.specs.Coordinators.{Groups, is_named, committed}
use Rattle.group_coordinator.specs.Keeping.{ArePeopled}
use Rattle.group_coordinator.proofs.Bytes.{beaten_within}
use Rattle.group_coordinator.specs.Joining.{with_member}
use Rattle.group_coordinator.specs.Members.{beat}
use Rattle.group_coordinator.proofs.Due.{set_long, set_to_first}
use Rattle.group_coordinator.proofs.Keeping.{committed_none, committed_at, beaten_both, beaten_room}
use Rattle.group_coordinator.proofs.Places.{within}
use Rattle.group_coordinator.proofs.coordinator.Coordinator.committed.Goals as goal

pub beat-requires : goal.beat-requires
beat-requires g c = record {
  within = within (is_named c.args.group.now) c.self.inside.groups c.in-Some.index (search rules);
  bounded = c.self.invariant.0;
}

pub group-requires : goal.group-requires
group-requires g c =
    let low = within (is_named c.args.group.now) c.self.inside.groups c.in-Some.index (search rules) in
    record { within = set_long (with_member c.args.member.now (beat c.self.inside.time)) c.self.inside.groups c.beat.new.self c.in-Some.index low c.beat.ensures }

pub invariant_of-self : goal.invariant_of-self
invariant_of-self g c =
    let low = within (is_named c.args.group.now) c.self.inside.groups c.in-Some.index (search rules) in
    let same = beaten_within c.self.inside.time c.args.member.now c.self.inside.groups c.beat.new.self c.in-Some.index c.self.inside.bytes c.self.inside.ledger.generations low c.beat.ensures c.self.invariant.3 c.self.invariant.4 in (
      c.self.invariant.0,
      beaten_both c.self.inside.time c.args.member.now c.self.inside.groups c.beat.new.self c.in-Some.index low c.beat.ensures c.self.invariant.1,
      beaten_room c.self.inside.ledger c.self.inside.time c.args.member.now c.self.inside.groups c.beat.new.self c.in-Some.index low c.beat.ensures c.self.invariant.2,
      same.0,
      same.1,
      set_to_first (with_member c.args.member.now (beat c.self.inside.time)) c.self.inside.due c.due-self-inside.result c.self.inside.groups c.beat.new.self c.in-Some.index c.group.result.now low c.beat.ensures c.group.ensures c.due-self-inside.ensures
          c.self.invariant.5,
    )

pub returns-in-None : goal.returns-in-None
returns-in-None g c =
    committed_none c.args.self.now c.args.group.now c.args.member.now (subst (λ (v : Groups). ArePeopled v.groups) c.self.view_is c.self.invariant.1.1) (search rules)

pub returns-in-Some : goal.returns-in-Some
returns-in-Some g c =
    let low = within (is_named c.args.group.now) c.self.inside.groups c.in-Some.index (search rules) in
    committed_at (record { settings = c.self.inside.settings; now = c.self.inside.time; ids = c.self.inside.ids; generations = c.self.inside.ledger.generations; groups = c.self.inside.groups; refused = c.self.inside.ledger.refusals }) c.args.group.now c.args.member.now c.beat.new.self c.in-Some.index low c.self.invariant.1.0 c.self.invariant.1.1 (search rules) c.beat.ensures
    ∙ ap (λ (v : Groups). committed c.args.group.now c.args.member.now v) c.self.view_is
