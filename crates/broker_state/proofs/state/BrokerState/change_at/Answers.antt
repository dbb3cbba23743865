use Rattle.std.proofs.Common.{◌≡◌, ◌<◌, ℕ, length, sym, ap, subst, rules, vec_len}
use Rattle.broker_state.specs.ConfigValues.{config_value}
use Rattle.broker_state.specs.Parts.{HasRole}
use Rattle.broker_state.proofs.PlacedTopics.{topic_below, partition_below, holds_at_place, topics_stay, changed_here, all_set}
use Rattle.broker_state.proofs.SoundStates.{HoldParts}
use Rattle.broker_state.proofs.state.BrokerState.change_at.Goals as goal

pub index_mut-requires : goal.index_mut-requires
index_mut-requires g c =
    let long : vec_len c.self.inside.topics ≡ length c.self.inside.topics.items = search rules in
    subst (λ (n : ℕ). c.args.place.topic < n) (sym long) (topic_below c.self.inside.topics.items (config_value c.self.inside.config) c.args.self.now c.requires.is_place.0 c.requires.is_place.1 c.args.place c.self.view_is c.requires.is_place.2)

pub update_partition-requires : goal.update_partition-requires
update_partition-requires g c =
    partition_below c.self.inside.topics.items (config_value c.self.inside.config) c.args.self.now c.requires.is_place.0 c.requires.is_place.1 c.args.place c.self.view_is c.requires.is_place.2 c.index_mut.result.now c.index_mut.ensures.value

pub invariant_of-self : goal.invariant_of-self
invariant_of-self g c =
    let topics = c.self.inside.topics.items in
    let config = config_value c.self.inside.config in
    let held = holds_at_place topics config c.args.self.now c.requires.is_place.0 c.requires.is_place.1 c.args.place c.self.view_is c.requires.is_place.2 in (
      c.self.invariant.0,
      topics_stay topics config c.args.self.now c.requires.is_place.0 c.requires.is_place.1 c.args.place c.self.view_is c.requires.is_place.2 c.index_mut.result.now c.update_partition.new.self c.index_mut.ensures.value c.self.invariant.1 c.update_partition.ensures.shape
          (c.update_partition.ensures.roles config.role (held (HasRole config.role) c.index_mut.result.now c.index_mut.ensures.value c.self.invariant.1.roles)),
      all_set HoldParts topics c.args.place.topic c.update_partition.new.self c.self.invariant.2
          (c.update_partition.ensures.contents (held HoldParts c.index_mut.result.now c.index_mut.ensures.value c.self.invariant.2)),
      c.self.invariant.3,
    )

pub returns : goal.returns
returns g c name p of =
    let topics = c.self.inside.topics.items in
    let config = config_value c.self.inside.config in
    changed_here topics config c.args.self.now name p c.args.place c.self.view_is of (g.C.Change.changes c.args.change c.args.self.now.config.role c.update_partition.result) c.index_mut.result.now c.update_partition.new.self c.index_mut.ensures.value
    (c.update_partition.ensures.changes c.args.self.now.config.role
    (subst (λ role. HasRole role c.index_mut.result.now) (ap (λ s. s.config.role) c.self.view_is)
    (holds_at_place topics config c.args.self.now name p c.args.place c.self.view_is of (HasRole config.role) c.index_mut.result.now c.index_mut.ensures.value c.self.invariant.1.roles)))
