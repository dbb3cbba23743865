use Rattle.std.proofs.Common.{◌≡◌, ◌<◌, ℕ, length, sym, subst, rules, vec_len}
use Rattle.broker_state.specs.ConfigValues.{config_value}
use Rattle.broker_state.proofs.PlacedTopics.{topic_below, partition_below, copy_shown}
use Rattle.broker_state.proofs.state.BrokerState.copy_at.Goals as goal

pub index-requires : goal.index-requires
index-requires g c =
    let long : vec_len c.self.inside.topics ≡ length c.self.inside.topics.items = search rules in
    subst (λ (n : ℕ). c.args.place.topic < n) (sym long) (topic_below c.self.inside.topics.items (config_value c.self.inside.config) c.args.self.now c.requires.0 c.requires.1 c.args.place c.self.view_is c.requires.2)

pub partition_copy-requires : goal.partition_copy-requires
partition_copy-requires g c =
    partition_below c.self.inside.topics.items (config_value c.self.inside.config) c.args.self.now c.requires.0 c.requires.1 c.args.place c.self.view_is c.requires.2 c.index.result.now c.index.ensures

pub returns : goal.returns
returns g c name p of =
    copy_shown c.self.inside.topics.items (config_value c.self.inside.config) c.args.self.now name p c.args.place c.self.view_is of c.index.result.now c.partition_copy.result.now c.index.ensures c.partition_copy.ensures
