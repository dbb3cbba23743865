use Rattle.std.proofs.Common.{subst}
use Rattle.broker_state.proofs.PlacedTopics.{change_in_topic, role_here, roles_stay, shape_stays, contents_stay}
use Rattle.broker_state.proofs.topic.TopicLogs.update_partition.Goals as goal

pub returns-clause-changes : goal.returns-clause-changes
returns-clause-changes g c role has =
    change_in_topic (g.C.Change.changes c.args.change role c.apply.result) c.self.inside.name.items c.self.inside.partitions.items c.args.self.now c.args.index c.index_mut.result.now c.apply.new.self c.self.view_is c.requires c.index_mut.ensures.value
    (subst (λ r. g.C.Change.changes c.args.change r c.apply.result c.index_mut.result.now.content c.apply.new.self.content) (role_here c.self.inside.name.items c.self.inside.partitions.items c.args.self.now c.args.index c.index_mut.result.now c.self.view_is c.requires c.index_mut.ensures.value role has) c.apply.ensures.changes)

pub returns-clause-shape : goal.returns-clause-shape
returns-clause-shape g c =
    shape_stays c.self.inside.name.items c.self.inside.partitions.items c.args.self.now c.args.index c.index_mut.result.now c.self.view_is c.requires c.index_mut.ensures.value c.apply.new.self

pub returns-clause-roles : goal.returns-clause-roles
returns-clause-roles g c role has =
    roles_stay c.self.inside.name.items c.self.inside.partitions.items c.args.self.now c.args.index c.index_mut.result.now c.self.view_is c.requires c.index_mut.ensures.value role c.apply.new.self c.apply.ensures.role has

pub returns-clause-contents : goal.returns-clause-contents
returns-clause-contents g c all =
    contents_stay c.self.inside.name.items c.self.inside.partitions.items c.args.self.now c.args.index c.index_mut.result.now c.self.view_is c.requires c.index_mut.ensures.value c.apply.new.self c.apply.ensures.is_content all
