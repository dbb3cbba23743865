use Rattle.std.proofs.Common.{◌≡◌, ap, ◌∙◌, arith}
use Rattle.std.specs.Prelude.{replicate}
use Rattle.content.specs.Content.{empty}
use Rattle.broker_state.proofs.NewTopics.{one_partition_more}
use Rattle.broker_state.proofs.topic.new_partitions.Goals as goal

pub loop-init : goal.loop-init
loop-init g c = c.new-partitions.ensures.items

pub loop-preserved : goal.loop-preserved
loop-preserved g c =
    one_partition_more c.loop.counter (record { role = c.args.role; content = empty }) c.new.result c.loop.partitions.items c.push.new.self.items c.loop.invariant c.new.ensures c.in_ok-push.ensures.items

pub returns : goal.returns
returns g c =
    let all : c.loop.counter ≡ c.args.count = omega (arith, c.loop.auto.counter-end, c.loop-test.false) in
    c.loop.invariant ∙ ap (λ n. replicate n (record { role = c.args.role; content = empty })) all
