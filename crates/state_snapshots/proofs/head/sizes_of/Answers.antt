use Rattle.std.proofs.Common.{FitsSigned, w64, rules, ◌∙◌}
use Rattle.std.proofs.lemmas.Int.{to_z-of_z}
use Rattle.broker_state.specs.Parts.{topic_contents}
use Rattle.state_snapshots.proofs.Written.{one_size_more, all_more}
use Rattle.state_snapshots.proofs.head.sizes_of.Goals as goal

pub loop-index-preserved : goal.loop-index-preserved
loop-index-preserved g c =
    let size = c.in_ok-image_size.field-0 in
    let fits : FitsSigned w64 size = search rules in
    let same = to_z-of_z w64 size fits in (
      one_size_more (topic_contents c.args.topic.now).partitions c.loop-index.index c.partition_copy.result.now _ c.loop-index.sizes.items c.push.new.self.items
          c.partition_copy.ensures (same ∙ c.in_ok-image_size.ensures) c.in_ok-push.ensures.items c.loop-index.invariant.0,
      all_more (FitsSigned w64) c.loop-index.sizes.items c.push.new.self.items size _ c.in_ok-push.ensures.items same fits c.loop-index.invariant.1,
    )
