use Rattle.std.proofs.Common.{[], ap, refl, ◌∙◌}
use Rattle.std.specs.Prelude.{map}
use Rattle.frame_fields.specs.Arrays.{values}
use Rattle.frame_fields.specs.Types.{topic}
use Rattle.request_frames.specs.Fetch.{fetch_partition, fetch_partition_value}
use Rattle.sessions.specs.Joining.{entries_of}
use Rattle.sessions.proofs.Joining.{joins_same, joins_then}
use Rattle.sessions.proofs.Counting.{counting_starts, counting_goes, counting_ends, left_in}
use Rattle.sessions.proofs.Standers.{standers_same, standers_then}
use Rattle.sessions.proofs.waiting.Waiting.add_topics.Goals as goal

pub loop-topic-init : goal.loop-topic-init
loop-topic-init g c = (
  λ due. joins_same c.args.state.now c.args.number due c.args.self.now,
  counting_starts c.args.state.now c.args.number 0 c.args.self.now _ _ (ap (λ r. left_in (values (topic fetch_partition) r)) (c.into_iter-topic-iterator.ensures.into_iter_gives ∙ c.of-topic-items.ensures)),
  standers_same c.args.number c.args.self.now,
)

pub returns-in_err-count-clause-joins : goal.returns-in_err-count-clause-joins
returns-in_err-count-clause-joins g c due =
    joins_then c.args.state.now c.args.number due c.args.self.now c.loop-topic.self c.add_topic.new.self (c.loop-topic.invariant.0 due) (c.add_topic.ensures.joins due)

pub loop-topic-preserved : goal.loop-topic-preserved
loop-topic-preserved g c = (
  λ due. joins_then c.args.state.now c.args.number due c.args.self.now c.loop-topic.self c.add_topic.new.self (c.loop-topic.invariant.0 due) (c.add_topic.ensures.joins due),
  counting_goes c.args.state.now c.args.number c.args.self.now c.loop-topic.self c.add_topic.new.self 0 c.loop-topic.count c.in_ok-count.count _
      (entries_of c.in-Some.topic.name.now (map fetch_partition_value (values fetch_partition c.in-Some.topic.partitions)))
      _ _ c.loop-topic.invariant.1 (ap left_in c.in-Some.ensures.steps) c.in_ok-count.ensures.counts,
  standers_then c.args.number c.args.self.now c.loop-topic.self c.add_topic.new.self c.loop-topic.invariant.2 c.add_topic.ensures.standers,
)

pub returns-clause-joins : goal.returns-clause-joins
returns-clause-joins g c = c.loop-topic.invariant.0

pub returns-clause-counts : goal.returns-clause-counts
returns-clause-counts g c awaited counted =
    (counting_ends c.args.state.now c.args.number c.args.self.now c.loop-topic.self 0 c.loop-topic.count _ _ c.loop-topic.invariant.1 (ap left_in c.in-None.ensures.steps.0) awaited [] refl counted).1

pub returns-in_err-count-clause-standers : goal.returns-in_err-count-clause-standers
returns-in_err-count-clause-standers g c = standers_then c.args.number c.args.self.now c.loop-topic.self c.add_topic.new.self c.loop-topic.invariant.2 c.add_topic.ensures.standers

pub returns-clause-standers : goal.returns-clause-standers
returns-clause-standers g c = c.loop-topic.invariant.2
