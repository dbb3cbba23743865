use Rattle.std.proofs.Common.{[], ◌∷◌, ap}
use Rattle.frame_fields.specs.Arrays.{values}
use Rattle.request_frames.specs.Fetch.{fetch_partition}
use Rattle.log_requests.specs.Fetch.Entries.{fetch_entry_value}
use Rattle.sessions.specs.Joining.{entries_of}
use Rattle.sessions.proofs.Joining.{joins_same, joins_then}
use Rattle.sessions.proofs.Counting.{counting_starts, counting_goes, counting_ends, left_of}
use Rattle.sessions.proofs.Standers.{standers_same, standers_then}
use Rattle.sessions.proofs.waiting.Waiting.add_topic.Goals as goal

pub loop-entry-init : goal.loop-entry-init
loop-entry-init g c = (
  λ due. joins_same c.args.state.now c.args.number due c.args.self.now,
  counting_starts c.args.state.now c.args.number c.args.before c.args.self.now _ _ (ap (λ r. left_of c.args.topic.name.now (values fetch_partition r)) c.into_iter-entry-iterator.ensures.into_iter_gives),
  standers_same c.args.number c.args.self.now,
)

pub returns-in_err-count-clause-joins : goal.returns-in_err-count-clause-joins
returns-in_err-count-clause-joins g c due =
    joins_then c.args.state.now c.args.number due c.args.self.now c.loop-entry.self c.add_asked.new.self (c.loop-entry.invariant.0 due) (c.add_asked.ensures.joins due)

pub loop-entry-preserved : goal.loop-entry-preserved
loop-entry-preserved g c = (
  λ due. joins_then c.args.state.now c.args.number due c.args.self.now c.loop-entry.self c.add_asked.new.self (c.loop-entry.invariant.0 due) (c.add_asked.ensures.joins due),
  counting_goes c.args.state.now c.args.number c.args.self.now c.loop-entry.self c.add_asked.new.self c.args.before c.loop-entry.count c.in_ok-count.count _ (entries_of c.args.topic.name.now (fetch_entry_value c.in-Some.entry ∷ []))
      _ _ c.loop-entry.invariant.1 (ap (left_of c.args.topic.name.now) c.in-Some.ensures.steps) c.in_ok-count.ensures.counts,
  standers_then c.args.number c.args.self.now c.loop-entry.self c.add_asked.new.self c.loop-entry.invariant.2 c.add_asked.ensures.standers,
)

pub returns-clause-joins : goal.returns-clause-joins
returns-clause-joins g c = c.loop-entry.invariant.0

pub returns-clause-counts : goal.returns-clause-counts
returns-clause-counts g c =
    counting_ends c.args.state.now c.args.number c.args.self.now c.loop-entry.self c.args.before c.loop-entry.count _ _ c.loop-entry.invariant.1 (ap (left_of c.args.topic.name.now) c.in-None.ensures.steps.0)

pub returns-in_err-count-clause-standers : goal.returns-in_err-count-clause-standers
returns-in_err-count-clause-standers g c = standers_then c.args.number c.args.self.now c.loop-entry.self c.add_asked.new.self c.loop-entry.invariant.2 c.add_asked.ensures.standers

pub returns-clause-standers : goal.returns-clause-standers
returns-clause-standers g c = c.loop-entry.invariant.2
