use Rattle.std.proofs.Common.{sym, ◌∙◌}
use Rattle.kept_rotations.proofs.whole.write_whole.Goals as goal

pub loop-init : goal.loop-init
loop-init g c = record { draft = λ none. c.in_ok-draft.ensures.begins none; one = c.in_ok-draft.ensures.is_the_one }

pub loop-preserved : goal.loop-preserved
loop-preserved g c = record {
  draft = λ none. c.in_ok-write.ensures.writes c.args.id c.args.state.now (c.loop.invariant.draft none) (λ missing. sym c.in-Some-copy_at.ensures);
  one = c.write.ensures.is_the_one ∙ c.loop.invariant.one;
}

pub returns-clause-is_the_snapshot : goal.returns-clause-is_the_snapshot
returns-clause-is_the_snapshot g c = λ none. c.finish.ensures.is_the_snapshot c.args.id c.args.state.now (c.loop.invariant.draft none)
