use Rattle.std.proofs.Common.{◌+◌, ◌-◌, ◌∙◌, ap, set, ℕ}
use Rattle.count_list.proofs.Changed.{count_more, count_here}
use Rattle.count_list.proofs.starts.change_from.Goals as goal

pub loop-i-preserved : goal.loop-i-preserved
loop-i-preserved c =
    ap (λ (s : ℕ). set c.loop-i.starts c.loop-i.i (s + c.args.more)) c.saturating_sub.ensures
    ∙ count_more (λ s. (s - c.args.less) + c.args.more) c.args.from c.loop-i.i c.args.starts.now c.loop-i.starts c.loop-i.auto.i c.loop-i-test.true c.loop-i.invariant

pub bounds-starts-i : goal.bounds-starts-i
bounds-starts-i c = (count_here (λ s. (s - c.args.less) + c.args.more) c.args.from c.loop-i.i c.args.starts.now c.loop-i.starts c.loop-i.auto.i c.loop-i-test.true c.loop-i.invariant).0
