use Rattle.std.proofs.Common.{◌-◌, ℕ, set, ap, ◌∙◌}
use Rattle.block_list.proofs.Front.{count_each}
use Rattle.block_list.proofs.starts.count_fewer.Goals as goal

pub loop-i-preserved : goal.loop-i-preserved
loop-i-preserved c =
    ap (λ (s : ℕ). set c.loop-i.starts c.loop-i.i s) c.saturating_sub.ensures
    ∙ count_each (λ s. s - c.args.fewer) c.loop-i.i c.args.starts.now c.loop-i.starts c.loop-i-test.true c.loop-i.invariant
