use Rattle.subcommands.proofs.Pairs.{pair_merged, pair_refused}
use Rattle.subcommands.proofs.image_pairs.merge_pair.Goals as goal

pub returns-in-Ok-clause-merges : goal.returns-in-Ok-clause-merges
returns-in-Ok-clause-merges g c = pair_merged _ c.image_of_merge.result _ _ _ _ c.in_ok-first.ensures.reads c.in-Ok.ensures.reads
    c.image_of_merge.ensures.agrees c.image_of_merge.ensures.merges

pub returns-in-Ok-clause-refuses : goal.returns-in-Ok-clause-refuses
returns-in-Ok-clause-refuses g c = pair_refused c.image_of_merge.result _ _ _ _ c.in_ok-first.ensures.reads c.in-Ok.ensures.reads
    c.image_of_merge.ensures.refuses

pub returns-in-Err-clause-refuses : goal.returns-in-Err-clause-refuses
returns-in-Err-clause-refuses g c = c.in-Err.ensures.refuses c.args.input.now c.in_ok-first.first c.in_ok-first.ensures.reads
