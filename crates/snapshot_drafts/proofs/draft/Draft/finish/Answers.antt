use Rattle.std.proofs.Common.{◌≡◌, ℕ, List, subst}
use Rattle.std.specs.Prelude.{IfOk, IfSome}
use Rattle.state_snapshots.specs.Snapshots.{state_head}
use Rattle.snapshot_drafts.specs.Drafts.{all_images}
use Rattle.snapshot_drafts.proofs.Opened.{whole_is}
use Rattle.snapshot_drafts.proofs.draft.Draft.finish.Goals as goal

pub returns-clause-is_the_snapshot : goal.returns-clause-is_the_snapshot
returns-clause-is_the_snapshot g c id base is =
    subst (λ (whole : List ℕ). IfOk c.close.result (λ file. IfSome (g.F.DraftFile.seen file) (λ bytes. bytes ≡ whole))) (whole_is id base)
    (c.close.ensures.whole (state_head id base) (all_images base) is)

pub returns-clause-refuses : goal.returns-clause-refuses
returns-clause-refuses g c = c.close.ensures.refuses
