use Rattle.std.proofs.Common.{◌≡◌, false, ap, ◌∙◌, rules}
use Rattle.broker_state.specs.declared.place.Place.{Place}
use Rattle.snapshot_drafts.specs.Parts.{is_missing}
use Rattle.snapshot_drafts.proofs.Finished.{finished}
use Rattle.snapshot_drafts.proofs.draft.Draft.close.Goals as goal

pub returns-clause-whole : goal.returns-clause-whole
returns-clause-whole g c head topics has =
    let none : (place : Place) → is_missing c.args.self place ≡ false = search rules in
    finished g.F.DraftFile.seen head topics c.args.self c.sync.new.self none (c.in_ok-sync.ensures.keeps ∙ ap (λ d. g.F.DraftFile.seen d.file) c.self.view_is) has
