use Rattle.std.proofs.Common.{◌≡◌, ◌<◌, false}
use Rattle.broker_state.specs.declared.place.Place.{Place}
use Rattle.snapshot_drafts.specs.Parts.{is_missing}
use Rattle.snapshot_drafts.proofs.draft.Draft.next.Given as goal

-- no image of the topics that were passed is missing
abbrev pub invariant-loop-topic : goal.invariant-loop-topic
invariant-loop-topic g l = (place : Place) → place.topic < l.topic → is_missing l.self place ≡ false
