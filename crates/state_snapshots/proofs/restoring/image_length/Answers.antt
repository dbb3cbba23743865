use Rattle.std.proofs.Common.{◌≡◌, pos, refl, rules}
use Rattle.state_snapshots.proofs.Stopped.{short_behind, short_within}
use Rattle.state_snapshots.proofs.restoring.image_length.Goals.{then-end-at-via-then-end-at, then-end-at-via-else-end-at+then-end-at-2}
use Rattle.state_snapshots.proofs.restoring.image_length.Goals as goal

pub returns-in_default-clause-refuses : goal.returns-in_default-clause-refuses
returns-in_default-clause-refuses c = (refl, search rules)

pub returns-then-end-at-clause-refuses : goal.returns-then-end-at-clause-refuses
returns-then-end-at-clause-refuses c =
    let sized : c.args.size ≡ pos c.in-Ok.count = search rules in
    elim c.then-end-at.branch [
      | then-end-at-via-then-end-at w ↦ (refl, short_behind c.args.size c.args.at c.args.end c.in-Ok.count sized w.if-end-at.true)
      | then-end-at-via-else-end-at+then-end-at-2 w ↦ (refl, short_within c.args.size c.args.at c.args.end c.in-Ok.count sized w.if-end-at.false w.if-end-at-2.true)
    ]
