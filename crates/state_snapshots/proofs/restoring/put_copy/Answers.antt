use Rattle.std.proofs.Common.{◌^◌, ◌≤◌, refl, rules}
use Rattle.state_snapshots.proofs.Beyond.{unknown_beyond}
use Rattle.state_snapshots.proofs.restoring.put_copy.Goals as goal

pub returns-in_default-clause-refuses : goal.returns-in_default-clause-refuses
returns-in_default-clause-refuses g c =
    let beyond : 2 ^ 31 ≤ c.args.index = search rules in
    (refl, unknown_beyond c.args.state.now c.args.topic.now c.args.index c.know_sound.ensures beyond)
