use Rattle.std.proofs.Common.{rules, subst, sym}
use Rattle.broker_state.specs.ConfigValues.{config_value}
use Rattle.snapshots.specs.Heads.{snapshot_view}
use Rattle.kept_starts.specs.Starts.{IsFrontOf}
use Rattle.kept_starts.proofs.Fronts.{of_snapshot}
use Rattle.kept_starts.proofs.Grown.{set_up_so}
use Rattle.kept_starts.proofs.snapshot.restore_from.Goals as goal

pub returns : goal.returns
returns g c =
    let front = subst (IsFrontOf (g.D.Disk.seen c.args.front.now.disk)) (sym c.as_slice-bytes.ensures.value) c.requires in
    let set_up = set_up_so (config_value c.args.config.now) (config_value c.in_ok-own.own) (config_value c.in_ok-set_up.set_up) c.args.shape c.asks_more-is_grown.result
    c.takes_its_own-is_its_own.result (snapshot_view c.in_ok-head.head) c.in_ok-check_configuration.ensures c.asks_more-is_grown.ensures c.takes_its_own-is_its_own.ensures c.in_ok-set_up.ensures.as_before
    c.in_ok-set_up.ensures.as_asked in
    of_snapshot (g.D.Disk.seen c.args.front.now.disk) _ _ _ c.as_slice-bytes.result.now _ _ _ _ c.from_state.result
    front c.in_ok-head.ensures.stands (search rules) c.in-Ok.ensures.is_new c.in-Ok-restore_snapshot.ensures.restores c.from_state.ensures
    c.args.number c.in_ok-head.ensures.says (config_value c.args.config.now) c.args.shape c.asks_more-is_grown.result set_up
