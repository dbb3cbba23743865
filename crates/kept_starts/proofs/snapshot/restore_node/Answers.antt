use Rattle.broker_state.specs.ConfigValues.{config_value}
use Rattle.kept_starts.proofs.Taking.{snapshot_holds}
use Rattle.kept_starts.proofs.snapshot.restore_node.Goals as goal

pub returns : goal.returns
returns g c = record {
  is_of_its_file = snapshot_holds (g.D.Directory.state c.args.directory.now) (g.D.Directory.gives c.args.directory.now) g.D.File.Disk.seen c.args.number c.in_ok-node.journal_key c.in_ok-front.front.disk
      c.in_ok-node.node (config_value c.args.config.now) c.args.shape c.in_ok-node.is_grown c.in_ok-front.ensures.was_there c.in_ok-front.ensures.is_its_file c.in_ok-front.ensures.has_its_bytes
      c.in_ok-node.ensures;
}
