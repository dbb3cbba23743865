use Rattle.std.proofs.Common.{◌≡◌, [], refl, ap, ◌∙◌}
use Rattle.std.specs.Prelude.{map}
use Rattle.std.proofs.lemmas.Result.{IfErr-weaker}
use Rattle.broker_state.specs.Parts.{topic_contents}
use Rattle.state_snapshots.specs.declared.error.WriteError.TheVariants.{OutOfMemory}
use Rattle.state_snapshots.specs.Snapshots.{state_head, images_of, snapshot_bytes}
use Rattle.state_snapshots.specs.Writing.{StopsWriting}
use Rattle.state_snapshots.proofs.Written.{none_written, first_written, stops_within}
use Rattle.state_snapshots.proofs.Stopped.{err_is}
use Rattle.state_snapshots.proofs.writing.write_snapshot.Goals as goal

pub returns-in_err-buffer-clause-stops : goal.returns-in_err-buffer-clause-stops
returns-in_err-buffer-clause-stops g c =
    let seen = g.D.Disk.seen c.args.disk.now in
    let all = snapshot_bytes c.args.id c.args.state.now in
    err_is c.from_residual.result (StopsWriting seen seen (g.D.Disk.has_failed c.args.disk.now) all) OutOfMemory c.from_residual.ensures.1
    (all, none_written seen all all refl)

pub returns-clause-stops : goal.returns-clause-stops
returns-clause-stops g c =
    let s = c.args.state.now in
    let before = g.D.Disk.seen c.args.disk.now in
    let mid = g.D.Disk.seen c.append.new.self in
    let now = g.D.Disk.seen c.append_images.new.disk in
    let has_failed = g.D.Disk.has_failed c.append_images.new.disk in
    let all = snapshot_bytes c.args.id s in
    let images = images_of (map topic_contents c.topics.result.now) in
    let said : c.in_ok-buffer.buffer.items ≡ state_head c.args.id s = c.in_ok-buffer.ensures.bytes in
    let head : c.deref.result.now ≡ state_head c.args.id s = c.deref.ensures.value ∙ said in
    let begun = first_written before mid (state_head c.args.id s) c.deref.result.now images (images_of s.topics) c.in_ok-append.ensures.grows head (ap images_of c.topics.ensures.topics) in
    IfErr-weaker c.append_images.result (StopsWriting mid now has_failed images) (StopsWriting before now has_failed all)
    (λ e stops. stops_within before mid now has_failed all images [] e begun stops) c.append_images.ensures.stops
