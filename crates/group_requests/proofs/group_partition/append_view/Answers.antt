use Rattle.std.proofs.Common.{pos}
use Rattle.broker_state.specs.State.{group_topic}
use Rattle.group_requests.proofs.GroupAppends.{is_appended, is_not_appended}
use Rattle.group_requests.proofs.group_partition.append_view.Goals as goal

pub returns-in-Ok : goal.returns-in-Ok
returns-in-Ok g c =
    is_appended c.args.state.now c.change_at.new.self c.args.batch.now _
    (let made = c.in-Ok.ensures group_topic (pos 0) c.group_place-place.ensures in (made.0, made.1.0 c.requires, made.2))

pub returns-in-Err : goal.returns-in-Err
returns-in-Err g c =
    is_not_appended c.args.state.now c.change_at.new.self c.args.batch.now c.in-Err.fault c.append_refused.result c.append_refused.ensures
    (let made = c.in-Err.ensures group_topic (pos 0) c.group_place-place.ensures in (made.0, made.1.0 c.requires, made.2))
