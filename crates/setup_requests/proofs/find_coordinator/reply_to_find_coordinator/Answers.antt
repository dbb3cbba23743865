use Rattle.std.proofs.Common.{◌++◌, refl, FitsSigned, rules, to_z, of_z}
use Rattle.std.specs.Int.{w16, w32}
use Rattle.std.proofs.lemmas.Int.{to_z-of_z}
use Rattle.responses.specs.FindCoordinator.{CoordinatorAnswer, find_coordinator_response, find_coordinator_value}
use Rattle.answering.proofs.Begun.{on_ok}
use Rattle.answering.proofs.Planned.{once_written}
use Rattle.setup_requests.specs.FindCoordinator.{find_coordinator_work}
use Rattle.setup_requests.proofs.Coordinators.{parts_are}
use Rattle.setup_requests.proofs.find_coordinator.reply_to_find_coordinator.Goals as goal

pub returns-clause-responds : goal.returns-clause-responds
returns-clause-responds g c =
    let s = c.args.state.now in
    let found = c.coordinator-answer.result in
    let answer : CoordinatorAnswer = record { code = found.code; node_id = found.node_id; host = found.host.now; port = found.port } in
    let code_fits : FitsSigned w16 found.code = search rules in
    let id_fits : FitsSigned w32 found.node_id = search rules in
    let port_fits : FitsSigned w32 found.port = search rules in
    let parts = parts_are answer _ _ _ c.find_coordinator_head-head.result c.find_coordinator_port-port.result (to_z-of_z w16 found.code code_fits) (to_z-of_z w32 found.node_id id_fits) (to_z-of_z w32 found.port port_fits)
    c.find_coordinator_head-head.ensures c.find_coordinator_port-port.ensures c.find_coordinator_parts.ensures in
    on_ok c.respond_once.result
    (once_written find_coordinator_response find_coordinator_value (find_coordinator_work s c.args.request.now.group.now) s s answer c.args.correlation (to_z w32 (of_z w32 c.args.correlation)) (c.find_coordinator_head-head.result ++ found.host.now ++ c.find_coordinator_port-port.result) c.args.out.now.items c.args.out.now.items c.respond_once.new.out.items
    (to_z-of_z w32 c.args.correlation c.ranges.correlation) c.coordinator-answer.ensures parts refl)
    c.respond_once.ensures.responds
