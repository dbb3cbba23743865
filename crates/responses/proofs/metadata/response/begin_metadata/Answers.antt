use Rattle.std.proofs.Common.{◌≡◌, ℕ, List, ◌++◌, subst, FitsSigned, rules, to_z, of_z}
use Rattle.std.specs.Prelude.{OnOk}
use Rattle.std.specs.Int.{w32}
use Rattle.std.proofs.lemmas.Int.{to_z-of_z}
use Rattle.responses.proofs.MetadataHead.{head_around}
use Rattle.responses.proofs.metadata.response.begin_metadata.Goals as goal

pub returns-clause-appends : goal.returns-clause-appends
returns-clause-appends g c =
    let node_id = c.args.broker.node_id in
    let id_fits : FitsSigned w32 node_id = search rules in
    let controller_fits : FitsSigned w32 c.args.controller = search rules in
    let parts = head_around c.before_host-before.result c.args.broker.host.now c.after_host-after.result node_id c.args.controller (to_z w32 (of_z w32 node_id)) (to_z w32 (of_z w32 c.args.controller)) c.args.broker.port c.args.topic_count
    (to_z-of_z w32 node_id id_fits) (to_z-of_z w32 c.args.controller controller_fits) c.before_host-before.ensures c.after_host-after.ensures in
    subst (λ (b : List ℕ). OnOk c.append_around.result (c.append_around.new.out.items ≡ c.args.out.now.items ++ b)) parts c.append_around.ensures.appends
