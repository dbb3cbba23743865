use Rattle.std.proofs.Common.{◌∙◌, ◌<◌, ap, get_or, length, subst, sym}
use Rattle.group_coordinator.specs.Groups.{JoinReply}
use Rattle.group_coordinator.proofs.Telling.{listed_at}
use Rattle.group_coordinator.proofs.join_reply.JoinReply.listed_id.Goals as goal

pub returns : goal.returns
returns g c = λ x.
    let low = subst (λ (r : JoinReply). c.args.index < length r.members) (sym c.self.view_is) c.requires.within in
    listed_at (λ y. y.id) c.self.inside.protocol.now c.self.inside.listed.now c.args.index x c.id_at.result.now low c.id_at.ensures ∙ ap (λ (r : JoinReply). (get_or r.members c.args.index x).id) c.self.view_is
