use Rattle.std.proofs.Common.{◌∙◌, ◌<◌, ap, get_or, length, subst, sym}
use Rattle.group_coordinator.specs.Groups.{JoinReply}
use Rattle.group_coordinator.proofs.Telling.{listed_at}
use Rattle.group_coordinator.proofs.join_reply.JoinReply.listed_metadata.Goals as goal

pub returns : goal.returns
returns g c = λ x.
    let low = subst (λ (r : JoinReply). c.args.index < length r.members) (sym c.self.view_is) c.requires.within in
    listed_at (λ y. y.metadata) c.self.inside.protocol.now c.self.inside.listed.now c.args.index x c.metadata_at.result.now low c.metadata_at.ensures ∙ ap (λ (r : JoinReply). (get_or r.members c.args.index x).metadata) c.self.view_is
