use Rattle.std.proofs.Common.{ap, ◌∙◌, ◌++◌}
use Rattle.std.specs.Int.{w32}
use Rattle.std.proofs.lemmas.Int.{to_z-of_z}
use Rattle.request_frames.specs.Metadata.{metadata_view}
use Rattle.log_requests.specs.Metadata.{metadata_reply}
use Rattle.answering.proofs.Begun.{on_ok}
use Rattle.log_requests.proofs.metadata.reply_to_metadata.Goals as goal

pub returns-clause-replies : goal.returns-clause-replies
returns-clause-replies g c =
    on_ok c.respond_with.result
    (λ e. e ∙ ap (λ z. c.args.out.now.items ++ metadata_reply c.args.state.now z (metadata_view c.args.request.now)) (to_z-of_z w32 c.args.correlation c.ranges.correlation))
    c.respond_with.ensures.responds
