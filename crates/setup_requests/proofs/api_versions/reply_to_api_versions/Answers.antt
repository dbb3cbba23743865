use Rattle.std.proofs.Common.{FitsSigned, rules}
use Rattle.std.specs.Int.{w16, w32}
use Rattle.std.proofs.lemmas.Int.{to_z-of_z}
use Rattle.answering.proofs.Begun.{on_ok}
use Rattle.setup_requests.proofs.VersionReplies.{reply_written}
use Rattle.setup_requests.proofs.api_versions.reply_to_api_versions.Goals as goal

pub returns-clause-replies : goal.returns-clause-replies
returns-clause-replies g c =
    let version = c.args.request.now.version in
    let code = c.versions_code-code.result in
    let version_fits : FitsSigned w16 version = search rules in
    let code_fits : FitsSigned w16 code = search rules in
    on_ok c.respond_with.result
    (reply_written c.args.correlation _ version _ code _ c.args.out.now.items c.respond_with.new.out.items (to_z-of_z w32 c.args.correlation c.ranges.correlation) (to_z-of_z w16 version version_fits) (to_z-of_z w16 code code_fits) c.versions_code-code.ensures c.api_versions_parts.ensures)
    c.respond_with.ensures.responds
