use Rattle.std.proofs.Common.{rules, ◌∙◌, FitsSigned}
use Rattle.std.specs.Int.{w16, w32}
use Rattle.std.proofs.lemmas.Int.{to_z-of_z}
use Rattle.member_frames.proofs.WholeMembers.{api_found, api_not_found}
use Rattle.member_frames.proofs.parsing.parse_member.Goals as goal

pub returns-in_err-api-clause-refuses : goal.returns-in_err-api-clause-refuses
returns-in_err-api-clause-refuses c =
    let header = c.in-Some.header in
    let found = c.in-Some.ensures.found in
    let key_fits : FitsSigned w16 header.key = search rules in
    let version_fits : FitsSigned w16 header.version = search rules in
    let refused = api_not_found c.args.frame.now header.key header.version key_fits version_fits found.0 found.1.key found.1.version c.in_err-api.field-0.0 c.in_err-api.ensures.refused in
    search (rules, refused)

pub request_after-requires-clause-is_of_api : goal.request_after-requires-clause-is_of_api
request_after-requires-clause-is_of_api c =
    let header = c.in-Some.header in
    let found = c.in-Some.ensures.found in
    let key_fits : FitsSigned w16 header.key = search rules in
    let version_fits : FitsSigned w16 header.version = search rules in
    api_found c.args.frame.now header.key header.version key_fits version_fits found.0 found.1.key found.1.version c.in_ok-api.api c.in_ok-api.ensures.found

pub request_after-requires-clause-correlates : goal.request_after-requires-clause-correlates
request_after-requires-clause-correlates c =
    let fits : FitsSigned w32 c.in-Some.header.correlation = search rules in
    to_z-of_z w32 c.in-Some.header.correlation fits ∙ c.in-Some.ensures.found.1.correlation
