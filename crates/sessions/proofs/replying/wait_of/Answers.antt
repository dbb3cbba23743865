use Rattle.std.proofs.Common.{◌≡◌, true, rules}
use Rattle.std.specs.Prelude.{nat_abs}
use Rattle.request_frames.specs.Fetch.{fetch_view}
use Rattle.request_frames.specs.Requests.BodyValue.{fetch}
use Rattle.request_frames.specs.Views.{request_body}
use Rattle.fetch_waits.specs.Waiting.{fetch_waits}
use Rattle.fetch_waits.proofs.Times.{waits_most}
use Rattle.sessions.proofs.replying.wait_of.Goals as goal

pub returns-in-Fetch-clause-waits : goal.returns-in-Fetch-clause-waits
returns-in-Fetch-clause-waits g c =
    let may : c.args.may_wait ≡ true = search rules in
    let waits : fetch_waits c.args.node.now (fetch_view c.in-Fetch.asked) ≡ true = search rules in
    let body : request_body c.args.request.now.body ≡ fetch (fetch_view c.in-Fetch.asked) = search rules in
    let counts : c.unsigned_abs.result ≡ nat_abs c.in-Fetch.asked.max_wait_ms = search rules in
    let most = waits_most c.args.node.now (fetch_view c.in-Fetch.asked) c.unsigned_abs.result waits counts in
    (may, (most.0, (fetch_view c.in-Fetch.asked, body, waits, most.1)))
