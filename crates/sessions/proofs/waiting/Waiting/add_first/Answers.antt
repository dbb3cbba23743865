use Rattle.std.proofs.Common.{◌≡◌, rules}
use Rattle.request_frames.specs.Fetch.{fetch_view}
use Rattle.request_frames.specs.Requests.BodyValue.{fetch}
use Rattle.request_frames.specs.Views.{request_body, request_value}
use Rattle.sessions.proofs.Joined.{first_counted}
use Rattle.sessions.proofs.waiting.Waiting.add_first.Goals as goal

pub returns-in-Fetch-clause-counts : goal.returns-in-Fetch-clause-counts
returns-in-Fetch-clause-counts g c =
    let body : request_body c.in-Some.request.body ≡ fetch (fetch_view c.in-Fetch.asked) = search rules in
    first_counted c.add.result c.args.state.now c.args.number c.add.new.self c.args.held.now (request_value c.in-Some.request) (fetch_view c.in-Fetch.asked) c.in-Some.ensures.reads body c.add.ensures.counts
