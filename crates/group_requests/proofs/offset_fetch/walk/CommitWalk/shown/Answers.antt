use Rattle.std.proofs.Common.{Some, None, sym, ap, ◌∙◌}
use Rattle.std.specs.Option.{option_map, option_copied}
use Rattle.group_requests.specs.OffsetFetch.Walks.{slot_value}
use Rattle.group_requests.proofs.OffsetWalks.{told}
use Rattle.group_requests.proofs.offset_fetch.walk.CommitWalk.shown.Goals as goal

pub returns-in-Some : goal.returns-in-Some
returns-in-Some g c = λ t knows.
    let cases = c.in_ok-rest.ensures.cases in
    told t c.args.self.now c.deref.result.now c.in_ok-rest.rest.now c.args.key.now (Some c.in-Some.found) knows c.deref.ensures.value cases.0 cases.1
    (ap (option_map slot_value) (sym c.get.ensures.value ∙ ap option_copied c.in_ok-found.was ∙ ap Some c.in-Some.is))

pub returns-in-None : goal.returns-in-None
returns-in-None g c = λ t knows.
    let cases = c.in_ok-rest.ensures.cases in
    sym (told t c.args.self.now c.deref.result.now c.in_ok-rest.rest.now c.args.key.now None knows c.deref.ensures.value cases.0 cases.1
    (ap (option_map slot_value) (sym c.get.ensures.value ∙ ap option_copied c.in_ok-found.was ∙ ap Some c.in-None.is)) c.if-self.true)
