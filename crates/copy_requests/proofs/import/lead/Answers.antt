use Rattle.copy_requests.proofs.Imported.{leads, does_not_lead}
use Rattle.copy_requests.proofs.import.lead.Goals as goal

pub returns-in-Ok : goal.returns-in-Ok
returns-in-Ok g c = leads c.args.log.now c.args.copy c.in-Ok.led c.end.ensures.is_content c.in-Ok.ensures.leads.0 c.in-Ok.ensures.leads.1

pub returns : goal.returns
returns g c = does_not_lead c.args.log.now c.args.copy c.in-Err.ensures.hands_back.1
