use Rattle.kept_starts.proofs.checking.former_seen.Goals as goal

pub returns-in-Ok-clause-leads : goal.returns-in-Ok-clause-leads
returns-in-Ok-clause-leads g c = c.in-Ok.ensures.leads.0
