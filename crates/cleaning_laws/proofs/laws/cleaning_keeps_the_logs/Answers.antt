use Rattle.cleaning_laws.proofs.AllAlike.{clean_states, seen_kept, config_kept, producer_kept}
use Rattle.cleaning_laws.proofs.laws.cleaning_keeps_the_logs.Goals as goal

pub returns-clause-logs : goal.returns-clause-logs
returns-clause-logs c = clean_states

pub returns-clause-seen : goal.returns-clause-seen
returns-clause-seen c = seen_kept

pub returns-clause-config : goal.returns-clause-config
returns-clause-config c = config_kept

pub returns-clause-next_producer : goal.returns-clause-next_producer
returns-clause-next_producer c = producer_kept
