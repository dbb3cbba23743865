use Rattle.broker_laws.proofs.ChangedPlaces.{config_kept, known_kept, other_partition, other_fetch, unchanged, gives_one, next_stays}
use Rattle.broker_laws.proofs.FollowersStay.{appends_nothing, gives_nothing}
use Rattle.broker_laws.proofs.laws.a_request_changes_only_its_places.Goals as goal

pub returns-clause-config : goal.returns-clause-config
returns-clause-config c = config_kept

pub returns-clause-known_partitions : goal.returns-clause-known_partitions
returns-clause-known_partitions c = known_kept

pub returns-clause-other_partitions : goal.returns-clause-other_partitions
returns-clause-other_partitions c = other_partition

pub returns-clause-other_fetches : goal.returns-clause-other_fetches
returns-clause-other_fetches c = other_fetch

pub returns-clause-reading_changes_nothing : goal.returns-clause-reading_changes_nothing
returns-clause-reading_changes_nothing c = unchanged

pub returns-clause-one_id_is_given : goal.returns-clause-one_id_is_given
returns-clause-one_id_is_given c = gives_one

pub returns-clause-next_producer : goal.returns-clause-next_producer
returns-clause-next_producer c = next_stays

pub returns-clause-followers_append_nothing : goal.returns-clause-followers_append_nothing
returns-clause-followers_append_nothing c = appends_nothing

pub returns-clause-followers_give_no_id : goal.returns-clause-followers_give_no_id
returns-clause-followers_give_no_id c = gives_nothing
