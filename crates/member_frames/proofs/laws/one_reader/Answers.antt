use Rattle.member_frames.proofs.ReadersApart as law
use Rattle.member_frames.proofs.laws.one_reader.Goals as goal

pub returns-clause-read_by_one : goal.returns-clause-read_by_one
returns-clause-read_by_one c = law.read_by_one

pub returns-clause-unknown_to_broker : goal.returns-clause-unknown_to_broker
returns-clause-unknown_to_broker c = law.unknown_to_broker

pub returns-clause-unknown_to_members : goal.returns-clause-unknown_to_members
returns-clause-unknown_to_members c = law.unknown_to_members
