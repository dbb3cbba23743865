use Rattle.member_frames.proofs.ReadBack as law
use Rattle.member_frames.proofs.laws.replies_read_back.Goals as goal

pub returns-clause-joins : goal.returns-clause-joins
returns-clause-joins c = law.join_reads_back

pub returns-clause-syncs : goal.returns-clause-syncs
returns-clause-syncs c = law.sync_reads_back

pub returns-clause-codes : goal.returns-clause-codes
returns-clause-codes c = law.code_reads_back

pub returns-clause-one_join : goal.returns-clause-one_join
returns-clause-one_join c = law.same_join

pub returns-clause-one_sync : goal.returns-clause-one_sync
returns-clause-one_sync c = law.same_sync
