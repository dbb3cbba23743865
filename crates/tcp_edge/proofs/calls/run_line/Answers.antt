use Rattle.tcp_edge.proofs.calls.run_line.Goals as goal

pub returns-clause-done_prints_help_or_table_or_merge_or_serves_or_replays : goal.returns-clause-done_prints_help_or_table_or_merge_or_serves_or_replays
returns-clause-done_prints_help_or_table_or_merge_or_serves_or_replays g c = rw (← c.parse.ensures) c.run.ensures.done_prints_help_or_table_or_merge_or_serves_or_replays

pub returns-clause-table : goal.returns-clause-table
returns-clause-table g c = rw (← c.parse.ensures) c.run.ensures.table

pub returns-clause-merge : goal.returns-clause-merge
returns-clause-merge g c = rw (← c.parse.ensures) c.run.ensures.merge

pub returns-clause-session_fault_has_a_cause : goal.returns-clause-session_fault_has_a_cause
returns-clause-session_fault_has_a_cause g c = rw (← c.parse.ensures) c.run.ensures.session_fault_has_a_cause

pub returns-clause-session : goal.returns-clause-session
returns-clause-session g c = rw (← c.parse.ensures) c.run.ensures.session

pub returns-clause-mistake_is_refused : goal.returns-clause-mistake_is_refused
returns-clause-mistake_is_refused g c = rw (← c.parse.ensures) c.run.ensures.mistake_is_refused

pub returns-clause-start_says_nothing : goal.returns-clause-start_says_nothing
returns-clause-start_says_nothing g c = rw (← c.parse.ensures) c.run.ensures.start_says_nothing

pub returns-clause-check_is_left : goal.returns-clause-check_is_left
returns-clause-check_is_left g c = rw (← c.parse.ensures) c.run.ensures.check_is_left

pub returns-clause-check_says_nothing : goal.returns-clause-check_says_nothing
returns-clause-check_says_nothing g c = rw (← c.parse.ensures) c.run.ensures.check_says_nothing
