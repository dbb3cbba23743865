use Rattle.tcp_edge.proofs.ExampleLines.{session_asked, serve_asked, start_asked, check_asked, replay_asked}
use Rattle.tcp_edge.proofs.examples.lines_that_are_asked_for.Goals as goal

pub returns-clause-session : goal.returns-clause-session
returns-clause-session c = session_asked

pub returns-clause-serve : goal.returns-clause-serve
returns-clause-serve c = serve_asked

pub returns-clause-start : goal.returns-clause-start
returns-clause-start c = start_asked

pub returns-clause-check : goal.returns-clause-check
returns-clause-check c = check_asked

pub returns-clause-replay : goal.returns-clause-replay
returns-clause-replay c = replay_asked
