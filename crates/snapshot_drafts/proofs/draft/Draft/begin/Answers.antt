use Rattle.std.proofs.Common.{◌≡◌, length, rules}
use Rattle.snapshot_drafts.proofs.Opened.{state_begun, state_missing}
use Rattle.snapshot_drafts.proofs.draft.Draft.begin.Goals as goal

pub returns-clause-begins : goal.returns-clause-begins
returns-clause-begins g c none =
    let start : c.len.result ≡ length c.in_ok-head.head.items = search rules in
    state_begun g.F.DraftFile.seen c.args.id c.args.state.now c.args.file c.write_at.new.self c.new.result c.in_ok-topics.topics.items c.in_ok-topics.size c.len.result c.in_ok-head.head.items c.deref.result.now c.topics.result.now
    c.new.ensures c.in_ok-write_at.ensures.writes c.deref.ensures.value c.in_ok-head.ensures.bytes start c.topics.ensures.topics c.in_ok-topics.ensures.slots c.in_ok-topics.ensures.end none

pub returns-clause-misses_all : goal.returns-clause-misses_all
returns-clause-misses_all g c =
    let start : c.len.result ≡ length c.in_ok-head.head.items = search rules in
    state_missing c.args.state.now c.write_at.new.self c.new.result c.in_ok-topics.topics.items c.in_ok-topics.size c.len.result c.in_ok-head.head.items c.topics.result.now c.new.ensures start c.topics.ensures.topics c.in_ok-topics.ensures.slots
