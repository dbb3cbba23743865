use Rattle.std.proofs.Common.{◌≡◌, length, rules}
use Rattle.snapshot_drafts.proofs.Opened.{size_is}
use Rattle.snapshot_drafts.proofs.beginning.snapshot_size.Goals as goal

pub returns : goal.returns
returns g c =
    let start : c.len.result ≡ length c.in_ok-head.head.items = search rules in
    size_is c.args.id c.args.state.now c.in_ok-_slots.size c.len.result c.in_ok-head.head.items c.topics.result.now c.in_ok-head.ensures.bytes start c.topics.ensures.topics c.in_ok-_slots.ensures.end
