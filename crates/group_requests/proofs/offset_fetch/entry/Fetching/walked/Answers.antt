use Rattle.std.proofs.Common.{ap, ◌∙◌}
use Rattle.std.specs.Int.{w32}
use Rattle.std.proofs.lemmas.Int.{to_z-of_z}
use Rattle.group_offsets.specs.Keys.{group_key_bytes}
use Rattle.content.specs.Content.{shown_table}
use Rattle.group_requests.specs.GroupPartition.{group_content}
use Rattle.group_requests.proofs.OffsetWalks.{shown_of}
use Rattle.group_requests.proofs.offset_fetch.entry.Fetching.walked.Goals as goal

pub returns-in-Ok : goal.returns-in-Ok
returns-in-Ok g c = λ knows.
    let s = c.args.self.now.state.now in
    shown_of s c.args.self.now.group.now c.args.topic.now c.args.partition c.deref.result.now c.shown.result c.in-Ok.ensures.names_fit (c.deref.ensures.value ∙ c.in-Ok.ensures.encodes
    ∙ ap (λ p. group_key_bytes (record { group = c.args.self.now.group.now; topic = c.args.topic.now; partition = p })) (to_z-of_z w32 c.args.partition c.ranges.partition))
    (c.shown.ensures (shown_table (group_content s)) knows)
