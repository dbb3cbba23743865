use Rattle.std.proofs.Common.{IfOk, IfSome, subst}
use Rattle.std.specs.Int.{w32}
use Rattle.std.proofs.lemmas.Int.{to_z-of_z}
use Rattle.content.specs.Content.{shown_table}
use Rattle.partition_log.specs.Newest.{value_of}
use Rattle.group_requests.specs.GroupPartition.{group_content}
use Rattle.group_requests.specs.OffsetFetch.Walks.{Knows}
use Rattle.group_requests.specs.OffsetFetch.Entries.{ShowsAt}
use Rattle.group_requests.proofs.OffsetWalks.{found_at}
use Rattle.group_requests.proofs.offset_fetch.entry.Fetching.find.Goals as goal

pub returns-in-Some : goal.returns-in-Some
returns-in-Some g c = λ walked.
    let s = c.args.self.now.state.now in
    let group = c.args.self.now.group.now in
    let knows = subst (λ r. IfOk r (Knows (shown_table (group_content s)))) c.in-Ok.is walked.knows in
    let found = subst (λ p. IfSome c.walked.result (λ value. ShowsAt s group c.args.topic.now p (value_of value))) (to_z-of_z w32 c.args.partition c.ranges.partition) (c.walked.ensures knows) in
    let shows = subst (λ o. IfSome o (λ value. ShowsAt s group c.args.topic.now c.args.partition (value_of value))) c.in-Some.is found in
    found_at s group c.args.topic.now c.args.partition (value_of c.in-Some.value) c.committed.result shows c.committed.ensures
