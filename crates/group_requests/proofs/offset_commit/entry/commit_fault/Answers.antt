use Rattle.std.specs.Int.{w32, w64}
use Rattle.std.proofs.lemmas.Int.{to_z-of_z}
use Rattle.request_frames.specs.OffsetCommit.{offset_commit_view}
use Rattle.group_offsets.specs.CommittedValues.{text_of}
use Rattle.group_requests.proofs.OffsetCommitEntries.{entry_decides}
use Rattle.group_requests.proofs.offset_commit.entry.commit_fault.Goals as goal

pub returns-in-None-clause-faults : goal.returns-in-None-clause-faults
returns-in-None-clause-faults g c =
    entry_decides c.args.state.now (offset_commit_view c.args.request.now) c.args.topic.now
    (record { partition = c.args.partition; offset = c.args.offset; metadata = text_of c.args.metadata })
    _ c.entry_fault.result
    (λ i. record {
      partition = to_z-of_z w32 c.args.partition c.ranges.partition i;
      offset = to_z-of_z w64 c.args.offset c.ranges.offset i;
      metadata = text_of c.args.metadata;
    })
    c.in-None.ensures c.entry_fault.ensures
