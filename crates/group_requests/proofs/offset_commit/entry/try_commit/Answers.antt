use Rattle.std.specs.Int.{w32, w64}
use Rattle.std.proofs.lemmas.Int.{to_z-of_z}
use Rattle.request_frames.specs.OffsetCommit.{offset_commit_view}
use Rattle.group_offsets.specs.CommittedValues.{text_of}
use Rattle.group_requests.proofs.OffsetCommitEntries.{commit_fails, commit_done}
use Rattle.group_requests.proofs.offset_commit.entry.try_commit.Goals as goal

pub returns-in-Some : goal.returns-in-Some
returns-in-Some g c =
    commit_fails c.args.state.now (offset_commit_view c.args.request.now) c.args.topic.now
    (record { partition = c.args.partition; offset = c.args.offset; metadata = text_of c.args.metadata })
    _ c.in-Some.fault
    (λ i. record {
      partition = to_z-of_z w32 c.args.partition c.ranges.partition i;
      offset = to_z-of_z w64 c.args.offset c.ranges.offset i;
      metadata = text_of c.args.metadata;
    })
    c.in-Some.ensures.faults

pub returns-in-None : goal.returns-in-None
returns-in-None g c =
    commit_done c.args.state.now (offset_commit_view c.args.request.now) c.args.topic.now
    (record { partition = c.args.partition; offset = c.args.offset; metadata = text_of c.args.metadata })
    _ _ c.commit.result c.commit.new.state
    (λ i. record {
      partition = to_z-of_z w32 c.args.partition c.ranges.partition i;
      offset = to_z-of_z w64 c.args.offset c.ranges.offset i;
      metadata = text_of c.args.metadata;
    })
    (λ i. record {
      partition = to_z-of_z w32 c.args.partition c.ranges.partition i;
      offset = to_z-of_z w64 c.args.offset c.ranges.offset i;
      metadata = text_of c.args.metadata;
    })
    c.in-None.ensures.faults c.commit.ensures
