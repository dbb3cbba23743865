use Rattle.std.proofs.Common.{length}
use Rattle.request_frames.specs.declared.api.Api.TheVariants.{CleanPart}
use Rattle.cleaning_frames.specs.Cleaning.{part_cleaning}
use Rattle.cleaning_frames.proofs.AskedFrames.{head_sent}
use Rattle.cleaning_frames.proofs.AskedParts.{placed_if, tail_sent, is_within, is_request}
use Rattle.cleaning_frames.proofs.asking_parts.put_clean_part_frame.Goals as goal

pub returns-clause-appends : goal.returns-clause-appends
returns-clause-appends g c =
    placed_if c.append_around.result c.args.correlation (part_cleaning c.args.topic.now c.args.partition c.args.from c.args.to c.args.upto c.args.tomb_before)
    c.head_bytes-head.result c.part_tail_bytes-tail.result c.args.out.now.items c.append_around.new.out.items
    (head_sent CleanPart 48 c.args.correlation (length c.args.topic.now) c.head_bytes-head.result c.ranges.correlation c.head_bytes-head.ensures)
    (tail_sent c.args.topic.now c.args.partition c.args.from c.args.to c.args.upto c.args.tomb_before c.part_tail_bytes-tail.result c.ranges.partition c.ranges.from c.ranges.to c.ranges.upto c.ranges.tomb_before c.part_tail_bytes-tail.ensures)
    c.append_around.ensures.appends

pub returns-clause-is_request : goal.returns-clause-is_request
returns-clause-is_request g c =
    is_request c.args.correlation (part_cleaning c.args.topic.now c.args.partition c.args.from c.args.to c.args.upto c.args.tomb_before)
    c.ranges.correlation c.requires.name c.ranges.partition c.ranges.from c.ranges.to c.ranges.upto c.ranges.tomb_before

pub returns-clause-within : goal.returns-clause-within
returns-clause-within g c =
    is_within c.args.correlation (part_cleaning c.args.topic.now c.args.partition c.args.from c.args.to c.args.upto c.args.tomb_before) c.requires.name
