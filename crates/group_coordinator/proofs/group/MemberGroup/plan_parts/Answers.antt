use Rattle.std.proofs.Common.{◌∙◌, ap}
use Rattle.std.specs.Prelude.{Some}
use Rattle.group_coordinator.proofs.Syncing.{no_room_of, has_room_of}
use Rattle.group_coordinator.proofs.group.MemberGroup.plan_parts.Goals as goal

pub returns-then-behind-gt-MOST_BYTES : goal.returns-then-behind-gt-MOST_BYTES
returns-then-behind-gt-MOST_BYTES g c =
    no_room_of c.args.bytes c.args.parts.now c.args.self.now c.members-members.result.now c.given_bytes.result c.part_bytes.result c.saturating_add-behind.result c.members-members.ensures (c.given_bytes.ensures c.args.parts.now c.in_ok-last.ensures) c.part_bytes.ensures c.requires.counted c.requires.bounded c.saturating_add-behind.ensures c.if-behind-gt-MOST_BYTES.true

pub returns : goal.returns
returns g c =
    ap Some c.with_parts.ensures ∙ has_room_of c.args.bytes c.args.parts.now c.args.self.now c.members-members.result.now c.given_bytes.result c.part_bytes.result c.saturating_add-behind.result c.members-members.ensures (c.given_bytes.ensures c.args.parts.now c.in_ok-last.ensures) c.part_bytes.ensures c.requires.counted c.requires.bounded c.saturating_add-behind.ensures c.if-behind-gt-MOST_BYTES.false c.in_ok-given.given (c.in_ok-given.ensures c.args.parts.now c.in_ok-last.ensures)
