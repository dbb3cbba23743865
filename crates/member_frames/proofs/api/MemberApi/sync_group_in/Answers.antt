use Rattle.std.proofs.Common.{rules, ◌≢◌, pos}
use Rattle.member_frames.proofs.MemberTable.{no_sync}
use Rattle.member_frames.proofs.api.MemberApi.sync_group_in.Goals as goal

pub returns-in_default-clause-refused : goal.returns-in_default-clause-refused
returns-in_default-clause-refused c =
    let not_0 : c.args.version ≢ pos 0 = search rules in
    let not_1 : c.args.version ≢ pos 1 = search rules in
    no_sync c.args.version not_0 not_1
