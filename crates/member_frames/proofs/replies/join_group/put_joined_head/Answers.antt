use Rattle.std.proofs.Common.{FitsSigned, rules, ◌∙◌}
use Rattle.std.specs.Int.{w16, w32}
use Rattle.std.proofs.lemmas.Int.{to_z-of_z}
use Rattle.member_frames.specs.ReplyViews.{joined_head}
use Rattle.member_frames.proofs.ReplyParts.{count_is, put_head}
use Rattle.member_frames.proofs.replies.join_group.put_joined_head.Goals as goal

pub returns-clause-appends : goal.returns-clause-appends
returns-clause-appends g c =
    let h = c.args.head in
    let code_fits : FitsSigned w16 h.code = search rules in
    let generation_fits : FitsSigned w32 h.generation = search rules in
    put_head c.append_fixed-2.result (joined_head h) _ _ c.args.member_count c.args.out.now.items c.append_fixed.new.out.items c.put_text.new.out.items c.put_text-2.new.out.items c.put_text-3.new.out.items
    c.append_fixed-2.new.out.items c.code_and_generation.result c.count_bytes.result
    (to_z-of_z w16 h.code code_fits) (to_z-of_z w32 h.generation generation_fits) c.code_and_generation.ensures (c.count_bytes.ensures ∙ count_is c.args.member_count)
    c.in_ok-append_fixed.ensures.appends c.in_ok-put_text.ensures.appends c.in_ok-put_text-2.ensures.appends c.in_ok-put_text-3.ensures.appends c.append_fixed-2.ensures.appends
