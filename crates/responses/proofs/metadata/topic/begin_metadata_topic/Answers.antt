use Rattle.std.proofs.Common.{rules, arith, ◌≡◌, ℕ, suc, ◌+◌, List, [], ◌++◌, length, ap, subst}
use Rattle.std.specs.Prelude.{OnOk}
use Rattle.std.specs.Vec.{vec_len}
use Rattle.frame_fields.specs.Fields.{encoded}
use Rattle.responses.proofs.metadata.topic.begin_metadata_topic.Goals as goal

pub append_around-requires-clause-after : goal.append_around-requires-clause-after
append_around-requires-clause-after g c =
    let five : suc (length (c.write_u32.new.buf ++ [])) ≡ 5 = ap (λ (b : List ℕ). suc (length (b ++ []))) c.write_u32.ensures in
    omega (arith, five)

pub returns-clause-appends : goal.returns-clause-appends
unfolding encoded
returns-clause-appends c = search rules

pub returns-clause-len : goal.returns-clause-len
returns-clause-len g c =
    let name = length c.args.topic.name.now in
    let five : suc (length (c.write_u32.new.buf ++ [])) ≡ 5 = ap (λ (b : List ℕ). suc (length (b ++ []))) c.write_u32.ensures in
    let all : 4 + name + suc (length (c.write_u32.new.buf ++ [])) ≡ 9 + name = omega (arith, five) in
    subst (λ (n : ℕ). OnOk c.append_around.result (vec_len c.append_around.new.out ≡ vec_len c.args.out.now + n)) all c.append_around.ensures.len

pub returns-clause-succeeds : goal.returns-clause-succeeds
returns-clause-succeeds g c = λ enough.
    let five : suc (length (c.write_u32.new.buf ++ [])) ≡ 5 = ap (λ (b : List ℕ). suc (length (b ++ []))) c.write_u32.ensures in
    c.append_around.ensures.succeeds (omega (arith, five, enough))
