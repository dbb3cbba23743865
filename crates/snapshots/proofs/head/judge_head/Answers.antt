use Rattle.std.proofs.Common.{ℤ, Option, rules, subst, sym}
use Rattle.snapshots.specs.Heads.{StartsWithHead, snapshot_view}
use Rattle.snapshots.specs.Faults.{HasParts}
use Rattle.snapshots.proofs.Judging.{breaks_behind, has_parts, no_fields, starts, wrong_crc}
use Rattle.snapshots.proofs.head.judge_head.Goals as goal

pub returns-in-Err-clause-refuses : goal.returns-in-Err-clause-refuses
returns-in-Err-clause-refuses c = breaks_behind c.in_ok-front.front.crc c.in_ok-front.front.key c.in-Err.fault c.args.bytes.now c.in_ok-front.behind.now (search rules) c.in_ok-front.ensures.has_front (search rules) c.size_error.result c.size_error.ensures

pub returns-then-crc_of_either-front-clause-refuses : goal.returns-then-crc_of_either-front-clause-refuses
returns-then-crc_of_either-front-clause-refuses c =
    let parts : HasParts c.in_ok-front.front.crc c.in_ok-front.front.key c.in-Ok.found.0.now c.args.bytes.now c.in-Ok.found.1.now = has_parts c.in_ok-front.front.crc c.in_ok-front.front.key c.args.bytes.now c.in_ok-front.behind.now c.in-Ok.found.0.now c.in-Ok.found.1.now (search rules) c.in_ok-front.ensures.has_front (search rules) in
    wrong_crc c.in_ok-front.front.crc c.crc_of_either.result c.in_ok-front.front.key c.args.bytes.now c.in-Ok.found.0.now c.in-Ok.found.1.now parts c.crc_of_either.ensures (search rules)

pub returns-in_err-head-clause-refuses : goal.returns-in_err-head-clause-refuses
returns-in_err-head-clause-refuses c =
    let parts : HasParts c.in_ok-front.front.crc c.in_ok-front.front.key c.in-Ok.found.0.now c.args.bytes.now c.in-Ok.found.1.now = has_parts c.in_ok-front.front.crc c.in_ok-front.front.key c.args.bytes.now c.in_ok-front.behind.now c.in-Ok.found.0.now c.in-Ok.found.1.now (search rules) c.in_ok-front.ensures.has_front (search rules) in
    search (rules, no_fields c.in_ok-front.front.crc c.crc_of_either.result c.in_ok-front.front.key c.args.bytes.now c.in-Ok.found.0.now c.in-Ok.found.1.now c.in_err-head.field-0.0 parts c.crc_of_either.ensures (search rules) (search rules))

pub returns-clause-accepts : goal.returns-clause-accepts
returns-clause-accepts c =
    let parts : HasParts c.in_ok-front.front.crc c.in_ok-front.front.key c.in-Ok.found.0.now c.args.bytes.now c.in-Ok.found.1.now = has_parts c.in_ok-front.front.crc c.in_ok-front.front.key c.args.bytes.now c.in_ok-front.behind.now c.in-Ok.found.0.now c.in-Ok.found.1.now (search rules) c.in_ok-front.ensures.has_front (search rules) in
    subst (λ (k : Option ℤ). StartsWithHead (snapshot_view c.in_ok-head.head) k c.args.bytes.now c.in-Ok.found.1.now) (sym c.in_ok-head.ensures.keyed)
    (starts (snapshot_view c.in_ok-head.head) c.in_ok-front.front.crc c.in_ok-front.front.key c.args.bytes.now c.in-Ok.found.0.now c.in-Ok.found.1.now parts (search rules) c.in_ok-head.ensures.reads)
