use Rattle.std.proofs.Common.{◌≡◌, ◌+◌, ◌-◌, ◌≤◌, length, arith, rules}
use Rattle.std.proofs.lemmas.Slice.{drop-put_mid}
use Rattle.snapshot_drafts.proofs.memory.overwrite.Goals as goal

pub returns-clause-keeps : goal.returns-clause-keeps
returns-clause-keeps c =
    let at = c.args.at in
    let n = length c.args.bytes.now in
    let fits : at + n ≤ length c.args.file.now = c.requires in
    let same : length c.copy_from_slice.new.self ≡ (at + n) - at = search rules in
    drop-put_mid at ((at + n) - at) c.args.file.now c.copy_from_slice.new.self (at + n) (omega arith) (omega (arith, fits)) same
