use Rattle.std.proofs.Common.{◌≡◌, ◌-◌, true, false, subst, rules}
use Rattle.memory_directories.specs.KnownNames.{draft_bytes, has_name}
use Rattle.memory_directories.proofs.SnapshotBytes.{cut_here, given_here, none_left}
use Rattle.memory_directories.proofs.known_directory.KnownDirectory.bytes_of.Goals as goal

pub returns-then-names : goal.returns-then-names
returns-then-names g c = λ number is.
    given_here (λ change. change.named) (λ change. change.cut) (λ change. draft_bytes change.draft) number c.args.self.now.changes.items c.loop-at.at (c.loop-at.at - 1) c.index-change.result.now
    (search rules) (search rules) (search rules) (c.loop-at.invariant.left number is) c.bytes.result.now c.bytes.ensures (subst (λ n. has_name n c.index-change.result.now.named ≡ true) is (search rules))

pub returns-then-cuts : goal.returns-then-cuts
returns-then-cuts g c = λ number is.
    cut_here (λ change. change.named) (λ change. change.cut) (λ change. draft_bytes change.draft) number c.args.self.now.changes.items c.loop-at.at (c.loop-at.at - 1) c.index-change.result.now
    (search rules) (search rules) (search rules) (c.loop-at.invariant.left number is)
    (subst (λ n. has_name n c.index-change.result.now.named ≡ false) is (search rules)) (subst (λ n. has_name n c.index-change.result.now.cut ≡ true) is (search rules))

pub returns : goal.returns
returns g c = λ number is.
    let none : c.loop-at.at ≡ 0 = search rules in
    none_left (λ change. change.named) (λ change. change.cut) (λ change. draft_bytes change.draft) number c.args.self.now.changes.items c.loop-at.at none (c.loop-at.invariant.left number is)
