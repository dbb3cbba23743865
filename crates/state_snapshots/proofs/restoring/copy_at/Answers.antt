use Rattle.std.proofs.Common.{◌≡◌, take, drop, List, ℕ, length, sym, ap, subst, ◌∙◌}
use Rattle.std.specs.Prelude.{IfSome}
use Rattle.state_snapshots.specs.Faults.{CopyFault, image_fault}
use Rattle.state_snapshots.proofs.Stopped.{bytes_there, no_image}
use Rattle.state_snapshots.proofs.restoring.copy_at.Goals as goal

pub returns-in-Err-clause-refuses : goal.returns-in-Err-clause-refuses
returns-in-Err-clause-refuses g c =
    let seen = g.D.Disk.seen c.args.disk.now in
    let bytes = c.deref.result.now in
    let read = subst (λ (xs : List ℕ). IfSome seen (λ file. xs ≡ take c.args.count (drop c.args.at file))) (sym c.deref.ensures.value) c.in_ok-read_bytes.ensures.reads in
    let there = bytes_there seen c.args.at c.args.count bytes (ap (λ (xs : List ℕ). length xs) c.deref.ensures.value ∙ c.in_ok-read_bytes.ensures.counts) read in
    let is : c.image_fault.result ≡ image_fault c.args.at c.in-Err.why = c.image_fault.ensures in
    subst (CopyFault seen (g.D.Disk.may_fail c.args.disk.now) c.args.at c.args.count) (sym is)
    (no_image seen (g.D.Disk.may_fail c.args.disk.now) c.args.at c.args.count bytes c.in-Err.why there c.in-Err.ensures.refuses_for_the_first_fault)
