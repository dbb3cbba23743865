use Rattle.std.proofs.Common.{ℕ, ◌≤◌, subst}
use Rattle.copy_images.specs.declared.layout.TheConstants.{MAX_COUNT}
use Rattle.copy_images.proofs.Written.{on_ok}
use Rattle.copy_deltas.proofs.Parts.{entries_put}
use Rattle.copy_deltas.proofs.write.put_entries.Goals as goal

pub returns-clause-appends : goal.returns-clause-appends
returns-clause-appends g c =
    entries_put c.put_each.result c.args.out.now.items c.extend_from_slice.new.self.items c.put_each.new.out.items c.to_be_bytes.result c.args.asked.now.runs c.args.copy.now.kept c.len.result c.in_ok-count.count
    c.in_ok-count.ensures.same c.in_ok-count.ensures.fits c.len.ensures c.to_be_bytes.ensures c.in_ok-extend_from_slice.ensures.items c.put_each.ensures

pub returns-clause-counted : goal.returns-clause-counted
returns-clause-counted g c = on_ok c.put_each.result _ (subst (λ (n : ℕ). n ≤ MAX_COUNT) c.len.ensures c.in_ok-count.ensures.fits)
