use Rattle.std.proofs.Common.{ℤ, sym, subst, rules, FitsSigned, to_z, of_z}
use Rattle.std.specs.Prelude.{◌≤ℤ◌}
use Rattle.std.specs.Int.{w64}
use Rattle.std.proofs.lemmas.Int.{to_z-of_z}
use Rattle.newest_keys.specs.Shards.{newest_in}
use Rattle.cleaning_progress.specs.Progress.{newest_of}
use Rattle.cleaning_progress.proofs.Tellings.{same_takes}
use Rattle.cleaning_progress.proofs.progress.extended.Goals as goal

pub returns : goal.returns
returns g c =
    let to : FitsSigned w64 c.args.keys.to = search rules in
    let end : FitsSigned w64 c.in_ok-end.end = search rules in
    record {
      reaches = λ room. subst (λ (u : ℤ). u ≤ℤ to_z w64 (of_z w64 c.in_ok-end.end)) (to_z-of_z w64 c.args.upto c.ranges.upto) (subst (λ (e : ℤ). to_z w64 (of_z w64 c.args.upto) ≤ℤ e) (sym (to_z-of_z w64 c.in_ok-end.end end)) (c.in_ok-end.ensures.reaches room));
      takes = same_takes c.args.keys.to _ c.in_ok-end.end _ (newest_of c.args.keys.newest) (newest_in c.in_ok-newest.newest) _ _ (to_z-of_z w64 c.args.keys.to to) (to_z-of_z w64 c.in_ok-end.end end) c.in_ok-newest.ensures c.in_ok-end.ensures.takes;
    }
