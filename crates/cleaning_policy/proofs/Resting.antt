-- A partition to which nothing came is due for its deletions alone.
use Rattle.std.proofs.Common.{◌≡◌, ℕ, ◌-◌, ◌≤◌, Bool, true, false, cond, ◌&&◌, ◌||◌, nat_le, nat_lt, refl, arith}
use Rattle.std.specs.Prelude.{ℤ, ◌≤ℤ◌, ◌<ℤ◌, int_lt, Some, None, IfSome}
use Rattle.std.proofs.lemmas.Int.{ints}
use Rattle.cleaning_policy.specs.declared.values.Pass.{Pass}
use Rattle.cleaning_policy.specs.declared.values.Sample.{Sample}
use Rattle.cleaning_policy.specs.declared.values.Settings.{Settings}
use Rattle.cleaning_policy.specs.declared.values.TheConstants.{LEAST_DIRTY}
use Rattle.cleaning_policy.specs.Samples.{has_passed, old_sample}
use Rattle.cleaning_policy.specs.Marking.{tomb_bound}
use Rattle.cleaning_policy.specs.Partitions.{Part, IsIdle, is_due, frame_of, due_pass}
use Rattle.cleaning_policy.proofs.Options.{some_then, find_some}

not_enough : (came covered : ℕ) → came ≤ covered → nat_le LEAST_DIRTY (came - covered) ≡ false
not_enough came covered le = grind (arith, le)

nothing_new : (came covered : ℕ) (e reached : ℤ) → came ≤ covered → e ≤ℤ reached → (nat_lt 0 (came - covered) || int_lt reached e) ≡ false
nothing_new came covered e reached le behind = grind (arith, ints, le, behind)

-- what is left of the test
riper : (first dirty share passed new more : Bool) → dirty ≡ false → new ≡ false → (first && ((dirty && share) || ((passed && new) || more))) ≡ true → more ≡ true
riper first dirty share passed new more d n e = grind (arith, d, n, e)

below : (a b : ℤ) → int_lt a b ≡ true → a <ℤ b
below a b e = grind (arith, ints, e)

pub rests : (o : Settings) (now i : ℕ) (p : Part) → IsIdle p → IfSome (due_pass o now i p) (λ d. p.marks.used <ℤ d.frame.tomb_before)
rests o now i p idle =
    some_then (λ (s : Sample). ((s.came ≤ p.covered) × (s.end ≤ℤ p.marks.reached)) × (has_passed s.time o.lag now ≡ true)) (λ (q : Pass). p.marks.used <ℤ q.frame.tomb_before) _
    (old_sample o.lag now p.samples) (λ s w. one s w.0.0 w.0.1 (is_due o now p s) refl) (find_some (λ (s : Sample). (s.came ≤ p.covered) × (s.end ≤ℤ p.marks.reached)) _ p.samples idle) where
      one : (s : Sample) → s.came ≤ p.covered → s.end ≤ℤ p.marks.reached → (b : Bool) → is_due o now p s ≡ b
          → IfSome {T = Pass} (cond b (Some (record { frame = frame_of o now i p s; came = s.came })) None) (λ q. p.marks.used <ℤ q.frame.tomb_before)
      one s le behind true e =
          below p.marks.used (tomb_bound o.keep_deletes now p.marks)
          (riper _ _ _ _ _ (int_lt p.marks.used (tomb_bound o.keep_deletes now p.marks)) (not_enough s.came p.covered le) (nothing_new s.came p.covered s.end p.marks.reached le behind) e)
      one s le behind false e = tt
