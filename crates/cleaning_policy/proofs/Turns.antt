-- The next pass is of a partition that is there.
use Rattle.std.proofs.Common.{◌≡◌, ℕ, ◌+◌, ◌-◌, ◌<◌, ◌≤◌, List, [], ◌∷◌, length, drop, refl, arith, true}
use Rattle.std.specs.Prelude.{Option, Some, None, IfSome}
use Rattle.std.proofs.lemmas.List.{length-drop}
use Rattle.cleaning_policy.specs.declared.values.Pass.{Pass}
use Rattle.cleaning_policy.specs.declared.values.Sample.{Sample}
use Rattle.cleaning_policy.specs.declared.values.Settings.{Settings}
use Rattle.cleaning_policy.specs.Samples.{old_sample, has_passed}
use Rattle.cleaning_policy.specs.Partitions.{Part, due_pass, is_due}
use Rattle.cleaning_policy.specs.Policies.{Known, first_pass, next_pass}
use Rattle.cleaning_policy.proofs.Options.{by_test, some_weaker, some_or, some_then, find_some, all_true}

-- a pass that is due is of its partition
pub due_of : (o : Settings) (now i : ℕ) (p : Part) → IfSome (due_pass o now i p) (λ q. q.frame.partition ≡ i)
due_of o now i p =
    some_then (λ (s : Sample). Unit {0} × (has_passed s.time o.lag now ≡ true)) (λ (q : Pass). q.frame.partition ≡ i) _ (old_sample o.lag now p.samples)
    (λ s w. by_test (λ (r : Option Pass). IfSome r (λ q. q.frame.partition ≡ i)) (is_due o now p s) _ None refl tt)
    (find_some (λ (s : Sample). Unit {0}) _ p.samples (all_true p.samples))

abbrev pub IsBetween : (low high : ℕ) → Pass → Type 0
IsBetween low high q = (low ≤ q.frame.partition) × (q.frame.partition < high)

pub first_within : (o : Settings) (now i : ℕ) (ps : List Part) → IfSome (first_pass o now i ps) (IsBetween i (i + length ps))
first_within o now i [] = tt
first_within o now i (p ∷ ps) =
    some_or (IsBetween i (i + length (p ∷ ps))) (due_pass o now i p) (first_pass o now (i + 1) ps)
    (some_weaker _ (IsBetween i (i + length (p ∷ ps))) (λ q e. (omega (arith, e), omega (arith, e))) (due_pass o now i p) (due_of o now i p))
    (some_weaker (IsBetween (i + 1) (i + 1 + length ps)) (IsBetween i (i + length (p ∷ ps))) (λ q w. (omega (arith, w.0), omega (arith, w.1)))
    (first_pass o now (i + 1) ps) (first_within o now (i + 1) ps))

pub next_within : (now : ℕ) (v : Known) (r : Option Pass) → IfSome (next_pass now v r) (λ q. q.frame.partition < length v.parts)
next_within now v (Some q) = tt
next_within now v None =
    let few : length (drop v.turn v.parts) ≡ length v.parts - v.turn = length-drop v.turn v.parts in
    some_or (λ (q : Pass). q.frame.partition < length v.parts) (first_pass v.settings now v.turn (drop v.turn v.parts)) (first_pass v.settings now 0 v.parts)
    (some_weaker (IsBetween v.turn (v.turn + length (drop v.turn v.parts))) (λ (q : Pass). q.frame.partition < length v.parts) (λ q w. omega (arith, w.0, w.1, few))
    (first_pass v.settings now v.turn (drop v.turn v.parts)) (first_within v.settings now v.turn (drop v.turn v.parts)))
    (some_weaker (IsBetween 0 (0 + length v.parts)) (λ (q : Pass). q.frame.partition < length v.parts) (λ q w. omega (arith, w.1))
    (first_pass v.settings now 0 v.parts) (first_within v.settings now 0 v.parts))
