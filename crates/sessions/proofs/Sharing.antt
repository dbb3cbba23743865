-- All who have a share of a partition look at it, each once.
use Rattle.std.proofs.Common.{◌≡◌, ◌≢◌, ℕ, arith, Bool, true, false, cond, List, [], ◌∷◌, Option, Some, None, MatchOption, sym, ap, subst, refl, ◌∙◌}
use Rattle.std.specs.Prelude.{nat_eq}
use Rattle.std.specs.List.{AllByRecursion, IsDistinct}
use Rattle.std.specs.Map.{keys_of, lookup}
use Rattle.std.specs.Option.{option_map}
use Rattle.std.proofs.lemmas.Bool.Decides.{nat_tests}
use Rattle.sessions.specs.declared.waits.Share.{Share}
use Rattle.sessions.specs.declared.waits.Growth.{Growth}
use Rattle.sessions.specs.Waiting.{SleepsOn, StandState, WaitState, WaitsState, asleep_at, kept, share_in, wait_at}
use Rattle.sessions.specs.Growing.{GrowsOn, KeepsDues}

-- these shares are left; whoever has another, or none, looked
pub record Growing (stand : StandState) (growth : Option Growth) (old now : WaitsState) (left : List (ℕ × Share)) : Type 0 where
  pub distinct : IsDistinct nat_eq (keys_of left)
  pub dues : KeepsDues old now
  pub each : (k : ℕ) → MatchOption (lookup (nat_eq k) left) (GrowsOn (share_in stand k) growth (asleep_at old k) (asleep_at now k))
      (λ share. (asleep_at now k ≡ asleep_at old k) × (share_in stand k ≡ Some share))

distinct_rest : (n : ℕ) (ks : List ℕ) → IsDistinct nat_eq (n ∷ ks) → AllByRecursion (λ (k : ℕ). nat_eq n k ≡ false) ks × IsDistinct nat_eq ks
unfolding IsDistinct
distinct_rest n ks is = is

nowhere : (n : ℕ) (es : List (ℕ × Share)) → AllByRecursion (λ (k : ℕ). nat_eq n k ≡ false) (keys_of es) → lookup (nat_eq n) es ≡ None
nowhere n [] all = refl
nowhere n (e ∷ es) all = ap (λ (b : Bool). cond b (Some e.1) (lookup (nat_eq n) es)) all.0 ∙ nowhere n es all.1

module _ (stand : StandState) (growth : Option Growth) (old : WaitsState) where
  module _ (now new : WaitsState) (n : ℕ) (share : Share) (left rest : List (ℕ × Share)) (is : left ≡ (n, share) ∷ rest) (grows : SleepsOn share growth (asleep_at now n) (asleep_at new n))
      (keeps : option_map kept (wait_at new n) ≡ option_map kept (wait_at now n)) (waits : (k : ℕ) → k ≢ n → wait_at new k ≡ wait_at now k) (asleep : (k : ℕ) → k ≢ n → asleep_at new k ≡ asleep_at now k)
    where
      abbrev Each : ℕ → WaitsState → Option Share → Type 0
      Each k w o = MatchOption o (GrowsOn (share_in stand k) growth (asleep_at old k) (asleep_at w k)) (λ s. (asleep_at w k ≡ asleep_at old k) × (share_in stand k ≡ Some s))

      pub one_grown : Growing stand growth old now left → Growing stand growth old new rest
      one_grown so_far = record {
        distinct = parts.1;
        dues = λ k. dues k (nat_eq k n) refl;
        each = λ k. each k (nat_eq k n) refl;
      } where
        parts : AllByRecursion (λ (k : ℕ). nat_eq n k ≡ false) (keys_of rest) × IsDistinct nat_eq (keys_of rest)
        parts = distinct_rest n (keys_of rest) (subst (λ (l : List (ℕ × Share)). IsDistinct nat_eq (keys_of l)) is so_far.distinct)

        dues : (k : ℕ) (b : Bool) → nat_eq k n ≡ b → option_map kept (wait_at new k) ≡ option_map kept (wait_at old k)
        dues k true same = let this : k ≡ n = grind (arith, same, nat_tests) in subst (λ (m : ℕ). option_map kept (wait_at new m) ≡ option_map kept (wait_at now m)) (sym this) keeps ∙ so_far.dues k
        dues k false other = ap (option_map kept) (waits k (grind (arith, other, nat_tests))) ∙ so_far.dues k

        before : (k : ℕ) (b : Bool) → nat_eq k n ≡ b → MatchOption (cond b (Some share) (lookup (nat_eq k) rest)) (GrowsOn (share_in stand k) growth (asleep_at old k) (asleep_at now k)) (λ s. (asleep_at now k ≡ asleep_at old k) × (share_in stand k ≡ Some s))
        before k b same = subst (λ (o : Option Share). MatchOption o (GrowsOn (share_in stand k) growth (asleep_at old k) (asleep_at now k)) (λ s. (asleep_at now k ≡ asleep_at old k) × (share_in stand k ≡ Some s)))
            (ap (lookup (nat_eq k)) is ∙ ap (λ (t : Bool). cond t (Some share) (lookup (nat_eq k) rest)) same) (so_far.each k)

        each : (k : ℕ) (b : Bool) → nat_eq k n ≡ b → MatchOption (lookup (nat_eq k) rest) (GrowsOn (share_in stand k) growth (asleep_at old k) (asleep_at new k)) (λ s. (asleep_at new k ≡ asleep_at old k) × (share_in stand k ≡ Some s))
        each k true same =
            let this : k ≡ n = grind (arith, same, nat_tests) in
            let had = before k true same in
            let gone = ap (λ (m : ℕ). lookup (nat_eq m) rest) this ∙ nowhere n rest parts.0 in
            let on = subst (λ (m : ℕ). SleepsOn share growth (asleep_at now m) (asleep_at new m)) (sym this) grows in
            subst (λ (o : Option Share). MatchOption o (GrowsOn (share_in stand k) growth (asleep_at old k) (asleep_at new k)) (λ s. (asleep_at new k ≡ asleep_at old k) × (share_in stand k ≡ Some s))) (sym gone)
            (subst (λ (o : Option Share). GrowsOn o growth (asleep_at old k) (asleep_at new k)) (sym had.1) (subst (λ (o : Option WaitState). SleepsOn share growth o (asleep_at new k)) had.0 on))
        each k false other =
            let same = asleep k (grind (arith, other, nat_tests)) in
            subst (λ (o : Option WaitState). MatchOption (lookup (nat_eq k) rest) (GrowsOn (share_in stand k) growth (asleep_at old k) o) (λ s. (o ≡ asleep_at old k) × (share_in stand k ≡ Some s))) (sym same) (before k false other)
