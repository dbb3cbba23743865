use Rattle.std.proofs.Common.{◌≡◌, ℕ, ◌+◌, ◌≤◌, List, [], ◌∷◌, ◌++◌, sym, ap, subst, ◌∙◌, arith}
use Rattle.std.specs.Prelude.{replicate}
use Rattle.std.proofs.lemmas.List.{replicate_more}
use Rattle.content.specs.Content.{Content, empty}
use Rattle.cluster.proofs.cluster.empty_copies.Goals as goal

one_more : (old new : List Content) (n : ℕ) (copy : Content) → old ≡ replicate n empty → copy ≡ empty → new ≡ old ++ copy ∷ [] → new ≡ replicate (n + 1) empty
one_more old new n copy so_far is grows = grows ∙ (λ i. so_far i ++ is i ∷ []) ∙ replicate_more n empty

all_made : (copies : List Content) (n count : ℕ) → copies ≡ replicate n empty → n ≤ count → count ≤ n → copies ≡ replicate count empty
all_made copies n count so_far most least = let same : n ≡ count = omega (arith, most, least) in so_far ∙ ap (λ (m : ℕ). replicate m empty) same

pub loop-init : goal.loop-init
loop-init g c = (c.in_ok-copies.ensures.items, c.in_ok-copies.ensures.len, c.in_ok-copies.ensures.capacity)

pub loop-preserved : goal.loop-preserved
loop-preserved g c = (
  one_more c.loop.copies.items c.push_reserved.new.self.items c.loop.counter c.new.result c.loop.invariant.0 c.new.ensures.is_empty c.push_reserved.ensures.items,
  c.push_reserved.ensures.len ∙ ap (λ (n : ℕ). n + 1) c.loop.invariant.1,
  subst (λ (n : ℕ). c.args.count ≤ n) (sym c.push_reserved.ensures.capacity) c.loop.invariant.2,
)

pub returns : goal.returns
returns g c = all_made c.loop.copies.items c.loop.counter c.args.count c.loop.invariant.0 c.loop.auto.counter-end c.loop-test.false
