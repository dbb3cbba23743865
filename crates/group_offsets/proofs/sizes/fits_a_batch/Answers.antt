use Rattle.std.proofs.Common.{◌≡◌, ◌≤◌, ℕ, true, false, not, eqb, List, [], ◌∷◌, map, length, sym, ap, subst, ◌∙◌, true≢false, arith}
use Rattle.std.proofs.lemmas.Bool.{eqb-true}
use Rattle.std.proofs.lemmas.List.{length-map}
use Rattle.batch_codec.specs.declared.layout.TheConstants.{MAX_BATCH_BYTES}
use Rattle.batch_codec.specs.Grammar.{Writable}
use Rattle.group_offsets.specs.Batches.{forget_batch}
use Rattle.group_offsets.specs.Walks.{Borrowed}
use Rattle.group_offsets.proofs.BatchSizes.{few_fit, some_fit, none_fits}
use Rattle.group_offsets.proofs.sizes.fits_a_batch.Goals as goal

abbrev bytes_of : Borrowed → List ℕ
bytes_of key = key.now

some : (keys : List Borrowed) → false ≡ eqb (length keys) 0 → 1 ≤ length (map bytes_of keys)
some [] e = absurd (true≢false (sym e))
some (key ∷ keys) e = omega arith

none : (keys : List Borrowed) → true ≡ eqb (length keys) 0 → Writable (forget_batch (map bytes_of keys)) → ⊥
none [] e w = none_fits w
none (key ∷ keys) e w = omega (arith, eqb-true (length (key ∷ keys)) 0 (sym e))

pub returns-then-not-is_empty-clause-writable : goal.returns-then-not-is_empty-clause-writable
returns-then-not-is_empty-clause-writable c =
    let keys = map bytes_of c.args.keys.now in
    ((λ t. some_fit keys (some c.args.keys.now c.if-not-is_empty.ensures) (c.is_small.ensures.0 t)), λ w. c.is_small.ensures.1 w.size)

pub returns-then-not-is_empty-clause-few : goal.returns-then-not-is_empty-clause-few
returns-then-not-is_empty-clause-few c = λ t.
    subst (λ (n : ℕ). n ≤ MAX_BATCH_BYTES) (length-map c.args.keys.now bytes_of) (few_fit (map bytes_of c.args.keys.now) (c.is_small.ensures.0 t))

pub returns-else-not-is_empty-clause-writable : goal.returns-else-not-is_empty-clause-writable
returns-else-not-is_empty-clause-writable c =
    ((λ t. absurd (true≢false (sym t ∙ ap not c.if-not-is_empty.false))), λ w. absurd (none c.args.keys.now c.if-not-is_empty.ensures w))
