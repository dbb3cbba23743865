-- Half of a zigzag number, as a signed number and below zero.
use Rattle.std.specs.Prelude.{ℤ, pos, negsuc}
use Rattle.std.proofs.Common.{◌≡◌, ℕ, ◌/◌, ◌%◌, ◌^◌, ◌<◌, ◌-ℤ◌, Bool, cond, w64, to_z, of_z, sym, ap, subst, ◌∙◌, arith}
use Rattle.std.proofs.lemmas.Bool.{eq-eqb, ne_eqb}
use Rattle.std.proofs.lemmas.Int.{to_z-of_z, ints}
use mir.Val.{SFits}
use Rattle.varint.specs.Reading.{unzigzag}

module _ (code : ℕ) (fits : code < 2 ^ 64) where
  pub half_fits : SFits w64 (pos (code / 2))
  half_fits = omega (arith, ints)

  half_is : to_z w64 (code / 2) ≡ pos (code / 2)
  half_is = to_z-of_z w64 (pos (code / 2)) half_fits

  pub minus_fits : SFits w64 (pos 0 -ℤ to_z w64 (code / 2))
  minus_fits = subst (λ (z : ℤ). SFits w64 (pos 0 -ℤ z)) (sym half_is) (omega (arith, ints))

  minus_is : to_z w64 (of_z w64 (pos 0 -ℤ to_z w64 (code / 2))) ≡ pos 0 -ℤ pos (code / 2)
  minus_is = to_z-of_z w64 (pos 0 -ℤ to_z w64 (code / 2)) minus_fits ∙ ap (λ (z : ℤ). pos 0 -ℤ z) half_is

  pub next_fits : SFits w64 (to_z w64 (of_z w64 (pos 0 -ℤ to_z w64 (code / 2))) -ℤ pos 1)
  next_fits = subst (λ (z : ℤ). SFits w64 (z -ℤ pos 1)) (sym minus_is) (omega (arith, ints))

  pub even_is : code % 2 ≡ 0 → to_z w64 (code / 2) ≡ unzigzag code
  even_is even = half_is ∙ sym (ap (λ (b : Bool). cond b (pos (code / 2)) (negsuc (code / 2))) (eq-eqb (code % 2) 0 even))

  pub odd_is : (code % 2 ≡ 0 → ⊥) → to_z w64 (of_z w64 (to_z w64 (of_z w64 (pos 0 -ℤ to_z w64 (code / 2))) -ℤ pos 1)) ≡ unzigzag code
  odd_is odd =
      let below : (pos 0 -ℤ pos (code / 2)) -ℤ pos 1 ≡ negsuc (code / 2) = omega (arith, ints) in
      to_z-of_z w64 (to_z w64 (of_z w64 (pos 0 -ℤ to_z w64 (code / 2))) -ℤ pos 1) next_fits ∙ ap (λ (z : ℤ). z -ℤ pos 1) minus_is ∙ below
      ∙ sym (ap (λ (b : Bool). cond b (pos (code / 2)) (negsuc (code / 2))) (ne_eqb (code % 2) 0 odd))
