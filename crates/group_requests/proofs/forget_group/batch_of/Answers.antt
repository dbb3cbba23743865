use Rattle.std.proofs.Common.{◌≡◌, ◌≤◌, true, length, refl, sym, subst, rules}
use Rattle.std.specs.Prelude.{map}
use Rattle.batch_codec.specs.Grammar.{Writable}
use Rattle.group_requests.proofs.ForgottenKeys.{too_large, as_many, as_few}
use Rattle.group_requests.proofs.forget_group.batch_of.Goals as goal

pub returns-then-not-fits_a_batch : goal.returns-then-not-fits_a_batch
returns-then-not-fits_a_batch g c =
    let keys = map (λ key. key.now) c.args.keys.now in
    let some : 1 ≤ length c.args.keys.now = search rules in
    (as_many (λ key. key.now) c.args.keys.now some, too_large keys (as_many (λ key. key.now) c.args.keys.now some) (λ w. let is : c.fits_a_batch.result ≡ true = c.fits_a_batch.ensures.writable.1 w in absurd cc), refl)

pub returns-in-Ok : goal.returns-in-Ok
returns-in-Ok g c =
    let is : c.fits_a_batch.result ≡ true = search rules in (
      as_many (λ key. key.now) c.args.keys.now (c.fits_a_batch.ensures.some is),
      as_few (λ key. key.now) c.args.keys.now (c.fits_a_batch.ensures.few is),
      c.in-Ok.ensures.forgets,
      subst Writable (sym c.in-Ok.ensures.forgets) (c.fits_a_batch.ensures.writable.0 is),
    )
