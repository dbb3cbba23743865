-- How many batches fit, where all of them have fewer bytes than a limit.
use Rattle.std.proofs.Common.{◌≡◌, ℕ, zero, suc, ◌-◌, ◌<◌, ◌≤◌, arith, min, Bool, true, false, List, [], ◌∷◌, length, take, sym, ap, refl, ◌∙◌}
use Rattle.std.specs.Prelude.{nat_le}
use Rattle.batch_codec.specs.Values.{BatchValue}
use Rattle.partition_log.specs.Lookups.{size_of, fitting, fetched}
use Rattle.log_requests.proofs.FetchRuns.{bytes_of, bytes_more}

pub all_fit : (limit : ℕ) (bs : List BatchValue) → bytes_of bs ≤ limit → fitting limit bs ≡ length bs
unfolding fitting
all_fit limit [] fits = refl
all_fit limit (b ∷ bs) fits =
    let sum = bytes_more b bs in
    grind (arith, sum, fits, all_fit (limit - size_of b) bs (omega (arith, sum, fits)))

pub all_fetched : (force : Bool) (limit : ℕ) (bs : List BatchValue) → bytes_of bs ≤ limit → fetched force limit bs ≡ length bs
all_fetched force limit [] fits = refl
all_fetched true limit (b ∷ bs) fits = omega (arith, all_fit limit (b ∷ bs) fits)
all_fetched false limit (b ∷ bs) fits = all_fit limit (b ∷ bs) fits

-- A limit above all that is there may be any.
pub same_fetched : (force : Bool) (most low high : ℕ) (bs : List BatchValue) → bytes_of bs < low → low ≤ high → fetched force (min most low) bs ≡ fetched force (min most high) bs
same_fetched force most low high bs below above = by (nat_le most low) refl where
  by : (t : Bool) → nat_le most low ≡ t → fetched force (min most low) bs ≡ fetched force (min most high) bs
  by true within =
      let same : min most low ≡ min most high = grind (arith, within, above) in
      ap (λ (n : ℕ). fetched force n bs) same
  by false outside =
      let least : bytes_of bs ≤ min most low = grind (arith, outside, below) in
      let less : bytes_of bs ≤ min most high = grind (arith, outside, below, above) in
      all_fetched force (min most low) bs least ∙ sym (all_fetched force (min most high) bs less)

-- a front of some batches has no more bytes than all
pub front_bytes : (n : ℕ) (bs : List BatchValue) → bytes_of (take n bs) ≤ bytes_of bs
front_bytes zero bs = omega arith
front_bytes (suc n) [] = omega arith
front_bytes (suc n) (b ∷ bs) = omega (arith, bytes_more b (take n bs), bytes_more b bs, front_bytes n bs)
