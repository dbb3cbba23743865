-- How long a Fetch waits that does.
use Rattle.std.proofs.Common.{◌≡◌, ℕ, ◌<◌, ℤ, pos, negsuc, arith, Bool, true, false, sym, refl}
use Rattle.std.specs.Prelude.{◌&&◌, int_lt, nat_abs}
use Rattle.std.specs.Int.{int_gap}
use Rattle.std.proofs.lemmas.Bool.{true≢false}
use Rattle.request_frames.specs.Fetch.{FetchValue}
use Rattle.broker_state.specs.State.{State}
use Rattle.fetch_waits.specs.Waiting.{fetch_waits, wait_of}

left_true : (a b : Bool) → (a && b) ≡ true → a ≡ true
left_true true b is = refl
left_true false b is = is

gives_time : (s : State) (q : FetchValue) → fetch_waits s q ≡ true → int_lt (pos 0) q.max_wait_ms ≡ true
unfolding fetch_waits
gives_time s q is = left_true (int_lt (pos 0) q.max_wait_ms) _ is

pub waits_most : (s : State) (q : FetchValue) (most : ℕ) → fetch_waits s q ≡ true → most ≡ nat_abs q.max_wait_ms → (0 < most) × (most ≡ wait_of q)
waits_most s q most is counts = by q.max_wait_ms (gives_time s q is) counts where
  by : (x : ℤ) → int_lt (pos 0) x ≡ true → most ≡ nat_abs x → (0 < most) × (most ≡ int_gap (pos 0) x)
  by (pos n) some counts = (grind (arith, some, counts), omega (arith, counts))
  by (negsuc n) some counts = absurd (true≢false (sym some))
