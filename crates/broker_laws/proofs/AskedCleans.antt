-- The Clean that a request is, in either version.
use Rattle.std.proofs.Common.{◌≡◌, Option, Some, None, refl, sym, subst, arith}
use Rattle.request_frames.specs.Requests.BodyValue.{clean, clean_part}
use Rattle.request_frames.specs.Requests.{BodyValue}
use Rattle.request_frames.specs.Clean.{CleanValue}
use Rattle.request_frames.specs.CleanPart.{CleanPartValue}

abbrev pub asked_clean : BodyValue → Option CleanValue
asked_clean (clean q) = Some q
asked_clean _ = None

asks_clean : (body : BodyValue) (q : CleanValue) → asked_clean body ≡ Some q → body ≡ clean q
asks_clean body q one = grind (arith, one)

abbrev pub asked_part : BodyValue → Option CleanPartValue
asked_part (clean_part q) = Some q
asked_part _ = None

asks_part : (body : BodyValue) (q : CleanPartValue) → asked_part body ≡ Some q → body ≡ clean_part q
asks_part body q one = grind (arith, one)

-- what holds of each Clean, in either version, holds of a request that is one
pub of_clean : (P : BodyValue → Type 0) → ((q : CleanValue) → P (clean q)) → ((q : CleanPartValue) → P (clean_part q))
    → (body : BodyValue) → (asked_clean body ≡ None → asked_part body ≡ None → ⊥) → P body
of_clean P whole part body some = by (asked_clean body) (asked_part body) refl refl
  where
    by : (o : Option CleanValue) (u : Option CleanPartValue) → asked_clean body ≡ o → asked_part body ≡ u → P body
    by (Some q) u e f = subst P (sym (asks_clean body q e)) (whole q)
    by None (Some q) e f = subst P (sym (asks_part body q f)) (part q)
    by None None e f = absurd (some e f)
