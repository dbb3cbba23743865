-- What an image that comes is read as, and what becomes of the copy.
use Rattle.std.proofs.Common.{◌≡◌, ℕ, ℤ, negsuc, ◌+ℤ◌, true, List, Option, Some, None, Ok, Err, refl, sym, ap, subst, arith}
use Rattle.std.specs.Prelude.{not}
use Rattle.std.proofs.lemmas.Int.{ints}
use Rattle.cover_ranges.proofs.RunEnds.{has_all_covers, covers_has_all}
use Rattle.content.specs.Content.{Content, IsContent, end}
use Rattle.content.specs.Joins.{Agree, join}
use Rattle.partition_log.specs.Appends.{IsGapless}
use Rattle.copy_images.specs.declared.error.ImageError.{ImageError}
use Rattle.copy_images.specs.declared.error.ImageError.TheVariants.{Short, BadMark, BadVersion, BadCrc, BadCover, BadBatch, Outside, Extra, OutOfMemory}
use Rattle.copy_images.specs.Images.{IsImage}
use Rattle.copy_images.specs.Refusals.{Refuses}
use Rattle.copy_images.specs.Reading.{IsBytes, image_at}
use Rattle.copy_images.proofs.ReadBack.{image_read, image_is_read}
use Rattle.copy_images.proofs.FirstFaults.{not_refused}
use Rattle.copy_deltas.specs.Below.{agree}
use Rattle.copy_deltas.specs.Below.{IsFirstDisagreement}
use Rattle.copy_deltas.proofs.Below.{decided}
use Rattle.answering.specs.declared.codes.ErrorCode.TheVariants.{InvalidRequest}
use Rattle.answering.specs.declared.memory.Refused.{Refused}
use Rattle.answering.specs.declared.memory.Refused.TheVariants as refused
use Rattle.broker_state.specs.declared.config.Role.TheVariants.{Leader, Follower}
use Rattle.copy_requests.specs.Codes.{image_refused}
use Rattle.copy_requests.specs.Import.{is_gapless, import_fault}
use Rattle.copy_requests.specs.Import.Images.{IsReadAs}
use Rattle.copy_requests.specs.Outcomes.{Imports}
use Rattle.answering.proofs.Checks.{no_fault, has_fault, not_true}

-- ---- the image

pub read_as : (bytes : List ℕ) (c : Content) → IsImage bytes c → image_at bytes ≡ Some c
read_as bytes c is = image_is_read bytes c is

pub read_without_memory : (bytes : List ℕ) → Refuses bytes OutOfMemory → (c : Content) × (image_at bytes ≡ Some c)
read_without_memory bytes (c, is) = (c, image_is_read bytes c is)

pub read_as_none : (bytes : List ℕ) (e : ImageError) → IsBytes bytes → Refuses bytes e → (e ≡ OutOfMemory → ⊥) → image_at bytes ≡ None
read_as_none bytes e fits refused other = by (image_at bytes) refl
  where
    by : (o : Option Content) → image_at bytes ≡ o → o ≡ None
    by None h = refl
    by (Some c) h = absurd (other (not_refused bytes c e (image_read bytes c fits h) refused))

-- a refusal says that the bytes are no image, or that memory lacks for one
fails : (bytes : List ℕ) (e : ImageError) → IsBytes bytes → Refuses bytes e → IsReadAs bytes (Err (image_refused e))
fails bytes OutOfMemory fits refuses = read_without_memory bytes refuses
fails bytes Short fits refuses = (read_as_none bytes Short fits refuses (λ same. absurd cc), refl)
fails bytes BadMark fits refuses = (read_as_none bytes BadMark fits refuses (λ same. absurd cc), refl)
fails bytes BadVersion fits refuses = (read_as_none bytes BadVersion fits refuses (λ same. absurd cc), refl)
fails bytes BadCrc fits refuses = (read_as_none bytes BadCrc fits refuses (λ same. absurd cc), refl)
fails bytes BadCover fits refuses = (read_as_none bytes BadCover fits refuses (λ same. absurd cc), refl)
fails bytes (BadBatch i) fits refuses = (read_as_none bytes (BadBatch i) fits refuses (λ same. absurd cc), refl)
fails bytes Outside fits refuses = (read_as_none bytes Outside fits refuses (λ same. absurd cc), refl)
fails bytes Extra fits refuses = (read_as_none bytes Extra fits refuses (λ same. absurd cc), refl)

pub read_fails : (bytes : List ℕ) (e : ImageError) (refused : Refused) → IsBytes bytes → Refuses bytes e → refused ≡ image_refused e → IsReadAs bytes (Err refused)
read_fails bytes e refused fits refuses is = subst (λ r. IsReadAs bytes (Err r)) (sym is) (fails bytes e fits refuses)

-- ---- a leader's log

pub gapless : (c : Content) → IsContent c → IsGapless c → is_gapless c ≡ true
gapless c is no_gap = covers_has_all c.cover c.start (end c +ℤ negsuc 0) is.canonical (λ o from to. no_gap o from (omega (arith, ints, to)))

pub gapless_back : (c : Content) → is_gapless c ≡ true → IsGapless c
gapless_back c e o from to = has_all_covers c.cover c.start (end c +ℤ negsuc 0) e o from (omega (arith, ints, to))

pub leads : (here given after : Content) → IsContent given → after ≡ given → IsGapless given → Imports Leader given (Ok tt) here after
leads here given after is same no_gap =
    (no_fault (not (is_gapless given)) InvalidRequest (ap not (gapless given is no_gap)), same)

pub does_not_lead : (here given : Content) → ¬ IsGapless given → Imports Leader given (Err (refused.Check InvalidRequest)) here here
does_not_lead here given gap =
    (has_fault (not (is_gapless given)) InvalidRequest (ap not (not_true (is_gapless given) (λ e. gap (gapless_back given e)))), refl)

-- ---- a copy that follows

module _ (here given : Content) (is : IsContent here) (is_given : IsContent given) where
  agreed : Agree here given → import_fault Follower here given ≡ None
  agreed h = no_fault (not (agree here given)) InvalidRequest (ap not ((decided here given is is_given).1 h))

  pub merges : (after : Content) → after ≡ join here given → Agree here given → Imports Follower given (Ok tt) here after
  merges after same h = (agreed h, same)

  pub merges_without_memory : (after : Content) → Agree here given → after ≡ here → Imports Follower given (Err refused.OutOfMemory) here after
  merges_without_memory after h same = (agreed h, same)

  pub disagrees : (after : Content) (base : ℤ) → IsFirstDisagreement here given base → after ≡ here → Imports Follower given (Err (refused.Check InvalidRequest)) here after
  disagrees after base least same = (
    has_fault (not (agree here given)) InvalidRequest (ap not (not_true (agree here given) (λ e. least.0 ((decided here given is is_given).0 e base)))),
    same,
  )
