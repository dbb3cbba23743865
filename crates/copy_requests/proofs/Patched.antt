-- What becomes of a copy for which bytes come as a delta.
use Rattle.std.proofs.Common.{◌≡◌, ◌≢◌, ◌⊎◌, inl, inr, ℕ, Bool, true, false, List, [], ◌∷◌, Option, Some, None, Ok, Err, refl, sym, ap, subst, ◌∙◌}
use Rattle.std.specs.Prelude.{not, is_none}
use Rattle.std.specs.Option.{unwrap_or}
use Rattle.content.specs.Content.{Content, IsContent, empty}
use Rattle.deltas.specs.Deltas.{Delta, delta_of}
use Rattle.deltas.specs.Patches.{patch}
use Rattle.deltas.specs.Accepting.{is_for, IsFor, Accepts}
use Rattle.deltas.proofs.AskedRuns.{for_by_runs, no_unknown}
use Rattle.copy_images.specs.Reading.{IsBytes}
use Rattle.delta_bytes.specs.declared.error.RangesError.TheVariants as ranges
use Rattle.delta_bytes.specs.declared.error.EntriesError.TheVariants as entries
use Rattle.delta_bytes.specs.declared.error.BodyError.TheVariants.{InRanges, InEntries}
use Rattle.delta_bytes.specs.declared.error.FrontError.TheVariants as front
use Rattle.delta_bytes.specs.declared.error.DeltaError.{DeltaError}
use Rattle.delta_bytes.specs.declared.error.DeltaError.TheVariants.{InFront, InBody}
use Rattle.delta_bytes.specs.Deltas.{IsDeltaOf}
use Rattle.delta_bytes.specs.Fronts.{Refuses}
use Rattle.delta_bytes.specs.Reading.{delta_at}
use Rattle.delta_bytes.proofs.ReadBack.{delta_read, delta_is_read}
use Rattle.delta_bytes.proofs.DeltaAgain as bytes_of
use Rattle.copy_deltas.specs.declared.error.PatchError.{PatchError}
use Rattle.copy_deltas.specs.declared.error.PatchError.TheVariants.{Short, BadMark, BadVersion, BadCrc, BadCover, BadBatch, Outside, Extra, NotFor, Disagree, OutOfMemory}
use Rattle.copy_deltas.specs.Applying.{TakesDelta, RefusesDelta}
use Rattle.copy_deltas.specs.Deciding.{accepts}
use Rattle.copy_deltas.proofs.Decided.{acceptance_decided}
use Rattle.answering.specs.declared.codes.ErrorCode.{ErrorCode}
use Rattle.answering.specs.declared.codes.ErrorCode.TheVariants.{CorruptMessage, InvalidRequest}
use Rattle.answering.specs.declared.memory.Refused.{Refused}
use Rattle.answering.specs.declared.memory.Refused.TheVariants as refused
use Rattle.answering.specs.Lists.{first_some, fault_if}
use Rattle.answering.proofs.Checks.{not_true}
use Rattle.copy_requests.specs.Codes.{patch_code, patch_refused}
use Rattle.copy_requests.specs.ImportDelta.{given_delta, delta_faults}
use Rattle.copy_requests.specs.Outcomes.{Patches}

-- the three checks
abbrev faults : (none known accepted : Bool) → Option ErrorCode
faults none known accepted = first_some (
    fault_if none CorruptMessage ∷ fault_if (not known) InvalidRequest ∷ fault_if (not accepted) InvalidRequest ∷ [])

-- bytes in which a fault stands are read as nothing
pub read_as_none : (bytes : List ℕ) (f : DeltaError) → IsBytes bytes → Refuses bytes f → delta_at bytes ≡ None
read_as_none bytes f fits refused = by (delta_at bytes) refl
  where
    by : (o : Option Delta) → delta_at bytes ≡ o → o ≡ None
    by None h = refl
    by (Some e) h = absurd (bytes_of.no_fault bytes e f (delta_read bytes e fits h) refused)

both_pass : (known accepted : Bool) → faults false known accepted ≡ None → (known ≡ true) × (accepted ≡ true)
both_pass true true e = (refl, refl)
both_pass true false e = absurd cc
both_pass false accepted e = absurd cc

-- of all refusals only the lack of memory is no check's
only_memory : (P : Refused → Type 0) (e : PatchError) → e ≢ OutOfMemory → P (patch_refused e) → P (refused.Check (patch_code e))
only_memory P OutOfMemory other h = absurd (other refl)
only_memory P Short other h = h
only_memory P BadMark other h = h
only_memory P BadVersion other h = h
only_memory P BadCrc other h = h
only_memory P BadCover other h = h
only_memory P (BadBatch i) other h = h
only_memory P Outside other h = h
only_memory P Extra other h = h
only_memory P NotFor other h = h
only_memory P (Disagree base) other h = h

module _ (here : Content) (bytes : List ℕ) (is : IsContent here) (fits : IsBytes bytes) where
  abbrev judged : Option ErrorCode
  judged = first_some (delta_faults here bytes)

  no_delta : (f : DeltaError) → Refuses bytes f → judged ≡ Some CorruptMessage
  no_delta f refused = ap (λ o. faults (is_none o) (is_for here (given_delta bytes).asked) (accepts here (given_delta bytes))) (read_as_none bytes f fits refused)

  module _ (e : Delta) (read : IsDeltaOf bytes e) where
    there : delta_at bytes ≡ Some e
    there = delta_is_read bytes e read

    pub given : given_delta bytes ≡ e
    given = ap (λ o. unwrap_or o (delta_of empty [])) there

    -- of a delta the last two checks decide
    judged_by : judged ≡ faults false (is_for here e.asked) (accepts here e)
    judged_by i = faults (is_none (there i)) (is_for here (given i).asked) (accepts here (given i))

    known : IsFor here e.asked → is_for here e.asked ≡ true
    known h = (for_by_runs here e.asked is).1 h

    not_known : (IsFor here e.asked → ⊥) → judged ≡ Some InvalidRequest
    not_known none = judged_by ∙ ap (λ t. faults false t (accepts here e)) (not_true (is_for here e.asked) (λ t. none ((for_by_runs here e.asked is).0 t)))

    agrees : Accepts here e → accepts here e ≡ true
    agrees h = (acceptance_decided here e is read.valid).1 h

    disagrees : IsFor here e.asked → (Accepts here e → ⊥) → judged ≡ Some InvalidRequest
    disagrees is_known none =
        judged_by ∙ (λ i. faults false (known is_known i) (not_true (accepts here e) (λ t. none ((acceptance_decided here e is read.valid).0 t)) i))

  no_fault : (e : Delta) → TakesDelta here bytes e → judged ≡ None
  no_fault e takes = judged_by e takes.is_delta ∙ (λ i. faults false (known e takes.is_delta takes.known i) (agrees e takes.is_delta takes.accepted i))

  pub patches : (after : Content) (e : Delta) → TakesDelta here bytes e → after ≡ patch here e → Patches bytes (Ok tt) here after
  patches after e takes same = (no_fault e takes, same ∙ ap (patch here) (sym (given e takes.is_delta)))

  either_fault : (f g : DeltaError) → Refuses bytes f ⊎ Refuses bytes g → judged ≡ Some CorruptMessage
  either_fault f g (inl refused) = no_delta f refused
  either_fault f g (inr refused) = no_delta g refused

  -- what the checks find of bytes that are refused
  abbrev Finds : Refused → Type 0
  Finds (refused.Check code) = judged ≡ Some code
  Finds refused.OutOfMemory = judged ≡ None

  refusal : (e : PatchError) → RefusesDelta here bytes e → Finds (patch_refused e)
  refusal Short h = either_fault (InFront front.Short) (InBody (InRanges ranges.Short)) h
  refusal BadMark h = no_delta (InFront front.BadMark) h
  refusal BadVersion h = no_delta (InFront front.BadVersion) h
  refusal BadCrc h = no_delta (InFront front.BadCrc) h
  refusal BadCover h = either_fault (InFront front.BadStart) (InBody (InRanges ranges.BadCover)) h
  refusal (BadBatch i) h = no_delta (InBody (InEntries (entries.BadBatch i))) h
  refusal Outside h = no_delta (InBody (InEntries entries.Outside)) h
  refusal Extra h = no_delta (InBody (InEntries entries.Extra)) h
  refusal NotFor (e, read, unknown) = not_known e read (no_unknown here e.asked unknown)
  refusal (Disagree base) (e, read, is_known, least) = disagrees e read is_known (λ all. least.0 (all base))
  refusal OutOfMemory (e, takes) = no_fault e takes

  pub does_not_patch : (after : Content) (e : PatchError) (r : Refused) → RefusesDelta here bytes e → after ≡ here → r ≡ patch_refused e → Patches bytes (Err r) here after
  does_not_patch after e r refuses same is = subst (λ x. Patches bytes (Err x) here after) (sym is) (by (patch_refused e) (refusal e refuses))
    where
      by : (x : Refused) → Finds x → Patches bytes (Err x) here after
      by (refused.Check code) h = (h, same)
      by refused.OutOfMemory h = (h, same)

  -- ---- the law on the checks

  pub refused_fails : (e : PatchError) → e ≢ OutOfMemory → RefusesDelta here bytes e → judged ≡ Some (patch_code e)
  refused_fails e other refuses = only_memory Finds e other (refusal e refuses)

  pub takes_passes : (e : Delta) × TakesDelta here bytes e → judged ≡ None
  takes_passes (e, takes) = no_fault e takes

  pub passes_takes : judged ≡ None → (e : Delta) × TakesDelta here bytes e
  passes_takes none = by (delta_at bytes) refl none
    where
      by : (o : Option Delta) → delta_at bytes ≡ o
          → faults (is_none o) (is_for here (unwrap_or o (delta_of empty [])).asked) (accepts here (unwrap_or o (delta_of empty []))) ≡ None → (e : Delta) × TakesDelta here bytes e
      by None there e = absurd cc
      by (Some d) there e =
          let read : IsDeltaOf bytes d = delta_read bytes d fits there in
          let tests = both_pass (is_for here d.asked) (accepts here d) e in (
            d,
            record {
              is_delta = read;
              known = (for_by_runs here d.asked is).0 tests.0;
              accepted = (acceptance_decided here d is read.valid).0 tests.1;
            },
          )
