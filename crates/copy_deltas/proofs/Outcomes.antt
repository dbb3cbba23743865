-- What comes of bytes that a copy is to take as a delta: at most one refusal but for memory, and none where it may take
-- them; and one of the two, as the check finds.
use Rattle.std.proofs.Common.{◌≡◌, ℕ, ℤ, ◌⊎◌, inl, inr, List, refl, sym, ap, subst, ◌∙◌, arith}
use Rattle.std.specs.Prelude.{◌≢◌, Result, Ok, Err, OnOk, IfErr}
use Rattle.std.proofs.lemmas.Int.{ints, by_lt_z}
use Rattle.content.specs.Content.{Content}
use Rattle.deltas.specs.Deltas.{Delta}
use Rattle.deltas.specs.Accepting.{IsFor, HasUnknown, Accepts, IsFirstFault}
use Rattle.deltas.proofs.AskedRuns.{no_unknown}
use Rattle.delta_bytes.specs.declared.error.RangesError.TheVariants as ranges
use Rattle.delta_bytes.specs.declared.error.EntriesError.TheVariants as entries
use Rattle.delta_bytes.specs.declared.error.BodyError.TheVariants.{InRanges, InEntries}
use Rattle.delta_bytes.specs.declared.error.FrontError.TheVariants as front
use Rattle.delta_bytes.specs.declared.error.DeltaError.{DeltaError}
use Rattle.delta_bytes.specs.declared.error.DeltaError.TheVariants.{InFront, InBody}
use Rattle.delta_bytes.specs.Deltas.{IsDeltaOf}
use Rattle.delta_bytes.specs.Fronts.{Refuses}
use Rattle.delta_bytes.proofs.DeltaAgain.{delta_once, one_refusal, no_fault}
use Rattle.copy_deltas.specs.declared.error.PatchError.{PatchError}
use Rattle.copy_deltas.specs.declared.error.PatchError.TheVariants.{Short, BadMark, BadVersion, BadCrc, BadCover, BadBatch, Outside, Extra, NotFor, Disagree, OutOfMemory}
use Rattle.copy_deltas.specs.Applying.{TakesDelta, RefusesDelta}
use Rattle.copy_deltas.specs.Outcomes.{IsOutcome}

-- the error by which a fault of the bytes is told
abbrev error_of : DeltaError → PatchError
error_of (InFront front.Short) = Short
error_of (InFront front.BadMark) = BadMark
error_of (InFront front.BadVersion) = BadVersion
error_of (InFront front.BadCrc) = BadCrc
error_of (InFront front.BadStart) = BadCover
error_of (InBody (InRanges ranges.Short)) = Short
error_of (InBody (InRanges ranges.BadCover)) = BadCover
error_of (InBody (InEntries (entries.BadBatch i))) = BadBatch i
error_of (InBody (InEntries entries.Outside)) = Outside
error_of (InBody (InEntries entries.Extra)) = Extra

-- the bytes have a fault
record HasFault (bytes : List ℕ) (e : PatchError) : Type 0 where
  pub fault : DeltaError
  pub refused : Refuses bytes fault
  pub told : e ≡ error_of fault

-- they are a delta, and not all that was asked is known; or all is, and this is the least base at fault
record NotKnown (c : Content) (bytes : List ℕ) (e : PatchError) : Type 0 where
  pub delta : Delta
  pub is_delta : IsDeltaOf bytes delta
  pub unknown : HasUnknown c delta.asked
  pub told : e ≡ NotFor

record NotAccepted (c : Content) (bytes : List ℕ) (e : PatchError) : Type 0 where
  pub delta : Delta
  pub is_delta : IsDeltaOf bytes delta
  pub known : IsFor c delta.asked
  pub base : ℤ
  pub at_fault : IsFirstFault c delta base
  pub told : e ≡ Disagree base

abbrev Refusal : Content → List ℕ → PatchError → Type 0
Refusal c bytes e = HasFault bytes e ⊎ (NotKnown c bytes e ⊎ NotAccepted c bytes e)

fault_is : (bytes : List ℕ) (e : PatchError) (f : DeltaError) → Refuses bytes f → e ≡ error_of f → HasFault bytes e
fault_is bytes e f refused told = record { fault = f; refused = refused; told = told }

refusal_is : (c : Content) (bytes : List ℕ) (e : PatchError) → e ≢ OutOfMemory → RefusesDelta c bytes e → Refusal c bytes e
refusal_is c bytes Short other (inl r) = inl (fault_is bytes Short (InFront front.Short) r refl)
refusal_is c bytes Short other (inr r) = inl (fault_is bytes Short (InBody (InRanges ranges.Short)) r refl)
refusal_is c bytes BadMark other r = inl (fault_is bytes BadMark (InFront front.BadMark) r refl)
refusal_is c bytes BadVersion other r = inl (fault_is bytes BadVersion (InFront front.BadVersion) r refl)
refusal_is c bytes BadCrc other r = inl (fault_is bytes BadCrc (InFront front.BadCrc) r refl)
refusal_is c bytes BadCover other (inl r) = inl (fault_is bytes BadCover (InFront front.BadStart) r refl)
refusal_is c bytes BadCover other (inr r) = inl (fault_is bytes BadCover (InBody (InRanges ranges.BadCover)) r refl)
refusal_is c bytes (BadBatch i) other r = inl (fault_is bytes (BadBatch i) (InBody (InEntries (entries.BadBatch i))) r refl)
refusal_is c bytes Outside other r = inl (fault_is bytes Outside (InBody (InEntries entries.Outside)) r refl)
refusal_is c bytes Extra other r = inl (fault_is bytes Extra (InBody (InEntries entries.Extra)) r refl)
refusal_is c bytes NotFor other r = inr (inl (record { delta = r.0; is_delta = r.1; unknown = r.2; told = refl }))
refusal_is c bytes (Disagree base) other r = inr (inr (record { delta = r.0; is_delta = r.1; known = r.2; base = base; at_fault = r.3; told = refl }))
refusal_is c bytes OutOfMemory other r = absurd (other refl)

-- ---- at most one

pub first_fault_one : (c : Content) (e : Delta) (i j : ℤ) → IsFirstFault c e i → IsFirstFault c e j → i ≡ j
first_fault_one c e i j at other = by_lt_z i j (λ less. absurd (at.0 (other.1 i less))) (λ le. by_lt_z j i (λ less. absurd (other.0 (at.1 j less))) (λ ge. omega (arith, ints, le, ge)))

same_delta : (bytes : List ℕ) (d e : Delta) → IsDeltaOf bytes d → IsDeltaOf bytes e → d ≡ e
same_delta bytes d e is_d is_e = delta_once bytes d e is_d is_e

pub one_refused : (c : Content) (bytes : List ℕ) (e f : PatchError) → e ≢ OutOfMemory → f ≢ OutOfMemory → RefusesDelta c bytes e → RefusesDelta c bytes f → e ≡ f
one_refused c bytes e f other_e other_f refuses_e refuses_f = by (refusal_is c bytes e other_e refuses_e) (refusal_is c bytes f other_f refuses_f)
  where
    by : Refusal c bytes e → Refusal c bytes f → e ≡ f
    by (inl a) (inl b) = a.told ∙ ap error_of (one_refusal bytes a.fault b.fault a.refused b.refused) ∙ sym b.told
    by (inl a) (inr (inl b)) = absurd (no_fault bytes b.delta a.fault b.is_delta a.refused)
    by (inl a) (inr (inr b)) = absurd (no_fault bytes b.delta a.fault b.is_delta a.refused)
    by (inr (inl a)) (inl b) = absurd (no_fault bytes a.delta b.fault a.is_delta b.refused)
    by (inr (inr a)) (inl b) = absurd (no_fault bytes a.delta b.fault a.is_delta b.refused)
    by (inr (inl a)) (inr (inl b)) = a.told ∙ sym b.told
    by (inr (inl a)) (inr (inr b)) = absurd (no_unknown c a.delta.asked a.unknown (subst (λ (d : Delta). IsFor c d.asked) (same_delta bytes b.delta a.delta b.is_delta a.is_delta) b.known))
    by (inr (inr a)) (inr (inl b)) = absurd (no_unknown c b.delta.asked b.unknown (subst (λ (d : Delta). IsFor c d.asked) (same_delta bytes a.delta b.delta a.is_delta b.is_delta) a.known))
    by (inr (inr a)) (inr (inr b)) =
        a.told
        ∙ ap (λ (k : ℤ). Disagree k) (first_fault_one c b.delta a.base b.base (subst (λ (d : Delta). IsFirstFault c d a.base) (same_delta bytes a.delta b.delta a.is_delta b.is_delta) a.at_fault) b.at_fault)
        ∙ sym b.told

pub not_refused : (c : Content) (bytes : List ℕ) (d : Delta) (e : PatchError) → e ≢ OutOfMemory → TakesDelta c bytes d → RefusesDelta c bytes e → ⊥
not_refused c bytes d e other takes refuses = by (refusal_is c bytes e other refuses)
  where
    by : Refusal c bytes e → ⊥
    by (inl a) = no_fault bytes d a.fault takes.is_delta a.refused
    by (inr (inl a)) = no_unknown c a.delta.asked a.unknown (subst (λ (x : Delta). IsFor c x.asked) (same_delta bytes d a.delta takes.is_delta a.is_delta) takes.known)
    by (inr (inr a)) = a.at_fault.0 (subst (Accepts c) (same_delta bytes d a.delta takes.is_delta a.is_delta) takes.accepted a.base)

pub one_taken : (c : Content) (bytes : List ℕ) (d e : Delta) → TakesDelta c bytes d → TakesDelta c bytes e → d ≡ e
one_taken c bytes d e takes_d takes_e = delta_once bytes d e takes_d.is_delta takes_e.is_delta

-- what may be taken is refused only for lack of memory
pub only_memory : (c : Content) (bytes : List ℕ) (d : Delta) (e : PatchError) → TakesDelta c bytes d → RefusesDelta c bytes e → e ≡ OutOfMemory
only_memory c bytes d OutOfMemory takes refuses = refl
only_memory c bytes d Short takes refuses = absurd (not_refused c bytes d Short (λ f. absurd cc) takes refuses)
only_memory c bytes d BadMark takes refuses = absurd (not_refused c bytes d BadMark (λ f. absurd cc) takes refuses)
only_memory c bytes d BadVersion takes refuses = absurd (not_refused c bytes d BadVersion (λ f. absurd cc) takes refuses)
only_memory c bytes d BadCrc takes refuses = absurd (not_refused c bytes d BadCrc (λ f. absurd cc) takes refuses)
only_memory c bytes d BadCover takes refuses = absurd (not_refused c bytes d BadCover (λ f. absurd cc) takes refuses)
only_memory c bytes d (BadBatch i) takes refuses = absurd (not_refused c bytes d (BadBatch i) (λ f. absurd cc) takes refuses)
only_memory c bytes d Outside takes refuses = absurd (not_refused c bytes d Outside (λ f. absurd cc) takes refuses)
only_memory c bytes d Extra takes refuses = absurd (not_refused c bytes d Extra (λ f. absurd cc) takes refuses)
only_memory c bytes d NotFor takes refuses = absurd (not_refused c bytes d NotFor (λ f. absurd cc) takes refuses)
only_memory c bytes d (Disagree base) takes refuses = absurd (not_refused c bytes d (Disagree base) (λ f. absurd cc) takes refuses)

-- ---- exactly one

pub one_outcome : (c : Content) (bytes : List ℕ) (a b : Result Delta PatchError) → IsOutcome c bytes a → IsOutcome c bytes b → a ≡ b
one_outcome c bytes (Ok d) (Ok e) takes also = let same : d ≡ e = one_taken c bytes d e takes also in (λ i. Ok (same i))
one_outcome c bytes (Ok d) (Err e) takes refuses = absurd (not_refused c bytes d e refuses.0 takes refuses.1)
one_outcome c bytes (Err e) (Ok d) refuses takes = absurd (not_refused c bytes d e refuses.0 takes refuses.1)
one_outcome c bytes (Err e) (Err f) refuses also = let same : e ≡ f = one_refused c bytes e f refuses.0 also.0 refuses.1 also.1 in (λ i. Err (same i))

pub some_outcome : {T : Type 0} (c : Content) (bytes : List ℕ) (r : Result T PatchError) → OnOk r ((e : Delta) × TakesDelta c bytes e) → IfErr r (RefusesDelta c bytes) → IfErr r (λ e. e ≢ OutOfMemory)
    → (a : Result Delta PatchError) × IsOutcome c bytes a
some_outcome c bytes (Ok v) takes refuses other = (Ok takes.0, takes.1)
some_outcome c bytes (Err e) takes refuses other = (Err e, (other, refuses))
