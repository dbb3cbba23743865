-- A delta taken into a copy, by its parts.
use Rattle.std.proofs.Common.{◌≡◌, ℕ, ℤ, List, refl, subst}
use Rattle.content.specs.Content.{Content}
use Rattle.copy_images.specs.Judging.{ranges_of}
use Rattle.deltas.specs.Deltas.{Delta}
use Rattle.deltas.specs.Accepting.{IsFor, HasUnknown, Accepts, IsFirstFault}
use Rattle.delta_bytes.specs.declared.delta.DeltaBytes.{DeltaBytes}
use Rattle.delta_bytes.specs.Deltas.{delta_with, IsDeltaAt}
use Rattle.copy_deltas.specs.declared.error.PatchError.{PatchError}
use Rattle.copy_deltas.specs.declared.error.PatchError.TheVariants.{Short, BadMark, BadVersion, BadCrc, BadCover, BadBatch, Outside, Extra, NotFor, Disagree, OutOfMemory}
use Rattle.copy_deltas.specs.Applying.{TakesDelta, BytesFault, RefusesDelta}
use Rattle.copy_deltas.specs.DeltaParts.{AreParts}

-- ---- what is judged

abbrev AreOf : List ℕ → DeltaBytes → Type 0
AreOf bytes parts = IsDeltaAt bytes parts.start (ranges_of parts.ranges.now) (ranges_of parts.asked.now) parts.entries.now

abbrev delta_in : (bytes : List ℕ) (parts : DeltaBytes) → AreOf bytes parts → Delta
delta_in bytes parts at = delta_with parts.start (ranges_of parts.ranges.now) (ranges_of parts.asked.now) at.entries

are_parts : (bytes : List ℕ) (parts : DeltaBytes) (at : AreOf bytes parts) → AreParts parts (delta_in bytes parts at)
are_parts bytes parts at = record { valid = at.delta.valid; start_is = refl; cover_is = refl; asked_is = refl; entries_are = at.entries_are }

pub known_parts : (bytes : List ℕ) (parts : DeltaBytes) → AreOf bytes parts → (e : Delta) × AreParts parts e
known_parts bytes parts at = (delta_in bytes parts at, are_parts bytes parts at)

pub taken_parts : (c : Content) (bytes : List ℕ) (parts : DeltaBytes) → AreOf bytes parts → IsFor c (ranges_of parts.asked.now) → ((e : Delta) → AreParts parts e → Accepts c e)
    → (e : Delta) × TakesDelta c bytes e × AreParts parts e
taken_parts c bytes parts at known accepts =
    let are = are_parts bytes parts at in
    (delta_in bytes parts at, record { is_delta = at.delta; known = known; accepted = accepts (delta_in bytes parts at) are }, are)

pub not_known : (c : Content) (bytes : List ℕ) (parts : DeltaBytes) → AreOf bytes parts → HasUnknown c (ranges_of parts.asked.now) → RefusesDelta c bytes NotFor
not_known c bytes parts at unknown = (delta_in bytes parts at, at.delta, unknown)

pub not_accepted : (c : Content) (bytes : List ℕ) (parts : DeltaBytes) (base : ℤ) → AreOf bytes parts → IsFor c (ranges_of parts.asked.now) → ((e : Delta) → AreParts parts e → IsFirstFault c e base) → RefusesDelta c bytes (Disagree base)
not_accepted c bytes parts base at known refuses = (delta_in bytes parts at, at.delta, known, refuses (delta_in bytes parts at) (are_parts bytes parts at))

pub fault_other : (bytes : List ℕ) (e : PatchError) → BytesFault bytes e → e ≡ OutOfMemory → ⊥
fault_other bytes e fault same = subst (BytesFault bytes) same fault

pub fault_refused : (c : Content) (bytes : List ℕ) (e : PatchError) → BytesFault bytes e → RefusesDelta c bytes e
fault_refused c bytes Short fault = fault
fault_refused c bytes BadMark fault = fault
fault_refused c bytes BadVersion fault = fault
fault_refused c bytes BadCrc fault = fault
fault_refused c bytes BadCover fault = fault
fault_refused c bytes (BadBatch i) fault = fault
fault_refused c bytes Outside fault = fault
fault_refused c bytes Extra fault = fault
fault_refused c bytes NotFor fault = absurd fault
fault_refused c bytes (Disagree base) fault = absurd fault
fault_refused c bytes OutOfMemory fault = absurd fault
