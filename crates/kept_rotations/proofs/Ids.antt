-- Which snapshot it is, and what stood before a journal.
use Rattle.std.proofs.Common.{◌≡◌, ℕ, ℤ, List, FitsSigned, w64, to_z, of_z, ◌∙◌}
use Rattle.std.specs.Int.{cast_signed, from_be_bytes}
use Rattle.std.proofs.lemmas.Int.{to_z-of_z}
use Rattle.snapshots.specs.declared.writing.SnapshotId.{SnapshotId}
use Rattle.journal.specs.Journals.{JournalState}
use Rattle.kept_rotations.specs.GoingOn.{stood_of}
use Rattle.kept_rotations.specs.Moments.{id_of}

abbrev pub passed : (n k : ℤ) → SnapshotId
passed n k = record { number = to_z w64 (of_z w64 n); key = to_z w64 (of_z w64 k) }

pub id_is : (number : ℕ) (key : List ℕ) (n k : ℤ) → FitsSigned w64 n → FitsSigned w64 k → n ≡ cast_signed w64 number → k ≡ cast_signed w64 (from_be_bytes w64 key) → passed n k ≡ id_of number key
unfolding id_of
id_is number key n k fits fits' one two = λ i. record { number = (to_z-of_z w64 n fits ∙ one) i; key = (to_z-of_z w64 k fits' ∙ two) i }

-- what stood before the next journal is said of one whose key and end are the same
pub stood_still : {D : Type 0} (number : ℕ) (old new : JournalState D) → new.key ≡ old.key → new.end ≡ old.end → stood_of number new ≡ stood_of number old
stood_still number old new key end = λ i. record { number = cast_signed w64 number; key = key i; size = end i }
