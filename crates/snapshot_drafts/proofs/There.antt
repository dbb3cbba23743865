-- What is missing in a draft is a partition that the broker has.
use Rattle.std.proofs.Common.{◌≡◌, ℕ, zero, suc, ◌+◌, true, List, [], ◌∷◌, length, Option, refl}
use Rattle.std.specs.Prelude.{slice_get, is_some}
use Rattle.std.specs.List.{concat}
use Rattle.snapshot_drafts.specs.declared.slots.Slot.{Slot}
use Rattle.snapshot_drafts.specs.Slots.{AreSlots, AreTopics, has_missing, part_in}

slot_there : (file : Option (List ℕ)) (start : ℕ) (images : List (List ℕ)) (slots : List Slot) (j : ℕ) → AreSlots file start images slots → has_missing (slice_get slots j) ≡ true → is_some (slice_get images j) ≡ true
slot_there file start [] [] j are missing = missing
slot_there file start [] (s ∷ slots) j are missing = absurd are
slot_there file start (i ∷ images) [] j are missing = absurd are
slot_there file start (i ∷ images) (s ∷ slots) zero are missing = refl
slot_there file start (i ∷ images) (s ∷ slots) (suc j) are missing = slot_there file (start + length i) images slots j are.1 missing

pub part_is_there : (file : Option (List ℕ)) (start : ℕ) (topics : List (List (List ℕ))) (slots : List (List Slot)) (k j : ℕ) → AreTopics file start topics slots → has_missing (part_in slots (record { topic = k; partition = j })) ≡ true
    → is_some (part_in topics (record { topic = k; partition = j })) ≡ true
part_is_there file start [] [] k j are missing = missing
part_is_there file start [] (s ∷ slots) k j are missing = absurd are
part_is_there file start (i ∷ topics) [] k j are missing = absurd are
part_is_there file start (i ∷ topics) (s ∷ slots) zero j are missing = slot_there file start i s j are.0 missing
part_is_there file start (i ∷ topics) (s ∷ slots) (suc k) j are missing = part_is_there file (start + length (concat i)) topics slots k j are.1 missing
