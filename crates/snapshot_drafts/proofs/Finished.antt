-- A draft none of whose images is missing has the whole file.
use Rattle.std.proofs.Common.{◌≡◌, ℕ, suc, ◌+◌, ◌≤◌, false, List, [], ◌∷◌, length, Option, Some, None, refl, sym, subst, arith}
use Rattle.std.specs.Prelude.{IfSome, slice_get}
use Rattle.std.specs.List.{concat, flat_map}
use Rattle.broker_state.specs.declared.place.Place.{Place}
use Rattle.snapshot_drafts.specs.declared.slots.Slot.{Slot}
use Rattle.snapshot_drafts.specs.Files.{StandsAt}
use Rattle.snapshot_drafts.specs.Slots.{AreSlots, AreTopics, has_missing, part_in}
use Rattle.snapshot_drafts.specs.Parts.{DraftState, HasParts, is_missing, whole_of}
use Rattle.snapshot_drafts.proofs.Slices.{both_stand, is_whole}

module _ (file : List ℕ) where
  slots_whole : (start : ℕ) (images : List (List ℕ)) (slots : List Slot) → ((j : ℕ) → has_missing (slice_get slots j) ≡ false) → AreSlots (Some file) start images slots → StandsAt start (concat images) file
  slots_whole start [] [] none are = refl
  slots_whole start [] (s ∷ slots) none are = absurd are
  slots_whole start (i ∷ images) [] none are = absurd are
  slots_whole start (i ∷ images) (s ∷ slots) none are =
      both_stand start i (concat images) file (are.0.written (none 0)) (slots_whole (start + length i) images slots (λ j. none (suc j)) are.1)

  topics_whole : (start : ℕ) (topics : List (List (List ℕ))) (slots : List (List Slot)) → ((k j : ℕ) → has_missing (part_in slots (record { topic = k; partition = j })) ≡ false) → AreTopics (Some file) start topics slots → StandsAt start (flat_map concat topics) file
  topics_whole start [] [] none are = refl
  topics_whole start [] (s ∷ slots) none are = absurd are
  topics_whole start (i ∷ topics) [] none are = absurd are
  topics_whole start (i ∷ topics) (s ∷ slots) none are =
      both_stand start (concat i) (flat_map concat topics) file (slots_whole start i s (none 0) are.0) (topics_whole (start + length (concat i)) topics slots (λ k. none (suc k)) are.1)

whole_here : (file head : List ℕ) (topics : List (List (List ℕ))) (slots : List (List Slot)) → ((k j : ℕ) → has_missing (part_in slots (record { topic = k; partition = j })) ≡ false)
    → StandsAt 0 head file → AreTopics (Some file) (length head) topics slots → length file ≤ length (whole_of head topics) → file ≡ whole_of head topics
whole_here file head topics slots none begins are short =
    let begin : length head ≡ 0 + length head = omega arith in
    let rest : StandsAt (length head) (flat_map concat topics) file = topics_whole file (length head) topics slots none are in
    is_whole (whole_of head topics) file (both_stand 0 head (flat_map concat topics) file begins (subst (λ (n : ℕ). StandsAt n (flat_map concat topics) file) begin rest)) short

whole_known : (seen : Option (List ℕ)) (head : List ℕ) (topics : List (List (List ℕ))) (slots : List (List Slot)) (size : ℕ) → ((k j : ℕ) → has_missing (part_in slots (record { topic = k; partition = j })) ≡ false)
    → IfSome seen (StandsAt 0 head) → AreTopics seen (length head) topics slots → size ≡ length (whole_of head topics) → IfSome seen (λ file. length file ≤ size) → IfSome seen (λ file. file ≡ whole_of head topics)
whole_known None head topics slots size none begins are is short = tt
whole_known (Some file) head topics slots size none begins are is short = whole_here file head topics slots none begins are (omega (arith, is, short))

pub finished : {F : Type 0} (seen : F → Option (List ℕ)) (head : List ℕ) (topics : List (List (List ℕ))) (d : DraftState F) (file : F) → ((place : Place) → is_missing d place ≡ false) → seen file ≡ seen d.file
    → HasParts seen head topics d → IfSome (seen file) (λ bytes. bytes ≡ whole_of head topics)
finished seen head topics d file none same has =
    subst (λ (o : Option (List ℕ)). IfSome o (λ bytes. bytes ≡ whole_of head topics)) (sym same)
    (whole_known (seen d.file) head topics d.topics d.size (λ k j. none (record { topic = k; partition = j })) has.begins has.slots has.size has.within)
