-- What stands in a file where the slots say, behind a write to another place of it.
use Rattle.std.proofs.Common.{◌≡◌, ℕ, zero, suc, ◌+◌, ◌≤◌, false, List, [], ◌∷◌, length, Option, Some, None, sym, ap, ◌∙◌, subst, arith}
use Rattle.std.specs.Prelude.{IfSome, slice_get, set}
use Rattle.std.specs.List.{concat, flat_map}
use Rattle.std.specs.Option.{option_map}
use Rattle.std.proofs.lemmas.List.{length-append}
use Rattle.std.proofs.lemmas.Option.{none-some, same_Some}
use Rattle.snapshot_drafts.specs.declared.slots.Slot.{Slot}
use Rattle.snapshot_drafts.specs.Files.{with_bytes, StandsAt}
use Rattle.snapshot_drafts.specs.Slots.{IsSlot, AreSlots, AreTopics}
use Rattle.snapshot_drafts.proofs.Slices.{stands_here, stands_before, stands_behind}

-- Bytes were written at an offset of a file: they stand there, and what stood before them or behind them still does.
pub record Overwrites (old new : Option (List ℕ)) (at : ℕ) (bytes : List ℕ) : Type 0 where
  pub here : IfSome new (StandsAt at bytes)
  pub before : (low : ℕ) (xs : List ℕ) → low + length xs ≤ at → IfSome old (StandsAt low xs) → IfSome new (StandsAt low xs)
  pub behind : (low : ℕ) (xs : List ℕ) → at + length bytes ≤ low → IfSome old (StandsAt low xs) → IfSome new (StandsAt low xs)

overwritten_of : (old : Option (List ℕ)) (at : ℕ) (bytes : List ℕ) → Overwrites old (option_map (with_bytes at bytes) old) at bytes
overwritten_of None at bytes = record { here = tt; before = λ low xs le had. tt; behind = λ low xs le had. tt }
overwritten_of (Some file) at bytes = record {
  here = stands_here at bytes file;
  before = λ low xs le had. stands_before at low bytes file xs le had;
  behind = λ low xs le had. stands_behind at low bytes file xs le had;
}

pub overwritten : (old new : Option (List ℕ)) (at : ℕ) (bytes : List ℕ) → new ≡ option_map (with_bytes at bytes) old → Overwrites old new at bytes
overwritten old new at bytes is = subst (λ (o : Option (List ℕ)). Overwrites old o at bytes) (sym is) (overwritten_of old at bytes)

-- ---- where slots are

-- a topic's images, and the images of all
abbrev pub sum : List (List ℕ) → ℕ
sum images = length (concat images)

abbrev pub sum_all : List (List (List ℕ)) → ℕ
sum_all topics = length (flat_map concat topics)

sum_more : (image : List ℕ) (images : List (List ℕ)) → sum (image ∷ images) ≡ length image + sum images
sum_more image images = length-append image (concat images)

sum_all_more : (images : List (List ℕ)) (topics : List (List (List ℕ))) → sum_all (images ∷ topics) ≡ sum images + sum_all topics
sum_all_more images topics = length-append (concat images) (flat_map concat topics)

-- a slot is where its image belongs, from one offset to another
pub record IsWithin (slot : Slot) (image : List ℕ) (start end : ℕ) : Type 0 where
  pub first : start ≤ slot.at
  pub last : slot.at + length image ≤ end
  pub size : slot.size ≡ length image

wider : (slot : Slot) (image : List ℕ) (start end low high : ℕ) → low ≤ start → end ≤ high → IsWithin slot image start end → IsWithin slot image low high
wider slot image start end low high le ge is =
    record { first = omega (arith, le, is.first); last = omega (arith, ge, is.last); size = is.size }

first_within : (file : Option (List ℕ)) (start : ℕ) (image : List ℕ) (slot : Slot) (end : ℕ) → start + length image ≤ end → IsSlot file start image slot → IsWithin slot image start end
first_within file start image slot end le is =
    let at = is.at in
    record { first = omega (arith, at); last = omega (arith, at, le); size = is.size }

pub slot_within : (file : Option (List ℕ)) (start : ℕ) (images : List (List ℕ)) (slots : List Slot) (j : ℕ) (slot : Slot) (image : List ℕ)
    → slice_get slots j ≡ Some slot → slice_get images j ≡ Some image → AreSlots file start images slots → IsWithin slot image start (start + sum images)
slot_within file start [] [] j slot image there is are = absurd (none-some _ there)
slot_within file start [] (s ∷ slots) j slot image there is are = absurd are
slot_within file start (i ∷ images) [] j slot image there is are = absurd are
slot_within file start (i ∷ images) (s ∷ slots) zero slot image there is are =
    let more = sum_more i images in
    let end = start + sum (i ∷ images) in
    let here : IsWithin s i start end = first_within file start i s end (omega (arith, more)) are.0 in
    subst (λ (x : Slot). IsWithin x image start end) (same_Some _ _ there) (subst (λ (xs : List ℕ). IsWithin s xs start end) (same_Some _ _ is) here)
slot_within file start (i ∷ images) (s ∷ slots) (suc j) slot image there is are =
    let more = sum_more i images in
    wider slot image (start + length i) ((start + length i) + sum images) start (start + sum (i ∷ images)) (omega arith) (omega (arith, more))
    (slot_within file (start + length i) images slots j slot image there is are.1)

pub topic_within : (file : Option (List ℕ)) (start : ℕ) (topics : List (List (List ℕ))) (slots : List (List Slot)) (k j : ℕ) (parts : List Slot) (images : List (List ℕ)) (slot : Slot) (image : List ℕ)
    → slice_get slots k ≡ Some parts → slice_get topics k ≡ Some images → slice_get parts j ≡ Some slot → slice_get images j ≡ Some image → AreTopics file start topics slots → IsWithin slot image start (start + sum_all topics)
topic_within file start [] [] k j parts images slot image topic all there is are = absurd (none-some _ topic)
topic_within file start [] (s ∷ slots) k j parts images slot image topic all there is are = absurd are
topic_within file start (i ∷ topics) [] k j parts images slot image topic all there is are = absurd are
topic_within file start (i ∷ topics) (s ∷ slots) zero j parts images slot image topic all there is are =
    let more = sum_all_more i topics in
    let there_too : slice_get s j ≡ Some slot = ap (λ (l : List Slot). slice_get l j) (same_Some _ _ topic) ∙ there in
    let is_too : slice_get i j ≡ Some image = ap (λ (l : List (List ℕ)). slice_get l j) (same_Some _ _ all) ∙ is in
    wider slot image start (start + sum i) start (start + sum_all (i ∷ topics)) (omega arith) (omega (arith, more)) (slot_within file start i s j slot image there_too is_too are.0)
topic_within file start (i ∷ topics) (s ∷ slots) (suc k) j parts images slot image topic all there is are =
    let more = sum_all_more i topics in
    wider slot image (start + sum i) ((start + sum i) + sum_all topics) start (start + sum_all (i ∷ topics)) (omega arith) (omega (arith, more))
    (topic_within file (start + sum i) topics slots k j parts images slot image topic all there is are.1)

module _ (old new : Option (List ℕ)) (at : ℕ) (bytes : List ℕ) (over : Overwrites old new at bytes) where
  slot_before : (start : ℕ) (image : List ℕ) (slot : Slot) → start + length image ≤ at → IsSlot old start image slot → IsSlot new start image slot
  slot_before start image slot le is =
      record { at = is.at; size = is.size; written = λ done. over.before start image le (is.written done) }

  slot_behind : (start : ℕ) (image : List ℕ) (slot : Slot) → at + length bytes ≤ start → IsSlot old start image slot → IsSlot new start image slot
  slot_behind start image slot le is =
      record { at = is.at; size = is.size; written = λ done. over.behind start image le (is.written done) }

  pub slots_before : (start : ℕ) (images : List (List ℕ)) (slots : List Slot) → start + sum images ≤ at → AreSlots old start images slots → AreSlots new start images slots
  slots_before start [] [] le are = tt
  slots_before start [] (s ∷ slots) le are = are
  slots_before start (i ∷ images) [] le are = are
  slots_before start (i ∷ images) (s ∷ slots) le are =
      let more = sum_more i images in
      (slot_before start i s (omega (arith, le, more)) are.0, slots_before (start + length i) images slots (omega (arith, le, more)) are.1)

  pub slots_behind : (start : ℕ) (images : List (List ℕ)) (slots : List Slot) → at + length bytes ≤ start → AreSlots old start images slots → AreSlots new start images slots
  slots_behind start [] [] le are = tt
  slots_behind start [] (s ∷ slots) le are = are
  slots_behind start (i ∷ images) [] le are = are
  slots_behind start (i ∷ images) (s ∷ slots) le are =
      (slot_behind start i s le are.0, slots_behind (start + length i) images slots (omega (arith, le)) are.1)

  -- the slot whose image was written
  new_slot : (start : ℕ) (image : List ℕ) (slot : Slot) → slot.at ≡ at → image ≡ bytes → IsSlot old start image slot → IsSlot new start image (record slot { missing = false })
  new_slot start image slot there same is =
      let here : IfSome new (StandsAt at image) = subst (λ (xs : List ℕ). IfSome new (StandsAt at xs)) (sym same) over.here in
      record { at = is.at; size = is.size; written = λ done. subst (λ (n : ℕ). IfSome new (StandsAt n image)) (sym there ∙ is.at) here }

  pub slots_set : (start : ℕ) (images : List (List ℕ)) (slots : List Slot) (j : ℕ) (slot : Slot) → slice_get slots j ≡ Some slot → slice_get images j ≡ Some bytes → slot.at ≡ at
      → AreSlots old start images slots → AreSlots new start images (set slots j (record slot { missing = false }))
  slots_set start [] [] j slot there is place are = absurd (none-some _ there)
  slots_set start [] (s ∷ slots) j slot there is place are = absurd are
  slots_set start (i ∷ images) [] j slot there is place are = absurd are
  slots_set start (i ∷ images) (s ∷ slots) zero slot there is place are =
      let first : IsSlot old start i slot = subst (λ (x : Slot). IsSlot old start i x) (same_Some _ _ there) are.0 in
      let size : length i ≡ length bytes = ap length (same_Some _ _ is) in
      (new_slot start i slot place (same_Some _ _ is) first, slots_behind (start + length i) images slots (omega (arith, size, place, first.at)) are.1)
  slots_set start (i ∷ images) (s ∷ slots) (suc j) slot there is place are =
      let within = slot_within old (start + length i) images slots j slot bytes there is are.1 in
      (slot_before start i s (omega (arith, place, within.first)) are.0, slots_set (start + length i) images slots j slot there is place are.1)

  -- ---- topics

  pub topics_before : (start : ℕ) (topics : List (List (List ℕ))) (slots : List (List Slot)) → start + sum_all topics ≤ at → AreTopics old start topics slots → AreTopics new start topics slots
  topics_before start [] [] le are = tt
  topics_before start [] (s ∷ slots) le are = are
  topics_before start (i ∷ topics) [] le are = are
  topics_before start (i ∷ topics) (s ∷ slots) le are =
      let more = sum_all_more i topics in
      (slots_before start i s (omega (arith, le, more)) are.0, topics_before (start + sum i) topics slots (omega (arith, le, more)) are.1)

  pub topics_behind : (start : ℕ) (topics : List (List (List ℕ))) (slots : List (List Slot)) → at + length bytes ≤ start → AreTopics old start topics slots → AreTopics new start topics slots
  topics_behind start [] [] le are = tt
  topics_behind start [] (s ∷ slots) le are = are
  topics_behind start (i ∷ topics) [] le are = are
  topics_behind start (i ∷ topics) (s ∷ slots) le are =
      (slots_behind start i s le are.0, topics_behind (start + sum i) topics slots (omega (arith, le)) are.1)

  pub topics_set : (start : ℕ) (topics : List (List (List ℕ))) (slots : List (List Slot)) (k j : ℕ) (parts : List Slot) (images : List (List ℕ)) (slot : Slot)
      → slice_get slots k ≡ Some parts → slice_get topics k ≡ Some images → slice_get parts j ≡ Some slot → slice_get images j ≡ Some bytes → slot.at ≡ at
      → AreTopics old start topics slots → AreTopics new start topics (set slots k (set parts j (record slot { missing = false })))
  topics_set start [] [] k j parts images slot topic all there is place are = absurd (none-some _ topic)
  topics_set start [] (s ∷ slots) k j parts images slot topic all there is place are = absurd are
  topics_set start (i ∷ topics) [] k j parts images slot topic all there is place are = absurd are
  topics_set start (i ∷ topics) (s ∷ slots) zero j parts images slot topic all there is place are =
      let is_too : slice_get i j ≡ Some bytes = ap (λ (l : List (List ℕ)). slice_get l j) (same_Some _ _ all) ∙ is in
      let first : AreSlots old start i parts = subst (λ (l : List Slot). AreSlots old start i l) (same_Some _ _ topic) are.0 in
      let within = slot_within old start i parts j slot bytes there is_too first in
      (slots_set start i parts j slot there is_too place first, topics_behind (start + sum i) topics slots (omega (arith, place, within.last)) are.1)
  topics_set start (i ∷ topics) (s ∷ slots) (suc k) j parts images slot topic all there is place are =
      let within = topic_within old (start + sum i) topics slots k j parts images slot bytes topic all there is are.1 in
      (slots_before start i s (omega (arith, place, within.first)) are.0, topics_set (start + sum i) topics slots k j parts images slot topic all there is place are.1)
