-- The slots of a draft that is begun.
use Rattle.std.proofs.Common.{◌≡◌, ℕ, zero, suc, ◌+◌, ◌≤◌, true, List, [], ◌∷◌, ◌++◌, length, drop, Option, Some, None, refl, sym, ap, ◌∙◌, subst, arith, append_assoc, append-nil}
use Rattle.std.specs.Prelude.{IfSome, slice_get, is_some}
use Rattle.std.specs.List.{concat, flat_map}
use Rattle.std.specs.Option.{option_map}
use Rattle.std.proofs.lemmas.List.{drop_more, length-append}
use Rattle.std.proofs.lemmas.Option.{slice_get_within, get_or_from_slice_get}
use Rattle.std.proofs.Math.ListN.{drop_of_length-le}
use Rattle.broker_state.specs.declared.place.Place.{Place}
use Rattle.snapshot_drafts.specs.declared.slots.Slot.{Slot}
use Rattle.snapshot_drafts.specs.Files.{with_bytes, StandsAt}
use Rattle.snapshot_drafts.specs.Slots.{AreSlots, AreTopics, has_missing, part_in, new_slots, new_topics}
use Rattle.snapshot_drafts.specs.Parts.{DraftState, HasParts}
use Rattle.snapshot_drafts.proofs.Slices.{stands_here, length_within}
use Rattle.snapshot_drafts.proofs.Kept.{sum, sum_all}

-- the element of an index stands at the front of what is left
pub drop_at : {X : Type 0} (xs : List X) (i : ℕ) (x : X) → slice_get xs i ≡ Some x → drop i xs ≡ x ∷ drop (i + 1) xs
drop_at {X = X} xs i x there = drop_more xs i x (slice_get_within xs i x there) ∙ ap (λ (y : X). y ∷ drop (i + 1) xs) (get_or_from_slice_get xs i x x there)

-- ---- of a topic

-- with those of the images that are left they are the slots of all, from one offset to another
pub record HasSlots (start : ℕ) (images : List (List ℕ)) (made : List Slot) (i at : ℕ) : Type 0 where
  pub slots : made ++ new_slots at (drop i images) ≡ new_slots start images
  pub end : at + sum (drop i images) ≡ start + sum images

pub slots_begin : (start : ℕ) (images : List (List ℕ)) → HasSlots start images [] 0 start
slots_begin start images = record { slots = refl; end = refl }

pub slots_more : (start : ℕ) (images : List (List ℕ)) (made new : List Slot) (i at size end : ℕ) (image : List ℕ) → slice_get images i ≡ Some image → size ≡ length image → end ≡ at + size
    → new ≡ made ++ record { at = at; size = size; missing = true } ∷ [] → HasSlots start images made i at → HasSlots start images new (i + 1) end
slots_more start images made new i at size end image there is moved pushed so_far =
    let rest = drop (i + 1) images in
    let left : drop i images ≡ image ∷ rest = drop_at images i image there in
    let further : end ≡ at + length image = moved ∙ ap (λ (n : ℕ). at + n) is in
    let total : sum (drop i images) ≡ length image + sum rest = ap sum left ∙ length-append image (concat rest) in
    record {
      slots = ap (λ (l : List Slot). l ++ new_slots end rest) pushed ∙ append_assoc made (record { at = at; size = size; missing = true } ∷ []) (new_slots end rest)
          ∙ (λ j. made ++ record { at = at; size = is j; missing = true } ∷ new_slots (further j) rest)
          ∙ ap (λ (l : List (List ℕ)). made ++ new_slots at l) (sym left) ∙ so_far.slots;
      end = omega (arith, further, total, so_far.end);
    }

pub slots_done : (start : ℕ) (images : List (List ℕ)) (made : List Slot) (i at : ℕ) → length images ≤ i → HasSlots start images made i at → (made ≡ new_slots start images) × (at ≡ start + sum images)
slots_done start images made i at all so_far =
    let none : drop i images ≡ [] = drop_of_length-le images all in
    let empty : sum (drop i images) ≡ 0 = ap sum none in
    (sym (append-nil made) ∙ ap (λ (l : List (List ℕ)). made ++ new_slots at l) (sym none) ∙ so_far.slots, omega (arith, empty, so_far.end))

-- ---- of all topics

pub record HasTopics (start : ℕ) (topics : List (List (List ℕ))) (made : List (List Slot)) (i at : ℕ) : Type 0 where
  pub slots : made ++ new_topics at (drop i topics) ≡ new_topics start topics
  pub end : at + sum_all (drop i topics) ≡ start + sum_all topics

pub topics_begin : (start : ℕ) (topics : List (List (List ℕ))) → HasTopics start topics [] 0 start
topics_begin start topics = record { slots = refl; end = refl }

pub topics_more : (start : ℕ) (topics : List (List (List ℕ))) (made new : List (List Slot)) (i at end : ℕ) (images : List (List ℕ)) (slots : List Slot) → slice_get topics i ≡ Some images → slots ≡ new_slots at images → end ≡ at + sum images
    → new ≡ made ++ slots ∷ [] → HasTopics start topics made i at → HasTopics start topics new (i + 1) end
topics_more start topics made new i at end images slots there is further pushed so_far =
    let rest = drop (i + 1) topics in
    let left : drop i topics ≡ images ∷ rest = drop_at topics i images there in
    let total : sum_all (drop i topics) ≡ sum images + sum_all rest = ap sum_all left ∙ length-append (concat images) (flat_map concat rest) in
    record {
      slots = ap (λ (l : List (List Slot)). l ++ new_topics end rest) pushed ∙ append_assoc made (slots ∷ []) (new_topics end rest)
          ∙ (λ j. made ++ is j ∷ new_topics (further j) rest)
          ∙ ap (λ (l : List (List (List ℕ))). made ++ new_topics at l) (sym left) ∙ so_far.slots;
      end = omega (arith, further, total, so_far.end);
    }

pub topics_done : (start : ℕ) (topics : List (List (List ℕ))) (made : List (List Slot)) (i at : ℕ) → length topics ≤ i → HasTopics start topics made i at → (made ≡ new_topics start topics) × (at ≡ start + sum_all topics)
topics_done start topics made i at all so_far =
    let none : drop i topics ≡ [] = drop_of_length-le topics all in
    let empty : sum_all (drop i topics) ≡ 0 = ap sum_all none in
    (sym (append-nil made) ∙ ap (λ (l : List (List (List ℕ))). made ++ new_topics at l) (sym none) ∙ so_far.slots, omega (arith, empty, so_far.end))

-- ---- what they say

slots_are : (file : Option (List ℕ)) (start : ℕ) (images : List (List ℕ)) → AreSlots file start images (new_slots start images)
slots_are file start [] = tt
slots_are file start (i ∷ images) = (record { at = refl; size = refl; written = λ done. absurd cc }, slots_are file (start + length i) images)

topics_are : (file : Option (List ℕ)) (start : ℕ) (topics : List (List (List ℕ))) → AreTopics file start topics (new_topics start topics)
topics_are file start [] = tt
topics_are file start (i ∷ topics) = (slots_are file start i, topics_are file (start + sum i) topics)

slot_missing : (start : ℕ) (images : List (List ℕ)) (j : ℕ) → has_missing (slice_get (new_slots start images) j) ≡ is_some (slice_get images j)
slot_missing start [] j = refl
slot_missing start (i ∷ images) zero = refl
slot_missing start (i ∷ images) (suc j) = slot_missing (start + length i) images j

pub part_missing : (start : ℕ) (topics : List (List (List ℕ))) (place : Place) → has_missing (part_in (new_topics start topics) place) ≡ is_some (part_in topics place)
part_missing start topics place = by start topics place.topic
  where
    by : (start : ℕ) (topics : List (List (List ℕ))) (k : ℕ) → has_missing (part_in (new_topics start topics) (record { topic = k; partition = place.partition })) ≡ is_some (part_in topics (record { topic = k; partition = place.partition }))
    by start [] k = refl
    by start (i ∷ topics) zero = slot_missing start i place.partition
    by start (i ∷ topics) (suc k) = by (start + sum i) topics k

-- ---- the draft

-- the file with the head alone
head_known : (seen new : Option (List ℕ)) (head : List ℕ) (size : ℕ) → length head ≤ size → new ≡ option_map (with_bytes 0 head) seen → IfSome seen (λ file. file ≡ []) → IfSome new (StandsAt 0 head) × IfSome new (λ file. length file ≤ size)
head_known None new head size fits is none =
    subst (λ (o : Option (List ℕ)). IfSome o (StandsAt 0 head) × IfSome o (λ file. length file ≤ size)) (sym is) (tt, tt)
head_known (Some file) new head size fits is none =
    let empty : length file ≤ size = let e : length file ≡ 0 = ap length none in omega (arith, e) in
    let low : 0 + length head ≤ size = omega (arith, fits) in
    subst (λ (o : Option (List ℕ)). IfSome o (StandsAt 0 head) × IfSome o (λ file. length file ≤ size)) (sym is) (stands_here 0 head file, length_within 0 size head file low empty)

pub draft_begun : {F : Type 0} (seen : F → Option (List ℕ)) (head : List ℕ) (topics : List (List (List ℕ))) (old : F) (d : DraftState F) → seen d.file ≡ option_map (with_bytes 0 head) (seen old) → d.topics ≡ new_topics (length head) topics
    → d.size ≡ length head + sum_all topics → IfSome (seen old) (λ file. file ≡ []) → HasParts seen head topics d
draft_begun seen head topics old d written slots size none =
    let fits : length head ≤ d.size = omega (arith, size) in
    let known = head_known (seen old) (seen d.file) head d.size fits written none in
    record {
      begins = known.0;
      slots = subst (AreTopics (seen d.file) (length head) topics) (sym slots) (topics_are (seen d.file) (length head) topics);
      size = size ∙ sym (length-append head (flat_map concat topics));
      within = known.1;
    }
