-- An image that was written into a draft.
use Rattle.std.proofs.Common.{◌≡◌, true, ℕ, zero, suc, ◌+◌, ◌≤◌, false, List, [], ◌∷◌, length, Option, Some, None, refl, sym, ap, ◌∙◌, subst, arith, inl, inr}
use Rattle.std.specs.Prelude.{IfSome, slice_get, set, get_or, ◌≢◌, ◌⊎◌}
use Rattle.std.specs.List.{concat, flat_map}
use Rattle.std.specs.Option.{option_and_then, option_map}
use Rattle.std.proofs.lemmas.Option.{none-some, get_or_from_slice_get}
use Rattle.std.proofs.lemmas.Bool.{cases_eq}
use Rattle.std.proofs.lemmas.List.{length-append}
use Rattle.broker_state.specs.declared.place.Place.{Place}
use Rattle.snapshot_drafts.specs.declared.slots.Slot.{Slot}
use Rattle.snapshot_drafts.specs.Files.{with_bytes}
use Rattle.snapshot_drafts.specs.Slots.{AreTopics, has_missing, part_in}
use Rattle.snapshot_drafts.specs.Parts.{DraftState, HasParts, PutsImage, is_missing, with_slot}
use Rattle.snapshot_drafts.proofs.Slices.{length_within}
use Rattle.snapshot_drafts.proofs.Kept.{overwritten, topic_within, topics_set}

-- ---- parts of lists

-- what has a part at a place has a list there
pub record HasPart {X : Type 0} (topics : List (List X)) (place : Place) (x : X) : Type 0 where
  pub parts : List X
  pub topic : slice_get topics place.topic ≡ Some parts
  pub here : slice_get parts place.partition ≡ Some x

pub part_there : {X : Type 0} (topics : List (List X)) (place : Place) (x : X) → part_in topics place ≡ Some x → HasPart topics place x
part_there {X = X} topics place x there = by (slice_get topics place.topic) refl there
  where
    by : (o : Option (List X)) → slice_get topics place.topic ≡ o → option_and_then (λ parts. slice_get parts place.partition) o ≡ Some x → HasPart topics place x
    by None is at = absurd (none-some _ at)
    by (Some parts) is at = record { parts = parts; topic = is; here = at }

pub found_missing : (topics : List (List Slot)) (place : Place) (slot : Slot) → part_in topics place ≡ Some slot → slot.missing ≡ true → has_missing (part_in topics place) ≡ true
found_missing topics place slot there missing = ap has_missing there ∙ missing

pub of_this_size : (topics : List (List Slot)) (place : Place) (slot : Slot) (image : List ℕ) → part_in topics place ≡ Some slot → slot.size ≡ length image → IfSome (part_in topics place) (λ s. s.size ≡ length image)
of_this_size topics place slot image there is = subst (λ (o : Option Slot). IfSome o (λ s. s.size ≡ length image)) (sym there) is

set_here : {X : Type 0} (xs : List X) (i : ℕ) (x y : X) → slice_get xs i ≡ Some x → slice_get (set xs i y) i ≡ Some y
set_here [] i x y there = absurd (none-some _ there)
set_here (z ∷ xs) zero x y there = refl
set_here (z ∷ xs) (suc i) x y there = set_here xs i x y there

set_other : {X : Type 0} (xs : List X) (i k : ℕ) (y : X) → (k ≡ i → ⊥) → slice_get (set xs i y) k ≡ slice_get xs k
set_other [] i k y other = refl
set_other (z ∷ xs) zero zero y other = absurd (other refl)
set_other (z ∷ xs) zero (suc k) y other = refl
set_other (z ∷ xs) (suc i) zero y other = refl
set_other (z ∷ xs) (suc i) (suc k) y other = set_other xs i k y (λ e. other (ap suc e))

-- the slot that was put at a place, and the others
pub put_here : (topics : List (List Slot)) (place : Place) (slot new : Slot) → part_in topics place ≡ Some slot → part_in (with_slot topics place new) place ≡ Some new
put_here topics place slot new there =
    let has = part_there topics place slot there in
    let parts = get_or topics place.topic [] in
    let same : parts ≡ has.parts = get_or_from_slice_get topics place.topic has.parts [] has.topic in
    let here : slice_get parts place.partition ≡ Some slot = ap (λ (l : List Slot). slice_get l place.partition) same ∙ has.here in
    ap (option_and_then (λ l. slice_get l place.partition)) (set_here topics place.topic has.parts (set parts place.partition new) has.topic) ∙ set_here parts place.partition slot new here

pub put_others : (topics : List (List Slot)) (place other : Place) (slot new : Slot) → part_in topics place ≡ Some slot → other ≢ place → part_in (with_slot topics place new) other ≡ part_in topics other
put_others topics place other slot new there apart = by (cases_eq other.topic place.topic)
  where
    by : (other.topic ≡ place.topic) ⊎ (other.topic ≡ place.topic → ⊥) → part_in (with_slot topics place new) other ≡ part_in topics other
    by (inr differ) =
        ap (option_and_then (λ l. slice_get l other.partition)) (set_other topics place.topic other.topic (set (get_or topics place.topic []) place.partition new) differ)
    by (inl same) =
        let has = part_there topics place slot there in
        let parts = get_or topics place.topic [] in
        let is : parts ≡ has.parts = get_or_from_slice_get topics place.topic has.parts [] has.topic in
        let differ : other.partition ≡ place.partition → ⊥ = λ e. apart (λ i. record { topic = same i; partition = e i }) in
        let now : slice_get (with_slot topics place new) other.topic ≡ Some (set parts place.partition new) =
        ap (slice_get (with_slot topics place new)) same ∙ set_here topics place.topic has.parts (set parts place.partition new) has.topic in
        let was : slice_get topics other.topic ≡ Some parts = ap (slice_get topics) same ∙ has.topic ∙ ap (λ (l : List Slot). Some l) (sym is) in
        ap (option_and_then (λ l. slice_get l other.partition)) now ∙ set_other parts place.partition other.partition new differ
        ∙ sym (ap (option_and_then (λ l. slice_get l other.partition)) was)

-- ---- the draft

module _ {F : Type 0} (seen : F → Option (List ℕ)) (old new : DraftState F) (place : Place) (slot : Slot) (image : List ℕ)
    (there : part_in old.topics place ≡ Some slot) (puts : PutsImage seen old place slot image new) where
  pub puts_mark : is_missing new place ≡ false
  puts_mark =
      ap (λ (l : List (List Slot)). has_missing (part_in l place)) puts.topics
      ∙ ap has_missing (put_here old.topics place slot (record slot { missing = false }) there)

  pub puts_others : (other : Place) → other ≢ place → is_missing new other ≡ is_missing old other
  puts_others other apart =
      ap (λ (l : List (List Slot)). has_missing (part_in l other)) puts.topics
      ∙ ap has_missing (put_others old.topics place other slot (record slot { missing = false }) there apart)

known_within : (old new : Option (List ℕ)) (at : ℕ) (bytes : List ℕ) (size : ℕ) → at + length bytes ≤ size → new ≡ option_map (with_bytes at bytes) old → IfSome old (λ file. length file ≤ size) → IfSome new (λ file. length file ≤ size)
known_within None new at bytes size fits is short = subst (λ (o : Option (List ℕ)). IfSome o (λ file. length file ≤ size)) (sym is) tt
known_within (Some file) new at bytes size fits is short =
    subst (λ (o : Option (List ℕ)). IfSome o (λ file. length file ≤ size)) (sym is) (length_within at size bytes file fits short)

module _ {F : Type 0} (seen : F → Option (List ℕ)) (old new : DraftState F) (place : Place) (slot : Slot) (image : List ℕ)
    (there : part_in old.topics place ≡ Some slot) (puts : PutsImage seen old place slot image new) where
  pub puts_draft : (head : List ℕ) (topics : List (List (List ℕ))) → part_in topics place ≡ Some image → HasParts seen head topics old → HasParts seen head topics new
  puts_draft head topics is has =
      let slots = part_there old.topics place slot there in
      let images = part_there topics place image is in
      let over = overwritten (seen old.file) (seen new.file) slot.at image puts.file in
      let where_ = topic_within (seen old.file) (length head) topics old.topics place.topic place.partition slots.parts images.parts slot image slots.topic images.topic slots.here images.here has.slots in
      let total = length-append head (flat_map concat topics) in
      let done : Slot = record slot { missing = false } in
      let same : get_or old.topics place.topic [] ≡ slots.parts = get_or_from_slice_get old.topics place.topic slots.parts [] slots.topic in
      let marked : new.topics ≡ set old.topics place.topic (set slots.parts place.partition done) =
      puts.topics ∙ ap (λ (l : List Slot). set old.topics place.topic (set l place.partition done)) same in
      let fits : slot.at + length image ≤ old.size = omega (arith, where_.last, has.size, total) in
      let low : 0 + length head ≤ slot.at = omega (arith, where_.first) in
      record {
        begins = over.before 0 head low has.begins;
        slots = subst (AreTopics (seen new.file) (length head) topics) (sym marked)
            (topics_set (seen old.file) (seen new.file) slot.at image over (length head) topics old.topics place.topic place.partition slots.parts images.parts slot slots.topic images.topic slots.here images.here refl has.slots);
        size = puts.size ∙ has.size;
        within = subst (λ (n : ℕ). IfSome (seen new.file) (λ file. length file ≤ n)) (sym puts.size) (known_within (seen old.file) (seen new.file) slot.at image old.size fits puts.file has.within);
      }

-- an image of another size is none of what the broker held
pub no_other_size : {F : Type 0} (seen : F → Option (List ℕ)) (head : List ℕ) (topics : List (List (List ℕ))) (d : DraftState F) (place : Place) (slot : Slot) (image : List ℕ) → part_in d.topics place ≡ Some slot → part_in topics place ≡ Some image
    → HasParts seen head topics d → slot.size ≡ length image
no_other_size seen head topics d place slot image there is has =
    let slots = part_there d.topics place slot there in
    let images = part_there topics place image is in
    (topic_within (seen d.file) (length head) topics d.topics place.topic place.partition slots.parts images.parts slot image slots.topic images.topic slots.here images.here has.slots).size
