-- Lists of lists: what they have at a place, and all of them joined.
use Rattle.std.proofs.Common.{◌≡◌, ℕ, List, [], ◌∷◌, ◌++◌, Option, Some, None, refl, sym, ap, ◌∙◌}
use Rattle.std.specs.Prelude.{slice_get, map, is_some}
use Rattle.std.specs.List.{concat, flat_map}
use Rattle.std.specs.Option.{option_and_then, option_map}
use Rattle.std.proofs.lemmas.Option.{slice_get-map}
use Rattle.broker_state.specs.declared.place.Place.{Place}
use Rattle.snapshot_drafts.specs.Slots.{part_in}

module _ {T X : Type 0} (parts : T → List X) (f : X → List ℕ) where
  abbrev images : T → List (List ℕ)
  images t = map f (parts t)

  concat_images : (xs : List X) → concat (map f xs) ≡ flat_map f xs
  concat_images [] = refl
  concat_images (x ∷ xs) = ap (λ (l : List ℕ). f x ++ l) (concat_images xs)

  pub whole_images : (ts : List T) → flat_map concat (map images ts) ≡ flat_map (λ t. flat_map f (parts t)) ts
  whole_images [] = refl
  whole_images (t ∷ ts) = λ i. concat_images (parts t) i ++ whole_images ts i

  pub part_image : (ts : List T) (place : Place) → part_in (map images ts) place ≡ option_map f (part_in (map parts ts) place)
  part_image ts place =
      ap (option_and_then (λ l. slice_get l place.partition)) (slice_get-map images ts place.topic) ∙ by (slice_get ts place.topic)
      ∙ ap (λ o. option_map f (option_and_then (λ l. slice_get l place.partition) o)) (sym (slice_get-map parts ts place.topic))
    where
      by : (o : Option T) → option_and_then (λ l. slice_get l place.partition) (option_map images o) ≡ option_map f (option_and_then (λ l. slice_get l place.partition) (option_map parts o))
      by None = refl
      by (Some t) = slice_get-map f (parts t) place.partition

  pub part_there : (ts : List T) (place : Place) (x : X) → part_in (map parts ts) place ≡ Some x → part_in (map images ts) place ≡ Some (f x)
  part_there ts place x there = part_image ts place ∙ ap (option_map f) there

  pub part_known : (ts : List T) (place : Place) → is_some (part_in (map images ts) place) ≡ is_some (part_in (map parts ts) place)
  part_known ts place = ap is_some (part_image ts place) ∙ by (part_in (map parts ts) place)
    where
      by : (o : Option X) → is_some (option_map f o) ≡ is_some o
      by None = refl
      by (Some x) = refl
