-- Import: the image that comes, and the place that takes it, as the code goes.
use Rattle.std.specs.Prelude.{◌≡◌, ℕ, ℤ, List, [], ◌∷◌, Option, Some, None, Result, Ok, Err}
use Rattle.content.specs.Content.{Content}
use Rattle.copy_images.specs.Reading.{image_at}
use Rattle.answering.specs.declared.codes.ErrorCode.{ErrorCode}
use Rattle.answering.specs.declared.codes.ErrorCode.TheVariants.{CorruptMessage}
use Rattle.answering.specs.declared.memory.Refused.{Refused}
use Rattle.answering.specs.declared.memory.Refused.TheVariants as refused
use Rattle.answering.specs.Lists.{first_some}
use Rattle.broker_state.specs.declared.place.Place.{Place}
use Rattle.broker_state.specs.Places.{IsPlaceOf}
use Rattle.broker_state.specs.State.{State, content_at}
use Rattle.broker_state.specs.Checks.{unknown}
use Rattle.copy_requests.specs.Import.{import_role_fault}

-- the content of which the bytes are the image; or they are none, or memory lacks
abbrev pub IsReadAs : List ℕ → Result Content Refused → Type 0
IsReadAs bytes (Ok c) = image_at bytes ≡ Some c
IsReadAs bytes (Err (refused.Check code)) = (image_at bytes ≡ None) × (code ≡ CorruptMessage)
IsReadAs bytes (Err refused.OutOfMemory) = (c : Content) × (image_at bytes ≡ Some c)

-- the checks before the image is looked at
abbrev pub place_checks : State → (name : List ℕ) (p : ℤ) → List (Option ErrorCode)
place_checks s name p = unknown s name p ∷ import_role_fault s.config.role (content_at s name p) ∷ []

abbrev pub IsPlaceToImport : State → (name : List ℕ) (p : ℤ) → Result Place ErrorCode → Type 0
IsPlaceToImport s name p (Ok place) = IsPlaceOf s name p place × (first_some (place_checks s name p) ≡ None)
IsPlaceToImport s name p (Err code) = first_some (place_checks s name p) ≡ Some code
