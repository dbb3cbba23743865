-- What the work of an Import in version 1 comes to, from what was done in its partition.
use Rattle.std.proofs.Common.{◌≡◌, List, [], ◌∷◌, Option, Some, None, Result, Ok, Err, refl, ap, ◌∙◌}
use Rattle.request_frames.specs.ImportDelta.{ImportDeltaValue}
use Rattle.answering.specs.declared.codes.ErrorCode.{ErrorCode}
use Rattle.answering.specs.declared.memory.Refused.{Refused}
use Rattle.answering.specs.declared.memory.Refused.TheVariants.{Check, OutOfMemory}
use Rattle.answering.specs.Lists.{first_some}
use Rattle.answering.specs.Doing.{DoesTold}
use Rattle.answering.proofs.Checks.{two_pass, two_fail}
use Rattle.broker_state.specs.State.{State, content_at, with_content}
use Rattle.broker_state.specs.Checks.{unknown, not_follower}
use Rattle.broker_state.specs.Changes.{ChangesAt}
use Rattle.broker_state.proofs.OwnContent.{unchanged_at}
use Rattle.copy_requests.specs.Import.{imported_answer}
use Rattle.copy_requests.specs.ImportDelta.{delta_faults, import_delta_work}
use Rattle.copy_requests.specs.Outcomes.{Patches}

module _ (s : State) (q : ImportDeltaValue) where
  abbrev faults_here : List (Option ErrorCode)
  faults_here = delta_faults (content_at s q.topic q.partition) q.delta

  abbrev place_passes : Type 0
  place_passes = first_some (unknown s q.topic q.partition ∷ not_follower s ∷ []) ≡ None

  pub delta_place_fails : (code : ErrorCode) → first_some (unknown s q.topic q.partition ∷ not_follower s ∷ []) ≡ Some code → DoesTold (import_delta_work s q) imported_answer (Err (Check code)) s s
  delta_place_fails code h = (two_fail (unknown s q.topic q.partition) (not_follower s) code faults_here h, refl)

  rest_decides : place_passes → first_some (unknown s q.topic q.partition ∷ not_follower s ∷ faults_here) ≡ first_some faults_here
  rest_decides none = two_pass (unknown s q.topic q.partition) (not_follower s) faults_here none

  pub delta_done : (after : State) (r : Result (Unit {0}) Refused) → place_passes → ChangesAt (Patches q.delta r) s q.topic q.partition after → DoesTold (import_delta_work s q) imported_answer r s after
  delta_done after (Ok u) none (there, (passes, patched), changed) =
      (rest_decides none ∙ passes, λ i. (imported_answer tt, (changed ∙ ap (with_content s q.topic q.partition) patched) i))
  delta_done after (Err (Check code)) none (there, (fails, same), changed) =
      (rest_decides none ∙ fails, unchanged_at s after q.topic q.partition there same changed)
  delta_done after (Err OutOfMemory) none (there, (passes, same), changed) =
      (rest_decides none ∙ passes, refl, unchanged_at s after q.topic q.partition there same changed)
