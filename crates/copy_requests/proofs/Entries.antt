-- What the work of each request comes to, from what was done in its partition.
use Rattle.std.proofs.Common.{◌≡◌, inl, inr, ℕ, ℤ, pos, true, List, [], ◌∷◌, ◌++◌, Option, Some, None, Result, Ok, Err, refl, sym, ap, subst, ◌∙◌}
use Rattle.std.proofs.Common.{to_z}
use Rattle.std.specs.Prelude.{IfOk, not, is_none, is_some}
use Rattle.std.specs.Int.{w64}
use Rattle.std.specs.Borrow.{Bor}
use Rattle.std.specs.declared.vec.Vec.{Vec}
use Rattle.std.proofs.lemmas.Int.{to_z_pos}
use Rattle.cover_ranges.specs.Runs.{Runs}
use Rattle.content.specs.declared.report.CleanReport.{CleanReport}
use Rattle.std.specs.Option.{option_map, unwrap_or}
use Rattle.content.specs.Content.{Content, empty}
use Rattle.content.specs.declared.delivery.Delivered.{Delivered}
use Rattle.request_frames.specs.Deliver.{DeliverValue}
use Rattle.request_frames.specs.Import.{ImportValue}
use Rattle.answering.specs.declared.codes.ErrorCode.{ErrorCode}
use Rattle.answering.specs.declared.codes.ErrorCode.TheVariants.{UnknownTopicOrPartition, CorruptMessage}
use Rattle.answering.specs.declared.memory.Memory.{Memory}
use Rattle.answering.specs.declared.memory.Memory.TheVariants.{Sufficed}
use Rattle.answering.specs.declared.memory.Refused.{Refused}
use Rattle.answering.specs.declared.memory.Refused.TheVariants.{Check, OutOfMemory}
use Rattle.answering.specs.Codes.{no_error}
use Rattle.answering.specs.Lists.{first_some, fault_if}
use Rattle.broker_state.specs.State.{State, content_at, with_content, is_known, partition_at}
use Rattle.broker_state.specs.Checks.{unknown, not_follower}
use Rattle.broker_state.specs.Changes.{ChangesAt}
use Rattle.broker_state.proofs.OwnContent.{unchanged_at}
use Rattle.copy_images.specs.Reading.{image_at}
use Rattle.copy_requests.specs.Deliver.{deliver_checks, deliver_work}
use Rattle.copy_requests.specs.Deliver.Entries.{bytes_checks, DeliversBytesAt, delivered_answer}
use Rattle.copy_requests.specs.declared.clean.Cleaning.{Cleaning}
use Rattle.copy_requests.specs.Clean.{clean_result, clean_sent, cleaning_work}
use Rattle.copy_requests.specs.Import.{import_role_fault, import_fault, imported, imported_answer, import_work}
use Rattle.copy_requests.specs.Import.Images.{IsReadAs, place_checks}
use Rattle.answering.specs.Work.{Work, answer_after, MayAnswer}
use Rattle.answering.specs.Telling.{AnswersTold, WritesTold}
use Rattle.answering.specs.Once.{WritesOnce}
use Rattle.answering.specs.Doing.{FailsWork, DoesWork, DoesTold}
use Rattle.copy_requests.specs.Export.{ExportResult}
use Rattle.copy_requests.specs.Get.{GetResult}
use Rattle.copy_requests.specs.Cover.{CoverResult}
use Rattle.copy_requests.specs.Outcomes.{Imports, CountsFit}
use Rattle.answering.proofs.Checks.{one_passes, two_pass, two_fail, none_behind, no_fault, has_fault}
use Rattle.answering.proofs.Told.{done_told}

-- ---- Deliver

module _ (s : State) (q : DeliverValue) where
  abbrev bytes_here : List (Option ErrorCode)
  bytes_here = bytes_checks (content_at s q.topic q.partition) q.batch

  pub deliver_place_fails : (code : ErrorCode) → first_some (unknown s q.topic q.partition ∷ not_follower s ∷ []) ≡ Some code → DoesTold (deliver_work s q) delivered_answer (Err (Check code)) s s
  deliver_place_fails code h = (none_behind (deliver_checks s q) ∙ two_fail (unknown s q.topic q.partition) (not_follower s) code bytes_here h, refl)

  rest_decides : first_some (unknown s q.topic q.partition ∷ not_follower s ∷ []) ≡ None → first_some (deliver_checks s q) ≡ first_some bytes_here
  rest_decides none = two_pass (unknown s q.topic q.partition) (not_follower s) bytes_here none

  pub deliver_done : (after : State) (r : Result Delivered Refused) → first_some (unknown s q.topic q.partition ∷ not_follower s ∷ []) ≡ None
      → DeliversBytesAt s q.topic q.partition q.batch r after → DoesTold (deliver_work s q) delivered_answer r s after
  deliver_done after (Ok d) none h =
      (none_behind (deliver_checks s q) ∙ rest_decides none ∙ h.0, (λ i. (record { code = pos 0; repeat = h.1 i }, h.2 i)))
  deliver_done after (Err (Check code)) none h = (none_behind (deliver_checks s q) ∙ rest_decides none ∙ h.0, h.1)
  deliver_done after (Err OutOfMemory) none h = (rest_decides none ∙ h.0, ap not h.1, h.2)

-- ---- Import

module _ (s : State) (q : ImportValue) where
  abbrev here : Content
  here = content_at s q.topic q.partition

  abbrev image_check : Option Content → Option ErrorCode
  image_check o = fault_if (is_none o) CorruptMessage

  abbrev place_passes : Type 0
  place_passes = first_some (place_checks s q.topic q.partition) ≡ None

  abbrev late : Option Content → Option ErrorCode
  late o = import_fault s.config.role here (unwrap_or o empty)

  all_but_place : place_passes → first_some ((import_work s q).early ++ (import_work s q).late) ≡ first_some (image_check (image_at q.image) ∷ late (image_at q.image) ∷ [])
  all_but_place none = two_pass (unknown s q.topic q.partition) (import_role_fault s.config.role here) (image_check (image_at q.image) ∷ late (image_at q.image) ∷ []) none

  early_but_place : place_passes → first_some (import_work s q).early ≡ first_some (image_check (image_at q.image) ∷ [])
  early_but_place none = two_pass (unknown s q.topic q.partition) (import_role_fault s.config.role here) (image_check (image_at q.image) ∷ []) none

  pub import_place_fails : (code : ErrorCode) → first_some (place_checks s q.topic q.partition) ≡ Some code → DoesTold (import_work s q) imported_answer (Err (Check code)) s s
  import_place_fails code h = (two_fail (unknown s q.topic q.partition) (import_role_fault s.config.role here) code (image_check (image_at q.image) ∷ late (image_at q.image) ∷ []) h, refl)

  -- bytes that aren't read as an image
  pub import_unread : (fault : Refused) → place_passes → IsReadAs q.image (Err fault) → DoesTold (import_work s q) imported_answer (Err fault) s s
  import_unread (Check code) none h =
      (all_but_place none ∙ ap (λ o. first_some (image_check o ∷ late o ∷ [])) h.0 ∙ ap Some (sym h.1), refl)
  import_unread OutOfMemory none (c, e) = (early_but_place none ∙ ap (λ o. first_some (image_check o ∷ [])) e, refl, refl)

  pub import_done : (c : Content) (after : State) (r : Result (Unit {0}) Refused) → place_passes → image_at q.image ≡ Some c
      → ChangesAt (Imports s.config.role c r) s q.topic q.partition after → DoesTold (import_work s q) imported_answer r s after
  import_done c after (Ok u) none e h =
      let given : unwrap_or (image_at q.image) empty ≡ c = ap (λ o. unwrap_or o empty) e in (
        all_but_place none ∙ ap (λ o. first_some (image_check o ∷ late o ∷ [])) e ∙ ap (λ x. first_some (x ∷ [])) h.1.0,
        (λ i. (imported_answer tt, (h.2 ∙ ap (with_content s q.topic q.partition) (h.1.1 ∙ ap (imported s.config.role here) (sym given))) i)),
      )
  import_done c after (Err (Check code)) none e (there, (fails, same), changed) =
      (all_but_place none ∙ ap (λ o. first_some (image_check o ∷ late o ∷ [])) e ∙ ap (λ x. first_some (x ∷ [])) fails, unchanged_at s after q.topic q.partition there same changed)
  import_done c after (Err OutOfMemory) none e (there, (passes, same), changed) =
      (early_but_place none ∙ ap (λ o. first_some (image_check o ∷ [])) e, refl, unchanged_at s after q.topic q.partition there same changed)

-- ---- Clean

pub known_passes : (s : State) (name : List ℕ) (p : ℤ) → is_known s name p ≡ true → unknown s name p ≡ None
known_passes s name p known = no_fault (not (is_known s name p)) UnknownTopicOrPartition (ap not known)

pub unknown_fails : (s : State) (name : List ℕ) (p : ℤ) → partition_at s name p ≡ None → unknown s name p ≡ Some UnknownTopicOrPartition
unknown_fails s name p none = has_fault (not (is_known s name p)) UnknownTopicOrPartition (ap (λ o. not (is_some o)) none)

pub found_passes : (s : State) (name : List ℕ) (p : ℤ) (c : Content) → partition_at s name p ≡ Some c → (unknown s name p ≡ None) × (content_at s name p ≡ c)
found_passes s name p c there = (known_passes s name p (ap is_some there), ap (λ o. unwrap_or o empty) there)

pub clean_lacks_memory : (s after : State) (name : List ℕ) (p : ℤ) (cleaning : Cleaning) → is_known s name p ≡ true → after ≡ s → DoesTold (cleaning_work s name p cleaning) clean_result (Err OutOfMemory) s after
clean_lacks_memory s after name p cleaning known same = (one_passes (unknown s name p) [] (known_passes s name p known), refl, same)

-- ---- what is answered

pub done_answers : {R S T : Type 0} (w : Work R S) (result : T → R) (x : T) (s after : S) → DoesWork w result (Ok x) s after → MayAnswer w s (result x) after
done_answers w result x s after h = inl (h.1 ∙ sym (ap (λ o. answer_after o w s) h.0))

pub failed_answers : {R S : Type 0} (w : Work R S) (code : ErrorCode) (s after : S) → FailsWork w code s after → MayAnswer w s (w.failed code) after
failed_answers w code s after (inl fails, same) = inl ((λ i. (w.failed code, same i)) ∙ sym (ap (λ o. answer_after o w s) fails))
failed_answers w code s after (inr lacks, same) = inr (record { passes = lacks.0; takes_memory = lacks.1; fails = ap w.failed lacks.2; unchanged = same })

-- what was written is a response to the work's answer
pub written : {R S : Type 0} (sent : ℤ → R → List ℕ) (w : Work R S) (s after : S) (r : R) (n z : ℤ) (out out' : List ℕ) → z ≡ n → MayAnswer w s r after → out' ≡ out ++ sent z r → WritesOnce (sent n) w s out out' after
written sent w s after r n z out out' same may e = record { result = r; answers = may; appends = e ∙ ap (λ m. out ++ sent m r) same }

-- the counts of a report are numbers of 64 bits
pub clean_answers : (s after : State) (name : List ℕ) (p : ℤ) (cleaning : Cleaning) (report : CleanReport) → CountsFit report → DoesTold (cleaning_work s name p cleaning) clean_result (Ok report) s after
    → AnswersTold Sufficed (cleaning_work s name p cleaning) s (record { code = pos 0; records = to_z w64 report.records; tombstones = to_z w64 report.tombstones; batches = to_z w64 report.batches }) after
clean_answers s after name p cleaning report fit did =
    let records = to_z_pos w64 report.records fit.records in
    let tombstones = to_z_pos w64 report.tombstones fit.tombstones in
    let batches = to_z_pos w64 report.batches fit.batches in
    subst (λ r. AnswersTold Sufficed (cleaning_work s name p cleaning) s r after) (λ i. record { code = pos 0; records = sym records i; tombstones = sym tombstones i; batches = sym batches i })
    (done_told (cleaning_work s name p cleaning) clean_result report s after did)

-- what is written for a cleaning whose numbers were passed by value
pub cleaning_writes : {E : Type 0} (r : Result Memory E) (n z : ℤ) (s after : State) (name : List ℕ) (p p' : ℤ) (cleaning passed : Cleaning) (out out' : List ℕ) → z ≡ n → p' ≡ p → passed ≡ cleaning
    → IfOk r (λ memory. WritesTold (clean_sent z) (cleaning_work s name p' passed) s out out' memory after) → IfOk r (λ memory. WritesTold (clean_sent n) (cleaning_work s name p cleaning) s out out' memory after)
cleaning_writes r n z s after name p p' cleaning passed out out' same_n same_p same h =
    subst (λ (k : ℤ × (ℤ × Cleaning)). IfOk r (λ memory. WritesTold (clean_sent k.0) (cleaning_work s name k.1.0 k.1.1) s out out' memory after))
    (λ i. (same_n i, (same_p i, same i))) h

-- ---- what requests that only read find

abbrev pub get_answer : Option (Bor (List ℕ)) → GetResult
get_answer value = record { code = no_error; value = option_map (λ bytes. bytes.now) value }

abbrev pub export_answer : {A : Type 0} → Vec ℕ A → ExportResult
export_answer image = record { code = no_error; sent = image.items }

abbrev pub cover_answer : Bor Runs → CoverResult
cover_answer runs = record { code = no_error; runs = runs.now }
