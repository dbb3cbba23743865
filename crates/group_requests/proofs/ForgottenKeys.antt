-- What forgetting a group's keys comes to.
use Rattle.std.proofs.Common.{◌≡◌, ◌≤◌, ℕ, ℤ, pos, Bool, true, false, List, [], ◌∷◌, length, Option, Some, None, Result, Ok, Err, refl, sym, ap, subst, ◌∙◌, arith}
use Rattle.std.specs.Prelude.{not, nat_le, map}
use Rattle.std.specs.Option.{option_map}
use Rattle.std.proofs.lemmas.List.{length-map}
use Rattle.batch_codec.specs.Values.{BatchValue}
use Rattle.batch_codec.specs.Grammar.{Writable, batch_encoding}
use Rattle.batch_codec.specs.declared.layout.TheConstants.{MAX_BATCH_BYTES}
use Rattle.group_offsets.specs.declared.forget.TheConstants.{MAX_FORGOTTEN}
use Rattle.group_offsets.specs.Batches.{forget_batch}
use Rattle.group_offsets.specs.Groups.{group_keys}
use Rattle.group_offsets.proofs.BatchSizes.{some_fit}
use Rattle.group_offsets.proofs.ValidBatches.{null_count}
use Rattle.answering.specs.declared.codes.ErrorCode.{ErrorCode}
use Rattle.answering.specs.declared.codes.ErrorCode.TheVariants.{MessageTooLarge}
use Rattle.answering.specs.declared.memory.Refused.{Refused}
use Rattle.answering.specs.declared.memory.Refused.TheVariants.{Check, OutOfMemory}
use Rattle.answering.specs.Lists.{first_some, fault_if}
use Rattle.answering.specs.Doing.{DoesTold}
use Rattle.answering.proofs.Checks.{one_passes, no_fault, has_fault, two_pass, two_fail}
use Rattle.broker_state.specs.Batches.{append_fault}
use Rattle.broker_state.specs.Checks.{no_group, not_leader}
use Rattle.broker_state.specs.Codes.{append_code}
use Rattle.broker_state.specs.State.{State, group_topic}
use Rattle.broker_state.proofs.OwnContent.{unchanged_at}
use Rattle.group_requests.specs.GroupPartition.{group_content, with_group_content}
use Rattle.group_requests.specs.Appending.{AppendsToGroups}
use Rattle.group_requests.specs.ForgetGroup.{is_within_limit, forget_group_checks, forgotten, forget_group_work}
use Rattle.group_requests.specs.ForgetGroup.Entries.{IsBatchOf, AppendsCounted, ForgetsKeys, forgotten_answer}

-- ---- the batch

is_small : (n m : ℕ) → n ≤ m → nat_le n m ≡ true
is_small n m le = grind (arith, le)

small : (n m : ℕ) → nat_le n m ≡ true → n ≤ m
small n m e = grind (arith, e)

not_small : (b : BatchValue) (t : Bool) → is_within_limit b ≡ t → ¬ (length (batch_encoding b) ≤ MAX_BATCH_BYTES) → t ≡ false
not_small b true e over = absurd (over (small (length (batch_encoding b)) MAX_BATCH_BYTES e))
not_small b false e over = refl

pub too_large : (keys : List (List ℕ)) → 1 ≤ length keys → ¬ Writable (forget_batch keys) → is_within_limit (forget_batch keys) ≡ false
too_large keys some unwritable = not_small (forget_batch keys) (is_within_limit (forget_batch keys)) refl (λ fits. unwritable (some_fit keys some fits))

pub forget_count : (keys : List (List ℕ)) → length (forget_batch keys).recs ≡ length keys
unfolding forget_batch
forget_count keys = null_count 0 keys

pub few_records : (keys : List (List ℕ)) (b : BatchValue) → length keys ≤ MAX_FORGOTTEN → b ≡ forget_batch keys → length b.recs ≤ MAX_FORGOTTEN
few_records keys b few is =
    let many : length b.recs ≡ length keys = ap (λ (x : BatchValue). length x.recs) is ∙ forget_count keys in
    omega (arith, many, few)

module _ {A B : Type 0} (f : A → B) (xs : List A) where
  pub as_many : 1 ≤ length xs → 1 ≤ length (map f xs)
  as_many some = let same = length-map xs f in omega (arith, same, some)

  pub as_few : length xs ≤ MAX_FORGOTTEN → length (map f xs) ≤ MAX_FORGOTTEN
  as_few few = let same = length-map xs f in omega (arith, same, few)

-- ---- the keys

-- what is done with some keys
abbrev Forgets : State → List (List ℕ) → Result ℤ Refused → State → Type 0
Forgets s keys (Ok count) after =
    (first_some (forget_group_checks (group_content s) keys) ≡ None) × (count ≡ pos (length keys)) × (after ≡ with_group_content s (forgotten (group_content s) keys))
Forgets s keys (Err (Check code)) after = (first_some (forget_group_checks (group_content s) keys) ≡ Some code) × (after ≡ s)
Forgets s keys (Err OutOfMemory) after = after ≡ s

pub nothing_forgotten : (s : State) (keys : List (List ℕ)) → keys ≡ [] → Forgets s keys (Ok (pos 0)) s
nothing_forgotten s keys none =
    subst (λ ks. Forgets s ks (Ok (pos 0)) s) (sym none) (refl, refl, sym (unchanged_at s (with_group_content s (group_content s)) group_topic (pos 0) (group_content s) refl refl))

pub not_sent : (s : State) (keys : List (List ℕ)) (fault : Refused) → IsBatchOf keys (Err fault) → Forgets s keys (Err fault) s
not_sent s keys OutOfMemory lacks = refl
not_sent s [] (Check code) large = absurd (let some = large.0 in omega (arith, some))
not_sent s (key ∷ keys) (Check code) large =
    let b = forget_batch (key ∷ keys) in
    let test : not (is_within_limit b) ≡ true = ap not large.1 in
    (ap (λ f. first_some (f ∷ option_map append_code (append_fault (group_content s) b) ∷ [])) (has_fault (not (is_within_limit b)) MessageTooLarge test) ∙ ap Some (sym large.2), refl)

module _ (s after : State) (key : List ℕ) (keys : List (List ℕ)) (w : Writable (forget_batch (key ∷ keys))) where
  abbrev b : BatchValue
  b = forget_batch (key ∷ keys)

  append_decides : first_some (forget_group_checks (group_content s) (key ∷ keys)) ≡ first_some (option_map append_code (append_fault (group_content s) b) ∷ [])
  append_decides =
      one_passes (fault_if (not (is_within_limit b)) MessageTooLarge) (option_map append_code (append_fault (group_content s) b) ∷ [])
      (no_fault (not (is_within_limit b)) MessageTooLarge (ap not (is_small (length (batch_encoding b)) MAX_BATCH_BYTES w.size)))

  sent : AppendsToGroups s b (Ok tt) after → Forgets s (key ∷ keys) (Ok (pos (length (key ∷ keys)))) after
  sent h = (append_decides ∙ ap (λ o. first_some (option_map append_code o ∷ [])) h.0, refl, h.1)

  refused : (fault : Refused) → AppendsToGroups s b (Err fault) after → Forgets s (key ∷ keys) (Err fault) after
  refused (Check code) h = (append_decides ∙ ap (λ o. first_some (o ∷ [])) h.0, h.1)
  refused OutOfMemory same = same

pub batch_appended : (s after : State) (keys : List (List ℕ)) (b : BatchValue) (r : Result ℤ Refused) → 1 ≤ length keys → b ≡ forget_batch keys → Writable b
    → AppendsCounted s b r after → Forgets s keys r after
batch_appended s after [] b r some is w h = absurd (omega (arith, some))
batch_appended s after (key ∷ keys) b (Ok count) some is w h =
    let many : count ≡ pos (length (key ∷ keys)) = h.0 ∙ ap (λ (x : BatchValue). pos (length x.recs)) is ∙ ap pos (forget_count (key ∷ keys)) in
    subst (λ n. Forgets s (key ∷ keys) (Ok n) after) (sym many) (sent s after key keys (subst Writable is w) (subst (λ x. AppendsToGroups s x (Ok tt) after) is h.1))
batch_appended s after (key ∷ keys) b (Err fault) some is w h =
    refused s after key keys (subst Writable is w) fault (subst (λ x. AppendsToGroups s x (Err fault) after) is h)

-- ---- the request

module _ (s : State) (group : List ℕ) where
  abbrev late : List (Option ErrorCode)
  late = forget_group_checks (group_content s) (group_keys (group_content s) group)

  pub forget_fails : (code : ErrorCode) → Some code ≡ first_some (no_group group ∷ not_leader s ∷ []) → DoesTold (forget_group_work s group) forgotten_answer (Err (Check code)) s s
  forget_fails code h = (two_fail (no_group group) (not_leader s) code late (sym h), refl)

  pub forget_done : (r : Result ℤ Refused) (after : State) → None ≡ first_some (no_group group ∷ not_leader s ∷ []) → ForgetsKeys s group r after → DoesTold (forget_group_work s group) forgotten_answer r s after
  forget_done (Ok count) after none h =
      (two_pass (no_group group) (not_leader s) late (sym none) ∙ h.0, (λ i. (forgotten_answer (h.1 i), h.2 i)))
  forget_done (Err (Check code)) after none h = (two_pass (no_group group) (not_leader s) late (sym none) ∙ h.0, h.1)
  forget_done (Err OutOfMemory) after none same = (sym none, refl, same)
