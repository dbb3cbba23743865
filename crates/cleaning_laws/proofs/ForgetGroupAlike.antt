-- ForgetGroup: two states that are alike answer it alike.
use Rattle.std.proofs.Common.{◌≡◌, ◌≤◌, ℕ, ℤ, pos, Bool, true, false, not, List, [], ◌∷◌, ◌++◌, length, Option, Some, None, refl, sym, ap, subst, ◌∙◌, arith}
use Rattle.std.specs.Option.{option_map}
use Rattle.std.specs.List.{filter_map}
use Rattle.batch_codec.specs.Values.{BatchValue}
use Rattle.batch_codec.specs.Grammar.{Writable, batch_encoding}
use Rattle.batch_codec.specs.declared.layout.TheConstants.{MAX_BATCH_BYTES}
use Rattle.cover_ranges.specs.Runs.{Runs}
use Rattle.content.specs.Content.{Content}
use Rattle.content.specs.Records.{log_records}
use Rattle.content.specs.Copies.{IsCopy}
use Rattle.request_frames.specs.Requests.BodyValue.{forget_group}
use Rattle.responses.specs.declared.forget_group.ForgetGroupAnswer.{ForgetGroupAnswer}
use Rattle.group_offsets.specs.Batches.{forget_batch}
use Rattle.group_offsets.specs.Groups.{shown_records, key_of_group, group_keys}
use Rattle.group_offsets.proofs.BatchSizes.{some_fit}
use Rattle.answering.specs.declared.codes.ErrorCode.{ErrorCode}
use Rattle.answering.specs.declared.codes.ErrorCode.TheVariants.{MessageTooLarge}
use Rattle.answering.specs.Codes.{no_error}
use Rattle.answering.specs.Lists.{fault_if, first_some}
use Rattle.broker_state.specs.declared.config.Role.{Role}
use Rattle.broker_state.specs.declared.config.Role.TheVariants.{Leader, Follower}
use Rattle.broker_state.specs.Batches.{append_fault}
use Rattle.broker_state.specs.Checks.{no_group, role_code, not_leader}
use Rattle.broker_state.specs.Codes.{append_code}
use Rattle.broker_state.specs.State.{State, group_topic, is_known, content_at}
use Rattle.broker_state.proofs.Passed.{none_first, none_both, no_fault}
use Rattle.group_requests.specs.GroupPartition.{group_content, with_group_content}
use Rattle.group_requests.specs.ForgetGroup.{is_within_limit, forget_group_checks, forgotten, forget_group_work, forget_group_sent}
use Rattle.group_requests.proofs.OffsetCommitEntries.{leads}
use Rattle.broker_node.specs.Replies.{reply_to}
use Rattle.cleaning_laws.specs.Logs.{Logs, IsPartitionOf}
use Rattle.cleaning_laws.specs.Alike.{AreAlike, StayAlike}
use Rattle.cleaning_laws.proofs.Seen.{same_cover}
use Rattle.cleaning_laws.proofs.TopicsAlike.{Same}
use Rattle.cleaning_laws.proofs.BothAppend.{seen_same, known_same, role_same, unknown_same, own_stay, same_fault, both_appended}
use Rattle.cleaning_laws.proofs.SentBatches.{no_code}
use Rattle.cleaning_laws.proofs.WorksAlike.{same_work}
use Rattle.cleaning_laws.proofs.ShownAlike.{seen_records, shown_of_copy}

-- ---- the same records are shown

pub copy_of_part : (role : Role) (c : Content) (log : List BatchValue) → IsPartitionOf role c log → IsCopy c log
copy_of_part Leader c log is = is.copy.copy
copy_of_part Follower c log is = is.copy.0

shown_of_part : (role : Role) (c : Content) (log : List BatchValue) → IsPartitionOf role c log → shown_records (log_records c.kept) ≡ shown_records (seen_records c.cover log)
shown_of_part role c log is = shown_of_copy c log is.content is.plain (copy_of_part role c log is)

module _ (logs : Logs) (s z : State) (name : List ℕ) (p : ℤ) (alike : AreAlike logs s z) where
  pub same_shown_records : shown_records (log_records (content_at s name p).kept) ≡ shown_records (log_records (content_at z name p).kept)
  same_shown_records = by (is_known s name p) refl
    where
      by : (b : Bool) → is_known s name p ≡ b → shown_records (log_records (content_at s name p).kept) ≡ shown_records (log_records (content_at z name p).kept)
      by true known =
          shown_of_part s.config.role (content_at s name p) (logs name p) (alike.one name p known)
          ∙ ap (λ (runs : Runs). shown_records (seen_records runs (logs name p))) (same_cover (content_at s name p) (content_at z name p) (seen_same logs s z name p alike))
          ∙ sym (shown_of_part z.config.role (content_at z name p) (logs name p) (alike.other name p (sym (known_same logs s z name p alike) ∙ known)))
      by false unknown = ap (λ (c : Content). shown_records (log_records c.kept)) (unknown_same logs s z name p alike unknown)

keys_by : (c d : Content) (group : List ℕ) → shown_records (log_records c.kept) ≡ shown_records (log_records d.kept) → group_keys c group ≡ group_keys d group
unfolding group_keys
keys_by c d group same = ap (filter_map (key_of_group group)) same

module _ (logs : Logs) (s z : State) (group : List ℕ) (alike : AreAlike logs s z) where
  same_keys : group_keys (group_content s) group ≡ group_keys (group_content z) group
  same_keys = keys_by (group_content s) (group_content z) group (same_shown_records logs s z group_topic (pos 0) alike)

  -- ---- the first fault

  abbrev fault_of : Role → List (Option ErrorCode) → Option ErrorCode
  fault_of role late = first_some ((no_group group ∷ role_code role ∷ []) ++ late)

  by_role : (role : Role) (f g : List (Option ErrorCode)) → (role ≡ Leader → f ≡ g) → fault_of role f ≡ fault_of role g
  by_role Leader f g same = ap (fault_of Leader) (same refl)
  by_role Follower f g same = refl

  checks_by : (keys : List (List ℕ)) → s.config.role ≡ Leader → forget_group_checks (group_content s) keys ≡ forget_group_checks (group_content z) keys
  checks_by [] leads = refl
  checks_by (key ∷ keys) leads =
      ap (λ fault. fault_if (not (is_within_limit (forget_batch (key ∷ keys)))) MessageTooLarge ∷ option_map append_code fault ∷ [])
      (same_fault logs s z group_topic (pos 0) alike (forget_batch (key ∷ keys)) leads)

  same_checks : s.config.role ≡ Leader → forget_group_checks (group_content s) (group_keys (group_content s) group) ≡ forget_group_checks (group_content z) (group_keys (group_content z) group)
  same_checks leads = checks_by (group_keys (group_content s) group) leads ∙ ap (forget_group_checks (group_content z)) same_keys

  abbrev first_of : State → Option ErrorCode
  first_of m = first_some ((forget_group_work m group).early ++ (forget_group_work m group).late)

  same_first : first_of s ≡ first_of z
  same_first =
      by_role s.config.role (forget_group_work s group).late (forget_group_work z group).late same_checks
      ∙ ap (λ (role : Role). fault_of role (forget_group_work z group).late) (role_same logs s z group_topic (pos 0) alike)

  -- ---- what is done

  passed : first_of s ≡ None → (s.config.role ≡ Leader) × (first_some (forget_group_work s group).late ≡ None)
  passed none =
      let parts = none_both (forget_group_work s group).early (forget_group_work s group).late none in
      let named = none_first (no_group group) _ parts.0 in
      let role = none_first (not_leader s) None named.1 in
      (leads s.config.role role.0, parts.1)

  keys_forgotten : (keys : List (List ℕ)) → s.config.role ≡ Leader → first_some (forget_group_checks (group_content s) keys) ≡ None
      → StayAlike logs (with_group_content s (forgotten (group_content s) keys)) (with_group_content z (forgotten (group_content z) keys))
  keys_forgotten [] leads none = own_stay logs s z group_topic (pos 0) alike
  keys_forgotten (key ∷ keys) leads none =
      let b = forget_batch (key ∷ keys) in
      let size = none_first (fault_if (not (is_within_limit b)) MessageTooLarge) _ none in
      let append = none_first (option_map append_code (append_fault (group_content s) b)) None size.1 in
      let over = no_fault (not (is_within_limit b)) MessageTooLarge size.0 in
      let small : length (batch_encoding b) ≤ MAX_BATCH_BYTES = grind (arith, over) in
      let writable : Writable b = some_fit (key ∷ keys) (omega arith) small in
      (both_appended logs s z group_topic (pos 0) alike b leads writable (no_code append_code (append_fault (group_content s) b) append.0)).1

  done : first_of s ≡ None → Same (StayAlike logs) (forget_group_work s group).done (forget_group_work z group).done
  done none =
      let all = passed none in (
        (λ i. record { code = no_error; count = pos (length (same_keys i)) }),
        subst (λ (keys : List (List ℕ)). StayAlike logs (with_group_content s (forgotten (group_content s) (group_keys (group_content s) group))) (with_group_content z (forgotten (group_content z) keys))) same_keys
            (keys_forgotten (group_keys (group_content s) group) all.0 all.1),
      )

  pub forget_group_alike : (correlation : ℤ) → Same (StayAlike logs) (reply_to s correlation (forget_group group)) (reply_to z correlation (forget_group group))
  forget_group_alike correlation =
      let one = same_work logs s z (forget_group_work s group) (forget_group_work z group) alike same_first (λ code. refl) done in
      (ap (λ (r : ForgetGroupAnswer). Some (forget_group_sent correlation r)) one.0, one.1)
