-- What an entry of an OffsetCommit request comes to.
use Rattle.std.proofs.Common.{◌≡◌, ℕ, List, ◌++◌, Option, Some, None, Result, Ok, Err, refl, sym, ap, subst, ◌∙◌}
use Rattle.std.specs.Prelude.{not}
use Rattle.std.specs.Option.{option_map}
use Rattle.std.specs.Ordering.{int_eq}
use Rattle.request_frames.specs.OffsetCommit.{OffsetCommitValue, OffsetCommitPartitionValue}
use Rattle.answering.specs.declared.codes.ErrorCode.{ErrorCode}
use Rattle.answering.specs.declared.codes.ErrorCode.TheVariants.{IllegalGeneration}
use Rattle.answering.specs.declared.memory.Refused.{Refused}
use Rattle.answering.specs.declared.memory.Refused.TheVariants.{Check, OutOfMemory}
use Rattle.answering.specs.Lists.{first_some, fault_if}
use Rattle.answering.specs.Codes.{no_error}
use Rattle.answering.specs.Doing.{DoesTold}
use Rattle.answering.proofs.Checks.{two_pass, last_check, early_check}
use Rattle.broker_state.specs.declared.config.Role.{Role}
use Rattle.broker_state.specs.declared.config.Role.TheVariants.{Leader, Follower}
use Rattle.broker_state.specs.Batches.{append_fault}
use Rattle.broker_state.specs.Checks.{no_group, role_code}
use Rattle.broker_state.specs.Codes.{append_code}
use Rattle.broker_state.specs.State.{State}
use Rattle.group_requests.specs.GroupPartition.{group_content}
use Rattle.group_requests.specs.Appending.{AppendsToGroups}
use Rattle.group_requests.specs.OffsetCommit.{offset_commit_generation, offset_commit_batch, offset_commit_result, offset_commit_work}
use Rattle.group_requests.specs.OffsetCommit.Entries.{request_checks, entry_checks}

pub leads : (role : Role) → role_code role ≡ None → role ≡ Leader
leads Leader none = refl
leads Follower none = absurd cc

module _ (s : State) (q : OffsetCommitValue) (name : List ℕ) (e : OffsetCommitPartitionValue) where
  abbrev early : List (Option ErrorCode)
  early = request_checks q ++ entry_checks s name e

  abbrev late : Option ErrorCode
  late = option_map append_code (append_fault (group_content s) (offset_commit_batch q.group name e))

  -- an entry of numbers that were passed on by value
  pub entry_decides : (e' : OffsetCommitPartitionValue) (fault : Option ErrorCode) → e' ≡ e → None ≡ first_some (request_checks q) → fault ≡ first_some (entry_checks s name e')
      → fault ≡ first_some (offset_commit_work s q name e).early
  entry_decides e' fault same none is =
      is ∙ ap (λ x. first_some (entry_checks s name x)) same
      ∙ sym (two_pass (no_group q.group) (fault_if (not (int_eq q.generation offset_commit_generation)) IllegalGeneration) (entry_checks s name e) (sym none))

  pub commit_fails : (e' : OffsetCommitPartitionValue) (code : ErrorCode) → e' ≡ e → Some code ≡ first_some (offset_commit_work s q name e').early
      → DoesTold (offset_commit_work s q name e) (λ (done : Unit {0}). offset_commit_result e.partition no_error) (Err (Check code)) s s
  commit_fails e' code same h =
      (early_check early late code (sym (h ∙ ap (λ x. first_some (offset_commit_work s q name x).early) same)), refl)

  by_done : (r : Result (Unit {0}) Refused) (after : State) → first_some early ≡ None → AppendsToGroups s (offset_commit_batch q.group name e) r after
      → DoesTold (offset_commit_work s q name e) (λ done. offset_commit_result e.partition no_error) r s after
  by_done (Ok done) after none h =
      (last_check early late none ∙ ap (option_map append_code) h.0, (λ i. (offset_commit_result e.partition no_error, h.1 i)))
  by_done (Err (Check code)) after none h = (last_check early late none ∙ h.0, h.1)
  by_done (Err OutOfMemory) after none same = (none, refl, same)

  pub commit_done : (checked sent : OffsetCommitPartitionValue) (r : Result (Unit {0}) Refused) (after : State) → checked ≡ e → sent ≡ e
      → None ≡ first_some (offset_commit_work s q name checked).early → AppendsToGroups s (offset_commit_batch q.group name sent) r after
      → DoesTold (offset_commit_work s q name e) (λ done. offset_commit_result e.partition no_error) r s after
  commit_done checked sent r after same_checked same_sent none h =
      by_done r after (sym (none ∙ ap (λ x. first_some (offset_commit_work s q name x).early) same_checked))
      (subst (λ x. AppendsToGroups s (offset_commit_batch q.group name x) r after) same_sent h)
