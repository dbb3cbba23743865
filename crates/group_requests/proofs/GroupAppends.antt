-- What appending a batch to the group partition comes to.
use Rattle.std.proofs.Common.{◌≡◌, pos, Ok, Err, sym, ap, subst}
use Rattle.std.specs.Option.{option_map}
use Rattle.batch_codec.specs.Values.{BatchValue}
use Rattle.partition_log.specs.declared.leader.AppendError.{AppendError}
use Rattle.partition_log.specs.declared.leader.AppendError.TheVariants.{NotWhole, NoKey, BadProducer, OldEpoch, OutOfOrder, OffsetsFull, OutOfMemory}
use Rattle.partition_log.specs.declared.leader.Appended.{Appended}
use Rattle.answering.specs.declared.memory.Refused.{Refused}
use Rattle.broker_state.specs.Appending.{AppendsAt}
use Rattle.broker_state.specs.Batches.{append_fault, FaultIs}
use Rattle.broker_state.specs.Codes.{append_code, append_refused}
use Rattle.broker_state.specs.State.{State, group_topic}
use Rattle.broker_state.proofs.OwnContent.{appended_at, not_appended_at}
use Rattle.group_requests.specs.GroupPartition.{group_content}
use Rattle.group_requests.specs.Appending.{AppendsToGroups}

module _ (s after : State) (b : BatchValue) where
  pub is_appended : (made : Appended) → AppendsAt s group_topic (pos 0) b (Ok made) after → AppendsToGroups s b (Ok tt) after
  is_appended made h =
      let did = appended_at s after group_topic (pos 0) b made h in
      (did.0, did.2)

  refusal : (e : AppendError) → FaultIs e (append_fault (group_content s) b) → after ≡ s → AppendsToGroups s b (Err (append_refused e)) after
  refusal NotWhole fault same = (ap (option_map append_code) fault, same)
  refusal NoKey fault same = (ap (option_map append_code) fault, same)
  refusal BadProducer fault same = (ap (option_map append_code) fault, same)
  refusal OldEpoch fault same = (ap (option_map append_code) fault, same)
  refusal OutOfOrder fault same = (ap (option_map append_code) fault, same)
  refusal OffsetsFull fault same = (ap (option_map append_code) fault, same)
  refusal OutOfMemory fault same = same

  pub is_not_appended : (e : AppendError) (refused : Refused) → refused ≡ append_refused e → AppendsAt s group_topic (pos 0) b (Err e) after → AppendsToGroups s b (Err refused) after
  is_not_appended e refused is h =
      let did = not_appended_at s after group_topic (pos 0) b e h in
      subst (λ x. AppendsToGroups s b (Err x) after) (sym is) (refusal e did.0 did.2)
