-- Two leaders that are alike append a batch to a partition: they find the same fault or none, answer the same base offset,
-- and stay alike.
use Rattle.std.proofs.Common.{◌≡◌, ◌^◌, ℕ, ℤ, pos, ◌+ℤ◌, Bool, true, false, not, List, [], ◌∷◌, Option, Some, None, refl, sym, ap, subst, ◌∙◌}
use Rattle.std.specs.Prelude.{◌<ℤ◌, int_lt, is_some}
use Rattle.std.specs.Option.{unwrap_or}
use Rattle.batch_codec.specs.Values.{BatchValue}
use Rattle.batch_codec.specs.Grammar.{Writable}
use Rattle.batch_codec.specs.Rebase.{with_base}
use Rattle.content.specs.declared.verdict.Verdict.{Verdict}
use Rattle.content.specs.declared.verdict.Verdict.TheVariants as verdict
use Rattle.content.specs.Content.{Content, empty, add, end}
use Rattle.content.specs.Windows.{heads, heads_from}
use Rattle.content.specs.Verdicts.{verdict_on}
use Rattle.content_laws.proofs.LeaderVerdicts.{leader_verdict}
use Rattle.partition_log.specs.declared.leader.AppendError.{AppendError}
use Rattle.partition_log.specs.declared.leader.AppendError.TheVariants.{NotWhole, NoKey, BadProducer, OldEpoch, OutOfOrder, OffsetsFull}
use Rattle.partition_log.specs.Appends.{IsSendable, HasOffsets, kept_verdict, at_end}
use Rattle.answering.specs.Lists.{fault_if, first_some}
use Rattle.broker_state.specs.declared.config.Role.{Role}
use Rattle.broker_state.specs.declared.config.Role.TheVariants.{Leader}
use Rattle.broker_state.specs.State.{ConfigValue, State, partition_at, is_known, content_at, with_content}
use Rattle.broker_state.specs.Batches.{is_whole, has_keys, is_producer_valid, verdict_fault, append_fault, appended_by, appended}
use Rattle.broker_state.proofs.AppendFaults.{no_fault_sends, new_has_offsets}
use Rattle.cleaning_laws.specs.Logs.{Logs, IsPartitionOf}
use Rattle.cleaning_laws.specs.Alike.{seen_of, AreAlike, StayAlike}
use Rattle.cleaning_laws.proofs.Seen.{same_known, same_seen, same_start, same_end, with_own, both_with}
use Rattle.cleaning_laws.proofs.Stated.{state_with}
use Rattle.cleaning_laws.proofs.TopicsAlike.{Same}
use Rattle.cleaning_laws.proofs.GrownLogs.{grown_logs, stay, grown_here, grown_other_name, grown_other_index, grown_grows}
use Rattle.cleaning_laws.proofs.NewBatches.{new_partition, same_added}

-- ---- a fault reads the end and the verdict

abbrev fault_at : ℤ → BatchValue → Verdict → Option AppendError
fault_at e b verdict.New = fault_if (not (int_lt (e +ℤ b.head.last_delta) (pos (2 ^ 62)))) OffsetsFull
fault_at e b (verdict.Repeat base) = None
fault_at e b verdict.OldEpoch = Some OldEpoch
fault_at e b verdict.OutOfOrder = Some OutOfOrder

verdict_fault_is : (c : Content) (b : BatchValue) (v : Verdict) → verdict_fault c b v ≡ fault_at (end c) b v
verdict_fault_is c b verdict.New = refl
verdict_fault_is c b (verdict.Repeat base) = refl
verdict_fault_is c b verdict.OldEpoch = refl
verdict_fault_is c b verdict.OutOfOrder = refl

abbrev fault_with : BatchValue → Option AppendError → Option AppendError
fault_with b fault = first_some (
    fault_if (not (is_whole b)) NotWhole
    ∷ fault_if (not (has_keys b)) NoKey
    ∷ fault_if (not (is_producer_valid b.head)) BadProducer
    ∷ fault
    ∷ [])

pub equal_fault : (c d : Content) (b : BatchValue) → end c ≡ end d → kept_verdict c b ≡ kept_verdict d b → append_fault c b ≡ append_fault d b
equal_fault c d b ends verdicts =
    ap (fault_with b) (verdict_fault_is c b (kept_verdict c b) ∙ (λ i. fault_at (ends i) b (verdicts i)) ∙ sym (verdict_fault_is d b (kept_verdict d b)))

-- ---- the two partitions

nothing_there : (o : Option Content) → is_some o ≡ false → unwrap_or o empty ≡ empty
nothing_there None e = refl
nothing_there (Some c) e = absurd cc

-- an unknown partition is empty
pub unknown_is_empty : (s : State) (name : List ℕ) (p : ℤ) → is_known s name p ≡ false → content_at s name p ≡ empty
unknown_is_empty s name p unknown = nothing_there (partition_at s name p) unknown

module _ (logs : Logs) (s z : State) (name : List ℕ) (p : ℤ) (alike : AreAlike logs s z) where
  abbrev c : Content
  c = content_at s name p

  abbrev d : Content
  d = content_at z name p

  pub seen_same : seen_of (content_at s name p) ≡ seen_of (content_at z name p)
  seen_same = same_seen s z name p alike.seen

  pub ends_same : end (content_at s name p) ≡ end (content_at z name p)
  ends_same = same_end c d seen_same

  pub known_same : is_known s name p ≡ is_known z name p
  known_same = same_known s z name p alike.seen

  pub role_same : s.config.role ≡ z.config.role
  role_same = ap (λ (g : ConfigValue). g.role) alike.config

  -- unknown partitions are equal
  pub unknown_same : is_known s name p ≡ false → content_at s name p ≡ content_at z name p
  unknown_same unknown = unknown_is_empty s name p unknown ∙ sym (unknown_is_empty z name p (sym known_same ∙ unknown))

  -- what is there already leaves both states
  pub own_stay : StayAlike logs (with_content s name p (content_at s name p)) (with_content z name p (content_at z name p))
  own_stay = subst (λ (m : State). StayAlike logs m (with_content z name p d)) (sym (with_own s name p))
      (subst (λ (m : State). StayAlike logs s m) (sym (with_own z name p)) (stay logs s z alike))

  module _ (b : BatchValue) (leads : s.config.role ≡ Leader) where
    leads_too : z.config.role ≡ Leader
    leads_too = sym role_same ∙ leads

    part_one : is_known s name p ≡ true → IsPartitionOf Leader (content_at s name p) (logs name p)
    part_one known = subst (λ (role : Role). IsPartitionOf role c (logs name p)) leads (alike.one name p known)

    part_other : is_known z name p ≡ true → IsPartitionOf Leader (content_at z name p) (logs name p)
    part_other known = subst (λ (role : Role). IsPartitionOf role d (logs name p)) leads_too (alike.other name p known)

    pub same_verdict : kept_verdict (content_at s name p) b ≡ kept_verdict (content_at z name p) b
    same_verdict = by (is_known s name p) refl
      where
        by : (k : Bool) → is_known s name p ≡ k → kept_verdict (content_at s name p) b ≡ kept_verdict (content_at z name p) b
        by true known =
            let one = part_one known in
            let other = part_other (sym known_same ∙ known) in
            leader_verdict c (logs name p) b.head one.content one.plain one.copy
            ∙ ap (λ (o : ℤ). verdict_on (heads_from o (heads (logs name p))) b.head) (same_start c d seen_same)
            ∙ sym (leader_verdict d (logs name p) b.head other.content other.plain other.copy)
        by false unknown = ap (λ (x : Content). kept_verdict x b) (unknown_same unknown)

    pub same_fault : append_fault (content_at s name p) b ≡ append_fault (content_at z name p) b
    same_fault = equal_fault c d b ends_same same_verdict

    -- the base offset that is answered, and the state after
    abbrev appended_one : Verdict → ℤ × State
    appended_one v = ((appended_by v c b).0, with_content s name p (appended_by v c b).1)

    abbrev appended_other : Verdict → ℤ × State
    appended_other v = ((appended_by v d b).0, with_content z name p (appended_by v d b).1)

    new_same : at_end (content_at s name p) b ≡ at_end (content_at z name p) b
    new_same = ap (λ (o : ℤ). with_base o (pos 0) b) ends_same

    module _ (writable : Writable b) (none : append_fault (content_at s name p) b ≡ None) where
      sendable : IsSendable b
      sendable = (no_fault_sends c b none).0

      new_one : HasOffsets (content_at s name p) b → kept_verdict (content_at s name p) b ≡ verdict.New → is_known s name p ≡ true → IsPartitionOf s.config.role (add c (at_end c b)) (grown_logs logs name p (at_end c b) name p)
      new_one offsets new known =
          subst (λ (role : Role). IsPartitionOf role (add c (at_end c b)) (grown_logs logs name p (at_end c b) name p)) (sym leads)
          (subst (λ (log : List BatchValue). IsPartitionOf Leader (add c (at_end c b)) log) (sym (grown_here logs name p (at_end c b)))
          (new_partition c (logs name p) (part_one known) b writable sendable offsets new))

      new_other : HasOffsets (content_at z name p) b → kept_verdict (content_at z name p) b ≡ verdict.New → is_known z name p ≡ true → IsPartitionOf z.config.role (add d (at_end d b)) (grown_logs logs name p (at_end c b) name p)
      new_other offsets new known =
          subst (λ (role : Role). IsPartitionOf role (add d (at_end d b)) (grown_logs logs name p (at_end c b) name p)) (sym leads_too)
          (subst (λ (x : BatchValue). IsPartitionOf Leader (add d (at_end d b)) (grown_logs logs name p x name p)) (sym new_same)
          (subst (λ (log : List BatchValue). IsPartitionOf Leader (add d (at_end d b)) log) (sym (grown_here logs name p (at_end d b)))
          (new_partition d (logs name p) (part_other known) b writable sendable offsets new)))

      both_new : HasOffsets (content_at s name p) b → kept_verdict (content_at s name p) b ≡ verdict.New → Same (StayAlike logs) (appended_one verdict.New) (appended_other verdict.New)
      both_new offsets new =
          let longer = grown_logs logs name p (at_end c b) in
          let room : HasOffsets d b = subst (λ (o : ℤ). (o +ℤ b.head.last_delta) <ℤ pos (2 ^ 62)) ends_same offsets in
          let added = same_added c d (at_end c b) seen_same ∙ ap (λ (x : BatchValue). seen_of (add d x)) new_same in (
            ends_same,
            record {
              longer = longer;
              grows = grown_grows logs name p (at_end c b);
              alike = record {
                one = state_with logs longer s name p (add c (at_end c b)) alike.one (grown_other_name logs name p (at_end c b)) (grown_other_index logs name p (at_end c b)) (new_one offsets new);
                other = state_with logs longer z name p (add d (at_end d b)) alike.other (grown_other_name logs name p (at_end c b)) (grown_other_index logs name p (at_end c b)) (new_other room (sym same_verdict ∙ new));
                config = alike.config;
                seen = both_with s z name p (add c (at_end c b)) (add d (at_end d b)) alike.seen added;
                next_producer = alike.next_producer;
              };
            },
          )

      by_verdict : (v : Verdict) → kept_verdict (content_at s name p) b ≡ v → verdict_fault (content_at s name p) b v ≡ None → Same (StayAlike logs) (appended_one v) (appended_other v)
      by_verdict verdict.New is fault = both_new (new_has_offsets c b fault) is
      by_verdict (verdict.Repeat base) is fault = (refl, own_stay)
      by_verdict verdict.OldEpoch is fault = absurd cc
      by_verdict verdict.OutOfOrder is fault = absurd cc

      pub both_appended : Same (StayAlike logs) ((appended (content_at s name p) b).0, with_content s name p (appended (content_at s name p) b).1)
          ((appended (content_at z name p) b).0, with_content z name p (appended (content_at z name p) b).1)
      both_appended = subst (λ (v : Verdict). Same (StayAlike logs) (appended_one (kept_verdict c b)) (appended_other v)) same_verdict
          (by_verdict (kept_verdict c b) refl (no_fault_sends c b none).1)
