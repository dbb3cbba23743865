-- Two brokers that hold the same answer a request that may change something alike, and hold the same after it: what its
-- work reads of a broker is its role, whether it has a partition, that partition's content, and the next producer id.
use Rattle.std.proofs.Common.{◌≡◌, ℕ, ℤ, pos, true, not, List, [], ◌∷◌, ◌++◌, length, Option, Some, None, refl, sym, ap, subst, ◌∙◌}
use Rattle.std.specs.Prelude.{is_some, is_none, int_lt, nat_lt}
use Rattle.std.specs.Option.{option_map, unwrap_or}
use Rattle.std.specs.Ordering.{int_eq}
use Rattle.batch_codec.specs.Reading.{batch_of}
use Rattle.content.specs.Content.{empty, add, cut, has_seen_all}
use Rattle.deltas.specs.Patches.{patch}
use Rattle.copy_images.specs.Reading.{image_at}
use Rattle.frame_fields.specs.Types.{TopicOf, or_empty}
use Rattle.request_frames.specs.Produce.{ProduceValue, ProducePartitionValue}
use Rattle.request_frames.specs.OffsetCommit.{OffsetCommitValue, OffsetCommitPartitionValue}
use Rattle.request_frames.specs.Deliver.{DeliverValue}
use Rattle.request_frames.specs.Import.{ImportValue}
use Rattle.request_frames.specs.ImportDelta.{ImportDeltaValue}
use Rattle.request_frames.specs.Trim.{TrimValue}
use Rattle.request_frames.specs.Requests.{BodyValue, RequestValue}
use Rattle.request_frames.specs.Requests.BodyValue.{produce, fetch, list_offsets, metadata, offset_commit, offset_fetch, find_coordinator, api_versions, init_producer_id, deliver, clean, clean_part, export, export_delta, import as importing, import_delta, get, cover, forget_group, trim}
use Rattle.answering.specs.declared.codes.ErrorCode.{ErrorCode}
use Rattle.answering.specs.declared.codes.ErrorCode.TheVariants.{UnknownTopicOrPartition, UnknownServerError, InvalidTransactionState, InvalidRequiredAcks, InvalidTopic, IllegalGeneration, OffsetMetadataTooLarge, InvalidRequest, CorruptMessage}
use Rattle.answering.specs.Codes.{no_error}
use Rattle.answering.specs.Lists.{fault_if, first_some, map_accum}
use Rattle.answering.specs.Plans.{over_entries, over_topics}
use Rattle.answering.specs.Work.{Work, answer_after, answer}
use Rattle.broker_state.specs.Batches.{batch_checks, append_fault, appended}
use Rattle.broker_state.specs.Checks.{unknown, role_code, not_leader, follower_code, not_follower, no_group}
use Rattle.broker_state.specs.Codes.{append_code}
use Rattle.broker_state.specs.Producers.{greatest_int64}
use Rattle.broker_state.specs.State.{State, is_group_topic, group_topic, content_at}
use Rattle.log_requests.specs.Produce.{is_acks, produce_result, produce_work, produce_plan}
use Rattle.group_offsets.specs.Groups.{group_keys}
use Rattle.group_requests.specs.declared.offset_commit.TheConstants.{MAX_METADATA_BYTES}
use Rattle.group_requests.specs.OffsetCommit.{offset_commit_generation, offset_commit_batch, offset_commit_work, offset_commit_plan}
use Rattle.group_requests.specs.ForgetGroup.{forget_group_checks, forgotten, forget_group_work, forget_group_sent}
use Rattle.setup_requests.specs.InitProducerId.{id_answer, init_producer_id_work, init_producer_id_sent}
use Rattle.broker_node.specs.Below.{deliver_code}
use Rattle.broker_node.specs.Below.{deliver_fault, deliver_work, deliver_sent}
use Rattle.broker_node.specs.Below.{Cleaning, Whole, Part, cleaned, cleaning_report, clean_result, asked_part, cleaning_work, clean_work, clean_part_work, clean_sent}
use Rattle.broker_node.specs.Below.{import_role_fault, import_fault, imported, import_work, import_sent}
use Rattle.broker_node.specs.Below.{given_delta, delta_faults, import_delta_work}
use Rattle.broker_node.specs.Below.{trim_faults, trim_work, trim_sent}
use Rattle.broker_node.specs.Effects.{may_change}
use Rattle.broker_node.specs.Replies.{IsReply, reply, reply_to}
use Rattle.broker_node.proofs.PlannedReplies.{one_reply}
use Rattle.exact_replies.specs.SameHeld.{HoldTheSame}
use Rattle.exact_replies.proofs.SameContents.{content_same, with_both, given_both}

-- ---- answers that are alike

-- the same result, and brokers that hold the same
abbrev Same : {R : Type 0} → R × State → R × State → Type 0
Same x y = (x.0 ≡ y.0) × HoldTheSame x.1 y.1

-- work that is alike, in two brokers
record SameWork {R : Type 0} (w v : Work R State) : Type 0 where
  early : w.early ≡ v.early
  late : w.late ≡ v.late
  done : Same w.done v.done
  failed : (code : ErrorCode) → w.failed code ≡ v.failed code

answers_same : {R : Type 0} (s t : State) (w v : Work R State) → HoldTheSame s t → SameWork w v → Same (answer w s) (answer v t)
answers_same s t w v hold same =
    let faults : first_some (w.early ++ w.late) ≡ first_some (v.early ++ v.late) = λ i. first_some (same.early i ++ same.late i) in
    subst (λ (o : Option ErrorCode). Same (answer w s) (answer_after o v t)) faults (by (first_some (w.early ++ w.late)))
  where
    by : (o : Option ErrorCode) → Same (answer_after o w s) (answer_after o v t)
    by None = same.done
    by (Some code) = (same.failed code, hold)

-- ---- over the entries of a request

accum_same : {X Y : Type 0} (f : State → X → Y × State) → ((s t : State) (x : X) → HoldTheSame s t → Same (f s x) (f t x))
    → (s t : State) (xs : List X) → HoldTheSame s t → Same (map_accum f s xs) (map_accum f t xs)
accum_same f step s t [] hold = (refl, hold)
accum_same f step s t (x ∷ xs) hold =
    let first = step s t x hold in
    let others = accum_same f step (f s x).1 (f t x).1 xs first.1 in
    ((λ i. first.0 i ∷ others.0 i), others.1)

topics_same : {E R : Type 0} (f : State → List ℕ → E → R × State) → ((s t : State) (name : List ℕ) (e : E) → HoldTheSame s t → Same (f s name e) (f t name e))
    → (s t : State) (ts : List (TopicOf E)) → HoldTheSame s t → Same (over_topics f s ts) (over_topics f t ts)
topics_same {E = E} f step s t ts hold = accum_same (over_entries f) topic s t ts hold
  where
    topic : (s t : State) (x : TopicOf E) → HoldTheSame s t → Same (over_entries f s x) (over_entries f t x)
    topic s t x hold =
        let entries = accum_same (λ s e. f s x.name e) (λ s t e h. step s t x.name e h) s t x.entries hold in
        ((λ i. record { name = x.name; entries = entries.0 i }), entries.1)

-- ---- what each request's work reads

module _ (s t : State) (hold : HoldTheSame s t) where
  unknown_same : (name : List ℕ) (p : ℤ) → unknown s name p ≡ unknown t name p
  unknown_same name p = λ i. fault_if (not (is_some (hold.contents name p i))) UnknownTopicOrPartition

  leader_same : not_leader s ≡ not_leader t
  leader_same = λ i. role_code (hold.role i)

  follower_same : not_follower s ≡ not_follower t
  follower_same = λ i. follower_code (hold.role i)

  content : (name : List ℕ) (p : ℤ) → content_at s name p ≡ content_at t name p
  content = content_same s t hold

  group : content_at s group_topic (pos 0) ≡ content_at t group_topic (pos 0)
  group = content group_topic (pos 0)

  produce_same : (q : ProduceValue) (name : List ℕ) (e : ProducePartitionValue) → SameWork (produce_work s q name e) (produce_work t q name e)
  produce_same q name e =
      let c = content name e.index in
      record {
        early = λ i.
            fault_if (not (is_acks q.acks)) InvalidRequiredAcks
            ∷ fault_if (is_some q.transactional_id) InvalidTransactionState
            ∷ unknown_same name e.index i
            ∷ fault_if (is_group_topic name) InvalidTopic
            ∷ leader_same i
            ∷ batch_checks e.records
            ++ option_map append_code (append_fault (c i) (batch_of e.records)) ∷ [];
        late = refl;
        done = (
          (λ i. produce_result e.index no_error (appended (c i) (batch_of e.records)).0),
          with_both s t hold name e.index (appended (content_at s name e.index) (batch_of e.records)).1 (appended (content_at t name e.index) (batch_of e.records)).1 (λ i. (appended (c i) (batch_of e.records)).1),
        );
        failed = λ code. refl;
      }

  commit_same : (q : OffsetCommitValue) (name : List ℕ) (e : OffsetCommitPartitionValue) → SameWork (offset_commit_work s q name e) (offset_commit_work t q name e)
  commit_same q name e =
      let b = offset_commit_batch q.group name e in
      record {
        early = λ i.
            no_group q.group
            ∷ fault_if (not (int_eq q.generation offset_commit_generation)) IllegalGeneration
            ∷ unknown_same name e.partition i
            ∷ leader_same i
            ∷ fault_if (nat_lt MAX_METADATA_BYTES (length (or_empty e.metadata))) OffsetMetadataTooLarge
            ∷ fault_if (int_lt e.offset (pos 0)) InvalidRequest
            ∷ [];
        late = λ i. option_map append_code (append_fault (group i) b) ∷ [];
        done = (refl, with_both s t hold group_topic (pos 0) (appended (content_at s group_topic (pos 0)) b).1 (appended (content_at t group_topic (pos 0)) b).1 (λ i. (appended (group i) b).1));
        failed = λ code. refl;
      }

  forget_same : (name : List ℕ) → SameWork (forget_group_work s name) (forget_group_work t name)
  forget_same name = record {
    early = λ i. no_group name ∷ leader_same i ∷ [];
    late = λ i. forget_group_checks (group i) (group_keys (group i) name);
    done = (
      (λ i. record { code = no_error; count = pos (length (group_keys (group i) name)) }),
      with_both s t hold group_topic (pos 0) (forgotten (content_at s group_topic (pos 0)) (group_keys (content_at s group_topic (pos 0)) name)) (forgotten (content_at t group_topic (pos 0)) (group_keys (content_at t group_topic (pos 0)) name)) (λ i. forgotten (group i) (group_keys (group i) name)),
    );
    failed = λ code. refl;
  }

  init_same : (id : Option (List ℕ)) → SameWork (init_producer_id_work s id) (init_producer_id_work t id)
  init_same id = record {
    early = λ i.
        fault_if (is_some id) InvalidTransactionState
        ∷ leader_same i
        ∷ fault_if (int_eq (hold.next_producer i) greatest_int64) UnknownServerError
        ∷ [];
    late = refl;
    done = ((λ i. id_answer (hold.next_producer i)), given_both s t hold);
    failed = λ code. refl;
  }

  deliver_same : (q : DeliverValue) → SameWork (deliver_work s q) (deliver_work t q)
  deliver_same q =
      let c = content q.topic q.partition in
      let b = batch_of q.batch in
      record {
        early = λ i.
            unknown_same q.topic q.partition i
            ∷ follower_same i
            ∷ batch_checks q.batch
            ++ option_map deliver_code (deliver_fault (c i) b) ∷ [];
        late = refl;
        done = (
          (λ i. record { code = no_error; repeat = has_seen_all (c i) b }),
          with_both s t hold q.topic q.partition (add (content_at s q.topic q.partition) b) (add (content_at t q.topic q.partition) b) (λ i. add (c i) b),
        );
        failed = λ code. refl;
      }

  cleaning_same : (name : List ℕ) (p : ℤ) (cleaning : Cleaning) → SameWork (cleaning_work s name p cleaning) (cleaning_work t name p cleaning)
  cleaning_same name p cleaning =
      let c = content name p in
      record {
        early = λ i. unknown_same name p i ∷ [];
        late = refl;
        done = (
          (λ i. clean_result (cleaning_report cleaning (c i))),
          with_both s t hold name p (cleaned cleaning (content_at s name p)) (cleaned cleaning (content_at t name p)) (λ i. cleaned cleaning (c i)),
        );
        failed = λ code. refl;
      }

  import_same : (q : ImportValue) → SameWork (import_work s q) (import_work t q)
  import_same q =
      let c = content q.topic q.partition in
      let given = unwrap_or (image_at q.image) empty in
      record {
        early = λ i.
            unknown_same q.topic q.partition i
            ∷ import_role_fault (hold.role i) (c i)
            ∷ fault_if (is_none (image_at q.image)) CorruptMessage
            ∷ [];
        late = λ i. import_fault (hold.role i) (c i) given ∷ [];
        done = (refl, with_both s t hold q.topic q.partition (imported s.config.role (content_at s q.topic q.partition) given) (imported t.config.role (content_at t q.topic q.partition) given) (λ i. imported (hold.role i) (c i) given));
        failed = λ code. refl;
      }

  import_delta_same : (q : ImportDeltaValue) → SameWork (import_delta_work s q) (import_delta_work t q)
  import_delta_same q =
      let c = content q.topic q.partition in
      record {
        early = λ i. unknown_same q.topic q.partition i ∷ follower_same i ∷ delta_faults (c i) q.delta;
        late = refl;
        done = (refl, with_both s t hold q.topic q.partition (patch (content_at s q.topic q.partition) (given_delta q.delta)) (patch (content_at t q.topic q.partition) (given_delta q.delta)) (λ i. patch (c i) (given_delta q.delta)));
        failed = λ code. refl;
      }

  trim_same : (q : TrimValue) → SameWork (trim_work s q) (trim_work t q)
  trim_same q =
      let c = content q.topic q.partition in
      record {
        early = λ i. unknown_same q.topic q.partition i ∷ trim_faults (c i) q.start;
        late = refl;
        done = (refl, with_both s t hold q.topic q.partition (cut q.start (content_at s q.topic q.partition)) (cut q.start (content_at t q.topic q.partition)) (λ i. cut q.start (c i)));
        failed = λ code. refl;
      }

-- ---- a request

once_same : {R : Type 0} (response : R → List ℕ) (s t : State) (w v : Work R State) → HoldTheSame s t → SameWork w v
    → Same (Some (response (answer w s).0), (answer w s).1) (Some (response (answer v t).0), (answer v t).1)
once_same response s t w v hold same =
    let both = answers_same s t w v hold same in
    ((λ i. Some (response (both.0 i))), both.1)

produce_reply : (s t : State) (n : ℤ) (q : ProduceValue) → HoldTheSame s t → Same (reply_to s n (produce q)) (reply_to t n (produce q))
produce_reply s t n q hold =
    let all = topics_same (λ s name e. answer (produce_work s q name e) s) (λ s t name e h. answers_same s t (produce_work s q name e) (produce_work t q name e) h (produce_same s t h q name e)) s t q.topics hold in
    ((λ i. (produce_plan s n q).response (all.0 i)), all.1)

commit_reply : (s t : State) (n : ℤ) (q : OffsetCommitValue) → HoldTheSame s t → Same (reply_to s n (offset_commit q)) (reply_to t n (offset_commit q))
commit_reply s t n q hold =
    let all = topics_same (λ s name e. answer (offset_commit_work s q name e) s) (λ s t name e h. answers_same s t (offset_commit_work s q name e) (offset_commit_work t q name e) h (commit_same s t h q name e)) s t q.topics hold in
    ((λ i. (offset_commit_plan s n q).response (all.0 i)), all.1)

body_same : (s t : State) (n : ℤ) (body : BodyValue) → may_change body ≡ true → HoldTheSame s t → Same (reply_to s n body) (reply_to t n body)
body_same s t n (produce q) change hold = produce_reply s t n q hold
body_same s t n (offset_commit q) change hold = commit_reply s t n q hold
body_same s t n (init_producer_id id) change hold = once_same (init_producer_id_sent n) s t (init_producer_id_work s id) (init_producer_id_work t id) hold (init_same s t hold id)
body_same s t n (deliver q) change hold = once_same (deliver_sent n) s t (deliver_work s q) (deliver_work t q) hold (deliver_same s t hold q)
body_same s t n (clean q) change hold = once_same (clean_sent n) s t (clean_work s q) (clean_work t q) hold (cleaning_same s t hold q.topic q.partition (Whole q.upto q.tomb_before))
body_same s t n (clean_part q) change hold = once_same (clean_sent n) s t (clean_part_work s q) (clean_part_work t q) hold (cleaning_same s t hold q.topic q.partition (Part (asked_part q)))
body_same s t n (importing q) change hold = once_same (import_sent n) s t (import_work s q) (import_work t q) hold (import_same s t hold q)
body_same s t n (import_delta q) change hold = once_same (import_sent n) s t (import_delta_work s q) (import_delta_work t q) hold (import_delta_same s t hold q)
body_same s t n (forget_group name) change hold = once_same (forget_group_sent n) s t (forget_group_work s name) (forget_group_work t name) hold (forget_same s t hold name)
body_same s t n (trim q) change hold = once_same (trim_sent n) s t (trim_work s q) (trim_work t q) hold (trim_same s t hold q)
body_same s t n (fetch q) change hold = absurd cc
body_same s t n (list_offsets topics) change hold = absurd cc
body_same s t n (metadata names) change hold = absurd cc
body_same s t n (offset_fetch q) change hold = absurd cc
body_same s t n (find_coordinator name) change hold = absurd cc
body_same s t n (api_versions version) change hold = absurd cc
body_same s t n (export q) change hold = absurd cc
body_same s t n (export_delta q) change hold = absurd cc
body_same s t n (get q) change hold = absurd cc
body_same s t n (cover q) change hold = absurd cc

pub changed_alike : (s t after : State) (q : RequestValue) (out : Option (List ℕ)) → HoldTheSame s t → may_change q.body ≡ true → IsReply s q out after
    → (other : State) × IsReply t q out other × HoldTheSame after other
changed_alike s t after q out hold change replies =
    let is = (one_reply s after q out).0 replies in
    let both = body_same s t q.correlation q.body change hold in
    let sent : out ≡ (reply t q).0 = ap (λ x. x.0) is ∙ both.0 in
    let left : after ≡ (reply s q).1 = ap (λ x. x.1) is in
    let other = (reply t q).1 in (
      other,
      (one_reply t other q out).1 (λ i. (sent i, other)),
      subst (λ (m : State). HoldTheSame m other) (sym left) both.1,
    )
