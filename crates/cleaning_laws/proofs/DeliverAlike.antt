-- Deliver: two brokers that are alike answer it alike. On a leader it is refused; on a follower the batch is the log's, and
-- of that both have seen all, or nothing.
use Rattle.std.proofs.Common.{◌≡◌, ◌⊎◌, inl, inr, ℕ, ℤ, pos, ◌+ℤ◌, Bool, true, false, cond, not, List, [], ◌∷◌, ◌++◌, length, Option, Some, None, refl, sym, ap, subst, ◌∙◌, true≢false, arith}
use Rattle.std.specs.Prelude.{is_some, IsSome}
use Rattle.std.specs.List.{list_all, AllByRecursion}
use Rattle.std.specs.Option.{option_map}
use Rattle.std.specs.Ordering.{int_eq}
use Rattle.std.proofs.lemmas.Int.{ints}
use Rattle.batch_codec.specs.Values.{RecordValue, BatchValue}
use Rattle.batch_codec.specs.Grammar.{Writable}
use Rattle.batch_codec.specs.Offsets.{first_offset}
use Rattle.batch_codec.specs.Reading.{batch_of, IsEncoding}
use Rattle.content.specs.ByOffset.{look_up}
use Rattle.content.specs.Content.{Content, IsContent, IsInRange, IsLogBatch, HasSeenNone, has_seen_all, with_batch, add}
use Rattle.content.specs.Logs.{IsPlainLog}
use Rattle.content.specs.Copies.{IsCopy}
use Rattle.content.specs.declared.delivery.DeliverError.{DeliverError}
use Rattle.content.specs.declared.delivery.DeliverError.TheVariants.{NotWhole, NoKey, BadOffset}
use Rattle.content_laws.proofs.ContentSteps.{content_with_batch, content_add}
use Rattle.content_laws.proofs.CopyAdd.{copy_with_batch}
use Rattle.content_laws.proofs.CopyFacts.{all_or_none}
use Rattle.content_laws.proofs.PlainLogs.{log_batch}
use Rattle.frame_fields.specs.Frames.{IsBytes}
use Rattle.request_frames.specs.Requests.BodyValue.{deliver}
use Rattle.request_frames.specs.Deliver.{DeliverValue}
use Rattle.answering.specs.declared.codes.ErrorCode.{ErrorCode}
use Rattle.answering.specs.declared.codes.ErrorCode.TheVariants.{UnknownTopicOrPartition}
use Rattle.answering.specs.Codes.{no_error}
use Rattle.answering.specs.Lists.{fault_if, first_some}
use Rattle.answering.specs.Work.{answer}
use Rattle.broker_state.specs.declared.config.Role.{Role}
use Rattle.broker_state.specs.declared.config.Role.TheVariants.{Leader, Follower}
use Rattle.broker_state.specs.State.{State, is_known, content_at, with_content}
use Rattle.broker_state.specs.Checks.{unknown, follower_code, not_follower}
use Rattle.broker_state.specs.Batches.{is_whole, has_keys, batch_checks}
use Rattle.broker_state.proofs.Passed.{none_first, none_both}
use Rattle.copy_requests.specs.Codes.{deliver_code}
use Rattle.copy_requests.specs.Deliver.{is_in_range, deliver_fault, deliver_checks, deliver_work, deliver_sent}
use Rattle.cleaning_laws.specs.Logs.{Logs, IsPartitionOf}
use Rattle.cleaning_laws.specs.Alike.{Seen, seen_of, AreAlike}
use Rattle.cleaning_laws.specs.Settled.{IsOfLog}
use Rattle.cleaning_laws.proofs.Seen.{both_with}
use Rattle.cleaning_laws.proofs.Stated.{state_with}
use Rattle.cleaning_laws.proofs.GrownLogs.{stay}
use Rattle.cleaning_laws.proofs.NewBatches.{same_added}
use Rattle.cleaning_laws.proofs.SentBatches.{no_code, sent_encoding}
use Rattle.cleaning_laws.proofs.TopicsAlike.{Same}
use Rattle.cleaning_laws.proofs.WorksAlike.{same_by}
use Rattle.cleaning_laws.proofs.BothAppend.{seen_same, known_same, role_same}
use Rattle.cleaning_laws.proofs.OnlyRead.{BodyAlike, both_true}

-- ---- a follower's partition with a batch of its log

copy_added : (c : Content) (b : BatchValue) (log : List BatchValue) → IsContent c → IsPlainLog log → IsCopy c log → look_up first_offset (first_offset b) log ≡ Some b → IsCopy (add c b) log
copy_added c b log content plain copy there = by (has_seen_all c b) refl (all_or_none c log content plain copy b there)
  where
    by : (t : Bool) → has_seen_all c b ≡ t → (has_seen_all c b ≡ true) ⊎ HasSeenNone c b → IsCopy (cond t c (with_batch c b)) log
    by true e which = copy
    by false e (inl all) = absurd (true≢false (sym all ∙ e))
    by false e (inr none) = copy_with_batch c b log content plain copy there none (content_with_batch c b content (log_batch 0 log b plain there) none)

pub delivered_partition : (c : Content) (b : BatchValue) (log : List BatchValue) → IsPartitionOf Follower c log → look_up first_offset (first_offset b) log ≡ Some b → IsPartitionOf Follower (add c b) log
delivered_partition c b log is there = record {
  content = content_add c b is.content (log_batch 0 log b is.plain there) (all_or_none c log is.content is.plain is.copy.0 b there);
  plain = is.plain;
  copy = (copy_added c b log is.content is.plain is.copy.0 there, is.copy.1);
}

-- ---- a batch without a fault is a log batch

passed : (b : Bool) (e : DeliverError) → fault_if (not b) e ≡ None → b ≡ true
passed true e none = refl
passed false e none = absurd cc

keys_all : (rs : List RecordValue) → list_all (λ r. is_some r.key) rs ≡ true → AllByRecursion (λ r. IsSome r.key) rs
keys_all [] e = tt
keys_all (r ∷ rs) e = let both = both_true (is_some r.key) (list_all (λ r. is_some r.key) rs) e in (both.0, keys_all rs both.1)

in_range : (b : BatchValue) → is_in_range b ≡ true → IsInRange b
in_range b e = (grind (arith, ints, e), grind (arith, ints, e))

valid_batch : (c : Content) (b : BatchValue) → Writable b → deliver_fault c b ≡ None → IsLogBatch b
valid_batch c b writable none =
    let whole = none_first (fault_if (not (is_whole b)) NotWhole) _ none in
    let keys = none_first (fault_if (not (has_keys b)) NoKey) _ whole.1 in
    let range = none_first (fault_if (not (is_in_range b)) BadOffset) _ keys.1 in
    let counted : int_eq (pos (length b.recs)) (b.head.last_delta +ℤ pos 1) ≡ true = passed (is_whole b) NotWhole whole.0 in
    record {
      writable = writable;
      whole = grind (arith, ints, counted);
      keys = keys_all b.recs (passed (has_keys b) NoKey keys.0);
      in_range = in_range b (passed (is_in_range b) BadOffset range.0);
    }

-- ---- the checks

-- what they read of a partition
abbrev as_content : Seen → Content
as_content x = record { start = x.start; cover = x.cover; kept = [] }

abbrev first_fault : DeliverValue → Bool → Role → Seen → Option ErrorCode
first_fault q known role x = first_some (
    (fault_if (not known) UnknownTopicOrPartition
    ∷ follower_code role
    ∷ batch_checks q.batch
    ++ option_map deliver_code (deliver_fault (as_content x) (batch_of q.batch)) ∷ [])
    ++ [])

follows : (role : Role) → follower_code role ≡ None → role ≡ Follower
follows Follower e = refl
follows Leader e = absurd cc

known_of : (b : Bool) → fault_if (not b) UnknownTopicOrPartition ≡ None → b ≡ true
known_of true e = refl
known_of false e = absurd cc

-- without a fault the partition is known, the broker follows, and the batch is one of a log
pub record IsDelivered (s : State) (q : DeliverValue) : Type 0 where
  pub known : is_known s q.topic q.partition ≡ true
  pub role : s.config.role ≡ Follower
  pub encoding : IsEncoding q.batch
  pub batch : IsLogBatch (batch_of q.batch)

is_delivered : (s : State) (q : DeliverValue) → IsBytes q.batch → first_some (deliver_checks s q) ≡ None → IsDelivered s q
is_delivered s q bytes none =
    let c = content_at s q.topic q.partition in
    let known = none_first (unknown s q.topic q.partition) _ none in
    let role = none_first (not_follower s) _ known.1 in
    let batch = none_both (batch_checks q.batch) (option_map deliver_code (deliver_fault c (batch_of q.batch)) ∷ []) role.1 in
    record {
      known = known_of (is_known s q.topic q.partition) known.0;
      role = follows s.config.role role.0;
      encoding = sent_encoding q.batch bytes batch.0;
      batch = valid_batch c (batch_of q.batch) (sent_encoding q.batch bytes batch.0).0 (no_code deliver_code (deliver_fault c (batch_of q.batch)) (none_first (option_map deliver_code (deliver_fault c (batch_of q.batch))) None batch.1).0);
    }

-- ---- a request

-- a broker takes a batch of its log
state_added : (logs : Logs) (s : State) (name : List ℕ) (p : ℤ) (b : BatchValue) → s.config.role ≡ Follower → (is_known s name p ≡ true → IsPartitionOf s.config.role (content_at s name p) (logs name p))
    → look_up first_offset (first_offset b) (logs name p) ≡ Some b → is_known s name p ≡ true → IsPartitionOf s.config.role (add (content_at s name p) b) (logs name p)
state_added logs s name p b role is there known =
    subst (λ (r : Role). IsPartitionOf r (add (content_at s name p) b) (logs name p)) (sym role)
    (delivered_partition (content_at s name p) b (logs name p) (subst (λ (r : Role). IsPartitionOf r (content_at s name p) (logs name p)) role (is known)) there)

both_take : (logs : Logs) (s z : State) (name : List ℕ) (p : ℤ) (b : BatchValue) → AreAlike logs s z → s.config.role ≡ Follower → look_up first_offset (first_offset b) (logs name p) ≡ Some b
    → AreAlike logs (with_content s name p (add (content_at s name p) b)) (with_content z name p (add (content_at z name p) b))
both_take logs s z name p b alike role there = record {
  one = state_with logs logs s name p (add (content_at s name p) b) alike.one (λ n q e. refl) (λ n q e. refl) (state_added logs s name p b role (alike.one name p) there);
  other = state_with logs logs z name p (add (content_at z name p) b) alike.other (λ n q e. refl) (λ n q e. refl) (state_added logs z name p b (sym (role_same logs s z name p alike) ∙ role) (alike.other name p) there);
  config = alike.config;
  seen = both_with s z name p (add (content_at s name p) b) (add (content_at z name p) b) alike.seen (same_added (content_at s name p) (content_at z name p) b (seen_same logs s z name p alike));
  next_producer = alike.next_producer;
}

-- both answer alike, and both stay of the same logs
pub deliver_keeps : (logs : Logs) (s z : State) (q : DeliverValue) → IsBytes q.batch → IsOfLog s logs q → AreAlike logs s z → Same (AreAlike logs) (answer (deliver_work s q) s) (answer (deliver_work z q) z)
deliver_keeps logs s z q bytes of_log alike =
    let known : is_known s q.topic q.partition ≡ is_known z q.topic q.partition = known_same logs s z q.topic q.partition alike in
    let seen : seen_of (content_at s q.topic q.partition) ≡ seen_of (content_at z q.topic q.partition) = seen_same logs s z q.topic q.partition alike in
    let b = batch_of q.batch in
    same_by (AreAlike logs) s z (deliver_work s q) (deliver_work z q) alike (λ i. first_fault q (known i) (alike.config i).role (seen i)) (λ code. refl) (λ none.
    let is = is_delivered s q bytes (none_both (deliver_checks s q) [] none).0 in
    let there : look_up first_offset (first_offset b) (logs q.topic q.partition) ≡ Some b = of_log (record { follows = is.role; known = is.known }) is.encoding is.batch in (
      (λ i. record { code = no_error; repeat = has_seen_all (as_content (seen i)) b }),
      both_take logs s z q.topic q.partition b alike is.role there,
    ))

pub deliver_alike : (logs : Logs) (s z : State) (n : ℤ) (q : DeliverValue) → IsBytes q.batch → IsOfLog s logs q → AreAlike logs s z → BodyAlike logs s z n (deliver q)
deliver_alike logs s z n q bytes of_log alike =
    let both = deliver_keeps logs s z q bytes of_log alike in
    record { states = stay logs (answer (deliver_work s q) s).1 (answer (deliver_work z q) z).1 both.1; replies = λ settled. ap (λ r. Some (deliver_sent n r)) both.0 }
