-- What a request may change, and where. Work that is done puts another content into one of the partitions that its effect
-- names, or gives out the next id; so what work keeps in all other partitions, a request does.
use Rattle.std.proofs.Common.{◌≡◌, ◌≢◌, ◌⊎◌, inl, inr, ℕ, ℤ, pos, negsuc, Bool, true, false, not, ◌&&◌, ◌||◌, List, map, [], ◌∷◌, ◌++◌, Option, Some, None, refl, sym, ap, subst, ◌∙◌, true≢false, arith}
use Rattle.std.specs.Prelude.{is_some, bytes_eq}
use Rattle.std.specs.List.{AllByRecursion}
use Rattle.std.specs.Option.{unwrap_or}
use Rattle.std.specs.Ordering.{int_eq}
use Rattle.std.proofs.lemmas.Int.{ints}
use Rattle.std.proofs.lemmas.Slice.Eq.{bytes_eq-Decides}
use Rattle.batch_codec.specs.Reading.{batch_of}
use Rattle.content.specs.Content.{Content, empty, end}
use Rattle.request_frames.specs.Requests.BodyValue.{produce, init_producer_id}
use Rattle.request_frames.specs.Requests.{BodyValue, RequestValue}
use Rattle.request_frames.specs.Fetch.{FetchPartitionValue}
use Rattle.request_frames.specs.Produce.{ProduceValue, ProducePartitionValue}
use Rattle.responses.specs.Fetch.{Fetched}
use Rattle.answering.specs.declared.codes.ErrorCode.TheVariants.{OffsetOutOfRange, UnknownTopicOrPartition}
use Rattle.answering.specs.Codes.{no_error, code_number}
use Rattle.answering.specs.Lists.{fault_if}
use Rattle.answering.specs.Work.{Work}
use Rattle.frame_fields.specs.Types.{TopicOf}
use Rattle.answering.proofs.AnswersOfAll.{in_any_case}
use Rattle.broker_state.specs.declared.config.Role.{Role}
use Rattle.broker_state.specs.Checks.{role_code}
use Rattle.broker_state.specs.State.{State, group_topic, partition_at, is_known, content_at, with_content}
use Rattle.broker_state.specs.Batches.{appended}
use Rattle.broker_state.specs.Producers.{with_id_given}
use Rattle.broker_state.proofs.OneContent.{with_same, with_unknown, other_index, other_name}
use Rattle.broker_node.specs.Kinds.{kind}
use Rattle.broker_node.specs.Effects.Effect.{reads, gives_id}
use Rattle.broker_node.specs.Effects.{TopicPartition, produced_to, group_partition, effect, places, is_among}
use Rattle.broker_node.specs.Replies.{RepliesTo, MayReply}
use Rattle.broker_node.proofs.KeptStates.{Keeps, way_keeps, EachEntry, plan_keeps}
use Rattle.group_requests.specs.GroupPartition.{with_group_content}
use Rattle.log_requests.specs.Fetch.{FetchRoom, fetch_run_within, fetch_room_after, fetch_result, is_out_of_range, fetch_work}
use Rattle.log_requests.specs.Produce.{produce_plan}

-- ---- the configuration, and what is only read

configs : (s : State) (n : ℤ) (body : BodyValue) → Keeps (λ m. m.config ≡ s.config) ((kind body).way s n)
configs s n body = grind arith

pub config_kept : (s after : State) (q : RequestValue) (out : Option (List ℕ)) → MayReply s q out after → after.config ≡ s.config
config_kept s after q out = way_keeps (λ m. m.config ≡ s.config) ((kind q.body).way s q.correlation) out after (configs s q.correlation q.body)

only_reads : (s : State) (n : ℤ) (body : BodyValue) → effect body ≡ reads → Keeps (λ m. m ≡ s) ((kind body).way s n)
only_reads s n body is = grind (arith, is)

pub unchanged : (s after : State) (q : RequestValue) (out : Option (List ℕ)) → effect q.body ≡ reads → MayReply s q out after → after ≡ s
unchanged s after q out is = way_keeps (λ m. m ≡ s) ((kind q.body).way s q.correlation) out after (only_reads s q.correlation q.body is)

-- ---- the next producer id

-- the transactional id of an InitProducerId request
abbrev pub asked_id : BodyValue → Option (Option (List ℕ))
asked_id (init_producer_id id) = Some id
asked_id _ = None

pub asks_id : (body : BodyValue) (id : Option (List ℕ)) → asked_id body ≡ Some id → body ≡ init_producer_id id
asks_id body id one = grind (arith, one)

-- it is the one request that gives an id
gives_none : (body : BodyValue) → effect body ≢ gives_id → asked_id body ≡ None
gives_none body other = grind (arith, other)

gives_some : (body : BodyValue) → effect body ≡ gives_id → asked_id body ≡ None → ⊥
gives_some body is none = absurd (grind (arith, is, none))

pub next_kept : (s : State) (n : ℤ) (body : BodyValue) → asked_id body ≡ None → Keeps (λ m. m.next_producer ≡ s.next_producer) ((kind body).way s n)
next_kept s n body none = grind (arith, none)

pub next_stays : (s after : State) (q : RequestValue) (out : Option (List ℕ)) → effect q.body ≢ gives_id → MayReply s q out after → after.next_producer ≡ s.next_producer
next_stays s after q out other = way_keeps (λ m. m.next_producer ≡ s.next_producer) ((kind q.body).way s q.correlation) out after (next_kept s q.correlation q.body (gives_none q.body other))

id_given : (s : State) (n : ℤ) (id : Option (List ℕ)) → Keeps (λ m. (m ≡ s) ⊎ (m ≡ with_id_given s)) ((kind (init_producer_id id)).way s n)
id_given s n id = (inl refl, λ none. inr refl)

pub gives_one : (s after : State) (q : RequestValue) (out : Option (List ℕ)) → effect q.body ≡ gives_id → MayReply s q out after → (after ≡ s) ⊎ (after ≡ with_id_given s)
gives_one s after q out gives = by (asked_id q.body) refl
  where
    by : (o : Option (Option (List ℕ))) → asked_id q.body ≡ o → MayReply s q out after → (after ≡ s) ⊎ (after ≡ with_id_given s)
    by None e = absurd (gives_some q.body gives e)
    by (Some id) e =
        way_keeps (λ m. (m ≡ s) ⊎ (m ≡ with_id_given s)) ((kind q.body).way s q.correlation) out after
        (subst (λ (b : BodyValue). Keeps (λ m. (m ≡ s) ⊎ (m ≡ with_id_given s)) ((kind b).way s q.correlation)) (sym (asks_id q.body id e)) (id_given s q.correlation id))

-- ---- other partitions

-- another content of one partition leaves all others, and the broker has the same partitions
module _ (s : State) (topic : List ℕ) (p : ℤ) (c : Content) (name : List ℕ) (q : ℤ) where
  other_one : (bytes_eq topic name && int_eq p q) ≡ false → partition_at (with_content s topic p c) name q ≡ partition_at s name q
  other_one apart = by (bytes_eq topic name) (int_eq p q) refl refl apart
    where
      by : (b d : Bool) → bytes_eq topic name ≡ b → int_eq p q ≡ d → (b && d) ≡ false → partition_at (with_content s topic p c) name q ≡ partition_at s name q
      by false d e f apart = other_name s.topics topic name q p c (λ same. true≢false (sym ((bytes_eq-Decides topic name).1 (sym same)) ∙ e))
      by true false e f apart = other_index s.topics topic name q p c (λ same. absurd (grind (arith, ints, same, f)))
      by true true e f apart = absurd (true≢false apart)

  same_known : is_known (with_content s topic p c) name q ≡ is_known s name q
  same_known = by (is_known s topic p) (bytes_eq topic name) (int_eq p q) refl refl refl
    where
      by : (k b d : Bool) → is_known s topic p ≡ k → bytes_eq topic name ≡ b → int_eq p q ≡ d → is_known (with_content s topic p c) name q ≡ is_known s name q
      by false b d known e f = ap (λ (m : State). is_known m name q) (with_unknown s topic p c known)
      by true false d known e f = ap is_some (other_one (ap (λ (x : Bool). x && int_eq p q) e))
      by true true false known e f = ap is_some (other_one ((λ i. e i && f i)))
      by true true true known e f =
          let same : topic ≡ name = (bytes_eq-Decides topic name).0 e in
          let index : p ≡ q = grind (arith, ints, f) in
          subst (λ (n : List ℕ). is_known (with_content s topic p c) n q ≡ is_known s n q) same
          (subst (λ (m : ℤ). is_known (with_content s topic p c) topic m ≡ is_known s topic m) index (ap is_some (with_same s topic p c known) ∙ sym known))

-- ---- a partition that isn't among the places

neither : (a b : Bool) → (a || b) ≡ false → (a ≡ false) × (b ≡ false)
neither false b e = (refl, e)
neither true b e = absurd (true≢false e)

-- the Produce request that this is
abbrev asked_produce : BodyValue → Option ProduceValue
asked_produce (produce q) = Some q
asked_produce _ = None

asks_produce : (body : BodyValue) (q : ProduceValue) → asked_produce body ≡ Some q → body ≡ produce q
asks_produce body q one = grind (arith, one)

module _ (name : List ℕ) (p : ℤ) where
  other_stays : (s : State) (topic : List ℕ) (index : ℤ) (c : Content) → is_among (record { topic = topic; partition = index } ∷ []) name p ≡ false
      → partition_at (with_content s topic index c) name p ≡ partition_at s name p
  other_stays s topic index c apart = other_one s topic index c name p (neither (bytes_eq topic name && int_eq index p) false apart).0

  group_stays : (s : State) (c : Content) → is_among (group_partition ∷ []) name p ≡ false → partition_at (with_group_content s c) name p ≡ partition_at s name p
  group_stays s c apart = other_stays s group_topic (pos 0) c apart

  other_kept : (s : State) (n : ℤ) (body : BodyValue) → asked_produce body ≡ None → is_among (places (effect body)) name p ≡ false
      → Keeps (λ m. partition_at m name p ≡ partition_at s name p) ((kind body).way s n)
  other_kept s n body other apart = grind (arith, other, apart, other_stays, group_stays)

  -- of Produce: its entries are of other partitions

  abbrev IsApart : List ℕ → ProducePartitionValue → Type 0
  IsApart topic e = is_among (record { topic = topic; partition = e.index } ∷ []) name p ≡ false

  entries_apart : (topic : List ℕ) (es : List ProducePartitionValue) (more : List TopicPartition) → is_among (map (λ e. record { topic = topic; partition = e.index }) es ++ more) name p ≡ false
      → AllByRecursion (IsApart topic) es × (is_among more name p ≡ false)
  entries_apart topic [] more apart = (tt, apart)
  entries_apart topic (e ∷ es) more apart =
      let both = neither (bytes_eq topic name && int_eq e.index p) (is_among (map (λ e. record { topic = topic; partition = e.index }) es ++ more) name p) apart in
      let others = entries_apart topic es more both.1 in
      ((ap (λ (b : Bool). b || false) both.0, others.0), others.1)

  topics_apart : (ts : List (TopicOf ProducePartitionValue)) → is_among (produced_to ts) name p ≡ false → EachEntry IsApart ts
  topics_apart [] apart = tt
  topics_apart (t ∷ ts) apart = let first = entries_apart t.name t.entries (produced_to ts) apart in (first.0, topics_apart ts first.1)

  produce_kept : (s after : State) (n : ℤ) (q : ProduceValue) (out : Option (List ℕ)) → is_among (produced_to q.topics) name p ≡ false
      → RepliesTo in_any_case s n (produce q) out after → partition_at after name p ≡ partition_at s name p
  produce_kept s after n q out apart =
      plan_keeps (produce_plan s n q) (λ m. partition_at m name p ≡ partition_at s name p) IsApart out after (topics_apart q.topics apart) refl
      (λ m topic e away same none. other_stays m topic e.index (appended (content_at m topic e.index) (batch_of e.records)).1 away ∙ same)

pub other_partition : (s after : State) (q : RequestValue) (out : Option (List ℕ)) (name : List ℕ) (p : ℤ) → is_among (places (effect q.body)) name p ≡ false
    → MayReply s q out after → partition_at after name p ≡ partition_at s name p
other_partition s after q out name p = by (asked_produce q.body) refl
  where
    by : (o : Option ProduceValue) → asked_produce q.body ≡ o → is_among (places (effect q.body)) name p ≡ false → MayReply s q out after → partition_at after name p ≡ partition_at s name p
    by None e apart replies = way_keeps (λ m. partition_at m name p ≡ partition_at s name p) ((kind q.body).way s q.correlation) out after (other_kept name p s q.correlation q.body e apart) replies
    by (Some asked) e apart replies =
        let is = asks_produce q.body asked e in
        produce_kept name p s after q.correlation asked out (subst (λ (b : BodyValue). is_among (places (effect b)) name p ≡ false) is apart)
        (subst (λ (b : BodyValue). RepliesTo in_any_case s q.correlation b out after) is replies)

-- ---- the partitions that the broker has

module _ (name : List ℕ) (p : ℤ) where
  same_one : (s : State) (topic : List ℕ) (index : ℤ) (c : Content) → is_known (with_content s topic index c) name p ≡ is_known s name p
  same_one s topic index c = same_known s topic index c name p

  known_each : (s : State) (n : ℤ) (body : BodyValue) → Keeps (λ m. is_known m name p ≡ is_known s name p) ((kind body).way s n)
  known_each s n body = grind (arith, same_one)

pub known_kept : (s after : State) (q : RequestValue) (out : Option (List ℕ)) (name : List ℕ) (p : ℤ) → MayReply s q out after → is_known after name p ≡ is_known s name p
known_kept s after q out name p = way_keeps (λ m. is_known m name p ≡ is_known s name p) ((kind q.body).way s q.correlation) out after (known_each name p s q.correlation q.body)

-- ---- what a fetch shows

-- a fetch of a partition, by what the broker has there and its role
abbrev fetch_of : Option Content → Role → FetchRoom → FetchPartitionValue → Work Fetched FetchRoom
fetch_of o role room e =
    let c = unwrap_or o empty in
    let run = fetch_run_within room c e in
    record {
      early = fault_if (not (is_some o)) UnknownTopicOrPartition ∷ role_code role ∷ fault_if (is_out_of_range c e.offset) OffsetOutOfRange ∷ [];
      takes_memory = false;
      late = [];
      done = (fetch_result e.partition no_error (end c) run, fetch_room_after room run);
      failed = λ code. fetch_result e.partition (code_number code) (negsuc 0) [];
    }

pub other_fetch : (s after : State) (q : RequestValue) (out : Option (List ℕ)) (name : List ℕ) (room : FetchRoom) (e : FetchPartitionValue) → is_among (places (effect q.body)) name e.partition ≡ false
    → MayReply s q out after → fetch_work after room name e ≡ fetch_work s room name e
other_fetch s after q out name room e apart replies =
    let same : partition_at after name e.partition ≡ partition_at s name e.partition = other_partition s after q out name e.partition apart replies in
    let config : after.config ≡ s.config = config_kept s after q out replies in
    λ i. fetch_of (same i) (config i).role room e
