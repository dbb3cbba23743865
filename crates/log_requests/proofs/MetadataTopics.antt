-- What is written of a broker's topics.
use Rattle.std.proofs.Common.{◌≡◌, ℕ, ◌+◌, ◌≤◌, take, arith, Bool, true, false, cond, ℤ, List, [], ◌∷◌, ◌++◌, length, Option, Some, None, sym, ap, ◌∙◌, append_assoc, append-nil}
use Rattle.std.specs.Prelude.{map, not}
use Rattle.std.specs.List.{flat_map, range_with_len}
use Rattle.std.proofs.lemmas.Grind.{flat_map-append}
use Rattle.std.proofs.lemmas.List.{length-map, take_all}
use Rattle.std.proofs.lemmas.List.FromFn.{length-map-range_with_len, map-range_with_len_more}
use Rattle.frame_fields.specs.Names.{is_topic_name}
use Rattle.responses.specs.Metadata.{MetadataOfBroker, MetadataOfTopic, metadata_response, metadata_value, metadata_leader_id, metadata_head, metadata_topic_head, metadata_topic_bytes, metadata_partition_bytes}
use Rattle.frame_fields.specs.Fields.{encoded}
use Rattle.answering.specs.declared.codes.ErrorCode.TheVariants.{UnknownTopicOrPartition, InvalidTopic}
use Rattle.answering.specs.Codes.{no_error}
use Rattle.broker_state.specs.State.{ConfigValue, Topic, State, is_group_topic, topic_of}
use Rattle.log_requests.specs.Metadata.{metadata_of_broker, metadata_leader, metadata_topics, metadata_of_partition, metadata_of_topic, metadata_of_failed, metadata_of_found, metadata_at}
use Rattle.broker_state.specs.Parts.{TopicParts, topic_contents}
use Rattle.log_requests.specs.Metadata.Names.{metadata_body}
use Rattle.log_requests.proofs.Written.{map_twice}

-- ---- a topic by its name

pub of_known : (s : State) (name : List ℕ) (b : Bool) (t : Topic) → b ≡ is_topic_name name → not b ≡ false → Some t ≡ topic_of s name → metadata_of_topic s.config t ≡ metadata_at s name
of_known s name true t valid there found = ap (metadata_of_found s.config name) found ∙ ap (λ b. cond b (metadata_of_found s.config name (topic_of s name)) (metadata_of_failed InvalidTopic name)) valid
of_known s name false t valid there found = absurd cc

pub of_unknown : (s : State) (name : List ℕ) (b : Bool) → b ≡ is_topic_name name → not b ≡ false → None ≡ topic_of s name → metadata_of_failed UnknownTopicOrPartition name ≡ metadata_at s name
of_unknown s name true valid there found = ap (metadata_of_found s.config name) found ∙ ap (λ b. cond b (metadata_of_found s.config name (topic_of s name)) (metadata_of_failed InvalidTopic name)) valid
of_unknown s name false valid there found = absurd cc

-- ---- a topic, partition by partition

pub one_more : {R : Type 0} (enc : R → List ℕ) (f : ℕ → R) (old out new : List ℕ) (i : ℕ) (r : R) → out ≡ old ++ flat_map enc (map f (range_with_len 0 i)) → r ≡ f i → new ≡ out ++ enc r
    → new ≡ old ++ flat_map enc (map f (range_with_len 0 (i + 1)))
one_more enc f old out new i r so_far is e =
    let before = map f (range_with_len 0 i) in
    let first : 0 + i ≡ i = omega arith in
    let all : flat_map enc (map f (range_with_len 0 (i + 1))) ≡ flat_map enc before ++ enc (f i) =
    ap (flat_map enc) (map-range_with_len_more f 0 i i first) ∙ flat_map-append enc before (f i ∷ []) ∙ ap (λ (x : List ℕ). flat_map enc before ++ x) (append-nil (enc (f i))) in
    e ∙ (λ k. so_far k ++ enc (is k)) ∙ append_assoc old (flat_map enc before) (enc (f i)) ∙ ap (λ (x : List ℕ). old ++ x) (sym all)

pub topic_written : (g : ConfigValue) (t : TopicParts) (old begun new : List ℕ) (count : ℕ) → count ≡ length t.partitions
    → begun ≡ old ++ metadata_topic_head no_error t.name (is_group_topic t.name) count
    → new ≡ begun ++ flat_map metadata_partition_bytes (map (metadata_of_partition g) (range_with_len 0 count))
    → new ≡ old ++ metadata_topic_bytes (metadata_of_topic g (topic_contents t))
topic_written g t old begun new count counts begins e =
    let partitions = λ (n : ℕ). map (metadata_of_partition g) (range_with_len 0 n) in
    let written = λ (n : ℕ). metadata_topic_head no_error t.name (is_group_topic t.name) (length (partitions n)) ++ flat_map metadata_partition_bytes (partitions n) in
    let many : count ≡ length (map (λ p. p.content) t.partitions) = counts ∙ sym (length-map t.partitions (λ p. p.content)) in
    e ∙ ap (λ (x : List ℕ). x ++ flat_map metadata_partition_bytes (partitions count)) begins
    ∙ append_assoc old (metadata_topic_head no_error t.name (is_group_topic t.name) count) (flat_map metadata_partition_bytes (partitions count))
    ∙ ap (λ (n : ℕ). old ++ (metadata_topic_head no_error t.name (is_group_topic t.name) n ++ flat_map metadata_partition_bytes (partitions count))) (sym (length-map-range_with_len (metadata_of_partition g) 0 count))
    ∙ ap (λ (n : ℕ). old ++ written n) many

-- ---- all topics, and all names

-- each is written as a function of what is seen of it
pub all_seen : {X Y R : Type 0} (enc : R → List ℕ) (see : X → Y) (f : Y → R) (old out : List ℕ) (i : ℕ) (xs : List X) (ys : List Y) → length xs ≤ i → map see xs ≡ ys
    → out ≡ old ++ flat_map enc (map (λ x. f (see x)) (take i xs)) → out ≡ old ++ flat_map enc (map f ys)
all_seen enc see f old out i xs ys over same e =
    e ∙ ap (λ zs. old ++ flat_map enc (map (λ x. f (see x)) zs)) (take_all i xs over)
    ∙ ap (λ zs. old ++ flat_map enc zs) (sym (map_twice see f xs)) ∙ ap (λ zs. old ++ flat_map enc (map f zs)) same

-- behind a response's head, what comes before the topics and the topics give the fields
pub body_written : (s : State) (names : Option (List (List ℕ))) (begun headed out : List ℕ) (n : ℕ) → n ≡ length (metadata_topics s names)
    → ((b : MetadataOfBroker) (controller : ℤ) (ts : List MetadataOfTopic) → encoded metadata_response (metadata_value b controller ts) ≡ metadata_head b.node_id b.host b.port controller (length ts) ++ flat_map metadata_topic_bytes ts)
    → headed ≡ begun ++ metadata_head s.config.node_id s.config.host s.config.port (metadata_leader_id (metadata_leader s.config)) n
    → out ≡ headed ++ flat_map metadata_topic_bytes (metadata_topics s names) → out ≡ begun ++ metadata_body s names
body_written s names begun headed out n counts parts heads e =
    let ts = metadata_topics s names in
    let head = metadata_head s.config.node_id s.config.host s.config.port (metadata_leader_id (metadata_leader s.config)) in
    e ∙ ap (λ (x : List ℕ). x ++ flat_map metadata_topic_bytes ts) (heads ∙ ap (λ (k : ℕ). begun ++ head k) counts)
    ∙ append_assoc begun (head (length ts)) (flat_map metadata_topic_bytes ts)
    ∙ ap (λ (x : List ℕ). begun ++ x) (sym (parts (metadata_of_broker s.config) (metadata_leader_id (metadata_leader s.config)) ts))

pub topics_counted : (s : State) (ts : List TopicParts) → map topic_contents ts ≡ s.topics → length ts ≡ length (metadata_topics s None)
topics_counted s ts same = sym (length-map ts topic_contents) ∙ ap length same ∙ sym (length-map s.topics (metadata_of_topic s.config))
