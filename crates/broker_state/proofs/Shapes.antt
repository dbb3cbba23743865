-- How many topics and partitions a valid broker has, and how long their names are.
use Rattle.std.proofs.Common.{◌≡◌, ℕ, pos, ◌+◌, ◌≤◌, arith, List, [], ◌∷◌, ◌++◌, length, None, sym, ap, subst}
use Rattle.std.specs.Prelude.{map, not, nat_lt, int_lt, false}
use Rattle.std.specs.List.{All, AllByRecursion}
use Rattle.std.specs.Int.{is_in_range}
use Rattle.std.proofs.lemmas.List.{length-append, length-map}
use Rattle.std.proofs.lemmas.List.Elements.{All-from_recursion}
use Rattle.frame_fields.specs.declared.names.TheConstants.{MAX_TOPIC_NAME}
use Rattle.frame_fields.specs.Names.{is_topic_name}
use Rattle.broker_state.specs.declared.limits.TheConstants.{MAX_TOPICS, MAX_PARTITIONS, MAX_HOST_BYTES}
use Rattle.broker_state.specs.declared.error.ConfigError.TheVariants.{BadHost, TooManyTopics, BadFirstProducer, BadTopic, BadPartitions}
use Rattle.answering.specs.Lists.{fault_if}
use Rattle.broker_state.specs.State.{TopicConfig, ConfigValue, group_topic, all_topics}
use Rattle.broker_state.specs.Configs.{topic_fault, topics_fault, IsValidConfig}
use Rattle.broker_state.specs.Parts.{TopicParts, topic_shape, AreTopicsOf}
use Rattle.broker_state.proofs.Passed.{none_first, no_fault}

-- ---- what a configuration without a fault says

pub record IsSmallTopic (t : TopicConfig) : Type 0 where
  pub name : length t.name ≤ MAX_TOPIC_NAME
  pub few : t.partitions ≤ MAX_PARTITIONS
  pub some : 1 ≤ t.partitions

pub record IsSmallConfig (g : ConfigValue) : Type 0 where
  pub host : length g.host ≤ MAX_HOST_BYTES
  pub few : length g.topics ≤ MAX_TOPICS
  pub topics : AllByRecursion IsSmallTopic (all_topics g)

small_name : (name : List ℕ) → not (is_topic_name name) ≡ false → length name ≤ MAX_TOPIC_NAME
small_name name e = grind (arith, e)

in_limit : (n : ℕ) → not (is_in_range 1 MAX_PARTITIONS n) ≡ false → n ≤ MAX_PARTITIONS
in_limit n h = grind (arith, h)

at_least_one : (n : ℕ) → not (is_in_range 1 MAX_PARTITIONS n) ≡ false → 1 ≤ n
at_least_one n h = grind (arith, h)

small_topic : (taken : List (List ℕ)) (t : TopicConfig) → topic_fault taken t ≡ None → IsSmallTopic t
small_topic taken t none =
    let name = none_first (fault_if (not (is_topic_name t.name)) BadTopic) _ none in
    let few = none_first (fault_if (not (is_in_range 1 MAX_PARTITIONS t.partitions)) BadPartitions) _ name.1 in
    let counted = no_fault _ BadPartitions few.0 in
    record { name = small_name t.name (no_fault _ BadTopic name.0); few = in_limit t.partitions counted; some = at_least_one t.partitions counted }

small_topics : (taken : List (List ℕ)) (ts : List TopicConfig) → topics_fault taken ts ≡ None → AllByRecursion IsSmallTopic (ts ++ record { name = group_topic; partitions = 1 } ∷ [])
small_topics taken [] none = (record { name = omega arith; few = omega arith; some = omega arith }, tt)
small_topics taken (t ∷ ts) none =
    let both = none_first (topic_fault taken t) (topics_fault (t.name ∷ taken) ts) none in
    (small_topic taken t both.0, small_topics (t.name ∷ taken) ts both.1)

pub small_config : (g : ConfigValue) → IsValidConfig g → IsSmallConfig g
small_config g valid =
    let host = none_first (fault_if (nat_lt MAX_HOST_BYTES (length g.host)) BadHost) _ valid in
    let few = none_first (fault_if (nat_lt MAX_TOPICS (length g.topics)) TooManyTopics) _ host.1 in
    let first = none_first (fault_if (int_lt g.first_producer (pos 0)) BadFirstProducer) _ few.1 in
    let topics = none_first (topics_fault (group_topic ∷ []) g.topics) None first.1 in
    let low = no_fault _ BadHost host.0 in
    let most = no_fault _ TooManyTopics few.0 in
    record { host = grind (arith, low); few = grind (arith, most); topics = small_topics (group_topic ∷ []) g.topics topics.0 }

-- ---- what a broker of it has

few_shapes : (ts : List TopicParts) → AllByRecursion IsSmallTopic (map topic_shape ts) → AllByRecursion (λ (t : TopicParts). length t.partitions ≤ MAX_PARTITIONS) ts
few_shapes [] h = h
few_shapes (t ∷ ts) h = (h.0.few, few_shapes ts h.1)

pub few_in_each : (g : ConfigValue) (ts : List TopicParts) → IsValidConfig g → AreTopicsOf g ts → AllByRecursion (λ (t : TopicParts). length t.partitions ≤ MAX_PARTITIONS) ts
few_in_each g ts valid are = few_shapes ts (subst (AllByRecursion IsSmallTopic) (sym are.shapes) (small_config g valid).topics)

pub few_partitions : (g : ConfigValue) (ts : List TopicParts) → IsValidConfig g → AreTopicsOf g ts → All (λ (t : TopicParts). length t.partitions ≤ MAX_PARTITIONS) ts
few_partitions g ts valid are = All-from_recursion _ ts (few_in_each g ts valid are)

pub few_topics : (g : ConfigValue) (ts : List TopicParts) → IsValidConfig g → AreTopicsOf g ts → length ts ≤ MAX_TOPICS + 1
few_topics g ts valid are =
    let same : length (map topic_shape ts) ≡ length (all_topics g) = ap length are.shapes in
    let few = (small_config g valid).few in
    omega (arith, few, same, length-map ts topic_shape, length-append g.topics (record { name = group_topic; partitions = 1 } ∷ []))
