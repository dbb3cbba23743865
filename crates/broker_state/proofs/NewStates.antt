-- A broker's topics by name, and a new broker's.
use Rattle.std.proofs.Common.{◌≡◌, ℕ, zero, suc, pos, Bool, true, false, cond, List, [], ◌∷◌, length, Option, Some, None, refl, sym, ap, ◌∙◌}
use Rattle.std.specs.Prelude.{map, replicate, bytes_eq, not, nat_lt, int_lt}
use Rattle.std.specs.List.{find, list_any, AllByRecursion}
use Rattle.std.specs.Option.{option_map, option_or}
use Rattle.std.specs.Int.{is_in_range}
use Rattle.content.specs.Content.{empty}
use Rattle.frame_fields.specs.Names.{is_topic_name}
use Rattle.broker_state.specs.declared.config.Role.{Role}
use Rattle.broker_state.specs.declared.limits.TheConstants.{MAX_TOPICS, MAX_PARTITIONS, MAX_HOST_BYTES}
use Rattle.broker_state.specs.declared.error.ConfigError.{ConfigError}
use Rattle.broker_state.specs.declared.error.ConfigError.TheVariants.{BadHost, TooManyTopics, BadFirstProducer, BadTopic, BadPartitions, TopicTwice, OutOfMemory}
use Rattle.answering.specs.Lists.{fault_if, first_some}
use Rattle.broker_state.specs.State.{TopicConfig, ConfigValue, new_topic, group_topic, all_topics}
use Rattle.broker_state.specs.Configs.{topic_fault, topics_fault, config_fault, ConfigFault}
use Rattle.broker_state.specs.Partitions.{PartitionValue}
use Rattle.broker_state.specs.Parts.{TopicParts, topic_contents, topic_shape, HasRole, AreTopicsOf, new_parts}

-- ---- topics by name

find_test : {X Y : Type 0} (b : Bool) (f : X → Y) (x : X) (r : Option X) → cond b (Some (f x)) (option_map f r) ≡ option_map f (cond b (Some x) r)
find_test true f x r = refl
find_test false f x r = refl

pub find_map : {X Y : Type 0} (f : X → Y) (test : Y → Bool) (xs : List X) → find test (map f xs) ≡ option_map f (find (λ x. test (f x)) xs)
find_map f test [] = refl
find_map f test (x ∷ xs) = ap (λ r. cond (test (f x)) (Some (f x)) r) (find_map f test xs) ∙ find_test (test (f x)) f x (find (λ y. test (f y)) xs)

-- ---- new topics

same_length : {X : Type 0} (n : ℕ) (x : X) → length (replicate n x) ≡ n
same_length zero x = refl
same_length (suc n) x = ap suc (same_length n x)

contents_empty : (n : ℕ) (role : Role) → map (λ (p : PartitionValue). p.content) (replicate n (record { role = role; content = empty })) ≡ replicate n empty
contents_empty zero role = refl
contents_empty (suc n) role = ap (λ cs. empty ∷ cs) (contents_empty n role)

all_of_role : (n : ℕ) (role : Role) → AllByRecursion (λ (p : PartitionValue). p.role ≡ role) (replicate n (record { role = role; content = empty }))
all_of_role zero role = tt
all_of_role (suc n) role = (refl, all_of_role n role)

shapes_are : (role : Role) (ts : List TopicConfig) → map topic_shape (map (new_parts role) ts) ≡ ts
shapes_are role [] = refl
shapes_are role (t ∷ ts) = λ i. record { name = t.name; partitions = same_length {X = PartitionValue} t.partitions (record { role = role; content = empty }) i } ∷ shapes_are role ts i

roles_are : (role : Role) (ts : List TopicConfig) → AllByRecursion (HasRole role) (map (new_parts role) ts)
roles_are role [] = tt
roles_are role (t ∷ ts) = (all_of_role t.partitions role, roles_are role ts)

contents_are : (role : Role) (ts : List TopicConfig) → map topic_contents (map (new_parts role) ts) ≡ map new_topic ts
contents_are role [] = refl
contents_are role (t ∷ ts) = λ i. record { name = t.name; partitions = contents_empty t.partitions role i } ∷ contents_are role ts i

pub new_topics_are : (g : ConfigValue) (ts : List TopicParts) → ts ≡ map (new_parts g.role) (all_topics g) → AreTopicsOf g ts
new_topics_are g ts e = rw e (record { shapes = shapes_are g.role (all_topics g); roles = roles_are g.role (all_topics g) })

pub new_topics_hold_nothing : (g : ConfigValue) (ts : List TopicParts) → ts ≡ map (new_parts g.role) (all_topics g) → map topic_contents ts ≡ map new_topic (all_topics g)
new_topics_hold_nothing g ts e = ap (map topic_contents) e ∙ contents_are g.role (all_topics g)

-- ---- a fault is never out of memory

three_faults : (a b c : Bool) → first_some (fault_if a BadTopic ∷ fault_if b BadPartitions ∷ fault_if c TopicTwice ∷ []) ≡ Some OutOfMemory → ⊥
three_faults true b c e = absurd cc
three_faults false true c e = absurd cc
three_faults false false true e = absurd cc
three_faults false false false e = absurd cc

one_of_two : (x y : Option ConfigError) → (x ≡ Some OutOfMemory → ⊥) → (y ≡ Some OutOfMemory → ⊥) → option_or x y ≡ Some OutOfMemory → ⊥
one_of_two (Some x) y f g e = f e
one_of_two None y f g e = g e

topics_not : (taken : List (List ℕ)) (ts : List TopicConfig) → topics_fault taken ts ≡ Some OutOfMemory → ⊥
topics_not taken [] e = absurd cc
topics_not taken (t ∷ ts) e =
    one_of_two (topic_fault taken t) (topics_fault (t.name ∷ taken) ts)
    (three_faults (not (is_topic_name t.name)) (not (is_in_range 1 MAX_PARTITIONS t.partitions)) (list_any (bytes_eq t.name) taken))
    (topics_not (t.name ∷ taken) ts) e

last_fault : (a b c : Bool) (x : Option ConfigError) → (x ≡ Some OutOfMemory → ⊥)
    → first_some (fault_if a BadHost ∷ fault_if b TooManyTopics ∷ fault_if c BadFirstProducer ∷ x ∷ []) ≡ Some OutOfMemory → ⊥
last_fault true b c x h e = absurd cc
last_fault false true c x h e = absurd cc
last_fault false false true x h e = absurd cc
last_fault false false false (Some x) h e = h e
last_fault false false false None h e = absurd cc

not_memory : (g : ConfigValue) → config_fault g ≡ Some OutOfMemory → ⊥
not_memory g = last_fault (nat_lt MAX_HOST_BYTES (length g.host)) (nat_lt MAX_TOPICS (length g.topics)) (int_lt g.first_producer (pos 0)) (topics_fault (group_topic ∷ []) g.topics) (topics_not (group_topic ∷ []) g.topics)

pub fault_refuses : (g : ConfigValue) (e : ConfigError) → Some e ≡ config_fault g → ConfigFault g e
fault_refuses g BadHost h = sym h
fault_refuses g TooManyTopics h = sym h
fault_refuses g BadFirstProducer h = sym h
fault_refuses g BadTopic h = sym h
fault_refuses g BadPartitions h = sym h
fault_refuses g TopicTwice h = sym h
fault_refuses g OutOfMemory h = absurd (not_memory g (sym h))
