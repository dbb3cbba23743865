-- What Metadata says of a broker's topics is a function of their names and of how many partitions they have.
use Rattle.std.proofs.Common.{◌≡◌, ℕ, ℤ, cond, List, [], ◌∷◌, length, Option, Some, None, refl, sym, ap, ◌∙◌}
use Rattle.std.specs.Prelude.{bytes_eq, map, if◌then◌else◌}
use Rattle.std.specs.List.{find, range_with_len}
use Rattle.std.specs.Option.{option_map}
use Rattle.std.proofs.lemmas.List.{length-map}
use Rattle.frame_fields.specs.Names.{is_topic_name}
use Rattle.request_frames.specs.Requests.BodyValue.{metadata}
use Rattle.answering.specs.Codes.{no_error}
use Rattle.answering.specs.declared.codes.ErrorCode.TheVariants.{UnknownTopicOrPartition, InvalidTopic}
use Rattle.responses.specs.Responses.{response}
use Rattle.responses.specs.Metadata.{MetadataOfTopic, metadata_response, metadata_value, metadata_leader_id}
use Rattle.broker_state.specs.State.{ConfigValue, Topic, State, is_group_topic, topic_of}
use Rattle.broker_state.proofs.NewStates.{find_map}
use Rattle.log_requests.specs.Metadata.{metadata_of_broker, metadata_leader, metadata_of_partition, metadata_of_failed, metadata_of_topic, metadata_of_found, metadata_at, each_once, metadata_topics}
use Rattle.cleaning_laws.specs.Logs.{Logs}
use Rattle.cleaning_laws.specs.Alike.{SeenTopic, seen_of, seen_topic, seen_topics, AreAlike}
use Rattle.cleaning_laws.proofs.GrownLogs.{stay}
use Rattle.cleaning_laws.proofs.OnlyRead.{BodyAlike}

-- ---- a topic

abbrev of_seen : ConfigValue → SeenTopic → MetadataOfTopic
of_seen g t = record {
  code = no_error;
  name = t.name;
  is_internal = is_group_topic t.name;
  partitions = map (metadata_of_partition g) (range_with_len 0 (length t.partitions));
}

topic_is : (g : ConfigValue) (t : Topic) → metadata_of_topic g t ≡ of_seen g (seen_topic t)
topic_is g t = ap (λ (n : ℕ). record { code = no_error; name = t.name; is_internal = is_group_topic t.name; partitions = map (metadata_of_partition g) (range_with_len 0 n) }) (sym (length-map t.partitions seen_of))

-- ---- all topics

all_are : (g : ConfigValue) (ts : List Topic) → map (metadata_of_topic g) ts ≡ map (of_seen g) (map seen_topic ts)
all_are g [] = refl
all_are g (t ∷ ts) = λ i. topic_is g t i ∷ all_are g ts i

-- ---- a name

abbrev found_seen : ConfigValue → List ℕ → Option SeenTopic → MetadataOfTopic
found_seen g name None = metadata_of_failed UnknownTopicOrPartition name
found_seen g name (Some t) = of_seen g t

found_is : (g : ConfigValue) (name : List ℕ) (o : Option Topic) → metadata_of_found g name o ≡ found_seen g name (option_map seen_topic o)
found_is g name None = refl
found_is g name (Some t) = topic_is g t

abbrev name_seen : ConfigValue → List SeenTopic → List ℕ → MetadataOfTopic
name_seen g ts name = if is_topic_name name then found_seen g name (find (λ t. bytes_eq t.name name) ts) else metadata_of_failed InvalidTopic name

name_is : (s : State) (name : List ℕ) → metadata_at s name ≡ name_seen s.config (seen_topics s) name
name_is s name = ap (λ (m : MetadataOfTopic). cond (is_topic_name name) m (metadata_of_failed InvalidTopic name))
    (found_is s.config name (topic_of s name) ∙ ap (found_seen s.config name) (sym (find_map seen_topic (λ t. bytes_eq t.name name) s.topics)))

names_are : (s : State) (names : List (List ℕ)) → map (metadata_at s) names ≡ map (name_seen s.config (seen_topics s)) names
names_are s [] = refl
names_are s (name ∷ names) = λ i. name_is s name i ∷ names_are s names i

-- ---- the reply

abbrev topics_seen : ConfigValue → List SeenTopic → Option (List (List ℕ)) → List MetadataOfTopic
topics_seen g ts None = map (of_seen g) ts
topics_seen g ts (Some names) = map (name_seen g ts) (each_once names)

topics_are : (s : State) (names : Option (List (List ℕ))) → metadata_topics s names ≡ topics_seen s.config (seen_topics s) names
topics_are s None = all_are s.config s.topics
topics_are s (Some names) = names_are s (each_once names)

pub metadata_alike : (logs : Logs) (s z : State) (n : ℤ) (names : Option (List (List ℕ))) → AreAlike logs s z → BodyAlike logs s z n (metadata names)
metadata_alike logs s z n names alike =
    let topics : metadata_topics s names ≡ metadata_topics z names = topics_are s names ∙ (λ i. topics_seen (alike.config i) (alike.seen i) names) ∙ sym (topics_are z names) in
    record {
      states = stay logs s z alike;
      replies = λ settled i. Some (response n metadata_response (metadata_value (metadata_of_broker (alike.config i)) (metadata_leader_id (metadata_leader (alike.config i))) (topics i)));
    }
