-- Each content of a sound state is valid, and the state stays sound with another valid content of a partition. A broker's
-- state is sound, since its topics are.
use Rattle.std.proofs.Common.{◌≡◌, ℕ, zero, suc, ℤ, pos, negsuc, Bool, true, false, cond, List, [], ◌∷◌, Option, Some, None, refl, sym, subst, ◌∙◌}
use Rattle.std.specs.Prelude.{map, replicate, slice_get, bytes_eq, FitsSigned}
use Rattle.std.specs.Int.{w64}
use Rattle.std.specs.List.{find, AllByRecursion}
use Rattle.std.specs.Option.{unwrap_or, option_and_then}
use Rattle.std.proofs.lemmas.List.{length-set, length-map}
use Rattle.content.specs.Content.{Content, IsContent, empty}
use Rattle.partition_log.proofs.Kept.{empty_content}
use Rattle.broker_state.specs.declared.config.Role.{Role}
use Rattle.broker_state.specs.State.{TopicConfig, ConfigValue, Topic, State, all_topics, topic_of, partition_of, content_at, with_partition, with_partition_of, with_content}
use Rattle.broker_state.specs.Partitions.{PartitionValue}
use Rattle.broker_state.specs.Parts.{TopicParts, topic_contents, topic_shape, AreTopicsOf, new_parts}
use Rattle.broker_state.specs.Sound.{IsSoundConfig, shape_of, HoldsContents, IsSound}
use Rattle.broker_state.proofs.PlacedTopics.{all_get, all_set}

-- ---- what a state holds

-- what is found among elements of which each has a property has it
pub found_has : {X : Type 0} (P : X → Type 0) (test : X → Bool) (xs : List X) (x : X) → AllByRecursion P xs → find test xs ≡ Some x → P x
found_has P test [] x all e = absurd cc
found_has {X = X} P test (y ∷ ys) x all e = by (test y) (found_has P test ys x all.1) e
  where
    by : (b : Bool) → (find test ys ≡ Some x → P x) → cond b (Some y) (find test ys) ≡ Some x → P x
    by true rest f = let same : y ≡ x = cc in subst P same all.0
    by false rest f = rest f

or_empty : (o : Option Content) → ((c : Content) → o ≡ Some c → IsContent c) → IsContent (unwrap_or o empty)
or_empty None valid = empty_content
or_empty (Some c) valid = valid c refl

in_topic : (p : ℤ) (t : Topic) → HoldsContents t → IsContent (unwrap_or (partition_of p t) empty)
in_topic (pos n) t all = or_empty (slice_get t.partitions n) (λ c e. all_get IsContent t.partitions n c all e)
in_topic (negsuc n) t all = empty_content

pub content_valid : (s : State) (name : List ℕ) (p : ℤ) → IsSound s → IsContent (content_at s name p)
content_valid s name p sound = by (topic_of s name) refl
  where
    by : (o : Option Topic) → topic_of s name ≡ o → IsContent (unwrap_or (option_and_then (partition_of p) o) empty)
    by None e = empty_content
    by (Some t) e = in_topic p t (found_has HoldsContents _ s.topics t sound.contents e)

-- ---- another content of one partition

module _ (name : List ℕ) (c : Content) where
  changed_topic : (p : ℤ) (t : Topic) → IsContent c → HoldsContents t → HoldsContents (with_partition p c t)
  changed_topic (pos n) t valid all = all_set IsContent t.partitions n c all valid
  changed_topic (negsuc n) t valid all = all

  changed_topics : (p : ℤ) (ts : List Topic) → IsContent c → AllByRecursion HoldsContents ts → AllByRecursion HoldsContents (with_partition_of name p c ts)
  changed_topics p [] valid all = tt
  changed_topics p (t ∷ ts) valid all = by (bytes_eq t.name name) (changed_topics p ts valid all.1)
    where
      by : (b : Bool) → AllByRecursion HoldsContents (with_partition_of name p c ts) → AllByRecursion HoldsContents (cond b (with_partition p c t ∷ ts) (t ∷ with_partition_of name p c ts))
      by true rest = (changed_topic p t valid all.0, all.1)
      by false rest = (all.0, rest)

  same_shape : (p : ℤ) (t : Topic) → shape_of (with_partition p c t) ≡ shape_of t
  same_shape (pos n) t = λ i. record { name = t.name; partitions = length-set t.partitions n c i }
  same_shape (negsuc n) t = refl

  same_shapes : (p : ℤ) (ts : List Topic) → map shape_of (with_partition_of name p c ts) ≡ map shape_of ts
  same_shapes p [] = refl
  same_shapes p (t ∷ ts) = by (bytes_eq t.name name) (same_shapes p ts)
    where
      by : (b : Bool) → map shape_of (with_partition_of name p c ts) ≡ map shape_of ts → map shape_of (cond b (with_partition p c t ∷ ts) (t ∷ with_partition_of name p c ts)) ≡ shape_of t ∷ map shape_of ts
      by true rest = λ i. same_shape p t i ∷ map shape_of ts
      by false rest = λ i. shape_of t ∷ rest i

pub sound_with : (s : State) (name : List ℕ) (p : ℤ) (c : Content) → IsContent c → IsSound s → IsSound (with_content s name p c)
sound_with s name p c valid sound = record {
  config = sound.config;
  topics = same_shapes name c p s.topics ∙ sound.topics;
  contents = changed_topics name c p s.topics valid sound.contents;
  next_producer = sound.next_producer;
}

-- ---- a broker's own topics

abbrev pub HoldParts : TopicParts → Type 0
HoldParts t = HoldsContents (topic_contents t)

-- empty partitions do
empty_parts : (role : Role) (n : ℕ) → AllByRecursion IsContent (map (λ (p : PartitionValue). p.content) (replicate n (record { role = role; content = empty })))
empty_parts role zero = tt
empty_parts role (suc n) = (empty_content, empty_parts role n)

each_new : (role : Role) (ts : List TopicConfig) → AllByRecursion HoldParts (map (new_parts role) ts)
each_new role [] = tt
each_new role (t ∷ ts) = (empty_parts role t.partitions, each_new role ts)

pub new_topics_hold : (g : ConfigValue) (ts : List TopicParts) → ts ≡ map (new_parts g.role) (all_topics g) → AllByRecursion HoldParts ts
new_topics_hold g ts e = subst (AllByRecursion HoldParts) (sym e) (each_new g.role (all_topics g))

shapes_shown : (ts : List TopicParts) → map shape_of (map topic_contents ts) ≡ map topic_shape ts
shapes_shown [] = refl
shapes_shown (t ∷ ts) = λ i. record { name = t.name; partitions = length-map t.partitions (λ p. p.content) i } ∷ shapes_shown ts i

contents_shown : (ts : List TopicParts) → AllByRecursion HoldParts ts → AllByRecursion HoldsContents (map topic_contents ts)
contents_shown [] all = tt
contents_shown (t ∷ ts) all = (all.0, contents_shown ts all.1)

pub sound_of : (g : ConfigValue) (ts : List TopicParts) (next : ℤ) (s : State) → record { config = g; topics = map topic_contents ts; next_producer = next } ≡ s → IsSoundConfig g → AreTopicsOf g ts → AllByRecursion HoldParts ts
    → FitsSigned w64 next → IsSound s
sound_of g ts next s view config are all fits = subst IsSound view (record {
  config = config;
  topics = shapes_shown ts ∙ are.shapes;
  contents = contents_shown ts all;
  next_producer = fits;
})
