-- The head of what a broker holds fits into its fields.
use Rattle.std.proofs.Common.{◌≡◌, ℕ, ◌+◌, ◌*◌, ◌≤◌, ℤ, pos, List, [], ◌∷◌, ◌++◌, length, FitsSigned, w16, w32, w64, refl, sym, ap, subst, append-nil, arith}
use Rattle.std.specs.Prelude.{map}
use Rattle.std.specs.List.{flat_map, AllByRecursion}
use Rattle.std.proofs.lemmas.Int.{ints}
use Rattle.std.proofs.lemmas.List.{length-append, length-map}
use Rattle.frame_fields.specs.Fields.{Value, Fits, encoded, elements}
use Rattle.frame_fields.specs.Types.{topic}
use Rattle.frame_fields.specs.Reading.{nothing}
use Rattle.copy_images.specs.Images.{image_of}
use Rattle.broker_state.specs.declared.config.Role.{Role}
use Rattle.broker_state.specs.declared.config.Role.TheVariants.{Leader, Follower}
use Rattle.broker_state.specs.declared.limits.TheConstants.{MAX_TOPICS}
use Rattle.broker_state.specs.State.{TopicConfig, Topic, State, group_topic, all_topics}
use Rattle.broker_state.specs.Sound.{shape_of, IsSound}
use Rattle.broker_state.proofs.Shapes.{IsSmallTopic, small_config}
use Rattle.snapshots.specs.declared.writing.SnapshotId.{SnapshotId}
use Rattle.snapshots.specs.Heads.{partition_fields, snapshot_fields}
use Rattle.state_snapshots.specs.Snapshots.{role_number, image_sizes, topic_said, state_said, SizesFit, IsReadable}

small16 : (n : ℕ) → n ≤ 30000 → FitsSigned w16 (pos n)
small16 n le = record { sfits = omega (arith, ints, le) }

small32 : (n : ℕ) → n ≤ 100000 → FitsSigned w32 (pos n)
small32 n le = record { sfits = omega (arith, ints, le) }

role_fits : (role : Role) → FitsSigned w16 (role_number role)
role_fits Leader = small16 0 (omega arith)
role_fits Follower = small16 1 (omega arith)

-- ---- a topic

abbrev entries : List ℤ → List (Value partition_fields)
entries zs = map (λ z. (z, nothing)) zs

sizes_fit : (zs : List ℤ) → AllByRecursion (FitsSigned w64) zs → AllByRecursion (Fits partition_fields) (entries zs)
unfolding Fits
sizes_fit [] fit = tt
sizes_fit (z ∷ zs) fit = ((fit.0, tt), sizes_fit zs fit.1)

topic_fits : (t : Topic) → IsSmallTopic (shape_of t) → SizesFit t → Fits (topic partition_fields) (topic_said t)
unfolding Fits
topic_fits t small fit =
    let count : length (entries (image_sizes t)) ≡ length (image_sizes t) = length-map (image_sizes t) (λ z. (z, nothing)) in
    let sizes = length-map t.partitions (λ c. pos (length (image_of c))) in
    let name = small.name in
    let few = small.few in
    (small16 (length t.name) (omega (arith, name)), ((small32 (length (entries (image_sizes t))) (omega (arith, count, sizes, few)), sizes_fit (image_sizes t) fit), tt))

entries_length : (zs : List ℤ) → length (flat_map (encoded partition_fields) (entries zs)) ≡ length zs * 8
unfolding encoded
entries_length [] = refl
entries_length (z ∷ zs) = let others = entries_length zs in omega (arith, others)

-- the encoding of a topic has a bounded length
abbrev bound : ℕ
bound = 767

topic_length : (t : Topic) → IsSmallTopic (shape_of t) → length (encoded (topic partition_fields) (topic_said t)) ≤ bound
unfolding encoded
topic_length t small =
    let sizes = length-map t.partitions (λ c. pos (length (image_of c))) in
    let es = flat_map (encoded partition_fields) (entries (image_sizes t)) in
    let name = small.name in
    let few = small.few in
    let all = length-append t.name (elements (encoded partition_fields) (entries (image_sizes t)) ++ []) in
    let none : length (es ++ []) ≡ length es = ap (λ (xs : List ℕ). length xs) (append-nil es) in
    omega (arith, name, few, sizes, all, none, entries_length (image_sizes t))

-- ---- all topics

topics_fit : (ts : List Topic) → AllByRecursion IsSmallTopic (map shape_of ts) → AllByRecursion SizesFit ts → AllByRecursion (Fits (topic partition_fields)) (map topic_said ts)
topics_fit [] small fit = tt
topics_fit (t ∷ ts) small fit = (topic_fits t small.0 fit.0, topics_fit ts small.1 fit.1)

topics_length : (ts : List Topic) → AllByRecursion IsSmallTopic (map shape_of ts) → length (flat_map (encoded (topic partition_fields)) (map topic_said ts)) ≤ length ts * bound
topics_length [] small = omega arith
topics_length (t ∷ ts) small =
    let one = topic_length t small.0 in
    let others = topics_length ts small.1 in
    let both = length-append (encoded (topic partition_fields) (topic_said t)) (flat_map (encoded (topic partition_fields)) (map topic_said ts)) in
    omega (arith, one, others, both)

few_topics : (s : State) → IsSound s → length s.topics ≤ MAX_TOPICS + 1
few_topics s sound =
    let same : length (map shape_of s.topics) ≡ length (all_topics s.config) = ap (λ (xs : List TopicConfig). length xs) sound.topics in
    let few = (small_config s.config sound.config.valid).few in
    omega (arith, few, same, length-map s.topics shape_of, length-append s.config.topics (record { name = group_topic; partitions = 1 } ∷ []))

small_topics : (s : State) → IsSound s → AllByRecursion IsSmallTopic (map shape_of s.topics)
small_topics s sound = subst (AllByRecursion IsSmallTopic) (sym sound.topics) (small_config s.config sound.config.valid).topics

-- ---- the whole

head_length : (number : ℤ) (s : State) (n : ℕ) → length (flat_map (encoded (topic partition_fields)) (map topic_said s.topics)) ≡ n → length (encoded snapshot_fields (state_said number s)) ≡ 30 + n
unfolding encoded
head_length number s n is =
    let topics = flat_map (encoded (topic partition_fields)) (map topic_said s.topics) in
    let none : length (topics ++ []) ≡ length topics = ap (λ (xs : List ℕ). length xs) (append-nil topics) in
    omega (arith, is, none)

head_fits : (number : ℤ) (s : State) → FitsSigned w64 number → IsSound s → AllByRecursion SizesFit s.topics → Fits snapshot_fields (state_said number s)
unfolding Fits
head_fits number s fits sound fit =
    let count = length-map s.topics topic_said in
    let few = few_topics s sound in
    (fits, (role_fits s.config.role, (sound.config.first_producer, (sound.next_producer, ((small32 (length (map topic_said s.topics)) (omega (arith, count, few)), topics_fit s.topics (small_topics s sound) fit), tt)))))

pub readable : (id : SnapshotId) (s : State) → FitsSigned w64 id.number → FitsSigned w64 id.key → IsSound s → AllByRecursion SizesFit s.topics → IsReadable id s
readable id s fits keyed sound fit =
    let few = few_topics s sound in
    let topics = topics_length s.topics (small_topics s sound) in
    let whole = head_length id.number s (length (flat_map (encoded (topic partition_fields)) (map topic_said s.topics))) refl in
    record {
      fits = head_fits id.number s fits sound fit;
      sized = small32 (length (encoded snapshot_fields (state_said id.number s))) (omega (arith, few, topics, whole));
      keyed = keyed;
    }
