-- The response to Metadata fits its fields: names that are asked for come back once each, and a topic that the broker has,
-- with its partitions, is asked for once at most.
use Rattle.std.proofs.Common.{◌≡◌, ℕ, zero, suc, ◌+◌, ◌*◌, ◌<◌, ◌≤◌, ℤ, pos, negsuc, Bool, true, false, cond, not, List, [], ◌∷◌, ◌++◌, length, Option, Some, None, refl, sym, ap, subst, ◌∙◌, arith}
use Rattle.std.specs.Prelude.{map, FitsSigned, bytes_eq}
use Rattle.std.specs.List.{flat_map, filter, find, range_with_len, AllByRecursion}
use Rattle.std.specs.Int.{w16, w32}
use Rattle.std.proofs.lemmas.List.{length-append, length-map}
use Rattle.std.proofs.lemmas.List.FromFn.{length-map-range_with_len}
use Rattle.std.specs.Option.{option_map}
use Rattle.content_laws.proofs.BatchParts.{all-filter}
use Rattle.frame_fields.specs.Fields.{size8, size16, size32, end, be, FitsLength, Fits, ElementsFit, encoded, array_or_null, Value}
use Rattle.frame_fields.specs.Types.{int32, flag, ◌⨾◌, string}
use Rattle.frame_fields.specs.Names.{is_topic_name}
use Rattle.frame_fields.proofs.Numbers.{length-be, null_fits}
use Rattle.request_frames.specs.Metadata.{metadata_fields, metadata_request}
use Rattle.responses.specs.declared.metadata.partition.MetadataPartition.{MetadataPartition}
use Rattle.responses.specs.Metadata.{MetadataOfTopic, metadata_partition_fields, metadata_topic_fields, metadata_response, metadata_leader_id, metadata_replicas, metadata_partition_value, metadata_topic_value, metadata_value}
use Rattle.answering.specs.declared.codes.ErrorCode.{ErrorCode}
use Rattle.answering.specs.declared.codes.ErrorCode.TheVariants.{UnknownTopicOrPartition, LeaderNotAvailable, InvalidTopic}
use Rattle.broker_state.specs.declared.config.Role.{Role}
use Rattle.broker_state.specs.declared.config.Role.TheVariants.{Leader, Follower}
use Rattle.broker_state.specs.declared.limits.TheConstants.{MAX_TOPICS, MAX_PARTITIONS}
use Rattle.broker_state.specs.State.{ConfigValue, Topic, State, group_topic, all_topics, is_group_topic, topic_of}
use Rattle.broker_state.specs.Sound.{IsSoundConfig, shape_of, IsSound}
use Rattle.broker_state.proofs.Shapes.{IsSmallTopic, small_config}
use Rattle.broker_state.proofs.SoundStates.{found_has}
use Rattle.log_requests.specs.Metadata.{metadata_of_broker, metadata_leader_of, metadata_leader_code, metadata_leader, metadata_of_partition, metadata_of_failed, metadata_of_topic, metadata_of_found, metadata_at, each_once, metadata_topics, metadata_reply}
use Rattle.log_requests.proofs.MetadataNames.{same_name, no_more}
use Rattle.broker_node.specs.Fitting.{FitsIfSent}
use Rattle.broker_laws.proofs.Followed.{total, longer}
use Rattle.broker_laws.proofs.Works.{no_error_fits, code_fits, flag_fits}
use Rattle.broker_laws.proofs.Said.{IsPart}
use Rattle.broker_laws.proofs.FittingResponses.{fitting_response, IsKept, frame_limit}

-- ---- partitions

leader_fits : (role : Role) (node : ℤ) → FitsSigned w32 node → FitsSigned w32 (metadata_leader_id (metadata_leader_of role node))
leader_fits Leader node fits = fits
leader_fits Follower node fits = null_fits size32

replicas_fit : (role : Role) (node : ℤ) → FitsSigned w32 node → ElementsFit (Fits (int32 ⨾ end)) (metadata_replicas (metadata_leader_of role node))
unfolding Fits
replicas_fit Leader node fits = (record { sfits = omega arith }, ((fits, tt), tt))
replicas_fit Follower node fits = (record { sfits = omega arith }, tt)

leading_fits : (role : Role) → FitsSigned w16 (metadata_leader_code role)
leading_fits Leader = no_error_fits
leading_fits Follower = code_fits LeaderNotAvailable

partition_long : (p : MetadataPartition) → length (encoded metadata_partition_fields (metadata_partition_value p)) ≤ 26
unfolding encoded
partition_long p = by p.leader
  where
    by : (leader : Option ℤ) → length (encoded metadata_partition_fields (p.code, (p.index, (metadata_leader_id leader, (metadata_replicas leader, (metadata_replicas leader, tt)))))) ≤ 26
    by None = omega arith
    by (Some node) = omega arith

module _ (g : ConfigValue) (node : FitsSigned w32 g.node_id) where
  partition_fits : (i : ℕ) → i < MAX_PARTITIONS → Fits metadata_partition_fields (metadata_partition_value (metadata_of_partition g i))
  unfolding Fits
  partition_fits i low = (leading_fits g.role, (record { sfits = omega (arith, low) }, (leader_fits g.role g.node_id node, (replicas_fit g.role g.node_id node, (replicas_fit g.role g.node_id node, tt)))))

  partitions_fit : (i n : ℕ) → i + n ≤ MAX_PARTITIONS → AllByRecursion (Fits metadata_partition_fields) (map metadata_partition_value (map (metadata_of_partition g) (range_with_len i n)))
  partitions_fit i zero low = tt
  partitions_fit i (suc n) low = (partition_fits i (omega (arith, low)), partitions_fit (i + 1) n (omega (arith, low)))

partitions_long : (ps : List MetadataPartition) → length (flat_map (encoded metadata_partition_fields) (map metadata_partition_value ps)) ≤ 26 * length ps
partitions_long [] = omega arith
partitions_long (p ∷ ps) = omega (arith, longer (encoded metadata_partition_fields) (metadata_partition_value p) (map metadata_partition_value ps), partition_long p, partitions_long ps)

-- ---- topics

abbrev topic_size : MetadataOfTopic → ℕ
topic_size t = length (encoded metadata_topic_fields (metadata_topic_value t))

topic_long : (t : MetadataOfTopic) → topic_size t ≤ 9 + length t.name + 26 * length t.partitions
unfolding encoded
topic_long t =
    let name = be size16 (pos (length t.name)) in
    let count = be size32 (pos (length (map metadata_partition_value t.partitions))) in
    let all = flat_map (encoded metadata_partition_fields) (map metadata_partition_value t.partitions) in
    let internal = be size8 (flag t.is_internal) in
    let last = (count ++ all) ++ [] in
    omega (
      arith,
      length-append (be size16 t.code) ((name ++ t.name) ++ (internal ++ last)),
      length-be size16 t.code,
      length-append (name ++ t.name) (internal ++ last),
      length-append name t.name,
      length-be size16 (pos (length t.name)),
      length-append internal last,
      length-be size8 (flag t.is_internal),
      length-append (count ++ all) [],
      length-append count all,
      length-be size32 (pos (length (map metadata_partition_value t.partitions))),
      partitions_long t.partitions,
    )

-- what is said of a topic fits, in so many bytes
record IsWithin (n : ℕ) (t : MetadataOfTopic) : Type 0 where
  pub fits : Fits metadata_topic_fields (metadata_topic_value t)
  pub size : topic_size t ≤ n

failed_within : (code : ErrorCode) (name : List ℕ) → FitsLength size16 (length name) → IsWithin (9 + length name) (metadata_of_failed code name)
unfolding Fits
failed_within code name fits = record {
  fits = (code_fits code, (fits, (flag_fits false, ((record { sfits = omega arith }, tt), tt))));
  size = omega (arith, topic_long (metadata_of_failed code name));
}

known_within : (g : ConfigValue) (t : Topic) → FitsSigned w32 g.node_id → FitsLength size16 (length t.name) → length t.partitions ≤ MAX_PARTITIONS → IsWithin (9 + length t.name + 26 * length t.partitions) (metadata_of_topic g t)
unfolding Fits
known_within g t node name few =
    let many : length (map (metadata_of_partition g) (range_with_len 0 (length t.partitions))) ≡ length t.partitions = length-map-range_with_len (metadata_of_partition g) 0 (length t.partitions) in
    let valued : length (map metadata_partition_value (map (metadata_of_partition g) (range_with_len 0 (length t.partitions)))) ≡ length t.partitions = length-map (map (metadata_of_partition g) (range_with_len 0 (length t.partitions))) metadata_partition_value ∙ many in
    record {
      fits = (no_error_fits, (name, (flag_fits (is_group_topic t.name), ((record { sfits = omega (arith, valued, few) }, partitions_fit g node 0 (length t.partitions) (omega (arith, few))), tt))));
      size = omega (arith, topic_long (metadata_of_topic g t), many);
    }

-- of a list, each within its bytes
module _ {X : Type 0} (f : X → MetadataOfTopic) (w : X → ℕ) where
  all_fit : (xs : List X) → AllByRecursion (λ x. IsWithin (w x) (f x)) xs → AllByRecursion (Fits metadata_topic_fields) (map metadata_topic_value (map f xs))
  all_fit [] all = tt
  all_fit (x ∷ xs) all = (all.0.fits, all_fit xs all.1)

  all_long : (xs : List X) → AllByRecursion (λ x. IsWithin (w x) (f x)) xs → length (flat_map (encoded metadata_topic_fields) (map metadata_topic_value (map f xs))) ≤ total w xs
  all_long [] all = omega arith
  all_long (x ∷ xs) all = let one = all.0.size in omega (arith, longer (encoded metadata_topic_fields) (metadata_topic_value (f x)) (map metadata_topic_value (map f xs)), one, all_long xs all.1)

-- ---- the broker's own topics

of_shapes : (ts : List Topic) → AllByRecursion IsSmallTopic (map shape_of ts) → AllByRecursion (λ (t : Topic). IsSmallTopic (shape_of t)) ts
of_shapes [] all = tt
of_shapes (t ∷ ts) all = (all.0, of_shapes ts all.1)

state_small : (s : State) → IsSound s → AllByRecursion (λ (t : Topic). IsSmallTopic (shape_of t)) s.topics
state_small s sound = of_shapes s.topics (subst (AllByRecursion IsSmallTopic) (sym sound.topics) (small_config s.config sound.config.valid).topics)

state_few : (s : State) → IsSound s → length s.topics ≤ MAX_TOPICS + 1
state_few s sound =
    let same : length (map shape_of s.topics) ≡ length (all_topics s.config) = ap length sound.topics in
    let few = (small_config s.config sound.config.valid).few in
    omega (arith, same, few, length-map s.topics shape_of, length-append s.config.topics (record { name = group_topic; partitions = 1 } ∷ []))

-- all of them: 249 bytes and 64 partitions each at most
all_known : (g : ConfigValue) (ts : List Topic) → FitsSigned w32 g.node_id → AllByRecursion (λ (t : Topic). IsSmallTopic (shape_of t)) ts → AllByRecursion (λ t. IsWithin 1922 (metadata_of_topic g t)) ts
all_known g [] node all = tt
all_known g (t ∷ ts) node all =
    let name = all.0.name in
    let few = all.0.few in
    let known = known_within g t node (record { sfits = omega (arith, name) }) few in
    let size = known.size in
    (record { fits = known.fits; size = omega (arith, size, name, few) }, all_known g ts node all.1)

total_same : {X : Type 0} (xs : List X) → total (λ (x : X). 1922) xs ≡ 1922 * length xs
total_same [] = omega arith
total_same (x ∷ xs) = omega (arith, total_same xs)

-- ---- names, each once

abbrev Names : Type 0
Names = List (List ℕ)

module _ (w : List ℕ → ℕ) (p : List ℕ → Bool) where
  less_of_some : (xs : Names) → total w (filter p xs) ≤ total w xs
  less_of_some [] = omega arith
  less_of_some (x ∷ xs) = by (p x) (less_of_some xs)
    where
      by : (b : Bool) → total w (filter p xs) ≤ total w xs → total w (cond b (x ∷ filter p xs) (filter p xs)) ≤ w x + total w xs
      by true rest = omega (arith, rest)
      by false rest = omega (arith, rest)

less_of_once : (w : List ℕ → ℕ) (xs : Names) → total w (each_once xs) ≤ total w xs
less_of_once w [] = omega arith
less_of_once w (x ∷ xs) = omega (arith, less_of_some w (λ other. not (bytes_eq other x)) (each_once xs), less_of_once w xs)

all_of_once : (P : List ℕ → Type 0) (xs : Names) → AllByRecursion P xs → AllByRecursion P (each_once xs)
all_of_once P [] all = tt
all_of_once P (x ∷ xs) all = (all.0, all-filter P (λ other. not (bytes_eq other x)) (each_once xs) (all_of_once P xs all.1))

abbrev is_at : List ℕ → List ℕ → ℕ
is_at name other = cond (bytes_eq name other) 1 0

others_only : (name : List ℕ) (xs : Names) → total (is_at name) (filter (λ other. not (bytes_eq other name)) xs) ≡ 0
others_only name [] = refl
others_only name (x ∷ xs) = by (bytes_eq x name) (bytes_eq name x) refl refl (others_only name xs)
  where
    by : (b d : Bool) → bytes_eq x name ≡ b → bytes_eq name x ≡ d → total (is_at name) (filter (λ other. not (bytes_eq other name)) xs) ≡ 0
        → total (is_at name) (cond (not b) (x ∷ filter (λ other. not (bytes_eq other name)) xs) (filter (λ other. not (bytes_eq other name)) xs)) ≡ 0
    by true d e f rest = rest
    by false true e f rest = let same = same_name name x f in let clash : bytes_eq x name ≡ true = ap (λ (y : List ℕ). bytes_eq x y) same ∙ ap (λ (y : List ℕ). bytes_eq y x) (sym same) ∙ f in absurd (grind (arith, e, clash))
    by false false e f rest = let none : is_at name x ≡ 0 = ap (λ (b : Bool). cond b 1 0) f in omega (arith, none, rest)

at_once : (name : List ℕ) (xs : Names) → total (is_at name) (each_once xs) ≤ 1
at_once name [] = omega arith
at_once name (x ∷ xs) = by (bytes_eq name x) refl (at_once name xs)
  where
    rest : Names
    rest = filter (λ other. not (bytes_eq other x)) (each_once xs)

    by : (b : Bool) → bytes_eq name x ≡ b → total (is_at name) (each_once xs) ≤ 1 → cond b 1 0 + total (is_at name) rest ≤ 1
    by true e once = let none : total (is_at name) rest ≡ 0 = subst (λ (n : List ℕ). total (is_at n) rest ≡ 0) (sym (same_name name x e)) (others_only x (each_once xs)) in omega (arith, none)
    by false e once = omega (arith, once, less_of_some (is_at name) (λ other. not (bytes_eq other x)) (each_once xs))

-- ---- topics that are asked for by name

abbrev partitions_of : Option Topic → ℕ
partitions_of None = 0
partitions_of (Some t) = length t.partitions

abbrev named : List Topic → List ℕ → ℕ
named ts name = partitions_of (find (λ t. bytes_eq t.name name) ts)

module _ (t : Topic) (ts : List Topic) (few : length t.partitions ≤ MAX_PARTITIONS) where
  one_named : (xs : Names) → total (named (t ∷ ts)) xs ≤ 64 * total (is_at t.name) xs + total (named ts) xs
  one_named [] = omega arith
  one_named (x ∷ xs) = by (bytes_eq t.name x) (one_named xs)
    where
      by : (b : Bool) → total (named (t ∷ ts)) xs ≤ 64 * total (is_at t.name) xs + total (named ts) xs
          → partitions_of (cond b (Some t) (find (λ t. bytes_eq t.name x) ts)) + total (named (t ∷ ts)) xs ≤ 64 * (cond b 1 0 + total (is_at t.name) xs) + (named ts x + total (named ts) xs)
      by true rest = omega (arith, rest, few)
      by false rest = omega (arith, rest)

-- names that come once each have no more partitions than the topics
all_named : (ts : List Topic) (xs : Names) → AllByRecursion (λ (t : Topic). IsSmallTopic (shape_of t)) ts → total (named ts) (each_once xs) ≤ 64 * length ts
all_named [] xs all = none (each_once xs)
  where
    none : (xs : Names) → total (named []) xs ≤ 0
    none [] = omega arith
    none (x ∷ xs) = omega (arith, none xs)
all_named (t ∷ ts) xs all = omega (arith, one_named t ts all.0.few (each_once xs), at_once t.name xs, all_named ts xs all.1)

abbrev asked : List Topic → List ℕ → ℕ
asked ts name = 9 + length name + 26 * named ts name

name_within : (s : State) (name : List ℕ) → IsSound s → FitsLength size16 (length name) → IsWithin (asked s.topics name) (metadata_at s name)
name_within s name sound fits = by (is_topic_name name)
  where
    longer_still : (t : MetadataOfTopic) → IsWithin (9 + length name) t → IsWithin (asked s.topics name) t
    longer_still t within = let size = within.size in record { fits = within.fits; size = omega (arith, size) }

    found : (o : Option Topic) → topic_of s name ≡ o → IsWithin (9 + length name + 26 * partitions_of o) (metadata_of_found s.config name o)
    found None e = let failed = failed_within UnknownTopicOrPartition name fits in let size = failed.size in record { fits = failed.fits; size = omega (arith, size) }
    found (Some t) e =
        let small = found_has (λ (t : Topic). IsSmallTopic (shape_of t)) (λ t. bytes_eq t.name name) s.topics t (state_small s sound) e in
        let same : t.name ≡ name = same_name t.name name (test_of s.topics e) in
        let known = known_within s.config t sound.config.node_id (subst (λ (n : List ℕ). FitsLength size16 (length n)) (sym same) fits) small.few in
        let size = known.size in
        let long : length t.name ≡ length name = ap length same in
        record { fits = known.fits; size = omega (arith, size, long) }
      where
        test_of : (ts : List Topic) → find (λ t. bytes_eq t.name name) ts ≡ Some t → bytes_eq t.name name ≡ true
        test_of [] e = absurd cc
        test_of (u ∷ us) e = here (bytes_eq u.name name) refl (test_of us) e
          where
            here : (b : Bool) → bytes_eq u.name name ≡ b → (find (λ t. bytes_eq t.name name) us ≡ Some t → bytes_eq t.name name ≡ true) → cond b (Some u) (find (λ t. bytes_eq t.name name) us) ≡ Some t → bytes_eq t.name name ≡ true
            here true is rest e = let same : u ≡ t = cc in subst (λ (x : Topic). bytes_eq x.name name ≡ true) same is
            here false is rest e = rest e

    by : (b : Bool) → IsWithin (asked s.topics name) (cond b (metadata_of_found s.config name (topic_of s name)) (metadata_of_failed InvalidTopic name))
    by true = found (topic_of s name) refl
    by false = longer_still (metadata_of_failed InvalidTopic name) (failed_within InvalidTopic name fits)

names_within : (s : State) (xs : Names) → IsSound s → AllByRecursion (λ name. FitsLength size16 (length name)) xs → AllByRecursion (λ name. IsWithin (asked s.topics name) (metadata_at s name)) xs
names_within s [] sound all = tt
names_within s (x ∷ xs) sound all = (name_within s x sound all.0, names_within s xs sound all.1)

asked_in_all : (ts : List Topic) (xs : Names) → total (asked ts) xs ≤ 5 * total (λ name. 2 + length name) xs + 26 * total (named ts) xs
asked_in_all ts [] = omega arith
asked_in_all ts (x ∷ xs) = omega (arith, asked_in_all ts xs)

-- ---- the whole

-- topics of a response: they fit, in so many bytes
pub record AreWithin (n : ℕ) (ts : List MetadataOfTopic) : Type 0 where
  pub fit : ElementsFit (Fits metadata_topic_fields) (map metadata_topic_value ts)
  pub size : length (flat_map (encoded metadata_topic_fields) (map metadata_topic_value ts)) ≤ n

-- at most 65 topics, each of 1922 bytes at most
pub listed_within : (s : State) → IsSound s → AreWithin 124930 (metadata_topics s None)
listed_within s sound =
    let each = all_known s.config s.topics sound.config.node_id (state_small s sound) in
    let few = state_few s sound in
    record {
      fit = (
        record { sfits = omega (arith, few, length-map (map (metadata_of_topic s.config) s.topics) metadata_topic_value, length-map s.topics (metadata_of_topic s.config)) },
        all_fit (metadata_of_topic s.config) (λ t. 1922) s.topics each,
      );
      size = omega (arith, few, all_long (metadata_of_topic s.config) (λ t. 1922) s.topics each, total_same s.topics);
    }

-- five times the bytes of the names, and 26 for each partition of at most 65 topics
pub asked_within : (s : State) (n : ℕ) (xs : Names) → IsSound s → FitsLength size32 (length xs) → AllByRecursion (λ name. FitsLength size16 (length name)) xs → total (λ name. 2 + length name) xs ≤ n
    → AreWithin (5 * n + 108160) (metadata_topics s (Some xs))
asked_within s n xs sound many all long =
    let each = names_within s (each_once xs) sound (all_of_once (λ name. FitsLength size16 (length name)) xs all) in
    let most = many.sfits in
    let few = state_few s sound in
    record {
      fit = (
        record { sfits = omega (arith, most, no_more xs, length-map (map (metadata_at s) (each_once xs)) metadata_topic_value, length-map (each_once xs) (metadata_at s)) },
        all_fit (metadata_at s) (asked s.topics) (each_once xs) each,
      );
      size = omega (arith, few, long, all_long (metadata_at s) (asked s.topics) (each_once xs) each, asked_in_all s.topics (each_once xs), less_of_once (λ name. 2 + length name) xs, all_named s.topics xs (state_small s sound));
    }

-- the broker, the controller, and the topics
pub response_fits : (g : ConfigValue) (n : ℕ) (ts : List MetadataOfTopic) → IsSoundConfig g → AreWithin n ts → Fits metadata_response (metadata_value (metadata_of_broker g) (metadata_leader_id (metadata_leader g)) ts)
unfolding Fits
response_fits g n ts sound within =
    let host = (small_config g sound.valid).host in
    let port = sound.port in (
      (record { sfits = omega arith }, ((sound.node_id, (record { sfits = omega (arith, host) }, (record { sfits = omega (arith, port) }, (tt, tt)))), tt)),
      (leader_fits g.role g.node_id sound.node_id, (within.fit, tt)),
    )

pub response_long : (g : ConfigValue) (n : ℕ) (ts : List MetadataOfTopic) → IsSoundConfig g → AreWithin n ts → length (encoded metadata_response (metadata_value (metadata_of_broker g) (metadata_leader_id (metadata_leader g)) ts)) ≤ 300 + n
unfolding encoded
response_long g n ts sound within =
    let host = (small_config g sound.valid).host in
    let size = within.size in
    let all = flat_map (encoded metadata_topic_fields) (map metadata_topic_value ts) in
    let count = be size32 (pos (length (map metadata_topic_value ts))) in
    let id = be size32 (metadata_leader_id (metadata_leader g)) in
    let name = be size16 (pos (length g.host)) in
    let behind = be size32 (pos g.port) ++ (be size16 (negsuc 0) ++ []) in
    let broker = be size32 g.node_id ++ ((name ++ g.host) ++ behind) in
    let one = be size32 (pos 1) ++ (broker ++ []) in
    let topics = (count ++ all) ++ [] in
    omega (
      arith,
      host,
      size,
      length-append one (id ++ topics),
      length-append (be size32 (pos 1)) (broker ++ []),
      length-append broker [],
      length-append (be size32 g.node_id) ((name ++ g.host) ++ behind),
      length-append (name ++ g.host) behind,
      length-append name g.host,
      length-append id topics,
      length-append (count ++ all) [],
      length-append count all,
      length-be size32 (pos 1),
      length-be size32 g.node_id,
      length-be size16 (pos (length g.host)),
      length-be size32 (pos g.port),
      length-append (be size32 (pos g.port)) (be size16 (negsuc 0) ++ []),
      length-append (be size16 (negsuc 0)) [],
      length-be size16 (negsuc 0),
      length-be size32 (metadata_leader_id (metadata_leader g)),
      length-be size32 (pos (length (map metadata_topic_value ts))),
    )

-- ---- a request

name_long : (v : Value (string ⨾ end)) → length (encoded (string ⨾ end) v) ≡ 2 + length v.0
unfolding encoded
name_long v = omega (arith, length-append (be size16 (pos (length v.0)) ++ v.0) [], length-append (be size16 (pos (length v.0))) v.0, length-be size16 (pos (length v.0)))

abbrev IsName : List ℕ → Type 0
IsName name = FitsLength size16 (length name)

all_names : (vs : List (Value (string ⨾ end))) → AllByRecursion (Fits (string ⨾ end)) vs → AllByRecursion IsName (map (λ name. name.0) vs)
unfolding Fits
all_names [] all = tt
all_names (v ∷ vs) all = (all.0.0, all_names vs all.1)

names_part : (n : ℕ) (vs : List (Value (string ⨾ end))) → IsPart n (array_or_null (string ⨾ end) end) (Some vs, tt)
    → FitsLength size32 (length (map (λ name. name.0) vs)) × (AllByRecursion IsName (map (λ name. name.0) vs) × (length (flat_map (encoded (string ⨾ end)) vs) ≤ n))
unfolding Fits encoded
names_part n vs part =
    let count = be size32 (pos (length vs)) in
    let all = flat_map (encoded (string ⨾ end)) vs in
    let long = part.long in
    (subst (FitsLength size32) (sym (length-map vs (λ name. name.0))) part.said.fits.0.0, (all_names vs part.said.fits.0.1, omega (arith, long, length-append (count ++ all) [], length-append count all)))

pub metadata_fits : (n : ℕ) (s : State) (correlation : ℤ) (v : Value metadata_fields) (out : Option (List ℕ)) (after : State) → n ≤ frame_limit → IsSound s → FitsSigned w32 correlation → IsPart n metadata_fields v
    → (out ≡ Some (metadata_reply s correlation (metadata_request v))) × (after ≡ s) → IsKept correlation metadata_response out after
metadata_fits n s correlation v out after low sound number part h =
    let within = topics_within v.0 part in
    let value = metadata_value (metadata_of_broker s.config) (metadata_leader_id (metadata_leader s.config)) (metadata_topics s (metadata_request v)) in
    let long = response_long s.config (5 * n + 124930) (metadata_topics s (metadata_request v)) sound.config within in (
      subst (FitsIfSent correlation metadata_response) (sym h.0) (fitting_response correlation metadata_response value number (response_fits s.config (5 * n + 124930) (metadata_topics s (metadata_request v)) sound.config within) (omega (arith, low, long))),
      subst IsSound (sym h.1) sound,
    )
  where
    named_long : (vs : List (Value (string ⨾ end))) → total (λ name. 2 + length name) (map (λ name. name.0) vs) ≤ length (flat_map (encoded (string ⨾ end)) vs)
    named_long [] = omega arith
    named_long (v ∷ vs) = omega (arith, longer (encoded (string ⨾ end)) v vs, name_long v, named_long vs)

    topics_within : (names : Option (List (Value (string ⨾ end)))) → IsPart n metadata_fields (names, tt) → AreWithin (5 * n + 124930) (metadata_topics s (option_map (map (λ name. name.0)) names))
    topics_within None part = let listed = listed_within s sound in let size = listed.size in record { fit = listed.fit; size = omega (arith, size) }
    topics_within (Some vs) part =
        let of_names = names_part n vs part in
        let long = of_names.1.1 in
        let asked = asked_within s n (map (λ name. name.0) vs) sound of_names.0 of_names.1.0 (omega (arith, long, named_long vs)) in
        let size = asked.size in
        record { fit = asked.fit; size = omega (arith, size) }
