-- What a request leaves: the same partitions at the same places, what stands in those that it isn't about, and where it only
-- appends or cleans, logs that grew at their ends.
use Rattle.std.proofs.Common.{◌≡◌, ◌⊎◌, inl, inr, ℕ, suc, ◌+◌, ℤ, pos, negsuc, Bool, true, false, cond, not, ◌&&◌, ◌||◌, List, map, [], ◌∷◌, ◌++◌, length, Option, Some, None, refl, sym, ap, subst, ◌∙◌, true≢false, arith}
use Rattle.std.specs.Prelude.{is_some, nat_lt, bytes_eq, position}
use Rattle.std.specs.List.{AllByRecursion, position_or_len}
use Rattle.std.specs.Option.{unwrap_or}
use Rattle.std.specs.Ordering.{int_eq}
use Rattle.std.proofs.lemmas.Int.{ints}
use Rattle.std.proofs.lemmas.Slice.Eq.{bytes_eq-Decides}
use Rattle.batch_codec.specs.Reading.{batch_of}
use Rattle.batch_codec.specs.Values.{BatchValue}
use Rattle.content.specs.Cleaning.{clean_batch}
use Rattle.content.specs.Content.{Content, empty}
use Rattle.content.specs.Parts.{clean_batch_by_part}
use Rattle.content_laws.proofs.ContentSteps.{clean_batch_thins, part_batch_thins}
use Rattle.frame_fields.specs.Types.{TopicOf}
use Rattle.request_frames.specs.Produce.{ProduceValue, ProducePartitionValue}
use Rattle.request_frames.specs.Requests.{BodyValue, RequestValue}
use Rattle.request_frames.specs.Requests.BodyValue.{produce, offset_commit, forget_group, clean, clean_part}
use Rattle.request_frames.specs.OffsetCommit.{OffsetCommitValue}
use Rattle.request_frames.specs.Clean.{CleanValue}
use Rattle.request_frames.specs.CleanPart.{CleanPartValue}
use Rattle.content.specs.declared.part.CleaningPart.{CleaningPart}
use Rattle.answering.proofs.AnswersOfAll.{in_any_case}
use Rattle.broker_state.specs.declared.place.Place.{Place}
use Rattle.broker_state.specs.Batches.{appended}
use Rattle.broker_state.specs.Places.{IsPlaceOf}
use Rattle.broker_state.specs.Sound.{IsSound}
use Rattle.broker_state.specs.State.{ConfigValue, State, Topic, content_at, group_topic, is_known, partition_at, with_content, with_partition, with_partition_of}
use Rattle.broker_state.proofs.OneContent.{other_index, other_name, with_same, with_unknown}
use Rattle.broker_state.proofs.SoundStates.{content_valid}
use Rattle.group_offsets.specs.Batches.{forget_batch}
use Rattle.group_offsets.specs.Groups.{group_keys}
use Rattle.group_requests.specs.ForgetGroup.{forgotten}
use Rattle.group_requests.specs.GroupPartition.{group_content}
use Rattle.group_requests.specs.OffsetCommit.{offset_commit_batch}
use Rattle.broker_node.specs.Effects.{TopicPartition, effect, group_partition, is_among, only_grows, places, produced_to}
use Rattle.broker_node.specs.Kinds.{kind}
use Rattle.broker_node.specs.Replies.{MayReply, RepliesTo}
use Rattle.broker_node.specs.Streams.{IsAnswered}
use Rattle.broker_node.proofs.KeptStates.{EachEntry, Keeps, plan_keeps, way_keeps}
use Rattle.fetch_waits.proofs.Appending.{Ends, Grown, grown_append, grown_same, valid_ends}
use Rattle.fetch_waits.proofs.Cleaning.{grown_thinned}
use Rattle.fetch_waits.proofs.OneChange.{other_one, same_known, same_or_changed}
use Rattle.sessions.specs.declared.waiting.Noted.{Noted}
use Rattle.sessions.specs.declared.waiting.Noted.TheVariants.{Grows}
use Rattle.sessions.specs.Asleep.{Leaves}

-- ---- topics stay where they are

abbrev has_name : List ℕ → Topic → Bool
has_name name t = bytes_eq t.name name

same_name : (index : ℤ) (c : Content) (t : Topic) → (with_partition index c t).name ≡ t.name
same_name (pos n) c t = refl
same_name (negsuc n) c t = refl

module _ (topic : List ℕ) (index : ℤ) (c : Content) (name : List ℕ) where
  same_index : (ts : List Topic) → (position_or_len (has_name name) (with_partition_of topic index c ts) ≡ position_or_len (has_name name) ts) × (length (with_partition_of topic index c ts) ≡ length ts)
  same_index [] = (refl, refl)
  same_index (t ∷ ts) = by (bytes_eq t.name topic) (same_index ts)
    where
      by : (b : Bool) → (position_or_len (has_name name) (with_partition_of topic index c ts) ≡ position_or_len (has_name name) ts) × (length (with_partition_of topic index c ts) ≡ length ts)
          → (position_or_len (has_name name) (cond b (with_partition index c t ∷ ts) (t ∷ with_partition_of topic index c ts)) ≡ position_or_len (has_name name) (t ∷ ts))
          × (length (cond b (with_partition index c t ∷ ts) (t ∷ with_partition_of topic index c ts)) ≡ length (t ∷ ts))
      by true rest = (ap (λ (x : List ℕ). cond (not (bytes_eq x name)) (1 + position_or_len (has_name name) ts) 0) (same_name index c t), refl)
      by false rest = (ap (λ (n : ℕ). cond (not (bytes_eq t.name name)) (1 + n) 0) rest.0, ap suc rest.1)

  same_position : (ts : List Topic) → position (has_name name) (with_partition_of topic index c ts) ≡ position (has_name name) ts
  same_position ts = let same = same_index ts in λ i. cond (nat_lt (same.0 i) (same.1 i)) (Some (same.0 i)) None

-- a state's configuration, and what says where a partition is
unfoldable seen : State → List ℕ → ℤ → ConfigValue × (Bool × Option ℕ)
seen m name p = (m.config, (is_known m name p, position (has_name name) m.topics))

module _ (name : List ℕ) (p : ℤ) where
  seen_with : (m : State) (topic : List ℕ) (index : ℤ) (c : Content) → seen (with_content m topic index c) name p ≡ seen m name p
  unfolding seen
  seen_with m topic index c =
      let known = same_known m topic index c name p in
      let at = same_position topic index c name m.topics in
      λ i. (m.config, (known i, at i))

  seen_id : (m : State) (next : ℤ) → seen (record m { next_producer = next }) name p ≡ seen m name p
  unfolding seen
  seen_id m next = refl

  seen_keeps : (s : State) (n : ℤ) (body : BodyValue) → Keeps (λ m. seen m name p ≡ seen s name p) ((kind body).way s n)
  seen_keeps s n body = grind (arith, seen_with, seen_id)

  seen_stays : (s after : State) (q : RequestValue) (out : Option (List ℕ)) → MayReply s q out after → seen after name p ≡ seen s name p
  seen_stays s after q out = way_keeps (λ m. seen m name p ≡ seen s name p) ((kind q.body).way s q.correlation) out after (seen_keeps s q.correlation q.body)

  same_config : (a b : State) → seen a name p ≡ seen b name p → a.config ≡ b.config
  unfolding seen
  same_config a b same = ap (λ x. x.0) same

  known_too : (a b : State) → seen a name p ≡ seen b name p → is_known a name p ≡ is_known b name p
  unfolding seen
  known_too a b same = ap (λ x. x.1.0) same

  same_place : (a b : State) (place : Place) → seen a name p ≡ seen b name p → IsPlaceOf a name p place → IsPlaceOf b name p place
  unfolding seen
  same_place a b place same is = record {
    known = sym (ap (λ x. x.1.0) same) ∙ is.known;
    topic = is.topic ∙ ap (λ x. x.1.1) same;
    partition = is.partition;
  }

-- ---- partitions that a request isn't about

neither : (a b : Bool) → (a || b) ≡ false → (a ≡ false) × (b ≡ false)
neither false b e = (refl, e)
neither true b e = absurd (true≢false e)

-- the Produce request that this is
abbrev asked_produce : BodyValue → Option ProduceValue
asked_produce (produce q) = Some q
asked_produce _ = None

asks_produce : (body : BodyValue) (q : ProduceValue) → asked_produce body ≡ Some q → body ≡ produce q
asks_produce body q one = grind (arith, one)

module _ (s : State) (name : List ℕ) (p : ℤ) where
  abbrev Stays : State → Type 0
  Stays m = partition_at m name p ≡ partition_at s name p

  abbrev IsApart : List ℕ → ProducePartitionValue → Type 0
  IsApart topic e = (bytes_eq topic name && int_eq e.index p) ≡ false

  other_stays : (m : State) (topic : List ℕ) (index : ℤ) (c : Content) → is_among (record { topic = topic; partition = index } ∷ []) name p ≡ false → Stays m → Stays (with_content m topic index c)
  other_stays m topic index c apart same = other_one m topic index c name p (neither (bytes_eq topic name && int_eq index p) false apart).0 ∙ same

  group_stays : (m : State) (c : Content) → is_among (group_partition ∷ []) name p ≡ false → Stays m → Stays (with_content m group_topic (pos 0) c)
  group_stays m c apart same = other_stays m group_topic (pos 0) c apart same

  others_keep : (n : ℤ) (body : BodyValue) → asked_produce body ≡ None → is_among (places (effect body)) name p ≡ false → Keeps Stays ((kind body).way s n)
  others_keep n body other apart = grind (arith, other, apart, other_stays, group_stays)

  entries_apart : (topic : List ℕ) (es : List ProducePartitionValue) (more : List TopicPartition) → is_among (map (λ e. record { topic = topic; partition = e.index }) es ++ more) name p ≡ false
      → AllByRecursion (IsApart topic) es × (is_among more name p ≡ false)
  entries_apart topic [] more apart = (tt, apart)
  entries_apart topic (e ∷ es) more apart =
      let both = neither (bytes_eq topic name && int_eq e.index p) (is_among (map (λ e. record { topic = topic; partition = e.index }) es ++ more) name p) apart in
      let others = entries_apart topic es more both.1 in
      ((both.0, others.0), others.1)

  topics_apart : (ts : List (TopicOf ProducePartitionValue)) → is_among (produced_to ts) name p ≡ false → EachEntry IsApart ts
  topics_apart [] apart = tt
  topics_apart (t ∷ ts) apart = let first = entries_apart t.name t.entries (produced_to ts) apart in (first.0, topics_apart ts first.1)

  produce_stays : (after : State) (n : ℤ) (q : ProduceValue) (out : Option (List ℕ)) → is_among (produced_to q.topics) name p ≡ false → RepliesTo in_any_case s n (produce q) out after → Stays after
  produce_stays after n q out apart =
      plan_keeps _ Stays IsApart out after (topics_apart q.topics apart) refl (λ m topic e away same none. other_one m topic e.index _ name p away ∙ same)

  stays : (after : State) (q : RequestValue) (out : Option (List ℕ)) → is_among (places (effect q.body)) name p ≡ false → MayReply s q out after → Stays after
  stays after q out = by (asked_produce q.body) refl
    where
      by : (o : Option ProduceValue) → asked_produce q.body ≡ o → is_among (places (effect q.body)) name p ≡ false → MayReply s q out after → Stays after
      by None e apart replies = way_keeps Stays ((kind q.body).way s q.correlation) out after (others_keep q.correlation q.body e apart) replies
      by (Some asked) e apart replies =
          let is = asks_produce q.body asked e in
          produce_stays after q.correlation asked out (subst (λ (b : BodyValue). is_among (places (effect b)) name p ≡ false) is apart)
          (subst (λ (b : BodyValue). RepliesTo in_any_case s q.correlation b out after) is replies)

-- ---- partitions to which a request appends

forgotten_grown : (old c : Content) (keys : List (List ℕ)) → Grown old c → Grown old (forgotten c keys)
forgotten_grown old c [] grown = grown
forgotten_grown old c (key ∷ keys) grown = grown_append old c (forget_batch (key ∷ keys)) grown

-- these alone append or clean
growing : (K : BodyValue → Type 0) → ((q : ProduceValue) → K (produce q)) → ((q : OffsetCommitValue) → K (offset_commit q)) → ((group : List ℕ) → K (forget_group group))
    → ((q : CleanValue) → K (clean q)) → ((q : CleanPartValue) → K (clean_part q)) → (body : BodyValue) → only_grows (effect body) ≡ true → K body
growing K of_produce of_commit of_forget of_clean of_part body is = grind (arith, is, of_produce, of_commit, of_forget, of_clean, of_part)

module _ (s : State) (name : List ℕ) (p : ℤ) where
  abbrev Grew : State → Type 0
  Grew m = Grown (content_at s name p) (content_at m name p)

  grew_with : (m : State) (topic : List ℕ) (index : ℤ) (c : Content) → ((old : Content) → Grown old (content_at m topic index) → Grown old c) → Grew m → Grew (with_content m topic index c)
  grew_with m topic index c more grew = elim (same_or_changed m topic index c name p) [
    | inl same ↦ subst (λ (o : Option Content). Grown (content_at s name p) (unwrap_or o empty)) (sym same) grew
    | inr changed ↦
        subst (λ (o : Option Content). Grown (content_at s name p) (unwrap_or o empty)) (sym changed.new)
        (more (content_at s name p) (subst (λ (o : Option Content). Grown (content_at s name p) (unwrap_or o empty)) (sym changed.old) grew))
  ]

  grew_append : (m : State) (topic : List ℕ) (index : ℤ) (b : BatchValue) → Grew m → Grew (with_content m topic index (appended (content_at m topic index) b).1)
  grew_append m topic index b = grew_with m topic index (appended (content_at m topic index) b).1 (λ old grown. grown_append old (content_at m topic index) b grown)

  module _ (n : ℤ) (ends : Ends (content_at s name p)) where
    produce_keeps : (q : ProduceValue) → Keeps Grew ((kind (produce q)).way s n)
    produce_keeps q = (grown_same (content_at s name p) ends, λ m topic e grew none. grew_append m topic e.index (batch_of e.records) grew)

    commit_keeps : (q : OffsetCommitValue) → Keeps Grew ((kind (offset_commit q)).way s n)
    commit_keeps q = (grown_same (content_at s name p) ends, λ m topic e grew none. grew_append m group_topic (pos 0) (offset_commit_batch q.group topic e) grew)

    forget_keeps : (group : List ℕ) → Keeps Grew ((kind (forget_group group)).way s n)
    forget_keeps group = (
      grown_same (content_at s name p) ends,
      λ none. grew_with s group_topic (pos 0) (forgotten (group_content s) (group_keys (group_content s) group)) (λ old grown. forgotten_grown old (group_content s) (group_keys (group_content s) group) grown) (grown_same (content_at s name p) ends),
    )

    clean_keeps : (q : CleanValue) → Keeps Grew ((kind (clean q)).way s n)
    clean_keeps q =
        let held = content_at s q.topic q.partition in (
          grown_same (content_at s name p) ends,
          λ none. grew_with s q.topic q.partition _ (λ old grown. grown_thinned (clean_batch held q.upto q.tomb_before) (clean_batch_thins held q.upto q.tomb_before) old held grown) (grown_same (content_at s name p) ends),
        )

    part_keeps : (q : CleanPartValue) → Keeps Grew ((kind (clean_part q)).way s n)
    part_keeps q =
        let held = content_at s q.topic q.partition in
        let part : CleaningPart = record { from = q.from; to = q.to; upto = q.upto; tomb_before = q.tomb_before } in (
          grown_same (content_at s name p) ends,
          λ none. grew_with s q.topic q.partition _ (λ old grown. grown_thinned (clean_batch_by_part part held) (part_batch_thins part held) old held grown) (grown_same (content_at s name p) ends),
        )

    grow_keeps : (body : BodyValue) → only_grows (effect body) ≡ true → Keeps Grew ((kind body).way s n)
    grow_keeps body is = growing (λ b. Keeps Grew ((kind b).way s n)) produce_keeps commit_keeps forget_keeps clean_keeps part_keeps body is

-- ---- all

pub leaves : (noted : Noted) (s after : State) (q : RequestValue) (out : Option (List ℕ)) → IsSound s → (noted ≡ Grows → only_grows (effect q.body) ≡ true) → MayReply s q out after → Leaves s noted (places (effect q.body)) after
leaves noted s after q out sound grows replies = record {
  config = same_config [] (pos 0) after s (same [] (pos 0));
  known = λ name p. known_too name p after s (same name p);
  places = λ name p place is. same_place name p after s place (same name p) is;
  places_too = λ name p place is. same_place name p s after place (sym (same name p)) is;
  others = λ name p apart. ap (λ (o : Option Content). unwrap_or o empty) (stays s name p after q out apart replies);
  grows = λ noted name p. let grown = grew (grows noted) name p in (grown.more, grown.grows);
}
  where
    same : (name : List ℕ) (p : ℤ) → seen after name p ≡ seen s name p
    same name p = seen_stays name p s after q out replies

    grew : only_grows (effect q.body) ≡ true → (name : List ℕ) (p : ℤ) → Grown (content_at s name p) (content_at after name p)
    grew is name p =
        let ends = valid_ends (content_at s name p) (content_valid s name p sound) in
        way_keeps (Grew s name p) ((kind q.body).way s q.correlation) out after (grow_keeps s name p q.correlation ends q.body is) replies

pub answered_leaves : (noted : Noted) (s after : State) (frame reply : List ℕ) (a : IsAnswered s frame reply after) → IsSound s → (noted ≡ Grows → only_grows (effect a.request.body) ≡ true) → Leaves s noted (places (effect a.request.body)) after
answered_leaves noted s after frame reply a sound grows = leaves noted s after a.request a.response sound grows a.replies
