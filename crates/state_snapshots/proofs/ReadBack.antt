-- What is written of a state is read back as that state.
use Rattle.std.proofs.Common.{◌≡◌, ◌≢◌, ℕ, ◌+◌, Bool, true, false, ℤ, pos, List, [], ◌∷◌, ◌++◌, length, take, drop, Option, Some, None, refl, sym, ap, subst, ◌∙◌, append_assoc, append-nil, arith, inl}
use Rattle.std.specs.Prelude.{map, bytes_eq, if◌then◌else◌, nat_lt, int_lt}
use Rattle.std.specs.List.{flat_map, fold, list_any, AllByRecursion}
use Rattle.std.specs.Option.{option_or}
use Rattle.std.proofs.lemmas.List.{map-append, length-append}
use Rattle.std.proofs.lemmas.List.Sums.{fold-append}
use Rattle.std.proofs.lemmas.Slice.Eq.{bytes_eq-Decides}
use Rattle.std.proofs.Math.Seq.{drop-append_seam, take-append_seam, set-append_seam}
use Rattle.frame_fields.specs.Types.{topic_request}
use Rattle.frame_fields.specs.Reading.{nothing}
use Rattle.content.specs.Content.{Content, IsContent}
use Rattle.copy_images.specs.Images.{image_of, IsImage}
use Rattle.broker_state.specs.declared.error.ConfigError.TheVariants.{BadHost, TooManyTopics, BadFirstProducer, TopicTwice}
use Rattle.broker_state.specs.declared.limits.TheConstants.{MAX_TOPICS, MAX_HOST_BYTES}
use Rattle.broker_state.specs.State.{TopicConfig, ConfigValue, Topic, State, group_topic, all_topics, with_partition, with_partition_of, with_content}
use Rattle.broker_state.specs.Configs.{topic_fault, topics_fault, IsValidConfig}
use Rattle.broker_state.specs.Producers.{with_next_id}
use Rattle.broker_state.specs.Sound.{shape_of, HoldsContents, IsSound}
use Rattle.snapshots.specs.declared.writing.SnapshotId.{SnapshotId}
use Rattle.snapshots.specs.Heads.{head_bytes, partition_fields, partition_size, snapshot_said, SnapshotValue, StartsWithHead}
use Rattle.state_snapshots.specs.Snapshots.{image_sizes, topic_said, state_head, state_said, images_of, snapshot_bytes, IsCounted, AreCounted, IsReadable}
use Rattle.state_snapshots.proofs.ReadHead.{head_said, head_ends}
use Rattle.state_snapshots.specs.Restoring.{Announced, Kept, numbered, announced, said_of, HoldsItsImage, kept_bytes, with_kept, IsRestored}
use Rattle.state_snapshots.proofs.Restored.{flat_append, all_append, pos_same}

-- ---- the partitions of a state, as they are kept

abbrev pub partitions_of : (topic : List ℕ) → (first : ℕ) → List Content → List Kept
partitions_of topic first [] = []
partitions_of topic first (c ∷ cs) = record { topic = topic; partition = pos first; image = image_of c; content = c } ∷ partitions_of topic (first + 1) cs

abbrev pub kept_of : List Topic → List Kept
kept_of ts = flat_map (λ t. partitions_of t.name 0 t.partitions) ts

said_in : (topic : List ℕ) (first : ℕ) (cs : List Content) → map said_of (partitions_of topic first cs) ≡ numbered topic first (map (λ c. pos (length (image_of c))) cs)
said_in topic first [] = refl
said_in topic first (c ∷ cs) = ap (λ (xs : List Announced). record { topic = topic; partition = pos first; size = pos (length (image_of c)) } ∷ xs) (said_in topic (first + 1) cs)

numbers_again : (zs : List ℤ) → map partition_size (map (λ z. (z, nothing)) zs) ≡ zs
numbers_again [] = refl
numbers_again (z ∷ zs) = ap (λ (xs : List ℤ). z ∷ xs) (numbers_again zs)

said_all : (ts : List Topic) → map said_of (kept_of ts) ≡ announced (map (topic_request partition_fields partition_size) (map topic_said ts))
said_all [] = refl
said_all (t ∷ ts) =
    map-append said_of (partitions_of t.name 0 t.partitions) (kept_of ts)
    ∙ (λ i. (said_in t.name 0 t.partitions ∙ ap (numbered t.name 0) (sym (numbers_again (image_sizes t)))) i ++ said_all ts i)

bytes_in : (topic : List ℕ) (first : ℕ) (cs : List Content) → kept_bytes (partitions_of topic first cs) ≡ flat_map image_of cs
bytes_in topic first [] = refl
bytes_in topic first (c ∷ cs) = ap (λ (bytes : List ℕ). image_of c ++ bytes) (bytes_in topic (first + 1) cs)

bytes_all : (ts : List Topic) → kept_bytes (kept_of ts) ≡ images_of ts
bytes_all [] = refl
bytes_all (t ∷ ts) =
    flat_append (λ p. p.image) (partitions_of t.name 0 t.partitions) (kept_of ts) ∙ (λ i. bytes_in t.name 0 t.partitions i ++ bytes_all ts i)

-- each has an image
abbrev pub HaveImages : Type 0
HaveImages = (c : Content) → IsContent c → IsCounted c → IsImage (image_of c) c

pub have_images : HaveImages
have_images c valid counted = record { content = valid; ranges = counted.0; batches = counted.1; encoded = inl refl }

images_in : HaveImages → (topic : List ℕ) (first : ℕ) (cs : List Content) → AllByRecursion IsContent cs → AllByRecursion IsCounted cs → AllByRecursion HoldsItsImage (partitions_of topic first cs)
images_in have topic first [] valid counted = tt
images_in have topic first (c ∷ cs) valid counted = (have c valid.0 counted.0, images_in have topic (first + 1) cs valid.1 counted.1)

images_all : HaveImages → (ts : List Topic) → AllByRecursion HoldsContents ts → AllByRecursion (λ t. AllByRecursion IsCounted t.partitions) ts → AllByRecursion HoldsItsImage (kept_of ts)
images_all have [] valid counted = tt
images_all have (t ∷ ts) valid counted =
    all_append HoldsItsImage (partitions_of t.name 0 t.partitions) (kept_of ts) (images_in have t.name 0 t.partitions valid.0 counted.0) (images_all have ts valid.1 counted.1)

-- ---- only one list of partitions has these images

first_same : (a b x y : List ℕ) → length a ≡ length b → a ++ x ≡ b ++ y → a ≡ b
first_same a b x y len same = sym (take-append_seam a x) ∙ (λ i. take (len i) (same i)) ∙ take-append_seam b y

others_same : (a b x y : List ℕ) → length a ≡ length b → a ++ x ≡ b ++ y → x ≡ y
others_same a b x y len same = sym (drop-append_seam a x) ∙ (λ i. drop (len i) (same i)) ∙ drop-append_seam b y

abbrev pub AreUnique : Type 0
AreUnique = (bytes : List ℕ) (a b : Content) → IsImage bytes a → IsImage bytes b → a ≡ b

one_list : AreUnique → (ps qs : List Kept) → map said_of ps ≡ map said_of qs → AllByRecursion HoldsItsImage ps → AllByRecursion HoldsItsImage qs → kept_bytes ps ≡ kept_bytes qs → ps ≡ qs
one_list unique [] [] said have has same = refl
one_list unique [] (q ∷ qs) said have has same = absurd cc
one_list unique (p ∷ ps) [] said have has same = absurd cc
one_list unique (p ∷ ps) (q ∷ qs) said have has same =
    let heads : said_of p ≡ said_of q = cc in
    let others : map said_of ps ≡ map said_of qs = cc in
    let len : length p.image ≡ length q.image = pos_same (length p.image) (length q.image) (ap (λ (a : Announced). a.size) heads) in
    let image : p.image ≡ q.image = first_same p.image q.image (kept_bytes ps) (kept_bytes qs) len same in
    let content : p.content ≡ q.content = unique q.image p.content q.content (subst (λ (bytes : List ℕ). IsImage bytes p.content) image have.0) has.0 in
    let rest : ps ≡ qs = one_list unique ps qs others have.1 has.1 (others_same p.image q.image (kept_bytes ps) (kept_bytes qs) len same) in
    λ i. record { topic = (heads i).topic; partition = (heads i).partition; image = image i; content = content i } ∷ rest i

-- ---- names

abbrev pub Names : Type 0
Names = List (List ℕ)

abbrev pub DifferFrom : List ℕ → Names → Type 0
DifferFrom n names = AllByRecursion (λ m. n ≢ m) names

abbrev pub Apart : Names → Type 0
Apart [] = Unit {0}
Apart (n ∷ names) = DifferFrom n names × Apart names

same_test : (n : List ℕ) → bytes_eq n n ≡ true
same_test n = (bytes_eq-Decides n n).1 refl

other_test : (m n : List ℕ) → m ≢ n → bytes_eq m n ≡ false
other_test m n other = by (bytes_eq m n) refl
  where
    by : (b : Bool) → bytes_eq m n ≡ b → b ≡ false
    by true e = absurd (other ((bytes_eq-Decides m n).0 e))
    by false e = refl

differ_test : (n : List ℕ) (names : Names) → list_any (bytes_eq n) names ≡ false → DifferFrom n names
differ_test n [] e = tt
differ_test n (m ∷ names) e = by (bytes_eq n m) refl (differ_test n names)
  where
    by : (b : Bool) → bytes_eq n m ≡ b → (list_any (bytes_eq n) names ≡ false → DifferFrom n names) → DifferFrom n (m ∷ names)
    by true test others = absurd (grind (arith, e, test))
    by false test others = (λ same. absurd (grind (arith, test, (bytes_eq-Decides n m).1 same)), others (grind (arith, e, test)))

-- a list of checks passes as a whole
first_none : {E : Type 0} (o p : Option E) → option_or o p ≡ None → (o ≡ None) × (p ≡ None)
first_none None p e = (refl, e)
first_none (Some x) p e = absurd cc

no_fault : {E : Type 0} (b : Bool) (e : E) → (if b then Some e else None) ≡ None → b ≡ false
no_fault true e none = absurd cc
no_fault false e none = refl

last_none : {E : Type 0} (a b c d : Option E) → option_or a (option_or b (option_or c (option_or d None))) ≡ None → d ≡ None
last_none a b c d e =
    (first_none d None (first_none c (option_or d None) (first_none b (option_or c (option_or d None)) (first_none a (option_or b (option_or c (option_or d None))) e).1).1).1).0

abbrev names_in : List TopicConfig → Names
names_in ts = map (λ t. t.name) ts

fresh : (taken : Names) (t : TopicConfig) → topic_fault taken t ≡ None → DifferFrom t.name taken
fresh taken t e =
    let third = (first_none _ _ (first_none _ _ (first_none _ _ e).1).1).0 in
    differ_test t.name taken (no_fault (list_any (bytes_eq t.name) taken) TopicTwice third)

-- a name that is taken is no later topic's
abbrev IsTaken : List ℕ → Names → Type 0
IsTaken n taken = (m : List ℕ) → DifferFrom m taken → m ≢ n

differ_later : (ts : List TopicConfig) (taken : Names) (n : List ℕ) → IsTaken n taken → topics_fault taken ts ≡ None → DifferFrom n (names_in ts)
differ_later [] taken n has e = tt
differ_later (t ∷ ts) taken n has e =
    let both = first_none (topic_fault taken t) (topics_fault (t.name ∷ taken) ts) e in
    (λ same. has t.name (fresh taken t both.0) (sym same), differ_later ts (t.name ∷ taken) n (λ m all. has m all.1) both.1)

names_apart : (ts : List TopicConfig) (taken : Names) → IsTaken group_topic taken → topics_fault taken ts ≡ None → Apart (names_in ts ++ group_topic ∷ [])
names_apart [] taken has e = (tt, tt)
names_apart (t ∷ ts) taken has e =
    let both = first_none (topic_fault taken t) (topics_fault (t.name ∷ taken) ts) e in (
      all_append (λ m. t.name ≢ m) (names_in ts) (group_topic ∷ []) (differ_later ts (t.name ∷ taken) t.name (λ m all. all.0) both.1) (has t.name (fresh taken t both.0), tt),
      names_apart ts (t.name ∷ taken) (λ m all. has m all.1) both.1,
    )

config_apart : (g : ConfigValue) → IsValidConfig g → Apart (names_in (all_topics g))
config_apart g valid =
    let none = last_none (if nat_lt MAX_HOST_BYTES (length g.host) then Some BadHost else None) (if nat_lt MAX_TOPICS (length g.topics) then Some TooManyTopics else None) (if int_lt g.first_producer (pos 0) then Some BadFirstProducer else None) (topics_fault (group_topic ∷ []) g.topics) valid in
    subst Apart (sym (map-append (λ t. t.name) g.topics (record { name = group_topic; partitions = 1 } ∷ []))) (names_apart g.topics (group_topic ∷ []) (λ m all. all.0) none)

same_names : (ts : List Topic) → names_in (map shape_of ts) ≡ map (λ t. t.name) ts
same_names [] = refl
same_names (t ∷ ts) = ap (λ (names : Names). t.name ∷ names) (same_names ts)

pub sound_apart : (s : State) → IsSound s → Apart (map (λ t. t.name) s.topics)
sound_apart s sound = subst Apart (ap names_in (sym sound.topics) ∙ same_names s.topics) (config_apart s.config sound.config.valid)

-- ---- each partition in its place

abbrev put_all : List Topic → List Kept → List Topic
put_all ts ps = fold (λ us p. with_partition_of p.topic p.partition p.content us) ts ps

topics_put : (ps : List Kept) (s : State) → with_kept s ps ≡ record s { topics = put_all s.topics ps }
topics_put [] s = refl
topics_put (p ∷ ps) s = topics_put ps (with_content s p.topic p.partition p.content)

-- the topics behind one are changed, where none of these partitions is its own
put_behind : (t : Topic) (ps : List Kept) (ts : List Topic) → AllByRecursion (λ p. t.name ≢ p.topic) ps → put_all (t ∷ ts) ps ≡ t ∷ put_all ts ps
put_behind t [] ts other = refl
put_behind t (p ∷ ps) ts other =
    ap (λ (b : Bool). put_all (if b then with_partition p.partition p.content t ∷ ts else t ∷ with_partition_of p.topic p.partition p.content ts) ps) (other_test t.name p.topic other.0)
    ∙ put_behind t ps (with_partition_of p.topic p.partition p.content ts) other.1

-- those of a topic
put_first : (name : List ℕ) (xs : List Content) (y c : Content) (ys : List Content) (ts : List Topic)
    → with_partition_of name (pos (length xs)) c (record { name = name; partitions = xs ++ y ∷ ys } ∷ ts) ≡ record { name = name; partitions = (xs ++ c ∷ []) ++ ys } ∷ ts
put_first name xs y c ys ts =
    ap (λ (b : Bool). if b then with_partition (pos (length xs)) c (record { name = name; partitions = xs ++ y ∷ ys }) ∷ ts else record { name = name; partitions = xs ++ y ∷ ys } ∷ with_partition_of name (pos (length xs)) c ts) (same_test name)
    ∙ ap (λ (cs : List Content). record { name = name; partitions = cs } ∷ ts) (set-append_seam xs y ys c ∙ sym (append_assoc xs (c ∷ []) ys))

topic_put : (name : List ℕ) (xs ys cs : List Content) (ts : List Topic) → length ys ≡ length cs
    → put_all (record { name = name; partitions = xs ++ ys } ∷ ts) (partitions_of name (length xs) cs) ≡ record { name = name; partitions = xs ++ cs } ∷ ts
topic_put name xs [] [] ts len = refl
topic_put name xs [] (c ∷ cs) ts len = absurd (omega (arith, len))
topic_put name xs (y ∷ ys) [] ts len = absurd (omega (arith, len))
topic_put name xs (y ∷ ys) (c ∷ cs) ts len =
    let more = length-append xs (c ∷ []) in
    let number : length xs + 1 ≡ length (xs ++ c ∷ []) = omega (arith, more) in
    (λ i. put_all (put_first name xs y c ys ts i) (partitions_of name (number i) cs))
    ∙ topic_put name (xs ++ c ∷ []) ys cs ts (omega (arith, len))
    ∙ ap (λ (ds : List Content). record { name = name; partitions = ds } ∷ ts) (append_assoc xs (c ∷ []) cs)

differ_in : (n topic : List ℕ) (first : ℕ) (cs : List Content) → n ≢ topic → AllByRecursion (λ p. n ≢ p.topic) (partitions_of topic first cs)
differ_in n topic first [] other = tt
differ_in n topic first (c ∷ cs) other = (other, differ_in n topic (first + 1) cs other)

differ_all : (n : List ℕ) (ts : List Topic) → DifferFrom n (map (λ t. t.name) ts) → AllByRecursion (λ p. n ≢ p.topic) (kept_of ts)
differ_all n [] other = tt
differ_all n (t ∷ ts) other =
    all_append (λ p. n ≢ p.topic) (partitions_of t.name 0 t.partitions) (kept_of ts) (differ_in n t.name 0 t.partitions other.0) (differ_all n ts other.1)

put_back : (bs ts : List Topic) → map shape_of bs ≡ map shape_of ts → Apart (map (λ t. t.name) ts) → put_all bs (kept_of ts) ≡ ts
put_back [] [] same apart = refl
put_back [] (t ∷ ts) same apart = absurd cc
put_back (b ∷ bs) [] same apart = absurd cc
put_back (b ∷ bs) (t ∷ ts) same apart =
    let heads : shape_of b ≡ shape_of t = cc in
    let others : map shape_of bs ≡ map shape_of ts = cc in
    let names : b.name ≡ t.name = ap (λ (g : TopicConfig). g.name) heads in
    let lengths : length b.partitions ≡ length t.partitions = ap (λ (g : TopicConfig). g.partitions) heads in
    fold-append (λ us p. with_partition_of p.topic p.partition p.content us) (b ∷ bs) (partitions_of t.name 0 t.partitions) (kept_of ts)
    ∙ ap (λ (us : List Topic). put_all us (kept_of ts)) (ap (λ (n : List ℕ). put_all (record { name = n; partitions = b.partitions } ∷ bs) (partitions_of t.name 0 t.partitions)) names ∙ topic_put t.name [] b.partitions t.partitions bs lengths)
    ∙ put_behind t (kept_of ts) bs (differ_all t.name ts apart.0)
    ∙ ap (λ (us : List Topic). t ∷ us) (put_back bs ts others apart.1)

-- ---- the law

module _ (have : HaveImages) (unique : AreUnique) where
  -- the partitions that are put in place are those that were written
  pub partitions_back : (id : SnapshotId) (s before after : State) (h : SnapshotValue) (file : List ℕ) (at : ℕ) → IsSound s → AreCounted s → h ≡ snapshot_said (state_said id.number s)
      → drop at file ≡ images_of s.topics → (made : IsRestored h (Some file) at before after) → made.partitions ≡ kept_of s.topics
  partitions_back id s before after h file at sound counted said images made =
      one_list unique made.partitions (kept_of s.topics) (made.said ∙ (ap (λ (x : SnapshotValue). announced x.topics) said ∙ sym (said_all s.topics))) made.images
      (images_all have s.topics sound.contents counted) (sym made.file ∙ (images ∙ sym (bytes_all s.topics)))

  -- so are those behind the head that is read of it, which says what was written
  pub written_there : (id : SnapshotId) (s before after : State) (h : SnapshotValue) (key : Option ℤ) (file : List ℕ) (at : ℕ) → IsSound s → AreCounted s → IsReadable id s → file ≡ snapshot_bytes id s
      → StartsWithHead h key file (drop at file) → (made : IsRestored h (Some file) at before after) → (made.partitions ≡ kept_of s.topics) × (h ≡ snapshot_said (state_said id.number s))
  written_there id s before after h key file at sound counted readable is starts made =
      let whole : file ++ [] ≡ snapshot_bytes id s = append-nil file ∙ is in
      let said = head_said id s h key file (drop at file) [] readable starts whole in
      let long = head_ends id s h key file (drop at file) [] readable starts whole in
      let parts : state_head id s ++ images_of s.topics ≡ head_bytes key starts.fields ++ drop at file = sym is ∙ starts.parts in
      let sizes : length file ≡ length (head_bytes key starts.fields) + length (drop at file) = ap length starts.parts ∙ length-append (head_bytes key starts.fields) (drop at file) in
      let heads : length (state_head id s) ≡ length (head_bytes key starts.fields) = omega (arith, long, sizes) in
      let images = others_same (state_head id s) (head_bytes key starts.fields) (images_of s.topics) (drop at file) heads parts in
      (partitions_back id s before after h file at sound counted said (sym images) made, said)

  pub read_back : (id : SnapshotId) (s before after : State) → IsSound s → AreCounted s → IsSound before → before.config ≡ s.config
      → IsRestored (snapshot_said (state_said id.number s)) (Some (snapshot_bytes id s)) (length (state_head id s)) before after → after ≡ s
  read_back id s before after sound counted sound_before config made =
      let head = state_head id s in
      let same = partitions_back id s before after (snapshot_said (state_said id.number s)) (snapshot_bytes id s) (length head) sound counted refl (drop-append_seam head (images_of s.topics)) made in
      let shapes : map shape_of before.topics ≡ map shape_of s.topics = sound_before.topics ∙ ap all_topics config ∙ sym sound.topics in
      let topics : put_all before.topics (kept_of s.topics) ≡ s.topics = put_back before.topics s.topics shapes (sound_apart s sound) in
      made.state
      ∙ ap (λ (ps : List Kept). with_next_id (with_kept before ps) s.next_producer) same
      ∙ ap (λ (t : State). with_next_id t s.next_producer) (topics_put (kept_of s.topics) before)
      ∙ (λ i. record { config = config i; topics = topics i; next_producer = s.next_producer })

  -- with the head that is read of it
  pub whole_back : (id : SnapshotId) (s before after : State) (h : SnapshotValue) (key : Option ℤ) (front rest more : List ℕ) (at : ℕ) → IsSound s → AreCounted s → IsReadable id s → IsSound before → before.config ≡ s.config
      → StartsWithHead h key front rest → front ++ more ≡ snapshot_bytes id s → at + length rest ≡ length front → IsRestored h (Some (snapshot_bytes id s)) at before after → after ≡ s
  whole_back id s before after h key front rest more at sound counted readable sound_before config starts is ends made =
      let seen = Some (snapshot_bytes id s) in
      let long = head_ends id s h key front rest more readable starts is in
      let there : at ≡ length (state_head id s) = omega (arith, ends, long) in
      read_back id s before after sound counted sound_before config
      (subst (λ (n : ℕ). IsRestored (snapshot_said (state_said id.number s)) seen n before after) there (subst (λ (x : SnapshotValue). IsRestored x seen at before after) (head_said id s h key front rest more readable starts is) made))
