-- A topic by its index, and a partition of it, and what changes where that partition does.
use Rattle.std.proofs.Common.{◌≡◌, ℕ, zero, suc, ◌+◌, ◌<◌, Bool, true, false, cond, ℤ, pos, List, [], ◌∷◌, length, Option, Some, None, set, refl, sym, ap, subst, ◌∙◌, arith}
use Rattle.std.specs.Prelude.{map, is_some, slice_get, get_or, bytes_eq, not, nat_lt, position}
use Rattle.std.specs.List.{find, AllByRecursion, position_or_len}
use Rattle.std.specs.Option.{option_map, option_and_then, unwrap_or}
use Rattle.std.proofs.lemmas.List.{length-map, length-set}
use Rattle.std.proofs.lemmas.List.Folds.{find_at}
use Rattle.content.specs.Content.{Content, IsContent, empty}
use Rattle.broker_state.specs.declared.config.Role.{Role}
use Rattle.broker_state.specs.declared.place.Place.{Place}
use Rattle.broker_state.specs.State.{ConfigValue, State, topic_of, partition_of, partition_at, content_at, with_partition, with_partition_of, with_content}
use Rattle.broker_state.specs.Places.{IsPlaceOf}
use Rattle.broker_state.specs.Changes.{HowChanged, ChangesIn, ChangesAt}
use Rattle.broker_state.specs.Partitions.{PartitionValue}
use Rattle.broker_state.specs.Parts.{TopicParts, topic_contents, topic_shape, HasRole, AreTopicsOf}
use Rattle.broker_state.specs.Sound.{HoldsContents}
use Rattle.broker_state.proofs.NewStates.{find_map}

some_same : {X : Type 0} (x y : X) → Some x ≡ Some y → x ≡ y
some_same x y e = cc

-- ---- one element of a list

pub got : {X : Type 0} (xs : List X) (n : ℕ) (x : X) → n < length xs → x ≡ get_or xs n x → slice_get xs n ≡ Some x
got [] n x lt is = absurd (omega (arith, lt))
got (y ∷ ys) zero x lt is = ap (λ z. Some z) (sym is)
got (y ∷ ys) (suc n) x lt is = got ys n x (omega (arith, lt)) is

map_set : {X Y : Type 0} (f : X → Y) (xs : List X) (n : ℕ) (x y : X) → slice_get xs n ≡ Some x → f y ≡ f x → map f (set xs n y) ≡ map f xs
map_set f [] n x y there same = refl
map_set f (z ∷ zs) zero x y there same = ap (λ w. w ∷ map f zs) (same ∙ sym (ap f (some_same z x there)))
map_set f (z ∷ zs) (suc n) x y there same = ap (λ ws. f z ∷ ws) (map_set f zs n x y there same)

pub all_set : {X : Type 0} (P : X → Type 0) (xs : List X) (n : ℕ) (y : X) → AllByRecursion P xs → P y → AllByRecursion P (set xs n y)
all_set P [] n y all is = tt
all_set P (x ∷ xs) zero y all is = (is, all.1)
all_set P (x ∷ xs) (suc n) y all is = (all.0, all_set P xs n y all.1 is)

pub all_get : {X : Type 0} (P : X → Type 0) (xs : List X) (n : ℕ) (x : X) → AllByRecursion P xs → slice_get xs n ≡ Some x → P x
all_get P [] n x all there = absurd (grind (arith, there))
all_get P (z ∷ zs) zero x all there = subst P (some_same z x there) all.0
all_get P (z ∷ zs) (suc n) x all there = all_get P zs n x all.1 there

contents_set : (ps : List PartitionValue) (n : ℕ) (x : PartitionValue) → map (λ p. p.content) (set ps n x) ≡ set (map (λ p. p.content) ps) n x.content
contents_set [] n x = refl
contents_set (p ∷ ps) zero x = refl
contents_set (p ∷ ps) (suc n) x = ap (λ cs. p.content ∷ cs) (contents_set ps n x)

-- ---- the index of a name

by_test : {X : Type 0} (xs : List X) (n i : ℕ) (b : Bool) → nat_lt n (length xs) ≡ b → Some i ≡ cond b (Some n) None → (i ≡ n) × (i < length xs)
by_test xs n i true lt e = let same : i ≡ n = some_same i n e in (same, grind (arith, lt, same))
by_test xs n i false lt e = absurd (grind (arith, e))

-- of the first element that passes, and that there is none
module _ {X : Type 0} (test : X → Bool) (xs : List X) where
  pub first_at : (i : ℕ) → Some i ≡ position test xs → (i ≡ position_or_len test xs) × (i < length xs)
  first_at i e = by_test xs (position_or_len test xs) i (nat_lt (position_or_len test xs) (length xs)) refl e

  none_at : (b : Bool) → nat_lt (position_or_len test xs) (length xs) ≡ b → None ≡ cond b (Some (position_or_len test xs)) None → slice_get xs (position_or_len test xs) ≡ None
  none_at true lt e = absurd (grind (arith, e))
  none_at false lt e = past xs (position_or_len test xs) lt
    where
      past : (ys : List X) (n : ℕ) → nat_lt n (length ys) ≡ false → slice_get ys n ≡ None
      past [] n e = refl
      past (y ∷ ys) zero e = absurd (grind (arith, e))
      past (y ∷ ys) (suc n) e = past ys n (grind (arith, e))

  pub finds_none : None ≡ position test xs → find test xs ≡ None
  finds_none e = find_at test xs ∙ none_at (nat_lt (position_or_len test xs) (length xs)) refl e

  pub finds_it : (i : ℕ) (x : X) → Some i ≡ position test xs → x ≡ get_or xs i x → find test xs ≡ Some x
  finds_it i x e is =
      let at = first_at i e in
      find_at test xs ∙ ap (λ n. slice_get xs n) (sym at.0) ∙ got xs i x at.1 is

abbrev has_name : List ℕ → TopicParts → Bool
has_name name t = bytes_eq t.name name

module _ (name : List ℕ) (p : ℤ) (c : Content) (u : TopicParts) where
  change : (ts : List TopicParts) (i : ℕ) (t : TopicParts) → i ≡ position_or_len (has_name name) ts → slice_get ts i ≡ Some t → topic_contents u ≡ with_partition p c (topic_contents t)
      → map topic_contents (set ts i u) ≡ with_partition_of name p c (map topic_contents ts)
  change [] i t at there is = absurd (grind (arith, there))
  change (x ∷ xs) i t at there is = by (has_name name x) i at there (λ k at there. change xs k t at there is)
    where
      by : (b : Bool) (i : ℕ) → i ≡ cond (not b) (1 + position_or_len (has_name name) xs) 0 → slice_get (x ∷ xs) i ≡ Some t
          → ((k : ℕ) → k ≡ position_or_len (has_name name) xs → slice_get xs k ≡ Some t → map topic_contents (set xs k u) ≡ with_partition_of name p c (map topic_contents xs))
          → map topic_contents (set (x ∷ xs) i u) ≡ cond b (with_partition p c (topic_contents x) ∷ map topic_contents xs) (topic_contents x ∷ with_partition_of name p c (map topic_contents xs))
      by true zero at there rest = ap (λ y. y ∷ map topic_contents xs) (is ∙ ap (λ y. with_partition p c (topic_contents y)) (sym (some_same x t there)))
      by true (suc i) at there rest = absurd (grind (arith, at))
      by false zero at there rest = absurd (grind (arith, at))
      by false (suc i) at there rest = ap (λ ys. topic_contents x ∷ ys) (rest i (omega (arith, at)) there)

-- ---- a topic found by its name

-- the index in the list that the code sees
pub index_in : (seen ts : List TopicParts) (name : List ℕ) (r : Option ℕ) → seen ≡ ts → r ≡ position (has_name name) seen → r ≡ position (has_name name) ts
index_in seen ts name r same at = at ∙ ap (position (has_name name)) same

index_map : {X Y : Type 0} (f : X → Y) (test : Y → Bool) (xs : List X) → position_or_len test (map f xs) ≡ position_or_len (λ x. test (f x)) xs
index_map f test [] = refl
index_map f test (x ∷ xs) = ap (λ n. cond (not (test (f x))) (1 + n) 0) (index_map f test xs)

-- among topics as they are held, and among their contents
pub index_shown : (ts : List TopicParts) (name : List ℕ) → position (λ t. bytes_eq t.name name) (map topic_contents ts) ≡ position (has_name name) ts
index_shown ts name =
    let same = index_map topic_contents (λ t. bytes_eq t.name name) ts in
    let many = length-map ts topic_contents in
    λ i. cond (nat_lt (same i) (many i)) (Some (same i)) None

-- where there is none, the broker has no such topic, and no partition of it
pub no_topic : (ts : List TopicParts) (s : State) (g : ConfigValue) {next : ℤ} (name : List ℕ) → record { config = g; topics = map topic_contents ts; next_producer = next } ≡ s → None ≡ position (has_name name) ts → None ≡ topic_of s name
no_topic ts s g name view none =
    sym (find_map topic_contents (λ t. bytes_eq t.name name) ts ∙ ap (option_map topic_contents) (finds_none (has_name name) ts none))
    ∙ ap (λ (s : State). topic_of s name) view

pub no_partition : (ts : List TopicParts) (s : State) (g : ConfigValue) {next : ℤ} (name : List ℕ) (p : ℤ) → record { config = g; topics = map topic_contents ts; next_producer = next } ≡ s → None ≡ position (has_name name) ts → partition_at s name p ≡ None
no_partition ts s g name p view none = ap (option_and_then (partition_of p)) (sym (no_topic ts s g name view none))

-- an index that is there has an element
below : {X : Type 0} (xs : List X) (n : ℕ) → is_some (slice_get xs n) ≡ true → n < length xs
below [] n e = absurd (grind (arith, e))
below (x ∷ xs) zero e = grind arith
below (x ∷ xs) (suc n) e = grind (arith, below xs n e)

module _ (ts : List TopicParts) (name : List ℕ) (i : ℕ) (t : TopicParts) (at : Some i ≡ position (has_name name) ts) (is : t ≡ get_or ts i t) where
  there : slice_get ts i ≡ Some t
  there = got ts i t (first_at (has_name name) ts i at).1 is

  -- what the broker has of this topic, and of a partition of it
  pub topic_here : (g : ConfigValue) {next : ℤ} (s : State) → record { config = g; topics = map topic_contents ts; next_producer = next } ≡ s → Some (topic_contents t) ≡ topic_of s name
  topic_here g s view =
      sym (find_map topic_contents (λ t. bytes_eq t.name name) ts ∙ ap (option_map topic_contents) (finds_it (has_name name) ts i t at is))
      ∙ ap (λ (s : State). topic_of s name) view

  pub partition_here : (g : ConfigValue) {next : ℤ} (s : State) (p : ℤ) → record { config = g; topics = map topic_contents ts; next_producer = next } ≡ s → partition_at s name p ≡ partition_of p (topic_contents t)
  partition_here g s p view = ap (option_and_then (partition_of p)) (sym (topic_here g s view))

  pub holds_here : (P : TopicParts → Type 0) → AllByRecursion P ts → P t
  holds_here P all = all_get P ts i t all there

  contents_change : (u : TopicParts) (p : ℤ) (c : Content) → topic_contents u ≡ with_partition p c (topic_contents t)
      → map topic_contents (set ts i u) ≡ with_partition_of name p c (map topic_contents ts)
  contents_change u p c changed = change name p c u ts i t (first_at (has_name name) ts i at).0 there changed

  pub stay_topics : (g : ConfigValue) (u : TopicParts) → AreTopicsOf g ts → topic_shape u ≡ topic_shape t → HasRole g.role u → AreTopicsOf g (set ts i u)
  stay_topics g u all shape role = record {
    shapes = map_set topic_shape ts i t u there shape ∙ all.shapes;
    roles = all_set (HasRole g.role) ts i u all.roles role;
  }

  -- a change in this topic is one of the broker's
  pub change_here : (how : HowChanged) (g : ConfigValue) {next : ℤ} (s : State) (u : TopicParts) (p : ℤ) → record { config = g; topics = map topic_contents ts; next_producer = next } ≡ s
      → ChangesIn how (topic_contents t) p (topic_contents u)
      → ChangesAt how s name p (record { config = g; topics = map topic_contents (set ts i u); next_producer = next })
  change_here how g {next = next} s u p view made =
      let c = made.0 in
      let before : unwrap_or (partition_of p (topic_contents t)) empty ≡ content_at s name p =
      ap (λ x. unwrap_or x empty) (sym (partition_here g s p view)) in (
        c,
        subst (λ x. how x c) before made.1,
        ap (λ us. record { config = g; topics = us; next_producer = next }) (contents_change u p c made.2) ∙ ap (λ s. with_content s name p c) view,
      )

-- ---- a place

module _ (ts : List TopicParts) (g : ConfigValue) {next : ℤ} (s : State) (name : List ℕ) (p : ℤ) (place : Place) (view : record { config = g; topics = map topic_contents ts; next_producer = next } ≡ s) (of : IsPlaceOf s name p place) where
  -- the index of the topic, and of the partition in it
  pub topic_of_place : Some place.topic ≡ position (has_name name) ts
  topic_of_place = of.topic ∙ sym (ap (λ (s : State). position (λ t. bytes_eq t.name name) s.topics) view) ∙ index_shown ts name

  pub topic_below : place.topic < length ts
  topic_below = (first_at (has_name name) ts place.topic topic_of_place).1

  pub partition_below : (t : TopicParts) → t ≡ get_or ts place.topic t → place.partition < length t.partitions
  partition_below t is =
      let shown : is_some (slice_get (map (λ p. p.content) t.partitions) place.partition) ≡ true =
      sym (ap is_some (partition_here ts name place.topic t topic_of_place is g s p view ∙ ap (λ q. partition_of q (topic_contents t)) of.partition)) ∙ of.known in
      subst (λ (n : ℕ). place.partition < n) (length-map t.partitions (λ p. p.content)) (below (map (λ p. p.content) t.partitions) place.partition shown)

  pub copy_shown : (t : TopicParts) (c : Content) → t ≡ get_or ts place.topic t → partition_of (pos place.partition) (topic_contents t) ≡ Some c → partition_at s name p ≡ Some c
  copy_shown t c is here =
      partition_here ts name place.topic t topic_of_place is g s p view ∙ ap (λ q. partition_of q (topic_contents t)) of.partition ∙ here

  pub holds_at_place : (P : TopicParts → Type 0) (t : TopicParts) → t ≡ get_or ts place.topic t → AllByRecursion P ts → P t
  holds_at_place P t is all = holds_here ts name place.topic t topic_of_place is P all

  pub topics_stay : (t u : TopicParts) → t ≡ get_or ts place.topic t → AreTopicsOf g ts → topic_shape u ≡ topic_shape t → HasRole g.role u → AreTopicsOf g (set ts place.topic u)
  topics_stay t u is all shape role = stay_topics ts name place.topic t topic_of_place is g u all shape role

  pub changed_here : (how : HowChanged) (t u : TopicParts) → t ≡ get_or ts place.topic t → ChangesIn how (topic_contents t) (pos place.partition) (topic_contents u)
      → ChangesAt how s name p (record { config = g; topics = map topic_contents (set ts place.topic u); next_producer = next })
  changed_here how t u is made =
      change_here ts name place.topic t topic_of_place is how g s u p view
      (subst (λ q. ChangesIn how (topic_contents t) q (topic_contents u)) (sym of.partition) made)

-- the place that is found
pub place_found : (ts : List TopicParts) (g : ConfigValue) {next : ℤ} (s : State) (name : List ℕ) (p : ℤ) (i n : ℕ) (t : TopicParts) → record { config = g; topics = map topic_contents ts; next_producer = next } ≡ s → Some i ≡ position (has_name name) ts → t ≡ get_or ts i t
    → p ≡ pos n → n < length t.partitions → IsPlaceOf s name p (record { topic = i; partition = n })
place_found ts g s name p i n t view at is number low = record {
  known = ap is_some (partition_here ts name i t at is g s p view ∙ ap (λ q. partition_of q (topic_contents t)) number) ∙ above t.partitions n low;
  topic = at ∙ sym (index_shown ts name) ∙ ap (λ (s : State). position (λ t. bytes_eq t.name name) s.topics) view;
  partition = number;
}
  where
    above : (ps : List PartitionValue) (n : ℕ) → n < length ps → is_some (slice_get (map (λ p. p.content) ps) n) ≡ true
    above [] n low = absurd (omega (arith, low))
    above (p ∷ ps) zero low = refl
    above (p ∷ ps) (suc n) low = above ps n (omega (arith, low))

-- ---- a partition by its index

abbrev content_of : PartitionValue → Content
content_of p = p.content

content_here : (ps : List PartitionValue) (k : ℕ) (x : PartitionValue) → k < length ps → x ≡ get_or ps k x → slice_get (map content_of ps) k ≡ Some x.content
content_here [] k x low is = absurd (omega (arith, low))
content_here (p ∷ ps) zero x low is = ap (λ q. Some q.content) (sym is)
content_here (p ∷ ps) (suc k) x low is = content_here ps k x (omega (arith, low)) is

pub copy_in_topic : (name : List ℕ) (ps : List PartitionValue) (t : TopicParts) (k : ℕ) (x : PartitionValue) → record { name = name; partitions = ps } ≡ t → k < length t.partitions → x ≡ get_or ps k x
    → partition_of (pos k) (topic_contents t) ≡ Some x.content
copy_in_topic name ps t k x view low is =
    sym (ap (λ (u : TopicParts). slice_get (map content_of u.partitions) k) view)
    ∙ content_here ps k x (subst (λ (u : TopicParts). k < length u.partitions) (sym view) low) is

pub change_in_topic : (how : HowChanged) (name : List ℕ) (ps : List PartitionValue) (t : TopicParts) (k : ℕ) (x y : PartitionValue)
    → record { name = name; partitions = ps } ≡ t → k < length t.partitions → x ≡ get_or ps k x
    → how x.content y.content
    → ChangesIn how (topic_contents t) (pos k) (topic_contents (record { name = name; partitions = set ps k y }))
change_in_topic how name ps t k x y view low is made = (
  y.content,
  subst (λ c. how c y.content) (sym (ap (λ r. unwrap_or r empty) (copy_in_topic name ps t k x view low is))) made,
  (λ i. record { name = name; partitions = contents_set ps k y i }) ∙ ap (λ (u : TopicParts). with_partition (pos k) y.content (topic_contents u)) view,
)

-- ---- a partition's role, and whether all contents are valid

module _ (name : List ℕ) (ps : List PartitionValue) (t : TopicParts) (k : ℕ) (x : PartitionValue) (view : record { name = name; partitions = ps } ≡ t) (low : k < length t.partitions) (is : x ≡ get_or ps k x) where
  is_there : slice_get ps k ≡ Some x
  is_there = got ps k x (subst (λ (u : TopicParts). k < length u.partitions) (sym view) low) is

  pub role_here : (role : Role) → HasRole role t → x.role ≡ role
  role_here role all = all_get (λ (p : PartitionValue). p.role ≡ role) ps k x (subst (HasRole role) (sym view) all) is_there

  pub roles_stay : (role : Role) (y : PartitionValue) → y.role ≡ x.role → HasRole role t → HasRole role (record { name = name; partitions = set ps k y })
  roles_stay role y same all = all_set (λ (p : PartitionValue). p.role ≡ role) ps k y (subst (HasRole role) (sym view) all) (same ∙ role_here role all)

  pub shape_stays : (y : PartitionValue) → topic_shape (record { name = name; partitions = set ps k y }) ≡ topic_shape t
  shape_stays y = (λ i. record { name = name; partitions = length-set ps k y i }) ∙ ap topic_shape view

  pub contents_stay : (y : PartitionValue) → IsContent y.content → HoldsContents (topic_contents t) → HoldsContents (topic_contents (record { name = name; partitions = set ps k y }))
  contents_stay y valid all =
      subst (AllByRecursion IsContent) (sym (contents_set ps k y))
      (all_set IsContent (map content_of ps) k y.content (subst (λ (u : TopicParts). HoldsContents (topic_contents u)) (sym view) all) valid)
