-- Who sleeps, sleeps on where one partition grew within what its share allows.
use Rattle.std.proofs.Common.{◌≡◌, ℕ, ℤ, pos, ◌+◌, ◌*◌, ◌-◌, ◌≤◌, ◌⊎◌, inl, inr, arith, Bool, true, false, List, [], ◌∷◌, length, get_or, Option, Some, None, sym, ap, subst, refl, ◌∙◌}
use Rattle.std.specs.Prelude.{◌&&◌, nat_eq, nat_lt, bytes_eq, position, if◌then◌else◌}
use Rattle.std.specs.List.{list_any, position_or_len}
use Rattle.std.specs.Ordering.{int_eq}
use Rattle.std.proofs.lemmas.Bool.{false≢true}
use Rattle.std.proofs.lemmas.Bool.Decides.{nat_tests}
use Rattle.std.proofs.lemmas.Int.{ints}
use Rattle.std.proofs.lemmas.List.Quantifiers.{position-Some}
use Rattle.std.proofs.lemmas.Slice.Eq.{bytes_eq-Decides}
use Rattle.content.specs.Content.{Content, end}
use Rattle.frame_fields.specs.Types.{TopicOf}
use Rattle.request_frames.specs.Fetch.{FetchValue, FetchPartitionValue}
use Rattle.broker_state.specs.declared.place.Place.{Place}
use Rattle.broker_state.specs.Places.{IsPlaceOf}
use Rattle.broker_state.specs.State.{State, Topic, content_at, is_known}
use Rattle.fetch_waits.specs.Waiting.{bytes_from}
use Rattle.fetch_waits.specs.Sleeping.{Contents, FitsRoom, GrowsBy, Growths, Sleeps, is_asked, more_in, more_of}
use Rattle.fetch_waits.proofs.Sleeping.{less_room, sleeps_less, sleeps_on}
use Rattle.sessions.proofs.Booleans.{and_true, or_left, or_right, or_true}
use Rattle.sessions.specs.declared.waits.PartitionKey.{PartitionKey}
use Rattle.sessions.specs.Waiting.{is_same_key, key_of}
use Rattle.sessions.specs.Asleep.{count_in, count_of}
use Rattle.sessions.specs.Growing.{is_at}

-- ---- keys of partitions

topic_index : (xs : List Topic) (name : List ℕ) (i : ℕ) → Some i ≡ position (λ (t : Topic). bytes_eq t.name name) xs → position_or_len (λ (t : Topic). bytes_eq t.name name) xs ≡ i
topic_index xs name i is = by (nat_lt (position_or_len (λ (t : Topic). bytes_eq t.name name) xs) (length xs)) refl is where
  by : (b : Bool) → nat_lt (position_or_len (λ (t : Topic). bytes_eq t.name name) xs) (length xs) ≡ b → Some i ≡ (if b then Some (position_or_len (λ (t : Topic). bytes_eq t.name name) xs) else None)
      → position_or_len (λ (t : Topic). bytes_eq t.name name) xs ≡ i
  by true lt e = grind (arith, e)
  by false lt e = absurd (grind (arith, e))

-- the key of a place is that of its partition alone
pub at_place : (s : State) (name : List ℕ) (p : ℤ) (place : Place) (key : PartitionKey) → IsPlaceOf s name p place → is_at s key name p ≡ is_same_key (key_of place) key
at_place s name p place key is =
    ap (is_at s key name) is.partition
    ∙ ap (λ (n : ℕ). nat_eq n key.topic && nat_eq place.partition key.partition) (topic_index s.topics name place.topic is.topic)

one_name : (s : State) (name other : List ℕ) (i : ℕ) → Some i ≡ position (λ (t : Topic). bytes_eq t.name name) s.topics → Some i ≡ position (λ (t : Topic). bytes_eq t.name other) s.topics → other ≡ name
one_name s name other i here there =
    let t : Topic = record { name = []; partitions = [] } in
    let first = position-Some (λ (t : Topic). bytes_eq t.name name) s.topics i t (sym here) in
    let second = position-Some (λ (t : Topic). bytes_eq t.name other) s.topics i t (sym there) in
    sym ((bytes_eq-Decides (get_or s.topics i t).name other).0 second.1) ∙ (bytes_eq-Decides (get_or s.topics i t).name name).0 first.1

-- two partitions with one key are the same
pub one_at : (s : State) (key : PartitionKey) (name other : List ℕ) (p r : ℤ) (place there : Place) → IsPlaceOf s name p place → IsPlaceOf s other r there → is_at s key name p ≡ true → is_at s key other r ≡ true
    → (other ≡ name) × (r ≡ p)
one_at s key name other p r place there is is' at at' =
    let first : is_same_key (key_of place) key ≡ true = sym (at_place s name p place key is) ∙ at in
    let second : is_same_key (key_of there) key ≡ true = sym (at_place s other r there key is') ∙ at' in
    let topics : there.topic ≡ place.topic = grind (arith, first, second, nat_tests) in
    let partitions : there.partition ≡ place.partition = grind (arith, first, second, nat_tests) in (
      one_name s name other place.topic is.topic (ap (λ n. Some n) (sym topics) ∙ is'.topic),
      is'.partition ∙ ap pos partitions ∙ sym is.partition,
    )

-- ---- whether one with a key is asked for

abbrev asks : List FetchPartitionValue → ℤ → Bool
asks es p = list_any (λ (e : FetchPartitionValue). int_eq e.partition p) es

abbrev asks_in : List (TopicOf FetchPartitionValue) → List ℕ → ℤ → Bool
asks_in ts name p = list_any (λ (t : TopicOf FetchPartitionValue). bytes_eq t.name name && asks t.entries p) ts

module _ (f : List ℕ → ℤ → Bool) where
  abbrev FindsOf : List ℕ → List FetchPartitionValue → Type 0
  FindsOf name es = ((p : ℤ) → asks es p ≡ true → f name p ≡ false) ⊎ ((p : ℤ) × (asks es p ≡ true) × (f name p ≡ true))

  find_of : (name : List ℕ) (es : List FetchPartitionValue) → FindsOf name es
  find_of name [] = inl (λ p is. absurd (false≢true is))
  find_of name (e ∷ es) = by (f name e.partition) refl (find_of name es) where
    by : (b : Bool) → f name e.partition ≡ b → FindsOf name es → FindsOf name (e ∷ es)
    by true is rest = let same : int_eq e.partition e.partition ≡ true = grind (arith, ints) in inr (e.partition, or_left (int_eq e.partition e.partition) (asks es e.partition) same, is)
    by false isnt (inr there) = inr (there.0, or_right (int_eq e.partition there.0) (asks es there.0) there.1, there.2)
    by false isnt (inl none) = inl (λ p is. one p (or_true (int_eq e.partition p) (asks es p) is)) where
      one : (p : ℤ) → (int_eq e.partition p ≡ true) ⊎ (asks es p ≡ true) → f name p ≡ false
      one p (inl this) = let same : e.partition ≡ p = grind (arith, ints, this) in subst (λ (r : ℤ). f name r ≡ false) same isnt
      one p (inr later) = none p later

  abbrev pub FindsIn : List (TopicOf FetchPartitionValue) → Type 0
  FindsIn ts = ((name : List ℕ) (p : ℤ) → asks_in ts name p ≡ true → f name p ≡ false) ⊎ ((name : List ℕ) × (p : ℤ) × (asks_in ts name p ≡ true) × (f name p ≡ true))

  pub find_in : (ts : List (TopicOf FetchPartitionValue)) → FindsIn ts
  find_in [] = inl (λ name p is. absurd (false≢true is))
  find_in (t ∷ ts) = by (find_of t.name t.entries) (find_in ts) where
    by : FindsOf t.name t.entries → FindsIn ts → FindsIn (t ∷ ts)
    by (inr at) rest = inr (t.name, at.0, or_left (bytes_eq t.name t.name && asks t.entries at.0) (asks_in ts t.name at.0) (ap (λ (b : Bool). b && asks t.entries at.0) ((bytes_eq-Decides t.name t.name).1 refl) ∙ at.1), at.2)
    by (inl none) (inr there) = inr (there.0, there.1, or_right (bytes_eq t.name there.0 && asks t.entries there.1) (asks_in ts there.0 there.1) there.2, there.3)
    by (inl none) (inl nowhere) = inl (λ name p is. one name p (or_true (bytes_eq t.name name && asks t.entries p) (asks_in ts name p) is)) where
      one : (name : List ℕ) (p : ℤ) → ((bytes_eq t.name name && asks t.entries p) ≡ true) ⊎ (asks_in ts name p ≡ true) → f name p ≡ false
      one name p (inl this) =
          let both = and_true (bytes_eq t.name name) (asks t.entries p) this in
          subst (λ (n : List ℕ). f n p ≡ false) ((bytes_eq-Decides t.name name).0 both.0) (none p both.1)
      one name p (inr later) = nowhere name p later

-- ---- one partition's growth

abbrev pub one_grows : (name : List ℕ) (p : ℤ) (more : ℕ) → Growths
one_grows name p more other r = if bytes_eq other name && int_eq r p then more else 0

module _ (name : List ℕ) (p : ℤ) (more : ℕ) where
  counted : (b : Bool) (rest : ℕ) → (if b then more else 0) + more * rest ≡ more * ((if b then 1 else 0) + rest)
  counted true rest = omega arith
  counted false rest = omega arith

  more_of_one : (topic : List ℕ) (es : List FetchPartitionValue) → more_of topic (one_grows name p more) es ≡ more * count_of name p topic es
  more_of_one topic [] = omega arith
  more_of_one topic (e ∷ es) =
      let this = counted (bytes_eq topic name && int_eq e.partition p) (count_of name p topic es) in
      ap (λ (n : ℕ). (if bytes_eq topic name && int_eq e.partition p then more else 0) + n) (more_of_one topic es) ∙ this

  more_in_one : (ts : List (TopicOf FetchPartitionValue)) → more_in (one_grows name p more) ts ≡ more * count_in name p ts
  more_in_one [] = omega arith
  more_in_one (t ∷ ts) =
      let first = more_of_one t.name t.entries in
      let rest = more_in_one ts in
      omega (arith, first, rest)

-- ---- a Fetch whose partitions hold what they held

pub sleeps_same : (s : State) (held now : Contents) (q : FetchValue) (missing : ℕ) (room : List ℕ → ℤ → Option ℕ) → ((name : List ℕ) (p : ℤ) → is_asked q name p ≡ true → now name p ≡ held name p) → Sleeps s held q missing room
    → Sleeps s now q missing room
sleeps_same s held now q missing room same sleeps = λ t by grows few fits.
    sleeps t by (record {
      config = grows.config;
      known = grows.known;
      each = λ name p is. subst (λ (c : Content). GrowsBy c (content_at t name p) (by name p)) (same name p is) (grows.each name p is);
    }) few fits

-- it speaks of a state's configuration and partitions alone
pub sleeps_there : (s t : State) (held : Contents) (q : FetchValue) (missing : ℕ) (room : List ℕ → ℤ → Option ℕ) → t.config ≡ s.config → ((name : List ℕ) (p : ℤ) → is_known t name p ≡ is_known s name p)
    → Sleeps s held q missing room → Sleeps t held q missing room
sleeps_there s t held q missing room config known sleeps = λ u by grows few fits.
    sleeps u by (record { config = grows.config ∙ config; known = λ name p. grows.known name p ∙ known name p; each = grows.each }) few fits

-- ---- a Fetch of which one partition grew

fits_less : (real counted : ℕ) (room : Option ℕ) → real ≤ counted → FitsRoom counted room → FitsRoom real room
fits_less real counted None less fits = omega (arith, less, fits)
fits_less real counted (Some room) less fits = omega (arith, less, fits)

pub fits_behind : (real counted more : ℕ) (room : Option ℕ) → real ≤ counted → FitsRoom (counted + more) room → FitsRoom more (less_room room real)
fits_behind real counted more None less fits = omega (arith, fits)
fits_behind real counted more (Some room) less fits = omega (arith, less, fits)

fits_calm : (room : Option ℕ) → FitsRoom 0 room
fits_calm None = refl
fits_calm (Some room) = omega arith

pub by_one : (name other : List ℕ) (p r : ℤ) (real : ℕ) (P : ℕ → Type 0) → ((other ≡ name) × (r ≡ p) → P real) → ((bytes_eq other name && int_eq r p) ≡ false → P 0) → P (one_grows name p real other r)
by_one name other p r real P here others = by (bytes_eq other name) (int_eq r p) refl refl others where
  by : (a b : Bool) → bytes_eq other name ≡ a → int_eq r p ≡ b → ((a && b) ≡ false → P 0) → P (if a && b then real else 0)
  by true true is is' rest = here ((bytes_eq-Decides other name).0 is, grind (arith, ints, is'))
  by true false is is' rest = rest refl
  by false b is is' rest = rest refl

module _ (s : State) (held now : Contents) (q : FetchValue) (missing : ℕ) (room : List ℕ → ℤ → Option ℕ) (name : List ℕ) (p : ℤ) (real counted entries : ℕ) where
  pub sleeps_by : Sleeps s held q missing room → GrowsBy (held name p) (now name p) real → ((other : List ℕ) (r : ℤ) → is_asked q other r ≡ true → (bytes_eq other name && int_eq r p) ≡ false → GrowsBy (held other r) (now other r) 0)
      → real ≤ counted → FitsRoom counted (room name p) → count_in name p q.topics ≤ entries
      → Sleeps s now q (missing - counted * entries) (λ other r. less_room (room other r) (one_grows name p real other r))
  sleeps_by sleeps grew others few fits count =
      let by = one_grows name p real in
      let sum = more_in_one name p real q.topics in
      let most : real * count_in name p q.topics ≤ counted * entries = grind (arith, few, count) in
      let on = sleeps_on s held now q missing room by sleeps
      (λ other r is. by_one name other p r real (GrowsBy (held other r) (now other r)) (λ same. subst (λ (n : List ℕ). GrowsBy (held n r) (now n r) real) (sym same.0) (subst (λ (z : ℤ). GrowsBy (held name z) (now name z) real) (sym same.1) grew)) (λ isnt. others other r is isnt))
      (λ other r is. by_one name other p r real (λ (n : ℕ). FitsRoom n (room other r)) (λ same. subst (λ (n : List ℕ). FitsRoom real (room n r)) (sym same.0) (subst (λ (z : ℤ). FitsRoom real (room name z)) (sym same.1) (fits_less real counted (room name p) few fits))) (λ isnt. fits_calm (room other r))) in
      sleeps_less s now q (missing - more_in by q.topics) (missing - counted * entries) (λ other r. less_room (room other r) (by other r)) (λ other r. less_room (room other r) (by other r)) (omega (arith, sum, most)) (λ other r n is within. within) on
