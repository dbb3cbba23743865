-- What was written of a broker, restored in a broker that was set up otherwise.
use Rattle.std.proofs.Common.{◌≡◌, ◌≢◌, ℕ, zero, suc, ◌+◌, ◌<◌, arith, Bool, true, false, cond, ◌&&◌, ℤ, pos, negsuc, List, [], ◌∷◌, ◌++◌, length, Option, Some, None, refl, sym, ap, subst, ◌∙◌}
use Rattle.std.specs.Prelude.{map, replicate, bytes_eq, is_some, slice_get, MatchOption}
use Rattle.std.specs.List.{find, AllByRecursion}
use Rattle.std.specs.Option.{option_map, option_or, option_and_then}
use Rattle.std.specs.Ordering.{int_eq}
use Rattle.std.proofs.lemmas.Int.{ints}
use Rattle.std.proofs.lemmas.Bool.Decides.{Decides-int_eq}
use Rattle.std.proofs.lemmas.Slice.Eq.{bytes_eq-Decides}
use Rattle.content.specs.Content.{Content, empty}
use Rattle.broker_state.specs.State.{TopicConfig, ConfigValue, Topic, State, all_topics, new_topic, new_state, partition_of, partition_at, is_known, with_content}
use Rattle.broker_state.specs.Producers.{with_next_id}
use Rattle.broker_state.specs.Sound.{shape_of}
use Rattle.broker_state.proofs.NewStates.{find_map}
use Rattle.broker_state.proofs.OneContent.{with_same, other_index, other_name}
use Rattle.exact_replies.specs.SameHeld.{AskForTheSame, HoldTheSame}
use Rattle.exact_replies.proofs.SameStarts.{begin_alike}
use Rattle.state_snapshots.specs.Restoring.{Kept, IsTaken, with_kept}
use Rattle.state_snapshots.proofs.Known.{known_with}
use Rattle.state_snapshots.proofs.ReadBack.{Apart, DifferFrom, kept_of, partitions_of}
use Rattle.kept_starts.specs.Growth.{HoldsMore, IsEmptyThere}

abbrev at : List ℕ → ℤ → List Topic → Option Content
at name p ts = option_and_then (partition_of p) (find (λ t. bytes_eq t.name name) ts)

-- ---- one partition is put in place

module _ (name : List ℕ) (p : ℤ) where
  one_put : (s : State) (topic : List ℕ) (q : ℤ) (c : Content) → is_known s topic q ≡ true
      → partition_at (with_content s topic q c) name p ≡ cond (bytes_eq topic name && int_eq p q) (Some c) (partition_at s name p)
  one_put s topic q c known = by (bytes_eq topic name) (int_eq p q) refl refl
    where
      by : (b d : Bool) → bytes_eq topic name ≡ b → int_eq p q ≡ d → partition_at (with_content s topic q c) name p ≡ cond (b && d) (Some c) (partition_at s name p)
      by true true same number =
          let here : topic ≡ name = (bytes_eq-Decides topic name).0 same in
          let there : p ≡ q = (Decides-int_eq p q).0 number in
          subst (λ (n : List ℕ). partition_at (with_content s topic q c) n p ≡ Some c) here
          (subst (λ (r : ℤ). partition_at (with_content s topic q c) topic r ≡ Some c) (sym there) (with_same s topic q c known))
      by true false same number =
          let other : p ≢ q = λ e. absurd (grind (arith, number, (Decides-int_eq p q).1 e)) in
          other_index s.topics topic name p q c other
      by false d same number =
          let other : name ≢ topic = λ e. absurd (grind (arith, same, (bytes_eq-Decides topic name).1 (sym e))) in
          other_name s.topics topic name p q c other

  -- ---- all of them, one after the other

  -- what stands there after them
  put_at : List Kept → Option Content → Option Content
  put_at [] old = old
  put_at (k ∷ ps) old = put_at ps (cond (bytes_eq k.topic name && int_eq p k.partition) (Some k.content) old)

  still_taken : (s : State) (k : Kept) (ps : List Kept) → AllByRecursion (IsTaken s) ps → AllByRecursion (IsTaken (with_content s k.topic k.partition k.content)) ps
  still_taken s k [] taken = tt
  still_taken s k (x ∷ ps) taken =
      (record { known = known_with k.topic k.partition k.content x.topic x.partition s ∙ taken.0.known; gapless = taken.0.gapless }, still_taken s k ps taken.1)

  all_put : (ps : List Kept) (s : State) → AllByRecursion (IsTaken s) ps → partition_at (with_kept s ps) name p ≡ put_at ps (partition_at s name p)
  unfolding put_at
  all_put [] s taken = refl
  all_put (k ∷ ps) s taken =
      all_put ps (with_content s k.topic k.partition k.content) (still_taken s k ps taken.1)
      ∙ ap (put_at ps) (one_put s k.topic k.partition k.content taken.0.known)

  put_append : (ps qs : List Kept) (old : Option Content) → put_at (ps ++ qs) old ≡ put_at qs (put_at ps old)
  unfolding put_at
  put_append [] qs old = refl
  put_append (k ∷ ps) qs old = put_append ps qs (cond (bytes_eq k.topic name && int_eq p k.partition) (Some k.content) old)

  -- ---- those of one topic

  -- of contents from this number on the one of the number that is looked for
  at_from : (first : ℕ) → List Content → Option Content
  at_from first [] = None
  at_from first (c ∷ cs) = cond (int_eq p (pos first)) (Some c) (at_from (first + 1) cs)

  at_later : (first n : ℕ) (cs : List Content) → p ≡ pos n → n < first → at_from first cs ≡ None
  unfolding at_from
  at_later first n [] is low = refl
  at_later first n (c ∷ cs) is low = by (int_eq p (pos first)) refl (at_later (first + 1) n cs is (omega (arith, low)))
    where
      by : (b : Bool) → int_eq p (pos first) ≡ b → at_from (first + 1) cs ≡ None → cond b (Some c) (at_from (first + 1) cs) ≡ None
      by true same rest =
          let here : pos n ≡ pos first = sym is ∙ (Decides-int_eq p (pos first)).0 same in
          absurd (omega (arith, ints, here, low))
      by false same rest = rest

  own_put : (first : ℕ) (cs : List Content) (old : Option Content) → put_at (partitions_of name first cs) old ≡ option_or (at_from first cs) old
  unfolding put_at at_from
  own_put first [] old = refl
  own_put first (c ∷ cs) old =
      ap (λ (b : Bool). put_at (partitions_of name (first + 1) cs) (cond (b && int_eq p (pos first)) (Some c) old)) ((bytes_eq-Decides name name).1 refl)
      ∙ own_put (first + 1) cs (cond (int_eq p (pos first)) (Some c) old)
      ∙ by (int_eq p (pos first)) refl
    where
      by : (b : Bool) → int_eq p (pos first) ≡ b → option_or (at_from (first + 1) cs) (cond b (Some c) old) ≡ option_or (cond b (Some c) (at_from (first + 1) cs)) old
      by true same = ap (λ (o : Option Content). option_or o (Some c)) (at_later (first + 1) first cs ((Decides-int_eq p (pos first)).0 same) (omega arith))
      by false same = refl

  other_put : (topic : List ℕ) (first : ℕ) (cs : List Content) (old : Option Content) → bytes_eq topic name ≡ false → put_at (partitions_of topic first cs) old ≡ old
  unfolding put_at
  other_put topic first [] old other = refl
  other_put topic first (c ∷ cs) old other =
      ap (λ (b : Bool). put_at (partitions_of topic (first + 1) cs) (cond (b && int_eq p (pos first)) (Some c) old)) other
      ∙ other_put topic (first + 1) cs old other

-- a partition by its number, counted from a first one
counted_from : (name : List ℕ) (first n : ℕ) (cs : List Content) → at_from name (pos (first + n)) first cs ≡ slice_get cs n
unfolding at_from
counted_from name first n [] = refl
counted_from name first zero (c ∷ cs) =
    let same : pos (first + 0) ≡ pos first = omega (arith, ints) in
    ap (λ (b : Bool). cond b (Some c) (at_from name (pos (first + 0)) (first + 1) cs)) ((Decides-int_eq (pos (first + 0)) (pos first)).1 same)
counted_from name first (suc n) (c ∷ cs) =
    let e : first + suc n ≡ (first + 1) + n = omega arith in
    by (int_eq (pos (first + suc n)) (pos first)) refl
    (ap (λ (k : ℕ). at_from name (pos k) (first + 1) cs) e ∙ counted_from name (first + 1) n cs)
  where
    by : (b : Bool) → int_eq (pos (first + suc n)) (pos first) ≡ b → at_from name (pos (first + suc n)) (first + 1) cs ≡ slice_get cs n
        → cond b (Some c) (at_from name (pos (first + suc n)) (first + 1) cs) ≡ slice_get cs n
    by true same rest =
        let here : pos (first + suc n) ≡ pos first = (Decides-int_eq (pos (first + suc n)) (pos first)).0 same in
        absurd (omega (arith, ints, here))
    by false same rest = rest

none_below : (name : List ℕ) (first n : ℕ) (cs : List Content) → at_from name (negsuc n) first cs ≡ None
unfolding at_from
none_below name first n [] = refl
none_below name first n (c ∷ cs) = none_below name (first + 1) n cs

by_number : (name : List ℕ) (p : ℤ) (t : Topic) → at_from name p 0 t.partitions ≡ partition_of p t
by_number name (pos n) t = let e : 0 + n ≡ n = omega arith in ap (λ (k : ℕ). at_from name (pos k) 0 t.partitions) (sym e) ∙ counted_from name 0 n t.partitions
by_number name (negsuc n) t = none_below name 0 n t.partitions

-- ---- those of all topics

module _ (name : List ℕ) (p : ℤ) where
  none_put : (ts : List Topic) (old : Option Content) → DifferFrom name (map (λ t. t.name) ts) → put_at name p (kept_of ts) old ≡ old
  unfolding put_at
  none_put [] old differ = refl
  none_put (t ∷ ts) old differ =
      let other : bytes_eq t.name name ≡ false = apart (bytes_eq t.name name) refl in
      put_append name p (partitions_of t.name 0 t.partitions) (kept_of ts) old
      ∙ ap (put_at name p (kept_of ts)) (other_put name p t.name 0 t.partitions old other)
      ∙ none_put ts old differ.1
    where
      apart : (b : Bool) → bytes_eq t.name name ≡ b → b ≡ false
      apart true same = absurd (differ.0 (sym ((bytes_eq-Decides t.name name).0 same)))
      apart false same = refl

  topics_put : (ts : List Topic) (old : Option Content) → Apart (map (λ t. t.name) ts) → put_at name p (kept_of ts) old ≡ option_or (at name p ts) old
  unfolding put_at
  topics_put [] old apart = refl
  topics_put (t ∷ ts) old apart =
      put_append name p (partitions_of t.name 0 t.partitions) (kept_of ts) old ∙ by (bytes_eq t.name name) refl (topics_put ts old apart.1)
    where
      by : (b : Bool) → bytes_eq t.name name ≡ b → put_at name p (kept_of ts) old ≡ option_or (at name p ts) old
          → put_at name p (kept_of ts) (put_at name p (partitions_of t.name 0 t.partitions) old)
          ≡ option_or (option_and_then (partition_of p) (cond b (Some t) (find (λ u. bytes_eq u.name name) ts))) old
      by true same rest =
          let here : t.name ≡ name = (bytes_eq-Decides t.name name).0 same in
          none_put ts (put_at name p (partitions_of t.name 0 t.partitions) old) (subst (λ (n : List ℕ). DifferFrom n (map (λ u. u.name) ts)) here apart.0)
          ∙ ap (λ (n : List ℕ). put_at name p (partitions_of n 0 t.partitions) old) here
          ∙ own_put name p 0 t.partitions old
          ∙ ap (λ (o : Option Content). option_or o old) (by_number name p t)
      by false same rest = ap (put_at name p (kept_of ts)) (other_put name p t.name 0 t.partitions old same) ∙ rest

-- a partition has what was kept of it, or else what it had
pub restored_at : (s after : State) (ts : List Topic) (next : ℤ) (name : List ℕ) (p : ℤ) → Apart (map (λ t. t.name) ts) → AllByRecursion (IsTaken s) (kept_of ts)
    → after ≡ with_next_id (with_kept s (kept_of ts)) next → partition_at after name p ≡ option_or (at name p ts) (partition_at s name p)
restored_at s after ts next name p apart taken made =
    ap (λ (x : State). partition_at x name p) made
    ∙ all_put name p (kept_of ts) s taken
    ∙ topics_put name p ts (partition_at s name p) apart

-- ---- a new broker has nothing

empty_of : (n m : ℕ) → IsEmptyThere (slice_get (replicate n empty) m)
empty_of zero m = tt
empty_of (suc n) zero = refl
empty_of (suc n) (suc m) = empty_of n m

empty_part : (p : ℤ) (o : Option TopicConfig) → IsEmptyThere (option_and_then (partition_of p) (option_map new_topic o))
empty_part p None = tt
empty_part (pos n) (Some t) = empty_of t.partitions n
empty_part (negsuc n) (Some t) = tt

new_is_empty : (g : ConfigValue) (name : List ℕ) (p : ℤ) → IsEmptyThere (partition_at (new_state g) name p)
new_is_empty g name p =
    subst (λ (o : Option Topic). IsEmptyThere (option_and_then (partition_of p) o)) (sym (find_map new_topic (λ (t : Topic). bytes_eq t.name name) (all_topics g)))
    (empty_part p (find (λ (t : TopicConfig). bytes_eq t.name name) (all_topics g)))

-- ---- it holds more

pub held_elsewhere : (g : ConfigValue) (s after : State) → Apart (map (λ t. t.name) s.topics) → AllByRecursion (IsTaken (new_state g)) (kept_of s.topics)
    → after ≡ with_next_id (with_kept (new_state g) (kept_of s.topics)) s.next_producer → s.config.role ≡ after.config.role → HoldsMore s after
held_elsewhere g s after apart taken made role = record {
  role = role;
  next_producer = sym (ap (λ (x : State). x.next_producer) made);
  contents = λ name p. by name p (partition_at s name p) (partition_at after name p) (restored_at (new_state g) after s.topics s.next_producer name p apart taken made);
}
  where
    by : (name : List ℕ) (p : ℤ) (o now : Option Content) → now ≡ option_or o (partition_at (new_state g) name p) → MatchOption o (IsEmptyThere now) (λ c. now ≡ Some c)
    by name p None now is = subst IsEmptyThere (sym is) (new_is_empty g name p)
    by name p (Some c) now is = is

-- ---- it holds the same

same_known : {X Y : Type 0} (xs : List X) (ys : List Y) (n : ℕ) → length xs ≡ length ys → is_some (slice_get xs n) ≡ is_some (slice_get ys n)
same_known [] [] n len = refl
same_known [] (y ∷ ys) n len = absurd (omega (arith, len))
same_known (x ∷ xs) [] n len = absurd (omega (arith, len))
same_known (x ∷ xs) (y ∷ ys) zero len = refl
same_known (x ∷ xs) (y ∷ ys) (suc n) len = same_known xs ys n (omega (arith, len))

known_in : (p : ℤ) (t u : Topic) → length t.partitions ≡ length u.partitions → is_some (partition_of p t) ≡ is_some (partition_of p u)
known_in (pos n) t u len = same_known t.partitions u.partitions n len
known_in (negsuc n) t u len = refl

known_by_shape : (name : List ℕ) (p : ℤ) (ts us : List Topic) → map shape_of ts ≡ map shape_of us → is_some (at name p ts) ≡ is_some (at name p us)
known_by_shape name p [] [] same = refl
known_by_shape name p [] (u ∷ us) same = absurd cc
known_by_shape name p (t ∷ ts) [] same = absurd cc
known_by_shape name p (t ∷ ts) (u ∷ us) same =
    let heads : shape_of t ≡ shape_of u = cc in
    let others : map shape_of ts ≡ map shape_of us = cc in
    let names : t.name ≡ u.name = ap (λ (g : TopicConfig). g.name) heads in
    let lengths : length t.partitions ≡ length u.partitions = ap (λ (g : TopicConfig). g.partitions) heads in
    by (bytes_eq t.name name) (known_in p t u lengths) (known_by_shape name p ts us others)
    ∙ ap (λ (n : List ℕ). is_some (option_and_then (partition_of p) (cond (bytes_eq n name) (Some u) (find (λ x. bytes_eq x.name name) us)))) names
  where
    by : (b : Bool) → is_some (partition_of p t) ≡ is_some (partition_of p u) → is_some (at name p ts) ≡ is_some (at name p us)
        → is_some (option_and_then (partition_of p) (cond b (Some t) (find (λ x. bytes_eq x.name name) ts))) ≡ is_some (option_and_then (partition_of p) (cond b (Some u) (find (λ x. bytes_eq x.name name) us)))
    by true here others = here
    by false here others = others

length_of : (n : ℕ) → length (replicate n empty) ≡ n
length_of zero = refl
length_of (suc n) = ap suc (length_of n)

shapes_of_new : (ts : List TopicConfig) → map shape_of (map new_topic ts) ≡ ts
shapes_of_new [] = refl
shapes_of_new (t ∷ ts) = λ i. record { name = t.name; partitions = length_of t.partitions i } ∷ shapes_of_new ts i

no_content : (o now : Option Content) → is_some o ≡ is_some now → o ≡ None → now ≡ None
no_content None None same none = refl
no_content None (Some c) same none = absurd cc
no_content (Some c) now same none = absurd cc

pub same_elsewhere : (g : ConfigValue) (s after : State) → map shape_of s.topics ≡ all_topics s.config → Apart (map (λ t. t.name) s.topics)
    → AllByRecursion (IsTaken (new_state g)) (kept_of s.topics) → after ≡ with_next_id (with_kept (new_state g) (kept_of s.topics)) s.next_producer
    → s.config.role ≡ after.config.role → AskForTheSame g s.config → HoldTheSame s after
same_elsewhere g s after shapes apart taken made role asked = record {
  role = role;
  next_producer = sym (ap (λ (x : State). x.next_producer) made);
  contents = λ name p. by name p (partition_at s name p) refl (restored_at (new_state g) after s.topics s.next_producer name p apart taken made);
}
  where
    alike : (name : List ℕ) (p : ℤ) → is_some (partition_at s name p) ≡ is_some (partition_at (new_state g) name p)
    alike name p =
        known_by_shape name p s.topics (new_state s.config).topics (shapes ∙ sym (shapes_of_new (all_topics s.config)))
        ∙ sym (ap is_some ((begin_alike g s.config asked).contents name p))

    by : (name : List ℕ) (p : ℤ) (o : Option Content) → partition_at s name p ≡ o → partition_at after name p ≡ option_or (partition_at s name p) (partition_at (new_state g) name p)
        → o ≡ partition_at after name p
    by name p None is made_is =
        sym (made_is ∙ ap (λ (x : Option Content). option_or x (partition_at (new_state g) name p)) is ∙ no_content (partition_at s name p) (partition_at (new_state g) name p) (alike name p) is)
    by name p (Some c) is made_is = sym (made_is ∙ ap (λ (x : Option Content). option_or x (partition_at (new_state g) name p)) is)
