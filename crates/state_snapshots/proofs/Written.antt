-- The parts of a snapshot, as they are written one after the other.
use Rattle.std.proofs.Common.{◌≡◌, ℕ, zero, suc, ◌+◌, ◌<◌, ◌≤◌, ℤ, pos, List, [], ◌∷◌, ◌++◌, length, drop, get_or, Bool, Option, Some, None, refl, sym, ap, subst, ◌∙◌, append_assoc, append-nil, arith}
use Rattle.std.specs.Prelude.{map, slice_get}
use Rattle.std.specs.List.{flat_map, AllByRecursion}
use Rattle.std.specs.Io.KnownBytes.{append_known}
use Rattle.std.proofs.lemmas.List.{drop_more, length-map, map-append}
use Rattle.std.proofs.lemmas.Option.{slice_get_within, get_or_from_slice_get}
use Rattle.std.proofs.Math.ListN.{drop_of_length-le}
use Rattle.frame_fields.specs.Reading.{nothing}
use Rattle.content.specs.Content.{Content}
use Rattle.copy_images.specs.Images.{image_of}
use Rattle.broker_state.specs.State.{Topic, State}
use Rattle.broker_state.specs.Parts.{TopicParts, topic_contents}
use Rattle.snapshots.specs.declared.writing.SnapshotTopic.{SnapshotTopic}
use Rattle.snapshots.specs.declared.writing.SnapshotNumbers.{SnapshotNumbers}
use Rattle.snapshots.specs.declared.writing.SnapshotId.{SnapshotId}
use Rattle.snapshots.specs.Heads.{head_bytes}
use Rattle.snapshots.specs.Writing.{fields_value, topic_value}
use Rattle.state_snapshots.specs.Snapshots.{role_number, image_sizes, topic_said, state_head, state_said, topic_images, images_of, IsCounted, IsCountedTopic}
use Rattle.state_snapshots.specs.declared.error.WriteError.{WriteError}
use Rattle.state_snapshots.specs.declared.error.WriteError.TheVariants.{OutOfMemory, OnDisk}
use Rattle.state_snapshots.specs.Writing.{HasWritten, StopsWriting}

-- the element of an index stands at the front of what is left
drop_at : {X : Type 0} (xs : List X) (i : ℕ) (x : X) → slice_get xs i ≡ Some x → drop i xs ≡ x ∷ drop (i + 1) xs
drop_at {X = X} xs i x there = drop_more xs i x (slice_get_within xs i x there) ∙ ap (λ (y : X). y ∷ drop (i + 1) xs) (get_or_from_slice_get xs i x x there)

drop_here : {X : Type 0} (xs : List X) (i : ℕ) (x : X) → i < length xs → x ≡ get_or xs i x → drop i xs ≡ x ∷ drop (i + 1) xs
drop_here {X = X} xs i x low at = drop_more xs i x low ∙ ap (λ (y : X). y ∷ drop (i + 1) xs) (sym at)

-- ---- sizes

abbrev pub sizes : List Content → List ℤ
sizes cs = map (λ c. pos (length (image_of c))) cs

pub one_size_more : (cs : List Content) (i : ℕ) (c : Content) (z : ℤ) (zs new : List ℤ) → slice_get cs i ≡ Some c → z ≡ pos (length (image_of c)) → new ≡ zs ++ z ∷ [] → zs ++ sizes (drop i cs) ≡ sizes cs
    → new ++ sizes (drop (i + 1) cs) ≡ sizes cs
one_size_more cs i c z zs new there is made so_far =
    ap (λ (xs : List ℤ). xs ++ sizes (drop (i + 1) cs)) made ∙ append_assoc zs (z ∷ []) (sizes (drop (i + 1) cs))
    ∙ ap (λ (y : ℤ). zs ++ y ∷ sizes (drop (i + 1) cs)) is ∙ ap (λ (xs : List Content). zs ++ sizes xs) (sym (drop_at cs i c there)) ∙ so_far

-- each of them has a property, and one more
pub all_more : (P : ℤ → Type 0) (old new : List ℤ) (z z' : ℤ) → new ≡ old ++ z' ∷ [] → z' ≡ z → P z → AllByRecursion P old → AllByRecursion P new
all_more P old new z z' made same holds all = subst (AllByRecursion P) (sym made) (all_append old all)
  where
    all_append : (xs : List ℤ) → AllByRecursion P xs → AllByRecursion P (xs ++ z' ∷ [])
    all_append [] each = (subst P (sym same) holds, tt)
    all_append (x ∷ xs) each = (each.0, all_append xs each.1)

pub all_done : {X Y : Type 0} (f : X → Y) (xs : List X) (n : ℕ) (ys : List Y) → length xs ≤ n → ys ++ map f (drop n xs) ≡ map f xs → ys ≡ map f xs
all_done {X = X} f xs n ys all so_far =
    sym (append-nil ys) ∙ ap (λ (rest : List X). ys ++ map f rest) (sym (drop_of_length-le xs all)) ∙ so_far

-- one more of what is made of a list
pub one_more : {X Y Z : Type 0} (f : X → Y) (g : Z → Y) (xs : List X) (i : ℕ) (x : X) (z : Z) (zs new : List Z) → i < length xs → x ≡ get_or xs i x → g z ≡ f x → new ≡ zs ++ z ∷ []
    → map g zs ++ map f (drop i xs) ≡ map f xs → map g new ++ map f (drop (i + 1) xs) ≡ map f xs
one_more {X = X} {Y = Y} {Z = Z} f g xs i x z zs new low at is made so_far =
    ap (λ (ys : List Z). map g ys ++ map f (drop (i + 1) xs)) made
    ∙ ap (λ (ys : List Y). ys ++ map f (drop (i + 1) xs)) (map-append g zs (z ∷ []))
    ∙ append_assoc (map g zs) (g z ∷ []) (map f (drop (i + 1) xs))
    ∙ ap (λ (y : Y). map g zs ++ y ∷ map f (drop (i + 1) xs)) is
    ∙ ap (λ (ys : List X). map g zs ++ map f ys) (sym (drop_here xs i x low at)) ∙ so_far

-- two lists that are the same by what they are mapped to are the same so at each index
pub same_at : {X Y Z : Type 0} (f : X → Z) (g : Y → Z) (xs : List X) (ys : List Y) (i : ℕ) (x : X) (y : Y) → map f xs ≡ map g ys → i < length xs → x ≡ get_or xs i x → y ≡ get_or ys i y → f x ≡ g y
same_at f g [] ys i x y same low at there = absurd (omega (arith, low))
same_at f g (a ∷ xs) [] i x y same low at there = absurd cc
same_at f g (a ∷ xs) (b ∷ ys) zero x y same low at there =
    let heads : f a ≡ g b = cc in ap f at ∙ heads ∙ sym (ap g there)
same_at f g (a ∷ xs) (b ∷ ys) (suc i) x y same low at there =
    let tails : map f xs ≡ map g ys = cc in same_at f g xs ys i x y tails (omega (arith, low)) at there

pub same_length : {X Y Z : Type 0} (f : X → Z) (g : Y → Z) (xs : List X) (ys : List Y) → map f xs ≡ map g ys → length xs ≡ length ys
same_length f g xs ys same = sym (length-map xs f) ∙ ap length same ∙ length-map ys g

-- ---- the head

pub said_here : (name : List ℕ) (zs items : List ℤ) (t : Topic) → name ≡ t.name → zs ≡ items → items ≡ image_sizes t → (name, (map (λ z. (z, nothing)) zs, nothing)) ≡ topic_said t
said_here name zs items t is_name is are = λ i. (is_name i, (map (λ z. (z, nothing)) ((is ∙ are) i), nothing))

twice : {X Y Z : Type 0} (f : X → Y) (g : Y → Z) (xs : List X) → map (λ x. g (f x)) xs ≡ map g (map f xs)
twice f g [] = refl
twice {Z = Z} f g (x ∷ xs) = ap (λ (zs : List Z). g (f x) ∷ zs) (twice f g xs)

pub all_said : (rows slice : List SnapshotTopic) (ts : List TopicParts) (all : List Topic) → slice ≡ rows → map topic_value rows ≡ map (λ t. topic_said (topic_contents t)) ts → map topic_contents ts ≡ all → map topic_value slice ≡ map topic_said all
all_said rows slice ts all same said are = ap (map topic_value) same ∙ said ∙ twice topic_contents topic_said ts ∙ ap (map topic_said) are

pub head_is : (n : SnapshotNumbers) (rows : List SnapshotTopic) (id : SnapshotId) (s : State) (old new : List ℕ) → n.id ≡ id → fields_value n rows ≡ state_said id.number s → old ≡ []
    → new ≡ old ++ head_bytes (Some n.id.key) (fields_value n rows) → new ≡ state_head id s
head_is n rows id s old new is_id said none made =
    made ∙ ap (λ (xs : List ℕ). xs ++ head_bytes (Some n.id.key) (fields_value n rows)) none ∙ (λ i. head_bytes (Some (is_id i).key) (said i))

pub head_made : (n : SnapshotNumbers) (rows : List SnapshotTopic) (id : SnapshotId) (s : State) → n.id ≡ id → n.role ≡ role_number s.config.role → n.first_producer ≡ s.config.first_producer → n.next_producer ≡ s.next_producer
    → map topic_value rows ≡ map topic_said s.topics → fields_value n rows ≡ state_said id.number s
head_made n rows id s is_id is_role is_first is_next said = λ i. ((is_id i).number, (is_role i, (is_first i, (is_next i, (said i, nothing)))))

-- ---- known bytes

pub known_twice : (known : Option (List ℕ)) (a b : List ℕ) → append_known (append_known known a) b ≡ append_known known (a ++ b)
known_twice None a b = refl
known_twice (Some xs) a b = ap (λ (ys : List ℕ). Some ys) (append_assoc xs a b)

pub known_nothing : (known : Option (List ℕ)) → append_known known [] ≡ known
known_nothing None = refl
known_nothing (Some xs) = ap (λ (ys : List ℕ). Some ys) (append-nil xs)

-- ---- written part by part

pub none_written : (before : Option (List ℕ)) (all left : List ℕ) → left ≡ all → HasWritten before before all left
none_written before all left same = record { front = []; parts = same; file = sym (known_nothing before) }

pub more_written : (before old now : Option (List ℕ)) (all piece left : List ℕ) → now ≡ append_known old piece → HasWritten before old all (piece ++ left) → HasWritten before now all left
more_written before old now all piece left made so_far = record {
  front = so_far.front ++ piece;
  parts = append_assoc so_far.front piece left ∙ so_far.parts;
  file = made ∙ ap (λ (known : Option (List ℕ)). append_known known piece) so_far.file ∙ known_twice before so_far.front piece;
}

pub all_written : {X : Type 0} (F : List X → List ℕ) (before now : Option (List ℕ)) (all : List ℕ) (xs : List X) (n : ℕ) → F [] ≡ [] → length xs ≤ n → HasWritten before now all (F (drop n xs)) → now ≡ append_known before all
all_written {X = X} F before now all xs n none enough so_far =
    let nothing_left : F (drop n xs) ≡ [] = ap F (drop_of_length-le xs enough) ∙ none in
    so_far.file ∙ ap (append_known before) (sym (append-nil so_far.front) ∙ ap (λ (left : List ℕ). so_far.front ++ left) (sym nothing_left) ∙ so_far.parts)

-- what comes first, and what is to follow
pub first_written : (before now : Option (List ℕ)) (first items rest others : List ℕ) → now ≡ append_known before items → items ≡ first → rest ≡ others → HasWritten before now (first ++ others) (rest ++ [])
first_written before now first items rest others made is same = record {
  front = items;
  parts = (λ i. is i ++ append-nil rest i) ∙ ap (λ (xs : List ℕ). first ++ xs) same;
  file = made;
}

-- a part of it isn't written to its end
pub stops_within : (before old now : Option (List ℕ)) (has_failed : Bool) (all piece left : List ℕ) (e : WriteError) → HasWritten before old all (piece ++ left) → StopsWriting old now has_failed piece e → StopsWriting before now has_failed all e
stops_within before old now has_failed all piece left OutOfMemory so_far stops =
    let part = stops.1 in
    let front = so_far.front in (
      stops.0 ++ left,
      record {
        front = front ++ part.front;
        parts = append_assoc front part.front (stops.0 ++ left) ∙ ap (λ (xs : List ℕ). front ++ xs) (sym (append_assoc part.front stops.0 left) ∙ ap (λ (xs : List ℕ). xs ++ left) part.parts) ∙ so_far.parts;
        file = part.file ∙ ap (λ (known : Option (List ℕ)). append_known known part.front) so_far.file ∙ known_twice before front part.front;
      },
    )
stops_within before old now has_failed all piece left (OnDisk e) so_far stops = stops

-- what is left, with its first part
images_left : (before now : Option (List ℕ)) (all : List ℕ) (cs : List Content) (i : ℕ) (c : Content) → slice_get cs i ≡ Some c → HasWritten before now all (flat_map image_of (drop i cs))
    → HasWritten before now all (image_of c ++ flat_map image_of (drop (i + 1) cs))
images_left before now all cs i c there so_far = subst (λ (xs : List Content). HasWritten before now all (flat_map image_of xs)) (drop_at cs i c there) so_far

pub image_written : (before old now : Option (List ℕ)) (all : List ℕ) (cs : List Content) (i : ℕ) (c : Content) (sent : List ℕ) → slice_get cs i ≡ Some c → sent ≡ image_of c → now ≡ append_known old sent
    → HasWritten before old all (flat_map image_of (drop i cs)) → HasWritten before now all (flat_map image_of (drop (i + 1) cs))
image_written before old now all cs i c sent there is made so_far =
    more_written before old now all (image_of c) (flat_map image_of (drop (i + 1) cs)) (made ∙ ap (append_known old) is) (images_left before old all cs i c there so_far)

pub topics_left : (before now : Option (List ℕ)) (all : List ℕ) (ts : List TopicParts) (i : ℕ) (t : TopicParts) → i < length ts → t ≡ get_or ts i t → HasWritten before now all (images_of (map topic_contents (drop i ts)))
    → HasWritten before now all (topic_images (topic_contents t) ++ images_of (map topic_contents (drop (i + 1) ts)))
topics_left before now all ts i t low at so_far = subst (λ (us : List TopicParts). HasWritten before now all (images_of (map topic_contents us))) (drop_here ts i t low at) so_far

-- ---- what was counted

pub one_counted : (cs : List Content) (i : ℕ) (c : Content) → slice_get cs i ≡ Some c → IsCounted c → (AllByRecursion IsCounted (drop i cs) → AllByRecursion IsCounted cs) → AllByRecursion IsCounted (drop (i + 1) cs) → AllByRecursion IsCounted cs
one_counted cs i c there counted so_far rest = so_far (subst (AllByRecursion IsCounted) (sym (drop_at cs i c there)) (counted, rest))

pub topic_counted : (ts : List TopicParts) (i : ℕ) (t : TopicParts) → i < length ts → t ≡ get_or ts i t → IsCountedTopic (topic_contents t)
    → (AllByRecursion IsCountedTopic (map topic_contents (drop i ts)) → AllByRecursion IsCountedTopic (map topic_contents ts))
    → AllByRecursion IsCountedTopic (map topic_contents (drop (i + 1) ts)) → AllByRecursion IsCountedTopic (map topic_contents ts)
topic_counted ts i t low at counted so_far rest = so_far (subst (λ (us : List TopicParts). AllByRecursion IsCountedTopic (map topic_contents us)) (sym (drop_here ts i t low at)) (counted, rest))

pub all_counted : {X Y : Type 0} (P : Y → Type 0) (f : X → Y) (xs : List X) (n : ℕ) → length xs ≤ n → (AllByRecursion P (map f (drop n xs)) → AllByRecursion P (map f xs)) → AllByRecursion P (map f xs)
all_counted {X = X} P f xs n enough so_far = so_far (subst (λ (ys : List X). AllByRecursion P (map f ys)) (sym (drop_of_length-le xs enough)) tt)

-- how many partitions there are
pub counted : (t : TopicParts) (count i : ℕ) → count ≡ length t.partitions → count ≤ i → length (topic_contents t).partitions ≤ i
counted t count i is all = let same : length (topic_contents t).partitions ≡ length t.partitions = length-map t.partitions (λ p. p.content) in omega (arith, is, all, same)
