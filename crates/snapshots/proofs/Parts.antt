-- The parts of a head, as they are written one after the other.
use Rattle.std.proofs.Common.{◌≡◌, ℕ, suc, ℤ, List, [], ◌∷◌, ◌++◌, length, slice_index_or, Result, Ok, Err, Some, refl, sym, ap, ◌∙◌, append_assoc, append-nil}
use Rattle.std.specs.Prelude.{pos, map, OnOk}
use Rattle.std.specs.List.{flat_map}
use Rattle.frame_fields.specs.Fields.{Value, size16, size32, size64, be, counted, elements, encoded, end}
use Rattle.frame_fields.specs.Types.{int64, topic, ◌⨾◌}
use Rattle.frame_fields.specs.Reading.{nothing}
use Rattle.responses.specs.Responses.{count_bytes, topic_head}
use Rattle.snapshots.specs.declared.writing.SnapshotTopic.{SnapshotTopic}
use Rattle.snapshots.specs.declared.writing.SnapshotNumbers.{SnapshotNumbers}
use Rattle.snapshots.specs.declared.layout.TheConstants.{MARK, VERSION}
use Rattle.snapshots.specs.Heads.{covered, front_of, head_bytes, partition_fields, signed_crc, snapshot_fields, start_of}
use Rattle.snapshots.specs.Writing.{fields_value, topic_value}

-- ---- a topic

sizes_are : (zs : List ℤ) → flat_map (encoded (int64 ⨾ end)) (map (λ z. (z, nothing)) zs) ≡ flat_map (be size64) zs
unfolding encoded
sizes_are [] = refl
sizes_are (z ∷ zs) = (λ i. append-nil (be size64 z) i ++ sizes_are zs i)

abbrev sizes_values : List ℤ → List (Value partition_fields)
sizes_values zs = map (λ z. (z, nothing)) zs

sizes_count : (zs : List ℤ) → length (sizes_values zs) ≡ length zs
sizes_count [] = refl
sizes_count (z ∷ zs) = ap suc (sizes_count zs)

topics_count : (ts : List SnapshotTopic) → length (map topic_value ts) ≡ length ts
topics_count [] = refl
topics_count (t ∷ ts) = ap suc (topics_count ts)

topic_is : (name : List ℕ) (zs : List ℤ) (count : ℕ) → count ≡ length zs → topic_head name count ++ flat_map (be size64) zs ≡ encoded (topic partition_fields) (name, (map (λ z. (z, nothing)) zs, nothing))
unfolding encoded
topic_is name zs count same =
    ap (λ (x : List ℕ). (counted size16 (length name) name ++ x) ++ flat_map (be size64) zs) (append-nil (be size32 (pos count)))
    ∙ append_assoc (counted size16 (length name) name) (be size32 (pos count)) (flat_map (be size64) zs)
    ∙ ap (λ (x : List ℕ). counted size16 (length name) name ++ x)
    ((λ i. be size32 (pos (counts i)) ++ sym (sizes_are zs) i) ∙ sym (append-nil (elements (encoded (int64 ⨾ end)) (map (λ z. (z, nothing)) zs))))
  where
    counts : count ≡ length (sizes_values zs)
    counts = same ∙ sym (sizes_count zs)

pub topic_put : {E : Type 0} (r : Result (Unit {0}) E) (t : SnapshotTopic) (old mid new : List ℕ) (count : ℕ) → count ≡ length t.sizes.now → mid ≡ old ++ topic_head t.name.now count → OnOk r (new ≡ mid ++ flat_map (be size64) t.sizes.now)
    → OnOk r (new ≡ old ++ encoded (topic partition_fields) (topic_value t))
topic_put (Err e) t old mid new count same first others = tt
topic_put (Ok x) t old mid new count same first others =
    others ∙ ap (λ (x : List ℕ). x ++ flat_map (be size64) t.sizes.now) first ∙ append_assoc old (topic_head t.name.now count) (flat_map (be size64) t.sizes.now)
    ∙ ap (λ (x : List ℕ). old ++ x) (topic_is t.name.now t.sizes.now count same)

-- ---- topics

pub topics_begun : (ts : List SnapshotTopic) (old mid : List ℕ) (count : ℕ) → count ≡ length ts → mid ≡ old ++ count_bytes count
    → mid ++ flat_map (encoded (topic partition_fields)) (map topic_value ts) ≡ old ++ elements (encoded (topic partition_fields)) (map topic_value ts)
unfolding encoded
topics_begun ts old mid count same first =
    ap (λ (x : List ℕ). x ++ flat_map (encoded (topic partition_fields)) (map topic_value ts)) (first ∙ ap (λ (x : List ℕ). old ++ x) (append-nil (be size32 (pos count))))
    ∙ append_assoc old (be size32 (pos count)) (flat_map (encoded (topic partition_fields)) (map topic_value ts))
    ∙ ap (λ (n : ℕ). old ++ (be size32 (pos n) ++ flat_map (encoded (topic partition_fields)) (map topic_value ts))) (same ∙ sym (topics_count ts))

pub topics_done : (old new all : List ℕ) → new ++ [] ≡ all → new ≡ all
topics_done old new all is = sym (append-nil new) ∙ is

-- ---- the fields

in_a_row : (old p q r s all a b c d : List ℕ) → a ≡ old ++ p → b ≡ a ++ q → c ≡ b ++ r → d ≡ c ++ s → d ++ all ≡ old ++ (p ++ (q ++ (r ++ (s ++ all))))
in_a_row old p q r s all a b c d one two three four =
    ap (λ (x : List ℕ). x ++ all) four ∙ append_assoc c s all
    ∙ (ap (λ (x : List ℕ). x ++ (s ++ all)) three ∙ append_assoc b r (s ++ all))
    ∙ (ap (λ (x : List ℕ). x ++ (r ++ (s ++ all))) two ∙ append_assoc a q (r ++ (s ++ all)))
    ∙ (ap (λ (x : List ℕ). x ++ (q ++ (r ++ (s ++ all)))) one ∙ append_assoc old p (q ++ (r ++ (s ++ all))))

pub fields_put : {E : Type 0} (r : Result (Unit {0}) E) (n : SnapshotNumbers) (ts : List SnapshotTopic) (old a b c d new : List ℕ) → a ≡ old ++ be size64 n.id.number → b ≡ a ++ be size16 n.role → c ≡ b ++ be size64 n.first_producer → d ≡ c ++ be size64 n.next_producer
    → OnOk r (new ≡ d ++ elements (encoded (topic partition_fields)) (map topic_value ts)) → OnOk r (new ≡ old ++ encoded snapshot_fields (fields_value n ts))
unfolding encoded
fields_put (Err e) n ts old a b c d new one two three four five = tt
fields_put (Ok x) n ts old a b c d new one two three four five = five ∙ (in_a_row old (be size64 n.id.number) (be size16 n.role) (be size64 n.first_producer) (be size64 n.next_producer) all a b c d one two three four ∙ ap (λ (y : List ℕ). old ++ y) whole)
  where
    all : List ℕ
    all = elements (encoded (topic partition_fields)) (map topic_value ts)

    whole : be size64 n.id.number ++ (be size16 n.role ++ (be size64 n.first_producer ++ (be size64 n.next_producer ++ all))) ≡ encoded snapshot_fields (fields_value n ts)
    whole = ap (λ (y : List ℕ). be size64 n.id.number ++ (be size16 n.role ++ (be size64 n.first_producer ++ (be size64 n.next_producer ++ y)))) (sym (append-nil all))

-- ---- the front

-- byte for byte, of its parts
pub start_put : (crc mark version : List ℕ) (told key : ℤ) (fields : List ℕ) → told ≡ signed_crc (covered (Some key) fields) → crc ≡ be size32 told → mark ≡ be size32 MARK → version ≡ be size16 VERSION
    → slice_index_or crc 0 0 ∷ slice_index_or crc 1 0 ∷ slice_index_or crc 2 0 ∷ slice_index_or crc 3 0
    ∷ slice_index_or mark 0 0 ∷ slice_index_or mark 1 0 ∷ slice_index_or mark 2 0 ∷ slice_index_or mark 3 0
    ∷ slice_index_or version 0 0 ∷ slice_index_or version 1 0 ∷ [] ≡ start_of (Some key) fields
unfolding start_of
start_put crc mark version told key fields is one two three = rw (one, two, three, is) refl

pub front_put : (start key size : List ℕ) (own : ℤ) (fields : List ℕ) → start ≡ start_of (Some own) fields → key ≡ be size64 own → size ≡ be size32 (pos (length fields))
    → slice_index_or start 0 0 ∷ slice_index_or start 1 0 ∷ slice_index_or start 2 0 ∷ slice_index_or start 3 0 ∷ slice_index_or start 4 0 ∷ slice_index_or start 5 0 ∷ slice_index_or start 6 0 ∷ slice_index_or start 7 0 ∷ slice_index_or start 8 0 ∷ slice_index_or start 9 0
    ∷ slice_index_or key 0 0 ∷ slice_index_or key 1 0 ∷ slice_index_or key 2 0 ∷ slice_index_or key 3 0 ∷ slice_index_or key 4 0 ∷ slice_index_or key 5 0 ∷ slice_index_or key 6 0 ∷ slice_index_or key 7 0
    ∷ slice_index_or size 0 0 ∷ slice_index_or size 1 0 ∷ slice_index_or size 2 0 ∷ slice_index_or size 3 0 ∷ [] ≡ front_of (Some own) fields
unfolding front_of start_of
front_put start key size own fields one two three = rw (one, two, three) refl

-- ---- the whole

pub head_put : {E : Type 0} (r : Result (Unit {0}) E) (n : SnapshotNumbers) (ts : List SnapshotTopic) (fields front old mid new : List ℕ) → fields ≡ encoded snapshot_fields (fields_value n ts) → front ≡ front_of (Some n.id.key) fields → mid ≡ old ++ front → OnOk r (new ≡ mid ++ fields)
    → OnOk r (new ≡ old ++ head_bytes (Some n.id.key) (fields_value n ts))
head_put (Err e) n ts fields front old mid new whole is first others = tt
head_put (Ok x) n ts fields front old mid new whole is first others =
    others ∙ ap (λ (x : List ℕ). x ++ fields) (first ∙ ap (λ (x : List ℕ). old ++ x) is) ∙ append_assoc old (front_of (Some n.id.key) fields) fields
    ∙ ap (λ (x : List ℕ). old ++ (front_of (Some n.id.key) x ++ x)) whole
