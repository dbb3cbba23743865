-- The parts of a file, as they are written one after the other.
use Rattle.std.proofs.Common.{◌≡◌, ℕ, suc, ℤ, List, [], ◌∷◌, ◌++◌, length, slice_index_or, Result, Ok, Err, refl, sym, ap, ◌∙◌, append_assoc, append-nil}
use Rattle.std.specs.Prelude.{pos, map, OnOk}
use Rattle.std.specs.List.{flat_map}
use Rattle.std.specs.Int.{w32, cast_signed}
use Rattle.frame_fields.specs.Fields.{size8, size16, size32, size64, be, counted, elements, encoded}
use Rattle.responses.specs.Responses.{count_bytes}
use Rattle.cleaning_marks.specs.declared.numbers.MarkNumbers.{MarkNumbers}
use Rattle.cleaning_marks.specs.declared.numbers.OneMark.{OneMark}
use Rattle.cleaning_marks.specs.declared.place.JournalPlace.{JournalPlace}
use Rattle.cleaning_marks.specs.declared.writing.PartitionMarks.{PartitionMarks}
use Rattle.cleaning_marks.specs.declared.layout.TheConstants.{MARK, VERSION}
use Rattle.cleaning_marks.specs.Files.{MarksSaid, as_int64, covered, entry_fields, entry_value, entry_with, file_with, kept_of, marks_bytes, marks_fields, marks_value, numbers_of, part_value, signed_crc, start_of}

-- what is appended behind what was appended
two : (old p q a b : List ℕ) → a ≡ old ++ p → b ≡ a ++ q → b ≡ old ++ (p ++ q)
two old p q a b one other = other ∙ ap (λ (x : List ℕ). x ++ q) one ∙ append_assoc old p q

module _ {E : Type 0} (r : Result (Unit {0}) E) where
  pub three_put : (old p q s a b new : List ℕ) → a ≡ old ++ p → b ≡ a ++ q → OnOk r (new ≡ b ++ s) → OnOk r (new ≡ old ++ (p ++ (q ++ s)))
  three_put old p q s a b new one other last = by r last where
    by : (r : Result (Unit {0}) E) → OnOk r (new ≡ b ++ s) → OnOk r (new ≡ old ++ (p ++ (q ++ s)))
    by (Err e) last = tt
    by (Ok x) last = two old p (q ++ s) a new one (two a q s b new other last)

  pub four_put : (old p q s t a b c new : List ℕ) → a ≡ old ++ p → b ≡ a ++ q → c ≡ b ++ s → OnOk r (new ≡ c ++ t) → OnOk r (new ≡ old ++ (p ++ (q ++ (s ++ t))))
  four_put old p q s t a b c new one other third last = by r last where
    by : (r : Result (Unit {0}) E) → OnOk r (new ≡ c ++ t) → OnOk r (new ≡ old ++ (p ++ (q ++ (s ++ t))))
    by (Err e) last = tt
    by (Ok x) last = two old p (q ++ (s ++ t)) a new one (two a q (s ++ t) b new other (two b s t c new third last))

  pub five_put : (old p q s t u a b c d new : List ℕ) → a ≡ old ++ p → b ≡ a ++ q → c ≡ b ++ s → d ≡ c ++ t → OnOk r (new ≡ d ++ u)
      → OnOk r (new ≡ old ++ (p ++ (q ++ (s ++ (t ++ u)))))
  five_put old p q s t u a b c d new one other third fourth last = by r last where
    by : (r : Result (Unit {0}) E) → OnOk r (new ≡ d ++ u) → OnOk r (new ≡ old ++ (p ++ (q ++ (s ++ (t ++ u)))))
    by (Err e) last = tt
    by (Ok x) last = two old p (q ++ (s ++ (t ++ u))) a new one (two a q (s ++ (t ++ u)) b new other (two b s (t ++ u) c new third (two c t u d new fourth last)))

-- ---- a partition

abbrev mark_part : OneMark → List ℕ
mark_part r = be size8 r.there ++ (be size64 r.upto ++ be size64 r.ended)

abbrev rest_part : MarkNumbers → List ℕ
rest_part n = be size64 n.used ++ (be size64 n.reached ++ (be size64 n.began ++ be size64 n.size))

entry_is : (topic : List ℕ) (partition : ℤ) (n : MarkNumbers)
    → counted size16 (length topic) topic ++ (be size32 partition ++ (mark_part n.older ++ (mark_part n.newest ++ rest_part n))) ≡ encoded entry_fields (entry_with topic partition n)
unfolding encoded
entry_is topic partition n =
    ap (λ (x : List ℕ). counted size16 (length topic) topic ++ (be size32 partition ++ x))
    (three (be size8 n.older.there) (be size64 n.older.upto) (be size64 n.older.ended) (mark_part n.newest ++ rest_part n)
    ∙ ap (λ (x : List ℕ). be size8 n.older.there ++ (be size64 n.older.upto ++ (be size64 n.older.ended ++ x)))
    (three (be size8 n.newest.there) (be size64 n.newest.upto) (be size64 n.newest.ended) (rest_part n)
    ∙ ap (λ (x : List ℕ). be size8 n.newest.there ++ (be size64 n.newest.upto ++ (be size64 n.newest.ended ++ (be size64 n.used ++ (be size64 n.reached ++ (be size64 n.began ++ x))))))
    (sym (append-nil (be size64 n.size)))))
  where
    three : (a b c d : List ℕ) → (a ++ (b ++ c)) ++ d ≡ a ++ (b ++ (c ++ d))
    three a b c d = append_assoc a (b ++ c) d ∙ ap (λ (x : List ℕ). a ++ x) (append_assoc b c d)

pub entry_put : {E : Type 0} (r : Result (Unit {0}) E) (one : PartitionMarks) (n : MarkNumbers) (old a b c d new : List ℕ) → n ≡ numbers_of one.marks
    → a ≡ old ++ counted size16 (length one.topic.now) one.topic.now → b ≡ a ++ be size32 one.partition
    → c ≡ b ++ (be size8 n.older.there ++ (be size64 n.older.upto ++ be size64 n.older.ended))
    → d ≡ c ++ (be size8 n.newest.there ++ (be size64 n.newest.upto ++ be size64 n.newest.ended))
    → OnOk r (new ≡ d ++ (be size64 n.used ++ (be size64 n.reached ++ (be size64 n.began ++ be size64 n.size))))
    → OnOk r (new ≡ old ++ encoded entry_fields (part_value one))
unfolding part_value
entry_put (Err e) one n old a b c d new is p q s t u = tt
entry_put (Ok x) one n old a b c d new is p q s t u =
    two old (counted size16 (length one.topic.now) one.topic.now) (be size32 one.partition ++ (mark_part n.older ++ (mark_part n.newest ++ rest_part n))) a new p
    (two a (be size32 one.partition) (mark_part n.older ++ (mark_part n.newest ++ rest_part n)) b new q
    (two b (mark_part n.older) (mark_part n.newest ++ rest_part n) c new s (two c (mark_part n.newest) (rest_part n) d new t u)))
    ∙ ap (λ (y : List ℕ). old ++ y) (entry_is one.topic.now one.partition n)
    ∙ ap (λ (m : MarkNumbers). old ++ encoded entry_fields (entry_with one.topic.now one.partition m)) is

-- ---- partitions

count_is : (ps : List PartitionMarks) → length (map part_value ps) ≡ length ps
count_is [] = refl
count_is (p ∷ ps) = ap suc (count_is ps)

pub entries_begun : (ps : List PartitionMarks) (old mid : List ℕ) (count : ℕ) → count ≡ length ps → mid ≡ old ++ count_bytes count
    → mid ++ flat_map (encoded entry_fields) (map part_value ps) ≡ old ++ elements (encoded entry_fields) (map part_value ps)
unfolding encoded
entries_begun ps old mid count same first =
    ap (λ (x : List ℕ). x ++ flat_map (encoded entry_fields) (map part_value ps)) (first ∙ ap (λ (x : List ℕ). old ++ x) (append-nil (be size32 (pos count))))
    ∙ append_assoc old (be size32 (pos count)) (flat_map (encoded entry_fields) (map part_value ps))
    ∙ ap (λ (n : ℕ). old ++ (be size32 (pos n) ++ flat_map (encoded entry_fields) (map part_value ps))) (same ∙ sym (count_is ps))

pub entries_done : (old new all : List ℕ) → new ++ [] ≡ all → new ≡ all
entries_done old new all is = sym (append-nil new) ∙ is

-- ---- all fields

parts_are : (ps : List PartitionMarks) → map part_value ps ≡ map entry_value (map kept_of ps)
unfolding part_value
parts_are [] = refl
parts_are (p ∷ ps) = ap (λ vs. part_value p ∷ vs) (parts_are ps)

pub fields_put : {E : Type 0} (r : Result (Unit {0}) E) (p : JournalPlace) (ps : List PartitionMarks) (old mid new : List ℕ)
    → mid ≡ old ++ (be size64 (as_int64 p.number) ++ (be size64 p.key ++ (be size64 (as_int64 p.size) ++ (be size64 (as_int64 p.group_at) ++ be size32 (cast_signed w32 p.group_crc)))))
    → OnOk r (new ≡ mid ++ elements (encoded entry_fields) (map part_value ps))
    → OnOk r (new ≡ old ++ encoded marks_fields (marks_value (record { place = p; partitions = map kept_of ps })))
unfolding encoded
fields_put (Err e) p ps old mid new first others = tt
fields_put (Ok x) p ps old mid new first others =
    two old (a ++ (b ++ (c ++ (d ++ e)))) all mid new first others
    ∙ ap (λ (y : List ℕ). old ++ y)
    (append_assoc a (b ++ (c ++ (d ++ e))) all
    ∙ ap (λ (y : List ℕ). a ++ y) (append_assoc b (c ++ (d ++ e)) all
    ∙ ap (λ (y : List ℕ). b ++ y) (append_assoc c (d ++ e) all
    ∙ ap (λ (y : List ℕ). c ++ y) (append_assoc d e all ∙ ap (λ (y : List ℕ). d ++ (e ++ y)) (sym (append-nil all)
    ∙ ap (λ vs. elements (encoded entry_fields) vs ++ []) (parts_are ps))))))
  where
    a : List ℕ
    a = be size64 (as_int64 p.number)

    b : List ℕ
    b = be size64 p.key

    c : List ℕ
    c = be size64 (as_int64 p.size)

    d : List ℕ
    d = be size64 (as_int64 p.group_at)

    e : List ℕ
    e = be size32 (cast_signed w32 p.group_crc)

    all : List ℕ
    all = elements (encoded entry_fields) (map part_value ps)

-- ---- the start

-- byte for byte, of its parts
pub start_put : (crc mark version : List ℕ) (told : ℤ) (fields : List ℕ) → told ≡ signed_crc (covered fields) → crc ≡ be size32 told → mark ≡ be size32 MARK → version ≡ be size16 VERSION
    → slice_index_or crc 0 0 ∷ slice_index_or crc 1 0 ∷ slice_index_or crc 2 0 ∷ slice_index_or crc 3 0
    ∷ slice_index_or mark 0 0 ∷ slice_index_or mark 1 0 ∷ slice_index_or mark 2 0 ∷ slice_index_or mark 3 0
    ∷ slice_index_or version 0 0 ∷ slice_index_or version 1 0 ∷ [] ≡ start_of fields
unfolding start_of
start_put crc mark version told fields is one two three = rw (one, two, three, is) refl

-- ---- the whole

pub file_put : {E : Type 0} (r : Result (Unit {0}) E) (s : MarksSaid) (fields start old mid new : List ℕ) → fields ≡ encoded marks_fields (marks_value s) → start ≡ start_of fields
    → mid ≡ old ++ start → OnOk r (new ≡ mid ++ fields) → OnOk r (new ≡ old ++ marks_bytes s)
file_put (Err e) s fields start old mid new whole is first others = tt
file_put (Ok x) s fields start old mid new whole is first others =
    two old start fields mid new first others ∙ ap (λ (y : List ℕ). old ++ (y ++ fields)) is ∙ ap (λ (y : List ℕ). old ++ file_with y) whole
