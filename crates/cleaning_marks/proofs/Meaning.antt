-- A file has one meaning, and no fault; bytes that are none have one.
use Rattle.std.proofs.Common.{◌≡◌, ℕ, ◌≤◌, ◌<◌, ℤ, List, [], ◌∷◌, Bool, true, false, ◌&&◌, Option, Some, None, Ok, Err, nat_eq, nat_lt, refl, sym, ap, subst, ◌∙◌, arith, append-nil}
use Rattle.std.specs.Prelude.{map, not, ◌^◌, FitsSigned, IfSome, Result, if◌then◌else◌}
use Rattle.std.specs.Int.{w16, w32, w64}
use Rattle.std.specs.Ordering.{int_eq}
use Rattle.std.specs.List.{list_all, AllByRecursion}
use Rattle.std.proofs.lemmas.Int.{ints, of_z-to_z}
use Rattle.std.proofs.Math.Facts.{sfits_to_z}
use Rattle.checksum.proofs.CrcShifts.{crc_of-lt}
use Rattle.frame_fields.specs.declared.error.FieldFault.TheVariants as field
use Rattle.frame_fields.specs.Fields.{Encodes, Fits, encoded}
use Rattle.frame_fields.specs.Reading.{nothing}
use Rattle.frame_fields.proofs.FieldLaws.{one_value, never_both}
use Rattle.cleaning_policy.specs.declared.values.Mark.{Mark}
use Rattle.cleaning_policy.specs.declared.values.Marks.{Marks}
use Rattle.cleaning_marks.specs.declared.layout.TheConstants.{MARK, VERSION}
use Rattle.cleaning_marks.specs.declared.error.MarksError.{MarksError}
use Rattle.cleaning_marks.specs.declared.error.MarksError.TheVariants.{Short, BadMark, BadVersion, BadCrc, BadFields, BadMarks}
use Rattle.cleaning_marks.specs.declared.believing.Unbelieved.{Unbelieved}
use Rattle.cleaning_marks.specs.declared.believing.Unbelieved.TheVariants.{OfAnotherJournal, NotReached, OfAnotherGroup}
use Rattle.cleaning_marks.specs.declared.place.GroupSeen.{GroupSeen}
use Rattle.cleaning_marks.specs.declared.place.JournalPlace.{JournalPlace}
use Rattle.cleaning_marks.specs.declared.place.JournalSeen.{JournalSeen}
use Rattle.cleaning_marks.specs.Files.{HasMarkNumbers, HasNumbers, IsMarksFile, KeptMarks, MarksSaid, covered, entry_value, is_entry, is_mark, kept_in, mark_in, mark_numbers, marks_fields, marks_in, marks_value, numbers_of, raw_said, said_by, signed_crc, start_fields, start_of}
use Rattle.cleaning_marks.specs.Faults.{HasStart, MarksFault, have_marks}
use Rattle.cleaning_marks.specs.Believing.{belief, is_group_of}

-- ---- what is written, as it is read

mark_back : (m : Option Mark) → IfSome m (λ one. one.ended < 2 ^ 64) → mark_in (mark_numbers m) ≡ m
mark_back None f = refl
mark_back (Some m) f = λ i. Some (record { upto = m.upto; ended = of_z-to_z w64 m.ended f i })

marks_back : (m : Marks) → HasMarkNumbers m → marks_in (numbers_of m) ≡ m
marks_back m f = λ i. record {
  older = mark_back m.older f.older i;
  newest = mark_back m.newest f.newest i;
  used = m.used;
  reached = m.reached;
  began = of_z-to_z w64 m.began f.began i;
  size = of_z-to_z w64 m.size f.size i;
}

partitions_back : (ks : List KeptMarks) → AllByRecursion (λ k. HasMarkNumbers k.marks) ks → map kept_in (map entry_value ks) ≡ ks
partitions_back [] f = refl
partitions_back (k ∷ ks) f = λ i. record { topic = k.topic; partition = k.partition; marks = marks_back k.marks f.0 i } ∷ partitions_back ks f.1 i

said_back : (s : MarksSaid) → HasNumbers s → said_by (raw_said (marks_value s)) ≡ s
said_back s f = λ i. record {
  place = record {
    number = of_z-to_z w64 s.place.number f.number i;
    key = s.place.key;
    size = of_z-to_z w64 s.place.size f.size i;
    group_at = of_z-to_z w64 s.place.group_at f.group_at i;
    group_crc = of_z-to_z w32 s.place.group_crc f.group_crc i;
  };
  partitions = partitions_back s.partitions f.partitions i;
}

is_mark_of : (m : Option Mark) → is_mark (mark_numbers m) ≡ true
is_mark_of None = refl
is_mark_of (Some m) = refl

both : (a b : Bool) → a ≡ true → b ≡ true → (a && b) ≡ true
both a b p q = grind arith

entries_valid : (ks : List KeptMarks) → list_all is_entry (map entry_value ks) ≡ true
entries_valid [] = refl
entries_valid (k ∷ ks) =
    let one : is_entry (entry_value k) ≡ true = both (is_mark (mark_numbers k.marks.older)) (is_mark (mark_numbers k.marks.newest)) (is_mark_of k.marks.older) (is_mark_of k.marks.newest) in
    grind (arith, one, entries_valid ks)

-- ---- the start of a file

same_start : (crc mark version crc' mark' version' : ℤ) (all fields fields' : List ℕ) → HasStart crc mark version all fields → HasStart crc' mark' version' all fields'
    → (crc ≡ crc') × (mark ≡ mark') × (version ≡ version') × (fields ≡ fields')
same_start crc mark version crc' mark' version' all fields fields' h k =
    let one = one_value start_fields (crc, (mark, (version, nothing))) (crc', (mark', (version', nothing))) all fields fields' h.start k.start in
    (ap (λ v. v.0) one.0, ap (λ v. v.1.0) one.0, ap (λ v. v.1.1.0) one.0, one.1)

starts : (s : MarksSaid) (all : List ℕ) → IsMarksFile s all → HasStart (signed_crc (covered (encoded marks_fields (marks_value s)))) MARK VERSION all (encoded marks_fields (marks_value s))
unfolding encoded start_of Fits
starts s all h =
    let fields = encoded marks_fields (marks_value s) in
    let crc : FitsSigned w32 (signed_crc (covered fields)) = sfits_to_z (record { fits = crc_of-lt (covered fields) }) in
    let mark : FitsSigned w32 MARK = record { sfits = omega arith } in
    let version : FitsSigned w16 VERSION = record { sfits = omega arith } in
    record { start = record { fits = (crc, (mark, (version, tt))); parts = h.parts } }

said_encodes : (s : MarksSaid) (all : List ℕ) → IsMarksFile s all → Encodes marks_fields (marks_value s) (encoded marks_fields (marks_value s)) []
said_encodes s all h = record { fits = h.fits; parts = sym (append-nil (encoded marks_fields (marks_value s))) }

-- the fields that stand behind the start of such a file are those of what it says
own_fields : (s : MarksSaid) (all fields : List ℕ) → IsMarksFile s all → HasStart (signed_crc (covered fields)) MARK VERSION all fields → Encodes marks_fields (marks_value s) fields []
own_fields s all fields h start =
    let same = same_start (signed_crc (covered fields)) MARK VERSION (signed_crc (covered (encoded marks_fields (marks_value s)))) MARK VERSION all fields (encoded marks_fields (marks_value s)) start (starts s all h) in
    subst (λ (x : List ℕ). Encodes marks_fields (marks_value s) x []) (sym same.3) (said_encodes s all h)

pub one_meaning : (said other : MarksSaid) (bytes : List ℕ) → HasNumbers said → HasNumbers other → IsMarksFile said bytes → IsMarksFile other bytes → said ≡ other
one_meaning s t bytes f g h k =
    let fields = (same_start (signed_crc (covered (encoded marks_fields (marks_value s)))) MARK VERSION (signed_crc (covered (encoded marks_fields (marks_value t)))) MARK VERSION bytes
    (encoded marks_fields (marks_value s)) (encoded marks_fields (marks_value t)) (starts s bytes h) (starts t bytes k)).3 in
    let same : marks_value s ≡ marks_value t = (one_value marks_fields (marks_value s) (marks_value t) (encoded marks_fields (marks_value s)) [] []
    (said_encodes s bytes h) (subst (λ (x : List ℕ). Encodes marks_fields (marks_value t) x []) (sym fields) (said_encodes t bytes k))).0 in
    sym (said_back s f) ∙ ap (λ v. said_by (raw_said v)) same ∙ said_back t g

pub no_fault : (said : MarksSaid) (bytes : List ℕ) (e : MarksError) → IsMarksFile said bytes → MarksFault e bytes → ⊥
no_fault s bytes Short h broken =
    never_both start_fields (signed_crc (covered (encoded marks_fields (marks_value s))), (MARK, (VERSION, nothing))) bytes (encoded marks_fields (marks_value s)) field.ShortBody (starts s bytes h).start broken
no_fault s bytes BadMark h (crc, mark, version, fields, start, differs) =
    differs (same_start crc mark version (signed_crc (covered (encoded marks_fields (marks_value s)))) MARK VERSION bytes fields (encoded marks_fields (marks_value s)) start (starts s bytes h)).1
no_fault s bytes BadVersion h (crc, version, fields, start, differs) =
    differs (same_start crc MARK version (signed_crc (covered (encoded marks_fields (marks_value s)))) MARK VERSION bytes fields (encoded marks_fields (marks_value s)) start (starts s bytes h)).2
no_fault s bytes BadCrc h (crc, fields, start, differs) =
    let same = same_start crc MARK VERSION (signed_crc (covered (encoded marks_fields (marks_value s)))) MARK VERSION bytes fields (encoded marks_fields (marks_value s)) start (starts s bytes h) in
    differs (same.0 ∙ ap (λ (x : List ℕ). signed_crc (covered x)) (sym same.3))
no_fault s bytes BadFields h (fields, start, none) =
    none (marks_value s) (own_fields s bytes fields h start)
no_fault s bytes BadMarks h (fields, v, start, encodes, bad) =
    let same : v ≡ marks_value s = (one_value marks_fields v (marks_value s) fields [] [] encodes (own_fields s bytes fields h start)).0 in
    let clash : false ≡ true = sym bad ∙ ap have_marks same ∙ entries_valid s.partitions in
    absurd cc

-- ---- belief

abbrev done : Result (Unit {0}) Unbelieved
done = Ok tt

passes : (a b c : Bool) → (if not a then Err OfAnotherJournal else (if b then Err NotReached else (if c then Ok tt else Err OfAnotherGroup))) ≡ done
    → (a ≡ true) × (b ≡ false) × (c ≡ true)
passes true false true e = (refl, refl, refl)
passes false b c e = absurd cc
passes true true c e = absurd cc
passes true false false e = absurd cc

group_is : (p : JournalPlace) (g : Option GroupSeen) → is_group_of p g ≡ true → g ≡ Some (record { at = p.group_at; end = p.size; crc = p.group_crc })
group_is p None e = absurd cc
group_is p (Some g) e =
    let at : g.at ≡ p.group_at = grind arith in
    let end : g.end ≡ p.size = grind arith in
    let crc : g.crc ≡ p.group_crc = grind arith in
    λ i. Some (record { at = at i; end = end i; crc = crc i })

pub believed_only : (p : JournalPlace) (j : JournalSeen) → belief p j ≡ Ok tt
    → (j.number ≡ p.number) × (j.key ≡ p.key) × (p.size ≤ j.read) × (j.group ≡ Some (record { at = p.group_at; end = p.size; crc = p.group_crc }))
believed_only p j e =
    let tests = passes (nat_eq j.number p.number && int_eq j.key p.key) (nat_lt j.read p.size) (is_group_of p j.group) e in
    let number : j.number ≡ p.number = grind (arith, ints, tests.0) in
    let key : j.key ≡ p.key = grind (arith, ints, tests.0) in
    let read : p.size ≤ j.read = grind (arith, tests.1) in
    (number, key, read, group_is p j.group tests.2)

pub believed_whole : (p : JournalPlace) (j : JournalSeen) → j.number ≡ p.number → j.key ≡ p.key → p.size ≤ j.read
    → j.group ≡ Some (record { at = p.group_at; end = p.size; crc = p.group_crc }) → belief p j ≡ Ok tt
believed_whole p j number key read group =
    λ i. if not (first i) then Err OfAnotherJournal else (if far i then Err NotReached else (if last i then Ok tt else Err OfAnotherGroup))
  where
    first : (nat_eq j.number p.number && int_eq j.key p.key) ≡ true
    first = grind (arith, ints, number, key)

    far : nat_lt j.read p.size ≡ false
    far = grind (arith, read)

    itself : is_group_of p (Some (record { at = p.group_at; end = p.size; crc = p.group_crc })) ≡ true
    itself = grind arith

    last : is_group_of p j.group ≡ true
    last = ap (is_group_of p) group ∙ itself
