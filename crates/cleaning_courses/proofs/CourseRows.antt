-- Worked rows: a course of a leader's copy in which a deletion goes in time, behind a pass of two parts, and one in which it goes by
-- its arrival, so that a reader never learns of it.
use Rattle.std.proofs.Common.{◌≡◌, ℕ, ℤ, pos, negsuc, ◌≤◌, List, [], ◌∷◌, length, Option, Some, None, refl, sym, subst, true≢false, inl, inr, ap, ◌⊎◌, ◌≤ℤ◌, arith}
use Rattle.std.specs.Prelude.{◌<ℤ◌}
use Rattle.std.specs.List.{flat_map, AllByRecursion}
use Rattle.std.proofs.lemmas.Int.{ints}
use Rattle.varint.specs.Encoding.{digits, encoding}
use Rattle.batch_codec.specs.Values.{RecordValue, BatchValue}
use Rattle.batch_codec.specs.Offsets.{first_offset, last_offset}
use Rattle.batch_codec.specs.Grammar.{HeadFits, IsValidRecord, record_body, record_encoding}
use Rattle.batch_codec.proofs.Encoded.{sizes}
use Rattle.cover_ranges.specs.Runs.{with_range}
use Rattle.cover_ranges.proofs.RunsFrom.{from_canonical}
use Rattle.content.specs.ByOffset.{put}
use Rattle.content.specs.Records.{LogRecord, record_at}
use Rattle.content.specs.declared.part.CleaningPart.{CleaningPart}
use Rattle.content.specs.Content.{Content, IsContent, IsLogBatch, empty}
use Rattle.content.specs.Cleaning.{is_cleanable}
use Rattle.content.specs.Parts.{part_of, NoneIsAcross}
use Rattle.content.specs.Examples.{key_a, one, record_of, head_of, single, batch_0}
use Rattle.content_laws.proofs.BatchParts.{all-filter}
use Rattle.cleaning_policy.specs.Readers.{IsAmong}
use Rattle.cleaning_courses.specs.Places.{IsBetweenBatches}
use Rattle.cleaning_courses.specs.Steps.{Step, time_of, content_after, WasOver, HasWholeEnds, IsCourse, HasItOrLater, LastWasTaken, LearnsInTime}
use Rattle.cleaning_courses.proofs.Lists.{among-right}
use Rattle.cleaning_courses.proofs.Learning.{step_kind}
use Rattle.cleaning_courses.specs.Steps.Step.{Produce, Clean, ForeignClean, Fetch}

pub times_of : (n : ℕ) (steps : List Step) → AllByRecursion (λ b. time_of b ≤ n) steps → (b : Step) → IsAmong b steps → time_of b ≤ n
times_of n [] a b i = absurd i
times_of n (x ∷ xs) a b (inl is) = subst (λ (y : Step). time_of y ≤ n) is a.0
times_of n (x ∷ xs) a b (inr j) = times_of n xs a.1 b j

-- ---- a=1 at offset 0, a deleted at 1

abbrev pub value : LogRecord
value = (pos 0, record_of (pos 0) key_a one)

abbrev pub deletion : BatchValue
deletion = single (pos 1) key_a None

head_fits : (base : ℕ) → base ≤ 1 → HeadFits (head_of (pos base) (pos 0))
head_fits base small = record {
  base = record { sfits = omega (arith, small) };
  leader_epoch = record { sfits = omega arith };
  attrs = record { sfits = omega arith };
  last_delta = record { sfits = omega arith };
  base_time = record { sfits = omega arith };
  max_time = record { sfits = omega arith };
  producer = record { sfits = omega arith };
  producer_epoch = record { sfits = omega arith };
  base_seq = record { sfits = omega arith };
}

valid_record : (base : ℕ) (v : Option (List ℕ)) → IsValidRecord (head_of (pos base) (pos 0)) (negsuc 0) (record_of (pos 0) key_a v)
valid_record base v = record {
  attrs = record { sfits = omega arith };
  time_delta = record { sfits = omega arith };
  rises = omega (arith, ints);
  within = omega (arith, ints);
  time = record { sfits = omega arith };
}

value_size : length (flat_map record_encoding (record_of (pos 0) key_a one ∷ [])) ≡ 9
unfolding record_body encoding digits
value_size = refl

deletion_size : length (flat_map record_encoding (record_of (pos 0) key_a None ∷ [])) ≡ 8
unfolding record_body encoding digits
deletion_size = refl

pub value_is : IsLogBatch batch_0
value_is = record {
  writable = record {
    valid = record { fits = head_fits 0 (omega arith); no_flags = refl; last_delta = omega (arith, ints); records = (valid_record 0 one, tt) };
    size = let s = sizes batch_0 in omega (arith, s.whole, s.checked, value_size);
  };
  whole = refl;
  keys = (refl, tt);
  in_range = (omega (arith, ints), omega (arith, ints));
}

pub deletion_is : IsLogBatch deletion
deletion_is = record {
  writable = record {
    valid = record { fits = head_fits 1 (omega arith); no_flags = refl; last_delta = omega (arith, ints); records = (valid_record 1 None, tt) };
    size = let s = sizes deletion in omega (arith, s.whole, s.checked, deletion_size);
  };
  whole = refl;
  keys = (refl, tt);
  in_range = (omega (arith, ints), omega (arith, ints));
}

-- ---- they are appended, and between them a reader is shown the value

abbrev pub first_steps : List Step
first_steps = Produce 1 batch_0 ∷ []

abbrev pub shown_steps : List Step
shown_steps = Fetch 2 value ∷ first_steps

abbrev pub begun : List Step
begun = Produce 3 deletion ∷ shown_steps

abbrev both : Content
both = record { start = pos 0; cover = (pos 0, pos 1) ∷ []; kept = batch_0 ∷ deletion ∷ [] }

abbrev only_deletion : Content
only_deletion = record { start = pos 0; cover = (pos 0, pos 1) ∷ []; kept = deletion ∷ [] }

both_after : content_after empty begun ≡ both
unfolding put with_range
both_after = refl

pub empty_is : IsContent empty
empty_is = record {
  in_range = (omega (arith, ints), omega (arith, ints));
  canonical = from_canonical (pos 0) [] (omega (arith, ints)) tt;
  above = λ o e. absurd (true≢false (sym e));
  disjoint = tt;
  keepable = tt;
  inside = λ base o b e from to. absurd cc;
}

first_is : IsCourse 10 empty first_steps
first_is = ((value_is, refl), (λ b i. absurd i), empty_is)

shown_is : IsCourse 10 empty shown_steps
unfolding put with_range
shown_is = (refl, times_of 2 first_steps (omega arith, tt), first_is)

begun_is : IsCourse 10 empty begun
unfolding put with_range
begun_is = ((deletion_is, refl), times_of 3 shown_steps (omega arith, (omega arith, tt)), shown_is)

-- ---- the value goes first, by a pass of two parts, and ten milliseconds behind that its deletion

abbrev begun_pass : List Step
begun_pass = Clean 4 (part_of (pos 2) (pos 0) (pos 0) (pos 1)) ∷ begun

abbrev once : List Step
once = Clean 5 (part_of (pos 2) (pos 0) (pos 1) (pos 2)) ∷ begun_pass

abbrev in_time : List Step
in_time = Clean 15 (part_of (pos 2) (pos 2) (pos 0) (pos 2)) ∷ once

first_leaves : content_after empty begun_pass ≡ only_deletion
unfolding put with_range
first_leaves = refl

once_leaves : content_after empty once ≡ only_deletion
unfolding put with_range
once_leaves = refl

in_time_leaves : content_after empty in_time ≡ record { start = pos 0; cover = (pos 0, pos 1) ∷ []; kept = [] }
unfolding put with_range
in_time_leaves = refl

both_between : IsBetweenBatches both (pos 2)
both_between = record { to_end = omega (arith, ints); none_across = (inl (omega (arith, ints)), (inl (omega (arith, ints)), tt)) }

deletion_between : IsBetweenBatches only_deletion (pos 2)
deletion_between = record { to_end = omega (arith, ints); none_across = (inl (omega (arith, ints)), tt) }

-- each of the offsets 0, 1 and 2 lies between the two batches, or beside them
both_at_0 : NoneIsAcross (pos 0) both.kept
both_at_0 = (inr (omega (arith, ints)), (inr (omega (arith, ints)), tt))

both_at_1 : NoneIsAcross (pos 1) both.kept
both_at_1 = (inl (omega (arith, ints)), (inr (omega (arith, ints)), tt))

deletion_at_0 : NoneIsAcross (pos 0) only_deletion.kept
deletion_at_0 = (inr (omega (arith, ints)), tt)

deletion_at_1 : NoneIsAcross (pos 1) only_deletion.kept
deletion_at_1 = (inr (omega (arith, ints)), tt)

part_ends : (c : Content) (d from to : ℤ) → NoneIsAcross from c.kept → NoneIsAcross to c.kept → HasWholeEnds c (part_of (pos 2) d from to)
part_ends c d from to low high = (
  all-filter (λ (b : BatchValue). (last_offset b <ℤ from) ⊎ (from ≤ℤ first_offset b)) (is_cleanable (pos 2)) c.kept low,
  all-filter (λ (b : BatchValue). (last_offset b <ℤ to) ⊎ (to ≤ℤ first_offset b)) (is_cleanable (pos 2)) c.kept high,
)

pub all_ends : HasWholeEnds (content_after empty begun) (part_of (pos 2) (pos 0) (pos 0) (pos 2))
all_ends = subst (λ (c : Content). HasWholeEnds c (part_of (pos 2) (pos 0) (pos 0) (pos 2))) (sym both_after) (part_ends both (pos 0) (pos 0) (pos 2) both_at_0 both_between.none_across)

first_part_is : IsCourse 10 empty begun_pass
first_part_is = (
  (
    subst (λ (c : Content). IsBetweenBatches c (pos 2)) (sym both_after) both_between,
    subst (λ (c : Content). HasWholeEnds c (part_of (pos 2) (pos 0) (pos 0) (pos 1))) (sym both_after) (part_ends both (pos 0) (pos 0) (pos 1) both_at_0 both_at_1),
    inl (omega (arith, ints)),
  ),
  times_of 4 begun (omega arith, (omega arith, (omega arith, tt))),
  begun_is,
)

once_is : IsCourse 10 empty once
once_is = (
  (
    subst (λ (c : Content). IsBetweenBatches c (pos 2)) (sym first_leaves) deletion_between,
    subst (λ (c : Content). HasWholeEnds c (part_of (pos 2) (pos 0) (pos 1) (pos 2))) (sym first_leaves) (part_ends only_deletion (pos 0) (pos 1) (pos 2) deletion_at_1 deletion_between.none_across),
    inl (omega (arith, ints)),
  ),
  times_of 5 begun_pass (omega arith, (omega arith, (omega arith, (omega arith, tt)))),
  first_part_is,
)

-- the two parts are a pass up to 2, which was over at 5
over_at_5 : WasOver empty once 5 (pos 2)
over_at_5 = record {
  since = [];
  before = once;
  are = refl;
  over = inr (refl, omega (arith, ints), inr (refl, omega (arith, ints), omega (arith, ints)));
  by_then = times_of 5 once (omega arith, (omega arith, (omega arith, (omega arith, (omega arith, tt)))));
}

in_time_is : IsCourse 10 empty in_time
in_time_is = (
  (
    subst (λ (c : Content). IsBetweenBatches c (pos 2)) (sym once_leaves) deletion_between,
    subst (λ (c : Content). HasWholeEnds c (part_of (pos 2) (pos 2) (pos 0) (pos 2))) (sym once_leaves) (part_ends only_deletion (pos 2) (pos 0) (pos 2) deletion_at_0 deletion_between.none_across),
    inr (5, pos 2, over_at_5, omega (arith, ints), omega arith),
  ),
  times_of 15 once (omega arith, (omega arith, (omega arith, (omega arith, (omega arith, tt))))),
  once_is,
)

-- ---- by its arrival the deletion goes together with the value, which a reader was shown just before

abbrev by_arrival : List Step
by_arrival = Clean 15 (part_of (pos 2) (pos 2) (pos 0) (pos 2)) ∷ (Fetch 14 value ∷ begun)

nothing_found : (r : RecordValue) → None ≡ Some r → ⊥
nothing_found r e = cc

foreign_among : (c : Content) (steps : List Step) (z : LogRecord) (taken : LastWasTaken c steps z) → IsAmong (ForeignClean taken.time taken.part) steps
foreign_among c steps z taken =
    subst (IsAmong (ForeignClean taken.time taken.part)) (sym taken.are)
    (among-right (ForeignClean taken.time taken.part) taken.since (ForeignClean taken.time taken.part ∷ taken.before) (inl refl))

-- no cleaning is somebody else's
no_foreign : (t : ℕ) (p : CleaningPart) → IsAmong (ForeignClean t p) by_arrival → ⊥
no_foreign t p (inl e) = absurd (omega (arith, ap step_kind e))
no_foreign t p (inr (inl e)) = absurd (omega (arith, ap step_kind e))
no_foreign t p (inr (inr (inl e))) = absurd (omega (arith, ap step_kind e))
no_foreign t p (inr (inr (inr (inl e)))) = absurd (omega (arith, ap step_kind e))
no_foreign t p (inr (inr (inr (inr (inl e))))) = absurd (omega (arith, ap step_kind e))
no_foreign t p (inr (inr (inr (inr (inr e))))) = absurd e

abbrev deleted : LogRecord
deleted = (pos 1, record_of (pos 0) key_a None)

not_found : HasItOrLater (content_after empty by_arrival) deleted ⊎ LastWasTaken empty by_arrival deleted → ⊥
unfolding put with_range
not_found (inl found) = absurd (nothing_found found.0.1 found.1)
not_found (inr taken) = absurd (no_foreign taken.time taken.part (foreign_among empty by_arrival deleted taken))

by_arrival_fails : LearnsInTime 10 16 empty by_arrival → ⊥
unfolding put with_range
by_arrival_fails learns = not_found (learns 14 value deleted (inr (inl refl)) (omega arith) refl refl (omega (arith, ints)) (omega (arith, ints)))

-- ---- somebody else's cleaning takes both

abbrev by_others : List Step
by_others = ForeignClean 15 (part_of (pos 2) (pos 2) (pos 0) (pos 2)) ∷ (Fetch 14 value ∷ begun)

at_most_1 : (o : ℤ) (r : RecordValue) → record_at (batch_0 ∷ (deletion ∷ [])) o ≡ Some r → o ≤ℤ pos 1
at_most_1 o r e = grind (arith, ints, e)

taken_by_others : LastWasTaken empty by_others deleted
unfolding put with_range
taken_by_others = record {
  since = [];
  before = Fetch 14 value ∷ begun;
  time = 15;
  part = part_of (pos 2) (pos 2) (pos 0) (pos 2);
  one = deleted;
  are = refl;
  there = refl;
  gone = λ e. nothing_found (record_of (pos 0) key_a None) e;
  same = refl;
  deletion = refl;
  last = λ y there mine. at_most_1 y.0 y.1 there;
  below = omega (arith, ints);
}
