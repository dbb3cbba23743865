-- Walks over a batch's records and a list of offsets side by side. Both rise, so what a walk has passed is asked for no
-- more.
use Rattle.std.proofs.Common.{◌≡◌, ℕ, zero, suc, ◌+◌, ◌<◌, ◌≤◌, ℤ, pos, ◌+ℤ◌, Bool, true, false, List, [], ◌∷◌, ◌++◌, length, get_or, drop, refl, sym, ap, ◌∙◌, arith, IsTrue}
use Rattle.std.specs.Prelude.{◌≤ℤ◌, ◌<ℤ◌, int_lt, if◌then◌else◌}
use Rattle.std.specs.List.{filter, list_any}
use Rattle.std.specs.Ordering.{int_eq}
use Rattle.std.proofs.lemmas.Int.{ints}
use Rattle.std.proofs.lemmas.List.{append-nil, append_assoc}
use Rattle.batch_codec.specs.Values.{RecordValue, BatchValue}
use Rattle.batch_codec.specs.Offsets.{first_offset, offset_of}
use Rattle.batch_codec.specs.Grammar.{Writable}
use Rattle.batch_codec.specs.Thinning.{kept_by, thinned}
use Rattle.content.specs.ByOffset.{Rises}
use Rattle.content_laws.proofs.ByOffset.{rises-lower}
use Rattle.content_laws.proofs.Batches.{Records, delta_of}
use Rattle.side_by_side.proofs.CommonRecords.{records_of_rise}
use Rattle.deltas.specs.Entries.{OffsetsRise}
use Rattle.deltas.specs.Patches.{with_listed}
use Rattle.delta_bytes.specs.Judging.{offset_at, offsets_of}
use Rattle.delta_bytes.proofs.Rising.{Parts, next_offset, no_offset}
use Rattle.side_by_side.specs.ListWalks.{offsets_from, begins_with, offset_in, walk_all_listed, walk_listed, listed_flags}

-- ---- what a walk finds, and what it leaves

abbrev has_offset : ℤ → List ℤ → Bool
has_offset k os = list_any (λ o. int_eq o k) os

none_below : (low k : ℤ) (os : List ℤ) → OffsetsRise low os → k <ℤ low → has_offset k os ≡ false
none_below low k [] rise less = refl
none_below low k (o ∷ os) rise less = grind (arith, ints, less, rise.0, none_below (o +ℤ pos 1) k os rise.1)

begins : (low k : ℤ) (os : List ℤ) → OffsetsRise low os → begins_with k (offsets_from k os) ≡ has_offset k os
unfolding offsets_from begins_with
begins low k [] rise = refl
begins low k (o ∷ os) rise = grind (arith, ints, begins (o +ℤ pos 1) k os rise.1, none_below (o +ℤ pos 1) k os rise.1)

behind : (from k : ℤ) (os : List ℤ) → from ≤ℤ k → has_offset k (offsets_from from os) ≡ has_offset k os
unfolding offsets_from
behind from k [] le = refl
behind from k (o ∷ os) le = grind (arith, ints, le, behind from k os le)

from_rises : (low from : ℤ) (os : List ℤ) → OffsetsRise low os → OffsetsRise low (offsets_from from os)
unfolding offsets_from
from_rises low from [] rise = tt
from_rises low from (o ∷ os) rise = by (int_lt o from) (from_rises (o +ℤ pos 1) from os rise.1)
  where
    least : low ≤ℤ o
    least = rise.0

    by : (t : Bool) → OffsetsRise (o +ℤ pos 1) (offsets_from from os) → OffsetsRise low (if t then offsets_from from os else o ∷ os)
    by true rest = rises-lower (λ (k : ℤ). k) low (o +ℤ pos 1) (offsets_from from os) rest (omega (arith, ints, least))
    by false rest = rise

-- ---- the listed records; `left` has what `all` has, from the first record's offset on

abbrev SameFrom : ℤ → List ℤ → List ℤ → Type 0
SameFrom low left all = (k : ℤ) → low ≤ℤ k → has_offset k left ≡ has_offset k all

next_same : (base low delta : ℤ) (left all : List ℤ) → low ≤ℤ delta → SameFrom (base +ℤ low) left all → SameFrom (base +ℤ (delta +ℤ pos 1)) (offsets_from (base +ℤ delta) left) all
next_same base low delta left all least same k le = behind (base +ℤ delta) k left (omega (arith, ints, le)) ∙ same k (omega (arith, ints, le, least))

here_same : (base low from delta : ℤ) (left all : List ℤ) → low ≤ℤ delta → OffsetsRise from left → SameFrom (base +ℤ low) left all → begins_with (base +ℤ delta) (offsets_from (base +ℤ delta) left) ≡ has_offset (base +ℤ delta) all
here_same base low from delta left all least rise same = begins from (base +ℤ delta) left rise ∙ same (base +ℤ delta) (omega (arith, ints, least))

listed_is : (b : BatchValue) (low from : ℤ) (rs : Records) (left all : List ℤ) → Rises delta_of low rs → OffsetsRise from left → SameFrom (first_offset b +ℤ low) left all
    → walk_listed b rs left ≡ filter (λ r. has_offset (offset_of b r) all) rs
listed_is b low from [] left all rises rise same = refl
listed_is b low from (r ∷ rs) left all rises rise same =
    let rest = listed_is b (r.delta +ℤ pos 1) from rs (offsets_from (offset_in b r.delta) left) all rises.1 (from_rises from (offset_in b r.delta) left rise)
    (next_same (first_offset b) low r.delta left all rises.0 same) in
    let here : begins_with (offset_in b r.delta) (offsets_from (offset_in b r.delta) left) ≡ has_offset (offset_of b r) all = here_same (first_offset b) low from r.delta left all rises.0 rise same in
    grind (arith, here, rest)

all_is_listed : (b : BatchValue) (rs : Records) (left : List ℤ) → walk_all_listed b rs left ≡ true → walk_listed b rs left ≡ rs
all_is_listed b [] left e = refl
all_is_listed b (r ∷ rs) left e = grind (arith, e, all_is_listed b rs (offsets_from (offset_in b r.delta) left))

listed_of : (b : BatchValue) (low : ℤ) (all : List ℤ) → Writable b → OffsetsRise low all → walk_listed b b.recs all ≡ (with_listed all b).recs
listed_of b low all is rise = listed_is b (pos 0) low b.recs all all (records_of_rise b is) rise (λ k le. refl)

pub all_listed : (b : BatchValue) (all : List ℤ) (test : Bool) → Writable b → ((low : ℤ) × OffsetsRise low all) → test ≡ walk_all_listed b b.recs all → IsTrue test → with_listed all b ≡ b
all_listed b all test is rises walk t =
    let same : (with_listed all b).recs ≡ b.recs = sym (listed_of b rises.0 all is rises.1) ∙ all_is_listed b b.recs all (sym walk ∙ t) in
    λ i. record { head = b.head; recs = same i }

-- ---- of each record, whether it is listed

flags_listed_recs : (b : BatchValue) (rs : Records) (left : List ℤ) → kept_by (listed_flags b rs left) rs ≡ walk_listed b rs left
flags_listed_recs b [] left = refl
flags_listed_recs b (r ∷ rs) left = by (begins_with (offset_in b r.delta) (offsets_from (offset_in b r.delta) left)) (flags_listed_recs b rs (offsets_from (offset_in b r.delta) left))
  where
    later : Records
    later = walk_listed b rs (offsets_from (offset_in b r.delta) left)

    by : (t : Bool) → kept_by (listed_flags b rs (offsets_from (offset_in b r.delta) left)) rs ≡ later → kept_by (t ∷ listed_flags b rs (offsets_from (offset_in b r.delta) left)) (r ∷ rs) ≡ (if t then r ∷ later else later)
    by true ih = ap (λ (l : Records). r ∷ l) ih
    by false ih = ih

flags_as_many : (b : BatchValue) (rs : Records) (left : List ℤ) → length (listed_flags b rs left) ≡ length rs
flags_as_many b [] left = refl
flags_as_many b (r ∷ rs) left = ap suc (flags_as_many b rs (offsets_from (offset_in b r.delta) left))

pub flags_length : (b : BatchValue) (all : List ℤ) (keep : List Bool) → keep ≡ listed_flags b b.recs all → length keep ≡ length b.recs
flags_length b all keep is = ap length is ∙ flags_as_many b b.recs all

pub flags_listed : (b : BatchValue) (all : List ℤ) (keep : List Bool) → Writable b → ((low : ℤ) × OffsetsRise low all) → keep ≡ listed_flags b b.recs all → thinned keep b ≡ with_listed all b
flags_listed b all keep is rises listed =
    let whole : kept_by keep b.recs ≡ (with_listed all b).recs = ap (λ (l : List Bool). kept_by l b.recs) listed ∙ flags_listed_recs b b.recs all ∙ listed_of b rises.0 all is rises.1 in
    λ i. record b { recs = whole i }

-- ---- the loops, a step at a time

-- a record of delta `d`
pub flags_next : (b : BatchValue) (keep more total : List Bool) (rs next : Records) (r : RecordValue) (d : ℤ) (left later : List ℤ) (test : Bool) → d ≡ r.delta → rs ≡ r ∷ next → later ≡ offsets_from (offset_in b d) left
    → test ≡ begins_with (offset_in b d) later → more ≡ keep ++ test ∷ [] → keep ++ listed_flags b rs left ≡ total → more ++ listed_flags b next later ≡ total
flags_next b keep more total rs next r d left later test same steps passes here push all =
    let passed : later ≡ offsets_from (offset_in b r.delta) left = passes ∙ ap (λ (k : ℤ). offsets_from (offset_in b k) left) same in
    let there : test ≡ begins_with (offset_in b r.delta) (offsets_from (offset_in b r.delta) left) = here ∙ (λ i. begins_with (offset_in b (same i)) (passed i)) in
    (λ i. push i ++ listed_flags b next (passed i)) ∙ append_assoc keep (test ∷ []) (listed_flags b next (offsets_from (offset_in b r.delta) left))
    ∙ (λ i. keep ++ there i ∷ listed_flags b next (offsets_from (offset_in b r.delta) left)) ∙ sym (ap (λ (x : Records). keep ++ listed_flags b x left) steps) ∙ all

pub flags_whole : (b : BatchValue) (keep total : List Bool) (rs : Records) (left : List ℤ) → rs ≡ [] → keep ++ listed_flags b rs left ≡ total → keep ≡ total
flags_whole b keep total rs left none all = sym (append-nil keep) ∙ sym (ap (λ (x : Records). keep ++ listed_flags b x left) none) ∙ all

-- ---- the offsets from the first on that is not below one, where they stand

pub passed_over : (parts : Parts) (i : ℕ) (offset o : ℤ) → i < length parts → o ≡ offset_at (get_or parts i []) → o <ℤ offset
    → offsets_from offset (drop i (offsets_of parts)) ≡ offsets_from offset (drop (i + 1) (offsets_of parts))
unfolding offsets_from
passed_over parts i offset o lt is less = ap (offsets_from offset) (next_offset parts i o lt is) ∙ by (int_lt o offset) refl
  where
    by : (b : Bool) → int_lt o offset ≡ b → offsets_from offset (o ∷ drop (i + 1) (offsets_of parts)) ≡ offsets_from offset (drop (i + 1) (offsets_of parts))
    by b e = grind (arith, ints)

pub stopped_at : (parts : Parts) (i : ℕ) (offset o : ℤ) → i < length parts → o ≡ offset_at (get_or parts i []) → offset ≤ℤ o
    → offsets_from offset (drop i (offsets_of parts)) ≡ drop i (offsets_of parts)
unfolding offsets_from
stopped_at parts i offset o lt is le =
    let next = next_offset parts i o lt is in
    ap (offsets_from offset) next ∙ here ∙ sym next
  where
    here : offsets_from offset (o ∷ drop (i + 1) (offsets_of parts)) ≡ o ∷ drop (i + 1) (offsets_of parts)
    here = grind (arith, ints)

pub from_none : (parts : Parts) (i : ℕ) (offset : ℤ) → length parts ≤ i → offsets_from offset (drop i (offsets_of parts)) ≡ []
unfolding offsets_from
from_none parts i offset le = ap (offsets_from offset) (no_offset parts i le)

pub offsets-drop : (parts : Parts) (i : ℕ) → offsets_of (drop i parts) ≡ drop i (offsets_of parts)
offsets-drop parts zero = refl
offsets-drop [] (suc i) = refl
offsets-drop (part ∷ parts) (suc i) = offsets-drop parts i
