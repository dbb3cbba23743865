-- A walk over the batches that a map takes in.
use Rattle.std.proofs.Common.{◌≡◌, ℕ, suc, ℤ, pos, ◌+ℤ◌, ◌++◌, Bool, true, false, cond, List, [], ◌∷◌, take, drop, Option, Some, refl, sym, ap, subst, ◌∙◌, arith, append_assoc, take-append-drop}
use Rattle.std.specs.Prelude.{◌≤ℤ◌, ◌<ℤ◌, int_le, if◌then◌else◌}
use Rattle.std.specs.Int.{int_max}
use Rattle.std.specs.List.{filter, fold, AllByRecursion}
use Rattle.std.proofs.lemmas.Int.{ints, clamps}
use Rattle.std.proofs.lemmas.List.{append-nil}
use Rattle.std.proofs.lemmas.List.Concat.{flat_map-append}
use Rattle.std.proofs.lemmas.List.Sums.{fold-append}
use Rattle.batch_codec.specs.Values.{BatchValue}
use Rattle.batch_codec.specs.Grammar.{Writable}
use Rattle.batch_codec.specs.Offsets.{first_offset, last_offset, SpansRise}
use Rattle.content.specs.Content.{IsInRange}
use Rattle.segment.specs.BatchLists.{IsBatchList, first_from}
use Rattle.swept_contents.specs.Swept.{is_dirty}
use Rattle.content.specs.Records.{LogRecord, log_records, equal_keys}
use Rattle.newest_keys.specs.Newest.{Newest, raised, with_records, records_of}
use Rattle.cleaning_progress.specs.Extending.{TakesDirty, IsLeft, HasTaken}

Batches : Type 0
Batches = List BatchValue

-- ---- tests on lists

none_pass : (p : BatchValue → Bool) (bs : List BatchValue) → AllByRecursion (λ b. p b ≡ false) bs → filter p bs ≡ []
none_pass p [] all = refl
none_pass p (b ∷ bs) all = ap (λ (t : Bool). cond t (b ∷ filter p bs) (filter p bs)) all.0 ∙ none_pass p bs all.1

all_pass : (p : BatchValue → Bool) (bs : List BatchValue) → AllByRecursion (λ b. p b ≡ true) bs → filter p bs ≡ bs
all_pass p [] all = refl
all_pass p (b ∷ bs) all = ap (λ (t : Bool). cond t (b ∷ filter p bs) (filter p bs)) all.0 ∙ ap (λ (l : List BatchValue). b ∷ l) (all_pass p bs all.1)

filter_parts : (p : BatchValue → Bool) (xs ys : List BatchValue) → filter p (xs ++ ys) ≡ filter p xs ++ filter p ys
filter_parts p [] ys = refl
filter_parts p (b ∷ bs) ys = by (p b) (filter_parts p bs ys)
  where
    by : (t : Bool) → filter p (bs ++ ys) ≡ filter p bs ++ filter p ys → cond t (b ∷ filter p (bs ++ ys)) (filter p (bs ++ ys)) ≡ cond t (b ∷ filter p bs) (filter p bs) ++ filter p ys
    by true rest = ap (λ (l : List BatchValue). b ∷ l) rest
    by false rest = rest

weaker : (P Q : BatchValue → Type 0) → ((b : BatchValue) → P b → Q b) → (bs : List BatchValue) → AllByRecursion P bs → AllByRecursion Q bs
weaker P Q f [] all = tt
weaker P Q f (b ∷ bs) all = (f b all.0, weaker P Q f bs all.1)

both_parts : (P : BatchValue → Type 0) (xs ys : List BatchValue) → AllByRecursion P xs → AllByRecursion P ys → AllByRecursion P (xs ++ ys)
both_parts P [] ys front back = back
both_parts P (x ∷ xs) ys front back = (front.0, both_parts P xs ys front.1 back)

-- batches that rise end from where they begin to rise
end_late : (o low : ℤ) (bs : List BatchValue) → o ≤ℤ low → SpansRise low bs → AllByRecursion Writable bs → AllByRecursion (λ b. o ≤ℤ last_offset b) bs
end_late o low [] le rise writable = tt
end_late o low (b ∷ bs) le rise writable =
    let delta : pos 0 ≤ℤ b.head.last_delta = writable.0.valid.last_delta in
    let begins : low ≤ℤ first_offset b = rise.0 in
    (omega (arith, ints, le, begins, delta), end_late o (last_offset b +ℤ pos 1) bs (omega (arith, ints, le, begins, delta)) rise.1 writable.1)

-- ---- the first batch to be taken

module _ (o : ℤ) where
  left_first : (low : ℤ) (bs : List BatchValue) → SpansRise low bs → AllByRecursion Writable bs → AllByRecursion IsInRange bs → IsLeft o (drop (first_from o bs) bs)
  unfolding first_from
  left_first low [] rise writable in_range = record { low = low; rise = tt; writable = tt; in_range = tt; behind = tt }
  left_first low (b ∷ bs) rise writable in_range = by (int_le o (last_offset b)) refl (left_first (last_offset b +ℤ pos 1) bs rise.1 writable.1 in_range.1)
    where
      by : (t : Bool) → int_le o (last_offset b) ≡ t → IsLeft o (drop (first_from o bs) bs) → IsLeft o (drop (cond t 0 (suc (first_from o bs))) (b ∷ bs))
      by true e rest =
          let late : o ≤ℤ last_offset b = grind (arith, ints, e) in
          record { low = low; rise = rise; writable = writable; in_range = in_range; behind = (late, end_late o (last_offset b +ℤ pos 1) bs (omega (arith, ints, late)) rise.1 writable.1) }
      by false e rest = rest

  front_first : (bs : List BatchValue) → AllByRecursion (λ b. last_offset b <ℤ o) (take (first_from o bs) bs)
  unfolding first_from
  front_first [] = tt
  front_first (b ∷ bs) = by (int_le o (last_offset b)) refl (front_first bs)
    where
      by : (t : Bool) → int_le o (last_offset b) ≡ t → AllByRecursion (λ x. last_offset x <ℤ o) (take (first_from o bs) bs) → AllByRecursion (λ x. last_offset x <ℤ o) (take (cond t 0 (suc (first_from o bs))) (b ∷ bs))
      by true e rest = tt
      by false e rest = (grind (arith, ints, e), rest)

records_pushed : (bs : List BatchValue) (b : BatchValue) → log_records (bs ++ b ∷ []) ≡ log_records bs ++ records_of b
records_pushed bs b = flat_map-append _ bs (b ∷ []) ∙ ap (λ (xs : List LogRecord). log_records bs ++ xs) (append-nil (records_of b))

-- ---- the walk

pub walk_starts : (from : ℤ) (old : Newest) (left all : List BatchValue) (i : ℕ) → IsBatchList all → i ≡ first_from from all → left ≡ drop i all → HasTaken from from old old left all
walk_starts from old left all i list at same = record {
  front = take (first_from from all) all;
  taken = [];
  whole = sym (take-append-drop (first_from from all) all) ∙ ap (λ (l : List BatchValue). take (first_from from all) all ++ l) (ap (λ (n : ℕ). drop n all) (sym at) ∙ sym same);
  on = omega (arith, ints);
  before = front_first from all;
  within = tt;
  takes = λ key. refl;
  is_left = subst (IsLeft from) (ap (λ (n : ℕ). drop n all) (sym at) ∙ sym same) (left_first from (pos 0) all list.disjoint list.writable list.in_range);
}

-- a batch more
pub walk_goes_on : (from end next : ℤ) (old now new : Newest) (left rest all : List BatchValue) (b : BatchValue) → left ≡ b ∷ rest → next ≡ last_offset b +ℤ pos 1 → ((key : List ℕ) → new key ≡ with_records now (records_of b) key)
    → HasTaken from end old now left all → HasTaken from next old new rest all
walk_goes_on from end next old now new left rest all b split at takes so_far = record {
  front = so_far.front;
  taken = so_far.taken ++ b ∷ [];
  whole = so_far.whole ∙ ap (λ (l : List BatchValue). so_far.front ++ l) (ap (λ (l : List BatchValue). so_far.taken ++ l) split ∙ sym (append_assoc so_far.taken (b ∷ []) rest));
  on = (let a = so_far.on in omega (arith, ints, a, late, at));
  before = so_far.before;
  within = both_parts (λ x. (from ≤ℤ last_offset x) × (last_offset x <ℤ next)) so_far.taken (b ∷ [])
      (weaker (λ x. (from ≤ℤ last_offset x) × (last_offset x <ℤ end)) (λ x. (from ≤ℤ last_offset x) × (last_offset x <ℤ next)) (λ x is. (is.0, (let less = is.1 in omega (arith, ints, less, late, at)))) so_far.taken so_far.within)
      (((let a = so_far.on in omega (arith, ints, a, late)), omega (arith, ints, at)), tt);
  takes = λ key. takes key ∙ ap (λ (f : Option ℤ). fold (λ g x. if equal_keys x.1.key (Some key) then Some (raised g x.0) else g) f (records_of b)) (so_far.takes key)
      ∙ sym (fold-append (λ g x. if equal_keys x.1.key (Some key) then Some (raised g x.0) else g) (old key) (log_records so_far.taken) (records_of b))
      ∙ ap (λ (xs : List LogRecord). with_records old xs key) (sym (records_pushed so_far.taken b));
  is_left = record { low = last_offset b +ℤ pos 1; rise = is.rise.1; writable = is.writable.1; in_range = is.in_range.1; behind = end_late next (last_offset b +ℤ pos 1) rest (omega (arith, ints, at)) is.rise.1 is.writable.1 };
}
  where
    is : IsLeft end (b ∷ rest)
    is = subst (IsLeft end) split so_far.is_left

    late : end ≤ℤ last_offset b
    late = is.behind.0

-- the walk is stopped
pub walk_stops : (from end : ℤ) (old now : Newest) (left all : List BatchValue) → HasTaken from end old now left all → TakesDirty from end old now all
walk_stops from end old now left all so_far = record {
  on = so_far.on;
  takes = λ key. so_far.takes key ∙ ap (λ (bs : List BatchValue). with_records old (log_records bs) key) (sym only);
}
  where
    front_is : filter (is_dirty from end) so_far.front ≡ []
    front_is = none_pass (is_dirty from end) so_far.front (weaker (λ b. last_offset b <ℤ from) (λ b. is_dirty from end b ≡ false) (λ b less. grind (arith, ints, less)) so_far.front so_far.before)

    taken_is : filter (is_dirty from end) so_far.taken ≡ so_far.taken
    taken_is = all_pass (is_dirty from end) so_far.taken
        (weaker (λ b. (from ≤ℤ last_offset b) × (last_offset b <ℤ end)) (λ b. is_dirty from end b ≡ true) (λ b is. (let a = is.0 in let z = is.1 in grind (arith, ints, a, z))) so_far.taken so_far.within)

    left_is : filter (is_dirty from end) left ≡ []
    left_is = none_pass (is_dirty from end) left (weaker (λ b. end ≤ℤ last_offset b) (λ b. is_dirty from end b ≡ false) (λ b far. grind (arith, ints, far)) left so_far.is_left.behind)

    only : filter (is_dirty from end) all ≡ so_far.taken
    only = ap (filter (is_dirty from end)) so_far.whole ∙ filter_parts (is_dirty from end) so_far.front (so_far.taken ++ left)
        ∙ ap (λ (l : List BatchValue). l ++ filter (is_dirty from end) (so_far.taken ++ left)) front_is
        ∙ filter_parts (is_dirty from end) so_far.taken left
        ∙ (λ i. taken_is i ++ left_is i) ∙ append-nil so_far.taken

-- or nothing more ends below a bound
pub walk_ends : (from end bound last : ℤ) (old now : Newest) (left all : List BatchValue) → last ≡ int_max end bound → AllByRecursion (λ b. bound ≤ℤ last_offset b) left → HasTaken from end old now left all → TakesDirty from last old now all
walk_ends from end bound last old now left all at beyond so_far = walk_stops from last old now left all (record {
  front = so_far.front;
  taken = so_far.taken;
  whole = so_far.whole;
  on = (let a = so_far.on in omega (arith, ints, clamps, a, at));
  before = so_far.before;
  within = weaker (λ b. (from ≤ℤ last_offset b) × (last_offset b <ℤ end)) (λ b. (from ≤ℤ last_offset b) × (last_offset b <ℤ last)) (λ b is. (is.0, (let less = is.1 in omega (arith, ints, clamps, less, at)))) so_far.taken so_far.within;
  takes = so_far.takes;
  is_left = record {
    low = so_far.is_left.low;
    rise = so_far.is_left.rise;
    writable = so_far.is_left.writable;
    in_range = so_far.is_left.in_range;
    behind = both_far left so_far.is_left.behind beyond;
  };
})
  where
    both_far : (bs : List BatchValue) → AllByRecursion (λ b. end ≤ℤ last_offset b) bs → AllByRecursion (λ b. bound ≤ℤ last_offset b) bs → AllByRecursion (λ b. last ≤ℤ last_offset b) bs
    both_far [] a z = tt
    both_far (b ∷ bs) a z = ((let one = a.0 in let two = z.0 in omega (arith, ints, clamps, one, two, at)), both_far bs a.1 z.1)

-- the next batch's span lies within the offsets
pub next_in_range : (from end : ℤ) (old now : Newest) (left rest all : List BatchValue) (b : BatchValue) → left ≡ b ∷ rest → HasTaken from end old now left all → IsInRange b
next_in_range from end old now left rest all b split so_far = (subst (IsLeft end) split so_far.is_left).in_range.0

-- where one doesn't end below a bound, none behind it does
pub none_below : (from end bound : ℤ) (old now : Newest) (left rest all : List BatchValue) (b : BatchValue) → left ≡ b ∷ rest → bound ≤ℤ last_offset b → HasTaken from end old now left all → AllByRecursion (λ x. bound ≤ℤ last_offset x) left
none_below from end bound old now left rest all b split far so_far = subst (AllByRecursion (λ x. bound ≤ℤ last_offset x)) (sym split) (far, end_late bound (last_offset b +ℤ pos 1) rest (omega (arith, ints, far)) is.rise.1 is.writable.1)
  where
    is : IsLeft end (b ∷ rest)
    is = subst (IsLeft end) split so_far.is_left

-- where none is left
pub all_none : (P : BatchValue → Type 0) (bs : List BatchValue) → bs ≡ [] → AllByRecursion P bs
all_none P bs none = subst (AllByRecursion P) (sym none) tt

-- the greater of an offset and a bound reaches the bound
pub reaches_bound : (last end bound : ℤ) → last ≡ int_max end bound → bound ≤ℤ last
reaches_bound last end bound at = omega (arith, ints, clamps, at)
