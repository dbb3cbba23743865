-- The plan of what is left of a copy: base by base, in the order of the kept batches' and the entries' bases, it
-- makes the batches that are left before what comes next.
use Rattle.std.proofs.Common.{◌≡◌, ◌^◌, ℤ, pos, negsuc, ◌+ℤ◌, Bool, true, false, List, [], ◌∷◌, ◌++◌, drop, Option, Some, None, Result, Ok, Err, refl, sym, ap, subst, ◌∙◌, arith}
use Rattle.std.specs.Prelude.{◌≤ℤ◌, ◌<ℤ◌, int_lt, OnOk, if◌then◌else◌}
use Rattle.std.specs.List.{cons_option, AllByRecursion}
use Rattle.std.proofs.lemmas.Int.{ints, clamps, by_lt_z}
use Rattle.std.proofs.lemmas.List.{append-nil}
use Rattle.batch_codec.specs.Values.{BatchValue}
use Rattle.batch_codec.specs.Offsets.{first_offset}
use Rattle.cover_ranges.specs.Runs.{Runs, covers}
use Rattle.content.specs.ByOffset.{look_up, Rises}
use Rattle.content.specs.Records.{with_common_records}
use Rattle.content.specs.Content.{Content, IsContent, IsInRange}
use Rattle.content.specs.Joins.{slot_from, batch_of_slot}
use Rattle.content_laws.proofs.ByOffset.{look_up-offset, look_up-low, rises-lower, all_from_at}
use Rattle.content_laws.proofs.Batches.{Batches}
use Rattle.content_laws.proofs.Slots.{kept_ends, slot_is}
use Rattle.segment.specs.declared.turn.Turn.{Turn}
use Rattle.segment.specs.Weaving.{woven}
use Rattle.side_by_side.specs.Plans.{EndBefore, Adds}
use Rattle.side_by_side.proofs.KeptRange.{kept_in_range}
use Rattle.side_by_side.proofs.MadeBefore.{before, before_none, before_all, before_next, made_next, all_less, all_later, all_append, all_new, IsOfBefore}
use Rattle.deltas.specs.Entries.{Entry, entry_base}
use Rattle.deltas.specs.Entries.Entry.{Listed, Sent}
use Rattle.deltas.specs.Deltas.{Delta, IsDelta}
use Rattle.deltas.specs.Patches.{said_by, said_at, with_listed, slot_patch, later_start, patch}
use Rattle.deltas.specs.Patches.Said.{Says}
use Rattle.content.specs.Joins.Slot.{Below}
use Rattle.deltas.proofs.PatchSlots.{patch_kept}
use Rattle.deltas.proofs.PatchContents.{content_patch, patch_apart, patch_bases_rise}
use Rattle.side_by_side.specs.Steps.{Step, next_of, is_done, base_of, kept_of, told_of, taken_kept, taken_told, left_over, patched_next}
use Rattle.side_by_side.specs.Steps.Step.{Done, Kept, Told, Both}
use Rattle.side_by_side.proofs.StepWalk.{Entries, chosen, IsAhead, HasCome, comes, AreBefore, are_before, base_within, kept_ahead, told_ahead}

-- ---- what is left at a base

abbrev patched_table : Step → (copy sender : Bool) → Option BatchValue
patched_table Done copy sender = None
patched_table (Kept x) copy sender = if sender then None else Some x
patched_table (Told (Listed base offsets)) copy sender = None
patched_table (Told (Sent b)) copy sender = if copy then None else Some b
patched_table (Both x (Listed base offsets)) copy sender = Some (with_listed offsets x)
patched_table (Both x (Sent b)) copy sender = Some (with_common_records x b)

table_is : (step : Step) (copy sender : Bool) → batch_of_slot (slot_patch (slot_from (kept_of step) copy) (said_by (told_of step) sender)) ≡ patched_table step copy sender
table_is Done true true = refl
table_is Done true false = refl
table_is Done false true = refl
table_is Done false false = refl
table_is (Kept x) copy true = refl
table_is (Kept x) copy false = refl
table_is (Told (Listed base offsets)) true sender = refl
table_is (Told (Listed base offsets)) false sender = refl
table_is (Told (Sent b)) true sender = refl
table_is (Told (Sent b)) false sender = refl
table_is (Both x (Listed base offsets)) copy sender = refl
table_is (Both x (Sent b)) copy sender = refl

next_is : (c : Content) (e : Delta) (n : ℤ) (step : Step) → look_up first_offset n c.kept ≡ kept_of step → look_up entry_base n e.entries ≡ told_of step
    → patched_table step (covers c.cover n) (covers e.cover n) ≡ left_over c.cover e.cover step
next_is c e n Done kept told = refl
next_is c e n (Kept x) kept told = ap (λ (k : ℤ). if covers e.cover k then None else Some x) (sym (look_up-offset first_offset n c.kept x kept))
next_is c e n (Told (Listed base offsets)) kept told = refl
next_is c e n (Told (Sent b)) kept told = ap (λ (k : ℤ). if covers c.cover k then None else Some b) (sym (look_up-offset entry_base n e.entries (Sent b) told))
next_is c e n (Both x (Listed base offsets)) kept told = refl
next_is c e n (Both x (Sent b)) kept told = refl

-- what a batch that is sent leaves doesn't hang on what the sender has seen; it comes in where the copy hasn't seen its base
pub told_alone : (copy sender other : Runs) (e : Entry) → left_over copy sender (Told e) ≡ left_over copy other (Told e)
told_alone copy sender other (Listed base offsets) = refl
told_alone copy sender other (Sent b) = refl

pub unseen_comes : (copy sender : Runs) (b : BatchValue) → covers copy (first_offset b) ≡ false → left_over copy sender (Told (Sent b)) ≡ Some b
unseen_comes copy sender b unseen = ap (λ (t : Bool). if t then None else Some b) unseen

-- of a batch of which an entry tells, something is left, with the same base
pub both_leave : (copy sender : Runs) (x : BatchValue) (e : Entry) → (z : BatchValue) × (left_over copy sender (Both x e) ≡ Some z) × (first_offset z ≡ first_offset x)
both_leave copy sender x (Listed base offsets) = (with_listed offsets x, refl, refl)
both_leave copy sender x (Sent b) = (with_common_records x b, refl, refl)

pub at_any : {T E X : Type 0} (r : Result T E) (P : X → Type 0) (x : X) → OnOk r ((y : X) → P y) → OnOk r (P x)
at_any (Ok v) P x all = all x
at_any (Err v) P x all = tt

said_is : (e : Delta) (n : ℤ) → e.start ≤ℤ n → said_at e n ≡ said_by (look_up entry_base n e.entries) (covers e.cover n)
said_is e n from =
    let least : int_lt n e.start ≡ false = grind (arith, ints, from) in
    ap (λ (t : Bool). if t then Says Below else said_by (look_up entry_base n e.entries) (covers e.cover n)) least

patched_from_start : (c : Content) (e : Delta) (n : ℤ) (step : Step) → IsContent c → IsDelta e → c.start ≤ℤ n → e.start ≤ℤ n → look_up first_offset n c.kept ≡ kept_of step → look_up entry_base n e.entries ≡ told_of step
    → look_up first_offset n (patch c e).kept ≡ left_over c.cover e.cover step
patched_from_start c e n step is delta from from_sender kept told =
    patch_kept c e n is delta
    ∙ (λ i. batch_of_slot (slot_patch (slot_is c n from i) (said_is e n from_sender i)))
    ∙ (λ i. batch_of_slot (slot_patch (slot_from (kept i) (covers c.cover n)) (said_by (told i) (covers e.cover n))))
    ∙ table_is step (covers c.cover n) (covers e.cover n)
    ∙ next_is c e n step kept told

patched_below : (c : Content) (e : Delta) (n : ℤ) → IsContent c → IsDelta e → n <ℤ later_start c e → look_up first_offset n (patch c e).kept ≡ None
patched_below c e n is delta less = look_up-low first_offset (later_start c e) n (patch c e).kept (patch_bases_rise c e is delta) less

from_both : (c : Content) (e : Delta) (n : ℤ) → later_start c e ≤ℤ n → (c.start ≤ℤ n) × (e.start ≤ℤ n)
from_both c e n from = (omega (arith, ints, clamps, from), omega (arith, ints, clamps, from))

pub patched_is : (c : Content) (e : Delta) (step : Step) → IsContent c → IsDelta e → look_up first_offset (base_of step) c.kept ≡ kept_of step → look_up entry_base (base_of step) e.entries ≡ told_of step
    → look_up first_offset (base_of step) (patch c e).kept ≡ patched_next (later_start c e) c.cover e.cover step
patched_is c e step is delta kept told = by (int_lt (base_of step) (later_start c e)) refl
  where
    by : (t : Bool) → int_lt (base_of step) (later_start c e) ≡ t → look_up first_offset (base_of step) (patch c e).kept ≡ (if t then None else left_over c.cover e.cover step)
    by true p = patched_below c e (base_of step) is delta (grind (arith, ints, p))
    by false p =
        let from = from_both c e (base_of step) (grind (arith, ints, p)) in
        patched_from_start c e (base_of step) step is delta from.0 from.1 kept told

nothing_patched : (c : Content) (e : Delta) (n : ℤ) → IsContent c → IsDelta e → look_up first_offset n c.kept ≡ None → look_up entry_base n e.entries ≡ None → look_up first_offset n (patch c e).kept ≡ None
nothing_patched c e n is delta kept told = by_lt_z n (later_start c e) (λ less. patched_below c e n is delta less)
    (λ le. let from = from_both c e n le in patched_from_start c e n Done is delta from.0 from.1 kept told)

-- ---- the walk: what is planned makes the batches that are left before what comes next

pub record IsPlanned (c : Content) (e : Delta) (xs : Batches) (es : Entries) (turns : List Turn) (more : Batches) : Type 0 where
  pub content : IsContent c
  pub delta : IsDelta e
  pub kept : IsAhead first_offset c.kept (base_of (next_of xs es)) xs
  pub told : IsAhead entry_base e.entries (base_of (next_of xs es)) es
  pub makes : (rest : List Turn) (news : Batches) → woven (turns ++ rest) c.kept (more ++ news) ≡ before (base_of (next_of xs es)) (patch c e).kept ++ woven rest xs news
  pub brings : AllByRecursion (IsOfBefore (patch c e).kept (base_of (next_of xs es))) more

patch_in_range : (c : Content) (e : Delta) → IsContent c → IsDelta e → AllByRecursion (λ b. (pos 0 ≤ℤ first_offset b) × (first_offset b <ℤ pos (2 ^ 62))) (patch c e).kept
patch_in_range c e is delta =
    let whole = content_patch c e is delta in
    all_from_at first_offset (λ (z : BatchValue). (pos 0 ≤ℤ first_offset z) × (first_offset z <ℤ pos (2 ^ 62))) (later_start c e) (patch c e).kept (patch_bases_rise c e is delta)
    (λ z f. let range = kept_in_range (patch c e) (first_offset z) z whole f in let ends = kept_ends (patch c e) (first_offset z) z whole f in (range.0, omega (arith, ints, range.1, ends)))

planned_before : (c : Content) (e : Delta) (m : ℤ) (xs : Batches) (es : Entries) (turns : List Turn) (more made : Batches) → IsContent c → IsDelta e → AreBefore c.kept e.entries m xs es
    → made ≡ before (base_of (next_of xs es)) (patch c e).kept
    → ((rest : List Turn) (news : Batches) → woven (turns ++ rest) c.kept (more ++ news) ≡ made ++ woven rest xs news)
    → AllByRecursion (IsOfBefore (patch c e).kept (base_of (next_of xs es))) more → IsPlanned c e xs es turns more
planned_before c e m xs es turns more made is delta are same makes brings = record {
  content = is;
  delta = delta;
  kept = are.kept;
  told = are.told;
  makes = λ rest news. makes rest news ∙ ap (λ (bs : Batches). bs ++ woven rest xs news) same;
  brings = brings;
}

pub planned_start : (c : Content) (e : Delta) → IsContent c → IsDelta e → IsPlanned c e c.kept e.entries [] []
planned_start c e is delta =
    let n = base_of (next_of c.kept e.entries) in
    let are : AreBefore c.kept e.entries (pos 0) c.kept e.entries = are_before c.kept e.entries (pos 0) c.kept e.entries (omega (arith, ints)) (kept_ahead c is) (told_ahead e delta) in
    let low : pos 0 ≤ℤ later_start c e = (let least = is.in_range.0 in omega (arith, ints, clamps, least)) in
    let rise : Rises first_offset (pos 0) (patch c e).kept = rises-lower first_offset (pos 0) (later_start c e) (patch c e).kept (patch_bases_rise c e is delta) low in
    let none : before (negsuc 0) (patch c e).kept ≡ [] = before_none (negsuc 0) (pos 0) (patch c e).kept rise (omega (arith, ints)) in
    let gone : look_up first_offset (negsuc 0) (patch c e).kept ≡ None = look_up-low first_offset (pos 0) (negsuc 0) (patch c e).kept rise (omega (arith, ints)) in
    let least = are.least in
    let step : before n (patch c e).kept ≡ before (negsuc 0) (patch c e).kept ++ cons_option (look_up first_offset (negsuc 0) (patch c e).kept) []
    = before_next (negsuc 0) n (pos 0) (patch c e).kept rise (omega (arith, ints, least))
    (λ k from to. nothing_patched c e k is delta (are.none_kept k (omega (arith, ints, from)) to) (are.none_told k (omega (arith, ints, from)) to)) in
    planned_before c e (pos 0) c.kept e.entries [] [] [] is delta are (sym (step ∙ (λ i. none i ++ cons_option (gone i) []))) (λ rest news. refl) tt

-- what comes next, where something does
planned_here : (c : Content) (e : Delta) (xs : Batches) (es : Entries) (turns : List Turn) (more : Batches) → IsPlanned c e xs es turns more → is_done (next_of xs es) ≡ false
    → HasCome c.kept e.entries (base_of (next_of xs es)) xs es (next_of xs es) × (pos 0 ≤ℤ base_of (next_of xs es)) × (base_of (next_of xs es) <ℤ pos (2 ^ 62))
planned_here c e xs es turns more planned some =
    let come = comes c.kept e.entries xs es planned.kept planned.told some in
    let range = base_within c e (base_of (next_of xs es)) (next_of xs es) planned.content planned.delta come.kept_here come.told_here some in
    (come, range.0, range.1)

patched_here : (c : Content) (e : Delta) (xs : Batches) (es : Entries) (turns : List Turn) (more : Batches) → IsPlanned c e xs es turns more → is_done (next_of xs es) ≡ false
    → look_up first_offset (base_of (next_of xs es)) (patch c e).kept ≡ patched_next (later_start c e) c.cover e.cover (next_of xs es)
patched_here c e xs es turns more planned some =
    let here = planned_here c e xs es turns more planned some in
    patched_is c e (next_of xs es) planned.content planned.delta here.0.kept_here here.0.told_here

end_before : (c : Content) (e : Delta) (n : ℤ) (z : BatchValue) (more : Batches) → IsContent c → IsDelta e → look_up first_offset n (patch c e).kept ≡ Some z → AllByRecursion (IsOfBefore (patch c e).kept n) more → EndBefore (first_offset z) more
end_before c e n z [] is delta there all = tt
end_before c e n z (m ∷ more) is delta there all =
    let base : first_offset z ≡ n = look_up-offset first_offset n (patch c e).kept z there in
    let ends = patch_apart c e is delta (first_offset m) n m z all.0.0 there all.0.1 in
    ((omega (arith, ints, base, all.0.1), omega (arith, ints, base, ends)), end_before c e n z more is delta there all.1)

-- there is room for what comes in
pub planned_room : (c : Content) (e : Delta) (xs : Batches) (es : Entries) (turns : List Turn) (more : Batches) → IsPlanned c e xs es turns more → is_done (next_of xs es) ≡ false
    → (z : BatchValue) → patched_next (later_start c e) c.cover e.cover (next_of xs es) ≡ Some z → IsInRange z × EndBefore (first_offset z) more
planned_room c e xs es turns more planned some z f =
    let whole = content_patch c e planned.content planned.delta in
    let there : look_up first_offset (base_of (next_of xs es)) (patch c e).kept ≡ Some z = patched_here c e xs es turns more planned some ∙ f in
    (kept_in_range (patch c e) (base_of (next_of xs es)) z whole there, end_before c e (base_of (next_of xs es)) z more planned.content planned.delta there planned.brings)

front_kept : (xs : Batches) (es : Entries) → xs ≡ cons_option (kept_of (next_of xs es)) (drop (taken_kept (next_of xs es)) xs)
front_kept [] [] = refl
front_kept [] (e ∷ es) = refl
front_kept (x ∷ xs) [] = refl
front_kept (x ∷ xs) (e ∷ es) = by (int_lt (first_offset x) (entry_base e)) (int_lt (entry_base e) (first_offset x))
  where
    by : (s t : Bool) → (x ∷ xs) ≡ cons_option (kept_of (chosen x e s t)) (drop (taken_kept (chosen x e s t)) (x ∷ xs))
    by true t = refl
    by false true = refl
    by false false = refl

pub planned_next : (c : Content) (e : Delta) (xs : Batches) (es : Entries) (turns later : List Turn) (more news : Batches) → IsPlanned c e xs es turns more → is_done (next_of xs es) ≡ false
    → Adds (kept_of (next_of xs es)) (patched_next (later_start c e) c.cover e.cover (next_of xs es)) turns later more news
    → IsPlanned c e (drop (taken_kept (next_of xs es)) xs) (drop (taken_told (next_of xs es)) es) later news
planned_next c e xs es turns later more news planned some adds =
    let next = next_of xs es in
    let n = base_of next in
    let us = drop (taken_kept next) xs in
    let vs = drop (taken_told next) es in
    let m = base_of (next_of us vs) in
    let is = planned.content in
    let delta = planned.delta in
    let here = planned_here c e xs es turns more planned some in
    let are : AreBefore c.kept e.entries (n +ℤ pos 1) us vs = are_before c.kept e.entries (n +ℤ pos 1) us vs (omega (arith, ints, here.2)) here.0.from_kept here.0.from_told in
    let least = are.least in
    let there : look_up first_offset n (patch c e).kept ≡ patched_next (later_start c e) c.cover e.cover next = patched_here c e xs es turns more planned some in
    let step : before m (patch c e).kept ≡ before n (patch c e).kept ++ cons_option (look_up first_offset n (patch c e).kept) []
    = before_next n m (later_start c e) (patch c e).kept (patch_bases_rise c e is delta) (omega (arith, ints, least))
    (λ k from to. nothing_patched c e k is delta (are.none_kept k (omega (arith, ints, from)) to) (are.none_told k (omega (arith, ints, from)) to)) in
    planned_before c e (n +ℤ pos 1) us vs later news (before n (patch c e).kept ++ cons_option (patched_next (later_start c e) c.cover e.cover next) []) is delta are
    (sym (step ∙ ap (λ (z : Option BatchValue). before n (patch c e).kept ++ cons_option z []) there))
    (made_next c.kept xs us (before n (patch c e).kept) (kept_of next) (patched_next (later_start c e) c.cover e.cover next) turns later more news adds (front_kept xs es) planned.makes)
    (subst (AllByRecursion (IsOfBefore (patch c e).kept m)) (sym adds.more_batches)
    (all_append (IsOfBefore (patch c e).kept m) more adds.batches (all_later (patch c e).kept n m more (omega (arith, ints, least)) planned.brings)
    (all_new (patch c e).kept n m (patched_next (later_start c e) c.cover e.cover next) adds.batches (omega (arith, ints, least)) there adds.brings)))

done_base : (step : Step) → is_done step ≡ true → base_of step ≡ pos (2 ^ 62)
done_base Done f = refl
done_base (Kept x) f = absurd cc
done_base (Told e) f = absurd cc
done_base (Both x e) f = absurd cc

-- all is planned
pub planned_all : (c : Content) (e : Delta) (xs : Batches) (es : Entries) (turns : List Turn) (more : Batches) → IsPlanned c e xs es turns more → is_done (next_of xs es) ≡ true → woven turns c.kept more ≡ (patch c e).kept
planned_all c e xs es turns more planned none =
    (λ i. woven (sym (append-nil turns) i) c.kept (sym (append-nil more) i))
    ∙ planned.makes [] []
    ∙ append-nil (before (base_of (next_of xs es)) (patch c e).kept)
    ∙ ap (λ (n : ℤ). before n (patch c e).kept) (done_base (next_of xs es) none)
    ∙ before_all (pos (2 ^ 62)) (patch c e).kept (all_less (pos (2 ^ 62)) (patch c e).kept (patch_in_range c e planned.content planned.delta))
