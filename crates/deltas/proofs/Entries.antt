-- The entries of a delta: they rise by base, and each ends before the next one begins.
use Rattle.std.proofs.Common.{◌≡◌, ℤ, pos, ◌+ℤ◌, Bool, true, false, cond, List, [], ◌∷◌, map, Option, Some, None, refl, sym, ap, subst, ◌∙◌, arith}
use Rattle.std.specs.Prelude.{◌≤ℤ◌, ◌<ℤ◌, if◌then◌else◌}
use Rattle.std.specs.List.{AllByRecursion}
use Rattle.std.specs.Option.{option_map, option_and_then}
use Rattle.std.specs.Ordering.{int_eq}
use Rattle.std.proofs.lemmas.Int.{ints, by_lt_z}
use Rattle.batch_codec.specs.Values.{BatchValue}
use Rattle.batch_codec.specs.Offsets.{first_offset}
use Rattle.cover_ranges.specs.Runs.{Runs}
use Rattle.content.specs.ByOffset.{look_up, Rises}
use Rattle.content_laws.proofs.ByOffset.{look_up-low, rises-lower, all_at}
use Rattle.deltas.specs.Entries.{Entry, OffsetsRise, last_listed, entry_base, entry_last, batch_sent, sent, MayFollow, IsWithin, AreEntries}
use Rattle.deltas.specs.Entries.Entry.{Listed, Sent}
use Rattle.deltas.specs.Deltas.{is_asked, entry_for, offsets_of}

abbrev pub Batches : Type 0
Batches = List BatchValue

-- ---- an entry begins at its bound or later, and ends at its base or later

pub listed_least : (base : ℤ) (offsets : List ℤ) → OffsetsRise base offsets → base ≤ℤ last_listed base offsets
listed_least base [] rise = omega (arith, ints)
listed_least base (o ∷ offsets) rise =
    let rest : o ≤ℤ last_listed o offsets = listed_least o offsets (rises-lower (λ (k : ℤ). k) o (o +ℤ pos 1) offsets rise.1 (omega (arith, ints))) in
    let least : base ≤ℤ o = rise.0 in
    omega (arith, ints, least, rest)

pub entry_from : (low : ℤ) (x : Entry) → MayFollow low x → low ≤ℤ entry_base x
entry_from low (Listed base offsets) may = may.0
entry_from low (Sent b) may = may.0

pub entry_end : (low : ℤ) (x : Entry) → MayFollow low x → entry_base x ≤ℤ entry_last x
entry_end low (Listed base offsets) may = listed_least base offsets may.1.rise
entry_end low (Sent b) may = let least : pos 0 ≤ℤ b.head.last_delta = may.1.0.valid.last_delta in omega (arith, ints, least)

follows_lower : (low high : ℤ) (x : Entry) → low ≤ℤ high → MayFollow high x → MayFollow low x
follows_lower low high (Listed base offsets) less may = let old = may.0 in (omega (arith, ints, less, old), may.1)
follows_lower low high (Sent b) less may = let old = may.0 in (omega (arith, ints, less, old), may.1, may.2)

pub entries_lower : (runs asked : Runs) (low high : ℤ) (xs : List Entry) → low ≤ℤ high → AreEntries runs asked high xs → AreEntries runs asked low xs
entries_lower runs asked low high [] less are = tt
entries_lower runs asked low high (x ∷ xs) less are = (follows_lower low high x less are.0, are.1, are.2)

pub entries_rise : (runs asked : Runs) (low : ℤ) (xs : List Entry) → AreEntries runs asked low xs → Rises entry_base low xs
entries_rise runs asked low [] are = tt
entries_rise runs asked low (x ∷ xs) are =
    let end : entry_base x ≤ℤ entry_last x = entry_end low x are.0 in (
      entry_from low x are.0,
      rises-lower entry_base (entry_base x +ℤ pos 1) (entry_last x +ℤ pos 1) xs (entries_rise runs asked (entry_last x +ℤ pos 1) xs are.2) (omega (arith, ints, end)),
    )

-- ---- what stands in a list of entries

-- an entry by itself, whatever stands before it
abbrev pub IsEntry : Runs → Runs → Entry → Type 0
IsEntry runs asked x = MayFollow (entry_base x) x × IsWithin runs asked x

own_bound : (low : ℤ) (x : Entry) → MayFollow low x → MayFollow (entry_base x) x
own_bound low (Listed base offsets) may = (omega (arith, ints), may.1)
own_bound low (Sent b) may = (omega (arith, ints), may.1, may.2)

pub each_entry : (runs asked : Runs) (low : ℤ) (xs : List Entry) → AreEntries runs asked low xs → AllByRecursion (IsEntry runs asked) xs
each_entry runs asked low [] are = tt
each_entry runs asked low (x ∷ xs) are = ((own_bound low x are.0, are.1), each_entry runs asked (entry_last x +ℤ pos 1) xs are.2)

pub entry_holds : (runs asked : Runs) (low o : ℤ) (xs : List Entry) (x : Entry) → AreEntries runs asked low xs → look_up entry_base o xs ≡ Some x → IsEntry runs asked x
entry_holds runs asked low o xs x are e = all_at entry_base (IsEntry runs asked) o xs x (each_entry runs asked low xs are) e

key_is : (k j : ℤ) → int_eq k j ≡ true → k ≡ j
key_is k j t = grind (arith, ints, t)

two_keys : (k i j : ℤ) → int_eq k i ≡ true → int_eq k j ≡ true → i <ℤ j → ⊥
two_keys k i j s t less = grind (arith, ints, s, t, less)

pub entries_apart : (runs asked : Runs) (low i j : ℤ) (xs : List Entry) (x z : Entry) → AreEntries runs asked low xs
    → look_up entry_base i xs ≡ Some x → look_up entry_base j xs ≡ Some z → i <ℤ j → entry_last x <ℤ j
entries_apart runs asked low i j [] x z are e f less = absurd cc
entries_apart runs asked low i j (y ∷ ys) x z are e f less =
    by (int_eq (entry_base y) i) (int_eq (entry_base y) j) refl refl e f (entries_apart runs asked (entry_last y +ℤ pos 1) i j ys x z are.2)
  where
    clash : (w : Option Entry) (v : Entry) → w ≡ Some v → w ≡ None → ⊥
    clash w v p q = cc

    rise : Rises entry_base (entry_last y +ℤ pos 1) ys
    rise = entries_rise runs asked (entry_last y +ℤ pos 1) ys are.2

    past : (k : ℤ) (w : Entry) → look_up entry_base k ys ≡ Some w → entry_last y <ℤ k
    past k w is = by_lt_z (entry_last y) k (λ l. l) (λ le. absurd (clash (look_up entry_base k ys) w is (look_up-low entry_base (entry_last y +ℤ pos 1) k ys rise (omega (arith, ints, le)))))

    by : (p q : Bool) → int_eq (entry_base y) i ≡ p → int_eq (entry_base y) j ≡ q
        → cond p (Some y) (look_up entry_base i ys) ≡ Some x → cond q (Some y) (look_up entry_base j ys) ≡ Some z
        → (look_up entry_base i ys ≡ Some x → look_up entry_base j ys ≡ Some z → i <ℤ j → entry_last x <ℤ j) → entry_last x <ℤ j
    by true true s t f g ih = absurd (two_keys (entry_base y) i j s t less)
    by true false s t f g ih = let same : y ≡ x = cc in subst (λ (w : Entry). entry_last w <ℤ j) same (past j z g)
    by false true s t f g ih =
        let same : entry_base y ≡ j = key_is (entry_base y) j t in
        let end : entry_base y ≤ℤ entry_last y = entry_end low y are.0 in
        absurd (omega (arith, ints, same, end, past i x f, less))
    by false false s t f g ih = ih f g less

-- ---- the batches that are sent whole

pub sent_at : (low o : ℤ) (xs : List Entry) → Rises entry_base low xs → look_up first_offset o (sent xs) ≡ option_and_then batch_sent (look_up entry_base o xs)
sent_at low o [] rise = refl
sent_at low o (Listed base offsets ∷ xs) rise = grind (arith, ints, sent_at (base +ℤ pos 1) o xs rise.1, look_up-low entry_base (base +ℤ pos 1) o xs rise.1)
sent_at low o (Sent b ∷ xs) rise = grind (arith, ints, sent_at (first_offset b +ℤ pos 1) o xs rise.1)

pub sent_rises : (low : ℤ) (xs : List Entry) → Rises entry_base low xs → Rises first_offset low (sent xs)
sent_rises low [] rise = tt
sent_rises low (Listed base offsets ∷ xs) rise = let least : low ≤ℤ base = rise.0 in rises-lower first_offset low (base +ℤ pos 1) (sent xs) (sent_rises (base +ℤ pos 1) xs rise.1) (omega (arith, ints, least))
sent_rises low (Sent b ∷ xs) rise = (rise.0, sent_rises (first_offset b +ℤ pos 1) xs rise.1)

sent_is : (z : Option Entry) (b : BatchValue) → option_and_then batch_sent z ≡ Some b → z ≡ Some (Sent b)
sent_is None b e = absurd cc
sent_is (Some (Listed base offsets)) b e = absurd cc
sent_is (Some (Sent x)) b e = let same : x ≡ b = cc in ap (λ (y : BatchValue). Some (Sent y)) same

pub sent_entry : (low o : ℤ) (xs : List Entry) (b : BatchValue) → Rises entry_base low xs → look_up first_offset o (sent xs) ≡ Some b → look_up entry_base o xs ≡ Some (Sent b)
sent_entry low o xs b rise e = sent_is (look_up entry_base o xs) b (sym (sent_at low o xs rise) ∙ e)

-- ---- the entries for a copy's batches

pub entry_for_base : (asked : Runs) (b : BatchValue) → entry_base (entry_for asked b) ≡ first_offset b
entry_for_base asked b = by (is_asked asked b)
  where
    by : (t : Bool) → entry_base (if t then Listed (first_offset b) (offsets_of b) else Sent b) ≡ first_offset b
    by true = refl
    by false = refl

pub entry_at : (asked : Runs) (o : ℤ) (bs : Batches) → look_up entry_base o (map (entry_for asked) bs) ≡ option_map (entry_for asked) (look_up first_offset o bs)
entry_at asked o [] = refl
entry_at asked o (b ∷ bs) = grind (arith, ints, entry_for_base asked b, entry_at asked o bs)

pub entries_for_rise : (asked : Runs) (low : ℤ) (bs : Batches) → Rises first_offset low bs → Rises entry_base low (map (entry_for asked) bs)
entries_for_rise asked low [] rise = tt
entries_for_rise asked low (b ∷ bs) rise =
    subst (λ (k : ℤ). (low ≤ℤ k) × Rises entry_base (k +ℤ pos 1) (map (entry_for asked) bs)) (sym (entry_for_base asked b))
    (rise.0, entries_for_rise asked (first_offset b +ℤ pos 1) bs rise.1)
