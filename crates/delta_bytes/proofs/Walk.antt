-- Entries judged one after the other.
use Rattle.std.proofs.Common.{◌≡◌, ℕ, ◌+◌, ◌-◌, ◌≤◌, ◌<◌, ℤ, pos, ◌+ℤ◌, true, List, [], ◌∷◌, ◌++◌, length, take, drop, refl, sym, ap, subst, ◌∙◌, append_assoc, append-nil, arith}
use Rattle.std.specs.Prelude.{◌<ℤ◌, ◌≤ℤ◌, ◌↔◌, ◌^◌, IsTrue}
use Rattle.std.specs.List.{flat_map, fold}
use Rattle.std.proofs.lemmas.Int.{ints}
use Rattle.std.proofs.lemmas.List.{length-append, take_rest, drop_at}
use Rattle.std.proofs.lemmas.Grind.{flat_map-append}
use Rattle.batch_codec.specs.Offsets.{first_offset}
use Rattle.cover_ranges.specs.Runs.{Runs, covers, IsCanonical}
use Rattle.cover_ranges.proofs.RunsFrom.{RunsFrom, canonical_from, from_canonical}
use Rattle.copy_images.specs.Judging.{ending_from}
use Rattle.copy_images.proofs.Judged.{skipped}
use Rattle.deltas.specs.declared.TheConstants.{LEAST_BASE}
use Rattle.delta_bytes.specs.declared.entry.EntryError.{EntryError}
use Rattle.delta_bytes.specs.declared.entry.EntryError.TheVariants.{Bad, Unseen}
use Rattle.delta_bytes.specs.declared.error.EntriesError.TheVariants.{BadBatch, Outside, Extra}
use Rattle.deltas.specs.Entries.{Entry, last_listed, entry_base, entry_last, OffsetsRise, AreCovered, MayFollow, IsWithin, AreEntries}
use Rattle.deltas.specs.Entries.Entry.{Listed, Sent}
use Rattle.delta_bytes.specs.EntryBytes.{entry_bytes, IsNext, low_after}
use Rattle.delta_bytes.specs.EntryLists.{HasEntries, HoldsEntries, EntriesFault}
use Rattle.delta_bytes.specs.Judging.{IsEntryAt, RefusesEntry}
use Rattle.delta_bytes.proofs.Covered.{SameFrom, ending_same, covered_within}

-- ---- where an entry ends

listed_end : (base : ℤ) (os : List ℤ) → OffsetsRise base os → base ≤ℤ last_listed base os
listed_end base [] rise = omega (arith, ints)
listed_end base (o ∷ os) rise =
    let a : base ≤ℤ o = rise.0 in
    let b : o ≤ℤ last_listed o os = later o os rise.1 in
    omega (arith, ints, a, b)
  where
    later : (o : ℤ) (os : List ℤ) → OffsetsRise (o +ℤ pos 1) os → o ≤ℤ last_listed o os
    later o [] rise = omega (arith, ints)
    later o (q ∷ os) rise =
        let a : (o +ℤ pos 1) ≤ℤ q = rise.0 in
        let b : q ≤ℤ last_listed q os = later q os rise.1 in
        omega (arith, ints, a, b)

pub entry_end : (low : ℤ) (x : Entry) → MayFollow low x → (low ≤ℤ entry_base x) × (entry_base x ≤ℤ entry_last x)
entry_end low (Listed base os) may = (may.0, listed_end base os may.1.rise)
entry_end low (Sent b) may =
    let delta : pos 0 ≤ℤ b.head.last_delta = may.1.0.valid.last_delta in
    (may.0, omega (arith, ints, delta))

listed_covered : (runs : Runs) (base : ℤ) (os : List ℤ) → covers runs base ≡ true → AreCovered runs os → covers runs (last_listed base os) ≡ true
listed_covered runs base [] b h = b
listed_covered runs base (o ∷ os) b h = listed_covered runs o os h.0 h.1

-- what lies in ranges ends below 2 ^ 62
pub last_small : (runs asked : Runs) (low : ℤ) (x : Entry) → RunsFrom (pos 0) runs → MayFollow low x → IsWithin runs asked x → entry_last x <ℤ pos (2 ^ 62)
last_small runs asked low (Listed base os) h may within = (covered_within (pos 0) (last_listed base os) runs h (listed_covered runs base os within.0 within.1)).1
last_small runs asked low (Sent b) h may within = may.2.1

-- ---- within the ranges that are left

listed_same : (low : ℤ) (runs left : Runs) (os : List ℤ) → SameFrom low runs left → OffsetsRise low os → AreCovered runs os → AreCovered left os
listed_same low runs left [] same rise h = tt
listed_same low runs left (o ∷ os) same rise h =
    (sym (same o rise.0) ∙ h.0, listed_same (o +ℤ pos 1) runs left os (λ q le. same q (later low o q rise.0 le)) rise.1 h.1)
  where
    later : (low o q : ℤ) → low ≤ℤ o → (o +ℤ pos 1) ≤ℤ q → low ≤ℤ q
    later low o q a b = omega (arith, ints, a, b)

turned : (low : ℤ) (runs left : Runs) → SameFrom low runs left → SameFrom low left runs
turned low runs left same o le = sym (same o le)

trans : (a b c : ℤ) → a ≤ℤ b → b ≤ℤ c → a ≤ℤ c
trans a b c p q = omega (arith, ints, p, q)

within_left : (low : ℤ) (runs asked left asked_left : Runs) (x : Entry) → SameFrom low runs left → SameFrom low asked asked_left → MayFollow low x → IsWithin runs asked x → IsWithin left asked_left x
within_left low runs asked left asked_left (Listed base os) same same_asked may within =
    (sym (same base may.0) ∙ within.0, listed_same base runs left os (λ q le. same q (trans low base q may.0 le)) may.1.rise within.1)
within_left low runs asked left asked_left (Sent b) same same_asked may within = (
  λ o p q. subst IsTrue (same o (trans low (first_offset b) o may.0 p)) (within.0 o p q),
  λ any. within.1 (any.0, any.1, any.2, subst IsTrue (sym (same_asked any.0 (trans low (first_offset b) any.0 may.0 any.1))) any.3),
)

pub within_same : (low : ℤ) (runs asked left asked_left : Runs) (x : Entry) → SameFrom low runs left → SameFrom low asked asked_left → MayFollow low x → IsWithin runs asked x ↔ IsWithin left asked_left x
within_same low runs asked left asked_left x same same_asked may =
    (within_left low runs asked left asked_left x same same_asked may, within_left low left asked_left runs asked x (turned low runs left same) (turned low asked asked_left same_asked) may)

-- ---- one entry more

abbrev pub low_from : ℤ → List Entry → ℤ
low_from low xs = fold (λ _ x. entry_last x +ℤ pos 1) low xs

low_more : (low : ℤ) (xs : List Entry) (x : Entry) → low_from low (xs ++ x ∷ []) ≡ entry_last x +ℤ pos 1
low_more low [] x = refl
low_more low (y ∷ ys) x = low_more (entry_last y +ℤ pos 1) ys x

entries_more : (runs asked : Runs) (low : ℤ) (xs : List Entry) (x : Entry) → AreEntries runs asked low xs → MayFollow (low_from low xs) x → IsWithin runs asked x → AreEntries runs asked low (xs ++ x ∷ [])
entries_more runs asked low [] x h may within = (may, within, tt)
entries_more runs asked low (y ∷ ys) x h may within = (h.0, h.1, entries_more runs asked (entry_last y +ℤ pos 1) ys x h.2 may within)

-- how far the loop has come
pub record IsWalked (runs asked : Runs) (bytes : List ℕ) (index : ℕ) (low : ℤ) (rest : List ℕ) (left asked_left : Runs) : Type 0 where
  pub entries : List Entry
  pub has : HasEntries runs asked entries bytes rest
  pub counted : length entries ≡ index
  pub low_is : low ≡ low_after entries
  pub canonical : IsCanonical left
  pub asked_canonical : IsCanonical asked_left
  pub same : SameFrom low runs left
  pub asked_same : SameFrom low asked asked_left

pub none_walked : (runs asked : Runs) (bytes : List ℕ) → IsCanonical runs → IsCanonical asked → IsWalked runs asked bytes 0 LEAST_BASE bytes runs asked
none_walked runs asked bytes canonical asked_canonical = record {
  entries = [];
  has = record { encoded = refl; valid = tt };
  counted = refl;
  low_is = refl;
  canonical = canonical;
  asked_canonical = asked_canonical;
  same = λ o le. refl;
  asked_same = λ o le. refl;
}

left_canonical : (o : ℤ) (runs : Runs) → IsCanonical runs → IsCanonical (ending_from o runs)
left_canonical o runs canonical = from_canonical (pos 0) (ending_from o runs) zero_least (skipped (pos 0) o runs (canonical_from runs canonical))
  where
    zero_least : pos 0 ≤ℤ pos 0
    zero_least = omega (arith, ints)

-- what the entry ends at is a number of 64 bits, and so is the one after it
pub at_entry_small : (left asked_left : Runs) (low : ℤ) (rest : List ℕ) (last : ℤ) (size : ℕ) → IsCanonical left → IsEntryAt left asked_left low rest last size → last <ℤ pos (2 ^ 62)
at_entry_small left asked_left low rest last size canonical at =
    subst (λ (z : ℤ). z <ℤ pos (2 ^ 62)) (sym at.last_is) (last_small left asked_left low at.entry (canonical_from left canonical) at.next.may_follow at.within)

pub at_entry_long : (left asked_left : Runs) (low : ℤ) (rest : List ℕ) (last : ℤ) (size : ℕ) → IsEntryAt left asked_left low rest last size → size ≤ length rest
at_entry_long left asked_left low rest last size at = omega (arith, at.size_is, ap length at.next.encoded, length-append (entry_bytes at.entry) at.next.rest)

pub one_walked : (runs asked : Runs) (bytes : List ℕ) (index : ℕ) (low : ℤ) (rest : List ℕ) (left asked_left : Runs) (last : ℤ) (size : ℕ) → IsWalked runs asked bytes index low rest left asked_left → IsEntryAt left asked_left low rest last size
    → IsWalked runs asked bytes (index + 1) (last +ℤ pos 1) (take (length rest - size) (drop size rest)) (ending_from (last +ℤ pos 1) left) (ending_from (last +ℤ pos 1) asked_left)
one_walked runs asked bytes index low rest left asked_left last size w at =
    let x = at.entry in
    let xs = w.entries in
    let more = take (length rest - size) (drop size rest) in
    let ends = entry_end low x at.next.may_follow in
    let below : low ≤ℤ last = subst (λ (z : ℤ). low ≤ℤ z) (sym at.last_is) (trans low (entry_base x) (entry_last x) ends.0 ends.1) in
    let within : IsWithin runs asked x = (within_same low runs asked left asked_left x w.same w.asked_same at.next.may_follow).1 at.within in
    let behind : more ≡ at.next.rest = take_rest rest size ∙ ap (drop size) at.next.encoded ∙ drop_at (entry_bytes x) at.next.rest size (sym at.size_is) in
    let is : rest ≡ entry_bytes x ++ more = at.next.encoded ∙ ap (λ (z : List ℕ). entry_bytes x ++ z) (sym behind) in
    record {
      entries = xs ++ x ∷ [];
      has = record {
        encoded = w.has.encoded ∙ ap (λ (z : List ℕ). flat_map entry_bytes xs ++ z) is ∙ sym (append_assoc (flat_map entry_bytes xs) (entry_bytes x) more)
            ∙ ap (λ (z : List ℕ). z ++ more) (sym (flat_map-append entry_bytes xs (x ∷ []) ∙ ap (λ (z : List ℕ). flat_map entry_bytes xs ++ z) (append-nil (entry_bytes x))));
        valid = entries_more runs asked LEAST_BASE xs x w.has.valid (subst (λ (z : ℤ). MayFollow z x) w.low_is at.next.may_follow) within;
      };
      counted = omega (arith, length-append xs (x ∷ []), w.counted);
      low_is = ap (λ (z : ℤ). z +ℤ pos 1) at.last_is ∙ sym (low_more LEAST_BASE xs x);
      canonical = left_canonical (last +ℤ pos 1) left w.canonical;
      asked_canonical = left_canonical (last +ℤ pos 1) asked_left w.asked_canonical;
      same = λ o le. w.same o (past low last o below le) ∙ ending_same (last +ℤ pos 1) left o le;
      asked_same = λ o le. w.asked_same o (past low last o below le) ∙ ending_same (last +ℤ pos 1) asked_left o le;
    }
  where
    past : (low last o : ℤ) → low ≤ℤ last → (last +ℤ pos 1) ≤ℤ o → low ≤ℤ o
    past low last o a b = omega (arith, ints, a, b)

-- ---- the ways out

pub no_next : (runs asked : Runs) (bytes : List ℕ) (index count : ℕ) (low : ℤ) (rest : List ℕ) (left asked_left : Runs) (fault : EntryError) → IsWalked runs asked bytes index low rest left asked_left → index < count
    → fault ≡ Bad → RefusesEntry left asked_left low rest fault → EntriesFault runs asked count bytes (BadBatch index)
no_next runs asked bytes index count low rest left asked_left fault w few is refuses =
    let none : RefusesEntry left asked_left low rest Bad = subst (RefusesEntry left asked_left low rest) is refuses in
    (w.entries, rest, w.has, w.counted, few, λ x next. none x (subst (λ (z : ℤ). IsNext z x rest) (sym w.low_is) next))

pub not_within : (runs asked : Runs) (bytes : List ℕ) (index count : ℕ) (low : ℤ) (rest : List ℕ) (left asked_left : Runs) (fault : EntryError) → IsWalked runs asked bytes index low rest left asked_left → index < count
    → fault ≡ Unseen → RefusesEntry left asked_left low rest fault → EntriesFault runs asked count bytes Outside
not_within runs asked bytes index count low rest left asked_left fault w few is refuses =
    let unseen : RefusesEntry left asked_left low rest Unseen = subst (RefusesEntry left asked_left low rest) is refuses in
    let next = unseen.1 in (
      w.entries,
      rest,
      unseen.0,
      w.has,
      omega (arith, few, w.counted),
      subst (λ (z : ℤ). IsNext z unseen.0 rest) w.low_is next,
      λ within. unseen.2 ((within_same low runs asked left asked_left unseen.0 w.same w.asked_same next.may_follow).0 within),
    )

pub more_bytes : (runs asked : Runs) (bytes : List ℕ) (index count : ℕ) (low : ℤ) (rest : List ℕ) (left asked_left : Runs) → IsWalked runs asked bytes index low rest left asked_left → index ≤ count → count ≤ index → 0 < length rest
    → EntriesFault runs asked count bytes Extra
more_bytes runs asked bytes index count low rest left asked_left w most least some = (w.entries, rest, w.has, omega (arith, w.counted, most, least), some)

pub all_walked : (runs asked : Runs) (bytes : List ℕ) (index count : ℕ) (low : ℤ) (rest : List ℕ) (left asked_left : Runs) → IsWalked runs asked bytes index low rest left asked_left → index ≤ count → count ≤ index → rest ≡ []
    → HoldsEntries runs asked count bytes
all_walked runs asked bytes index count low rest left asked_left w most least none =
    (w.entries, subst (HasEntries runs asked w.entries bytes) none w.has, omega (arith, w.counted, most, least))

-- ---- as code has it

pub walked_step : (runs asked : Runs) (bytes : List ℕ) (index : ℕ) (low next_low : ℤ) (rest : List ℕ) (left asked_left new new_asked : Runs) (last : ℤ) (size : ℕ) → IsWalked runs asked bytes index low rest left asked_left
    → IsEntryAt left asked_left low rest last size → next_low ≡ last +ℤ pos 1 → new ≡ ending_from next_low left → new_asked ≡ ending_from next_low asked_left
    → IsWalked runs asked bytes (index + 1) next_low (take (length rest - size) (drop size rest)) new new_asked
walked_step runs asked bytes index low next_low rest left asked_left new new_asked last size w at is cut asked_cut =
    let more = take (length rest - size) (drop size rest) in
    let step = one_walked runs asked bytes index low rest left asked_left last size w at in
    let with_low : IsWalked runs asked bytes (index + 1) next_low more (ending_from next_low left) (ending_from next_low asked_left) =
    subst (λ (z : ℤ). IsWalked runs asked bytes (index + 1) z more (ending_from z left) (ending_from z asked_left)) (sym is) step in
    subst (λ (x : Runs). IsWalked runs asked bytes (index + 1) next_low more new x) (sym asked_cut) (subst (λ (x : Runs). IsWalked runs asked bytes (index + 1) next_low more x (ending_from next_low asked_left)) (sym cut) with_low)
