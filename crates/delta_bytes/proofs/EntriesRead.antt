-- Entries as they are read from left to right: what is read is encoded so, and what is encoded so is read.
use Rattle.std.proofs.Common.{◌≡◌, ℕ, zero, suc, ◌+◌, ◌*◌, ◌≤◌, ℤ, pos, negsuc, ◌+ℤ◌, Bool, true, false, cond, List, [], ◌∷◌, ◌++◌, length, take, drop, Option, Some, None, Result, Ok, Err, refl, sym, ap, subst, ◌∙◌, arith}
use Rattle.std.specs.Prelude.{◌≤ℤ◌, ◌&&◌, ◌||◌, ◌==◌, not, is_some, int_le, int_lt, nat_le, FitsSigned}
use Rattle.std.specs.List.{AllByRecursion, list_all, flat_map}
use Rattle.std.specs.Option.{option_map}
use Rattle.std.specs.Int.{w32, w64}
use Rattle.std.specs.Simd.{first_chunks}
use Rattle.std.proofs.lemmas.Int.{ints}
use Rattle.std.proofs.lemmas.Bool.{eqb-true}
use Rattle.std.proofs.lemmas.List.{take_at, drop_at, take-append-drop, take-take, drop-take}
use Rattle.batch_codec.specs.declared.error.BatchError.{BatchError}
use Rattle.batch_codec.specs.Values.{BatchValue}
use Rattle.batch_codec.specs.Grammar.{Writable, batch_encoding}
use Rattle.batch_codec.specs.Fields.{signed_at}
use Rattle.batch_codec.specs.Offsets.{first_offset, last_offset}
use Rattle.batch_codec.specs.Reading.{batch_of, IsEncoding}
use Rattle.batch_codec.specs.Checks.{Checked, size_at, check_batch}
use Rattle.batch_codec.proofs.Steps.{IsBytes-drop, IsBytes-take, IsBytes-rest}
use Rattle.batch_codec.proofs.Fixed.{wide32}
use Rattle.batch_codec.proofs.Batches.{framed_front}
use Rattle.batch_codec.proofs.Accepted.{accepted}
use Rattle.batch_codec.proofs.Encoded.{size_again, batch_again, checks_again}
use Rattle.cover_ranges.specs.declared.TheConstants.{OFFSETS_END}
use Rattle.cover_ranges.specs.Runs.{Runs, covers, has_all, is_within, IsCanonical}
use Rattle.cover_ranges.proofs.RunEnds.{has_all_covers, covers_has_all}
use Rattle.copy_images.specs.Reading.{is_passed}
use Rattle.copy_images.proofs.Parts.{IsBytes, signed_fits}
use Rattle.copy_images.proofs.ReadBack.{both, true_both, all_pass, pass_all, at_most, is_at_most, below, is_below, lower, is_lower, passed, cond_some, map_some, count_small}
use Rattle.deltas.specs.declared.TheConstants.{MAX_LISTED}
use Rattle.deltas.specs.Entries.{Entry, entry_last, OffsetsRise, MayFollow, IsWithin, AreEntries}
use Rattle.deltas.specs.Entries.Entry.{Listed, Sent}
use Rattle.deltas.specs.Deltas.{covers_any}
use Rattle.deltas.proofs.Asking.{asked_met}
use Rattle.delta_bytes.specs.declared.layout.TheConstants.{LISTED, SENT}
use Rattle.delta_bytes.specs.EntryBytes.{list_encoding, entry_bytes}
use Rattle.delta_bytes.specs.Judging.{offsets_of, IsListAt}
use Rattle.delta_bytes.specs.Reading.{counted_list, sized_batch, entry_at, rises, may_follow, lies_within, with_entry, entries_at}
use Rattle.delta_bytes.proofs.OffsetLists.{list_back, list_again, IsReadAs}

-- ---- one entry, from bytes

-- what is known of an entry that was read, before it is asked where it stands
abbrev IsSound : Entry → Type 0
IsSound (Listed base os) = FitsSigned w64 base × AllByRecursion (FitsSigned w64) os × (length os ≤ MAX_LISTED)
IsSound (Sent b) = Writable b

record IsFront (bytes : List ℕ) (x : Entry) (rest : List ℕ) : Type 0 where
  encoded : bytes ≡ entry_bytes x ++ rest
  fits : IsBytes rest
  sound : IsSound x

some_same : {X : Type 0} (x y : X) → Some x ≡ Some y → x ≡ y
some_same x y e = cc

pos_same : (m n : ℕ) → pos m ≡ pos n → m ≡ n
pos_same m n e = cc

as_front : (bytes : List ℕ) (p q : Entry × List ℕ) → p ≡ q → IsFront bytes p.0 p.1 → IsFront bytes q.0 q.1
as_front bytes p q same f = subst (λ (z : Entry × List ℕ). IsFront bytes z.0 z.1) same f

list_front : (bytes : List ℕ) (n : ℕ) → IsBytes bytes → signed_at w32 8 bytes ≡ pos n → 12 + 8 * n ≤ length bytes
    → IsFront (LISTED ∷ bytes) (Listed (signed_at w64 0 bytes) (offsets_of (first_chunks 8 n (take (8 * n) (drop 12 bytes))))) (drop (8 * n) (drop 12 bytes))
list_front bytes n fits counted long =
    let parts = first_chunks 8 n (take (8 * n) (drop 12 bytes)) in
    let os = offsets_of parts in
    let base = signed_at w64 0 bytes in
    let at : IsListAt base os bytes = list_back bytes base n parts fits counted (count_small (signed_at w32 8 bytes) n (signed_fits w32 wide32 8 bytes fits) counted) long refl refl in
    let again : IsReadAs base os bytes at.rest = list_again base os bytes at in
    let number : length os ≡ n = pos_same (length os) n (sym again.counted ∙ counted) in
    let rest_is : at.rest ≡ drop (8 * n) (drop 12 bytes) = again.rest_is ∙ ap (λ (m : ℕ). drop (8 * m) (drop 12 bytes)) number in
    record {
      encoded = ap (λ (z : List ℕ). LISTED ∷ z) (at.encoded ∙ ap (λ (z : List ℕ). list_encoding base os ++ z) rest_is);
      fits = IsBytes-drop (8 * n) (drop 12 bytes) (IsBytes-drop 12 bytes fits);
      sound = (at.listable.base_fits, at.listable.offsets_fit, at.listable.counted);
    }

list_read : (bytes : List ℕ) (count : ℤ) (q : Entry × List ℕ) → IsBytes bytes → signed_at w32 8 bytes ≡ count → counted_list bytes count ≡ Some q → IsFront (LISTED ∷ bytes) q.0 q.1
list_read bytes (pos n) q fits counted e =
    let here : Entry × List ℕ = (Listed (signed_at w64 0 bytes) (offsets_of (first_chunks 8 n (take (8 * n) (drop 12 bytes)))), drop (8 * n) (drop 12 bytes)) in
    let test = cond_some (nat_le (12 + 8 * n) (length bytes)) (Some here) q e in
    as_front (LISTED ∷ bytes) here q (some_same here q test.1) (list_front bytes n fits counted (at_most (12 + 8 * n) (length bytes) test.0))
list_read bytes (negsuc n) q fits counted e = absurd cc

batch_front : (bytes : List ℕ) (size : ℕ) → IsBytes bytes → size_at bytes ≡ Ok size → is_passed (check_batch (take size bytes)) ≡ true
    → IsFront (SENT ∷ bytes) (Sent (batch_of (take size bytes))) (drop size bytes)
batch_front bytes size fits sized passes =
    let part = take size bytes in
    let framed = framed_front bytes size sized in
    let is : IsEncoding part = accepted part (IsBytes-take size bytes fits) framed.1 (passed (check_batch part) passes) in
    record {
      encoded = ap (λ (z : List ℕ). SENT ∷ z) (sym (take-append-drop size bytes) ∙ ap (λ (z : List ℕ). z ++ drop size bytes) is.1);
      fits = IsBytes-drop size bytes fits;
      sound = is.0;
    }

batch_read : (bytes : List ℕ) (r : Result ℕ BatchError) (q : Entry × List ℕ) → IsBytes bytes → size_at bytes ≡ r → sized_batch bytes r ≡ Some q → IsFront (SENT ∷ bytes) q.0 q.1
batch_read bytes (Ok size) q fits sized e =
    let here : Entry × List ℕ = (Sent (batch_of (take size bytes)), drop size bytes) in
    let test = cond_some (is_passed (check_batch (take size bytes))) (Some here) q e in
    as_front (SENT ∷ bytes) here q (some_same here q test.1) (batch_front bytes size fits sized test.0)
batch_read bytes (Err x) q fits sized e = absurd cc

entry_read : (bytes : List ℕ) (q : Entry × List ℕ) → IsBytes bytes → entry_at bytes ≡ Some q → IsFront bytes q.0 q.1
entry_read [] q fits e = absurd cc
entry_read (kind ∷ bytes) q fits e = by (kind == LISTED) (kind == SENT) refl refl e
  where
    behind : IsBytes bytes
    behind = IsBytes-rest kind bytes fits

    as_kind : (k : ℕ) → kind ≡ k → IsFront (k ∷ bytes) q.0 q.1 → IsFront (kind ∷ bytes) q.0 q.1
    as_kind k same f = subst (λ (z : ℕ). IsFront (z ∷ bytes) q.0 q.1) (sym same) f

    by : (s t : Bool) → (kind == LISTED) ≡ s → (kind == SENT) ≡ t → cond s (counted_list bytes (signed_at w32 8 bytes)) (cond t (sized_batch bytes (size_at bytes)) None) ≡ Some q → IsFront (kind ∷ bytes) q.0 q.1
    by true t listed sent f = as_kind LISTED (eqb-true kind LISTED listed) (list_read bytes (signed_at w32 8 bytes) q behind refl f)
    by false true listed sent f = as_kind SENT (eqb-true kind SENT sent) (batch_read bytes (size_at bytes) q behind refl f)
    by false false listed sent f = absurd cc

-- ---- and back

-- chunks of the front alone
chunks_in_front : (n : ℕ) (xs : List ℕ) → first_chunks 8 n (take (8 * n) xs) ≡ first_chunks 8 n xs
chunks_in_front zero xs = refl
chunks_in_front (suc n) xs =
    let split : 8 * suc n ≡ 8 + 8 * n = omega arith in
    let first : take 8 (take (8 * suc n) xs) ≡ take 8 xs = take-take 8 (8 * suc n) xs (omega arith) in
    let rest : drop 8 (take (8 * suc n) xs) ≡ take (8 * n) (drop 8 xs) = ap (λ (m : ℕ). drop 8 (take m xs)) split ∙ drop-take 8 (8 * n) xs in
    λ i. first i ∷ (ap (first_chunks 8 n) rest ∙ chunks_in_front n (drop 8 xs)) i

list_is_read : (base : ℤ) (os : List ℤ) (bytes rest : List ℕ) → IsReadAs base os bytes rest → counted_list bytes (signed_at w32 8 bytes) ≡ Some (Listed base os, rest)
list_is_read base os bytes rest read =
    let n = length os in
    let long : nat_le (12 + 8 * n) (length bytes) ≡ true = is_at_most (12 + 8 * n) (length bytes) read.long in
    let offsets : offsets_of (first_chunks 8 n (take (8 * n) (drop 12 bytes))) ≡ os = ap offsets_of (chunks_in_front n (drop 12 bytes)) ∙ sym read.offsets_are in
    ap (counted_list bytes) read.counted
    ∙ (λ i. cond (long i) (Some (Listed (sym read.base_is i) (offsets i), sym read.rest_is i)) None)

abbrev front_of_batch : List ℕ → Checked → BatchValue → List ℕ → Option (Entry × List ℕ)
front_of_batch bytes checks b rest = cond (is_passed checks) (Some (Sent b, rest)) None

batch_is_read : (b : BatchValue) (rest : List ℕ) → Writable b → sized_batch (batch_encoding b ++ rest) (size_at (batch_encoding b ++ rest)) ≡ Some (Sent b, rest)
batch_is_read b rest writable =
    let bytes = batch_encoding b ++ rest in
    let size = length (batch_encoding b) in
    let front : take size bytes ≡ batch_encoding b = take_at (batch_encoding b) rest size refl in
    let back : drop size bytes ≡ rest = drop_at (batch_encoding b) rest size refl in
    ap (sized_batch bytes) (size_again b rest writable)
    ∙ (λ i. front_of_batch bytes (check_batch (front i)) (batch_of (front i)) (back i))
    ∙ (λ i. front_of_batch bytes (checks_again b writable i) (batch_again b writable i) rest)

entry_is_read : (low : ℤ) (x : Entry) (rest : List ℕ) → MayFollow low x → entry_at (entry_bytes x ++ rest) ≡ Some (x, rest)
entry_is_read low (Listed base os) rest may =
    let bytes = list_encoding base os ++ rest in
    let at : IsListAt base os bytes = record {
      listable = record { base_fits = may.1.base_fits; offsets_fit = may.1.offsets_fit; counted = may.1.counted };
      rest = rest;
      encoded = refl;
    } in
    list_is_read base os bytes rest (list_again base os bytes at)
entry_is_read low (Sent b) rest may = batch_is_read b rest may.1.0

-- ---- where it may stand

rise_says : (low : ℤ) (os : List ℤ) → rises low os ≡ true → OffsetsRise low os
rise_says low [] e = tt
rise_says low (o ∷ os) e = let h = both (int_le low o) (rises (o +ℤ pos 1) os) e in (below low o h.0, rise_says (o +ℤ pos 1) os h.1)

rise_said : (low : ℤ) (os : List ℤ) → OffsetsRise low os → rises low os ≡ true
rise_said low [] h = refl
rise_said low (o ∷ os) h = true_both (int_le low o) (rises (o +ℤ pos 1) os) (is_below low o h.0) (rise_said (o +ℤ pos 1) os h.1)

follow_says : (low : ℤ) (x : Entry) → IsSound x → may_follow low x ≡ true → MayFollow low x
follow_says low (Listed base os) sound e =
    let h = both (int_le low base) (rises base os) e in
    (below low base h.0, record { rise = rise_says base os h.1; base_fits = sound.0; offsets_fit = sound.1; counted = sound.2 })
follow_says low (Sent b) sound e =
    let h = both (int_le low (first_offset b)) _ e in
    let k = both (list_all (λ r. is_some r.key) b.recs) _ h.1 in
    let r = both (int_le (pos 0) (first_offset b)) (int_lt (last_offset b) OFFSETS_END) k.1 in
    (below low (first_offset b) h.0, (sound, all_pass (λ r. is_some r.key) b.recs k.0), (below (pos 0) (first_offset b) r.0, lower (last_offset b) OFFSETS_END r.1))

follow_said : (low : ℤ) (x : Entry) → MayFollow low x → may_follow low x ≡ true
follow_said low (Listed base os) may = true_both (int_le low base) (rises base os) (is_below low base may.0) (rise_said base os may.1.rise)
follow_said low (Sent b) may =
    true_both (int_le low (first_offset b)) _ (is_below low (first_offset b) may.0)
    (true_both (list_all (λ r. is_some r.key) b.recs) _ (pass_all (λ r. is_some r.key) b.recs may.1.1)
    (true_both (int_le (pos 0) (first_offset b)) (int_lt (last_offset b) OFFSETS_END) (is_below (pos 0) (first_offset b) may.2.0) (is_lower (last_offset b) OFFSETS_END may.2.1)))

-- an offset that is covered lies in a run that meets the span
any_said : (runs : Runs) (first last o : ℤ) → first ≤ℤ o → o ≤ℤ last → covers runs o ≡ true → covers_any runs first last ≡ true
any_said [] first last o from to e = absurd cc
any_said (r ∷ rs) first last o from to e = by (is_within o r) refl e (any_said rs first last o from to)
  where
    here : is_within o r ≡ true → (int_le r.0 last && int_le first r.1) ≡ true
    here t =
        let h = both (int_le r.0 o) (int_le o r.1) t in
        let a = below r.0 o h.0 in
        let b = below o r.1 h.1 in
        true_both (int_le r.0 last) (int_le first r.1) (is_below r.0 last (omega (arith, ints, a, to))) (is_below first r.1 (omega (arith, ints, b, from)))

    first_is : (s t : Bool) → s ≡ true → (s || t) ≡ true
    first_is s t f = grind (arith, f)

    later_is : (s t : Bool) → t ≡ true → (s || t) ≡ true
    later_is s t f = grind (arith, f)

    by : (t : Bool) → is_within o r ≡ t → (t || covers rs o) ≡ true → (covers rs o ≡ true → covers_any rs first last ≡ true) → ((int_le r.0 last && int_le first r.1) || covers_any rs first last) ≡ true
    by true f g ih = first_is _ (covers_any rs first last) (here f)
    by false f g ih = later_is (int_le r.0 last && int_le first r.1) _ (ih g)

none_says : (b : Bool) → not b ≡ true → b ≡ true → ⊥
none_says true e f = absurd cc
none_says false e f = absurd cc

none_said : (b : Bool) → (b ≡ true → ⊥) → not b ≡ true
none_said true h = absurd (h refl)
none_said false h = refl

within_says : (runs asked : Runs) (x : Entry) → lies_within runs asked x ≡ true → IsWithin runs asked x
within_says runs asked (Listed base os) e = let h = both (covers runs base) (list_all (covers runs) os) e in (h.0, all_pass (covers runs) os h.1)
within_says runs asked (Sent b) e =
    let h = both (has_all runs (first_offset b) (last_offset b)) _ e in
    (has_all_covers runs (first_offset b) (last_offset b) h.0, λ met. none_says (covers_any asked (first_offset b) (last_offset b)) h.1 (any_said asked (first_offset b) (last_offset b) met.0 met.1 met.2 met.3))

within_said : (runs asked : Runs) (low : ℤ) (x : Entry) → IsCanonical runs → IsCanonical asked → MayFollow low x → IsWithin runs asked x → lies_within runs asked x ≡ true
within_said runs asked low (Listed base os) canonical asked_canonical may within = true_both (covers runs base) (list_all (covers runs) os) within.0 (pass_all (covers runs) os within.1)
within_said runs asked low (Sent b) canonical asked_canonical may within =
    true_both (has_all runs (first_offset b) (last_offset b)) _ (covers_has_all runs (first_offset b) (last_offset b) canonical within.0)
    (none_said (covers_any asked (first_offset b) (last_offset b)) (λ e. let met = asked_met asked b asked_canonical span e in within.1 (met.offset, met.from, met.to, met.covered)))
  where
    span : first_offset b ≤ℤ last_offset b
    span = let delta : pos 0 ≤ℤ b.head.last_delta = may.1.0.valid.last_delta in omega (arith, ints, delta)

-- ---- entries one after the other

pub record AreRead (runs asked : Runs) (n : ℕ) (low : ℤ) (bytes : List ℕ) (xs : List Entry) : Type 0 where
  pub encoded : bytes ≡ flat_map entry_bytes xs
  pub counted : length xs ≡ n
  pub valid : AreEntries runs asked low xs

module _ (runs asked : Runs) where
  one_read : (n : ℕ) (low : ℤ) (bytes : List ℕ) (xs : List Entry) (o : Option (Entry × List ℕ)) → IsBytes bytes → entry_at bytes ≡ o
      → ((from : ℤ) (rest : List ℕ) (others : List Entry) → IsBytes rest → entries_at runs asked n from rest ≡ Some others → AreRead runs asked n from rest others)
      → with_entry runs asked low o (entries_at runs asked n) ≡ Some xs → AreRead runs asked (suc n) low bytes xs
  one_read n low bytes xs None fits at later e = absurd cc
  one_read n low bytes xs (Some (x, rest)) fits at later e =
      let front : IsFront bytes x rest = entry_read bytes (x, rest) fits at in
      let test = cond_some (may_follow low x && lies_within runs asked x) (option_map (λ ys. x ∷ ys) (entries_at runs asked n (entry_last x +ℤ pos 1) rest)) xs e in
      let parts = both (may_follow low x) (lies_within runs asked x) test.0 in
      let others = map_some (λ ys. x ∷ ys) (entries_at runs asked n (entry_last x +ℤ pos 1) rest) xs test.1 in
      let read : AreRead runs asked n (entry_last x +ℤ pos 1) rest others.0 = later (entry_last x +ℤ pos 1) rest others.0 front.fits others.1 in
      subst (AreRead runs asked (suc n) low bytes) others.2 (record {
        encoded = front.encoded ∙ ap (λ (z : List ℕ). entry_bytes x ++ z) read.encoded;
        counted = ap suc read.counted;
        valid = (follow_says low x front.sound parts.0, within_says runs asked x parts.1, read.valid);
      })

  pub entries_read : (n : ℕ) (low : ℤ) (bytes : List ℕ) (xs : List Entry) → IsBytes bytes → entries_at runs asked n low bytes ≡ Some xs → AreRead runs asked n low bytes xs
  unfolding entries_at
  entries_read zero low [] xs fits e =
      let none : [] ≡ xs = cc in
      subst (AreRead runs asked 0 low []) none (record { encoded = refl; counted = refl; valid = tt })
  entries_read zero low (x ∷ bytes) xs fits e = absurd (grind (arith, e))
  entries_read (suc n) low bytes xs fits e = one_read n low bytes xs (entry_at bytes) fits refl (entries_read n) e

  pub entries_are_read : (low : ℤ) (xs : List Entry) → IsCanonical runs → IsCanonical asked → AreEntries runs asked low xs → entries_at runs asked (length xs) low (flat_map entry_bytes xs) ≡ Some xs
  unfolding entries_at
  entries_are_read low [] canonical asked_canonical valid = refl
  entries_are_read low (x ∷ xs) canonical asked_canonical valid =
      let others = flat_map entry_bytes xs in
      let test : (may_follow low x && lies_within runs asked x) ≡ true =
      true_both (may_follow low x) (lies_within runs asked x) (follow_said low x valid.0) (within_said runs asked low x canonical asked_canonical valid.0 valid.1) in
      ap (λ (o : Option (Entry × List ℕ)). with_entry runs asked low o (entries_at runs asked (length xs))) (entry_is_read low x others valid.0)
      ∙ (λ i. cond (test i) (option_map (λ ys. x ∷ ys) (entries_are_read (entry_last x +ℤ pos 1) xs canonical asked_canonical valid.2 i)) None)
