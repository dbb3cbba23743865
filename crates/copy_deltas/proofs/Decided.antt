-- The test of batches and entries says whether a copy may take a delta.
use Rattle.std.proofs.Common.{◌≡◌, ℤ, Bool, true, false, List, [], ◌∷◌, Option, Some, None, refl, subst, ◌∙◌, arith}
use Rattle.std.specs.Prelude.{◌≤ℤ◌, ◌<ℤ◌, ◌↔◌, ◌&&◌, int_lt, int_le, if◌then◌else◌}
use Rattle.std.specs.List.{AllByRecursion, list_all}
use Rattle.std.proofs.lemmas.Int.{ints}
use Rattle.batch_codec.specs.Values.{BatchValue}
use Rattle.batch_codec.specs.Offsets.{first_offset, last_offset}
use Rattle.cover_ranges.specs.Runs.{covers}
use Rattle.content.specs.ByOffset.{look_up}
use Rattle.content.specs.Content.{Content, IsContent}
use Rattle.content_laws.proofs.ByOffset.{look_up-offset, all_at, all_from_at}
use Rattle.copy_images.proofs.ReadBack.{both, true_both, all_pass, pass_all, below, is_below, lower, is_lower}
use Rattle.copy_merge.specs.Agreeing.{agree}
use Rattle.copy_merge.proofs.Deciding.{decided}
use Rattle.deltas.specs.declared.TheConstants.{LEAST_BASE}
use Rattle.deltas.specs.Entries.{Entry, entry_base}
use Rattle.deltas.specs.Entries.Entry.{Listed, Sent}
use Rattle.deltas.specs.Deltas.{Delta, IsDelta}
use Rattle.deltas.specs.Patches.{said_at, said_by}
use Rattle.deltas.specs.Patches.Said.{Says, Lists}
use Rattle.content.specs.Joins.Slot.{Below}
use Rattle.deltas.specs.Accepting.{sent_part, ListFitsAt, Accepts}
use Rattle.deltas.proofs.Sayings.{rises_all, entry_above}
use Rattle.deltas.proofs.SentParts.{sent_content}
use Rattle.copy_deltas.specs.Deciding.{end_within, list_fits, accepts}

-- ---- what is listed at a base

record IsListedAt (e : Delta) (base : ℤ) (offsets : List ℤ) : Type 0 where
  entry : look_up entry_base base e.entries ≡ Some (Listed base offsets)

listed_at : (e : Delta) (base : ℤ) (offsets : List ℤ) → said_at e base ≡ Lists offsets → IsListedAt e base offsets
listed_at e base offsets said = by (int_lt base e.start) (look_up entry_base base e.entries) (covers e.cover base) refl said
  where
    by : (t : Bool) (z : Option Entry) (s : Bool) → look_up entry_base base e.entries ≡ z → (if t then Says Below else said_by z s) ≡ Lists offsets → IsListedAt e base offsets
    by true z s there f = absurd cc
    by false None true there f = absurd cc
    by false None false there f = absurd cc
    by false (Some (Sent b)) s there f = absurd cc
    by false (Some (Listed o os)) s there f =
        let same : o ≡ base = look_up-offset entry_base base e.entries (Listed o os) there in
        let offsets_same : os ≡ offsets = cc in
        record { entry = there ∙ (λ i. Some (Listed (same i) (offsets_same i))) }

listed_says : (e : Delta) (base : ℤ) (offsets : List ℤ) → IsDelta e → look_up entry_base base e.entries ≡ Some (Listed base offsets) → said_at e base ≡ Lists offsets
listed_says e base offsets is there =
    let from : e.start ≤ℤ base = entry_above e base (Listed base offsets) is there in
    let later : int_lt base e.start ≡ false = grind (arith, ints, from) in
    (λ i. if later i then Says Below else said_by (there i) (covers e.cover base))

-- ---- the test of a list

ends_say : (offsets : List ℤ) (z : Option BatchValue) → end_within offsets z ≡ true → (b : BatchValue) → z ≡ Some b → AllByRecursion (λ o. o ≤ℤ last_offset b) offsets
ends_say offsets None e b f = absurd cc
ends_say offsets (Some x) e b f = within offsets (subst (λ (y : BatchValue). list_all (λ o. int_le o (last_offset y)) offsets ≡ true) same e)
  where
    same : x ≡ b
    same = cc

    within : (os : List ℤ) → list_all (λ o. int_le o (last_offset b)) os ≡ true → AllByRecursion (λ o. o ≤ℤ last_offset b) os
    within [] e = tt
    within (o ∷ os) e = let h = both (int_le o (last_offset b)) (list_all (λ q. int_le q (last_offset b)) os) e in (below o (last_offset b) h.0, within os h.1)

ends_said : (offsets : List ℤ) (z : Option BatchValue) → ((b : BatchValue) → z ≡ Some b → AllByRecursion (λ o. o ≤ℤ last_offset b) offsets) → end_within offsets z ≡ true
ends_said offsets None h = refl
ends_said offsets (Some x) h = within offsets (h x refl)
  where
    within : (os : List ℤ) → AllByRecursion (λ o. o ≤ℤ last_offset x) os → list_all (λ o. int_le o (last_offset x)) os ≡ true
    within [] all = refl
    within (o ∷ os) all = true_both (int_le o (last_offset x)) (list_all (λ q. int_le q (last_offset x)) os) (is_below o (last_offset x) all.0) (within os all.1)

below_says : (start : ℤ) (os : List ℤ) → list_all (λ o. int_lt o start) os ≡ true → AllByRecursion (λ o. o <ℤ start) os
below_says start [] e = tt
below_says start (o ∷ os) e = let h = both (int_lt o start) (list_all (λ q. int_lt q start) os) e in (lower o start h.0, below_says start os h.1)

below_said : (start : ℤ) (os : List ℤ) → AllByRecursion (λ o. o <ℤ start) os → list_all (λ o. int_lt o start) os ≡ true
below_said start [] all = refl
below_said start (o ∷ os) all = true_both (int_lt o start) (list_all (λ q. int_lt q start) os) (is_lower o start all.0) (below_said start os all.1)

-- what the test asks, as the definition asks it of each list
abbrev FitsList : Content → ℤ → List ℤ → Type 0
FitsList c base offsets =
    (base <ℤ c.start → AllByRecursion (λ o. o <ℤ c.start) offsets)
    × (c.start ≤ℤ base → (covers c.cover base ≡ true)
    × ((b : BatchValue) → look_up first_offset base c.kept ≡ Some b → AllByRecursion (λ o. o ≤ℤ last_offset b) offsets))

test_says : (c : Content) (base : ℤ) (offsets : List ℤ) → list_fits c (Listed base offsets) ≡ true → FitsList c base offsets
test_says c base offsets e = by (int_lt base c.start) refl e
  where
    by : (t : Bool) → int_lt base c.start ≡ t → (if t then list_all (λ o. int_lt o c.start) offsets else covers c.cover base && end_within offsets (look_up first_offset base c.kept)) ≡ true → FitsList c base offsets
    by true t f = ((λ less. below_says c.start offsets f), (λ from. absurd (grind (arith, ints, t, from))))
    by false t f =
        let h = both (covers c.cover base) (end_within offsets (look_up first_offset base c.kept)) f in
        ((λ less. absurd (grind (arith, ints, t, less))), (λ from. (h.0, ends_say offsets (look_up first_offset base c.kept) h.1)))

test_said : (c : Content) (base : ℤ) (offsets : List ℤ) → FitsList c base offsets → list_fits c (Listed base offsets) ≡ true
test_said c base offsets fits = by (int_lt base c.start) refl
  where
    by : (t : Bool) → int_lt base c.start ≡ t → (if t then list_all (λ o. int_lt o c.start) offsets else covers c.cover base && end_within offsets (look_up first_offset base c.kept)) ≡ true
    by true t = below_said c.start offsets (fits.0 (lower base c.start t))
    by false t =
        let from : c.start ≤ℤ base = grind (arith, ints, t) in
        let h = fits.1 from in
        true_both (covers c.cover base) (end_within offsets (look_up first_offset base c.kept)) h.0 (ends_said offsets (look_up first_offset base c.kept) h.1)

-- ---- all of them

accepts_says : (c : Content) (e : Delta) → IsContent c → IsDelta e → accepts c e ≡ true → Accepts c e
unfolding accepts
accepts_says c e is delta test base =
    let h = both (agree c (sent_part e)) (list_all (list_fits c) e.entries) test in
    ((decided c (sent_part e) is (sent_content e delta)).0 h.0 base, fits (all_pass (list_fits c) e.entries h.1))
  where
    fits : AllByRecursion (λ x. list_fits c x ≡ true) e.entries → ListFitsAt c e base
    fits all offsets said =
        let at : IsListedAt e base offsets = listed_at e base offsets said in
        test_says c base offsets (all_at entry_base (λ x. list_fits c x ≡ true) base e.entries (Listed base offsets) all at.entry)

accepts_said : (c : Content) (e : Delta) → IsContent c → IsDelta e → Accepts c e → accepts c e ≡ true
unfolding accepts
accepts_said c e is delta accepted =
    true_both (agree c (sent_part e)) (list_all (list_fits c) e.entries)
    ((decided c (sent_part e) is (sent_content e delta)).1 (λ base. (accepted base).0))
    (pass_all (list_fits c) e.entries (all_from_at entry_base (λ x. list_fits c x ≡ true) LEAST_BASE e.entries (rises_all e delta) one))
  where
    one : (x : Entry) → look_up entry_base (entry_base x) e.entries ≡ Some x → list_fits c x ≡ true
    one (Sent b) there = refl
    one (Listed base offsets) there = test_said c base offsets ((accepted base).1 offsets (listed_says e base offsets delta there))

pub acceptance_decided : (c : Content) (e : Delta) → IsContent c → IsDelta e → (accepts c e ≡ true) ↔ Accepts c e
acceptance_decided c e is delta = (accepts_says c e is delta, accepts_said c e is delta)
