-- What is sent and wasn't known is held after; what is listed was known, unless the copy has dropped the
-- batch that it is listed of.
use Rattle.std.proofs.Common.{◌≡◌, ℤ, pos, ◌+ℤ◌, Bool, true, false, ◌||◌, inl, inr, Option, Some, None, List, [], ◌∷◌, refl, sym, ap, subst, ◌∙◌, arith}
use Rattle.std.specs.Prelude.{◌≤ℤ◌, ◌<ℤ◌, int_lt, if◌then◌else◌}
use Rattle.std.specs.List.{AllByRecursion, list_any}
use Rattle.std.specs.Ordering.{int_eq}
use Rattle.std.proofs.lemmas.Int.{ints, clamps, by_lt_z}
use Rattle.batch_codec.specs.Values.{RecordValue, BatchValue}
use Rattle.batch_codec.specs.Offsets.{first_offset, last_offset}
use Rattle.cover_ranges.specs.Runs.{covers}
use Rattle.content.specs.ByOffset.{look_up}
use Rattle.content.specs.Records.{record_at}
use Rattle.content.specs.Content.{Content, IsContent}
use Rattle.content.specs.Joins.{Slot, slot_from, slot_at, batch_of_slot}
use Rattle.content.specs.Joins.Slot.{Unknown, Gone, Below}
use Rattle.content_laws.proofs.ByOffset.{look_up-offset}
use Rattle.content_laws.proofs.Batches.{record_in, record_from, HasRecord}
use Rattle.content_laws.proofs.Slots.{kept_covered, slot_is}
use Rattle.content_laws.proofs.ContentSteps.{both_bools}
use Rattle.deltas.specs.Entries.{Entry, OffsetsRise, entry_base, sent}
use Rattle.deltas.specs.Entries.Entry.{Listed, Sent}
use Rattle.deltas.specs.Deltas.{Delta, IsDelta}
use Rattle.deltas.specs.Patches.{Said, said_by, said_at, slot_patch, later_start, patch}
use Rattle.deltas.specs.Patches.Said.{Says, Lists}
use Rattle.deltas.specs.Accepting.{sent_part, IsKnown, ListFitsAt, Accepts}
use Rattle.deltas.proofs.Sayings.{said_batch, is_entry, reads_batch}
use Rattle.deltas.proofs.PatchSlots.{patch_kept}
use Rattle.deltas.proofs.PatchContents.{content_patch}
use Rattle.deltas.proofs.SentParts.{sent_content}

-- ---- what is sent

unknown_slot : (c : Content) (o : ℤ) → IsContent c → c.start ≤ℤ o → covers c.cover o ≡ false → slot_at c o ≡ Unknown
unknown_slot c o is from unseen = slot_is c o from ∙ by (look_up first_offset o c.kept) (covers c.cover o) (λ b. kept_covered c o b is) unseen
  where
    by : (z : Option BatchValue) (s : Bool) → ((b : BatchValue) → z ≡ Some b → s ≡ true) → s ≡ false → slot_from z s ≡ Unknown
    by (Some b) s kept none = absurd (both_bools s (kept b refl) none)
    by None true kept none = absurd cc
    by None false kept none = refl

unknown_from : (c : Content) (o : ℤ) → (IsKnown c o → ⊥) → (c.start ≤ℤ o) × (covers c.cover o ≡ false)
unknown_from c o never = (by_lt_z o c.start (λ less. absurd (never (inl less))) (λ le. le), by (covers c.cover o) (λ seen. never (inr seen)))
  where
    by : (t : Bool) → (t ≡ true → ⊥) → t ≡ false
    by true none = absurd (none refl)
    by false none = refl

spoken_batch : (u : Slot) (b : BatchValue) → batch_of_slot u ≡ Some b → batch_of_slot (slot_patch Unknown (Says u)) ≡ Some b
spoken_batch u b g = grind (arith, g)

spoken : (v : Said) (b : BatchValue) → said_batch v ≡ Some b → batch_of_slot (slot_patch Unknown v) ≡ Some b
spoken (Says u) b g = spoken_batch u b g
spoken (Lists offsets) b g = absurd cc

pub sent_is_held : (c : Content) (e : Delta) (o : ℤ) (r : RecordValue) → IsContent c → IsDelta e → Accepts c e → record_at (sent e.entries) o ≡ Some r → (IsKnown c o → ⊥) → record_at (patch c e).kept o ≡ Some r
sent_is_held c e o r is delta accepts f unknown =
    record_in (patch c e).start base o (patch c e).kept of.batch after.disjoint after.keepable kept of.from of.to ∙ of.here
  where
    part : IsContent (sent_part e)
    part = sent_content e delta

    after : IsContent (patch c e)
    after = content_patch c e is delta

    of : HasRecord (sent e.entries) o r
    of = record_from e.start o (sent e.entries) r part.disjoint part.keepable f

    base : ℤ
    base = first_offset of.batch

    not_known : (c.start ≤ℤ o) × (covers c.cover o ≡ false)
    not_known = unknown_from c o unknown

    least : e.start ≤ℤ base
    least = part.above base (kept_covered (sent_part e) base of.batch part of.there)

    fits : (base <ℤ later_start c e → last_offset of.batch <ℤ later_start c e) × (later_start c e ≤ℤ base → (i : ℤ) → base ≤ℤ i → i ≤ℤ last_offset of.batch → covers c.cover i ≡ covers c.cover base)
    fits = (accepts base).0.1 of.batch of.there

    from : later_start c e ≤ℤ base
    from = by_lt_z base (later_start c e) (λ less.
        let end : last_offset of.batch <ℤ later_start c e = fits.0 less in
        let to : o ≤ℤ last_offset of.batch = of.to in
        let start : c.start ≤ℤ o = not_known.0 in
        absurd (omega (arith, ints, clamps, less, end, to, start, least))) (λ le. le)

    unseen : covers c.cover base ≡ false
    unseen = sym (fits.1 from o of.from of.to) ∙ not_known.1

    kept : look_up first_offset base (patch c e).kept ≡ Some of.batch
    kept = patch_kept c e base is delta
        ∙ ap (λ (u : Slot). batch_of_slot (slot_patch u (said_at e base))) (unknown_slot c base is (let f = from in omega (arith, ints, clamps, f)) unseen)
        ∙ spoken (said_at e base) of.batch (sym (reads_batch e base delta) ∙ of.there)

-- ---- what is listed

pub list_entry : (e : Delta) (base : ℤ) (offsets : List ℤ) → said_at e base ≡ Lists offsets → (from : ℤ) × (look_up entry_base base e.entries ≡ Some (Listed from offsets))
list_entry e base offsets = by (int_lt base e.start) (look_up entry_base base e.entries) (covers e.cover base)
  where
    by : (t : Bool) (z : Option Entry) (s : Bool) → (if t then Says Below else said_by z s) ≡ Lists offsets → (from : ℤ) × (z ≡ Some (Listed from offsets))
    by true z s f = absurd cc
    by false None true f = absurd cc
    by false None false f = absurd cc
    by false (Some (Sent b)) s f = absurd cc
    by false (Some (Listed from others)) s f = let same : others ≡ offsets = cc in (from, ap (λ (os : List ℤ). Some (Listed from os)) same)

-- an offset of a list lies between its bounds
listed_from : (low o : ℤ) (offsets : List ℤ) → OffsetsRise low offsets → list_any (λ q. int_eq q o) offsets ≡ true → low ≤ℤ o
listed_from low o [] rise f = absurd cc
listed_from low o (q ∷ qs) rise f = by (int_eq q o) refl f (listed_from (q +ℤ pos 1) o qs rise.1)
  where
    least : low ≤ℤ q
    least = rise.0

    by : (t : Bool) → int_eq q o ≡ t → (t || list_any (λ k. int_eq k o) qs) ≡ true → (list_any (λ k. int_eq k o) qs ≡ true → (q +ℤ pos 1) ≤ℤ o) → low ≤ℤ o
    by true t g ih = let l = least in grind (arith, ints, t, l)
    by false t g ih = let l = least in let past : (q +ℤ pos 1) ≤ℤ o = ih g in omega (arith, ints, l, past)

listed_all : (P : ℤ → Type 0) (o : ℤ) (offsets : List ℤ) → AllByRecursion P offsets → list_any (λ q. int_eq q o) offsets ≡ true → P o
listed_all P o [] all f = absurd cc
listed_all P o (q ∷ qs) all f = by (int_eq q o) refl f (listed_all P o qs all.1)
  where
    by : (t : Bool) → int_eq q o ≡ t → (t || list_any (λ k. int_eq k o) qs) ≡ true → (list_any (λ k. int_eq k o) qs ≡ true → P o) → P o
    by true t g ih = let same : q ≡ o = grind (arith, ints, t) in subst P same all.0
    by false t g ih = ih g

pub listed_is_known : (c : Content) (e : Delta) (base o : ℤ) (offsets : List ℤ) → IsContent c → IsDelta e → Accepts c e → said_at e base ≡ Lists offsets → list_any (λ q. int_eq q o) offsets ≡ true
    → (slot_at c base ≡ Gone → ⊥) → IsKnown c o
listed_is_known c e base o offsets is delta accepts f listed kept = by_lt_z base c.start
    (λ less. inl (listed_all (λ k. k <ℤ c.start) o offsets ((taken offsets f).0 less) listed))
    (λ from. inr (by from (look_up first_offset base c.kept) refl (taken offsets f)))
  where
    taken : ListFitsAt c e base
    taken = (accepts base).1

    found : (from : ℤ) × (look_up entry_base base e.entries ≡ Some (Listed from offsets))
    found = list_entry e base offsets f

    least : base ≤ℤ o
    least = let same : found.0 ≡ base = look_up-offset entry_base base e.entries (Listed found.0 offsets) found.1 in
        subst (λ (k : ℤ). k ≤ℤ o) same (listed_from found.0 o offsets (is_entry e base (Listed found.0 offsets) delta found.1).0.1.rise listed)

    gone : c.start ≤ℤ base → look_up first_offset base c.kept ≡ None → covers c.cover base ≡ true → slot_at c base ≡ Gone
    gone from z s = slot_is c base from ∙ (λ i. slot_from (z i) (s i))

    by : c.start ≤ℤ base → (z : Option BatchValue) → look_up first_offset base c.kept ≡ z
        → (base <ℤ c.start → AllByRecursion (λ k. k <ℤ c.start) offsets) × (c.start ≤ℤ base → (covers c.cover base ≡ true) × ((b : BatchValue) → look_up first_offset base c.kept ≡ Some b → AllByRecursion (λ k. k ≤ℤ last_offset b) offsets))
        → covers c.cover o ≡ true
    by from None s fits = absurd (kept (gone from s (fits.1 from).0))
    by from (Some b) s fits = is.inside base o b s least (listed_all (λ k. k ≤ℤ last_offset b) o offsets ((fits.1 from).1 b s) listed)
