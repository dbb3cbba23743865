-- A delta that comes twice does no more, and a patch cut at a later start is the patch of what is cut: a
-- content is its slots, so each of these is a law of slots.
use Rattle.std.proofs.Common.{◌≡◌, ◌^◌, ℤ, pos, Bool, true, false, List, [], ◌∷◌, refl, sym, ap, ◌∙◌, arith}
use Rattle.std.specs.Prelude.{◌≤ℤ◌, int_lt, if◌then◌else◌}
use Rattle.std.specs.List.{list_any, filter}
use Rattle.std.specs.Ordering.{int_eq}
use Rattle.std.proofs.lemmas.Int.{ints, clamps}
use Rattle.batch_codec.specs.Values.{RecordValue, BatchValue}
use Rattle.batch_codec.specs.Offsets.{offset_of}
use Rattle.content.specs.Content.{Content, IsContent, cut}
use Rattle.content.specs.Joins.{Slot, slot_at, slot_join}
use Rattle.content.specs.Joins.Slot.{Unknown, Kept, Gone, Below}
use Rattle.content_laws.proofs.Slots.{same_content, cut_slots, slot_join_self, slot_join_assoc}
use Rattle.content_laws.proofs.ContentSteps.{content_cut}
use Rattle.deltas.specs.Deltas.{Delta, IsDelta}
use Rattle.deltas.specs.Patches.{Said, said_at, with_listed, slot_patch, patch}
use Rattle.deltas.specs.Patches.Said.{Says, Lists}
use Rattle.deltas.proofs.PatchSlots.{patch_start, patch_slots}
use Rattle.deltas.proofs.PatchContents.{content_patch}

filter_again : {X : Type 0} (p : X → Bool) (xs : List X) → filter p (filter p xs) ≡ filter p xs
filter_again p [] = refl
filter_again p (x ∷ xs) = grind (arith, filter_again p xs)

listed_again : (offsets : List ℤ) (b : BatchValue) → with_listed offsets (with_listed offsets b) ≡ with_listed offsets b
listed_again offsets b =
    let same = filter_again (λ (r : RecordValue). list_any (λ o. int_eq o (offset_of b r)) offsets) b.recs in
    λ i. record { head = b.head; recs = same i }

slot_patch_again : (u : Slot) (v : Said) → slot_patch (slot_patch u v) v ≡ slot_patch u v
slot_patch_again u (Says v) = slot_join_assoc u v v ∙ ap (slot_join u) (slot_join_self v)
slot_patch_again Unknown (Lists offsets) = refl
slot_patch_again (Kept b) (Lists offsets) = ap Kept (listed_again offsets b)
slot_patch_again Gone (Lists offsets) = refl
slot_patch_again Below (Lists offsets) = refl

pub patch_again : (c : Content) (e : Delta) → IsContent c → IsDelta e → patch (patch c e) e ≡ patch c e
patch_again c e is delta =
    let once : IsContent (patch c e) = content_patch c e is delta in
    same_content (patch (patch c e) e) (patch c e) (content_patch (patch c e) e once delta) once
    (λ o. patch_slots (patch c e) e o once delta ∙ ap (λ (u : Slot). slot_patch u (said_at e o)) (patch_slots c e o is delta) ∙ slot_patch_again (slot_at c o) (said_at e o) ∙ sym (patch_slots c e o is delta))

cut_table : (t : Bool) (u : Slot) (v : Said) → (if t then Below else slot_patch u v) ≡ slot_patch (if t then Below else u) v
cut_table true u (Says v) = refl
cut_table true u (Lists offsets) = refl
cut_table false u v = refl

pub patch_cut : (c : Content) (e : Delta) (start : ℤ) → IsContent c → IsDelta e → c.start ≤ℤ start → e.start ≤ℤ start → start ≤ℤ pos (2 ^ 62) → cut start (patch c e) ≡ patch (cut start c) e
patch_cut c e start is delta after_c after_e end =
    let patched : IsContent (patch c e) = content_patch c e is delta in
    let after : (patch c e).start ≤ℤ start = (let s = patch_start c e in omega (arith, ints, clamps, s, after_c, after_e)) in
    let cut_c : IsContent (cut start c) = content_cut c start is after_c end in
    same_content (cut start (patch c e)) (patch (cut start c) e) (content_cut (patch c e) start patched after end) (content_patch (cut start c) e cut_c delta)
    (λ o. cut_slots (patch c e) start o after
    ∙ ap (λ (u : Slot). if int_lt o start then Below else u) (patch_slots c e o is delta)
    ∙ cut_table (int_lt o start) (slot_at c o) (said_at e o)
    ∙ sym (ap (λ (u : Slot). slot_patch u (said_at e o)) (cut_slots c start o after_c))
    ∙ sym (patch_slots (cut start c) e o cut_c delta))
