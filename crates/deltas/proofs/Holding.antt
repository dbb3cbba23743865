-- An accepted delta brings back no record that either side has dropped, and loses none that is sent: each
-- record of the patch is of one batch, and each side has seen all of that batch's span or none.
use Rattle.std.proofs.Common.{◌≡◌, ℤ, ◌+ℤ◌, ◌-ℤ◌, Bool, true, false, ◌⊎◌, inl, inr, Option, Some, None, List, [], ◌∷◌, refl, sym, ap, subst, ◌∙◌, arith}
use Rattle.std.specs.Prelude.{◌≤ℤ◌, is_some, if◌then◌else◌}
use Rattle.std.specs.List.{AllByRecursion, list_any, filter}
use Rattle.std.specs.Ordering.{int_eq}
use Rattle.std.proofs.lemmas.Int.{ints}
use Rattle.batch_codec.specs.declared.head.BatchHead.{BatchHead}
use Rattle.batch_codec.specs.Values.{RecordValue, BatchValue}
use Rattle.batch_codec.specs.Offsets.{first_offset, last_offset, offset_of}
use Rattle.cover_ranges.specs.Runs.{covers}
use Rattle.content.specs.ByOffset.{look_up}
use Rattle.content.specs.Records.{record_at, record_at_delta, with_common_records}
use Rattle.content.specs.Content.{Content, IsContent}
use Rattle.content.specs.Joins.{Slot, slot_at, batch_of_slot}
use Rattle.content.specs.Joins.Slot.{Unknown, Kept, Gone, Below}
use Rattle.content_laws.proofs.ByOffset.{look_up-offset, all_at}
use Rattle.content_laws.proofs.Batches.{delta_of, record_in, record_from, HasRecord}
use Rattle.content_laws.proofs.BatchParts.{part_record, rec_common}
use Rattle.content_laws.proofs.Slots.{is_seen, kept_keepable, slot_seen, slot_kept}
use Rattle.content_laws.proofs.ContentSteps.{both_bools, IsFrom, end_of_part}
use Rattle.deltas.specs.Entries.{sent}
use Rattle.deltas.specs.Deltas.{Delta, IsDelta}
use Rattle.deltas.specs.Patches.{Said, said_at, with_listed, slot_patch, later_start, patch}
use Rattle.deltas.specs.Patches.Said.{Says, Lists}
use Rattle.deltas.specs.Accepting.{sent_part, Accepts, HasListed}
use Rattle.deltas.proofs.Sayings.{said_batch, said_seen, reads_batch, reads_seen}
use Rattle.deltas.proofs.PatchSlots.{patch_kept}
use Rattle.deltas.proofs.PatchContents.{IsSent, patch_from, patch_above, content_patch}
use Rattle.deltas.proofs.SentParts.{sent_content}

-- the batch of the patch that has the record
patch_has : (c : Content) (e : Delta) (o : ℤ) (r : RecordValue) → IsContent c → IsDelta e → record_at (patch c e).kept o ≡ Some r → HasRecord (patch c e).kept o r
patch_has c e o r is delta f =
    let content : IsContent (patch c e) = content_patch c e is delta in
    record_from (patch c e).start o (patch c e).kept r content.disjoint content.keepable f

-- ---- the receiver

pub held_by_receiver : (c : Content) (e : Delta) (o : ℤ) (r : RecordValue) → IsContent c → IsDelta e → Accepts c e → record_at (patch c e).kept o ≡ Some r → covers c.cover o ≡ true → record_at c.kept o ≡ Some r
held_by_receiver c e o r is delta accepts f seen = by (patch_from c e base z is delta of.there)
  where
    of : HasRecord (patch c e).kept o r
    of = patch_has c e o r is delta f

    z : BatchValue
    z = of.batch

    base : ℤ
    base = first_offset of.batch

    by : IsFrom c base z ⊎ ((slot_at c base ≡ Unknown) × IsSent e base z) → record_at c.kept o ≡ Some r
    by (inl p) =
        record_in c.start base o c.kept p.batch is.disjoint is.keepable p.there of.from (subst (λ (k : ℤ). o ≤ℤ k) (end_of_part z p.batch p.part) of.to)
        ∙ part_record z p.batch (o -ℤ base) r (kept_keepable c base p.batch is p.there) p.part of.here
    by (inr p) =
        let unseen : covers c.cover base ≡ false = slot_seen c base is ∙ ap is_seen p.0 in
        let same : covers c.cover o ≡ covers c.cover base = ((accepts base).0.1 z p.1).1 (patch_above c e base z is delta of.there) o of.from of.to in
        absurd (both_bools (covers c.cover o) seen (same ∙ unseen))

-- ---- the sender

filter_passes : {X : Type 0} (p : X → Bool) (xs : List X) → AllByRecursion (λ x. p x ≡ true) (filter p xs)
filter_passes p [] = tt
filter_passes {X = X} p (x ∷ xs) = by (p x) refl (filter_passes p xs)
  where
    by : (t : Bool) → p x ≡ t → AllByRecursion (λ y. p y ≡ true) (filter p xs) → AllByRecursion (λ y. p y ≡ true) (if t then x ∷ filter p xs else filter p xs)
    by true t rest = (t, rest)
    by false t rest = rest

-- a record that a list leaves is listed
left_is_listed : (offsets : List ℤ) (x : BatchValue) (o : ℤ) (r : RecordValue) → record_at_delta (o -ℤ first_offset x) (with_listed offsets x) ≡ Some r → list_any (λ q. int_eq q o) offsets ≡ true
left_is_listed offsets x o r f =
    let delta : r.delta ≡ (o -ℤ first_offset x) = look_up-offset delta_of (o -ℤ first_offset x) (with_listed offsets x).recs r f in
    let same : offset_of x r ≡ o = omega (arith, ints, delta) in
    subst (λ (k : ℤ). list_any (λ q. int_eq q k) offsets ≡ true) same
    (all_at delta_of (λ (s : RecordValue). list_any (λ q. int_eq q (offset_of x s)) offsets ≡ true) (o -ℤ first_offset x) (with_listed offsets x).recs r
    (filter_passes (λ (s : RecordValue). list_any (λ q. int_eq q (offset_of x s)) offsets) x.recs) f)

sent_record : (e : Delta) (base o : ℤ) (y : BatchValue) → IsDelta e → IsSent e base y → base ≤ℤ o → o ≤ℤ last_offset y → record_at (sent e.entries) o ≡ record_at_delta (o -ℤ base) y
sent_record e base o y delta there from to =
    let content : IsContent (sent_part e) = sent_content e delta in
    record_in e.start base o (sent e.entries) y content.disjoint content.keepable there from to

-- a record that both batches have at one delta
in_both : (d : ℤ) (x y : BatchValue) (r : RecordValue) → record_at_delta d (with_common_records x y) ≡ Some r
    → ((s : RecordValue) → record_at_delta d x ≡ Some r → record_at_delta d y ≡ Some s → r ≡ s) → record_at_delta d y ≡ Some r
in_both d x y r f alike = by (record_at_delta d x) (record_at_delta d y) (sym (rec_common d x y) ∙ f) alike
  where
    by : (u v : Option RecordValue) → (if is_some v then u else None) ≡ Some r → ((s : RecordValue) → u ≡ Some r → v ≡ Some s → r ≡ s) → v ≡ Some r
    by u None g same = absurd cc
    by u (Some s) g same = ap Some (sym (same s g refl))

pub held_by_sender : (c : Content) (e : Delta) (o : ℤ) (r : RecordValue) → IsContent c → IsDelta e → Accepts c e → record_at (patch c e).kept o ≡ Some r → covers e.cover o ≡ true
    → HasListed e o ⊎ (record_at (sent e.entries) o ≡ Some r)
held_by_sender c e o r is delta accepts f seen = side (patch_from c e base z is delta of.there)
  where
    of : HasRecord (patch c e).kept o r
    of = patch_has c e o r is delta f

    z : BatchValue
    z = of.batch

    base : ℤ
    base = first_offset of.batch

    above : later_start c e ≤ℤ base
    above = patch_above c e base z is delta of.there

    clash : (w : Option BatchValue) → w ≡ None → w ≡ Some z → ⊥
    clash w g h = cc

    from_copy : (x : BatchValue) → look_up first_offset base c.kept ≡ Some x → last_offset z ≡ last_offset x → (v : Said) → said_at e base ≡ v → batch_of_slot (slot_patch (Kept x) v) ≡ Some z → covers e.cover base ≡ true
        → HasListed e o ⊎ (record_at (sent e.entries) o ≡ Some r)
    from_copy x there ends (Says Unknown) s g all = absurd (both_bools (covers e.cover base) all (reads_seen e base delta ∙ ap said_seen s))
    from_copy x there ends (Says (Kept y)) s g all =
        let common : with_common_records x y ≡ z = cc in
        let sends : IsSent e base y = reads_batch e base delta ∙ ap said_batch s in
        let alike = (accepts base).0.2 x y above there sends in
        let end : last_offset z ≡ last_offset y = ends ∙ ap (λ (h : BatchHead). h.base +ℤ h.last_delta) alike.0 in
        inr (sent_record e base o y delta sends of.from (subst (λ (k : ℤ). o ≤ℤ k) end of.to)
        ∙ in_both (o -ℤ base) x y r (subst (λ (w : BatchValue). record_at_delta (o -ℤ base) w ≡ Some r) (sym common) of.here) (λ t p q. alike.1 (o -ℤ base) r t p q))
    from_copy x there ends (Says Gone) s g all = absurd cc
    from_copy x there ends (Says Below) s g all = absurd cc
    from_copy x there ends (Lists offsets) s g all =
        let left : with_listed offsets x ≡ z = cc in
        let same : base ≡ first_offset x = sym (look_up-offset first_offset base c.kept x there) in
        let here : record_at_delta (o -ℤ base) (with_listed offsets x) ≡ Some r = subst (λ (w : BatchValue). record_at_delta (o -ℤ base) w ≡ Some r) (sym left) of.here in
        inl (base, offsets, s, left_is_listed offsets x o r (subst (λ (k : ℤ). record_at_delta (o -ℤ k) (with_listed offsets x) ≡ Some r) same here))

    side : IsFrom c base z ⊎ ((slot_at c base ≡ Unknown) × IsSent e base z) → HasListed e o ⊎ (record_at (sent e.entries) o ≡ Some r)
    side (inl p) =
        let end : last_offset z ≡ last_offset p.batch = end_of_part z p.batch p.part in
        let same : covers e.cover o ≡ covers e.cover base = ((accepts base).0.0 p.batch p.there).1 above o of.from (subst (λ (k : ℤ). o ≤ℤ k) end of.to) in
        from_copy p.batch p.there end (said_at e base) refl
        (ap (λ (u : Slot). batch_of_slot (slot_patch u (said_at e base))) (sym (slot_kept c base p.batch is p.there)) ∙ sym (patch_kept c e base is delta) ∙ of.there) (sym same ∙ seen)
    side (inr p) = inr (sent_record e base o z delta p.1 of.from of.to ∙ of.here)
