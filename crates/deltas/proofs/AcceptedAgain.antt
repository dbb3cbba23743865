-- What a copy may take it may take again, once it has: each batch of the patch is a part of one of the
-- copy's, or one that is sent, and the delta fits the first, as before, and itself.
use Rattle.std.proofs.Common.{◌≡◌, ℤ, Bool, true, ◌&&◌, ◌||◌, ◌⊎◌, inl, inr, Option, Some, sym, ap, subst, ◌∙◌, arith}
use Rattle.std.specs.Prelude.{◌≤ℤ◌, ◌<ℤ◌, int_le}
use Rattle.std.specs.List.{AllByRecursion}
use Rattle.std.proofs.lemmas.Int.{ints, clamps}
use Rattle.batch_codec.specs.Values.{RecordValue, BatchValue}
use Rattle.batch_codec.specs.Offsets.{first_offset, last_offset}
use Rattle.cover_ranges.specs.Runs.{covers}
use Rattle.content.specs.ByOffset.{look_up}
use Rattle.content.specs.Records.{record_at_delta}
use Rattle.content.specs.Content.{Content, IsContent}
use Rattle.content.specs.Joins.{slot_at, greater_start, FitsAt, AreAlikeAt}
use Rattle.content.specs.Joins.Slot.{Unknown}
use Rattle.content_laws.proofs.ByOffset.{look_up-offset}
use Rattle.content_laws.proofs.BatchParts.{part_head, part_record}
use Rattle.content_laws.proofs.Slots.{kept_keepable}
use Rattle.content_laws.proofs.ContentSteps.{IsFrom, end_of_part}
use Rattle.content_laws.proofs.Windows.{each_weaker}
use Rattle.deltas.specs.Entries.{Entry, entry_base, sent}
use Rattle.deltas.specs.Entries.Entry.{Listed, Sent}
use Rattle.deltas.specs.declared.TheConstants.{LEAST_BASE}
use Rattle.deltas.specs.Deltas.{Delta, IsDelta}
use Rattle.deltas.specs.Patches.{later_start, patch}
use Rattle.deltas.specs.Accepting.{sent_part, ListFitsAt, AcceptsAt, Accepts}
use Rattle.deltas.proofs.Entries.{sent_entry}
use Rattle.deltas.proofs.Sayings.{rises_all, entry_covered, entry_above}
use Rattle.deltas.proofs.PatchSlots.{patch_start, patch_covers}
use Rattle.deltas.proofs.PatchContents.{IsSent, patch_from, patch_side, patch_above, sent_is_entry}
use Rattle.deltas.proofs.Keeping.{list_entry}

sent_seen : (e : Delta) (o i : ℤ) (z : BatchValue) → IsDelta e → IsSent e o z → o ≤ℤ i → i ≤ℤ last_offset z → covers e.cover i ≡ true
sent_seen e o i z delta f from to =
    let base : first_offset z ≡ o = look_up-offset first_offset o (sent e.entries) z f in
    (sent_is_entry e o z delta f).1.0 i (omega (arith, ints, base, from)) to

seen_after : (c : Content) (e : Delta) (i : ℤ) → covers e.cover i ≡ true → later_start c e ≤ℤ i → covers (patch c e).cover i ≡ true
seen_after c e i seen from = patch_covers c e i ∙ both (covers c.cover i) (covers e.cover i) (int_le (later_start c e) i) seen (above (later_start c e) from)
  where
    both : (s t u : Bool) → t ≡ true → u ≡ true → ((s || t) && u) ≡ true
    both s t u p q = grind arith

    above : (start : ℤ) → start ≤ℤ i → int_le start i ≡ true
    above start le = grind (arith, ints, le)

module _ (c : Content) (e : Delta) (is : IsContent c) (delta : IsDelta e) (accepts : Accepts c e) (o : ℤ) where
  start : (patch c e).start ≡ later_start c e
  start = patch_start c e

  same_start : greater_start (patch c e) (sent_part e) ≡ later_start c e
  same_start = let s = patch_start c e in omega (arith, ints, clamps, s)

  patch_fits : FitsAt (later_start c e) (patch c e) (sent_part e) o
  patch_fits z f = by (patch_side c e o z is delta f)
    where
      above : later_start c e ≤ℤ o
      above = patch_above c e o z is delta f

      by : IsFrom c o z ⊎ IsSent e o z → (o <ℤ later_start c e → last_offset z <ℤ later_start c e) × (later_start c e ≤ℤ o → (i : ℤ) → o ≤ℤ i → i ≤ℤ last_offset z → covers e.cover i ≡ covers e.cover o)
      by (inl p) =
          let old = (accepts o).0.0 p.batch p.there in (
            λ less. let a = above in absurd (omega (arith, ints, a, less)),
            λ from i least most. old.1 from i least (subst (λ (k : ℤ). i ≤ℤ k) (end_of_part z p.batch p.part) most),
          )
      by (inr p) = (
        λ less. let a = above in absurd (omega (arith, ints, a, less)),
        λ from i least most. sent_seen e o i z delta p least most ∙ sym (sent_seen e o o z delta p (omega (arith, ints)) (omega (arith, ints, least, most))),
      )

  sent_fits : FitsAt (later_start c e) (sent_part e) (patch c e) o
  sent_fits y f = (
    ((accepts o).0.1 y f).0,
    λ from i least most.
        seen_after c e i (sent_seen e o i y delta f least most) (omega (arith, ints, from, least))
        ∙ sym (seen_after c e o (sent_seen e o o y delta f (omega (arith, ints)) (omega (arith, ints, least, most))) from),
  )

  still_alike : AreAlikeAt (later_start c e) (patch c e) (sent_part e) o
  still_alike z y from f g = by (patch_from c e o z is delta f)
    where
      one : (w : Option BatchValue) → w ≡ Some z → w ≡ Some y → z ≡ y
      one w p q = cc

      record_once : (d : ℤ) (r t : RecordValue) → z ≡ y → record_at_delta d z ≡ Some r → record_at_delta d y ≡ Some t → r ≡ t
      record_once d r t same p q = twice (record_at_delta d y) (subst (λ (w : BatchValue). record_at_delta d w ≡ Some r) same p) q
        where
          twice : (w : Option RecordValue) → w ≡ Some r → w ≡ Some t → r ≡ t
          twice w p q = cc

      by : IsFrom c o z ⊎ ((slot_at c o ≡ Unknown) × IsSent e o z) → (z.head ≡ y.head) × ((d : ℤ) (r t : RecordValue) → record_at_delta d z ≡ Some r → record_at_delta d y ≡ Some t → r ≡ t)
      by (inl p) =
          let old = (accepts o).0.2 p.batch y from p.there g in
          (part_head z p.batch p.part ∙ old.0, λ d r t h k. old.1 d r t (part_record z p.batch d r (kept_keepable c o p.batch is p.there) p.part h) k)
      by (inr p) =
          let same : z ≡ y = one (look_up first_offset o (sent e.entries)) p.1 g in
          (ap (λ (w : BatchValue). w.head) same, λ d r t h k. record_once d r t same h k)

  lists_fit : ListFitsAt (patch c e) e o
  lists_fit offsets f = (below, above)
    where
      found : (from : ℤ) × (look_up entry_base o e.entries ≡ Some (Listed from offsets))
      found = list_entry e o offsets f

      least : e.start ≤ℤ o
      least = entry_above e o (Listed found.0 offsets) delta found.1

      old : (o <ℤ c.start → AllByRecursion (λ k. k <ℤ c.start) offsets)
          × (c.start ≤ℤ o → (covers c.cover o ≡ true) × ((b : BatchValue) → look_up first_offset o c.kept ≡ Some b → AllByRecursion (λ k. k ≤ℤ last_offset b) offsets))
      old = (accepts o).1 offsets f

      below : o <ℤ (patch c e).start → AllByRecursion (λ k. k <ℤ (patch c e).start) offsets
      below less =
          let s = start in
          let l = least in
          each_weaker (λ (k : ℤ). k <ℤ c.start) (λ (k : ℤ). k <ℤ (patch c e).start) offsets (λ k p. omega (arith, ints, clamps, s, p)) (old.0 (omega (arith, ints, clamps, s, l, less)))

      clash : (w : Option Entry) (b : BatchValue) (from : ℤ) → w ≡ Some (Sent b) → w ≡ Some (Listed from offsets) → ⊥
      clash w b from p q = cc

      ends : (b : BatchValue) → later_start c e ≤ℤ o → IsFrom c o b ⊎ IsSent e o b → AllByRecursion (λ k. k ≤ℤ last_offset b) offsets
      ends b from (inl p) = subst (λ (n : ℤ). AllByRecursion (λ k. k ≤ℤ n) offsets) (sym (end_of_part b p.batch p.part)) ((old.1 (omega (arith, ints, clamps, from))).1 p.batch p.there)
      ends b from (inr p) = absurd (clash (look_up entry_base o e.entries) b found.0 (sent_entry LEAST_BASE o e.entries b (rises_all e delta) p) found.1)

      above : (patch c e).start ≤ℤ o → (covers (patch c e).cover o ≡ true) × ((b : BatchValue) → look_up first_offset o (patch c e).kept ≡ Some b → AllByRecursion (λ k. k ≤ℤ last_offset b) offsets)
      above from =
          let after : later_start c e ≤ℤ o = subst (λ (s : ℤ). s ≤ℤ o) start from in
          (seen_after c e o (entry_covered e o (Listed found.0 offsets) delta found.1) after, λ b g. ends b after (patch_side c e o b is delta g))

  accepts_at : AcceptsAt (patch c e) e o
  accepts_at = (subst (λ (s : ℤ). FitsAt s (patch c e) (sent_part e) o × FitsAt s (sent_part e) (patch c e) o × AreAlikeAt s (patch c e) (sent_part e) o) (sym same_start) (patch_fits, sent_fits, still_alike), lists_fit)

pub accepted_again : (c : Content) (e : Delta) → IsContent c → IsDelta e → Accepts c e → Accepts (patch c e) e
accepted_again c e is delta accepts o = accepts_at c e is delta accepts o
