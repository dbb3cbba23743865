-- What a copy knows it goes on knowing: its start and what it has seen only grow, and what a later start
-- drops lies below it.
use Rattle.std.proofs.Common.{◌≡◌, ℤ, Bool, true, false, ◌&&◌, ◌||◌, ◌⊎◌, inl, inr, sym, ap, subst, ◌∙◌, arith}
use Rattle.std.specs.Prelude.{◌≤ℤ◌, ◌<ℤ◌, int_le, if◌then◌else◌}
use Rattle.std.proofs.lemmas.Int.{ints, clamps, by_lt_z}
use Rattle.batch_codec.specs.Values.{BatchValue}
use Rattle.batch_codec.specs.Offsets.{first_offset, last_offset}
use Rattle.cover_ranges.specs.Runs.{covers, is_within}
use Rattle.cover_ranges.proofs.RunSets.{range_covers, cut_covers}
use Rattle.content.specs.Content.{Content, has_seen_all, with_batch, add, cut}
use Rattle.content.specs.declared.part.CleaningPart.{CleaningPart}
use Rattle.content.specs.Cleaning.{clean}
use Rattle.content.specs.Parts.{clean_part}
use Rattle.content.specs.Joins.{greater_start, join}
use Rattle.content_laws.proofs.Slots.{join_start, join_covers}
use Rattle.deltas.specs.Deltas.{Delta}
use Rattle.deltas.specs.Patches.{later_start, patch}
use Rattle.deltas.specs.Accepting.{IsKnown}
use Rattle.deltas.proofs.PatchSlots.{patch_start, patch_covers}

pub add_knows : (c : Content) (b : BatchValue) (o : ℤ) → IsKnown c o → IsKnown (add c b) o
add_knows c b o knows = by (has_seen_all c b)
  where
    or_left : (s t : Bool) → s ≡ true → (s || t) ≡ true
    or_left s t e = grind arith

    more : IsKnown c o → IsKnown (with_batch c b) o
    more (inl less) = inl less
    more (inr seen) = inr (range_covers (first_offset b) (last_offset b) c.cover o ∙ or_left (covers c.cover o) (is_within o (first_offset b, last_offset b)) seen)

    by : (t : Bool) → IsKnown (if t then c else with_batch c b) o
    by true = knows
    by false = more knows

pub clean_knows : (upto tomb_before : ℤ) (c : Content) (o : ℤ) → IsKnown c o → IsKnown (clean upto tomb_before c) o
clean_knows upto tomb_before c o knows = knows

pub part_knows : (p : CleaningPart) (c : Content) (o : ℤ) → IsKnown c o → IsKnown (clean_part p c) o
part_knows p c o knows = knows

-- from a later start on, what was seen and more; in plain terms
knows_from : (start o : ℤ) (old new more : Bool) → new ≡ ((old || more) && int_le start o) → old ≡ true → (o <ℤ start) ⊎ (new ≡ true)
knows_from start o old new more same e = by_lt_z o start (λ less. inl less) (λ le. inr (let from : int_le start o ≡ true = above le in grind (arith, same, e, from)))
  where
    above : start ≤ℤ o → int_le start o ≡ true
    above le = grind (arith, ints, le)

pub cut_knows : (c : Content) (start o : ℤ) → c.start ≤ℤ start → IsKnown c o → IsKnown (cut start c) o
cut_knows c start o later (inl less) = inl (omega (arith, ints, later, less))
cut_knows c start o later (inr seen) = knows_from start o (covers c.cover o) (covers (cut start c).cover o) false (cut_covers start c.cover o ∙ ap (λ (t : Bool). t && int_le start o) (or_false (covers c.cover o))) seen
  where
    or_false : (t : Bool) → t ≡ (t || false)
    or_false t = grind arith

knows_at : (c : Content) (start o : ℤ) → c.start ≡ start → (o <ℤ start) ⊎ (covers c.cover o ≡ true) → IsKnown c o
knows_at c start o same known = subst (λ (s : ℤ). (o <ℤ s) ⊎ (covers c.cover o ≡ true)) (sym same) known

swap : (s t u : Bool) → ((s || t) && u) ≡ ((t || s) && u)
swap s t u = grind arith

pub join_knows_left : (a b : Content) (o : ℤ) → IsKnown a o → IsKnown (join a b) o
join_knows_left a b o knows = knows_at (join a b) (greater_start a b) o (join_start a b) (by knows)
  where
    by : IsKnown a o → (o <ℤ greater_start a b) ⊎ (covers (join a b).cover o ≡ true)
    by (inl less) = inl (omega (arith, ints, clamps, less))
    by (inr seen) = knows_from (greater_start a b) o (covers a.cover o) (covers (join a b).cover o) (covers b.cover o) (join_covers a b o) seen

pub join_knows_right : (a b : Content) (o : ℤ) → IsKnown b o → IsKnown (join a b) o
join_knows_right a b o knows = knows_at (join a b) (greater_start a b) o (join_start a b) (by knows)
  where
    by : IsKnown b o → (o <ℤ greater_start a b) ⊎ (covers (join a b).cover o ≡ true)
    by (inl less) = inl (omega (arith, ints, clamps, less))
    by (inr seen) = knows_from (greater_start a b) o (covers b.cover o) (covers (join a b).cover o) (covers a.cover o)
        (join_covers a b o ∙ swap (covers a.cover o) (covers b.cover o) (int_le (greater_start a b) o)) seen

pub patch_knows : (c : Content) (e : Delta) (o : ℤ) → IsKnown c o → IsKnown (patch c e) o
patch_knows c e o knows = knows_at (patch c e) (later_start c e) o (patch_start c e) (by knows)
  where
    by : IsKnown c o → (o <ℤ later_start c e) ⊎ (covers (patch c e).cover o ≡ true)
    by (inl less) = inl (omega (arith, ints, clamps, less))
    by (inr seen) = knows_from (later_start c e) o (covers c.cover o) (covers (patch c e).cover o) (covers e.cover o) (patch_covers c e o) seen
