-- A delta for which nothing was asked is the sender as a whole: to take it is to merge.
use Rattle.std.proofs.Common.{◌≡◌, ◌↔◌, ℤ, List, [], ◌∷◌, map, refl, sym, ap, subst, ◌∙◌}
use Rattle.std.specs.List.{filter, filter_map}
use Rattle.batch_codec.specs.Offsets.{first_offset}
use Rattle.cover_ranges.specs.Runs.{union_of, cut_below}
use Rattle.content.specs.ByOffset.{put_all}
use Rattle.content.specs.Content.{Content}
use Rattle.content.specs.Joins.{Slot, slot_at, is_unknown, greater_start, join, AgreeAt, Agree}
use Rattle.content.specs.Joins.Slot.{Unknown, Kept, Gone, Below}
use Rattle.deltas.specs.Entries.{sent}
use Rattle.deltas.specs.Deltas.{entry_for, delta_of}
use Rattle.deltas.specs.Patches.{patch}
use Rattle.deltas.specs.Patches.Said.{Lists}
use Rattle.deltas.specs.Accepting.{sent_part, AcceptsAt, Accepts}
use Rattle.deltas.proofs.Entries.{Batches}
use Rattle.deltas.proofs.DeltaMerges.{said_of, delta_said, merged_same}

all_sent : (bs : Batches) → sent (map (entry_for []) bs) ≡ bs
all_sent [] = refl
all_sent (b ∷ bs) = ap (λ (xs : Batches). b ∷ xs) (all_sent bs)

pub whole_part : (x : Content) → sent_part (delta_of x []) ≡ x
whole_part x = λ i. record { start = x.start; cover = x.cover; kept = all_sent x.kept i }

pub whole_patch : (x y : Content) → patch y (delta_of x []) ≡ join y x
unfolding patch join
whole_patch x y = λ i. record {
  start = greater_start y x;
  cover = cut_below (greater_start y x) (union_of y.cover x.cover);
  kept = put_all first_offset (filter_map (λ z. merged_same x [] z i) y.kept) (filter (λ b. is_unknown (slot_at y (first_offset b))) (all_sent x.kept i));
}

no_list : (u : Slot) (offsets : List ℤ) → said_of [] u ≡ Lists offsets → ⊥
no_list Unknown offsets e = cc
no_list (Kept b) offsets e = cc
no_list Gone offsets e = cc
no_list Below offsets e = cc

pub whole_accepted_at : (x y : Content) (base : ℤ) → AcceptsAt y (delta_of x []) base ↔ AgreeAt y x base
whole_accepted_at x y base = (
  λ accepts. subst (λ (z : Content). AgreeAt y z base) (whole_part x) accepts.0,
  λ agree. (
    subst (λ (z : Content). AgreeAt y z base) (sym (whole_part x)) agree,
    λ offsets e. absurd (no_list (slot_at x base) offsets (sym (delta_said x [] base) ∙ e)),
  ),
)

pub whole_accepted : (x y : Content) → Accepts y (delta_of x []) ↔ Agree y x
whole_accepted x y = (λ accepts base. (whole_accepted_at x y base).0 (accepts base), λ agree base. (whole_accepted_at x y base).1 (agree base))
