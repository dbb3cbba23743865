-- The delta of a content is a valid one, and has bytes.
use Rattle.std.proofs.Common.{◌≤◌, ℕ, length, map, refl, sym, inl, subst}
use Rattle.std.proofs.lemmas.List.{length-map}
use Rattle.cover_ranges.specs.Runs.{Runs, IsCanonical}
use Rattle.content.specs.Content.{Content, IsContent}
use Rattle.copy_images.specs.declared.layout.TheConstants.{MAX_COUNT}
use Rattle.deltas.specs.Deltas.{entry_for, delta_of}
use Rattle.deltas.proofs.Validity.{delta_is}
use Rattle.delta_bytes.specs.Deltas.{delta_encoding, IsDeltaOf}

few_entries : (c : Content) (asked : Runs) → length c.kept ≤ MAX_COUNT → length (map (entry_for asked) c.kept) ≤ MAX_COUNT
few_entries c asked few = subst (λ (n : ℕ). n ≤ MAX_COUNT) (sym (length-map c.kept (entry_for asked))) few

pub delta_of_content : (c : Content) (asked : Runs) → IsContent c → IsCanonical asked → length c.cover ≤ MAX_COUNT → length asked ≤ MAX_COUNT → length c.kept ≤ MAX_COUNT
    → IsDeltaOf (delta_encoding (delta_of c asked)) (delta_of c asked)
delta_of_content c asked is canonical ranges others few = record {
  valid = delta_is c asked is canonical;
  ranges = ranges;
  asked = others;
  entries = few_entries c asked few;
  encoded = inl refl;
}
