-- What a copy is told, taken into it, by its parts.
use Rattle.std.proofs.Common.{◌≡◌, ℤ, List, refl, sym, subst, ◌∙◌}
use Rattle.std.specs.Prelude.{Result, Ok, Err, OnOk}
use Rattle.batch_codec.specs.Values.{BatchValue}
use Rattle.cover_ranges.specs.Runs.{Runs, union_of, cut_below}
use Rattle.content.specs.Content.{Content, IsContent}
use Rattle.deltas.specs.Deltas.{Delta, IsDelta}
use Rattle.deltas.specs.Patches.{later_start, patch}
use Rattle.deltas.proofs.PatchContents.{content_patch}

-- a copy by its start, what it has seen and the batches that it keeps
abbrev pub content_from : ℤ → Runs → List BatchValue → Content
content_from start runs kept = record { start = start; cover = runs; kept = kept }

patch_parts : (c : Content) (e : Delta) → content_from (later_start c e) (cut_below (later_start c e) (union_of c.cover e.cover)) (patch c e).kept ≡ patch c e
unfolding patch
patch_parts c e = refl

pub woven_is : (c : Content) (e : Delta) (start : ℤ) (runs seen : Runs) (kept : List BatchValue) → start ≡ later_start c e → seen ≡ e.cover → runs ≡ cut_below start (union_of c.cover seen) → kept ≡ (patch c e).kept → content_from start runs kept ≡ patch c e
woven_is c e start runs seen kept starts seen_is covered is =
    (λ i. content_from (starts i) ((covered ∙ (λ k. cut_below (starts k) (union_of c.cover (seen_is k)))) i) (is i)) ∙ patch_parts c e

pub woven_content : (c : Content) (e : Delta) (start : ℤ) (runs seen : Runs) (kept : List BatchValue) → IsContent c → IsDelta e
    → start ≡ later_start c e → seen ≡ e.cover → runs ≡ cut_below start (union_of c.cover seen) → kept ≡ (patch c e).kept → IsContent (content_from start runs kept)
woven_content c e start runs seen kept is delta starts seen_is covered made = subst IsContent (sym (woven_is c e start runs seen kept starts seen_is covered made)) (content_patch c e is delta)

pub patched_on_ok : {T E : Type 0} (r : Result T E) (c x y : Content) (Is : Delta → Type 0) → OnOk r (x ≡ y) → ((e : Delta) → Is e → y ≡ patch c e) → OnOk r ((e : Delta) → Is e → x ≡ patch c e)
patched_on_ok (Ok v) c x y Is same is = λ e told. same ∙ is e told
patched_on_ok (Err v) c x y Is same is = tt
