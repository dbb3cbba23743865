-- The parts of a Cover response, one after the other, are the encoding of its fields.
use Rattle.std.proofs.Common.{◌≡◌, ℕ, ℤ, pos, List, [], ◌++◌, length, refl, ap, ◌∙◌}
use Rattle.std.specs.List.{flat_map}
use Rattle.frame_fields.specs.Fields.{size16, size32, be, encoded}
use Rattle.responses.specs.Cover.{cover_run_fields, cover_response, cover_run_value, cover_value, cover_head_bytes, cover_run_bytes}
use Rattle.responses.proofs.ResponseParts.{elements_of, after_count}

pub cover_parts : (code : ℤ) (runs : List (ℤ × ℤ)) → encoded cover_response (cover_value code runs) ≡ cover_head_bytes code (length runs) ++ flat_map cover_run_bytes runs
unfolding encoded
cover_parts code runs =
    ap (λ (x : List ℕ). be size16 code ++ (x ++ [])) (elements_of (encoded cover_run_fields) cover_run_value cover_run_bytes (λ run. refl) runs)
    ∙ after_count (be size16 code) (be size32 (pos (length runs))) (flat_map cover_run_bytes runs)
