-- Responses whose last field is bytes: a head and the bytes, one after the other, are the encoding of the fields.
use Rattle.std.proofs.Common.{◌≡◌, ℕ, ℤ, pos, List, [], ◌++◌, length, refl, ap, append-nil}
use Rattle.std.specs.Prelude.{Option, None, Some}
use Rattle.frame_fields.specs.Fields.{size16, size32, be, encoded}
use Rattle.frame_fields.specs.Types.{or_empty}
use Rattle.responses.specs.Export.{export_response, export_value, export_head_bytes}
use Rattle.responses.specs.Get.{get_response, get_value, get_head_bytes}

behind : (code size : ℤ) (last : List ℕ) → be size16 code ++ (be size32 size ++ (last ++ [])) ≡ be size16 code ++ (be size32 size ++ last)
behind code size last = ap (λ (x : List ℕ). be size16 code ++ (be size32 size ++ x)) (append-nil last)

pub export_parts : (code : ℤ) (sent : List ℕ) → encoded export_response (export_value code sent) ≡ export_head_bytes code (length sent) ++ sent
unfolding encoded
export_parts code sent = behind code (pos (length sent)) sent

pub get_parts : (code : ℤ) (value : Option (List ℕ)) → encoded get_response (get_value code value) ≡ get_head_bytes code value ++ or_empty value
unfolding encoded
get_parts code None = refl
get_parts code (Some bytes) = behind code (pos (length bytes)) bytes
