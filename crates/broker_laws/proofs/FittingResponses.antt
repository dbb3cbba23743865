-- A response of values that fit, in fewer bytes than an int32 can count; and what is read back from it.
use Rattle.std.proofs.Common.{◌≡◌, ℕ, ◌+◌, ◌-◌, ◌≤◌, ℤ, pos, List, [], ◌++◌, length, Option, Ok, refl, sym, ap, ◌∙◌, arith}
use Rattle.std.specs.Prelude.{FitsSigned}
use Rattle.std.specs.Int.{w32}
use Rattle.std.proofs.lemmas.List.{length-append, append-nil}
use Rattle.frame_fields.specs.Fields.{size32, Fields, Value, be, Fits, encoded}
use Rattle.frame_fields.specs.Types.{int32, ◌⨾◌}
use Rattle.frame_fields.specs.Reading.{read_fields}
use Rattle.frame_fields.proofs.FieldLaws.{encodes_read}
use Rattle.frame_fields.proofs.Numbers.{length-be}
use Rattle.responses.specs.Responses.{response}
use Rattle.broker_state.specs.State.{State}
use Rattle.broker_state.specs.Sound.{IsSound}
use Rattle.broker_node.specs.Fitting.{IsFitting, FitsIfSent}

response_length : (correlation : ℤ) (d : Fields) (v : Value d) → length (response correlation d v) ≡ 8 + length (encoded d v)
response_length correlation d v =
    let frame = be size32 correlation ++ encoded d v in
    omega (arith, length-append (be size32 (pos (length frame))) frame, length-be size32 (pos (length frame)), length-append (be size32 correlation) (encoded d v), length-be size32 correlation)

-- more bytes than any response has, and fewer than 2^31
abbrev pub enough : ℕ
enough = 2000000000

pub fitting_response : (correlation : ℤ) (d : Fields) (v : Value d) → FitsSigned w32 correlation → Fits d v → length (encoded d v) ≤ enough → IsFitting correlation d (response correlation d v)
fitting_response correlation d v number fits small = record {
  value = v;
  is_response = refl;
  correlation_fits = number;
  fits = fits;
  size = omega (arith, small, response_length correlation d v);
}

-- what is read back: the size, the correlation id, and the values
pub read_back : (correlation : ℤ) (d : Fields) (bytes : List ℕ) (fitting : IsFitting correlation d bytes) → read_fields (int32 ⨾ int32 ⨾ d) bytes ≡ Ok ((pos (length bytes - 4), (correlation, fitting.value)), [])
unfolding Fits encoded
read_back correlation d bytes fitting =
    let frame = be size32 correlation ++ encoded d fitting.value in
    let size = fitting.size in
    let long : length bytes ≡ length (be size32 (pos (length frame)) ++ frame) = ap length fitting.is_response in
    let behind : length frame ≡ length bytes - 4 = omega (arith, long, length-append (be size32 (pos (length frame))) frame, length-be size32 (pos (length frame))) in
    encodes_read (int32 ⨾ int32 ⨾ d) (pos (length bytes - 4), (correlation, fitting.value)) bytes [] (record {
      fits = (record { sfits = omega (arith, size) }, (fitting.correlation_fits, fitting.fits));
      parts = fitting.is_response ∙ ap (λ (n : ℕ). be size32 (pos n) ++ frame) behind ∙ sym (append-nil (be size32 (pos (length bytes - 4)) ++ frame));
    })

-- what is shown of each request: the reply fits, and the state after it is sound
abbrev pub IsKept : ℤ → Fields → Option (List ℕ) → State → Type 0
IsKept correlation d out after = FitsIfSent correlation d out × IsSound after

-- the most bytes of a frame
abbrev pub frame_limit : ℕ
frame_limit = 8388608
