-- The parts of a frame that asks for a cleaning are that frame, which is a request.
use Rattle.std.proofs.Common.{◌≡◌, ℕ, ◌+◌, ◌≤◌, ℤ, pos, negsuc, List, [], ◌++◌, length, refl, sym, ap, ap₂, ◌∙◌, arith, inl, to_z, of_z}
use Rattle.std.specs.Prelude.{FitsSigned, Result, Ok, Err, OnOk}
use Rattle.std.specs.Int.{w32, w64}
use Rattle.std.specs.declared.alloc.AllocError.{AllocError}
use Rattle.std.proofs.lemmas.Int.{ints, to_z-of_z}
use Rattle.std.proofs.lemmas.List.{length-append, append-nil}
use Rattle.responses.specs.declared.parts.TheConstants.{MAX_STRING_BYTES}
use Rattle.request_frames.specs.declared.api.Api.{Api}
use Rattle.request_frames.specs.declared.api.Api.TheVariants.{Clean}
use Rattle.frame_fields.specs.Fields.{size32, be, Fits, encoded, end}
use Rattle.frame_fields.specs.Frames.{framed, IsWithinLimit}
use Rattle.frame_fields.specs.Types.{int16, int32, int64, ◌⨾◌}
use Rattle.frame_fields.proofs.Numbers.{number_again}
use Rattle.request_frames.specs.Apis.{api_key, api_version}
use Rattle.request_frames.specs.Clean.{CleanValue}
use Rattle.request_frames.specs.Requests.{IsOf, IsRequest, body_fields, body_of, correlation_of}
use Rattle.request_frames.specs.Requests.BodyValue.{clean}
use Rattle.cleaning_frames.specs.Cleaning.{clean_body, clean_frame, cleaning}

-- what stands before the topic's name, and behind it
abbrev pub head_of : Api → (fixed : ℕ) (correlation : ℤ) (name : ℕ) → List ℕ
head_of api fixed correlation name =
    be size32 (pos (fixed + name))
    ++ encoded (int16 ⨾ int16 ⨾ int32 ⨾ int16 ⨾ int16 ⨾ end) (api_key api, (api_version api, (correlation, (negsuc 0, (pos name, tt)))))

abbrev pub tail_of : CleanValue → List ℕ
tail_of q = encoded (int32 ⨾ int64 ⨾ int64 ⨾ end) (q.partition, (q.upto, (q.tomb_before, tt)))

pub frame_length : (correlation : ℤ) (q : CleanValue) → length (clean_frame correlation q) ≡ 32 + length q.topic
unfolding encoded
frame_length correlation q = omega (arith, length-append q.topic (tail_of q))

laid_out : (correlation : ℤ) (q : CleanValue) → head_of Clean 32 correlation (length q.topic) ++ (q.topic ++ tail_of q) ≡ framed (clean_frame correlation q)
unfolding encoded
laid_out correlation q = ap (λ (n : ℕ). be size32 (pos n) ++ clean_frame correlation q) (sym (frame_length correlation q))

placed : (correlation : ℤ) (q : CleanValue) (head tail old new : List ℕ) → head ≡ head_of Clean 32 correlation (length q.topic) → tail ≡ tail_of q
    → new ≡ old ++ (head ++ (q.topic ++ tail)) → new ≡ old ++ framed (clean_frame correlation q)
placed correlation q head tail old new is_head is_tail is =
    is ∙ ap₂ (λ (h t : List ℕ). old ++ (h ++ (q.topic ++ t))) is_head is_tail ∙ ap (λ (x : List ℕ). old ++ x) (laid_out correlation q)

pub placed_if : (r : Result (Unit {0}) AllocError) (correlation : ℤ) (q : CleanValue) (head tail old new : List ℕ) → head ≡ head_of Clean 32 correlation (length q.topic)
    → tail ≡ tail_of q → OnOk r (new ≡ old ++ (head ++ (q.topic ++ tail))) → OnOk r (new ≡ old ++ framed (clean_frame correlation q))
placed_if (Ok x) correlation q head tail old new is_head is_tail is = placed correlation q head tail old new is_head is_tail is
placed_if (Err e) correlation q head tail old new is_head is_tail is = tt

-- numbers that were passed on by value
pub head_sent : (api : Api) (fixed : ℕ) (correlation : ℤ) (name : ℕ) (head : List ℕ) → FitsSigned w32 correlation → head ≡ head_of api fixed (to_z w32 (of_z w32 correlation)) name
    → head ≡ head_of api fixed correlation name
head_sent api fixed correlation name head fits is = is ∙ ap (λ (z : ℤ). head_of api fixed z name) (to_z-of_z w32 correlation fits)

pub tail_sent : (topic : List ℕ) (partition upto tomb_before : ℤ) (tail : List ℕ) → FitsSigned w32 partition → FitsSigned w64 upto → FitsSigned w64 tomb_before
    → tail ≡ tail_of (cleaning topic (to_z w32 (of_z w32 partition)) (to_z w64 (of_z w64 upto)) (to_z w64 (of_z w64 tomb_before)))
    → tail ≡ tail_of (cleaning topic partition upto tomb_before)
tail_sent topic partition upto tomb_before tail p u t is =
    is ∙ λ i. tail_of (cleaning topic (to_z-of_z w32 partition p i) (to_z-of_z w64 upto u i) (to_z-of_z w64 tomb_before t i))

pub is_within : (correlation : ℤ) (q : CleanValue) → length q.topic ≤ MAX_STRING_BYTES → IsWithinLimit (pos (length (clean_frame correlation q)))
is_within correlation q short = omega (arith, ints, frame_length correlation q, short)

-- the request that the frame is
module _ (correlation : ℤ) (q : CleanValue) (number : FitsSigned w32 correlation) (short : length q.topic ≤ MAX_STRING_BYTES) (partition : FitsSigned w32 q.partition)
    (upto : FitsSigned w64 q.upto) (tomb_before : FitsSigned w64 q.tomb_before) where
  is_clean : IsOf Clean (clean_frame correlation q)
  unfolding encoded
  is_clean = record { has_header = omega (arith, frame_length correlation q); has_api = (refl, refl) }

  same_number : correlation_of (clean_frame correlation q) ≡ correlation
  unfolding encoded
  same_number = number_again size32 correlation (encoded (body_fields Clean) (clean_body q)) number

  body_fits : Fits (body_fields Clean) (clean_body q)
  unfolding Fits
  body_fits = (tt, (record { sfits = omega (arith, short) }, (partition, (upto, (tomb_before, tt)))))

  body_is : body_of (clean_frame correlation q) ≡ encoded (body_fields Clean) (clean_body q) ++ []
  unfolding encoded
  body_is = sym (append-nil (encoded (body_fields Clean) (clean_body q)))

  pub is_request : IsRequest (clean_frame correlation q) (record { correlation = correlation; body = clean q })
  is_request = inl (
    Clean,
    is_clean,
    clean_body q,
    record { fits = body_fits; parts = body_is },
    λ i. record { correlation = sym same_number i; body = clean q },
  )
