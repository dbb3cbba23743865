-- The parts of a frame that asks for the cleaning of a part are that frame, which is a request.
use Rattle.std.proofs.Common.{◌≡◌, ℕ, ◌+◌, ◌≤◌, ℤ, pos, List, [], ◌++◌, length, refl, sym, ap, ap₂, ◌∙◌, arith, inl, to_z, of_z}
use Rattle.std.specs.Prelude.{FitsSigned, Result, Ok, Err, OnOk}
use Rattle.std.specs.Int.{w32, w64}
use Rattle.std.specs.declared.alloc.AllocError.{AllocError}
use Rattle.std.proofs.lemmas.Int.{ints, to_z-of_z}
use Rattle.std.proofs.lemmas.List.{length-append, append-nil}
use Rattle.responses.specs.declared.parts.TheConstants.{MAX_STRING_BYTES}
use Rattle.request_frames.specs.declared.api.Api.TheVariants.{CleanPart}
use Rattle.frame_fields.specs.Fields.{size32, be, Fits, encoded, end}
use Rattle.frame_fields.specs.Frames.{framed, IsWithinLimit}
use Rattle.frame_fields.specs.Types.{int32, int64, ◌⨾◌}
use Rattle.frame_fields.proofs.Numbers.{number_again}
use Rattle.request_frames.specs.CleanPart.{CleanPartValue}
use Rattle.request_frames.specs.Requests.{IsOf, IsRequest, body_fields, body_of, correlation_of}
use Rattle.request_frames.specs.Requests.BodyValue.{clean_part}
use Rattle.cleaning_frames.specs.Cleaning.{clean_part_body, clean_part_frame, part_cleaning}
use Rattle.cleaning_frames.proofs.AskedFrames.{head_of}

-- what stands behind the topic's name
abbrev pub tail_of : CleanPartValue → List ℕ
tail_of q = encoded (int32 ⨾ int64 ⨾ int64 ⨾ int64 ⨾ int64 ⨾ end) (q.partition, (q.from, (q.to, (q.upto, (q.tomb_before, tt)))))

pub frame_length : (correlation : ℤ) (q : CleanPartValue) → length (clean_part_frame correlation q) ≡ 48 + length q.topic
unfolding encoded
frame_length correlation q = omega (arith, length-append q.topic (tail_of q))

laid_out : (correlation : ℤ) (q : CleanPartValue) → head_of CleanPart 48 correlation (length q.topic) ++ (q.topic ++ tail_of q) ≡ framed (clean_part_frame correlation q)
unfolding encoded
laid_out correlation q = ap (λ (n : ℕ). be size32 (pos n) ++ clean_part_frame correlation q) (sym (frame_length correlation q))

placed : (correlation : ℤ) (q : CleanPartValue) (head tail old new : List ℕ) → head ≡ head_of CleanPart 48 correlation (length q.topic) → tail ≡ tail_of q
    → new ≡ old ++ (head ++ (q.topic ++ tail)) → new ≡ old ++ framed (clean_part_frame correlation q)
placed correlation q head tail old new is_head is_tail is =
    is ∙ ap₂ (λ (h t : List ℕ). old ++ (h ++ (q.topic ++ t))) is_head is_tail ∙ ap (λ (x : List ℕ). old ++ x) (laid_out correlation q)

pub placed_if : (r : Result (Unit {0}) AllocError) (correlation : ℤ) (q : CleanPartValue) (head tail old new : List ℕ) → head ≡ head_of CleanPart 48 correlation (length q.topic)
    → tail ≡ tail_of q → OnOk r (new ≡ old ++ (head ++ (q.topic ++ tail))) → OnOk r (new ≡ old ++ framed (clean_part_frame correlation q))
placed_if (Ok x) correlation q head tail old new is_head is_tail is = placed correlation q head tail old new is_head is_tail is
placed_if (Err e) correlation q head tail old new is_head is_tail is = tt

-- numbers that were passed on by value
pub front_sent : (partition from to : ℤ) (front : List ℕ) → FitsSigned w32 partition → FitsSigned w64 from → FitsSigned w64 to
    → front ≡ encoded (int32 ⨾ int64 ⨾ int64 ⨾ end) (to_z w32 (of_z w32 partition), (to_z w64 (of_z w64 from), (to_z w64 (of_z w64 to), tt)))
    → front ≡ encoded (int32 ⨾ int64 ⨾ int64 ⨾ end) (partition, (from, (to, tt)))
front_sent partition from to front p f o is = is ∙ λ i. encoded (int32 ⨾ int64 ⨾ int64 ⨾ end) (to_z-of_z w32 partition p i, (to_z-of_z w64 from f i, (to_z-of_z w64 to o i, tt)))

pub offsets_sent : (upto tomb_before : ℤ) (back : List ℕ) → FitsSigned w64 upto → FitsSigned w64 tomb_before → back ≡ encoded (int64 ⨾ int64 ⨾ end) (to_z w64 (of_z w64 upto), (to_z w64 (of_z w64 tomb_before), tt))
    → back ≡ encoded (int64 ⨾ int64 ⨾ end) (upto, (tomb_before, tt))
offsets_sent upto tomb_before back u t is = is ∙ λ i. encoded (int64 ⨾ int64 ⨾ end) (to_z-of_z w64 upto u i, (to_z-of_z w64 tomb_before t i, tt))

pub tail_sent : (topic : List ℕ) (partition from to upto tomb_before : ℤ) (tail : List ℕ) → FitsSigned w32 partition → FitsSigned w64 from → FitsSigned w64 to → FitsSigned w64 upto → FitsSigned w64 tomb_before
    → tail ≡ tail_of (part_cleaning topic (to_z w32 (of_z w32 partition)) (to_z w64 (of_z w64 from)) (to_z w64 (of_z w64 to)) (to_z w64 (of_z w64 upto)) (to_z w64 (of_z w64 tomb_before)))
    → tail ≡ tail_of (part_cleaning topic partition from to upto tomb_before)
tail_sent topic partition from to upto tomb_before tail p f o u t is =
    is ∙ λ i. tail_of (part_cleaning topic (to_z-of_z w32 partition p i) (to_z-of_z w64 from f i) (to_z-of_z w64 to o i) (to_z-of_z w64 upto u i) (to_z-of_z w64 tomb_before t i))

pub is_within : (correlation : ℤ) (q : CleanPartValue) → length q.topic ≤ MAX_STRING_BYTES → IsWithinLimit (pos (length (clean_part_frame correlation q)))
is_within correlation q short = omega (arith, ints, frame_length correlation q, short)

-- the request that the frame is
module _ (correlation : ℤ) (q : CleanPartValue) (number : FitsSigned w32 correlation) (short : length q.topic ≤ MAX_STRING_BYTES) (partition : FitsSigned w32 q.partition)
    (from : FitsSigned w64 q.from) (to : FitsSigned w64 q.to) (upto : FitsSigned w64 q.upto) (tomb_before : FitsSigned w64 q.tomb_before) where
  is_clean_part : IsOf CleanPart (clean_part_frame correlation q)
  unfolding encoded
  is_clean_part = record { has_header = omega (arith, frame_length correlation q); has_api = (refl, refl) }

  same_number : correlation_of (clean_part_frame correlation q) ≡ correlation
  unfolding encoded
  same_number = number_again size32 correlation (encoded (body_fields CleanPart) (clean_part_body q)) number

  body_fits : Fits (body_fields CleanPart) (clean_part_body q)
  unfolding Fits
  body_fits = (tt, (record { sfits = omega (arith, short) }, (partition, (from, (to, (upto, (tomb_before, tt)))))))

  body_is : body_of (clean_part_frame correlation q) ≡ encoded (body_fields CleanPart) (clean_part_body q) ++ []
  unfolding encoded
  body_is = sym (append-nil (encoded (body_fields CleanPart) (clean_part_body q)))

  pub is_request : IsRequest (clean_part_frame correlation q) (record { correlation = correlation; body = clean_part q })
  is_request = inl (
    CleanPart,
    is_clean_part,
    clean_part_body q,
    record { fits = body_fits; parts = body_is },
    λ i. record { correlation = sym same_number i; body = clean_part q },
  )
