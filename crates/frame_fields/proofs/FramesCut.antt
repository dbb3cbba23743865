-- Frames behind their sizes: what is cut from the front of bytes, and that there is one way to cut them.
use Rattle.std.proofs.Common.{◌≡◌, ◌⊎◌, inl, inr, ℕ, zero, suc, ◌+◌, ◌<◌, ◌≤◌, List, [], ◌∷◌, ◌++◌, length, take, drop, get_or, refl, sym, ap, subst, ◌∙◌, append_assoc, arith}
use Rattle.std.specs.Prelude.{nat_abs, ℤ, pos, negsuc, ◌+ℤ◌, ◌<ℤ◌, ◌≤ℤ◌}
use Rattle.std.specs.Int.{w8, w32}
use Rattle.std.proofs.lemmas.List.{take_at, drop_at, take-append-drop, drop-append-le, length-append, length-take, length-drop}
use Rattle.std.proofs.lemmas.Bool.{cases_lt}
use Rattle.std.proofs.lemmas.Int.{ints, to_z-of_z}
use mir.Val.{Fits, SFits, to_z, of_z}
use Rattle.frame_fields.specs.declared.frame.TheConstants.{MAX_FRAME}
use Rattle.frame_fields.specs.declared.error.FrameError.{FrameError}
use Rattle.frame_fields.specs.declared.error.FrameError.TheVariants.{NegativeSize, TooLarge, ShortHeader, UnknownApi, BadVersion, ShortBody, Malformed, TrailingBytes, OutOfMemory}
use Rattle.frame_fields.specs.Fields.{size32, be}
use Rattle.frame_fields.specs.Frames.{framed, stream, frame_size, IsWithinLimit, IsIncomplete, SizeFault, IsFrames, HasNoFrame, IsFirstFrame, IsBytes}
use Rattle.frame_fields.proofs.Numbers.{IsBytes-drop, number_again, number_back}

-- ---- what a first frame says of the bytes

-- a frame behind its size begins with the number of its bytes
size_again : (frame rest : List ℕ) → IsWithinLimit (pos (length frame)) → frame_size (framed frame ++ rest) ≡ pos (length frame)
size_again frame rest within =
    let size = pos (length frame) in
    ap frame_size (append_assoc (be size32 size) frame rest) ∙ number_again size32 size (frame ++ rest) (record { sfits = omega (arith, ints) })

first_size_is : (frame bytes rest : List ℕ) → IsFirstFrame frame bytes rest → frame_size bytes ≡ pos (length frame)
first_size_is frame bytes rest first = ap frame_size first.parts ∙ size_again frame rest first.within

first_length_is : (frame bytes rest : List ℕ) → IsFirstFrame frame bytes rest → length bytes ≡ 4 + length frame + length rest
first_length_is frame bytes rest first =
    omega (arith, ap length first.parts, length-append (framed frame) rest, length-append (be size32 (pos (length frame))) frame)

-- what follows the size
after_size : (frame bytes rest : List ℕ) → IsFirstFrame frame bytes rest → drop 4 bytes ≡ frame ++ rest
after_size frame bytes rest first = ap (drop 4) first.parts

-- bytes begin with one frame at most
pub first_once : (frame other bytes rest other_rest : List ℕ) → IsFirstFrame frame bytes rest → IsFirstFrame other bytes other_rest → (frame ≡ other) × (rest ≡ other_rest)
first_once frame other bytes rest other_rest first second =
    let same : pos (length frame) ≡ pos (length other) = sym (first_size_is frame bytes rest first) ∙ first_size_is other bytes other_rest second in
    let n = length frame in
    let as_long : length other ≡ n = omega (arith, ints, same) in
    let body : frame ++ rest ≡ other ++ other_rest = sym (after_size frame bytes rest first) ∙ after_size other bytes other_rest second in (
      sym (take_at frame rest n refl) ∙ ap (take n) body ∙ take_at other other_rest n as_long,
      sym (drop_at frame rest n refl) ∙ ap (drop n) body ∙ drop_at other other_rest n as_long,
    )

-- bytes that begin with a frame are not incomplete, and no size of theirs is refused
pub first_not_incomplete : (frame bytes rest : List ℕ) → IsFirstFrame frame bytes rest → IsIncomplete bytes → ⊥
first_not_incomplete frame bytes rest first (inl cut) = omega (arith, first_length_is frame bytes rest first)
first_not_incomplete frame bytes rest first (inr short) =
    omega (arith, ints, first_length_is frame bytes rest first, first_size_is frame bytes rest first, short.2)

pub first_not_refused : (frame bytes rest : List ℕ) (e : FrameError) → IsFirstFrame frame bytes rest → SizeFault e bytes → ⊥
first_not_refused frame bytes rest NegativeSize first fault = omega (arith, ints, first_size_is frame bytes rest first, fault.1)
first_not_refused frame bytes rest TooLarge first fault = omega (arith, ints, first_size_is frame bytes rest first, first.within, fault.1)
first_not_refused frame bytes rest ShortHeader first fault = fault
first_not_refused frame bytes rest UnknownApi first fault = fault
first_not_refused frame bytes rest BadVersion first fault = fault
first_not_refused frame bytes rest ShortBody first fault = fault
first_not_refused frame bytes rest Malformed first fault = fault
first_not_refused frame bytes rest TrailingBytes first fault = fault
first_not_refused frame bytes rest OutOfMemory first fault = fault

first_and_none : (frame bytes rest : List ℕ) → IsFirstFrame frame bytes rest → HasNoFrame bytes → ⊥
first_and_none frame bytes rest first (inl incomplete) = first_not_incomplete frame bytes rest first incomplete
first_and_none frame bytes rest first (inr fault) = first_not_refused frame bytes rest fault.0 first fault.1

pub incomplete_is_not_refused : (rest : List ℕ) (e : FrameError) → IsIncomplete rest → SizeFault e rest → ⊥
incomplete_is_not_refused rest NegativeSize (inl cut) fault = omega (arith, fault.0)
incomplete_is_not_refused rest NegativeSize (inr short) fault = omega (arith, ints, short.0, fault.1)
incomplete_is_not_refused rest TooLarge (inl cut) fault = omega (arith, fault.0)
incomplete_is_not_refused rest TooLarge (inr short) fault = omega (arith, ints, short.1, fault.1)
incomplete_is_not_refused rest ShortHeader incomplete fault = fault
incomplete_is_not_refused rest UnknownApi incomplete fault = fault
incomplete_is_not_refused rest BadVersion incomplete fault = fault
incomplete_is_not_refused rest ShortBody incomplete fault = fault
incomplete_is_not_refused rest Malformed incomplete fault = fault
incomplete_is_not_refused rest TrailingBytes incomplete fault = fault
incomplete_is_not_refused rest OutOfMemory incomplete fault = fault

-- a size is refused for one reason
fault_is : (rest : List ℕ) (e : FrameError) → SizeFault e rest → ((e ≡ NegativeSize) × (frame_size rest <ℤ pos 0)) ⊎ ((e ≡ TooLarge) × (MAX_FRAME <ℤ frame_size rest))
fault_is rest NegativeSize fault = inl (refl, fault.1)
fault_is rest TooLarge fault = inr (refl, fault.1)
fault_is rest ShortHeader fault = absurd fault
fault_is rest UnknownApi fault = absurd fault
fault_is rest BadVersion fault = absurd fault
fault_is rest ShortBody fault = absurd fault
fault_is rest Malformed fault = absurd fault
fault_is rest TrailingBytes fault = absurd fault
fault_is rest OutOfMemory fault = absurd fault

pub one_refusal : (rest : List ℕ) (e other : FrameError) → SizeFault e rest → SizeFault other rest → e ≡ other
one_refusal rest e other fault second =
    let by : ((e ≡ NegativeSize) × (frame_size rest <ℤ pos 0)) ⊎ ((e ≡ TooLarge) × (MAX_FRAME <ℤ frame_size rest))
    → ((other ≡ NegativeSize) × (frame_size rest <ℤ pos 0)) ⊎ ((other ≡ TooLarge) × (MAX_FRAME <ℤ frame_size rest)) → e ≡ other
    = λ a b. elim a [
      | inl p ↦ elim b [ inl q ↦ p.0 ∙ sym q.0 | inr q ↦ absurd (omega (arith, ints, p.1, q.1)) ]
      | inr p ↦ elim b [ inl q ↦ absurd (omega (arith, ints, p.1, q.1)) | inr q ↦ p.0 ∙ sym q.0 ]
    ] in
    by (fault_is rest e fault) (fault_is rest other second)

-- ---- one way to cut

-- frames and a rest, of which the first frame is taken
first_of : (bytes frame : List ℕ) (frames : List (List ℕ)) (rest : List ℕ) → IsFrames bytes (frame ∷ frames) rest → IsFirstFrame frame bytes (stream frames ++ rest)
first_of bytes frame frames rest cut = record { parts = cut.parts ∙ append_assoc (framed frame) (stream frames) rest; within = cut.within.0 }

later_of : (bytes frame : List ℕ) (frames : List (List ℕ)) (rest : List ℕ) → IsFrames bytes (frame ∷ frames) rest → IsFrames (stream frames ++ rest) frames rest
later_of bytes frame frames rest cut = record { parts = refl; within = cut.within.1 }

pub one_cutting : (bytes rest other_rest : List ℕ) (frames others : List (List ℕ)) → IsFrames bytes frames rest → HasNoFrame rest → IsFrames bytes others other_rest → HasNoFrame other_rest → (frames ≡ others) × (rest ≡ other_rest)
one_cutting bytes rest other_rest [] [] cut none other_cut other_none = (refl, sym cut.parts ∙ other_cut.parts)
one_cutting bytes rest other_rest [] (g ∷ gs) cut none other_cut other_none =
    absurd (first_and_none g bytes (stream gs ++ other_rest) (first_of bytes g gs other_rest other_cut) (subst HasNoFrame (sym cut.parts) none))
one_cutting bytes rest other_rest (f ∷ fs) [] cut none other_cut other_none =
    absurd (first_and_none f bytes (stream fs ++ rest) (first_of bytes f fs rest cut) (subst HasNoFrame (sym other_cut.parts) other_none))
one_cutting bytes rest other_rest (f ∷ fs) (g ∷ gs) cut none other_cut other_none =
    let first = first_once f g bytes (stream fs ++ rest) (stream gs ++ other_rest) (first_of bytes f fs rest cut) (first_of bytes g gs other_rest other_cut) in
    let later : IsFrames (stream fs ++ rest) gs other_rest = record { parts = first.1; within = other_cut.within.1 } in
    let others = one_cutting (stream fs ++ rest) rest other_rest fs gs (later_of bytes f fs rest cut) none later other_none in
    (λ i. first.0 i ∷ others.0 i, others.1)

-- ---- some way to cut

-- bytes that are long enough for the size that they begin with begin with a frame
frame_back : (bytes : List ℕ) (n : ℕ) → IsBytes bytes → 4 + n ≤ length bytes → frame_size bytes ≡ pos n → IsWithinLimit (pos n) → IsFirstFrame (drop 4 (take (4 + n) bytes)) bytes (drop (4 + n) bytes)
frame_back bytes n fits long size within =
    let whole = take (4 + n) bytes in
    let frame = drop 4 whole in
    let rest = drop (4 + n) bytes in
    let len : length frame ≡ n = omega (arith, length-drop 4 whole, length-take (4 + n) bytes) in
    let enough : 4 ≤ length whole = omega (arith, length-take (4 + n) bytes) in
    let number : be size32 (frame_size bytes) ≡ be size32 (pos (length frame)) = ap (be size32) (size ∙ ap (λ (k : ℕ). pos k) (sym len)) in
    let behind : drop 4 bytes ≡ frame ++ rest = sym (ap (drop 4) (take-append-drop (4 + n) bytes)) ∙ drop-append-le 4 whole rest enough in
    record {
      parts = number_back size32 bytes fits (omega arith) ∙ (λ i. number i ++ behind i) ∙ sym (append_assoc (be size32 (pos (length frame))) frame rest);
      within = let P : ℕ → Type 0 = λ k. IsWithinLimit (pos k) in subst P (sym len) within;
    }

-- the same for the size as a signed number
frame_there : (bytes : List ℕ) (z : ℤ) → IsBytes bytes → 4 + nat_abs z ≤ length bytes → frame_size bytes ≡ z → pos 0 ≤ℤ z → IsWithinLimit z → IsFirstFrame (drop 4 (take (4 + nat_abs z) bytes)) bytes (drop (4 + nat_abs z) bytes)
frame_there bytes (pos n) fits long size low within = frame_back bytes n fits long size within
frame_there bytes (negsuc n) fits long size low within = absurd (omega (arith, ints, low))

-- the same for a size as code reads it from a slice
pub frame_read : (bytes : List ℕ) (x : ℤ) → ((i : ℕ) → Fits w8 (get_or bytes i 0)) → SFits w32 x → frame_size bytes ≡ x → pos 0 ≤ℤ to_z w32 (of_z w32 x) → IsWithinLimit (to_z w32 (of_z w32 x)) → 4 + nat_abs (to_z w32 (of_z w32 x)) ≤ length bytes → IsFirstFrame (drop 4 (take (4 + nat_abs (to_z w32 (of_z w32 x))) bytes)) bytes (drop (4 + nat_abs (to_z w32 (of_z w32 x))) bytes)
frame_read bytes x fits fit size low within long =
    frame_there bytes (to_z w32 (of_z w32 x)) (λ i. omega (arith, fits i)) long (size ∙ sym (to_z-of_z w32 x fit)) low within

-- the bytes begin with a frame, or none can be cut, by the size z that they begin with
by_size : (bytes : List ℕ) (z : ℤ) → IsBytes bytes → 4 ≤ length bytes → frame_size bytes ≡ z → HasNoFrame bytes ⊎ (frame rest : List ℕ) × IsFirstFrame frame bytes rest
by_size bytes (negsuc k) fits long size =
    inl (inr (NegativeSize, (long, omega (arith, ints, size))))
by_size bytes (pos n) fits long size =
    let over : nat_abs MAX_FRAME < n → MAX_FRAME <ℤ frame_size bytes = λ h. omega (arith, ints, size, h) in
    let low : pos 0 ≤ℤ frame_size bytes = omega (arith, ints, size) in
    let high : n ≤ nat_abs MAX_FRAME → IsWithinLimit (frame_size bytes) = λ h. omega (arith, ints, size, h) in
    let limit : n ≤ nat_abs MAX_FRAME → IsWithinLimit (pos n) = λ h. omega (arith, ints, h) in
    let short : length bytes < 4 + n → pos (length bytes) <ℤ (pos 4 +ℤ frame_size bytes) = λ h. omega (arith, ints, size, h) in
    elim (cases_lt (nat_abs MAX_FRAME) n) [
      | inl h ↦ inl (inr (TooLarge, (long, over h)))
      | inr h ↦ elim (cases_lt (length bytes) (4 + n)) [
        | inl missing ↦ inl (inl (inr (low, high h, short missing)))
        | inr there ↦ inr (drop 4 (take (4 + n) bytes), drop (4 + n) bytes, frame_back bytes n fits there size (limit h))
      ]
    ]

first_or_none : (bytes : List ℕ) → IsBytes bytes → HasNoFrame bytes ⊎ (frame rest : List ℕ) × IsFirstFrame frame bytes rest
first_or_none bytes fits =
    elim (cases_lt (length bytes) 4) [ inl cut ↦ inl (inl (inl cut)) | inr long ↦ by_size bytes (frame_size bytes) fits long refl ]

-- a frame before what is cut
one_more : (frame bytes rest : List ℕ) → IsFirstFrame frame bytes rest → (frames : List (List ℕ)) (last : List ℕ) → IsFrames rest frames last → IsFrames bytes (frame ∷ frames) last
one_more frame bytes rest first frames last cut =
    record {
      parts = first.parts ∙ ap (λ (x : List ℕ). framed frame ++ x) cut.parts ∙ sym (append_assoc (framed frame) (stream frames) last);
      within = (first.within, cut.within);
    }

rest_fits : (frame bytes rest : List ℕ) → IsBytes bytes → IsFirstFrame frame bytes rest → IsBytes rest
rest_fits frame bytes rest fits first =
    subst IsBytes (ap (drop (length (framed frame))) first.parts ∙ drop_at (framed frame) rest (length (framed frame)) refl) (IsBytes-drop (length (framed frame)) bytes fits)

pub some_cutting : (n : ℕ) (bytes : List ℕ) → length bytes ≤ n → IsBytes bytes → (frames : List (List ℕ)) × (rest : List ℕ) × IsFrames bytes frames rest × HasNoFrame rest
some_cutting zero bytes short fits = ([], bytes, record { parts = refl; within = tt }, inl (inl (omega arith)))
some_cutting (suc n) bytes short fits =
    elim (first_or_none bytes fits) [
      | inl none ↦ ([], bytes, record { parts = refl; within = tt }, none)
      | inr first ↦
          let long = first_length_is first.0 bytes first.1 first.2 in
          let later = some_cutting n first.1 (omega arith) (rest_fits first.0 bytes first.1 fits first.2) in
          (first.0 ∷ later.0, later.1, one_more first.0 bytes first.1 first.2 later.0 later.1 later.2, later.3)
    ]
