-- Frames cut from bytes: some and then others, and how many they can be.
use Rattle.std.proofs.Common.{◌≡◌, ℕ, ◌+◌, ◌≤◌, arith, List, [], ◌∷◌, ◌++◌, length, sym, ap, refl, ◌∙◌, append_assoc, append-nil}
use Rattle.std.specs.Prelude.{pos}
use Rattle.std.specs.List.{AllByRecursion}
use Rattle.std.proofs.lemmas.Grind.{flat_map-append}
use Rattle.std.proofs.lemmas.List.{length-append}
use Rattle.frame_fields.specs.Fields.{size32, be}
use Rattle.frame_fields.specs.Frames.{framed, stream, IsWithinLimit, IsFrames, IsFirstFrame}

pub no_frames : (held : List ℕ) → IsFrames held [] held
no_frames held = record { parts = refl; within = tt }

pub one_cut : (held frame rest : List ℕ) → IsFirstFrame frame held rest → IsFrames held (frame ∷ []) rest
one_cut held frame rest first = record {
  parts = first.parts ∙ ap (λ (x : List ℕ). x ++ rest) (sym (append-nil (framed frame)));
  within = (first.within, tt);
}

pub all_append : {X : Type 0} (P : X → Type 0) (xs ys : List X) → AllByRecursion P xs → AllByRecursion P ys → AllByRecursion P (xs ++ ys)
all_append P [] ys a b = b
all_append P (x ∷ xs) ys a b = (a.0, all_append P xs ys a.1 b)

pub cut_append : (held mid rest : List ℕ) (fs gs : List (List ℕ)) → IsFrames held fs mid → IsFrames mid gs rest → IsFrames held (fs ++ gs) rest
cut_append held mid rest fs gs a b = record {
  parts = a.parts ∙ ap (λ (x : List ℕ). stream fs ++ x) b.parts ∙ sym (append_assoc (stream fs) (stream gs) rest) ∙ ap (λ (x : List ℕ). x ++ rest) (sym (flat_map-append framed fs gs));
  within = all_append (λ frame. IsWithinLimit (pos (length frame))) fs gs a.within b.within;
}

-- bytes that come join what is left
pub cut_longer : (held rest piece : List ℕ) (fs : List (List ℕ)) → IsFrames held fs rest → IsFrames (held ++ piece) fs (rest ++ piece)
cut_longer held rest piece fs a = record {
  parts = ap (λ (x : List ℕ). x ++ piece) a.parts ∙ append_assoc (stream fs) rest piece;
  within = a.within;
}

-- ---- how many they can be

framed_length : (frame : List ℕ) → length (framed frame) ≡ 4 + length frame
framed_length frame = length-append (be size32 (pos (length frame))) frame

-- a frame is held in four bytes at least
pub stream_length : (fs : List (List ℕ)) → length fs ≤ length (stream fs)
stream_length [] = omega arith
stream_length (f ∷ fs) = omega (arith, stream_length fs, length-append (framed f) (stream fs), framed_length f)

pub cut_length : (held rest : List ℕ) (fs : List (List ℕ)) → IsFrames held fs rest → length fs + length rest ≤ length held
cut_length held rest fs a = omega (arith, stream_length fs, ap length a.parts, length-append (stream fs) rest)
