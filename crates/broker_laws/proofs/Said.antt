-- What a frame of so many bytes says: values of fields that fit, part by part.
use Rattle.std.proofs.Common.{◌≡◌, ℕ, ◌+◌, ◌≤◌, ℤ, pos, List, [], ◌∷◌, ◌++◌, length, refl, ap, subst, ◌∙◌, arith}
use Rattle.std.specs.List.{flat_map, AllByRecursion}
use Rattle.std.proofs.lemmas.List.{length-append, take_at}
use Rattle.std.proofs.lemmas.List.Concat.{flat_map-cons}
use Rattle.frame_fields.specs.Fields.{size16, size32, Field, Fields, end, one, array, Value, be, field, FitsLength, Fits, encoded}
use Rattle.frame_fields.specs.Types.{string, topic, int32, ◌⨾◌}
use Rattle.frame_fields.specs.Frames.{IsBytes}
use Rattle.frame_fields.proofs.Numbers.{IsBytes-take, IsBytes-second, length-be}

-- ---- values that fit, and whose encoding is of bytes

pub record IsSaid (d : Fields) (v : Value d) : Type 0 where
  pub fits : Fits d v
  pub bytes : IsBytes (encoded d v)

pub bytes_first : (front rest : List ℕ) → IsBytes (front ++ rest) → IsBytes front
bytes_first front rest all = subst IsBytes (take_at front rest (length front) refl) (IsBytes-take (length front) (front ++ rest) all)

-- the fields after the first one
pub said_later : (f : Field) (d : Fields) (v : Value (one f d)) → IsSaid (one f d) v → IsSaid d v.1
unfolding Fits encoded
said_later f d v said = record { fits = said.fits.1; bytes = IsBytes-second (field f v.0) (encoded d v.1) said.bytes }

-- each element of an array
said_all : (d : Fields) (vs : List (Value d)) → AllByRecursion (Fits d) vs → IsBytes (flat_map (encoded d) vs) → AllByRecursion (IsSaid d) vs
said_all d [] fits all = tt
said_all d (v ∷ vs) fits all =
    let parts : IsBytes (encoded d v ++ flat_map (encoded d) vs) = subst IsBytes (flat_map-cons (encoded d) v vs) all in
    (record { fits = fits.0; bytes = bytes_first (encoded d v) (flat_map (encoded d) vs) parts }, said_all d vs fits.1 (IsBytes-second (encoded d v) (flat_map (encoded d) vs) parts))

pub said_elements : (x d : Fields) (v : Value (array x d)) → IsSaid (array x d) v → AllByRecursion (IsSaid x) v.0
unfolding Fits encoded
said_elements x d v said =
    let count = be size32 (pos (length v.0)) in
    said_all x v.0 said.fits.0.1 (IsBytes-second count (flat_map (encoded x) v.0) (bytes_first (count ++ flat_map (encoded x) v.0) (encoded d v.1) said.bytes))

pub said_name : (d : Fields) (t : Value (topic d)) → IsSaid (topic d) t → FitsLength size16 (length t.0)
unfolding Fits
said_name d t said = said.fits.0

pub said_entries : (d : Fields) (t : Value (topic d)) → IsSaid (topic d) t → AllByRecursion (IsSaid d) t.1.0
said_entries d t said = said_elements d end t.1 (said_later string (array d end) t said)

-- ---- how long they are

-- a topic's encoding: its name's length, its name, the count, the entries
pub topic_length : (d : Fields) (t : Value (topic d)) → length (encoded (topic d) t) ≡ 6 + (length t.0 + length (flat_map (encoded d) t.1.0))
unfolding encoded
topic_length d t =
    let name : length (field string t.0) ≡ 2 + length t.0 = length-append (be size16 (pos (length t.0))) t.0 ∙ ap (λ n. n + length t.0) (length-be size16 (pos (length t.0))) in
    let count : length (be size32 (pos (length t.1.0)) ++ flat_map (encoded d) t.1.0) ≡ 4 + length (flat_map (encoded d) t.1.0) =
    length-append (be size32 (pos (length t.1.0))) (flat_map (encoded d) t.1.0) ∙ ap (λ n. n + length (flat_map (encoded d) t.1.0)) (length-be size32 (pos (length t.1.0))) in
    let all = length-append (field string t.0) ((be size32 (pos (length t.1.0)) ++ flat_map (encoded d) t.1.0) ++ []) in
    let last = length-append (be size32 (pos (length t.1.0)) ++ flat_map (encoded d) t.1.0) [] in
    omega (arith, name, count, all, last)

-- the fields after the first one are no longer
pub later_shorter : (f : Field) (d : Fields) (v : Value (one f d)) → length (encoded d v.1) ≤ length (encoded (one f d) v)
unfolding encoded
later_shorter f d v = omega (arith, length-append (field f v.0) (encoded d v.1))

-- an array's encoding: the count, the elements, and the fields after it
pub array_length : (x d : Fields) (v : Value (array x d)) → length (encoded (array x d) v) ≡ 4 + length (flat_map (encoded x) v.0) + length (encoded d v.1)
unfolding encoded
array_length x d v =
    let count = be size32 (pos (length v.0)) in
    let all = length-append (count ++ flat_map (encoded x) v.0) (encoded d v.1) in
    omega (arith, all, length-append count (flat_map (encoded x) v.0), length-be size32 (pos (length v.0)))

-- ---- both, in a frame of at most so many bytes

pub record IsPart (n : ℕ) (d : Fields) (v : Value d) : Type 0 where
  pub said : IsSaid d v
  pub long : length (encoded d v) ≤ n

-- the fields after the first one
pub later : {n : ℕ} {f : Field} {d : Fields} {v : Value (one f d)} → IsPart n (one f d) v → IsPart n d v.1
later {f = f} {d = d} {v = v} part = let long = part.long in record { said = said_later f d v part.said; long = omega (arith, long, later_shorter f d v) }

-- what an array's elements are: their count fits, they are said, and they have at most so many bytes
pub record AreParts (n : ℕ) (d : Fields) (vs : List (Value d)) : Type 0 where
  pub count : FitsLength size32 (length vs)
  pub said : AllByRecursion (IsSaid d) vs
  pub long : length (flat_map (encoded d) vs) ≤ n

pub elements_are : {n : ℕ} {x d : Fields} {v : Value (array x d)} → IsPart n (array x d) v → AreParts n x v.0
unfolding Fits
elements_are {x = x} {d = d} {v = v} part =
    let long = part.long in
    record { count = part.said.fits.0.0; said = said_elements x d v part.said; long = omega (arith, long, array_length x d v) }

-- ---- lengths of fields

pub none_long : length (encoded end tt) ≡ 0
unfolding encoded
none_long = refl

pub first_long : (z : ℤ) (d : Fields) (v : Value d) → length (encoded (int32 ⨾ d) (z, v)) ≡ 4 + length (encoded d v)
unfolding encoded
first_long z d v = omega (arith, length-append (be size32 z) (encoded d v), length-be size32 z)
