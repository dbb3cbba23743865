-- What all responses' parts have: topics behind their count, bytes around a name, the size, and the limits of the fields.
use Rattle.std.proofs.Common.{◌≡◌, ℕ, ◌≤◌, List, [], ◌∷◌, ◌++◌, length, refl, sym, ap, ◌∙◌, append_assoc, append-nil, arith}
use Rattle.std.specs.Prelude.{ℤ, pos, map, ◌↔◌, Result, Ok, Err, OnOk}
use Rattle.std.specs.List.{flat_map}
use Rattle.std.proofs.lemmas.List.{length-map}
use Rattle.responses.specs.declared.parts.TheConstants.{MAX_STRING_BYTES, MAX_COUNT, MAX_BODY_BYTES}
use Rattle.frame_fields.specs.Fields.{size16, size32, FitsLength, Fields, end, array, Value, be, elements, field, encoded}
use Rattle.frame_fields.specs.Frames.{framed}
use Rattle.frame_fields.specs.Types.{TopicOf, string, ◌⨾◌}
use Rattle.responses.specs.Responses.{response_head, topic_values, topic_bytes}

-- elements whose encodings are parts
parts_of : {X Y : Type 0} (enc : Y → List ℕ) (value : X → Y) (part : X → List ℕ) → ((x : X) → enc (value x) ≡ part x) → (xs : List X) → flat_map enc (map value xs) ≡ flat_map part xs
parts_of enc value part e [] = refl
parts_of enc value part e (x ∷ xs) = λ i. e x i ++ parts_of enc value part e xs i

pub elements_of : {X Y : Type 0} (enc : Y → List ℕ) (value : X → Y) (part : X → List ℕ) → ((x : X) → enc (value x) ≡ part x) → (xs : List X) → elements enc (map value xs) ≡ be size32 (pos (length xs)) ++ flat_map part xs
elements_of enc value part e xs = λ i. be size32 (pos (length-map xs value i)) ++ parts_of enc value part e xs i

-- elements behind bytes that end in their count
pub after_count : (front count more : List ℕ) → front ++ ((count ++ more) ++ []) ≡ (front ++ (count ++ [])) ++ more
after_count front count more =
    ap (λ (x : List ℕ). front ++ x) (append-nil (count ++ more) ∙ ap (λ (x : List ℕ). x ++ more) (sym (append-nil count))) ∙ sym (append_assoc front (count ++ []) more)

module _ {Entry : Type 0} (d : Fields) (value : Entry → Value d) (part : Entry → List ℕ) (same : (x : Entry) → encoded d (value x) ≡ part x) where
  -- a topic is its head and the parts of its partitions
  topic_of : (t : TopicOf Entry) → encoded (string ⨾ array d end) (t.name, (map value t.entries, tt)) ≡ topic_bytes part t
  unfolding encoded
  topic_of t =
      ap (λ (x : List ℕ). field string t.name ++ (x ++ [])) (elements_of (encoded d) value part same t.entries)
      ∙ after_count (field string t.name) (be size32 (pos (length t.entries))) (flat_map part t.entries)

  -- topics are their count and their parts
  pub topics_are : (ts : List (TopicOf Entry)) → elements (encoded (string ⨾ array d end)) (topic_values d value ts) ≡ be size32 (pos (length ts)) ++ flat_map (topic_bytes part) ts
  topics_are ts = elements_of (encoded (string ⨾ array d end)) (λ t. (t.name, (map value t.entries, tt))) (topic_bytes part) topic_of ts

-- the same behind bytes in two parts
pub after_two : (a b count more : List ℕ) → a ++ (b ++ ((count ++ more) ++ [])) ≡ (a ++ (b ++ (count ++ []))) ++ more
after_two a b count more = ap (λ (x : List ℕ). a ++ x) (after_count b count more) ∙ sym (append_assoc a (b ++ (count ++ [])) more)

-- ---- bytes around a name

-- three parts that were appended one after the other, the last one if all went well
pub put_around : {E : Type 0} (r : Result (Unit {0}) E) (old first second new before name after : List ℕ) → first ≡ old ++ before → second ≡ first ++ name → OnOk r (new ≡ second ++ after)
    → OnOk r (new ≡ old ++ (before ++ (name ++ after)))
put_around (Ok x) old first second new before name after one two three =
    three ∙ (λ i. two i ++ after) ∙ (λ i. (one i ++ name) ++ after) ∙ append_assoc (old ++ before) name after ∙ append_assoc old before (name ++ after)
put_around (Err e) old first second new before name after one two three = tt

-- ---- the size

-- a size that is set behind what was there makes a response of what `begin_response` wrote and the fields
pub finished : (old new : List ℕ) (start : ℕ) → ((front size body : List ℕ) → old ≡ front ++ (size ++ body) → length front ≡ start → length size ≡ 4 → new ≡ front ++ framed body)
    → (front fields : List ℕ) (correlation : ℤ) → old ≡ front ++ response_head correlation ++ fields → length front ≡ start → new ≡ front ++ framed (be size32 correlation ++ fields)
unfolding response_head
finished old new start frames front fields correlation is at =
    frames front (be size32 (pos 0)) (be size32 correlation ++ fields) (is ∙ append_assoc front (response_head correlation) fields) at refl

-- ---- the limits

pub string_limit : (n : ℕ) → (n ≤ MAX_STRING_BYTES) ↔ FitsLength size16 n
string_limit n = (λ small. record { sfits = omega (arith, small) }, λ fits. omega (arith, fits.sfits))

pub count_limit : (n : ℕ) → (n ≤ MAX_COUNT) ↔ FitsLength size32 n
count_limit n = (λ small. record { sfits = omega (arith, small) }, λ fits. omega (arith, fits.sfits))

pub size_limit : (n : ℕ) → (n ≤ MAX_BODY_BYTES) ↔ FitsLength size32 n
size_limit n = (λ small. record { sfits = omega (arith, small) }, λ fits. omega (arith, fits.sfits))

pub ruleset limits = (string_limit, count_limit, size_limit)
