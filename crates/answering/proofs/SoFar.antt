-- Lists that are answered element by element, each answer written as it comes.
use Rattle.std.proofs.Common.{◌≡◌, ℕ, suc, ◌+◌, ◌*◌, ◌≤◌, List, [], ◌∷◌, ◌++◌, length, Option, Some, refl, sym, ap, subst, ◌∙◌, arith, append_assoc, append-nil}
use Rattle.std.specs.Prelude.{ℤ, pos, Result, Ok, Err, OnOk, if◌then◌else◌}
use Rattle.std.specs.Result.{is_ok}
use Rattle.std.specs.List.{flat_map}
use Rattle.std.proofs.lemmas.List.{length-append}
use Rattle.frame_fields.specs.Fields.{size32, be}
use Rattle.frame_fields.specs.Types.{TopicOf}
use Rattle.responses.specs.Responses.{response_head, topic_head, topic_bytes}
use Rattle.answering.specs.Plans.{AnswersAll}
use Rattle.answering.specs.Writing.{Begins, topic_room, topics_room}
use Rattle.answering.specs.WritingParts.{WritesTopics, WritesResponse, SoFar, WritesSoFar, FitsSoFar}

-- ---- what is answered and written

module _ {S X Y : Type 0} (A : S → X → Y → S → Type 0) where
  one_more : (first now m : S) (all left xs : List X) (x : X) (y : Y) (done : List Y) → left ≡ x ∷ xs → A now x y m
      → SoFar A first all now left done → SoFar A first all m xs (done ++ y ∷ [])
  one_more first now m all left xs x y done is answered so_far more end rest =
      let before = so_far (y ∷ more) end (subst (λ zs. AnswersAll A now zs (y ∷ more) end) (sym is) (m, answered, rest)) in
      subst (λ ys. AnswersAll A first all ys end) (sym (append_assoc done (y ∷ []) more)) before

  none_left : (first now : S) (all left : List X) (done : List Y) → left ≡ [] → SoFar A first all now left done → AnswersAll A first all done now
  none_left first now all left done is so_far =
      subst (λ ys. AnswersAll A first all ys now) (append-nil done) (so_far [] now (subst (λ zs. AnswersAll A now zs [] now) (sym is) refl))

flat_last : {Y : Type 0} (enc : Y → List ℕ) (done : List Y) (y : Y) → flat_map enc (done ++ y ∷ []) ≡ flat_map enc done ++ enc y
flat_last enc [] y = append-nil (enc y)
flat_last enc (z ∷ zs) y = ap (λ bs. enc z ++ bs) (flat_last enc zs y) ∙ sym (append_assoc (enc z) (flat_map enc zs) (enc y))

module _ {S X Y : Type 0} (A : S → X → Y → S → Type 0) (enc : Y → List ℕ) (first : S) (all : List X) (front : List ℕ) where
  pub writes_none : (left : List X) (out : List ℕ) → left ≡ all → out ≡ front → WritesSoFar A enc first all front first left out
  writes_none left out same e =
      let count : length left ≡ length all = ap length same in
      record {
        done = [];
        answers = λ more end rest. subst (λ zs. AnswersAll A first zs more end) same rest;
        appends = e ∙ sym (append-nil front);
        counts = omega (arith, count);
      }

  pub writes_more : (now m : S) (left xs : List X) (out next : List ℕ) (x : X) (y : Y) → left ≡ x ∷ xs → A now x y m → next ≡ out ++ enc y
      → WritesSoFar A enc first all front now left out → WritesSoFar A enc first all front m xs next
  writes_more now m left xs out next x y is answered e so_far =
      let there : length left ≡ length (x ∷ xs) = ap length is in
      let longer : length (so_far.done ++ y ∷ []) ≡ length so_far.done + length (y ∷ []) = length-append so_far.done (y ∷ []) in
      let count : length so_far.done + length left ≡ length all = so_far.counts in
      record {
        done = so_far.done ++ y ∷ [];
        answers = one_more A first now m all left xs x y so_far.done is answered so_far.answers;
        appends = e ∙ ap (λ bs. bs ++ enc y) so_far.appends ∙ append_assoc front (flat_map enc so_far.done) (enc y) ∙ ap (λ bs. front ++ bs) (sym (flat_last enc so_far.done y));
        counts = omega (arith, there, longer, count);
      }

  pub answers_all : (now : S) (left : List X) (out : List ℕ) → left ≡ [] → (so_far : WritesSoFar A enc first all front now left out) → AnswersAll A first all so_far.done now
  answers_all now left out none so_far = none_left A first now all left so_far.done none so_far.answers

  pub counts_all : (now : S) (left : List X) (out : List ℕ) → left ≡ [] → (so_far : WritesSoFar A enc first all front now left out) → length so_far.done ≡ length all
  counts_all now left out none so_far =
      let nothing : length left ≡ 0 = ap length none in
      let count : length so_far.done + length left ≡ length all = so_far.counts in
      omega (arith, nothing, count)

  pub begins_so_far : (old head : List ℕ) (now : S) (left : List X) (out : List ℕ) → front ≡ old ++ head → WritesSoFar A enc first all front now left out → Begins old out
  begins_so_far old head now left out is so_far =
      (head ++ flat_map enc so_far.done, so_far.appends ∙ ap (λ bs. bs ++ flat_map enc so_far.done) is ∙ append_assoc old head (flat_map enc so_far.done))

-- behind a topic's head, the answers of its entries give the topic
pub topic_written : {Y : Type 0} (enc : Y → List ℕ) (old out name : List ℕ) (done : List Y) (n : ℕ) → length done ≡ n → out ≡ old ++ topic_head name n ++ flat_map enc done
    → out ≡ old ++ topic_bytes enc (record { name = name; entries = done })
topic_written enc old out name done n count e =
    e ∙ append_assoc old (topic_head name n) (flat_map enc done) ∙ ap (λ (k : ℕ). old ++ (topic_head name k ++ flat_map enc done)) (sym count)

-- ---- room

module _ (size : Option ℕ) where
  pub fits_none : (all left : ℕ → ℕ) (len held capacity held_capacity : ℕ) → ((n : ℕ) → len + left n ≡ held + all n) → held_capacity ≤ capacity → FitsSoFar size all left len held capacity held_capacity
  fits_none all left len held capacity held_capacity same more n is = (same n, more)

  -- room that is left, after a part of it was written
  pub fits_more : (all left next : ℕ → ℕ) (part : ℕ → ℕ) (len longer held capacity larger held_capacity : ℕ) → ((n : ℕ) → left n ≡ part n + next n)
      → ((n : ℕ) → size ≡ Some n → longer ≡ len + part n) → ((n : ℕ) → size ≡ Some n → capacity ≤ larger)
      → FitsSoFar size all left len held capacity held_capacity → FitsSoFar size all next longer held larger held_capacity
  fits_more all left next part len longer held capacity larger held_capacity parts written kept so_far n is =
      let both = so_far n is in
      let room : len + left n ≡ held + all n = both.0 in
      let had : held_capacity ≤ capacity = both.1 in (
        omega (arith, parts n, written n is, room),
        omega (arith, kept n is, had),
      )

  -- there is room for the next part, where there was room for all
  pub fits_part : (all left next : ℕ → ℕ) (part : ℕ → ℕ) (len held capacity held_capacity : ℕ) → ((n : ℕ) → left n ≡ part n + next n)
      → FitsSoFar size all left len held capacity held_capacity → (n : ℕ) → size ≡ Some n → held + all n ≤ held_capacity → len + part n ≤ capacity
  fits_part all left next part len held capacity held_capacity parts so_far n is room =
      let both = so_far n is in
      let here : len + left n ≡ held + all n = both.0 in
      let had : held_capacity ≤ capacity = both.1 in
      omega (arith, parts n, here, had, room)

one_times : (a n : ℕ) → a * suc n ≡ a + a * n
one_times a n = grind arith

pub entries_parts : {X : Type 0} (left xs : List X) (x : X) → left ≡ x ∷ xs → (n : ℕ) → n * length left ≡ n + n * length xs
entries_parts left xs x is n = ap (λ (k : ℕ). n * k) (ap length is) ∙ one_times n (length xs)

pub topics_parts : {V : Type 0} (left ts : List (TopicOf V)) (t : TopicOf V) → left ≡ t ∷ ts → (n : ℕ) → topics_room n left ≡ topic_room n t.name (length t.entries) + topics_room n ts
topics_parts left ts t is n = ap (topics_room n) is

pub no_less : (a b c : ℕ) → a ≤ b → b ≤ c → a ≤ c
no_less a b c x y = omega (arith, x, y)

-- ---- a whole response

-- what comes before the topics, the topics, and what comes after them, where the last one went well
pub response_written : {V R S E : Type 0} (r : Result (Unit {0}) E) (A : S → List ℕ → V → R → S → Type 0) (enc : R → List ℕ) (n z : ℤ) (before ahead : List ℕ) (s end : S) (ts : List (TopicOf V)) (out headed middle out' : List ℕ) (count : ℕ)
    → z ≡ n → count ≡ length ts → headed ≡ out ++ response_head z ++ before ++ be size32 (pos count) → WritesTopics A enc s ts headed middle end
    → out' ≡ (if is_ok r then middle ++ ahead else middle) → OnOk r (WritesResponse A enc n before s ts ahead out out' end)
response_written (Err e) A enc n z before ahead s end ts out headed middle out' count number counts heads written e' = tt
response_written (Ok u) A enc n z before ahead s end ts out headed middle out' count number counts heads written e' =
    let front = out ++ response_head n in
    let topics = flat_map (topic_bytes enc) written.results in
    let counted : count ≡ length written.results = counts ∙ sym written.as_many in
    record {
      results = written.results;
      answers = written.answers;
      appends = e' ∙ (λ i. written.appends i ++ ahead) ∙ (λ i. (heads i ++ topics) ++ ahead)
          ∙ (λ i. ((((out ++ response_head (number i)) ++ before) ++ be size32 (pos (counted i))) ++ topics) ++ ahead)
          ∙ in_parts front before (be size32 (pos (length written.results))) topics ahead;
    }
  where
    in_parts : (a b c d e : List ℕ) → (((a ++ b) ++ c) ++ d) ++ e ≡ a ++ ((b ++ (c ++ d)) ++ e)
    in_parts a b c d e = simp append_assoc
