-- Answers that a function gives, as a relation and by one pass.
use Rattle.std.proofs.Common.{◌≡◌, ℕ, List, [], ◌∷◌, Option, inl, inr, refl, sym, ap, ◌∙◌}
use Rattle.frame_fields.specs.Types.{TopicOf}
use Rattle.answering.specs.Lists.{map_accum}
use Rattle.answering.specs.Work.{answer, IsAnswer, IsOutOfMemory, MayAnswer}
use Rattle.answering.specs.Plans.{over_entries, over_topics, AnswersAll, AnswersTopic, AnswersTopics, Plan, HowAnswered, reply_by, RepliesBy}

-- ---- over lists

-- what the one way answers, the other does
pub all_weaker : {S X Y : Type 0} (A B : S → X → Y → S → Type 0) → ((s : S) (x : X) (y : Y) (m : S) → A s x y m → B s x y m) → (s : S) (xs : List X) (ys : List Y) (end : S) → AnswersAll A s xs ys end → AnswersAll B s xs ys end
all_weaker A B weaker s [] [] end all = all
all_weaker A B weaker s [] (y ∷ ys) end all = all
all_weaker A B weaker s (x ∷ xs) [] end all = all
all_weaker A B weaker s (x ∷ xs) (y ∷ ys) end all = (all.0, weaker s x y all.0 all.1, all_weaker A B weaker all.0 xs ys end all.2)

-- a relation that says no more than the function is answered by one pass
pub all_passed : {S X Y : Type 0} (A : S → X → Y → S → Type 0) (f : S → X → Y × S) → ((s : S) (x : X) (y : Y) (m : S) → A s x y m → (y, m) ≡ f s x) → (s : S) (xs : List X) (ys : List Y) (end : S) → AnswersAll A s xs ys end → (ys, end) ≡ map_accum f s xs
all_passed A f is s [] [] end all = λ i. ([], sym all i)
all_passed A f is s [] (y ∷ ys) end all = absurd all
all_passed A f is s (x ∷ xs) [] end all = absurd all
all_passed A f is s (x ∷ xs) (y ∷ ys) end all =
    let first = is s x y all.0 all.1 in
    let others = all_passed A f is all.0 xs ys end all.2 in
    (λ i. ((first i).0 ∷ (others i).0, (others i).1)) ∙ ap (λ (m : _). ((f s x).0 ∷ (map_accum f m xs).0, (map_accum f m xs).1)) (ap (λ p. p.1) first)

-- the pass answers all, by a relation that the function meets
pub all_given : {S X Y : Type 0} (A : S → X → Y → S → Type 0) (f : S → X → Y × S) → ((s : S) (x : X) → A s x (f s x).0 (f s x).1) → (s : S) (xs : List X) → AnswersAll A s xs (map_accum f s xs).0 (map_accum f s xs).1
all_given A f meets s [] = refl
all_given A f meets s (x ∷ xs) = ((f s x).1, meets s x, all_given A f meets (f s x).1 xs)

-- ---- over topics

module _ {E R S : Type 0} (A : S → List ℕ → E → R → S → Type 0) (f : S → List ℕ → E → R × S) where
  topic_passed : ((s : S) (name : List ℕ) (e : E) (r : R) (m : S) → A s name e r m → (r, m) ≡ f s name e) → (s : S) (t : TopicOf E) (r : TopicOf R) (m : S) → AnswersTopic A s t r m → (r, m) ≡ over_entries f s t
  topic_passed is s t r m topic =
      let all = all_passed (λ s e y m. A s t.name e y m) (λ s e. f s t.name e) (λ s e y m. is s t.name e y m) s t.entries r.entries m topic.1 in
      λ i. (record { name = topic.0 i; entries = (all i).0 }, (all i).1)

  pub topics_passed : ((s : S) (name : List ℕ) (e : E) (r : R) (m : S) → A s name e r m → (r, m) ≡ f s name e) → (s : S) (ts : List (TopicOf E)) (rs : List (TopicOf R)) (end : S) → AnswersTopics A s ts rs end → (rs, end) ≡ over_topics f s ts
  topics_passed is = all_passed (AnswersTopic A) (over_entries f) (topic_passed is)

  pub topics_given : ((s : S) (name : List ℕ) (e : E) → A s name e (f s name e).0 (f s name e).1) → (s : S) (ts : List (TopicOf E)) → AnswersTopics A s ts (over_topics f s ts).0 (over_topics f s ts).1
  topics_given meets = all_given (AnswersTopic A) (over_entries f) (λ s t. (refl, all_given (λ s e y m. A s t.name e y m) (λ s e. f s t.name e) (λ s e. meets s t.name e) s t.entries))

pub topics_weaker : {E R S : Type 0} (A B : S → List ℕ → E → R → S → Type 0) → ((s : S) (name : List ℕ) (e : E) (r : R) (m : S) → A s name e r m → B s name e r m) → (s : S) (ts : List (TopicOf E)) (rs : List (TopicOf R)) (end : S) → AnswersTopics A s ts rs end → AnswersTopics B s ts rs end
topics_weaker A B weaker = all_weaker (AnswersTopic A) (AnswersTopic B) (λ s t r m topic. (topic.0, all_weaker (λ s e y m. A s t.name e y m) (λ s e y m. B s t.name e y m) (λ s e y m. weaker s t.name e y m) s t.entries r.entries m topic.1))

-- ---- plans

abbrev pub in_full : HowAnswered
in_full = λ R S w. IsAnswer w

abbrev pub in_want : HowAnswered
in_want = λ R S w. IsOutOfMemory w

abbrev pub in_any_case : HowAnswered
in_any_case = λ R S w. MayAnswer w

pub plan_replies : {E R S B : Type 0} (p : Plan E R S B) (out : Option (List ℕ)) (after : B) → RepliesBy in_full p out after → (out, after) ≡ reply_by p
plan_replies p out after replies =
    let all = topics_passed (λ s name e r m. IsAnswer (p.work s name e) s r m) (λ s name e. answer (p.work s name e) s) (λ s name e r m is. is) p.first p.topics replies.results replies.end replies.answers in
    (λ i. (replies.sends i, replies.leaves i)) ∙ ap (λ x. (p.response x.0, p.after x.1)) all

pub plan_given : {E R S B : Type 0} (p : Plan E R S B) (out : Option (List ℕ)) (after : B) → (out, after) ≡ reply_by p → RepliesBy in_full p out after
plan_given p out after is =
    let all = over_topics (λ s name e. answer (p.work s name e) s) p.first p.topics in
    record {
      results = all.0;
      end = all.1;
      answers = topics_given (λ s name e r m. IsAnswer (p.work s name e) s r m) (λ s name e. answer (p.work s name e) s) (λ s name e. refl) p.first p.topics;
      sends = ap (λ x. x.0) is;
      leaves = ap (λ x. x.1) is;
    }

pub plan_weaker : {E R S B : Type 0} (p : Plan E R S B) (out : Option (List ℕ)) (after : B) → RepliesBy in_full p out after → RepliesBy in_any_case p out after
plan_weaker p out after replies = record {
  results = replies.results;
  end = replies.end;
  answers = topics_weaker (λ s name e r m. IsAnswer (p.work s name e) s r m) (λ s name e r m. MayAnswer (p.work s name e) s r m) (λ s name e r m is. inl is) p.first p.topics replies.results replies.end replies.answers;
  sends = replies.sends;
  leaves = replies.leaves;
}

pub plan_want_may : {E R S B : Type 0} (p : Plan E R S B) (out : Option (List ℕ)) (after : B) → RepliesBy in_want p out after → RepliesBy in_any_case p out after
plan_want_may p out after replies = record {
  results = replies.results;
  end = replies.end;
  answers = topics_weaker (λ s name e r m. IsOutOfMemory (p.work s name e) s r m) (λ s name e r m. MayAnswer (p.work s name e) s r m) (λ s name e r m is. inr is) p.first p.topics replies.results replies.end replies.answers;
  sends = replies.sends;
  leaves = replies.leaves;
}
