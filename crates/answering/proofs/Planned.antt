-- From answers that were given to what may be replied.
use Rattle.std.proofs.Common.{◌≡◌, ℕ, List, [], ◌∷◌, ◌++◌, Option, Some, inl, refl, ap, subst, ◌∙◌, append-nil}
use Rattle.std.specs.Prelude.{ℤ, map}
use Rattle.frame_fields.specs.Fields.{Fields, Value, size32, be, elements, encoded}
use Rattle.frame_fields.specs.Types.{TopicOf, topic, topic_request}
use Rattle.frame_fields.specs.Frames.{framed}
use Rattle.responses.specs.Responses.{response, topic_bytes}
use Rattle.frame_fields.specs.Arrays.{ArrayBytes, values}
use Rattle.answering.specs.Work.{Work, answer, MayAnswer}
use Rattle.answering.specs.Plans.{AnswersAll, AnswersTopics, Plan, RepliesBy}
use Rattle.answering.specs.Responding.{RespondsBy}
use Rattle.answering.specs.Writing.{topic_said, topics_said, Responds}
use Rattle.answering.specs.Once.{reply_once, RepliesOnce, WritesOnce}
use Rattle.answering.proofs.AnswersOfAll.{in_full, in_any_case}

-- ---- requests of entries

-- What is answered one way is answered another way, where `f` leads from the entries of the one to those of the other, and
-- `g` from its states.
module _ {M S V E R : Type 0} (A : M → List ℕ → V → R → M → Type 0) (B : S → List ℕ → E → R → S → Type 0) (f : V → E) (g : M → S)
    (along : (m : M) (name : List ℕ) (v : V) (r : R) (after : M) → A m name v r after → B (g m) name (f v) r (g after)) where
  entries_along : (name : List ℕ) (m : M) (vs : List V) (rs : List R) (end : M) → AnswersAll (λ m v r after. A m name v r after) m vs rs end
      → AnswersAll (λ s e r after. B s name e r after) (g m) (map f vs) rs (g end)
  entries_along name m [] [] end all = ap g all
  entries_along name m [] (r ∷ rs) end all = all
  entries_along name m (v ∷ vs) [] end all = all
  entries_along name m (v ∷ vs) (r ∷ rs) end all = (g all.0, along m name v r all.0 all.1, entries_along name all.0 vs rs end all.2)

  pub topics_along : (m : M) (ts : List (TopicOf V)) (us : List (TopicOf E)) (rs : List (TopicOf R)) (end : M) → map (λ t. record { name = t.name; entries = map f t.entries }) ts ≡ us
      → AnswersTopics A m ts rs end → AnswersTopics B (g m) us rs (g end)
  topics_along m ts us rs end is all = subst (λ xs. AnswersTopics B (g m) xs rs (g end)) is (by m ts rs end all)
    where
      by : (m : M) (ts : List (TopicOf V)) (rs : List (TopicOf R)) (end : M) → AnswersTopics A m ts rs end
          → AnswersTopics B (g m) (map (λ t. record { name = t.name; entries = map f t.entries }) ts) rs (g end)
      by m [] [] end all = ap g all
      by m [] (r ∷ rs) end all = all
      by m (t ∷ ts) [] end all = all
      by m (t ∷ ts) (r ∷ rs) end all =
          (g all.0, (all.1.0, entries_along t.name m t.entries r.entries all.0 all.1.1), by all.0 ts rs end all.2)

-- the topics of a request, from what their fields say
pub topics_of_request : {X : Type 0} (d : Fields) (f : Value d → X) (ts : List (Value (topic d)))
    → map (λ t. record { name = t.name; entries = map f t.entries }) (map (topic_said d) ts) ≡ map (topic_request d f) ts
topics_of_request d f [] = refl
topics_of_request d f (t ∷ ts) = ap (λ us. topic_request d f t ∷ us) (topics_of_request d f ts)

-- answers to what a request's fields say make one of the replies that its plan allows
pub plan_answered : {M E R S B : Type 0} (p : Plan E R S B) (d : Fields) (A : M → List ℕ → Value d → R → M → Type 0) (f : Value d → E) (g : M → S)
    → ((m : M) (name : List ℕ) (v : Value d) (r : R) (after : M) → A m name v r after → MayAnswer (p.work (g m) name (f v)) (g m) r (g after))
    → (first end : M) (topics : ArrayBytes) (results : List (TopicOf R)) (reply : Option (List ℕ)) (after : B)
    → g first ≡ p.first → map (topic_request d f) (values (topic d) topics) ≡ p.topics → reply ≡ p.response results → after ≡ p.after (g end)
    → AnswersTopics A first (topics_said d topics) results end → RepliesBy in_any_case p reply after
plan_answered {E = E} {R = R} {S = S} p d A f g may first end topics results reply after starts same sends leaves all =
    let B : S → List ℕ → E → R → S → Type 0 = λ s name e r m. MayAnswer (p.work s name e) s r m in
    record {
      results = results;
      end = g end;
      answers = subst (λ s. AnswersTopics B s p.topics results (g end)) starts
          (topics_along A B f g may first (topics_said d topics) p.topics results end (topics_of_request d f (values (topic d) topics) ∙ same) all);
      sends = sends;
      leaves = leaves;
    }

-- What `respond` ensures is one of those replies, where its bytes are the response to the results. The output held the same
-- before its room was taken.
pub plan_responded : {M E R S B : Type 0} (p : Plan E R S B) (d : Fields) (A : M → List ℕ → Value d → R → M → Type 0) (f : Value d → E) (g : M → S)
    → ((m : M) (name : List ℕ) (v : Value d) (r : R) (after : M) → A m name v r after → MayAnswer (p.work (g m) name (f v)) (g m) r (g after))
    → (enc : R → List ℕ) (n z : ℤ) (before ahead : List ℕ) (first end : M) (topics : ArrayBytes) (out held out' : List ℕ) (after : B)
    → g first ≡ p.first → map (topic_request d f) (values (topic d) topics) ≡ p.topics → after ≡ p.after (g end)
    → ((results : List (TopicOf R)) → Some (framed (be size32 n ++ (before ++ elements (topic_bytes enc) results ++ ahead))) ≡ p.response results)
    → z ≡ n → held ≡ out → Responds A enc z before first (topics_said d topics) ahead held out' end → RespondsBy p out out' after
plan_responded p d A f g may enc n z before ahead first end topics out held out' after starts same leaves sends number kept written =
    let topics_bytes = elements (topic_bytes enc) written.results in
    record {
      response = Some (framed (be size32 n ++ (before ++ topics_bytes ++ ahead)));
      replies = plan_answered p d A f g may first end topics written.results _ after starts same (sends written.results) leaves written.answers;
      appends = written.appends ∙ (λ i. kept i ++ framed (be size32 (number i) ++ (before ++ topics_bytes ++ ahead)));
    }

-- ---- requests of one entry

-- the reply where memory suffices is the function's
pub once_replies : {R S : Type 0} (response : R → List ℕ) (w : Work R S) (s : S) (reply : Option (List ℕ)) (after : S)
    → RepliesOnce in_full response w s reply after → (reply, after) ≡ reply_once response w s
once_replies response w s reply after replies =
    (λ i. (replies.sends i, after)) ∙ ap (λ a. (Some (response a.0), a.1)) replies.answers

pub once_given : {R S : Type 0} (response : R → List ℕ) (w : Work R S) (s : S) (reply : Option (List ℕ)) (after : S)
    → (reply, after) ≡ reply_once response w s → RepliesOnce in_full response w s reply after
once_given response w s reply after is = record {
  result = (answer w s).0;
  answers = λ i. ((answer w s).0, (is i).1);
  sends = ap (λ x. x.0) is;
}

pub once_weaker : {R S : Type 0} (response : R → List ℕ) (w : Work R S) (s : S) (reply : Option (List ℕ)) (after : S)
    → RepliesOnce in_full response w s reply after → RepliesOnce in_any_case response w s reply after
once_weaker response w s reply after replies = record { result = replies.result; answers = inl replies.answers; sends = replies.sends }

-- what `respond_once` appended, where its parts make the fields of the answer, is the response to the entry
pub once_written : {R S : Type 0} (d : Fields) (value : R → Value d) (w : Work R S) (s after : S) (r : R) (n z : ℤ) (fields out held out' : List ℕ)
    → z ≡ n → MayAnswer w s r after → fields ≡ encoded d (value r) → held ≡ out → out' ≡ held ++ framed (be size32 z ++ fields)
    → WritesOnce (λ r. response n d (value r)) w s out out' after
once_written d value w s after r n z fields out held out' same may parts kept written = record {
  result = r;
  answers = may;
  appends = written ∙ (λ i. kept i ++ framed (be size32 (same i) ++ parts i));
}

-- a part with no other part around it
pub alone : (part fields : List ℕ) → part ≡ fields → part ++ [] ++ [] ≡ fields
alone part fields e = append-nil (part ++ []) ∙ append-nil part ∙ e

-- what was written is one of the replies that the work allows
pub once_answered : {R S : Type 0} (response : R → List ℕ) (w : Work R S) (s : S) (out out' : List ℕ) (after : S)
    → (written : WritesOnce response w s out out' after) → RepliesOnce in_any_case response w s (Some (response written.result)) after
once_answered response w s out out' after written = record { result = written.result; answers = written.answers; sends = refl }
