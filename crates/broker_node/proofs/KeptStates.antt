-- What a request keeps: a property of the broker's states that holds at first, and that work which is done keeps, holds in the
-- end, whether memory suffices or not.
use Rattle.std.proofs.Common.{◌≡◌, ℕ, List, [], ◌∷◌, ◌++◌, Option, Some, None, inl, inr, refl, sym, subst}
use Rattle.std.specs.List.{AllByRecursion}
use Rattle.frame_fields.specs.Types.{TopicOf}
use Rattle.answering.specs.declared.codes.ErrorCode.{ErrorCode}
use Rattle.answering.specs.declared.codes.ErrorCode.TheVariants.{StorageError}
use Rattle.answering.specs.Lists.{first_some}
use Rattle.answering.specs.Work.{Work, answer_after, MayAnswer}
use Rattle.answering.specs.Plans.{AnswersAll, Plan, RepliesBy}
use Rattle.answering.proofs.AnswersOfAll.{in_any_case}
use Rattle.broker_node.specs.Ways.Way.{planned, once, fixed}
use Rattle.broker_node.specs.Ways.{Way, reply_by_way, RepliesByWay}
use Rattle.broker_node.proofs.PlannedReplies.{way_given, way_weaker}

-- ---- one entry

-- a property of the answers to all checks that fail, and of the work that is done
pub worked : {R S : Type 0} (P : R → S → Type 0) (w : Work R S) (s : S) (r : R) (m : S) → ((code : ErrorCode) → P (w.failed code) s) → (first_some (w.early ++ w.late) ≡ None → P w.done.0 w.done.1) → MayAnswer w s r m → P r m
worked {R = R} {S = S} P w s r m failed done (inl e) = by (first_some (w.early ++ w.late)) refl e
  where
    by : (o : Option ErrorCode) → first_some (w.early ++ w.late) ≡ o → (r, m) ≡ answer_after o w s → P r m
    by (Some code) same h = subst (λ (x : R × S). P x.0 x.1) (sym h) (failed code)
    by None same h = subst (λ (x : R × S). P x.0 x.1) (sym h) (done same)
worked {R = R} {S = S} P w s r m failed done (inr lack) =
    subst (λ (x : R). P x m) (sym lack.fails) (subst (λ (n : S). P (w.failed StorageError) n) (sym lack.unchanged) (failed StorageError))

-- ---- entries

-- an entry of a topic has this, for each of the topics
abbrev pub EachEntry : {E : Type 0} → (List ℕ → E → Type 0) → List (TopicOf E) → Type 0
EachEntry C ts = AllByRecursion (λ t. AllByRecursion (C t.name) t.entries) ts

all_keep : {S X Y : Type 0} (A : S → X → Y → S → Type 0) (P : S → Type 0) (C : X → Type 0) → ((s : S) (x : X) (y : Y) (m : S) → C x → P s → A s x y m → P m)
    → (s : S) (xs : List X) (ys : List Y) (end : S) → AllByRecursion C xs → P s → AnswersAll A s xs ys end → P end
all_keep A P C step s [] [] end each p all = subst P all p
all_keep A P C step s [] (y ∷ ys) end each p all = absurd all
all_keep A P C step s (x ∷ xs) [] end each p all = absurd all
all_keep A P C step s (x ∷ xs) (y ∷ ys) end each p all = all_keep A P C step all.0 xs ys end each.1 (step s x y all.0 each.0 p all.1) all.2

-- a property of the states that a plan's entries share, which each entry of these keeps
plan_keeps_all : {E R S B : Type 0} (p : Plan E R S B) (P : S → Type 0) (C : List ℕ → E → Type 0) (out : Option (List ℕ)) (after : B) → EachEntry C p.topics → P p.first
    → ((s : S) (name : List ℕ) (e : E) → C name e → P s → first_some ((p.work s name e).early ++ (p.work s name e).late) ≡ None → P (p.work s name e).done.1)
    → (replies : RepliesBy in_any_case p out after) → P replies.end
plan_keeps_all p P C out after each first step replies =
    all_keep _ P (λ t. AllByRecursion (C t.name) t.entries)
    (λ s t r m all before of_topic. all_keep (λ s e y m. MayAnswer (p.work s t.name e) s y m) P (C t.name) (λ s e y m c before may. worked (λ r n. P n) (p.work s t.name e) s y m (λ code. before) (step s t.name e c before) may) s t.entries r.entries m all before of_topic.1)
    p.first p.topics replies.results replies.end each first replies.answers

no_condition : {E : Type 0} (ts : List (TopicOf E)) → EachEntry (λ name e. Unit {0}) ts
no_condition [] = tt
no_condition (t ∷ ts) = (entries t.entries, no_condition ts)
  where
    entries : {X : Type 0} (xs : List X) → AllByRecursion (λ x. Unit {0}) xs
    entries [] = tt
    entries (x ∷ xs) = (tt, entries xs)

-- ---- a request

-- Work that is done has passed all checks. The states that the entries of a plan share are read as the broker's.
abbrev pub Keeps : {B : Type 0} → (B → Type 0) → Way B → Type 0
Keeps P (planned p) =
    P (p.after p.first)
    × ((s : _) (name : List ℕ) (e : _) → P (p.after s) → first_some ((p.work s name e).early ++ (p.work s name e).late) ≡ None → P (p.after (p.work s name e).done.1))
Keeps P (once response w s) = P s × (first_some (w.early ++ w.late) ≡ None → P w.done.1)
Keeps P (fixed response s) = P s

pub way_keeps : {B : Type 0} (P : B → Type 0) (w : Way B) (out : Option (List ℕ)) (after : B) → Keeps P w → RepliesByWay in_any_case w out after → P after
way_keeps P (planned p) out after keeps replies =
    subst P (sym replies.leaves) (plan_keeps_all p (λ s. P (p.after s)) (λ name e. Unit {0}) out after (no_condition p.topics) keeps.0 (λ s name e c. keeps.1 s name e) replies)
way_keeps P (once response w s) out after keeps replies =
    worked (λ r m. P m) w s replies.result after (λ code. keeps.0) keeps.1 replies.answers
way_keeps P (fixed response s) out after keeps replies = subst P (sym replies.1) keeps

-- so the reply itself keeps it
pub reply_keeps : {B : Type 0} (P : B → Type 0) (w : Way B) → Keeps P w → P (reply_by_way w).1
reply_keeps P w keeps =
    let out = (reply_by_way w).0 in
    let after = (reply_by_way w).1 in
    way_keeps P w out after keeps (way_weaker w out after (way_given w out after refl))

-- of a request of entries, of which each has something that it needs
pub plan_keeps : {E R S B : Type 0} (p : Plan E R S B) (P : B → Type 0) (C : List ℕ → E → Type 0) (out : Option (List ℕ)) (after : B) → EachEntry C p.topics → P (p.after p.first)
    → ((s : S) (name : List ℕ) (e : E) → C name e → P (p.after s) → first_some ((p.work s name e).early ++ (p.work s name e).late) ≡ None → P (p.after (p.work s name e).done.1))
    → RepliesBy in_any_case p out after → P after
plan_keeps p P C out after each first step replies =
    subst P (sym replies.leaves) (plan_keeps_all p (λ s. P (p.after s)) C out after each first step replies)
