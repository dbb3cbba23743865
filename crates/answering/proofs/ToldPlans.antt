-- Replies beside which it is told of memory: each may be made. Where memory sufficed it is the one in full; where it lacked,
-- each entry lacked it, and nothing was done; where it lacked in part, one entry did and another didn't.
use Rattle.std.proofs.Common.{◌≡◌, ◌⊎◌, inl, inr, ℕ, Bool, true, false, List, [], ◌∷◌, ◌++◌, Option, Some, None, refl, sym, ap, subst, ◌∙◌, true≢false}
use Rattle.std.specs.Prelude.{ℤ, map}
use Rattle.frame_fields.specs.Fields.{Fields, Value, size32, be, elements}
use Rattle.frame_fields.specs.Types.{TopicOf, topic, topic_request}
use Rattle.frame_fields.specs.Frames.{framed}
use Rattle.frame_fields.specs.Arrays.{ArrayBytes, values}
use Rattle.responses.specs.Responses.{topic_bytes}
use Rattle.answering.specs.declared.memory.Memory.{Memory}
use Rattle.answering.specs.declared.memory.Memory.TheVariants.{Sufficed, Lacked, LackedInPart}
use Rattle.answering.specs.Refusals.{noted, of_all}
use Rattle.answering.specs.Work.{IsAnswer, IsOutOfMemory, MayAnswer}
use Rattle.answering.specs.Plans.{AnswersAll, AnswersTopic, AnswersTopics, Plan, HowAnswered, RepliesBy}
use Rattle.answering.specs.Writing.{topics_said, Responds}
use Rattle.answering.specs.Telling.{AnswersTold, TellsNext, RepliesTold, RespondsTold, AnyPair, LacksEntry, LacksAny, SufficesEntry, SufficesAny}
use Rattle.answering.proofs.AnswersOfAll.{in_full, in_want, in_any_case}
use Rattle.answering.proofs.Told.{told_may}
use Rattle.answering.proofs.Planned.{topics_along, topics_of_request}

-- ---- what is told of entries

-- whether memory lacked for one of them
abbrev lacks : Option Memory → Bool
lacks None = false
lacks (Some Sufficed) = false
lacks (Some Lacked) = true
lacks (Some LackedInPart) = true

-- whether it sufficed for one of them
abbrev suffices : Option Memory → Bool
suffices None = false
suffices (Some Sufficed) = true
suffices (Some Lacked) = false
suffices (Some LackedInPart) = true

-- What is told of a request says it of its entries.
sufficed_in_all : (told : Option Memory) → Sufficed ≡ of_all told → lacks told ≡ false
sufficed_in_all None is = refl
sufficed_in_all (Some Sufficed) is = refl
sufficed_in_all (Some Lacked) is = absurd cc
sufficed_in_all (Some LackedInPart) is = absurd cc

lacked_in_all : (told : Option Memory) → Lacked ≡ of_all told → (lacks told ≡ true) × (suffices told ≡ false)
lacked_in_all None is = absurd cc
lacked_in_all (Some Sufficed) is = absurd cc
lacked_in_all (Some Lacked) is = (refl, refl)
lacked_in_all (Some LackedInPart) is = absurd cc

lacked_in_part : (told : Option Memory) → LackedInPart ≡ of_all told → (lacks told ≡ true) × (suffices told ≡ true)
lacked_in_part None is = absurd cc
lacked_in_part (Some Sufficed) is = absurd cc
lacked_in_part (Some Lacked) is = absurd cc
lacked_in_part (Some LackedInPart) is = (refl, refl)

-- ---- lists that are answered beside what is told

module _ {S X Y : Type 0} (A : S × Option Memory → X → Y → S × Option Memory → Type 0) where
  -- each answer may be given
  all_may : (B : S → X → Y → S → Type 0) → ((p : S × Option Memory) (x : X) (y : Y) (q : S × Option Memory) → A p x y q → B p.0 x y q.0)
      → (p : S × Option Memory) (xs : List X) (ys : List Y) (end : S × Option Memory) → AnswersAll A p xs ys end → AnswersAll B p.0 xs ys end.0
  all_may B may p [] [] end all = ap (λ q. q.0) all
  all_may B may p [] (y ∷ ys) end all = all
  all_may B may p (x ∷ xs) [] end all = all
  all_may B may p (x ∷ xs) (y ∷ ys) end all = (all.0.0, may p x y all.0 all.1, all_may B may all.0 xs ys end all.2)

  -- what was true of none of them in the end was of none before
  all_none : (found : Option Memory → Bool) (B : S → X → Y → S → Type 0)
      → ((p : S × Option Memory) (x : X) (y : Y) (q : S × Option Memory) → A p x y q → found q.1 ≡ false → (found p.1 ≡ false) × B p.0 x y q.0)
      → (p : S × Option Memory) (xs : List X) (ys : List Y) (end : S × Option Memory) → AnswersAll A p xs ys end → found end.1 ≡ false → (found p.1 ≡ false) × AnswersAll B p.0 xs ys end.0
  all_none found B none p [] [] end all is = (ap (λ q. found q.1) all ∙ is, ap (λ q. q.0) all)
  all_none found B none p [] (y ∷ ys) end all is = absurd all
  all_none found B none p (x ∷ xs) [] end all is = absurd all
  all_none found B none p (x ∷ xs) (y ∷ ys) end all is =
      let rest = all_none found B none all.0 xs ys end all.2 is in
      let first = none p x y all.0 all.1 rest.0 in
      (first.0, (all.0.0, first.1, rest.1))

  -- what was true of none at first, and of one in the end, is of one of these
  all_some : (found : Option Memory → Bool) (F : X → Y → Type 0)
      → ((p : S × Option Memory) (x : X) (y : Y) (q : S × Option Memory) → A p x y q → found p.1 ≡ false → found q.1 ≡ true → F x y)
      → (p : S × Option Memory) (xs : List X) (ys : List Y) (end : S × Option Memory) → AnswersAll A p xs ys end → found p.1 ≡ false → found end.1 ≡ true → AnyPair F xs ys
  all_some found F some p [] [] end all first last = absurd (true≢false (sym last ∙ sym (ap (λ q. found q.1) all) ∙ first))
  all_some found F some p [] (y ∷ ys) end all first last = absurd all
  all_some found F some p (x ∷ xs) [] end all first last = absurd all
  all_some found F some p (x ∷ xs) (y ∷ ys) end all first last =
      by (found all.0.1) refl (all_some found F some all.0 xs ys end all.2)
    where
      by : (b : Bool) → found all.0.1 ≡ b → (found all.0.1 ≡ false → found end.1 ≡ true → AnyPair F xs ys) → F x y ⊎ AnyPair F xs ys
      by false is rest = inr (rest is last)
      by true is rest = inl (some p x y all.0 all.1 first is)

-- where none changes the state, it stays
all_unchanged : {S X Y : Type 0} (A : S → X → Y → S → Type 0) → ((s : S) (x : X) (y : Y) (m : S) → A s x y m → m ≡ s)
    → (s : S) (xs : List X) (ys : List Y) (end : S) → AnswersAll A s xs ys end → end ≡ s
all_unchanged A same s [] [] end all = sym all
all_unchanged A same s [] (y ∷ ys) end all = absurd all
all_unchanged A same s (x ∷ xs) [] end all = absurd all
all_unchanged A same s (x ∷ xs) (y ∷ ys) end all = all_unchanged A same all.0 xs ys end all.2 ∙ same s x y all.0 all.1

-- ---- plans

module _ {E R S B : Type 0} (p : Plan E R S B) where
  abbrev Tells : S × Option Memory → List ℕ → E → R → S × Option Memory → Type 0
  Tells before name e r after = TellsNext (p.work before.0 name e) before r after

  next_may : (before : S × Option Memory) (name : List ℕ) (e : E) (r : R) (after : S × Option Memory) → Tells before name e r after → MayAnswer (p.work before.0 name e) before.0 r after.0
  next_may before name e r after tells = told_may tells.told (p.work before.0 name e) before.0 r after.0 tells.answers

  next_full : (before : S × Option Memory) (name : List ℕ) (e : E) (r : R) (after : S × Option Memory) → Tells before name e r after → lacks after.1 ≡ false
      → (lacks before.1 ≡ false) × IsAnswer (p.work before.0 name e) before.0 r after.0
  next_full before name e r after tells is = by before.1 tells.told tells.answers (sym (ap lacks tells.notes) ∙ is)
    where
      by : (b : Option Memory) (told : Memory) → AnswersTold told (p.work before.0 name e) before.0 r after.0 → lacks (noted b told) ≡ false
          → (lacks b ≡ false) × IsAnswer (p.work before.0 name e) before.0 r after.0
      by None Sufficed full is = (refl, full)
      by (Some Sufficed) Sufficed full is = (refl, full)
      by (Some Lacked) Sufficed full is = absurd (true≢false is)
      by (Some LackedInPart) Sufficed full is = absurd (true≢false is)
      by None Lacked out is = absurd (true≢false is)
      by (Some Sufficed) Lacked out is = absurd (true≢false is)
      by (Some Lacked) Lacked out is = absurd (true≢false is)
      by (Some LackedInPart) Lacked out is = absurd (true≢false is)
      by b LackedInPart in_part is = absurd in_part

  next_out : (before : S × Option Memory) (name : List ℕ) (e : E) (r : R) (after : S × Option Memory) → Tells before name e r after → suffices after.1 ≡ false
      → (suffices before.1 ≡ false) × IsOutOfMemory (p.work before.0 name e) before.0 r after.0
  next_out before name e r after tells is = by before.1 tells.told tells.answers (sym (ap suffices tells.notes) ∙ is)
    where
      by : (b : Option Memory) (told : Memory) → AnswersTold told (p.work before.0 name e) before.0 r after.0 → suffices (noted b told) ≡ false
          → (suffices b ≡ false) × IsOutOfMemory (p.work before.0 name e) before.0 r after.0
      by None Lacked out is = (refl, out)
      by (Some Lacked) Lacked out is = (refl, out)
      by (Some Sufficed) Lacked out is = absurd (true≢false is)
      by (Some LackedInPart) Lacked out is = absurd (true≢false is)
      by None Sufficed full is = absurd (true≢false is)
      by (Some Sufficed) Sufficed full is = absurd (true≢false is)
      by (Some Lacked) Sufficed full is = absurd (true≢false is)
      by (Some LackedInPart) Sufficed full is = absurd (true≢false is)
      by b LackedInPart in_part is = absurd in_part

  next_lacks : (before : S × Option Memory) (name : List ℕ) (e : E) (r : R) (after : S × Option Memory) → Tells before name e r after → lacks before.1 ≡ false → lacks after.1 ≡ true
      → LacksEntry p name e r
  next_lacks before name e r after tells first last = by before.1 tells.told tells.answers first (sym (ap lacks tells.notes) ∙ last)
    where
      by : (b : Option Memory) (told : Memory) → AnswersTold told (p.work before.0 name e) before.0 r after.0 → lacks b ≡ false → lacks (noted b told) ≡ true → LacksEntry p name e r
      by b Lacked out first last = (before.0, after.0, out)
      by None Sufficed full first last = absurd (true≢false (sym last))
      by (Some Sufficed) Sufficed full first last = absurd (true≢false (sym last))
      by (Some Lacked) Sufficed full first last = absurd (true≢false first)
      by (Some LackedInPart) Sufficed full first last = absurd (true≢false first)
      by b LackedInPart in_part first last = absurd in_part

  next_suffices : (before : S × Option Memory) (name : List ℕ) (e : E) (r : R) (after : S × Option Memory) → Tells before name e r after → suffices before.1 ≡ false → suffices after.1 ≡ true
      → SufficesEntry p name e r
  next_suffices before name e r after tells first last = by before.1 tells.told tells.answers first (sym (ap suffices tells.notes) ∙ last)
    where
      by : (b : Option Memory) (told : Memory) → AnswersTold told (p.work before.0 name e) before.0 r after.0 → suffices b ≡ false → suffices (noted b told) ≡ true → SufficesEntry p name e r
      by b Sufficed full first last = (before.0, after.0, full)
      by None Lacked out first last = absurd (true≢false (sym last))
      by (Some Lacked) Lacked out first last = absurd (true≢false (sym last))
      by (Some Sufficed) Lacked out first last = absurd (true≢false first)
      by (Some LackedInPart) Lacked out first last = absurd (true≢false first)
      by b LackedInPart in_part first last = absurd in_part

  -- ---- of all entries

  all_topics_none : (found : Option Memory → Bool) (A : HowAnswered)
      → ((before : S × Option Memory) (name : List ℕ) (e : E) (r : R) (after : S × Option Memory) → Tells before name e r after → found after.1 ≡ false → (found before.1 ≡ false) × A R S (p.work before.0 name e) before.0 r after.0)
      → (rs : List (TopicOf R)) (end : S × Option Memory) → AnswersTopics Tells (p.first, None) p.topics rs end → found end.1 ≡ false
      → AnswersTopics (λ s name e r m. A R S (p.work s name e) s r m) p.first p.topics rs end.0
  all_topics_none found A none rs end all is =
      (all_none (AnswersTopic Tells) found (AnswersTopic (λ s name e r m. A R S (p.work s name e) s r m))
      (λ s t r m topic is.
      let all = all_none (λ s e r m. Tells s t.name e r m) found (λ s e r m. A R S (p.work s t.name e) s r m) (λ s e r m. none s t.name e r m) s t.entries r.entries m topic.1 is in
      (all.0, (topic.0, all.1)))
      (p.first, None) p.topics rs end all is).1

  all_topics_some : (found : Option Memory → Bool) (F : List ℕ → E → R → Type 0)
      → ((before : S × Option Memory) (name : List ℕ) (e : E) (r : R) (after : S × Option Memory) → Tells before name e r after → found before.1 ≡ false → found after.1 ≡ true → F name e r)
      → found None ≡ false → (rs : List (TopicOf R)) (end : S × Option Memory) → AnswersTopics Tells (p.first, None) p.topics rs end → found end.1 ≡ true
      → AnyPair (λ t r. AnyPair (F t.name) t.entries r.entries) p.topics rs
  all_topics_some found F some first rs end all is =
      all_some (AnswersTopic Tells) found (λ t r. AnyPair (F t.name) t.entries r.entries)
      (λ s t r m topic. all_some (λ s e r m. Tells s t.name e r m) found (F t.name) (λ s e r m. some s t.name e r m) s t.entries r.entries m topic.1)
      (p.first, None) p.topics rs end all first is

  pub told_may_reply : (reply : Option (List ℕ)) (memory : Memory) (after : B) → RepliesTold p reply memory after → RepliesBy in_any_case p reply after
  told_may_reply reply memory after told = record {
    results = told.results;
    end = told.end;
    answers = all_may (AnswersTopic Tells) (AnswersTopic (λ s name e r m. MayAnswer (p.work s name e) s r m))
        (λ s t r m topic. (topic.0, all_may (λ s e r m. Tells s t.name e r m) (λ s e r m. MayAnswer (p.work s t.name e) s r m) (λ s e r m. next_may s t.name e r m) s t.entries r.entries m topic.1))
        (p.first, None) p.topics told.results (told.end, told.told) told.answers;
    sends = told.sends;
    leaves = told.leaves;
  }

  -- where memory sufficed, each entry was answered in full
  pub told_in_full : (reply : Option (List ℕ)) (after : B) → RepliesTold p reply Sufficed after → RepliesBy in_full p reply after
  told_in_full reply after told = record {
    results = told.results;
    end = told.end;
    answers = all_topics_none lacks in_full next_full told.results (told.end, told.told) told.answers (sufficed_in_all told.told told.tells);
    sends = told.sends;
    leaves = told.leaves;
  }

  -- where it lacked, it did for each entry, and there was one
  pub told_lacks : (reply : Option (List ℕ)) (after : B) → RepliesTold p reply Lacked after → (replies : RepliesBy in_want p reply after) × LacksAny p replies.results
  told_lacks reply after told = (
    record {
      results = told.results;
      end = told.end;
      answers = all_topics_none suffices in_want next_out told.results (told.end, told.told) told.answers (lacked_in_all told.told told.tells).1;
      sends = told.sends;
      leaves = told.leaves;
    },
    all_topics_some lacks (LacksEntry p) next_lacks refl told.results (told.end, told.told) told.answers (lacked_in_all told.told told.tells).0,
  )

  -- so nothing was done
  pub want_changes_nothing : (reply : Option (List ℕ)) (after : B) → RepliesBy in_want p reply after → after ≡ p.after p.first
  want_changes_nothing reply after replies =
      replies.leaves ∙ ap p.after (all_unchanged (AnswersTopic (λ s name e r m. IsOutOfMemory (p.work s name e) s r m))
      (λ s t r m topic. all_unchanged (λ s e r m. IsOutOfMemory (p.work s t.name e) s r m) (λ s e r m out. out.unchanged) s t.entries r.entries m topic.1)
      p.first p.topics replies.results replies.end replies.answers)

  -- where it lacked in part, it did for an entry, and not for another
  pub told_lacks_in_part : (reply : Option (List ℕ)) (after : B) → RepliesTold p reply LackedInPart after → (replies : RepliesBy in_any_case p reply after) × LacksAny p replies.results × SufficesAny p replies.results
  unfolding told_may_reply
  told_lacks_in_part reply after told =
      let both = lacked_in_part told.told told.tells in (
        told_may_reply reply LackedInPart after told,
        all_topics_some lacks (LacksEntry p) next_lacks refl told.results (told.end, told.told) told.answers both.0,
        all_topics_some suffices (SufficesEntry p) next_suffices refl told.results (told.end, told.told) told.answers both.1,
      )

-- ---- from answers that were given

-- answers to what a request's fields say make one of the replies that its plan allows, with what is told of them
pub plan_answered_told : {M E R S B : Type 0} (p : Plan E R S B) (d : Fields) (A : M × Option Memory → List ℕ → Value d → R → M × Option Memory → Type 0) (f : Value d → E) (g : M → S)
    → ((m : M × Option Memory) (name : List ℕ) (v : Value d) (r : R) (after : M × Option Memory) → A m name v r after → TellsNext (p.work (g m.0) name (f v)) (g m.0, m.1) r (g after.0, after.1))
    → (first end : M) (told : Option Memory) (memory : Memory) (topics : ArrayBytes) (results : List (TopicOf R)) (reply : Option (List ℕ)) (after : B)
    → memory ≡ of_all told → g first ≡ p.first → map (topic_request d f) (values (topic d) topics) ≡ p.topics → reply ≡ p.response results → after ≡ p.after (g end)
    → AnswersTopics A (first, None) (topics_said d topics) results (end, told) → RepliesTold p reply memory after
plan_answered_told {M = M} {E = E} {R = R} {S = S} p d A f g tells first end told memory topics results reply after tells_all starts same sends leaves all =
    let T : S × Option Memory → List ℕ → E → R → S × Option Memory → Type 0 = λ before name e r after. TellsNext (p.work before.0 name e) before r after in
    let along : M × Option Memory → S × Option Memory = λ m. (g m.0, m.1) in
    record {
      results = results;
      end = g end;
      told = told;
      answers = subst (λ s. AnswersTopics T (s, None) p.topics results (g end, told)) starts
          (topics_along A T f along tells (first, None) (topics_said d topics) p.topics results (end, told) (topics_of_request d f (values (topic d) topics) ∙ same) all);
      tells = tells_all;
      sends = sends;
      leaves = leaves;
    }

-- So does what `respond` ensures, where its bytes are the response to the results. The output held the same before its room
-- was taken.
pub plan_responded_told : {M E R S B : Type 0} (p : Plan E R S B) (d : Fields) (A : M × Option Memory → List ℕ → Value d → R → M × Option Memory → Type 0) (f : Value d → E) (g : M → S)
    → ((m : M × Option Memory) (name : List ℕ) (v : Value d) (r : R) (after : M × Option Memory) → A m name v r after → TellsNext (p.work (g m.0) name (f v)) (g m.0, m.1) r (g after.0, after.1))
    → (enc : R → List ℕ) (n z : ℤ) (before ahead : List ℕ) (first end : M) (told : Option Memory) (memory : Memory) (topics : ArrayBytes) (out held out' : List ℕ) (after : B)
    → memory ≡ of_all told → g first ≡ p.first → map (topic_request d f) (values (topic d) topics) ≡ p.topics → after ≡ p.after (g end)
    → ((results : List (TopicOf R)) → Some (framed (be size32 n ++ (before ++ elements (topic_bytes enc) results ++ ahead))) ≡ p.response results)
    → z ≡ n → held ≡ out → Responds A enc z before (first, None) (topics_said d topics) ahead held out' (end, told) → RespondsTold p out out' memory after
plan_responded_told p d A f g tells enc n z before ahead first end told memory topics out held out' after tells_all starts same leaves sends number kept written =
    let topics_bytes = elements (topic_bytes enc) written.results in
    record {
      response = Some (framed (be size32 n ++ (before ++ topics_bytes ++ ahead)));
      replies = plan_answered_told p d A f g tells first end told memory topics written.results _ after tells_all starts same (sends written.results) leaves written.answers;
      appends = written.appends ∙ (λ i. kept i ++ framed (be size32 (number i) ++ (before ++ topics_bytes ++ ahead)));
    }
