-- Readers of a partition that its broker cleans learn in time: what a reader was shown behind a pass had no later record of
-- its key below the pass's bound, so a deletion behind it goes no sooner than deletions may.
use Rattle.std.proofs.Common.{◌≡◌, ℕ, ℤ, ◌+◌, ◌<◌, ◌≤◌, true, List, [], ◌∷◌, ◌++◌, Some, refl, sym, ap, subst, ◌∙◌, ◌⊎◌, inl, inr, arith}
use Rattle.std.specs.Prelude.{◌≤ℤ◌, ◌<ℤ◌}
use Rattle.std.proofs.lemmas.Int.{ints}
use Rattle.content.specs.declared.part.CleaningPart.{CleaningPart}
use Rattle.content.specs.Records.{LogRecord, log_records, record_at, same_key}
use Rattle.content.specs.Content.{Content, IsContent, end}
use Rattle.content.specs.Parts.{clean_part}
use Rattle.content_laws.proofs.CopyFacts.{look_up_of_record}
use Rattle.content_laws.proofs.Tables.{offset_in_log}
use Rattle.cleaning_policy.specs.Readers.{IsAmong}
use Rattle.cleaning_courses.specs.Steps.{Step, HasItOrLater, time_of, content_after, batches_ever, HasComeTo, WasOver, MayTakeDeletions, IsCourse, LastWasTaken, LearnsInTime}
use Rattle.cleaning_courses.specs.Steps.Step.{Produce, Clean, ForeignClean, Fetch, Trim}
use Rattle.cleaning_courses.proofs.Lists.{among-right, found-among}
use Rattle.cleaning_courses.proofs.Latest.{IsLastOf, last_of, own_key}
use Rattle.cleaning_courses.proofs.Contents.{held_from_start, held_below_end, course_content, course_before, held_since}
use Rattle.cleaning_courses.proofs.Passes.{IsPassed, passed}
use Rattle.cleaning_courses.proofs.Taken.{key_same, same_by, Took, IsCleaning, Stands, stands}

-- ---- places in a list

abbrev tail : {X : Type 0} → List X → List X
tail [] = []
tail (x ∷ xs) = xs

record IsSplitAt {X : Type 0} (a : X) (xs : List X) : Type 0 where
  since : List X
  before : List X
  are : xs ≡ since ++ a ∷ before

split_at : {X : Type 0} (a : X) (xs : List X) → IsAmong a xs → IsSplitAt a xs
split_at a [] i = absurd i
split_at a (x ∷ xs) (inl is) = record { since = []; before = xs; are = ap (λ y. y ∷ xs) is }
split_at a (x ∷ xs) (inr i) = let rest = split_at a xs i in record { since = x ∷ rest.since; before = rest.before; are = ap (λ l. x ∷ l) rest.are }

-- it is in the later part of a list, or stands before that
in_or_before : {X : Type 0} (s : List X) (a : X) (b since before : List X) → s ++ a ∷ b ≡ since ++ before → IsAmong a before ⊎ ((k : List X) × (b ≡ k ++ before))
in_or_before s a b [] before e = inl (subst (IsAmong a) e (among-right a s (a ∷ b) (inl refl)))
in_or_before [] a b (y ∷ since) before e = inr (since, ap tail e)
in_or_before (x ∷ s) a b (y ∷ since) before e = in_or_before s a b since before (ap tail e)

-- ---- steps

abbrev pub step_kind : Step → ℕ
step_kind (Produce t b) = 0
step_kind (Clean t p) = 1
step_kind (ForeignClean t p) = 2
step_kind (Fetch t x) = 3
step_kind (Trim t s) = 4

fetch_rest : (t u : ℕ) (p : CleaningPart) (x : LogRecord) (before : List Step) → IsAmong (Fetch t x) (Clean u p ∷ before) → IsAmong (Fetch t x) before
fetch_rest t u p x before (inl is) = absurd (kinds (ap step_kind is))
  where
    kinds : step_kind (Clean u p) ≡ step_kind (Fetch t x) → ⊥
    kinds e = omega (arith, e)
fetch_rest t u p x before (inr i) = i

-- a pass that had come to a place has come there later, too
come_later : (upto : ℤ) (c : Content) (since before : List Step) (place : ℤ) → HasComeTo upto c before place → HasComeTo upto c (since ++ before) place
come_later upto c [] before place come = come
come_later upto c (Produce t b ∷ since) before place come = come_later upto c since before place come
come_later upto c (Clean t p ∷ since) before place come = inl (come_later upto c since before place come)
come_later upto c (ForeignClean t p ∷ since) before place come = come_later upto c since before place come
come_later upto c (Fetch t x ∷ since) before place come = come_later upto c since before place come
come_later upto c (Trim t s ∷ since) before place come = inl (come_later upto c since before place come)

-- what held when a reader was shown a record
shown_then : (keep : ℕ) (c : Content) (t : ℕ) (x : LogRecord) (since before : List Step) → IsCourse keep c (since ++ Fetch t x ∷ before) → record_at (content_after c before).kept x.0 ≡ Some x.1
shown_then keep c t x since before course = (course_before keep c since (Fetch t x ∷ before) course).0

-- ---- a broker's own part took the last record of a key, a deletion: whoever was shown an older one was so long ago

module _ (keep now : ℕ) (c : Content) (since before : List Step) (u : ℕ) (p : CleaningPart) (course : IsCourse keep c (since ++ Clean u p ∷ before)) (soon_enough : u ≤ now)
    (t : ℕ) (x z one : LogRecord) (took : Took p (content_after c before) z one) (young : now < t + keep) (same : same_key z.1 x.1 ≡ true) (less : x.0 <ℤ z.0) where
  own : IsCourse keep c (Clean u p ∷ before)
  own = course_before keep c since (Clean u p ∷ before) course

  earlier : IsCourse keep c before
  earlier = own.2

  content : IsContent (content_after c before)
  content = course_content keep c before earlier

  x_before_one : x.0 <ℤ one.0
  x_before_one = let behind = took.behind in omega (arith, ints, less, behind)

  one_below_end : one.0 <ℤ end (content_after c before)
  one_below_end = held_below_end (content_after c before) content one.0 one.1 took.there

  -- shown behind the part: none of the key was left there
  not_behind : (k : List Step) → IsCourse keep c (k ++ Clean u p ∷ before) → record_at (content_after c (k ++ Clean u p ∷ before)).kept x.0 ≡ Some x.1 → ⊥
  not_behind k whole e =
      let old : record_at (clean_part p (content_after c before)).kept x.0 ≡ Some x.1 = held_since keep c k (Clean u p ∷ before) x.0 x.1 whole e (omega (arith, ints, x_before_one, one_below_end)) in
      took.none_left x.0 x.1 old (same_by z.1 x.1 x.1 z.1 (key_same z.1 x.1 same) (sym (key_same z.1 x.1 same)) same) (omega (arith, ints, x_before_one))

  same_as_one : same_key one.1 x.1 ≡ true
  same_as_one = same_by z.1 x.1 one.1 x.1 (sym (key_same one.1 z.1 took.same)) refl same

  -- shown behind a pass: it had no later one then
  not_between : (far : ℤ) (k passed_before s2 : List Step) → before ≡ s2 ++ Fetch t x ∷ (k ++ passed_before) → HasComeTo far c passed_before far → p.tomb_before ≤ℤ far → ⊥
  not_between far k passed_before s2 are over bound = by pass.reach
    where
      then : List Step
      then = k ++ passed_before

      whole : IsCourse keep c (s2 ++ Fetch t x ∷ (k ++ passed_before))
      whole = subst (IsCourse keep c) are earlier

      course_then : IsCourse keep c (k ++ passed_before)
      course_then = (course_before keep c s2 (Fetch t x ∷ (k ++ passed_before)) whole).2

      pass : IsPassed far far (content_after c (k ++ passed_before))
      pass = passed keep c (k ++ passed_before) far far course_then (come_later far c k passed_before far over)

      shown : record_at (content_after c (k ++ passed_before)).kept x.0 ≡ Some x.1
      shown = shown_then keep c t x s2 (k ++ passed_before) whole

      one_below : one.0 <ℤ far
      one_below = let below = took.below in omega (arith, ints, below, bound)

      clash : far ≤ℤ end (content_after c (k ++ passed_before)) → ⊥
      clash to =
          let there : record_at (content_after c (s2 ++ Fetch t x ∷ (k ++ passed_before))).kept one.0 ≡ Some one.1 = subst (λ (l : List Step). record_at (content_after c l).kept one.0 ≡ Some one.1) are took.there in
          let it : record_at (content_after c (k ++ passed_before)).kept one.0 ≡ Some one.1 = held_since keep c s2 (Fetch t x ∷ (k ++ passed_before)) one.0 one.1 whole there (omega (arith, ints, one_below, to)) in
          pass.settled x.0 one.0 x.1 one.1 shown it same_as_one x_before_one (omega (arith, ints, x_before_one, one_below)) one_below

      by : (far ≤ℤ (content_after c (k ++ passed_before)).start) ⊎ (far ≤ℤ end (content_after c (k ++ passed_before))) → ⊥
      by (inl low) =
          let from = held_from_start (content_after c (k ++ passed_before)) (course_content keep c (k ++ passed_before) course_then) x.0 x.1 shown in
          omega (arith, ints, from, low, x_before_one, one_below)
      by (inr to) = clash to

  not_before : IsAmong (Fetch t x) before → MayTakeDeletions keep c before u p.tomb_before → ⊥
  not_before i (inl none) =
      let from = held_from_start (content_after c before) content one.0 one.1 took.there in
      let first = content.in_range.0 in
      let below = took.below in
      omega (arith, ints, from, first, below, none)
  not_before i (inr m) = by (in_or_before split.since (Fetch t x) split.before over.since over.before (sym split.are ∙ over.are))
    where
      split : IsSplitAt (Fetch t x) before
      split = split_at (Fetch t x) before i

      over : WasOver c before m.0 m.1
      over = m.2

      by : IsAmong (Fetch t x) over.before ⊎ ((k : List Step) × (split.before ≡ k ++ over.before)) → ⊥
      by (inl j) =
          let then : t ≤ m.0 = over.by_then (Fetch t x) j in
          let long : m.0 + keep ≤ u = m.4 in
          omega (arith, then, long, soon_enough, young)
      by (inr k) = not_between m.1 k.0 over.before split.since (split.are ∙ ap (λ (l : List Step). split.since ++ Fetch t x ∷ l) k.1) over.over m.3

  pub never : IsAmong (Fetch t x) (since ++ Clean u p ∷ before) → ⊥
  never i = by (in_or_before split.since (Fetch t x) split.before since (Clean u p ∷ before) (sym split.are))
    where
      split : IsSplitAt (Fetch t x) (since ++ Clean u p ∷ before)
      split = split_at (Fetch t x) (since ++ Clean u p ∷ before) i

      course_split : IsCourse keep c (split.since ++ Fetch t x ∷ split.before)
      course_split = subst (IsCourse keep c) split.are course

      by : IsAmong (Fetch t x) (Clean u p ∷ before) ⊎ ((k : List Step) × (split.before ≡ k ++ Clean u p ∷ before)) → ⊥
      by (inl j) = not_before (fetch_rest t u p x before j) own.0.2
      by (inr k) =
          let then : IsCourse keep c split.before = (course_before keep c split.since (Fetch t x ∷ split.before) course_split).2 in
          let shown = shown_then keep c t x split.since split.before course_split in
          not_behind k.0 (subst (IsCourse keep c) k.1 then) (subst (λ (l : List Step). record_at (content_after c l).kept x.0 ≡ Some x.1) k.1 shown)

-- ---- the sentence

pub learns : (keep now : ℕ) (c : Content) (steps : List Step) → IsCourse keep c steps → ((a : Step) → IsAmong a steps → time_of a ≤ now) → LearnsInTime keep now c steps
learns keep now c steps course times t x z shown young there same less above = by (last_of z.1.key (log_records (batches_ever c steps)) z (own_key z x same).0)
  where
    ever : IsAmong z (log_records (batches_ever c steps))
    ever = found-among offset_in_log z.0 (log_records (batches_ever c steps)) z (look_up_of_record z.0 (batches_ever c steps) z.1 there)

    came : (one : LogRecord) → (one ≡ z) ⊎ IsAmong one (log_records (batches_ever c steps)) → IsAmong one (log_records (batches_ever c steps))
    came one (inl is) = subst (λ (r : LogRecord). IsAmong r (log_records (batches_ever c steps))) (sym is) ever
    came one (inr i) = i

    -- the last one of the key, by what became of it
    of_last : (one : LogRecord) → IsLastOf z.1.key (log_records (batches_ever c steps)) z one → Stands c steps one → HasItOrLater (content_after c steps) z ⊎ LastWasTaken c steps z
    of_last one last (inl low) = let behind : z.0 ≤ℤ one.0 = last.behind in absurd (omega (arith, ints, low, behind, above))
    of_last one last (inr (inl it)) =
        let behind : z.0 ≤ℤ one.0 = last.behind in
        let later : one.0 ≤ℤ it.0.0 = it.3 in
        inl (it.0, it.1, same_by it.0.1 one.1 it.0.1 z.1 refl (key_same one.1 z.1 last.own) it.2, omega (arith, ints, behind, later))
    of_last one last (inr (inr taken)) = by_whom taken.of
      where
        took : Took taken.part (content_after c taken.before) one taken.one
        took = taken.took

        behind_z : z.0 ≤ℤ taken.one.0
        behind_z = let first : z.0 ≤ℤ one.0 = last.behind in let then : one.0 ≤ℤ taken.one.0 = took.behind in omega (arith, ints, first, then)

        to_z : one.1.key ≡ z.1.key
        to_z = key_same one.1 z.1 last.own

        -- the same of the record that was asked for
        took_z : Took taken.part (content_after c taken.before) z taken.one
        took_z = record {
          there = took.there;
          gone_now = took.gone_now;
          none_left = λ q s e own le. took.none_left q s e (same_by s z.1 s one.1 refl (sym to_z) own) le;
          same = same_by taken.one.1 one.1 taken.one.1 z.1 refl to_z took.same;
          deletion = took.deletion;
          behind = behind_z;
          below = took.below;
        }

        by_whom : IsCleaning taken.step taken.part → HasItOrLater (content_after c steps) z ⊎ LastWasTaken c steps z
        by_whom (inl is) = absurd (never keep now c taken.since taken.before is.0 taken.part (subst (IsCourse keep c) are course) (times (Clean is.0 taken.part) (subst (IsAmong (Clean is.0 taken.part)) (sym are) (among-right (Clean is.0 taken.part) taken.since (Clean is.0 taken.part ∷ taken.before) (inl refl))))
            t x z taken.one took_z young same less (subst (IsAmong (Fetch t x)) are shown))
          where
            are : steps ≡ taken.since ++ Clean is.0 taken.part ∷ taken.before
            are = taken.are ∙ ap (λ (a : Step). taken.since ++ a ∷ taken.before) is.1
        by_whom (inr is) = inr (record {
          since = taken.since;
          before = taken.before;
          time = is.0;
          part = taken.part;
          one = taken.one;
          are = taken.are ∙ ap (λ (a : Step). taken.since ++ a ∷ taken.before) is.1;
          there = took.there;
          gone = λ e. took.gone_now e;
          same = took_z.same;
          deletion = took.deletion;
          last = λ y e own. (let most = last.last y (found-among offset_in_log y.0 (log_records (batches_ever c steps)) y (look_up_of_record y.0 (batches_ever c steps) y.1 e)) own in let then = took.behind in omega (arith, ints, most, then));
          below = took.below;
        })

    by : (one : LogRecord) × IsLastOf z.1.key (log_records (batches_ever c steps)) z one → HasItOrLater (content_after c steps) z ⊎ LastWasTaken c steps z
    by found = of_last found.0 found.1 (stands keep c steps found.0 course (same_by found.0.1 z.1 found.0.1 found.0.1 refl (sym (key_same found.0.1 z.1 found.1.own)) found.1.own) (came found.0 found.1.among))
