-- A policy's marks of a partition are of passes that were.
use Rattle.std.proofs.Common.{◌≡◌, ◌⊎◌, ℕ, zero, suc, Bool, true, false, cond, List, [], ◌∷◌, ◌++◌, Option, Some, None, IfSome, refl, sym, ap, subst, inl, inr, arith}
use Rattle.std.specs.Prelude.{⊤, ℤ, pos, min, slice_get}
use Rattle.std.specs.List.{Contains}
use Rattle.std.proofs.lemmas.List.Elements.{Contains-append_left, Contains-append_right, Contains-push_cases}
use Rattle.content.specs.Content.{Content}
use Rattle.cleaning_policy.specs.declared.values.Frame.{Frame}
use Rattle.cleaning_policy.specs.declared.values.Extent.{Extent}
use Rattle.cleaning_policy.specs.declared.values.Mark.{Mark}
use Rattle.cleaning_policy.specs.declared.values.Marks.{Marks}
use Rattle.cleaning_policy.specs.declared.values.Pass.{Pass}
use Rattle.cleaning_policy.specs.declared.values.Settings.{Settings}
use Rattle.cleaning_policy.specs.Marking.{by_now, leaves_mark}
use Rattle.cleaning_policy.specs.Partitions.{Part, new_part, told_part, begun_part, cleaned_part, given_up_part, part_with_marks}
use Rattle.cleaning_policy.specs.Policies.{Known, changed_at, cleaned, given_up, next_pass, behind_pass}
use Rattle.cleaning_policy.specs.Histories.{Call, Event, after, behind, said, said_by, over_by as said_over}
use Rattle.cleaning_policy.specs.Histories.Call.{Add, Tell, PutBack, Next, Clean, GiveUp}
use Rattle.cleaning_policy.specs.Histories.Event.{Told, Over}
use Rattle.cleaning_courses.specs.Steps.{Step, WasOver}
use Rattle.cleaning_courses.specs.Frames.{IsToldOf, AreOfPasses}
use Rattle.cleaning_courses.specs.Timelines.{Moment, calls_of, steps_of, IsTimeline}
use Rattle.cleaning_courses.specs.Timelines.Moment.{Said, Happened}
use Rattle.cleaning_courses.proofs.OverTime.{ByThen, over_later, clipped, told_more, told_nothing}

-- ---- a partition among others

abbrev HoldsAt : ℕ → (Part → Type 0) → List Part → Type 0
HoldsAt i P [] = ⊤
HoldsAt zero P (p ∷ ps) = P p
HoldsAt (suc i) P (p ∷ ps) = HoldsAt i P ps

holds_changed : (i j : ℕ) (P : Part → Type 0) (f : Part → Part) (ps : List Part) → (i ≡ j → (p : Part) → P p → P (f p)) → HoldsAt i P ps → HoldsAt i P (changed_at j f ps)
holds_changed i j P f [] each h = tt
holds_changed zero zero P f (p ∷ ps) each h = each refl p h
holds_changed zero (suc j) P f (p ∷ ps) each h = h
holds_changed (suc i) zero P f (p ∷ ps) each h = h
holds_changed (suc i) (suc j) P f (p ∷ ps) each h = holds_changed i j P f ps (λ e. each (ap suc e)) h

holds_added : (i : ℕ) (P : Part → Type 0) (q : Part) (ps : List Part) → P q → HoldsAt i P ps → HoldsAt i P (ps ++ q ∷ [])
holds_added zero P q [] new h = new
holds_added (suc i) P q [] new h = tt
holds_added zero P q (p ∷ ps) new h = h
holds_added (suc i) P q (p ∷ ps) new h = holds_added i P q ps new h

holds_more : (i : ℕ) (P Q : Part → Type 0) (ps : List Part) → ((p : Part) → P p → Q p) → HoldsAt i P ps → HoldsAt i Q ps
holds_more i P Q [] each h = tt
holds_more zero P Q (p ∷ ps) each h = each p h
holds_more (suc i) P Q (p ∷ ps) each h = holds_more i P Q ps each h

holds_there : (i : ℕ) (P : Part → Type 0) (ps : List Part) (p : Part) → slice_get ps i ≡ Some p → HoldsAt i P ps → P p
holds_there i P [] p e h = absurd cc
holds_there zero P (q ∷ ps) p e h = let same : q ≡ p = cc in subst P same h
holds_there (suc i) P (q ∷ ps) p e h = holds_there i P ps p e h

-- ---- marks

if_some : (P Q : Mark → Type 0) (r : Option Mark) → ((k : Mark) → P k → Q k) → IfSome r P → IfSome r Q
if_some P Q None each h = tt
if_some P Q (Some k) each h = each k h

marks_later : (c : Content) (steps : List Step) (a : Step) (m : Marks) → AreOfPasses c steps m → AreOfPasses c (a ∷ steps) m
marks_later c steps a m are = (
  if_some (λ k. WasOver c steps k.ended k.upto) (λ k. WasOver c (a ∷ steps) k.ended k.upto) m.older (λ k. over_later c steps a k.ended k.upto) are.0,
  if_some (λ k. WasOver c steps k.ended k.upto) (λ k. WasOver c (a ∷ steps) k.ended k.upto) m.newest (λ k. over_later c steps a k.ended k.upto) are.1,
)

pub marks_since : (c : Content) (since steps : List Step) (m : Marks) → AreOfPasses c steps m → AreOfPasses c (since ++ steps) m
marks_since c [] steps m are = are
marks_since c (a ∷ since) steps m are = marks_later c (since ++ steps) a m (marks_since c since steps m are)

-- ---- a policy's calls

abbrev IsMarked : Content → List Step → Part → Type 0
IsMarked c steps p = AreOfPasses c steps p.marks

first_there : (e : Event) (h : List Event) → Contains (e ∷ h) e
first_there e h = (0, omega arith, refl)

of_said : (c : Content) (steps : List Step) (i : ℕ) (r : Option Mark) → ((t : ℕ) (f : Frame) → f.partition ≡ i → Contains (said_by i r) (Over t f) → WasOver c steps t f.upto) → IfSome r (λ k. WasOver c steps k.ended k.upto)
of_said c steps i None told = tt
of_said c steps i (Some k) told = told k.ended (record { partition = i; upto = k.upto; tomb_before = pos 0 }) refl (first_there _ [])

put : (c : Content) (steps : List Step) (i now : ℕ) (m : Marks) → IsToldOf (said_by i (by_now now m.older) ++ said_by i (by_now now m.newest)) i c steps
    → IfSome (by_now now m.older) (λ k. WasOver c steps k.ended k.upto) × IfSome (by_now now m.newest) (λ k. WasOver c steps k.ended k.upto)
put c steps i now m told = (
  of_said c steps i (by_now now m.older) (λ t f own has. told.passes t f own (Contains-append_left (said_by i (by_now now m.older)) (said_by i (by_now now m.newest)) (Over t f) has)),
  of_said c steps i (by_now now m.newest) (λ t f own has. told.passes t f own (Contains-append_right (said_by i (by_now now m.older)) (said_by i (by_now now m.newest)) (Over t f) has)),
)

module _ (i : ℕ) (c : Content) (steps : List Step) where
  begun_marked : (now : ℕ) (v : Known) (r : Option Pass) → HoldsAt i (IsMarked c steps) v.parts → HoldsAt i (IsMarked c steps) (behind_pass now v r).parts
  begun_marked now v None h = h
  begun_marked now v (Some q) h = holds_changed i q.frame.partition (IsMarked c steps) (begun_part now) v.parts (λ e p m. m) h

  given_up_marked : (now : ℕ) (v : Known) (r : Option Pass) → HoldsAt i (IsMarked c steps) v.parts → HoldsAt i (IsMarked c steps) (given_up now v r).parts
  given_up_marked now v None h = h
  given_up_marked now v (Some q) h = holds_changed i q.frame.partition (IsMarked c steps) (given_up_part now) v.parts (λ e p m. m) h

  new_mark : (keep now bytes : ℕ) (q : Pass) (p : Part) → WasOver c steps now q.frame.upto → IsMarked c steps p → IsMarked c steps (cleaned_part keep now q bytes p)
  new_mark keep now bytes q p was m = by (leaves_mark keep now q.frame.upto p.marks.newest)
    where
      made : Marks
      made = record p.marks { older = p.marks.newest; newest = Some (record { upto = q.frame.upto; ended = now }) }

      by : (t : Bool) → IfSome (cond t (record p.marks { older = p.marks.newest; newest = Some (record { upto = q.frame.upto; ended = now }) }) p.marks).older (λ k. WasOver c steps k.ended k.upto)
          × IfSome (cond t (record p.marks { older = p.marks.newest; newest = Some (record { upto = q.frame.upto; ended = now }) }) p.marks).newest (λ k. WasOver c steps k.ended k.upto)
      by true = (m.1, was)
      by false = m

  cleaned_marked : (now bytes : ℕ) (v : Known) (r : Option Pass) → IsToldOf (said_over now r) i c steps → HoldsAt i (IsMarked c steps) v.parts → HoldsAt i (IsMarked c steps) (cleaned now bytes v r).parts
  cleaned_marked now bytes v None told h = h
  cleaned_marked now bytes v (Some q) told h =
      holds_changed i q.frame.partition (IsMarked c steps) (cleaned_part v.settings.keep_deletes now q bytes) v.parts
      (λ e p m. new_mark v.settings.keep_deletes now bytes q p (told.passes now q.frame (sym e) (first_there (Over now q.frame) [])) m) h

  by_call : (call : Call) (v : Known) → IsToldOf (said call v) i c steps → HoldsAt i (IsMarked c steps) v.parts → HoldsAt i (IsMarked c steps) (after call v).parts
  by_call (Add now) v told h = holds_added i (IsMarked c steps) (new_part now) v.parts (tt, tt) h
  by_call (Tell now j x) v told h = holds_changed i j (IsMarked c steps) (told_part v.settings.lag now x) v.parts (λ e p m. m) h
  by_call (PutBack now j m) v told h = holds_changed i j (IsMarked c steps) (part_with_marks now m) v.parts
      (λ e p old. put c steps i now m (subst (λ (k : ℕ). IsToldOf (said_by k (by_now now m.older) ++ said_by k (by_now now m.newest)) i c steps) (sym e) told)) h
  by_call (Next now) v told h = begun_marked now v (next_pass now v v.pass) h
  by_call (Clean now bytes) v told h = cleaned_marked now bytes v v.pass told h
  by_call (GiveUp now) v told h = given_up_marked now v v.pass h

marked : (o : Settings) (i : ℕ) (c : Content) (earlier : List Step) (moments : List Moment) → IsTimeline o i c earlier moments → HoldsAt i (IsMarked c (steps_of earlier moments)) (behind o (calls_of moments)).parts
marked o i c earlier [] line = tt
marked o i c earlier (Said call ∷ before) line = by_call i c (steps_of earlier before) call (behind o (calls_of before)) line.0 (marked o i c earlier before line.1)
marked o i c earlier (Happened a ∷ before) line =
    holds_more i (IsMarked c (steps_of earlier before)) (IsMarked c (a ∷ steps_of earlier before)) (behind o (calls_of before)).parts
    (λ p m. marks_later c (steps_of earlier before) a p.marks m) (marked o i c earlier before line.2)

pub marks_of_passes : (o : Settings) (i : ℕ) (c : Content) (earlier : List Step) (moments : List Moment) (p : Part) → IsTimeline o i c earlier moments → slice_get (behind o (calls_of moments)).parts i ≡ Some p → AreOfPasses c (steps_of earlier moments) p.marks
marks_of_passes o i c earlier moments p line there = holds_there i (IsMarked c (steps_of earlier moments)) (behind o (calls_of moments)).parts p there (marked o i c earlier moments line)

-- ---- marks that are put back

one_told : (i : ℕ) (c : Content) (steps : List Step) (now : ℕ) (r : Option Mark) → ByThen now steps → IfSome r (λ k. WasOver c steps k.ended k.upto) → IsToldOf (said_by i (by_now now r)) i c steps
one_told i c steps now None times are = told_nothing i c steps
one_told i c steps now (Some k) times are = record {
  ends = λ t x has. absurd (no_end t x (Contains-push_cases [] (Over (min k.ended now) (record { partition = i; upto = k.upto; tomb_before = pos 0 })) (Told t i x) has));
  passes = λ t f own has. pass t f (Contains-push_cases [] (Over (min k.ended now) (record { partition = i; upto = k.upto; tomb_before = pos 0 })) (Over t f) has);
}
  where
    kind : Event → ℕ
    kind (Told t j x) = 0
    kind (Over t f) = 1

    time : Event → ℕ
    time (Told t j x) = t
    time (Over t f) = t

    upto : Event → ℤ
    upto (Told t j x) = x.end
    upto (Over t f) = f.upto

    no_end : (t : ℕ) (x : Extent) → Contains [] (Told t i x) ⊎ (Over (min k.ended now) (record { partition = i; upto = k.upto; tomb_before = pos 0 }) ≡ Told t i x) → ⊥
    no_end t x (inl has) = absurd (omega (arith, has.1))
    no_end t x (inr is) = absurd (omega (arith, ap kind is))

    pass : (t : ℕ) (f : Frame) → Contains [] (Over t f) ⊎ (Over (min k.ended now) (record { partition = i; upto = k.upto; tomb_before = pos 0 }) ≡ Over t f) → WasOver c steps t f.upto
    pass t f (inl has) = absurd (omega (arith, has.1))
    pass t f (inr is) = subst (λ (n : ℕ). WasOver c steps n f.upto) (ap time is) (subst (WasOver c steps (min k.ended now)) (ap upto is) (clipped c steps k.ended now k.upto times are))

pub may_be_put_back : (now i : ℕ) (m : Marks) (v : Known) (c : Content) (since steps : List Step) → AreOfPasses c steps m → ByThen now (since ++ steps) → IsToldOf (said (PutBack now i m) v) i c (since ++ steps)
may_be_put_back now i m v c since steps are times =
    let later = marks_since c since steps m are in
    told_more (said_by i (by_now now m.older)) (said_by i (by_now now m.newest)) i c (since ++ steps) (one_told i c (since ++ steps) now m.older times later.0) (one_told i c (since ++ steps) now m.newest times later.1)
