-- The bounds of a frame come from what is remembered.
use Rattle.std.proofs.Common.{◌≡◌, ◌⊎◌, ℕ, zero, suc, ◌+◌, ◌≤◌, Bool, true, false, cond, List, [], ◌∷◌, drop, refl, sym, subst, ◌∙◌, inl, inr, arith, ap}
use Rattle.std.specs.Prelude.{ℤ, pos, Option, Some, None, IfSome}
use Rattle.cleaning_policy.specs.declared.values.Frame.{Frame}
use Rattle.cleaning_policy.specs.declared.values.Mark.{Mark}
use Rattle.cleaning_policy.specs.declared.values.Marks.{Marks}
use Rattle.cleaning_policy.specs.declared.values.Pass.{Pass}
use Rattle.cleaning_policy.specs.declared.values.Sample.{Sample}
use Rattle.cleaning_policy.specs.declared.values.Settings.{Settings}
use Rattle.cleaning_policy.specs.Samples.{has_passed, old_sample}
use Rattle.cleaning_policy.specs.Marking.{is_ripe, upto_of, tomb_bound}
use Rattle.cleaning_policy.specs.Partitions.{Part, due_pass, is_due}
use Rattle.cleaning_policy.specs.Policies.{Known, cleaned, given_up, behind_pass, first_pass, next_pass}
use Rattle.cleaning_policy.specs.Histories.{Call, Event, WasEnd, WasCleaned, IsBounded, behind, history}
use Rattle.cleaning_policy.specs.Histories.Call.{Add, Tell, PutBack, Next, Clean, GiveUp}
use Rattle.cleaning_policy.proofs.Options.{by_test, le_of, some_or, some_then, find_some}
use Rattle.cleaning_policy.proofs.Remembering.{IsMark, IsPartOf, AreParts, remembers}

-- below this offset deletions may go
abbrev MayGoBelow : List Event → (keep now i : ℕ) → ℤ → Type 0
MayGoBelow h keep now i e = (e ≡ pos 0) ⊎ ((t : ℕ) × WasCleaned h i t e × (t + keep ≤ now))

ripe_bound : (h : List Event) (keep now i : ℕ) (r : Option Mark) (e : ℤ) → IfSome r (IsMark h i) → MayGoBelow h keep now i e
    → MayGoBelow h keep now i (cond (is_ripe keep now r) (upto_of r) e)
ripe_bound h keep now i None e w other = other
ripe_bound h keep now i (Some m) e w other = by (has_passed m.ended keep now) refl where
  by : (b : Bool) → has_passed m.ended keep now ≡ b → MayGoBelow h keep now i (cond b m.upto e)
  by true ripe = inr (m.ended, w, le_of (m.ended + keep) now ripe)
  by false ripe = other

tomb_bounded : (h : List Event) (keep now i : ℕ) (m : Marks) → IfSome m.older (IsMark h i) → IfSome m.newest (IsMark h i) → MayGoBelow h keep now i (tomb_bound keep now m)
tomb_bounded h keep now i m older newest =
    ripe_bound h keep now i m.newest _ newest (ripe_bound h keep now i m.older (pos 0) older (inl refl))

due_bounded : (o : Settings) (h : List Event) (now i : ℕ) (p : Part) → IsPartOf h i p → IfSome (due_pass o now i p) (λ q. IsBounded o h now q.frame)
due_bounded o h now i p w =
    some_then (λ (s : Sample). WasEnd h i s.time s.end × (has_passed s.time o.lag now ≡ true)) (λ (q : Pass). IsBounded o h now q.frame) _ (old_sample o.lag now p.samples)
    (λ s t. by_test (λ (r : Option Pass). IfSome r (λ q. IsBounded o h now q.frame)) (is_due o now p s) _ None
    (record { end_time = s.time; was_end = t.0; lag = le_of (s.time + o.lag) now t.1; deletions = tomb_bounded h o.keep_deletes now i p.marks w.older w.newest })
    tt)
    (find_some (λ (s : Sample). WasEnd h i s.time s.end) _ p.samples w.samples)

first_bounded : (o : Settings) (h : List Event) (now i : ℕ) (ps : List Part) → AreParts h i ps → IfSome (first_pass o now i ps) (λ q. IsBounded o h now q.frame)
first_bounded o h now i [] a = tt
first_bounded o h now i (p ∷ ps) a =
    some_or (λ (q : Pass). IsBounded o h now q.frame) (due_pass o now i p) (first_pass o now (i + 1) ps)
    (due_bounded o h now i p a.0) (first_bounded o h now (i + 1) ps a.1)

dropped : (h : List Event) (i n j : ℕ) (ps : List Part) → i + n ≡ j → AreParts h i ps → AreParts h j (drop n ps)
dropped h i zero j ps e a =
    let same : i ≡ j = omega (arith, e) in
    subst (λ (k : ℕ). AreParts h k ps) same a
dropped h i (suc n) j [] e a = tt
dropped h i (suc n) j (p ∷ ps) e a = dropped h (i + 1) n j ps (omega (arith, e)) a.1

next_bounded : (h : List Event) (now : ℕ) (v : Known) (r : Option Pass) → AreParts h 0 v.parts → IfSome (next_pass now v r) (λ q. IsBounded v.settings h now q.frame)
next_bounded h now v (Some q) a = tt
next_bounded h now v None a =
    some_or (λ (q : Pass). IsBounded v.settings h now q.frame) (first_pass v.settings now v.turn (drop v.turn v.parts)) (first_pass v.settings now 0 v.parts)
    (first_bounded v.settings h now v.turn (drop v.turn v.parts) (dropped h 0 v.turn v.turn v.parts (omega arith) a))
    (first_bounded v.settings h now 0 v.parts a)

-- of any value that is behind some calls
pub bounded_of : (now : ℕ) (v : Known) (calls : List Call) → v ≡ behind v.settings calls
    → IfSome (next_pass now v v.pass) (λ q. IsBounded v.settings (history v.settings calls) now q.frame)
bounded_of now v calls is =
    next_bounded (history v.settings calls) now v v.pass
    (subst (λ (w : Known). AreParts (history v.settings calls) 0 w.parts) (sym is) (remembers v.settings calls))

-- no call changes the settings
begun_settings : (now : ℕ) (v : Known) (r : Option Pass) → (behind_pass now v r).settings ≡ v.settings
begun_settings now v None = refl
begun_settings now v (Some q) = refl

cleaned_settings : (now bytes : ℕ) (v : Known) (r : Option Pass) → (cleaned now bytes v r).settings ≡ v.settings
cleaned_settings now bytes v None = refl
cleaned_settings now bytes v (Some q) = refl

given_up_settings : (now : ℕ) (v : Known) (r : Option Pass) → (given_up now v r).settings ≡ v.settings
given_up_settings now v None = refl
given_up_settings now v (Some q) = refl

settings_of : (o : Settings) (calls : List Call) → (behind o calls).settings ≡ o
settings_of o [] = refl
settings_of o (Add now ∷ before) = settings_of o before
settings_of o (Tell now i x ∷ before) = settings_of o before
settings_of o (PutBack now i m ∷ before) = settings_of o before
settings_of o (Next now ∷ before) = begun_settings now (behind o before) (next_pass now (behind o before) (behind o before).pass) ∙ settings_of o before
settings_of o (Clean now bytes ∷ before) = cleaned_settings now bytes (behind o before) (behind o before).pass ∙ settings_of o before
settings_of o (GiveUp now ∷ before) = given_up_settings now (behind o before) (behind o before).pass ∙ settings_of o before

pub bounded : (o : Settings) (calls : List Call) (now : ℕ) → IfSome (next_pass now (behind o calls) (behind o calls).pass) (λ q. IsBounded o (history o calls) now q.frame)
bounded o calls now =
    subst (λ (s : Settings). IfSome (next_pass now (behind o calls) (behind o calls).pass) (λ q. IsBounded s (history o calls) now q.frame)) (settings_of o calls)
    (next_bounded (history o calls) now (behind o calls) (behind o calls).pass (remembers o calls))

-- as a caller has it, who knows the calls
pub for_caller : (o : Settings) (calls : List Call) (now : ℕ) (v : Known) (r : Option Frame) → v ≡ behind o calls
    → ((cs : List Call) → v ≡ behind v.settings cs → IfSome r (IsBounded v.settings (history v.settings cs) now)) → IfSome r (IsBounded o (history o calls) now)
for_caller o calls now v r at given =
    let same : v.settings ≡ o = ap (λ (w : Known). w.settings) at ∙ settings_of o calls in
    subst (λ (s : Settings). IfSome r (IsBounded s (history s calls) now)) same (given calls (at ∙ sym (ap (λ (s : Settings). behind s calls) same)))
