-- What a policy knows, it knows from what was said.
use Rattle.std.proofs.Common.{◌≡◌, ℕ, zero, suc, ◌+◌, cond, List, [], ◌∷◌, ◌++◌, refl, sym, subst, arith}
use Rattle.std.specs.Prelude.{⊤, ℤ, pos, Option, Some, None, IfSome}
use Rattle.std.specs.List.{AllByRecursion, Contains}
use Rattle.std.proofs.lemmas.List.Elements.{Contains-append_left, Contains-append_right}
use Rattle.cleaning_policy.specs.declared.values.Extent.{Extent}
use Rattle.cleaning_policy.specs.declared.values.Mark.{Mark}
use Rattle.cleaning_policy.specs.declared.values.Marks.{Marks}
use Rattle.cleaning_policy.specs.declared.values.Pass.{Pass}
use Rattle.cleaning_policy.specs.declared.values.Sample.{Sample}
use Rattle.cleaning_policy.specs.declared.values.Settings.{Settings}
use Rattle.cleaning_policy.specs.Samples.{has_passed, asked_samples, is_known, is_crowded, in_place_of_newest, with_sample}
use Rattle.cleaning_policy.specs.Marking.{by_now, leaves_mark}
use Rattle.cleaning_policy.specs.Partitions.{Part, new_part, told_part, begun_part, cleaned_part, given_up_part, part_with_marks}
use Rattle.cleaning_policy.specs.Policies.{Known, changed_at, cleaned, given_up, next_pass, behind_pass}
use Rattle.cleaning_policy.specs.Histories.{Call, Event, behind, history, said_by, over_by, WasEnd, WasCleaned}
use Rattle.cleaning_policy.specs.Histories.Call.{Add, Tell, PutBack, Next, Clean, GiveUp}
use Rattle.cleaning_policy.specs.Histories.Event.{Told, Over}
use Rattle.cleaning_policy.proofs.Options.{by_test, some_weaker, all_weaker}

-- a mark is of a pass
abbrev pub IsMark : List Event → ℕ → Mark → Type 0
IsMark h i m = WasCleaned h i m.ended m.upto

-- each sample of a partition was told, and each mark is of a pass
pub record IsPartOf (h : List Event) (i : ℕ) (p : Part) : Type 0 where
  pub samples : AllByRecursion (λ s. WasEnd h i s.time s.end) p.samples
  pub older : IfSome p.marks.older (IsMark h i)
  pub newest : IfSome p.marks.newest (IsMark h i)

-- so is each partition, where the first has this index
abbrev pub AreParts : List Event → ℕ → List Part → Type 0
AreParts h i [] = ⊤
AreParts h i (p ∷ ps) = IsPartOf h i p × AreParts h (i + 1) ps

-- ---- as more happens

end_later : (es h : List Event) (i t : ℕ) (e : ℤ) → WasEnd h i t e → WasEnd (es ++ h) i t e
end_later es h i t e w = record { extent = w.extent; is_end = w.is_end; told = Contains-append_right es h (Told t i w.extent) w.told }

cleaned_later : (es h : List Event) (i t : ℕ) (u : ℤ) → WasCleaned h i t u → WasCleaned (es ++ h) i t u
cleaned_later es h i t u w = record { frame = w.frame; of_it = w.of_it; as_far = w.as_far; over = Contains-append_right es h (Over t w.frame) w.over }

cleaned_front : (es h : List Event) (i t : ℕ) (u : ℤ) → WasCleaned es i t u → WasCleaned (es ++ h) i t u
cleaned_front es h i t u w = record { frame = w.frame; of_it = w.of_it; as_far = w.as_far; over = Contains-append_left es h (Over t w.frame) w.over }

part_later : (es h : List Event) (i : ℕ) (p : Part) → IsPartOf h i p → IsPartOf (es ++ h) i p
part_later es h i p w = record {
  samples = all_weaker (λ (s : Sample). WasEnd h i s.time s.end) (λ (s : Sample). WasEnd (es ++ h) i s.time s.end) (λ s. end_later es h i s.time s.end) p.samples w.samples;
  older = some_weaker (IsMark h i) (IsMark (es ++ h) i) (λ m. cleaned_later es h i m.ended m.upto) p.marks.older w.older;
  newest = some_weaker (IsMark h i) (IsMark (es ++ h) i) (λ m. cleaned_later es h i m.ended m.upto) p.marks.newest w.newest;
}

parts_later : (es h : List Event) (i : ℕ) (ps : List Part) → AreParts h i ps → AreParts (es ++ h) i ps
parts_later es h i [] a = tt
parts_later es h i (p ∷ ps) a = (part_later es h i p a.0, parts_later es h (i + 1) ps a.1)

-- ---- one partition changes

changed_parts : (h : List Event) (j : ℕ) (f : Part → Part) → ((p : Part) → IsPartOf h j p → IsPartOf h j (f p)) → (i k : ℕ) (ps : List Part) → i + k ≡ j
    → AreParts h i ps → AreParts h i (changed_at k f ps)
changed_parts h j f each i zero [] e a = tt
changed_parts h j f each i (suc k) [] e a = tt
changed_parts h j f each i zero (p ∷ ps) e a =
    let same : i ≡ j = omega (arith, e) in
    (subst (λ (n : ℕ). IsPartOf h n (f p)) (sym same) (each p (subst (λ (n : ℕ). IsPartOf h n p) same a.0)), a.1)
changed_parts h j f each i (suc k) (p ∷ ps) e a = (a.0, changed_parts h j f each (i + 1) k ps (omega (arith, e)) a.1)

changed_one : (h : List Event) (j : ℕ) (f : Part → Part) (ps : List Part) → ((p : Part) → IsPartOf h j p → IsPartOf h j (f p))
    → AreParts h 0 ps → AreParts h 0 (changed_at j f ps)
changed_one h j f ps each a = changed_parts h j f each 0 j ps (omega arith) a

added : (h : List Event) (i now : ℕ) (ps : List Part) → AreParts h i ps → AreParts h i (ps ++ new_part now ∷ [])
added h i now [] a = (record { samples = tt; older = tt; newest = tt }, tt)
added h i now (p ∷ ps) a = (a.0, added h (i + 1) now ps a.1)

-- ---- what is told

replaced_newest : (P : Sample → Type 0) (x : Sample) (xs : List Sample) → P x → AllByRecursion P xs → AllByRecursion P (in_place_of_newest x xs)
replaced_newest P x [] h a = (h, tt)
replaced_newest P x (s ∷ earlier) h a = (h, a.1)

all_asked : (P : Sample → Type 0) (lag now : ℕ) (xs : List Sample) → AllByRecursion P xs → AllByRecursion P (asked_samples lag now xs)
unfolding asked_samples
all_asked P lag now [] a = tt
all_asked P lag now (s ∷ earlier) a =
    (a.0, by_test (AllByRecursion P) (has_passed s.time lag now) [] (asked_samples lag now earlier) tt (all_asked P lag now earlier a.1))

all_with : (P : Sample → Type 0) (lag : ℕ) (x : Sample) (xs : List Sample) → P x → AllByRecursion P xs → AllByRecursion P (with_sample lag x xs)
all_with P lag x xs h a =
    by_test (AllByRecursion P) (is_known x xs) xs (cond (is_crowded lag xs) (in_place_of_newest x xs) (x ∷ xs)) a
    (by_test (AllByRecursion P) (is_crowded lag xs) (in_place_of_newest x xs) (x ∷ xs) (replaced_newest P x xs h a) (h, a))

told_one : (h : List Event) (lag now i : ℕ) (x : Extent) (p : Part) → Contains h (Told now i x) → IsPartOf h i p → IsPartOf h i (told_part lag now x p)
told_one h lag now i x p said w =
    let here : WasEnd h i now x.end = record { extent = x; is_end = refl; told = said } in
    record {
      samples = all_asked (λ (s : Sample). WasEnd h i s.time s.end) lag now _ (all_with (λ (s : Sample). WasEnd h i s.time s.end) lag _ p.samples here w.samples);
      older = w.older;
      newest = w.newest;
    }

first_there : (e : Event) (h : List Event) → Contains (e ∷ h) e
first_there e h = (0, omega arith, refl)

-- ---- what is put back

said_mark : (i : ℕ) (r : Option Mark) → IfSome r (IsMark (said_by i r) i)
said_mark i None = tt
said_mark i (Some m) = record { frame = record { partition = i; upto = m.upto; tomb_before = pos 0 }; of_it = refl; as_far = refl; over = first_there _ [] }

put_one : (h : List Event) (now i : ℕ) (m : Marks) (p : Part) → IfSome (by_now now m.older) (IsMark h i) → IfSome (by_now now m.newest) (IsMark h i)
    → IsPartOf h i p → IsPartOf h i (part_with_marks now m p)
put_one h now i m p older newest w = record { samples = w.samples; older = older; newest = newest }

put_all : (h : List Event) (now i : ℕ) (m : Marks) (ps : List Part) → AreParts h 0 ps
    → AreParts ((said_by i (by_now now m.older) ++ said_by i (by_now now m.newest)) ++ h) 0 (changed_at i (part_with_marks now m) ps)
put_all h now i m ps a =
    let first = said_by i (by_now now m.older) in
    let second = said_by i (by_now now m.newest) in
    let all = (first ++ second) ++ h in
    changed_one all i (part_with_marks now m) ps
    (λ p. put_one all now i m p
    (some_weaker (IsMark first i) (IsMark all i) (λ k w. cleaned_front (first ++ second) h i k.ended k.upto (cleaned_front first second i k.ended k.upto w)) (by_now now m.older) (said_mark i (by_now now m.older)))
    (some_weaker (IsMark second i) (IsMark all i) (λ k w. cleaned_front (first ++ second) h i k.ended k.upto (cleaned_later first second i k.ended k.upto w)) (by_now now m.newest) (said_mark i (by_now now m.newest))))
    (parts_later (first ++ second) h 0 ps a)

-- ---- passes

begun_all : (h : List Event) (now : ℕ) (v : Known) (r : Option Pass) → AreParts h 0 v.parts → AreParts h 0 (behind_pass now v r).parts
begun_all h now v None a = a
begun_all h now v (Some q) a =
    changed_one h q.frame.partition (begun_part now) v.parts (λ p w. record { samples = w.samples; older = w.older; newest = w.newest }) a

given_up_all : (h : List Event) (now : ℕ) (v : Known) (r : Option Pass) → AreParts h 0 v.parts → AreParts h 0 (given_up now v r).parts
given_up_all h now v None a = a
given_up_all h now v (Some q) a =
    changed_one h q.frame.partition (given_up_part now) v.parts (λ p w. record { samples = w.samples; older = w.older; newest = w.newest }) a

cleaned_one : (h : List Event) (keep now bytes : ℕ) (q : Pass) (p : Part) → Contains h (Over now q.frame)
    → IsPartOf h q.frame.partition p → IsPartOf h q.frame.partition (cleaned_part keep now q bytes p)
cleaned_one h keep now bytes q p over w =
    let fresh : WasCleaned h q.frame.partition now q.frame.upto = record { frame = q.frame; of_it = refl; as_far = refl; over = over } in
    let test = leaves_mark keep now q.frame.upto p.marks.newest in
    record {
      samples = w.samples;
      older = by_test (λ (m : Marks). IfSome m.older (IsMark h q.frame.partition)) test _ p.marks w.newest w.older;
      newest = by_test (λ (m : Marks). IfSome m.newest (IsMark h q.frame.partition)) test _ p.marks fresh w.newest;
    }

cleaned_all : (h : List Event) (now bytes : ℕ) (v : Known) (r : Option Pass) → AreParts h 0 v.parts → AreParts (over_by now r ++ h) 0 (cleaned now bytes v r).parts
cleaned_all h now bytes v None a = a
cleaned_all h now bytes v (Some q) a =
    changed_one (Over now q.frame ∷ h) q.frame.partition (cleaned_part v.settings.keep_deletes now q bytes) v.parts
    (λ p. cleaned_one (Over now q.frame ∷ h) v.settings.keep_deletes now bytes q p (first_there (Over now q.frame) h))
    (parts_later (Over now q.frame ∷ []) h 0 v.parts a)

-- ---- all calls

pub remembers : (o : Settings) (calls : List Call) → AreParts (history o calls) 0 (behind o calls).parts
remembers o [] = tt
remembers o (Add now ∷ before) = added (history o before) 0 now (behind o before).parts (remembers o before)
remembers o (Tell now i x ∷ before) =
    let h = Told now i x ∷ history o before in
    changed_one h i (told_part (behind o before).settings.lag now x) (behind o before).parts
    (λ p. told_one h (behind o before).settings.lag now i x p (first_there (Told now i x) (history o before)))
    (parts_later (Told now i x ∷ []) (history o before) 0 (behind o before).parts (remembers o before))
remembers o (PutBack now i m ∷ before) = put_all (history o before) now i m (behind o before).parts (remembers o before)
remembers o (Next now ∷ before) =
    begun_all (history o before) now (behind o before) (next_pass now (behind o before) (behind o before).pass) (remembers o before)
remembers o (Clean now bytes ∷ before) = cleaned_all (history o before) now bytes (behind o before) (behind o before).pass (remembers o before)
remembers o (GiveUp now ∷ before) = given_up_all (history o before) now (behind o before) (behind o before).pass (remembers o before)
