-- Whether a copy may take what it is told, as the loop finds out: the entries that are left are those that are still told.
use Rattle.std.proofs.Common.{◌≡◌, ℕ, ◌+◌, ◌≤◌, ◌<◌, ℤ, pos, ◌+ℤ◌, Bool, true, false, not, drop, length, sym, ap, subst, ◌∙◌, arith, IsTrue}
use Rattle.std.specs.Prelude.{◌↔◌, ◌≤ℤ◌}
use Rattle.std.specs.Int.{int_max}
use Rattle.std.proofs.lemmas.Int.{ints}
use Rattle.cover_ranges.specs.Runs.{Runs}
use Rattle.content.specs.Content.{Content, IsContent}
use Rattle.content_laws.proofs.Batches.{Batches}
use Rattle.deltas.specs.Deltas.{Delta}
use Rattle.deltas.specs.Patches.{later_start}
use Rattle.deltas.specs.Accepting.{Accepts, IsFirstFault}
use Rattle.side_by_side.specs.Telling.{IsTold}
use Rattle.side_by_side.specs.Steps.{Step, next_of, is_done, base_of, taken_kept, taken_told}
use Rattle.side_by_side.specs.Fitting.{Fits}
use Rattle.side_by_side.proofs.Agreeing.{some_next, none_next}
use Rattle.side_by_side.proofs.StepWalk.{Entries}
use Rattle.side_by_side.proofs.NextSteps.{told_few, less_left}
use Rattle.side_by_side.proofs.Judged.{IsJudged, judged_start, judged_next, fault_here, judged_all}

-- whether something comes next, and what
abbrev pub SaysNext : Batches → (Entries → Type 0) → Bool → Type 0
SaysNext xs tells has = (entries : Entries) → tells entries → has ≡ not (is_done (next_of xs entries))

abbrev pub GivesNext : Batches → (Entries → Type 0) → Step → Type 0
GivesNext xs tells step = (entries : Entries) → tells entries → step ≡ next_of xs entries

-- what is told once so many entries were passed
abbrev pub IsPassedBy : ℕ → (tells later : Entries → Type 0) → Type 0
IsPassedBy q tells later = (entries : Entries) → tells entries → later (drop q entries)

pub later_is : (c : Content) (e : Delta) (start sender later : ℤ) (tells : Entries → Type 0) (has_seen : Runs → Type 0) → IsTold start tells has_seen e → sender ≡ start → later ≡ int_max c.start sender → later ≡ later_start c e
later_is c e start sender later tells has_seen told same is = is ∙ ap (int_max c.start) (same ∙ told.start_is)

-- the same start, passed on by value
pub told_from : (start other : ℤ) (tells : Entries → Type 0) (has_seen : Runs → Type 0) (e : Delta) → other ≡ start → IsTold start tells has_seen e → IsTold other tells has_seen e
told_from start other tells has_seen e same told = record { valid = told.valid; start_is = same ∙ told.start_is; entries = told.entries; cover = told.cover }

pub denied : (says : Bool) (P : Type 0) → (IsTrue says ↔ P) → says ≡ false → P → ⊥
denied says P asks is holds = clash says (asks.1 holds) is
  where
    clash : (t : Bool) → t ≡ true → t ≡ false → ⊥
    clash t e f = cc

-- ---- how far the loop has come: what the sender has seen is known from some offset on that isn't above what comes next

pub record HasJudged (c : Content) (e : Delta) (xs : Batches) (tells : Entries → Type 0) (has_seen : ℤ → Runs → Type 0) : Type 0 where
  pub entries : Entries
  pub told : tells entries
  pub judged : IsJudged c e xs entries
  pub low : ℤ
  pub least : low ≤ℤ base_of (next_of xs entries)
  pub seen : has_seen low e.cover

pub none_judged : (c : Content) (e : Delta) (start : ℤ) (xs : Batches) (tells : Entries → Type 0) (has_seen : ℤ → Runs → Type 0) → xs ≡ c.kept → IsContent c → IsTold start tells (has_seen (pos 0)) e → HasJudged c e xs tells has_seen
none_judged c e start xs tells has_seen all is told =
    let first = judged_start c e is told.valid in
    subst (λ (bs : Batches). HasJudged c e bs tells has_seen) (sym all) (record {
      entries = e.entries;
      told = told.entries;
      judged = first.judged;
      low = pos 0;
      least = first.later;
      seen = told.cover;
    })

module _ (c : Content) (e : Delta) (xs : Batches) (tells : Entries → Type 0) (seen_before has_seen : ℤ → Runs → Type 0) (has : Bool) (step : Step) (base : ℤ)
    (so_far : HasJudged c e xs tells seen_before) (some : SaysNext xs tells has) (there : has ≡ true) (gives : GivesNext xs tells step)
    (base_is : base ≡ base_of step) (passes : (low : ℤ) (runs : Runs) → low ≤ℤ base → seen_before low runs → has_seen base runs) where
  abbrev es : Entries
  es = so_far.entries

  step_is : step ≡ next_of xs es
  step_is = gives es so_far.told

  not_done : is_done (next_of xs es) ≡ false
  not_done = some_next has (is_done (next_of xs es)) (some es so_far.told) there

  at_base : base ≡ base_of (next_of xs es)
  at_base = base_is ∙ ap base_of step_is

  -- what the sender has seen from here on
  seen_at_base : has_seen base e.cover
  seen_at_base = passes so_far.low e.cover (subst (λ (n : ℤ). so_far.low ≤ℤ n) (sym at_base) so_far.least) so_far.seen

  pub seen_here : has_seen (base_of step) e.cover
  seen_here = subst (λ (n : ℤ). has_seen n e.cover) base_is seen_at_base

  module _ (start : ℤ) (copy : Runs) (starts : start ≡ later_start c e) (seen_is : copy ≡ c.cover) where
    -- what is asked is whether the delta may be taken here
    asked : Fits start copy e.cover step ≡ Fits (later_start c e) c.cover e.cover (next_of xs es)
    asked = λ k. Fits (starts k) (seen_is k) e.cover (step_is k)

    pub one_judged : (p q : ℕ) (ys : Batches) (later : Entries → Type 0) → ys ≡ drop p xs → p ≡ taken_kept step → q ≡ taken_told step → IsPassedBy q tells later → Fits start copy e.cover step → HasJudged c e ys later has_seen
    one_judged p q ys later rest kept told passed fits =
        let next = judged_next c e xs es so_far.judged not_done (subst (λ (P : Type 0). P) asked fits) in
        let us : drop (taken_kept (next_of xs es)) xs ≡ ys = ap (λ (n : ℕ). drop n xs) (sym (kept ∙ ap taken_kept step_is)) ∙ sym rest in
        let vs : drop (taken_told (next_of xs es)) es ≡ drop q es = ap (λ (n : ℕ). drop n es) (sym (told ∙ ap taken_told step_is)) in
        record {
          entries = drop q es;
          told = passed es so_far.told;
          judged = subst (λ (zs : Batches). IsJudged c e zs (drop q es)) us (subst (IsJudged c e (drop (taken_kept (next_of xs es)) xs)) vs next.judged);
          low = base;
          least = behind base (base_of (next_of ys (drop q es))) (subst (λ (n : ℤ). (n +ℤ pos 1) ≤ℤ base_of (next_of ys (drop q es))) (sym at_base) (least_of (λ i. base_of (next_of (us i) (vs i))) next.later));
          seen = seen_at_base;
        }
      where
        behind : (n o : ℤ) → (n +ℤ pos 1) ≤ℤ o → n ≤ℤ o
        behind n o le = omega (arith, ints, le)

        least_of : {a b n : ℤ} → a ≡ b → n ≤ℤ a → n ≤ℤ b
        least_of {a} {b} {n} same le = subst (λ (k : ℤ). n ≤ℤ k) same le

    pub fault_judged : (Fits start copy e.cover step → ⊥) → IsFirstFault c e base
    fault_judged differs = subst (IsFirstFault c e) (sym at_base) (fault_here c e xs es so_far.judged not_done (λ fits. differs (subst (λ (P : Type 0). P) (sym asked) fits)))

pub all_judged : (c : Content) (e : Delta) (xs : Batches) (tells : Entries → Type 0) (has_seen : ℤ → Runs → Type 0) (has : Bool) → HasJudged c e xs tells has_seen → SaysNext xs tells has → has ≡ false → Accepts c e
all_judged c e xs tells has_seen has so_far some none =
    judged_all c e xs so_far.entries so_far.judged (none_next has (is_done (next_of xs so_far.entries)) (some so_far.entries so_far.told) none)

-- ---- what is passed

pub taken_is : (xs : Batches) (es : Entries) (tells : Entries → Type 0) (q : ℕ) (step : Step) → tells es → GivesNext xs tells step → q ≡ taken_told step → (entries : Entries) × tells entries × (q ≤ length entries)
taken_is xs es tells q step told gives is = (es, told, subst (λ (n : ℕ). n ≤ length es) (sym (is ∙ ap taken_told (gives es told))) (told_few xs es))

pub shorter_by : (xs ys : Batches) (es : Entries) (tells : Entries → Type 0) (p q now later : ℕ) (has : Bool) (step : Step) → tells es → SaysNext xs tells has → has ≡ true → GivesNext xs tells step → ys ≡ drop p xs
    → p ≡ taken_kept step → q ≡ taken_told step → later + q ≤ now → (length ys + later) < (length xs + now)
shorter_by xs ys es tells p q now later has step told some there gives rest kept passed less =
    let step_is = gives es told in
    subst (λ (zs : Batches). (length zs + later) < (length xs + now)) (sym rest)
    (less_left xs es p q now later (kept ∙ ap taken_kept step_is) (passed ∙ ap taken_told step_is) (some_next has (is_done (next_of xs es)) (some es told) there) less)
