-- The plan as the loop makes it: the entries that are left are those that are still told.
use Rattle.std.proofs.Common.{◌≡◌, ℕ, ℤ, Bool, true, false, List, [], drop, Option, Some, sym, ap, subst, ◌∙◌}
use Rattle.batch_codec.specs.Values.{BatchValue}
use Rattle.batch_codec.specs.Offsets.{first_offset}
use Rattle.cover_ranges.specs.Runs.{Runs}
use Rattle.content.specs.Content.{Content, IsContent, IsInRange}
use Rattle.content_laws.proofs.Batches.{Batches}
use Rattle.segment.specs.declared.turn.Turn.{Turn}
use Rattle.segment.specs.Weaving.{woven}
use Rattle.deltas.specs.Deltas.{Delta}
use Rattle.deltas.specs.Patches.{later_start, patch}
use Rattle.side_by_side.specs.Telling.{IsTold}
use Rattle.side_by_side.specs.Steps.{Step, next_of, is_done, kept_of, taken_kept, taken_told, patched_next}
use Rattle.side_by_side.specs.Plans.{EndBefore, Adds}
use Rattle.side_by_side.proofs.Agreeing.{some_next, none_next}
use Rattle.side_by_side.proofs.StepWalk.{Entries}
use Rattle.side_by_side.proofs.JudgedSteps.{SaysNext, GivesNext, IsPassedBy}
use Rattle.side_by_side.proofs.Planned.{IsPlanned, planned_start, planned_room, planned_next, planned_all}

pub record HasPlanned (c : Content) (e : Delta) (xs : Batches) (tells : Entries → Type 0) (turns : List Turn) (more : Batches) : Type 0 where
  pub entries : Entries
  pub told : tells entries
  pub planned : IsPlanned c e xs entries turns more

pub none_planned : (c : Content) (e : Delta) (start : ℤ) (xs : Batches) (tells : Entries → Type 0) (has_seen : Runs → Type 0) (turns : List Turn) (more : Batches) → xs ≡ c.kept → turns ≡ [] → more ≡ [] → IsContent c → IsTold start tells has_seen e
    → HasPlanned c e xs tells turns more
none_planned c e start xs tells has_seen turns more all no_turn none is told = record {
  entries = e.entries;
  told = told.entries;
  planned = subst (λ (bs : Batches). IsPlanned c e bs e.entries turns more) (sym all)
      (subst (λ (ts : List Turn). IsPlanned c e c.kept e.entries ts more) (sym no_turn)
      (subst (IsPlanned c e c.kept e.entries []) (sym none) (planned_start c e is told.valid)));
}

module _ (c : Content) (e : Delta) (xs : Batches) (tells : Entries → Type 0) (turns : List Turn) (more : Batches) (has : Bool) (step : Step) (start : ℤ) (copy sender : Runs)
    (so_far : HasPlanned c e xs tells turns more) (some : SaysNext xs tells has) (there : has ≡ true) (gives : GivesNext xs tells step)
    (starts : start ≡ later_start c e) (seen : copy ≡ c.cover) (sender_seen : sender ≡ e.cover) where
  abbrev es : Entries
  es = so_far.entries

  step_is : step ≡ next_of xs es
  step_is = gives es so_far.told

  not_done : is_done (next_of xs es) ≡ false
  not_done = some_next has (is_done (next_of xs es)) (some es so_far.told) there

  same_next : patched_next start copy sender step ≡ patched_next (later_start c e) c.cover e.cover (next_of xs es)
  same_next = λ k. patched_next (starts k) (seen k) (sender_seen k) (step_is k)

  -- there is room for what comes in
  pub plan_room : (z : BatchValue) → patched_next start copy sender step ≡ Some z → IsInRange z × EndBefore (first_offset z) more
  plan_room z f = planned_room c e xs es turns more so_far.planned not_done z (sym same_next ∙ f)

  pub plan_step : (p q : ℕ) (ys : Batches) (after : Entries → Type 0) (later : List Turn) (news : Batches) → ys ≡ drop p xs → p ≡ taken_kept step → q ≡ taken_told step → IsPassedBy q tells after
      → Adds (kept_of step) (patched_next start copy sender step) turns later more news → HasPlanned c e ys after later news
  plan_step p q ys after later news rest kept told passed adds =
      let made : Adds (kept_of (next_of xs es)) (patched_next (later_start c e) c.cover e.cover (next_of xs es)) turns later more news
      = subst (λ (z : Option BatchValue). Adds (kept_of (next_of xs es)) z turns later more news) same_next
      (subst (λ (z : Option BatchValue). Adds z (patched_next start copy sender step) turns later more news) (ap kept_of step_is) adds) in
      let us : drop (taken_kept (next_of xs es)) xs ≡ ys = ap (λ (n : ℕ). drop n xs) (sym (kept ∙ ap taken_kept step_is)) ∙ sym rest in
      let vs : drop (taken_told (next_of xs es)) es ≡ drop q es = ap (λ (n : ℕ). drop n es) (sym (told ∙ ap taken_told step_is)) in
      record {
        entries = drop q es;
        told = passed es so_far.told;
        planned = subst (λ (zs : Batches). IsPlanned c e zs (drop q es) later news) us
            (subst (λ (zs : Entries). IsPlanned c e (drop (taken_kept (next_of xs es)) xs) zs later news) vs (planned_next c e xs es turns later more news so_far.planned not_done made));
      }

pub all_planned : (c : Content) (e : Delta) (xs : Batches) (tells : Entries → Type 0) (turns : List Turn) (more : Batches) (has : Bool) → HasPlanned c e xs tells turns more → SaysNext xs tells has → has ≡ false → woven turns c.kept more ≡ (patch c e).kept
all_planned c e xs tells turns more has so_far some none =
    planned_all c e xs so_far.entries turns more so_far.planned (none_next has (is_done (next_of xs so_far.entries)) (some so_far.entries so_far.told) none)
