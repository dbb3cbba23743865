-- Whether a copy may take a delta: base by base, in the order of the bases of its batches and of the delta's entries.
use Rattle.std.proofs.Common.{◌≡◌, ◌^◌, ℤ, pos, ◌+ℤ◌, Bool, true, false, [], ◌∷◌, None, refl, subst, ◌∙◌, arith, drop}
use Rattle.std.specs.Prelude.{◌↔◌, ◌≤ℤ◌, ◌<ℤ◌}
use Rattle.std.proofs.lemmas.Int.{ints, by_lt_z}
use Rattle.batch_codec.specs.Offsets.{first_offset}
use Rattle.content.specs.ByOffset.{look_up}
use Rattle.content.specs.Content.{Content, IsContent}
use Rattle.content_laws.proofs.ByOffset.{look_up-low}
use Rattle.content_laws.proofs.Batches.{Batches}
use Rattle.deltas.specs.Entries.{entry_base}
use Rattle.deltas.specs.Deltas.{Delta, IsDelta}
use Rattle.deltas.specs.Patches.{later_start}
use Rattle.deltas.specs.Accepting.{AcceptsAt, Accepts, IsFirstFault}
use Rattle.side_by_side.specs.Steps.{next_of, is_done, base_of, taken_kept, taken_told}
use Rattle.side_by_side.specs.Fitting.{Fits}
use Rattle.side_by_side.proofs.StepWalk.{Entries, IsAhead, HasCome, AreBefore, comes, are_before, base_within, kept_ahead, told_ahead}
use Rattle.side_by_side.proofs.NextSteps.{both_left}
use Rattle.side_by_side.proofs.Fitting.{accepts_nowhere, fits_here}

-- ---- the walk: all bases before what comes next are judged

pub record IsJudged (c : Content) (e : Delta) (xs : Batches) (es : Entries) : Type 0 where
  pub content : IsContent c
  pub delta : IsDelta e
  pub kept : IsAhead first_offset c.kept (base_of (next_of xs es)) xs
  pub told : IsAhead entry_base e.entries (base_of (next_of xs es)) es
  pub accepts : (o : ℤ) → o <ℤ base_of (next_of xs es) → AcceptsAt c e o

judged_before : (c : Content) (e : Delta) (m : ℤ) (xs : Batches) (es : Entries) → IsContent c → IsDelta e → AreBefore c.kept e.entries m xs es → ((o : ℤ) → o <ℤ m → AcceptsAt c e o) → IsJudged c e xs es
judged_before c e m xs es is delta before accepts = record {
  content = is;
  delta = delta;
  kept = before.kept;
  told = before.told;
  accepts = λ o less. by_lt_z o m (λ l. accepts o l) (λ le. accepts_nowhere c e is delta o (before.none_kept o le less) (before.none_told o le less));
}

-- what comes next begins at an offset or later
pub record IsFrom (c : Content) (e : Delta) (n : ℤ) (xs : Batches) (es : Entries) : Type 0 where
  pub judged : IsJudged c e xs es
  pub later : n ≤ℤ base_of (next_of xs es)

pub judged_start : (c : Content) (e : Delta) → IsContent c → IsDelta e → IsFrom c e (pos 0) c.kept e.entries
judged_start c e is delta =
    let before = are_before c.kept e.entries (pos 0) c.kept e.entries (omega (arith, ints)) (kept_ahead c is) (told_ahead e delta) in
    record {
      judged = judged_before c e (pos 0) c.kept e.entries is delta before
          (λ o less. accepts_nowhere c e is delta o (look_up-low first_offset (pos 0) o c.kept (kept_ahead c is).rises less) (look_up-low entry_base (pos 0) o e.entries (told_ahead e delta).rises less));
      later = before.least;
    }

judged_here : (c : Content) (e : Delta) (xs : Batches) (es : Entries) → IsJudged c e xs es → is_done (next_of xs es) ≡ false
    → HasCome c.kept e.entries (base_of (next_of xs es)) xs es (next_of xs es) × (pos 0 ≤ℤ base_of (next_of xs es)) × (base_of (next_of xs es) <ℤ pos (2 ^ 62))
judged_here c e xs es judged some =
    let come = comes c.kept e.entries xs es judged.kept judged.told some in
    let range = base_within c e (base_of (next_of xs es)) (next_of xs es) judged.content judged.delta come.kept_here come.told_here some in
    (come, range.0, range.1)

accepts_here : (c : Content) (e : Delta) (xs : Batches) (es : Entries) → IsJudged c e xs es → is_done (next_of xs es) ≡ false
    → Fits (later_start c e) c.cover e.cover (next_of xs es) ↔ AcceptsAt c e (base_of (next_of xs es))
accepts_here c e xs es judged some =
    let here = judged_here c e xs es judged some in
    fits_here c e judged.content judged.delta (next_of xs es) here.0.kept_here here.0.told_here

pub judged_next : (c : Content) (e : Delta) (xs : Batches) (es : Entries) → IsJudged c e xs es → is_done (next_of xs es) ≡ false → Fits (later_start c e) c.cover e.cover (next_of xs es)
    → IsFrom c e (base_of (next_of xs es) +ℤ pos 1) (drop (taken_kept (next_of xs es)) xs) (drop (taken_told (next_of xs es)) es)
judged_next c e xs es judged some fits =
    let n = base_of (next_of xs es) in
    let here = judged_here c e xs es judged some in
    let us = drop (taken_kept (next_of xs es)) xs in
    let vs = drop (taken_told (next_of xs es)) es in
    let before = are_before c.kept e.entries (n +ℤ pos 1) us vs (omega (arith, ints, here.2)) here.0.from_kept here.0.from_told in
    record {
      judged = judged_before c e (n +ℤ pos 1) us vs judged.content judged.delta before
          (λ o less. by_lt_z o n (λ l. judged.accepts o l) (λ le. let same : n ≡ o = omega (arith, ints, le, less) in subst (AcceptsAt c e) same ((accepts_here c e xs es judged some).0 fits)));
      later = before.least;
    }

pub fault_here : (c : Content) (e : Delta) (xs : Batches) (es : Entries) → IsJudged c e xs es → is_done (next_of xs es) ≡ false → (Fits (later_start c e) c.cover e.cover (next_of xs es) → ⊥)
    → IsFirstFault c e (base_of (next_of xs es))
fault_here c e xs es judged some differs = (λ accepts. differs ((accepts_here c e xs es judged some).1 accepts), judged.accepts)

pub judged_all : (c : Content) (e : Delta) (xs : Batches) (es : Entries) → IsJudged c e xs es → is_done (next_of xs es) ≡ true → Accepts c e
judged_all c e xs es judged none o =
    by_lt_z o (base_of (next_of xs es)) (λ less. judged.accepts o less)
    (λ le. accepts_nowhere c e judged.content judged.delta o (judged.kept.ahead o le ∙ no_batch xs es none o) (judged.told.ahead o le ∙ no_entry xs es none o))
  where
    not_both : (t : Bool) → t ≡ false → t ≡ true → ⊥
    not_both t f g = cc

    no_batch : (us : Batches) (vs : Entries) → is_done (next_of us vs) ≡ true → (k : ℤ) → look_up first_offset k us ≡ None
    no_batch [] vs f k = refl
    no_batch (x ∷ us) [] f k = absurd cc
    no_batch (x ∷ us) (y ∷ vs) f k = absurd (not_both (is_done (next_of (x ∷ us) (y ∷ vs))) (both_left x y) f)

    no_entry : (us : Batches) (vs : Entries) → is_done (next_of us vs) ≡ true → (k : ℤ) → look_up entry_base k vs ≡ None
    no_entry us [] f k = refl
    no_entry [] (y ∷ vs) f k = absurd cc
    no_entry (x ∷ us) (y ∷ vs) f k = absurd (not_both (is_done (next_of (x ∷ us) (y ∷ vs))) (both_left x y) f)
