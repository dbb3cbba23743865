-- Each act leaves a directory that keeps all frames, and a start of such a one comes to what they lead to: the highest snapshot
-- is one, as is the row of journals behind it, so the start finds those that the directory is kept by.
use Rattle.std.proofs.Common.{◌≡◌, ℕ, zero, suc, ◌+◌, ◌<◌, ◌≤◌, List, [], ◌∷◌, ◌++◌, Option, Some, None, refl, sym, ap, subst, ◌∙◌, append_assoc, append-nil, arith, inl, inr}
use Rattle.std.specs.Prelude.{◌⊎◌}
use Rattle.std.proofs.lemmas.Bool.{cases_lt}
use Rattle.std.proofs.lemmas.Option.{none-some, same_Some}
use Rattle.rotation_laws.specs.Directories.{Files, InARow, IsHighest, IsLeading, IsRecovered, Keeps}
use Rattle.rotation_laws.specs.Rotations.{IsLast, Appends, Opens, Publishes, PublishesMore, ChangesBelow, Rotates, Acts, Runs, IsNew, MayLeave}
use Rattle.rotation_laws.proofs.Rows.{row_same, row_one, row_last, row_appended, row_opened}

both_ways : {V : Type 0} (o : Option V) (v : V) → o ≡ None → o ≡ Some v → ⊥
both_ways o v none some = none-some v (sym none ∙ some)

-- two numbers behind neither of which the other lies are one
one_number : (a b : ℕ) → (a < b → ⊥) → (b < a → ⊥) → a ≡ b
one_number a b up down = by (cases_lt a b) (cases_lt b a)
  where
    by : (a < b) ⊎ (b ≤ a) → (b < a) ⊎ (a ≤ b) → a ≡ b
    by (inl lt) other = absurd (up lt)
    by (inr le) (inl lt) = absurd (down lt)
    by (inr le) (inr ge) = omega (arith, le, ge)

module _ {X F : Type 0} (d : Files X F) where
  -- the last journal is that of the row
  last_is : (number : ℕ) (base : X) (count last : ℕ) (frames held : List F) → IsHighest d number base count frames → IsLast d last held → last ≡ number + count
  last_is number base count last frames held found is_last =
      let end = row_last d number count frames found.row in
      one_number last (number + count)
      (λ lt. both_ways (d.journal (number + count)) end.0 (is_last.no_later (number + count) lt) end.1)
      (λ lt. both_ways (d.journal last) held (found.no_later last lt) is_last.there)

  -- a start finds one snapshot, one row and its frames
  one_found : (a b : ℕ) (s t : X) (m n : ℕ) (fs gs : List F) → IsHighest d a s m fs → IsHighest d b t n gs → (a ≡ b) × (s ≡ t) × (fs ≡ gs)
  one_found a b s t m n fs gs one two =
      let number : a ≡ b = one_number a b
      (λ lt. both_ways (d.snapshot b) t (one.highest b lt) two.snapshot)
      (λ lt. both_ways (d.snapshot a) s (two.highest a lt) one.snapshot) in
      let one_end = row_last d a m fs one.row in
      let two_end = row_last d b n gs two.row in
      let ends : a + m ≡ b + n = one_number (a + m) (b + n)
      (λ lt. both_ways (d.journal (b + n)) two_end.0 (one.no_later (b + n) lt) two_end.1)
      (λ lt. both_ways (d.journal (a + m)) one_end.0 (two.no_later (a + m) lt) one_end.1) in
      let counts : m ≡ n = omega (arith, number, ends) in
      let row : InARow d b (suc n) fs = subst (λ (k : ℕ). InARow d b (suc k) fs) counts (subst (λ (k : ℕ). InARow d k (suc m) fs) number one.row) in
      (number, same_Some s t (sym one.snapshot ∙ ap d.snapshot number ∙ two.snapshot), row_one d b (suc n) fs gs row two.row)

-- ---- each act

module _ {X F : Type 0} (leads : X → List F → X → Type 0) (first : X) (frames : List F) (old new : Files X F) (kept : Keeps leads first frames old) where
  abbrev found : IsHighest old kept.number kept.base kept.count kept.behind
  found = kept.found

  appended : (more : List F) → Appends more old new → Keeps leads first (frames ++ more) new
  appended more act =
      let at : act.last ≡ kept.number + kept.count = last_is old kept.number kept.base kept.count act.last kept.behind act.frames found act.is_last in
      record {
        number = kept.number;
        base = kept.base;
        count = kept.count;
        before = kept.before;
        behind = kept.behind ++ more;
        found = record {
          snapshot = act.snapshots kept.number ∙ found.snapshot;
          highest = λ m lt. act.snapshots m ∙ found.highest m lt;
          row = row_appended old new kept.number kept.count act.last kept.behind act.frames more at act.is_last.there act.journals found.row;
          no_later = λ m lt. act.journals.others m (λ same. absurd (omega (arith, same, at, lt))) ∙ found.no_later m lt;
        };
        led = kept.led;
        all = ap (λ l. l ++ more) kept.all ∙ append_assoc kept.before kept.behind more;
      }

  opened : Opens old new → Keeps leads first frames new
  opened act =
      let at : act.last ≡ kept.number + kept.count = last_is old kept.number kept.base kept.count act.last kept.behind act.frames found act.is_last in
      record {
        number = kept.number;
        base = kept.base;
        count = suc kept.count;
        before = kept.before;
        behind = kept.behind;
        found = record {
          snapshot = act.snapshots kept.number ∙ found.snapshot;
          highest = λ m lt. act.snapshots m ∙ found.highest m lt;
          row = row_opened old new kept.number (suc kept.count) (suc act.last) kept.behind (omega (arith, at)) act.journals found.row;
          no_later = λ m lt. act.journals.others m (λ same. absurd (omega (arith, same, at, lt))) ∙ found.no_later m (omega (arith, lt));
        };
        led = kept.led;
        all = kept.all;
      }

  published : Publishes leads first frames old new → Keeps leads first frames new
  published act = record {
    number = act.number;
    base = act.state;
    count = act.count;
    before = act.before;
    behind = act.behind;
    found = record {
      snapshot = act.snapshots.here;
      highest = λ m lt. act.snapshots.others m (λ same. absurd (omega (arith, same, lt))) ∙ act.is_higher m (omega (arith, lt));
      row = row_same old new act.number (suc act.count) act.behind (λ m le lt. act.journals m) act.row;
      no_later = λ m lt. act.journals m ∙ act.no_later m lt;
    };
    led = act.led;
    all = act.all;
  }

  published_more : (more : F) → PublishesMore leads first frames more old new → Keeps leads first (frames ++ (more ∷ [])) new
  published_more more act = record {
    number = act.number;
    base = act.state;
    count = 0;
    before = frames ++ (more ∷ []);
    behind = [];
    found = record {
      snapshot = act.snapshots.here;
      highest = λ m lt. act.snapshots.others m (λ same. absurd (omega (arith, same, lt))) ∙ act.is_higher m (omega (arith, lt));
      row = ([], [], act.journals act.number ∙ act.is_last.there, refl, refl);
      no_later = λ m lt. act.journals m ∙ act.is_last.no_later m (omega (arith, lt));
    };
    led = act.led;
    all = sym (append-nil (frames ++ (more ∷ [])));
  }

  changed : ChangesBelow old new → Keeps leads first frames new
  changed act =
      let below : act.number ≤ kept.number = by (cases_lt kept.number act.number) in
      record {
        number = kept.number;
        base = kept.base;
        count = kept.count;
        before = kept.before;
        behind = kept.behind;
        found = record {
          snapshot = act.snapshots kept.number below ∙ found.snapshot;
          highest = λ m lt. act.snapshots m (omega (arith, below, lt)) ∙ found.highest m lt;
          row = row_same old new kept.number (suc kept.count) kept.behind (λ m le lt. act.journals m (omega (arith, below, le))) found.row;
          no_later = λ m lt. act.journals m (omega (arith, below, lt)) ∙ found.no_later m lt;
        };
        led = kept.led;
        all = kept.all;
      }
    where
      by : (kept.number < act.number) ⊎ (act.number ≤ kept.number) → act.number ≤ kept.number
      by (inl lt) = absurd (both_ways (old.snapshot act.number) act.state (found.highest act.number lt) act.named)
      by (inr le) = le

  rotated : Rotates leads first frames old new → Keeps leads first frames new
  rotated (inl act) = opened act
  rotated (inr (inl act)) = published act
  rotated (inr (inr act)) = changed act

pub act_keeps : {X F : Type 0} (leads : X → List F → X → Type 0) (first : X) (frames frames' : List F) (old new : Files X F) → Keeps leads first frames old → Acts leads first frames old frames' new → Keeps leads first frames' new
act_keeps leads first frames frames' old new kept (inl act) =
    subst (λ fs. Keeps leads first fs new) (sym act.2) (appended leads first frames old new kept act.0 act.1)
act_keeps leads first frames frames' old new kept (inr (inl act)) =
    subst (λ fs. Keeps leads first fs new) (sym act.2) (published_more leads first frames old new kept act.0 act.1)
act_keeps leads first frames frames' old new kept (inr (inr act)) =
    subst (λ fs. Keeps leads first fs new) (sym act.1) (rotated leads first frames old new kept act.0)

runs_keep : {X F : Type 0} (leads : X → List F → X → Type 0) (first : X) (acts : ℕ) (frames frames' : List F) (old new : Files X F) → Keeps leads first frames old → Runs leads first acts frames old frames' new → Keeps leads first frames' new
runs_keep leads first zero frames frames' old new kept run =
    subst (λ d. Keeps leads first frames' d) (sym run.1) (subst (λ fs. Keeps leads first fs old) (sym run.0) kept)
runs_keep leads first (suc n) frames frames' old new kept run =
    runs_keep leads first n run.0 frames' run.1 new (act_keeps leads first frames run.0 old run.1 kept run.2) run.3

pub crash_keeps : {X F : Type 0} (leads : X → List F → X → Type 0) (first : X) (frames frames' : List F) (now left : Files X F) → Keeps leads first frames now → MayLeave leads first frames now frames' left → Keeps leads first frames' left
crash_keeps leads first frames frames' now left kept crash = changed leads first frames' crash.0 left (by crash.1) crash.2
  where
    by : Runs leads first 0 frames now frames' crash.0 ⊎ Acts leads first frames now frames' crash.0 → Keeps leads first frames' crash.0
    by (inl none) = runs_keep leads first 0 frames frames' now crash.0 kept none
    by (inr act) = act_keeps leads first frames frames' now crash.0 kept act

-- ---- a start

pub recovered_all : {X F : Type 0} (leads : X → List F → X → Type 0) (first recovered : X) (frames : List F) (d : Files X F)
    → IsLeading leads → Keeps leads first frames d → IsRecovered leads d recovered → leads first frames recovered
recovered_all leads first recovered frames d laws kept start =
    let same = one_found d kept.number start.number kept.base start.base kept.count start.count kept.behind start.frames kept.found start.found in
    let led : leads kept.base kept.behind recovered = subst (λ b. leads b kept.behind recovered) (sym same.1) (subst (λ fs. leads start.base fs recovered) (sym same.2) start.led) in
    subst (λ fs. leads first fs recovered) (sym kept.all) (laws.joins first kept.base recovered kept.before kept.behind kept.led led)

pub found_again : {X F : Type 0} (leads : X → List F → X → Type 0) (first after : X) (frames : List F) (d : Files X F)
    → IsLeading leads → Keeps leads first frames d → leads first frames after → IsRecovered leads d after
found_again leads first after frames d laws kept led =
    let by = laws.parts first after kept.before kept.behind (subst (λ fs. leads first fs after) kept.all led) in
    record {
      number = kept.number;
      base = kept.base;
      count = kept.count;
      frames = kept.behind;
      found = kept.found;
      led = laws.joins kept.base by.0 after [] kept.behind (laws.one_state first kept.base by.0 kept.before kept.led by.1) by.2;
    }

new_keeps : {X F : Type 0} (leads : X → List F → X → Type 0) (first : X) (d : Files X F) → IsLeading leads → IsNew first d → Keeps leads first [] d
new_keeps leads first d laws made = record {
  number = 1;
  base = first;
  count = 0;
  before = [];
  behind = [];
  found = record {
    snapshot = made.snapshot;
    highest = made.no_snapshot;
    row = ([], [], made.journal, refl, refl);
    no_later = λ m lt. made.no_journal m (omega (arith, lt));
  };
  led = laws.empty first;
  all = refl;
}

-- what a crash leaves behind any acts keeps all frames
pub left_keeps : {X F : Type 0} (leads : X → List F → X → Type 0) (first : X) (acts : ℕ) (frames frames' : List F) (made now left : Files X F)
    → IsLeading leads → IsNew first made → Runs leads first acts [] made frames now → MayLeave leads first frames now frames' left → Keeps leads first frames' left
left_keeps leads first acts frames frames' made now left laws is_new run crash =
    crash_keeps leads first frames frames' now left (runs_keep leads first acts [] frames made now (new_keeps leads first made laws is_new) run) crash
