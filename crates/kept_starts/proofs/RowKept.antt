-- What a start that stops leaves of the row that stood.
use Rattle.std.proofs.Common.{◌≡◌, inl, inr, ℕ, ◌+◌, ◌<◌, ◌≤◌, arith, Bool, true, false, not, List, Option, Some, None, sym, refl, subst, ap, ◌∙◌, true≢false}
use Rattle.std.specs.Prelude.{◌⊎◌, IfSome, MatchBool, MatchOption, is_some}
use Rattle.std.proofs.lemmas.Bool.{cases_lt}
use Rattle.broker_state.specs.State.{ConfigValue, State}
use Rattle.data_directory.specs.declared.names.Name.{Name}
use Rattle.data_directory.specs.declared.names.Name.TheVariants.{Snapshot, Journal}
use Rattle.data_directory.specs.Directories.{DirectoryState, IsThere, KeepsOthers}
use Rattle.kept_rotations.specs.Steps.{IsBelow}
use Rattle.kept_rotations.proofs.Touched.{snapshot_no_journal, snapshot_not_making, journal_not_making, same_journal, same_snapshot}
use Rattle.kept_starts.specs.declared.snapshot.Shape.{Shape}
use Rattle.kept_starts.specs.declared.standing.Row.{Row}
use Rattle.kept_starts.specs.declared.snapshot.Shape.TheVariants.{Former}
use Rattle.kept_starts.specs.Growth.{IsSetUp}
use Rattle.kept_starts.specs.Removals.{HasWholeRow, IsOfRow, IsOfStart, IsReplaced, IsUnfinished, KeepsRow, RowStood, StaysThere, StaysWhole, StopsStanding}
use Rattle.kept_starts.specs.Rows.{HasNone, IsTakenRow, IsTopRow, WasBeingMade}
use Rattle.kept_starts.specs.Starts.{AreTaken, set_up_of}

-- ---- what is there

-- a name isn't there of which a file is
clash : (o : Option Bool) → o ≡ Some true → IfSome o (λ known. known ≡ false) → ⊥
clash o there absent = true≢false (subst (λ (x : Option Bool). IfSome x (λ known. known ≡ false)) there absent)

known_there : (o : Option Bool) → is_some o ≡ true → IfSome o (λ known. known ≡ true) → o ≡ Some true
known_there None known there = absurd (true≢false (sym known))
known_there (Some b) known there = ap Some there

module _ {F : Type 0} (d : DirectoryState) (gives : Name → F → Type 0) (seen : F → Option (List ℕ)) (snapshot last : ℕ) (stood : RowStood d snapshot last) where
  is_there : (name : Name) → IsThere d name true → d.there name ≡ Some true
  is_there name there = known_there (d.there name) (stood.known name) there

  -- the snapshot that was taken is that of the row
  one_top : (n m : ℕ) → IsTakenRow d gives seen n m → IsThere d (Snapshot n) true → n ≡ snapshot
  one_top n m row there = by (cases_lt n snapshot) (cases_lt snapshot n)
    where
      by : (n < snapshot) ⊎ (snapshot ≤ n) → (snapshot < n) ⊎ (n ≤ snapshot) → n ≡ snapshot
      by (inl below) others = absurd (clash (d.there (Snapshot snapshot)) stood.first (row.no_higher snapshot below))
      by (inr from) (inl above) = absurd (clash (d.there (Snapshot n)) (is_there (Snapshot n) there) (stood.top.no_higher n above))
      by (inr from) (inr to) = omega (arith, from, to)

  -- the last journal that was taken is that of the row, or the one before it, where that was being made
  one_end : (n m : ℕ) → IsTakenRow d gives seen n m → IsThere d (Journal m) true → (m ≡ last) ⊎ ((last ≡ m + 1) × WasBeingMade d gives seen last)
  one_end n m row there = by (cases_lt last m) (cases_lt m last) (cases_lt (m + 1) last) row.next
    where
      by : (last < m) ⊎ (m ≤ last) → (m < last) ⊎ (last ≤ m) → ((m + 1) < last) ⊎ (last ≤ m + 1) → IsThere d (Journal (m + 1)) false ⊎ WasBeingMade d gives seen (m + 1)
          → (m ≡ last) ⊎ ((last ≡ m + 1) × WasBeingMade d gives seen last)
      by (inl above) below later next = absurd (clash (d.there (Journal m)) (is_there (Journal m) there) (stood.top.no_later m above))
      by (inr from) (inr to) later next = inl (omega (arith, from, to))
      by (inr from) (inl below) (inl far) next = absurd (clash (d.there (Journal last)) stood.end (row.no_later last far))
      by (inr from) (inl below) (inr near) (inl absent) =
          let same : m + 1 ≡ last = omega (arith, below, near) in
          absurd (clash (d.there (Journal last)) stood.end (subst (λ (k : ℕ). IsThere d (Journal k) false) same absent))
      by (inr from) (inl below) (inr near) (inr made) =
          let same : m + 1 ≡ last = omega (arith, below, near) in
          inr (sym same, subst (WasBeingMade d gives seen) same made)

  -- ---- names that a start doesn't touch

  lower : (n k : ℕ) (name : Name) → name ≡ Snapshot k ⊎ name ≡ Journal k → n ≤ k → IsBelow n name → ⊥
  lower n k name (inl is) from (low, below, inl journal) = snapshot_no_journal k low (sym is ∙ journal)
  lower n k name (inl is) from (low, below, inr other) = let e : k ≡ low = same_snapshot k low (sym is ∙ other) in absurd (omega (arith, e, from, below))
  lower n k name (inr is) from (low, below, inl other) = let e : k ≡ low = same_journal k low (sym is ∙ other) in absurd (omega (arith, e, from, below))
  lower n k name (inr is) from (low, below, inr other) = snapshot_no_journal low k (sym other ∙ is)

  module _ (m : ℕ) (ends : (m ≡ last) ⊎ ((last ≡ m + 1) × WasBeingMade d gives seen last)) (in_order : snapshot ≤ m) where
    journal_stays : (name : Name) (k : ℕ) → snapshot ≤ k → k ≤ last → name ≡ Journal k → (IsUnfinished d gives seen snapshot last name → ⊥) → IsOfStart snapshot m name → ⊥
    journal_stays name k from to is finished (inl (inl making)) = journal_not_making k (sym is ∙ making)
    journal_stays name k from to is finished (inl (inr (inl next))) = by ends
      where
        here : k ≡ m + 1
        here = same_journal k (m + 1) (sym is ∙ next)

        by : (m ≡ last) ⊎ ((last ≡ m + 1) × WasBeingMade d gives seen last) → ⊥
        by (inl same) = let e = here in absurd (omega (arith, e, same, to))
        by (inr made) = let e = here in finished (is ∙ ap Journal (e ∙ sym made.0), omega (arith, made.0, in_order), made.1)
    journal_stays name k from to is finished (inl (inr (inr below))) = lower snapshot k name (inr is) from below
    journal_stays name k from to is finished (inr (number, above, other)) = snapshot_no_journal number k (sym other ∙ is)

    snapshot_stays : (name : Name) → name ≡ Snapshot snapshot → IsOfStart snapshot m name → ⊥
    snapshot_stays name is (inl (inl making)) = snapshot_not_making snapshot (sym is ∙ making)
    snapshot_stays name is (inl (inr (inl next))) = snapshot_no_journal snapshot (m + 1) (sym is ∙ next)
    snapshot_stays name is (inl (inr (inr below))) = let from : snapshot ≤ snapshot = omega arith in lower snapshot snapshot name (inl is) from below
    snapshot_stays name is (inr (number, above, other)) = let e : snapshot ≡ number = same_snapshot snapshot number (sym is ∙ other) in absurd (omega (arith, e, above))

    untouched : (name : Name) → IsOfRow snapshot last name → (IsUnfinished d gives seen snapshot last name → ⊥) → IsOfStart snapshot m name → ⊥
    untouched name (inl is) finished touched = snapshot_stays name is touched
    untouched name (inr (k, from, to, is)) finished touched = journal_stays name k from to is finished touched

    stays : (d' : DirectoryState) → KeepsOthers (IsOfStart snapshot m) d d' → StaysThere d gives seen snapshot last d'
    stays d' keeps = λ name there of_row finished.
        let apart = untouched name of_row finished in
        (keeps.there name apart ∙ there, keeps.whole name apart)

-- ---- where a start stops

-- where nothing has changed
pub row_unchanged : {F : Type 0} (knows : Type 0) (d : DirectoryState) (gives : Name → F → Type 0) (seen : F → Option (List ℕ)) (d' : DirectoryState) → d' ≡ d → KeepsRow knows d gives seen d'
row_unchanged knows d gives seen d' same = λ snapshot last stood.
    inl (λ name there of_row finished. (ap (λ (x : DirectoryState). x.there name) same ∙ there, ap (λ (x : DirectoryState). x.whole name) same))

-- where there was none
pub no_row : {F : Type 0} (knows : Type 0) (d : DirectoryState) (gives : Name → F → Type 0) (seen : F → Option (List ℕ)) (d' : DirectoryState) → HasNone d gives seen → KeepsRow knows d gives seen d'
no_row knows d gives seen d' none = λ snapshot last stood. absurd (clash (d.there (Snapshot snapshot)) stood.first (none.no_snapshot snapshot))

-- where the files were read
pub row_kept : {F : Type 0} (knows : Type 0) (d : DirectoryState) (gives : Name → F → Type 0) (seen : F → Option (List ℕ)) (asked : ConfigValue) (shape : Shape) (found : Row) (d' : DirectoryState)
    → IsTopRow d found.snapshot found.last → StopsStanding d gives seen asked shape found d' → KeepsRow knows d gives seen d'
row_kept knows d gives seen asked shape found d' top (inl same) = row_unchanged knows d gives seen d' same
row_kept knows d gives seen asked shape found d' top (inr behind) = λ snapshot last stood. by snapshot last stood behind.names
  where
    row : IsTakenRow d gives seen behind.taken.snapshot behind.taken.last
    row = behind.row top

    by : (snapshot last : ℕ) → RowStood d snapshot last
        → KeepsOthers (IsOfStart behind.taken.snapshot behind.taken.last) d d' ⊎ ((number : ℕ) × (behind.taken.snapshot < number) × HasWholeRow d' number behind.led)
        → StaysThere d gives seen snapshot last d' ⊎ IsReplaced knows d gives seen snapshot d'
    by snapshot last stood (inl keeps) =
        let here = one_top d gives seen snapshot last stood behind.taken.snapshot behind.taken.last row behind.lead.lead.former.of_snapshot.is_its.there in
        let ends = one_end d gives seen snapshot last stood behind.taken.snapshot behind.taken.last row behind.lead.lead.newest.is_journal.is_its.there in
        let in_order : snapshot ≤ behind.taken.last = omega (arith, here, row.in_order) in
        inl (stays d gives seen snapshot last stood behind.taken.last ends in_order d' (subst (λ (n : ℕ). KeepsOthers (IsOfStart n behind.taken.last) d d') here keeps))
    by snapshot last stood (inr (number, above, whole)) =
        let here = one_top d gives seen snapshot last stood behind.taken.snapshot behind.taken.last row behind.lead.lead.former.of_snapshot.is_its.there in
        inr (
          behind.taken.last,
          number,
          behind.led,
          behind.led,
          omega (arith, here, above),
          subst (λ (n : ℕ). AreTaken d gives seen n behind.taken.last behind.led) here (record { row = row; lead = behind.lead.lead }),
          inl refl,
          whole,
        )

-- where topics were to be added, behind a snapshot of what the files lead to
pub row_grown : {F : Type 0} (knows : Type 0) (d : DirectoryState) (gives : Name → F → Type 0) (seen : F → Option (List ℕ)) (n m number : ℕ) (led : State) (d' : DirectoryState)
    → AreTaken d gives seen n m led → n < number → StaysWhole knows d' number led → KeepsRow knows d gives seen d'
row_grown knows d gives seen n m number led d' taken above whole = λ snapshot last stood.
    let here = one_top d gives seen snapshot last stood n m taken.row taken.lead.former.of_snapshot.is_its.there in
    inr (m, whole.0, led, whole.1, omega (arith, here, above, whole.2), subst (λ (k : ℕ). AreTaken d gives seen k m led) here taken, whole.3, whole.4)

-- ---- of what stood, or nothing

module _ {X F : Type 0} (knows : Type 0) (state : X → DirectoryState) (gives : X → Name → F → Type 0) (seen : F → Option (List ℕ)) (old new after : X) (standing : Option Row)
    (top : MatchOption standing (HasNone (state old) (gives old) seen) (λ found. IsTopRow (state old) found.snapshot found.last)) where
  pub kept_before : standing ≡ None → KeepsRow knows (state old) (gives old) seen (state after)
  kept_before none =
      no_row knows (state old) (gives old) seen (state after)
      (subst (λ (o : Option Row). MatchOption o (HasNone (state old) (gives old) seen) (λ found. IsTopRow (state old) found.snapshot found.last)) none top)

  pub kept_new : (is_new : Bool) → is_some standing ≡ not is_new → is_new ≡ true → KeepsRow knows (state old) (gives old) seen (state after)
  kept_new is_new tells is = kept_before (by standing (tells ∙ ap not is))
    where
      by : (o : Option Row) → is_some o ≡ false → o ≡ None
      by None none = refl
      by (Some row) none = absurd (true≢false none)

pub kept_standing : {X F : Type 0} (knows : Type 0) (state : X → DirectoryState) (gives : X → Name → F → Type 0) (seen : F → Option (List ℕ)) (old new after : X) (standing : Option Row) (row : Row)
    (asked : ConfigValue) (shape : Shape) → MatchOption standing (HasNone (state old) (gives old) seen) (λ found. IsTopRow (state old) found.snapshot found.last)
    → IfSome standing (λ found. (row ≡ found) × (new ≡ old)) → StopsStanding (state new) (gives new) seen asked shape row (state after) → KeepsRow knows (state old) (gives old) seen (state after)
kept_standing knows state gives seen old new after None row asked shape top same stops = no_row knows (state old) (gives old) seen (state after) top
kept_standing knows state gives seen old new after (Some found) row asked shape top same stops =
    subst (λ (x : _). KeepsRow knows (state x) (gives x) seen (state after)) same.1
    (row_kept knows (state new) (gives new) seen asked shape row (state after)
    (subst (λ (x : _). IsTopRow (state x) row.snapshot row.last) (sym same.1) (subst (λ (r : Row). IsTopRow (state old) r.snapshot r.last) (sym same.0) top)) stops)

pub kept_growing : {F : Type 0} (knows : Type 0) (d : DirectoryState) (gives : Name → F → Type 0) (seen : F → Option (List ℕ)) (asked : ConfigValue) (is_new is_grown : Bool) (snapshot last number : ℕ)
    (led : State) (d' : DirectoryState)
    → MatchBool is_new (HasNone d gives seen)
    ((taken : AreTaken d gives seen snapshot last led) × IsSetUp asked Former is_grown taken.lead.former.of_snapshot.holds.head (set_up_of taken))
    → snapshot < number → StaysWhole knows d' number led → KeepsRow knows d gives seen d'
kept_growing knows d gives seen asked true is_grown snapshot last number led d' none above whole = no_row knows d gives seen d' none
kept_growing knows d gives seen asked false is_grown snapshot last number led d' taken above whole = row_grown knows d gives seen snapshot last number led d' taken.0 above whole
