-- Where a start stops that has read its files.
use Rattle.std.proofs.Common.{◌≡◌, inl, inr, ℕ, ◌+◌, ◌<◌, ◌≤◌, arith, Bool, true, false, not, List, Option, None, Some, sym, subst, ap, ◌∙◌, true≢false}
use Rattle.std.specs.Prelude.{◌⊎◌, IfSome, MatchBool, is_some}
use Rattle.broker_state.specs.State.{ConfigValue, State}
use Rattle.data_directory.specs.declared.names.Name.{Name}
use Rattle.data_directory.specs.declared.names.Name.TheVariants.{Journal}
use Rattle.data_directory.specs.Directories.{DirectoryState, KeepsOthers}
use Rattle.kept_rotations.specs.Below.{KeptState}
use Rattle.kept_rotations.specs.Moments.{AreOfMoment, RotationState, id_of}
use Rattle.kept_rotations.specs.Steps.{FoldsNames, IsNextNumber, IsOfFold}
use Rattle.kept_rotations.specs.declared.files.KeptFiles.{KeptFiles}
use Rattle.kept_rotations.proofs.Touched.{others_then, others_wider}
use Rattle.kept_starts.specs.declared.recovering.RowRead.{RowRead}
use Rattle.kept_starts.specs.declared.snapshot.Shape.{Shape}
use Rattle.kept_starts.specs.declared.standing.Row.{Row}
use Rattle.kept_starts.specs.Removals.{HasWholeRow, IsOfStart, IsOld, StopsStanding}
use Rattle.kept_starts.specs.Refusals.{IsFailure, RefusesUnchanged}
use Rattle.kept_starts.specs.declared.faults.StartFault.{StartFault}
use Rattle.kept_starts.specs.Rows.{IsShortened, IsTakenRow, IsTopRow}
use Rattle.kept_starts.specs.Starts.{LeadAsAsked}
use Rattle.kept_starts.proofs.GoingOn.{last_stays}

-- a snapshot gets a number above that of the files
above : (files : KeptFiles) (snapshot last number : ℕ) → files.snapshot ≡ snapshot → files.last ≡ last → snapshot ≤ last → IsNextNumber files number → snapshot < number
above files snapshot last number same_snapshot same_last in_order (inl next) = omega (arith, next, same_last, in_order)
above files snapshot last number same_snapshot same_last in_order (inr here) = omega (arith, here.0, here.1, same_snapshot)

of_fold : (files : KeptFiles) (snapshot last : ℕ) → files.snapshot ≡ snapshot → files.last ≡ last → snapshot ≤ last → (name : Name) → IsOfFold files name → IsOfStart snapshot last name
of_fold files snapshot last same_snapshot same_last in_order name (inl (inl next)) = inl (inr (inl (next ∙ ap (λ (n : ℕ). Journal (n + 1)) same_last)))
of_fold files snapshot last same_snapshot same_last in_order name (inl (inr making)) = inl (inl making)
of_fold files snapshot last same_snapshot same_last in_order name (inr (number, next, is)) = inr (number, above files snapshot last number same_snapshot same_last in_order next, is)

module _ {F : Type 0} (d : DirectoryState) (gives : Name → F → Type 0) (seen : F → Option (List ℕ)) (asked : ConfigValue) (shape : Shape) (found : Row) (read : RowRead) (node : State)
    (shortens : IsShortened found read.row) (row : IsTopRow d found.snapshot found.last → IsTakenRow d gives seen read.row.snapshot read.row.last)
    (lead : LeadAsAsked d gives seen asked shape read.is_grown read.row.snapshot read.row.last node) where
  -- before a snapshot is taken
  pub stops_settling : (d' : DirectoryState) → KeepsOthers (IsOld read.row.snapshot read.row.last) d d' → StopsStanding d gives seen asked shape found d'
  stops_settling d' keeps = inr (record {
    taken = read.row;
    is_grown = read.is_grown;
    led = node;
    shortens = shortens;
    row = row;
    lead = lead;
    names = inl (others_wider (IsOld read.row.snapshot read.row.last) (IsOfStart read.row.snapshot read.row.last) d d' (λ name at. inl at) keeps);
  })

  -- while one is taken
  pub stops_folding : {D G : Type 0} (k : KeptState D) (r : RotationState G) (mid d' : DirectoryState) → KeepsOthers (IsOld read.row.snapshot read.row.last) d mid → FoldsNames k r mid d'
      → r.files.snapshot ≡ read.row.snapshot → r.files.last ≡ read.row.last → k.world.state ≡ node → read.row.snapshot ≤ read.row.last → StopsStanding d gives seen asked shape found d'
  stops_folding k r mid d' settled folds same_snapshot same_last same in_order = inr (record {
    taken = read.row;
    is_grown = read.is_grown;
    led = node;
    shortens = shortens;
    row = row;
    lead = lead;
    names = by folds;
  })
    where
      by : FoldsNames k r mid d' → KeepsOthers (IsOfStart read.row.snapshot read.row.last) d d' ⊎ ((number : ℕ) × (read.row.snapshot < number) × HasWholeRow d' number node)
      by (inl keeps) =
          let widens = of_fold r.files read.row.snapshot read.row.last same_snapshot same_last in_order in
          let all = others_then (IsOld read.row.snapshot read.row.last) (IsOfStart read.row.snapshot read.row.last) d mid (λ name at. inl at) (IsOfFold r.files) d' widens settled keeps in
          inl all
      by (inr folded) =
          let there = last_stays d mid read.row.snapshot read.row.last r.files.last in_order same_last settled lead.lead.newest.is_journal.is_its.there in
          inr (
            folded.number,
            above r.files read.row.snapshot read.row.last folded.number same_snapshot same_last in_order folded.next,
            (folded.there, folded.journal there, (folded.key, subst (AreOfMoment (d'.bytes folded.number) (id_of folded.number folded.key)) same folded.moment)),
          )

-- of files that this start made a fault is no refusal; of such as stood it is what it was
pub refuses_or_fails : {A X : Type 0} (state : X → DirectoryState) (old mid new : X) (standing : Option Row) (row : Row) (is_new : Bool) (why told : StartFault A)
    → IfSome standing (λ f. (row ≡ f) × (mid ≡ old)) → is_some standing ≡ not is_new → RefusesUnchanged (state mid) (state new) why
    → MatchBool is_new (IsFailure told) (told ≡ why) → RefusesUnchanged (state old) (state new) told
refuses_or_fails state old mid new standing row true why told same tells refuses means = inl means
refuses_or_fails state old mid new None row false why told same tells refuses means = absurd (true≢false (sym tells))
refuses_or_fails state old mid new (Some f) row false why told same tells refuses means =
    subst (λ (x : _). RefusesUnchanged (state x) (state new) told) same.1 (subst (RefusesUnchanged (state mid) (state new)) (sym means) refuses)
