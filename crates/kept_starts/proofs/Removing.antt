-- The names that a start removes, one call behind the other.
use Rattle.std.proofs.Common.{◌≡◌, inl, inr, ℕ, ◌+◌, ◌<◌, ◌≤◌, Bool, true, false, not, Option, Some, None, sym, subst, true≢false}
use Rattle.std.specs.Prelude.{IfSome, MatchBool}
use Rattle.std.specs.Option.{is_some}
use Rattle.data_directory.specs.declared.names.Name.TheVariants.{Snapshot, Journal, Making}
use Rattle.data_directory.specs.Directories.{DirectoryState, IsThere, KeepsOthers, IsName, IsNone}
use Rattle.kept_rotations.specs.declared.files.KeptFiles.{KeptFiles}
use Rattle.kept_rotations.specs.Moments.{RotationState}
use Rattle.kept_rotations.specs.Steps.{IsBelow}
use Rattle.broker_state.specs.State.{State}
use Rattle.kept_rotations.proofs.Touched.{others_then, others_wider}
use Rattle.kept_starts.specs.declared.standing.Row.{Row}
use Rattle.kept_starts.specs.declared.starting.Found.{Found}
use Rattle.kept_starts.specs.Removals.{HasRowThen, HasWholeRow, IsOld, Removes}
use Rattle.kept_starts.specs.Starts.{IsFolded}
use Rattle.kept_starts.proofs.GoingOn.{folded_behind, last_stays}

-- ---- files below the snapshot

module _ (snapshot number : ℕ) (a b c : DirectoryState) where
  pub one_snapshot : KeepsOthers (IsBelow snapshot) a b → number < snapshot → KeepsOthers (IsName (Snapshot number)) b c → KeepsOthers (IsBelow snapshot) a c
  one_snapshot first below others = others_then (IsBelow snapshot) (IsBelow snapshot) a b (λ name at. at) (IsName (Snapshot number)) c (λ name at. (number, below, inr at)) first others

  pub one_journal : KeepsOthers (IsBelow snapshot) a b → number < snapshot → KeepsOthers (IsName (Journal number)) b c → KeepsOthers (IsBelow snapshot) a c
  one_journal first below others = others_then (IsBelow snapshot) (IsBelow snapshot) a b (λ name at. at) (IsName (Journal number)) c (λ name at. (number, below, inl at)) first others

-- ---- all of them

pub next_alone : (snapshot last : ℕ) (a b : DirectoryState) → KeepsOthers (IsName (Journal (last + 1))) a b → KeepsOthers (IsOld snapshot last) a b
next_alone snapshot last a b next = others_wider (IsName (Journal (last + 1))) (IsOld snapshot last) a b (λ name at. inr (inl at)) next

pub next_synced : (snapshot last : ℕ) (a b c : DirectoryState) → KeepsOthers (IsName (Journal (last + 1))) a b → KeepsOthers IsNone b c → KeepsOthers (IsOld snapshot last) a c
next_synced snapshot last a b c next synced = others_then (IsName (Journal (last + 1))) (IsOld snapshot last) a b (λ name at. inr (inl at)) IsNone c (λ name at. absurd at) next synced

pub settled : (snapshot last : ℕ) (a b c d : DirectoryState) → KeepsOthers (IsName (Journal (last + 1))) a b → KeepsOthers IsNone b c → KeepsOthers (IsBelow snapshot) c d
    → KeepsOthers (IsOld snapshot last) a d
settled snapshot last a b c d next synced below =
    let old = IsOld snapshot last in
    let two : KeepsOthers old a c = next_synced snapshot last a b c next synced in
    others_then old old a c (λ name at. at) (IsBelow snapshot) d (λ name at. inr (inr at)) two below

-- a snapshot in the making goes before them
pub making_alone : (snapshot last : ℕ) (a b : DirectoryState) → KeepsOthers (IsName Making) a b → KeepsOthers (IsOld snapshot last) a b
making_alone snapshot last a b making = others_wider (IsName Making) (IsOld snapshot last) a b (λ name at. inl at) making

pub making_then : (snapshot last : ℕ) (a b c : DirectoryState) → KeepsOthers (IsName Making) a b → KeepsOthers (IsOld snapshot last) b c → KeepsOthers (IsOld snapshot last) a c
making_then snapshot last a b c making others =
    let old = IsOld snapshot last in
    others_then (IsName Making) old a b (λ name at. inl at) old c (λ name at. at) making others

-- ---- of what was found

pub removes_found : {X F : Type 0} (state : X → DirectoryState) (d mid new : X) (is_due : Bool) (old after : RotationState F) (found found' : Found) (snapshot last : ℕ)
    → snapshot ≤ last → IsThere (state d) (Journal last) true → (old.files.snapshot ≡ snapshot) × (old.files.last ≡ last) × (old.draft ≡ None)
    → found' ≡ found → found.snapshot ≡ snapshot → found.journal ≡ last → KeepsOthers (IsOld snapshot last) (state d) (state mid) → (now told : State)
    → MatchBool is_due (IsFolded old after × HasRowThen (state mid) (state new) old.files.last after.files.last now) ((after ≡ old) × (new ≡ mid)) → told ≡ now
    → Removes (state d) (state new) found' after.files told
removes_found state d mid new true old after found found' snapshot last in_order there rotates same at behind keeps now told folds alike = inr (
  folded_behind old after found found' snapshot last in_order rotates.0 rotates.1 same at behind folds.0,
  subst (HasWholeRow (state new) after.files.last) (sym alike) (folds.1 (last_stays (state d) (state mid) snapshot last old.files.last in_order rotates.1 keeps there)),
)
removes_found state d mid new false old after found found' snapshot last in_order there rotates same at behind keeps now told folds alike =
    inl (subst (λ (f : Found). KeepsOthers (IsOld f.snapshot f.journal) (state d) (state new)) (sym same)
    (subst (λ (x : _). KeepsOthers (IsOld found.snapshot found.journal) (state d) (state x)) (sym folds.1)
    (subst (λ (n : ℕ). KeepsOthers (IsOld n found.journal) (state d) (state mid)) (sym at)
    (subst (λ (n : ℕ). KeepsOthers (IsOld snapshot n) (state d) (state mid)) (sym behind) keeps))))

pub removes_or_new : {X : Type 0} (state : X → DirectoryState) (old new after : X) (standing : Option Row) (row : Row) (is_new : Bool) (found : Found) (files : KeptFiles) (now : State)
    → IfSome standing (λ f. (row ≡ f) × (new ≡ old)) → is_some standing ≡ not is_new → Removes (state new) (state after) found files now → is_new ≡ false
    → Removes (state old) (state after) found files now
removes_or_new state old new after None row true found files now same tells removes is = absurd (true≢false is)
removes_or_new state old new after None row false found files now same tells removes is = absurd (true≢false (sym tells))
removes_or_new state old new after (Some f) row is_new found files now same tells removes is = subst (λ (x : _). Removes (state x) (state after) found files now) same.1 removes
