-- What the checks of a Trim find, and what becomes of the copy.
use Rattle.std.proofs.Common.{◌≡◌, ◌≢◌, ◌⊎◌, inl, inr, ℤ, Bool, true, false, ◌||◌, not, [], ◌∷◌, ◌++◌, Some, None, Option, Ok, Err, refl, sym, ap, subst, ◌∙◌, true≢false, arith}
use Rattle.std.specs.Prelude.{◌≤ℤ◌, int_lt, is_some}
use Rattle.std.specs.Ordering.{int_eq}
use Rattle.std.proofs.lemmas.Int.{ints}
use Rattle.batch_codec.specs.Offsets.{first_offset}
use Rattle.content.specs.ByOffset.{look_up}
use Rattle.content.specs.Content.{Content, IsAcceptedStart, cut, end}
use Rattle.partition_log.specs.Trims.{RefusesTrim}
use Rattle.partition_log.specs.declared.trim.TrimError.{TrimError}
use Rattle.partition_log.specs.declared.trim.TrimError.TheVariants.{BelowStart, PastEnd, NotABase, OutOfMemory}
use Rattle.answering.specs.declared.codes.ErrorCode.{ErrorCode}
use Rattle.answering.specs.declared.codes.ErrorCode.TheVariants.{OffsetOutOfRange, InvalidRequest}
use Rattle.answering.specs.declared.memory.Refused.TheVariants as refused
use Rattle.answering.specs.Lists.{first_some, fault_if}
use Rattle.answering.specs.Doing.{DoesTold}
use Rattle.answering.proofs.Checks.{not_true, none_behind, one_passes}
use Rattle.request_frames.specs.Trim.{TrimValue}
use Rattle.broker_state.specs.State.{State, content_at, with_content, is_known}
use Rattle.broker_state.specs.Checks.{unknown}
use Rattle.broker_state.specs.Changes.{ChangesAt}
use Rattle.broker_state.proofs.OwnContent.{unchanged_at}
use Rattle.copy_requests.specs.Codes.{trim_code}
use Rattle.copy_requests.specs.Outcomes.{Trims}
use Rattle.copy_requests.specs.Trim.{is_outside, is_boundary, trim_faults, trimmed_answer, trim_work}
use Rattle.copy_requests.proofs.Entries.{known_passes}

-- ---- the tests

within : (s e o : ℤ) → s ≤ℤ o → o ≤ℤ e → (int_lt o s || int_lt e o) ≡ false
within s e o from to = grind (arith, ints, from, to)

within_back : (s e o : ℤ) → (int_lt o s || int_lt e o) ≡ false → (s ≤ℤ o) × (o ≤ℤ e)
within_back s e o test = (grind (arith, ints, test), grind (arith, ints, test))

-- one of four tests holds
some_of : (s e o : ℤ) (kept run : Bool) → (o ≡ s) ⊎ ((o ≡ e) ⊎ ((kept ≡ true) ⊎ (run ≡ true))) → (int_eq o s || (int_eq o e || (kept || run))) ≡ true
some_of s e o kept run (inl same) = grind (arith, ints, same)
some_of s e o kept run (inr (inl same)) = grind (arith, ints, same)
some_of s e o kept run (inr (inr (inl there))) = grind (arith, ints, there)
some_of s e o kept run (inr (inr (inr there))) = grind (arith, ints, there)

which_of : (s e o : ℤ) (kept run : Bool) → (int_eq o s || (int_eq o e || (kept || run))) ≡ true → (o ≡ s) ⊎ ((o ≡ e) ⊎ ((kept ≡ true) ⊎ (run ≡ true)))
which_of s e o kept run test = by (int_eq o s) (int_eq o e) kept run refl refl refl refl test
  where
    by : (a b k r : Bool) → int_eq o s ≡ a → int_eq o e ≡ b → kept ≡ k → run ≡ r → (a || (b || (k || r))) ≡ true → (o ≡ s) ⊎ ((o ≡ e) ⊎ ((kept ≡ true) ⊎ (run ≡ true)))
    by true b k r p q f g test = let same : o ≡ s = grind (arith, ints, p) in inl same
    by false true k r p q f g test = let same : o ≡ e = grind (arith, ints, q) in inr (inl same)
    by false false true r p q f g test = inr (inr (inl f))
    by false false false true p q f g test = inr (inr (inr g))
    by false false false false p q f g test = absurd (true≢false (sym test))

-- ---- the faults

abbrev faults : Bool → Bool → Option ErrorCode
faults outside boundary = first_some (fault_if outside OffsetOutOfRange ∷ fault_if (not boundary) InvalidRequest ∷ [])

no_fault : (outside boundary : Bool) → outside ≡ false → boundary ≡ true → faults outside boundary ≡ None
no_fault false true p q = refl
no_fault true b p q = absurd (true≢false p)
no_fault false false p q = absurd (true≢false (sym q))

no_fault_back : (outside boundary : Bool) → faults outside boundary ≡ None → (outside ≡ false) × (boundary ≡ true)
no_fault_back false true e = (refl, refl)
no_fault_back true b e = absurd cc
no_fault_back false false e = absurd cc

module _ (c : Content) (start : ℤ) where
  pub accepted_passes : IsAcceptedStart c start → first_some (trim_faults c start) ≡ None
  accepted_passes is = no_fault (is_outside c start) (is_boundary c start) (within c.start (end c) start is.from_start is.to_end)
      (some_of c.start (end c) start (is_some (look_up first_offset start c.kept)) (is_some (look_up (λ run. run.0) start c.cover)) is.at_boundary)

  pub passes_accepted : first_some (trim_faults c start) ≡ None → IsAcceptedStart c start
  passes_accepted e =
      let tests = no_fault_back (is_outside c start) (is_boundary c start) e in
      let bounds = within_back c.start (end c) start tests.0 in
      record {
        from_start = bounds.0;
        to_end = bounds.1;
        at_boundary = which_of c.start (end c) start (is_some (look_up first_offset start c.kept)) (is_some (look_up (λ run. run.0) start c.cover)) tests.1;
      }

  outside : is_outside c start ≡ true → first_some (trim_faults c start) ≡ Some OffsetOutOfRange
  outside e = ap (λ (t : Bool). faults t (is_boundary c start)) e

  pub refused_fails : (e : TrimError) → e ≢ OutOfMemory → RefusesTrim c start e → first_some (trim_faults c start) ≡ Some (trim_code e)
  refused_fails BelowStart other below = outside (grind (arith, ints, below))
  refused_fails PastEnd other (from, past) = outside (grind (arith, ints, past))
  refused_fails NotABase other (from, to, not_accepted) =
      (λ i. faults (inside i) (no_boundary i))
    where
      inside : is_outside c start ≡ false
      inside = within c.start (end c) start from to

      no_boundary : is_boundary c start ≡ false
      no_boundary = not_true (is_boundary c start) (λ e. not_accepted (passes_accepted (no_fault (is_outside c start) (is_boundary c start) inside e)))
  refused_fails OutOfMemory other refused = absurd (other refl)

-- ---- the copy

-- what a trim comes to, its start passed by value
pub trims : (c after : Content) (start passed : ℤ) → passed ≡ start → after ≡ cut passed c → IsAcceptedStart c passed → Trims start (Ok tt) c after
trims c after start passed same cuts accepted =
    (accepted_passes c start (subst (IsAcceptedStart c) same accepted), cuts ∙ ap (λ (o : ℤ). cut o c) same)

pub does_not_trim : (c after : Content) (start passed : ℤ) (e : TrimError) (code : ErrorCode) → passed ≡ start → (e ≡ OutOfMemory → ⊥) → RefusesTrim c passed e → after ≡ c → code ≡ trim_code e
    → Trims start (Err code) c after
does_not_trim c after start passed e code same other refused stays is =
    (refused_fails c start e other (subst (λ (o : ℤ). RefusesTrim c o e) same refused) ∙ ap Some (sym is), stays)

-- ---- the request

-- of a known partition the first fault is the start's
faults_are : (s : State) (q : TrimValue) → is_known s q.topic q.partition ≡ true → first_some ((trim_work s q).early ++ []) ≡ first_some (trim_faults (content_at s q.topic q.partition) q.start)
faults_are s q known =
    none_behind (trim_work s q).early ∙ one_passes (unknown s q.topic q.partition) (trim_faults (content_at s q.topic q.partition) q.start) (known_passes s q.topic q.partition known)

pub trim_done : (s after : State) (q : TrimValue) → is_known s q.topic q.partition ≡ true → ChangesAt (Trims q.start (Ok tt)) s q.topic q.partition after → DoesTold (trim_work s q) trimmed_answer (Ok tt) s after
trim_done s after q known (there, (none, cuts), changed) = (
  faults_are s q known ∙ none,
  (λ i. (trimmed_answer tt, (changed ∙ ap (with_content s q.topic q.partition) cuts) i)),
)

pub trim_refused : (s after : State) (q : TrimValue) (code : ErrorCode) → is_known s q.topic q.partition ≡ true → ChangesAt (Trims q.start (Err code)) s q.topic q.partition after
    → DoesTold (trim_work s q) trimmed_answer (Err (refused.Check code)) s after
trim_refused s after q code known (there, (fails, same), changed) =
    (faults_are s q known ∙ fails, unchanged_at s after q.topic q.partition there same changed)
