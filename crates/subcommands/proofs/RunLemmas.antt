-- What a subcommand did, by its status.
use Rattle.std.proofs.Common.{◌≡◌, ℕ, inl, inr, refl, sym, subst, ◌∙◌, ◌≤◌, arith}
use Rattle.std.specs.Prelude.{◌≢◌}
use Rattle.streams.specs.State.{SourceState, SinkState}
use Rattle.broker_state.specs.Configs.{IsValidConfig}
use Rattle.broker_state.specs.State.{ConfigValue, State, new_state}
use Rattle.subcommands.specs.declared.error.SessionFault.{SessionFault}
use Rattle.subcommands.specs.declared.error.TableError.{TableError}
use Rattle.subcommands.specs.declared.error.TableError.TheVariants as table
use Rattle.subcommands.specs.declared.error.ImagesError.{ImagesError}
use Rattle.subcommands.specs.declared.error.ImagesError.TheVariants as images
use Rattle.subcommands.specs.Answering.{AnswersFrom, RefusesFrom, FailsAs}
use Rattle.subcommands.specs.Tables.{PrintsTable}
use Rattle.subcommands.specs.Refused.{FailsTable}
use Rattle.subcommands.specs.Merges.{PrintsMerge, FailsMerge}
use Rattle.subcommands.specs.Ends.{HasFailedNone}
use Rattle.subcommands.specs.Runs.{RunsTable, RunsMerge}
use Rattle.subcommands.specs.SessionRuns.{RunsSession}
use Rattle.subcommands.specs.Status.{table_status, images_status, session_status}
use Rattle.subcommands.proofs.Statuses.{failed_status}

-- ---- the table

pub table_done : (source source' : SourceState) (sink sink' : SinkState) (n : ℕ) → n ≡ 0 → PrintsTable source.left source'.left sink.taken sink'.taken → HasFailedNone source' sink' → RunsTable source source' sink sink' n
table_done source source' sink sink' n is prints none = record {
  is_no_fault = λ two. absurd (omega (arith, is, two));
  prints_table = λ _. prints;
  fails_nothing = λ _. none;
  has_first_refused = λ one. absurd (omega (arith, is, one));
  out_of_memory = λ three. absurd (omega (arith, is, three));
  fails = λ four. absurd (omega (arith, is, four));
}

pub table_failed : (source source' : SourceState) (sink sink' : SinkState) (e : TableError) (n : ℕ) → FailsTable source source' sink sink' e → n ≡ table_status e → RunsTable source source' sink sink' n
table_failed source source' sink sink' (table.Batch index why) n fails is = record {
  is_no_fault = λ two. absurd (omega (arith, is, two));
  prints_table = λ zero. absurd (omega (arith, is, zero));
  fails_nothing = λ zero. absurd (omega (arith, is, zero));
  has_first_refused = λ _. (index, why, fails);
  out_of_memory = λ three. absurd (omega (arith, is, three));
  fails = λ four. absurd (omega (arith, is, four));
}
table_failed source source' sink sink' table.Read n fails is = record {
  is_no_fault = λ two. absurd (omega (arith, is, two));
  prints_table = λ zero. absurd (omega (arith, is, zero));
  fails_nothing = λ zero. absurd (omega (arith, is, zero));
  has_first_refused = λ one. absurd (omega (arith, is, one));
  out_of_memory = λ three. absurd (omega (arith, is, three));
  fails = λ _. inl fails;
}
table_failed source source' sink sink' table.Write n fails is = record {
  is_no_fault = λ two. absurd (omega (arith, is, two));
  prints_table = λ zero. absurd (omega (arith, is, zero));
  fails_nothing = λ zero. absurd (omega (arith, is, zero));
  has_first_refused = λ one. absurd (omega (arith, is, one));
  out_of_memory = λ three. absurd (omega (arith, is, three));
  fails = λ _. inr fails;
}
table_failed source source' sink sink' table.OutOfMemory n fails is = record {
  is_no_fault = λ two. absurd (omega (arith, is, two));
  prints_table = λ zero. absurd (omega (arith, is, zero));
  fails_nothing = λ zero. absurd (omega (arith, is, zero));
  has_first_refused = λ one. absurd (omega (arith, is, one));
  out_of_memory = λ _. inr fails;
  fails = λ four. absurd (omega (arith, is, four));
}

-- there was no memory to look at the arguments
pub table_out_of_memory : (source : SourceState) (sink sink' : SinkState) (n : ℕ) → n ≡ 3 → sink' ≡ sink → RunsTable source source sink sink' n
table_out_of_memory source sink sink' n is same = record {
  is_no_fault = λ two. absurd (omega (arith, is, two));
  prints_table = λ zero. absurd (omega (arith, is, zero));
  fails_nothing = λ zero. absurd (omega (arith, is, zero));
  has_first_refused = λ one. absurd (omega (arith, is, one));
  out_of_memory = λ _. inl (refl, same);
  fails = λ four. absurd (omega (arith, is, four));
}

-- ---- a merge

pub merge_done : (source source' : SourceState) (sink sink' : SinkState) (n : ℕ) → n ≡ 0 → PrintsMerge source.left source'.left sink.taken sink'.taken → HasFailedNone source' sink' → RunsMerge source source' sink sink' n
merge_done source source' sink sink' n is prints none = record {
  is_no_fault = λ two. absurd (omega (arith, is, two));
  prints_the_merge = λ _. prints;
  fails_nothing = λ _. none;
  has_a_first_fault = λ one. absurd (omega (arith, is, one));
  out_of_memory = λ three. absurd (omega (arith, is, three));
  fails = λ four. absurd (omega (arith, is, four));
}

pub merge_failed : (source source' : SourceState) (sink sink' : SinkState) (e : ImagesError) (n : ℕ) → FailsMerge source source' sink sink' e → n ≡ images_status e → RunsMerge source source' sink sink' n
merge_failed source source' sink sink' (images.Images why) n fails is = record {
  is_no_fault = λ two. absurd (omega (arith, is, two));
  prints_the_merge = λ zero. absurd (omega (arith, is, zero));
  fails_nothing = λ zero. absurd (omega (arith, is, zero));
  has_a_first_fault = λ _. (why, fails);
  out_of_memory = λ three. absurd (omega (arith, is, three));
  fails = λ four. absurd (omega (arith, is, four));
}
merge_failed source source' sink sink' images.Read n fails is = record {
  is_no_fault = λ two. absurd (omega (arith, is, two));
  prints_the_merge = λ zero. absurd (omega (arith, is, zero));
  fails_nothing = λ zero. absurd (omega (arith, is, zero));
  has_a_first_fault = λ one. absurd (omega (arith, is, one));
  out_of_memory = λ three. absurd (omega (arith, is, three));
  fails = λ _. inl fails;
}
merge_failed source source' sink sink' images.Write n fails is = record {
  is_no_fault = λ two. absurd (omega (arith, is, two));
  prints_the_merge = λ zero. absurd (omega (arith, is, zero));
  fails_nothing = λ zero. absurd (omega (arith, is, zero));
  has_a_first_fault = λ one. absurd (omega (arith, is, one));
  out_of_memory = λ three. absurd (omega (arith, is, three));
  fails = λ _. inr fails;
}
merge_failed source source' sink sink' images.OutOfMemory n fails is = record {
  is_no_fault = λ two. absurd (omega (arith, is, two));
  prints_the_merge = λ zero. absurd (omega (arith, is, zero));
  fails_nothing = λ zero. absurd (omega (arith, is, zero));
  has_a_first_fault = λ one. absurd (omega (arith, is, one));
  out_of_memory = λ _. inr fails;
  fails = λ four. absurd (omega (arith, is, four));
}

-- there was no memory to look at the arguments
pub merge_out_of_memory : (source : SourceState) (sink sink' : SinkState) (n : ℕ) → n ≡ 3 → sink' ≡ sink → RunsMerge source source sink sink' n
merge_out_of_memory source sink sink' n is same = record {
  is_no_fault = λ two. absurd (omega (arith, is, two));
  prints_the_merge = λ zero. absurd (omega (arith, is, zero));
  fails_nothing = λ zero. absurd (omega (arith, is, zero));
  has_a_first_fault = λ one. absurd (omega (arith, is, one));
  out_of_memory = λ _. inl (refl, same);
  fails = λ four. absurd (omega (arith, is, four));
}

-- ---- a session

pub session_done : (g : ConfigValue) (s after : State) (source source' : SourceState) (sink sink' : SinkState) (n : ℕ) → IsValidConfig g → s ≡ new_state g → n ≡ 0
    → AnswersFrom s source.left source'.left sink.taken sink'.taken after → HasFailedNone source' sink' → RunsSession g source source' sink sink' n
session_done g s after source source' sink sink' n valid new is answers none = record {
  answers = λ _. (after, subst (λ (k : State). AnswersFrom k source.left source'.left sink.taken sink'.taken after) new answers);
  fails_nothing = λ _. none;
  refuses = λ one. absurd (omega (arith, is, one));
  is_valid = λ _. valid;
  is_faulty = λ two. absurd (omega (arith, is, two));
  fails = λ some _. absurd (some is);
}

pub session_failed : (g : ConfigValue) (s after : State) (source source' : SourceState) (sink sink' : SinkState) (why : SessionFault) (n : ℕ) → IsValidConfig g → s ≡ new_state g → n ≡ session_status why
    → (session_status why ≡ 1 → RefusesFrom s source.left source'.left sink.taken sink'.taken after) → FailsAs s source source' sink sink' after why → RunsSession g source source' sink sink' n
session_failed g s after source source' sink sink' why n valid new is refuses fails = record {
  answers = λ zero. absurd ((failed_status why n is).1 zero);
  fails_nothing = λ zero. absurd ((failed_status why n is).1 zero);
  refuses = λ one. (after, subst (λ (k : State). RefusesFrom k source.left source'.left sink.taken sink'.taken after) new (refuses (sym is ∙ one)));
  is_valid = λ _. valid;
  is_faulty = λ two. absurd ((failed_status why n is).2 two);
  fails = λ _ _. inr (why, sym is, (after, subst (λ (k : State). FailsAs k source source' sink sink' after why) new fails));
}

-- there is no broker of the configuration
pub session_refused : (g : ConfigValue) (source : SourceState) (sink : SinkState) (n : ℕ) → (2 ≤ n) × (n ≤ 3) → (IsValidConfig g → n ≢ 2) → (n ≢ 2 → IsValidConfig g) → RunsSession g source source sink sink n
session_refused g source sink n is valid other_valid = record {
  answers = λ zero. absurd (omega (arith, is.0, zero));
  fails_nothing = λ zero. absurd (omega (arith, is.0, zero));
  refuses = λ one. absurd (omega (arith, is.0, one));
  is_valid = other_valid;
  is_faulty = λ two. (λ ok. valid ok two, (refl, refl));
  fails = λ _ other. inl (omega (arith, is.0, is.1, other), (refl, refl));
}
