-- What a session came to, by the status that is answered: 0 done, 1 the input is refused, 2 the configuration is refused,
-- 3 out of memory, 4 a read or a write failed.
use Rattle.std.specs.Prelude.{◌≡◌, ◌≢◌, ◌⊎◌, ℕ}
use Rattle.streams.specs.State.{SourceState, SinkState}
use Rattle.broker_state.specs.Configs.{IsValidConfig}
use Rattle.broker_state.specs.State.{ConfigValue, State, new_state}
use Rattle.subcommands.specs.declared.error.SessionFault.{SessionFault}
use Rattle.subcommands.specs.Answering.{AnswersFrom, RefusesFrom, FailsAs}
use Rattle.subcommands.specs.Ends.{HasFailedNone, IsUntouched}
use Rattle.subcommands.specs.Status.{session_status}

-- why a session of a new broker is no success, in the state that it left
abbrev pub FailsSession : ConfigValue → (source source' : SourceState) (sink sink' : SinkState) → SessionFault → Type 0
FailsSession g source source' sink sink' why =
    (after : State) × FailsAs (new_state g) source source' sink sink' after why

-- A session of a new broker was asked for. Where there was no memory for the broker, nothing was read.
pub record RunsSession (g : ConfigValue) (source source' : SourceState) (sink sink' : SinkState) (status : ℕ) : Type 0 where
  pub answers : status ≡ 0
      → (after : State) × AnswersFrom (new_state g) source.left source'.left sink.taken sink'.taken after
  pub fails_nothing : status ≡ 0 → HasFailedNone source' sink'
  pub refuses : status ≡ 1
      → (after : State) × RefusesFrom (new_state g) source.left source'.left sink.taken sink'.taken after
  pub is_valid : status ≢ 2 → IsValidConfig g
  pub is_faulty : status ≡ 2 → (¬ IsValidConfig g) × IsUntouched source source' sink sink'
  pub fails : status ≢ 0 → status ≢ 2 → ((status ≡ 3) × IsUntouched source source' sink sink')
      ⊎ ((why : SessionFault) × (session_status why ≡ status) × FailsSession g source source' sink sink' why)
