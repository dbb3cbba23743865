-- What is known of the two ends of a subcommand, a source and a sink.
use Rattle.std.specs.Prelude.{◌≡◌, false}
use Rattle.streams.specs.State.{SourceState, SinkState}

-- no read or write has failed
abbrev pub HasFailedNone : SourceState → SinkState → Type 0
HasFailedNone source sink = (source.failed ≡ false) × (sink.failed ≡ false)

-- nothing was read, and nothing printed
abbrev pub IsUntouched : (source source' : SourceState) (sink sink' : SinkState) → Type 0
IsUntouched source source' sink sink' = (source' ≡ source) × (sink' ≡ sink)
