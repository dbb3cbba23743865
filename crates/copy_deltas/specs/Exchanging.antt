-- One copy asks another, and takes its answer later.
use Rattle.std.specs.Prelude.{◌≤◌, List, ◌++◌, length}
use Rattle.batch_codec.specs.Values.{BatchValue}
use Rattle.cover_ranges.specs.Runs.{Runs, IsCanonical}
use Rattle.content.specs.Content.{Content}
use Rattle.content.specs.Logs.{IsPlainLog}
use Rattle.copy_images.specs.declared.layout.TheConstants.{MAX_COUNT}
use Rattle.deltas.specs.Accepting.{IsFor}
use Rattle.deltas.specs.Exchanges.{IsContentOf, Event, MayAllHappen}

-- what the sender has seen, what was asked and the sender's batches can be counted in a delta
pub record CanBeCounted (sender : Content) (asked : Runs) : Type 0 where
  pub ranges : length sender.cover ≤ MAX_COUNT
  pub asked_ranges : length asked ≤ MAX_COUNT
  pub batches : length sender.kept ≤ MAX_COUNT

-- Two copies of a log: the receiver knows what it asks for, and the sender's delta can be counted. Until the receiver
-- takes it, the log has grown, and these events have happened to the receiver.
pub record IsAnswered (log more : List BatchValue) (sender receiver : Content) (asked : Runs) (events : List Event) : Type 0 where
  pub plain : IsPlainLog (log ++ more)
  pub sender_of : IsContentOf log sender
  pub receiver_of : IsContentOf log receiver
  pub canonical : IsCanonical asked
  pub known : IsFor receiver asked
  pub counted : CanBeCounted sender asked
  pub happened : MayAllHappen (log ++ more) receiver events
