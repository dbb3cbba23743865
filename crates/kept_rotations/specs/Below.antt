-- What crates above this one name of those below it, so that these needn't be listed beside it.
pub use Rattle.kept_sessions.specs.Keeping.{IsKept, KeptState}
pub use Rattle.kept_sessions.specs.NotingLaws.{replays_then}
pub use Rattle.kept_sessions.specs.Recovering.{HasRecovered}
pub use Rattle.kept_sessions.specs.Replaying.{Replays}
