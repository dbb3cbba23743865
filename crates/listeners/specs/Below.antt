-- What crates above this one name of those below it, so that these needn't be listed beside it.
pub use Rattle.subcommands.specs.Ends.{IsUntouched}
pub use Rattle.subcommands.specs.Merges.{PrintsMerge}
pub use Rattle.subcommands.specs.Runs.{RunsMerge, RunsTable}
pub use Rattle.subcommands.specs.SessionRuns.{RunsSession}
pub use Rattle.subcommands.specs.Tables.{PrintsTable}
