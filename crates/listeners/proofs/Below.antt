-- What crates above this one name of those below it, so that these needn't be listed beside it.
pub use Rattle.subcommands.proofs.RunLemmas.{table_out_of_memory, merge_out_of_memory}
