-- What crates above this one name of those below it, so that these needn't be listed beside it.
pub use Rattle.copy_merge.proofs.Deciding.{decided, none_covered, covered_none}
pub use Rattle.side_by_side.proofs.KeptRange.{kept_in_range}
