-- What crates above this one name of those below it, so that these needn't be listed beside it.
pub use Rattle.copy_merge.specs.Agreeing.{agree, has_any}
pub use Rattle.copy_merge.specs.Merges.{IsFirstDisagreement, RefusesMerge}
