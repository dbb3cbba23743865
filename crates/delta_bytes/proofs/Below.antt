-- What crates above this one name of those below it, so that these needn't be listed beside it.
pub use Rattle.copy_images.proofs.Below.{below_end, end_within}
