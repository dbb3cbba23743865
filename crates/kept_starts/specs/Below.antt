-- What crates above this one name of those below it, so that these needn't be listed beside it.
pub use Rattle.data_directory.specs.Directories.{unknown}
pub use Rattle.kept_rotations.specs.Steps.{IsTheOne}
