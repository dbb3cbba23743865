use Rattle.std.proofs.Common.{rules}
use Rattle.subcommands.proofs.Sized.{starts_sized}
use Rattle.subcommands.proofs.image_pairs.split_sized.Goals as goal

pub returns-then-size-gt-MAX_SIZE : goal.returns-then-size-gt-MAX_SIZE
returns-then-size-gt-MAX_SIZE c = search (rules, starts_sized)
