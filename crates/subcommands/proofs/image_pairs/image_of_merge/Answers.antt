use Rattle.std.proofs.Common.{subst, sym}
use Rattle.subcommands.specs.Merging.{RefusesCopies}
use Rattle.subcommands.proofs.Pairs.{copies_refused}
use Rattle.subcommands.proofs.image_pairs.image_of_merge.Goals as goal

pub returns-in-Err : goal.returns-in-Err
returns-in-Err g c = record {
  merges = tt;
  agrees = tt;
  refuses = subst (RefusesCopies c.args.first c.args.second.now) (sym c.fault_of.ensures) (copies_refused c.args.first c.args.second.now c.in-Err.why c.in-Err.ensures.refuses);
}
