use Rattle.cleaner.specs.Later.{outdated_of}
use Rattle.cleaner.proofs.KnownParts.{none_swept}
use Rattle.cleaner.proofs.older.older_in.Goals as goal

pub returns-then-has_none_older : goal.returns-then-has_none_older
returns-then-has_none_older g c =
    none_swept c.requires.knows.0 (g.S.BatchStore.batches c.args.batches.now) c.args.part.now c.args.first c.args.upto c.args.bound (outdated_of c.args.later.now) c.new.result c.requires.knows.1 c.requires.knows.2
    (c.has_none_older.ensures.knows c.if-has_none_older.true c.requires.knows.0 c.requires.knows.1 c.requires.knows.3) c.requires.before c.requires.behind c.requires.least c.new.ensures.empty
