-- Lemmas on bytes that move from a reader to a writer, piece by piece.
use Rattle.std.proofs.Common.{ℕ, List, [], ◌++◌, Option}
use Rattle.std.specs.Io.KnownBytes.{Consumes, Appends}
use Rattle.std.proofs.KnownBytes.{Consumes-nil, Appends-nil, Consumes-trans, Appends-trans}
use Rattle.broker_tests.specs.Copies.{Moves}

pub nothing_moved : (a b : Option (List ℕ)) → Moves a a b b
nothing_moved a b = record { bytes = []; consumes = Consumes-nil a; appends = Appends-nil b }

pub one_moved : (a b u v : Option (List ℕ)) (piece : List ℕ) → Consumes a b piece → Appends u v piece → Moves a b u v
one_moved a b u v piece read written = record { bytes = piece; consumes = read; appends = written }

pub moved_more : (a b c u v w : Option (List ℕ)) → Moves a b u v → Moves b c v w → Moves a c u w
moved_more a b c u v w p q = record {
  bytes = p.bytes ++ q.bytes;
  consumes = Consumes-trans a b c p.bytes q.bytes p.consumes q.consumes;
  appends = Appends-trans u v w p.bytes q.bytes p.appends q.appends;
}
