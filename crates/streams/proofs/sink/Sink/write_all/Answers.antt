use Rattle.std.proofs.Common.{rules}
use Rattle.streams.proofs.Pieces.{nothing_taken}
use Rattle.streams.proofs.Pieces.{piece_taken}
use Rattle.streams.proofs.Pieces.{all_taken}
use Rattle.streams.proofs.Pieces.{rest_lost}
use Rattle.streams.proofs.sink.Sink.write_all.Goals as goal

pub loop-rest-preserved : goal.loop-rest-preserved
loop-rest-preserved c = search (rules, nothing_taken, piece_taken, all_taken, rest_lost)
