use Rattle.std.proofs.Common.{arith}
use Rattle.varint.proofs.Encodings.{IsBytes}
use Rattle.varint.proofs.Readers.{is_within, is_found32, is_again32, refusals32}
use Rattle.varint.proofs.reading.read_i32.Goals as goal

pub returns : goal.returns
returns c =
    let given = c.number_i32.ensures in
    let fits : IsBytes c.args.bytes.now = λ i. omega (arith, c.type_inv.bytes i) in
    let refused = refusals32 c.args.bytes.now c.number_i32.result given in
    record {
      reads_varint = given;
      finds_number = is_found32 c.args.bytes.now c.number_i32.result fits given;
      used_are_there = is_within c.args.bytes.now c.number_i32.result _ given;
      accepts_every_encoding = is_again32 c.args.bytes.now c.number_i32.result given;
      short = refused.0;
      too_long = refused.1;
      not_shortest = refused.2;
    }
