use Rattle.varint.proofs.Encodings.{encoding_shortest, encoding_only, encoding_apart}
use Rattle.varint.proofs.laws.one_encoding.Goals as goal

pub returns : goal.returns
returns c = record { is_shortest = encoding_shortest; has_no_other = encoding_only; begins_no_other = encoding_apart }
