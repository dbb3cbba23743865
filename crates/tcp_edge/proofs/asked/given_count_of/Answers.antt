use Rattle.std.proofs.Common.{◌∙◌}
use Rattle.clap.specs.Words.{found_of}
use Rattle.clap.proofs.WalkLemmas.{one_text-rows}
use Rattle.std.specs.Str.Parse.{ParsesUnsigned, ExplainsUnsignedError, HasUnsignedDigitsIfOk}
use Rattle.tcp_edge.proofs.Arguments.{given_number_read}
use Rattle.tcp_edge.proofs.asked.given_count_of.Goals as goal

pub returns : goal.returns
returns c =
    let rows = one_text-rows (found_of c.args.matches.now) c.args.name.now in
    given_number_read _ (λ bs r. ParsesUnsigned 32 10 bs r × ExplainsUnsignedError 10 bs r × HasUnsignedDigitsIfOk bs r) 32 _ c.get_one.result
    (λ word x g. g.0) (λ is. c.get_one.ensures.none (rows ∙ is)) (λ word is. c.get_one.ensures.value word (rows ∙ is))
