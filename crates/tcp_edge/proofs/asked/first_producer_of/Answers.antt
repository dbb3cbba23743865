use Rattle.std.proofs.Common.{◌∙◌, subst, sym, codes, rules, FitsSigned}
use Rattle.std.specs.Int.{w64}
use Rattle.std.proofs.lemmas.Int.{to_z-of_z}
use Rattle.clap.specs.Words.{found_of, rows_of, one_of}
use Rattle.clap.proofs.WalkLemmas.{one_text-rows}
use Rattle.std.specs.Str.Parse.{ParsesSigned, ExplainsSignedError, HasSignedDigitsIfOk}
use Rattle.tcp_edge.specs.CommandLine.{IsSignedOf}
use Rattle.tcp_edge.proofs.Arguments.{signed_read}
use Rattle.tcp_edge.proofs.asked.first_producer_of.Goals as goal

pub returns : goal.returns
returns c =
    let given = one_of (codes "first-producer") (rows_of (found_of c.args.matches.now)) in
    let rows = one_text-rows (found_of c.args.matches.now) (codes "first-producer") in
    let fits : FitsSigned w64 c.unwrap_or.result = search rules in
    subst (IsSignedOf given) (sym (to_z-of_z w64 c.unwrap_or.result fits ∙ c.unwrap_or.ensures))
    (signed_read _ (λ bs r. ParsesSigned w64 10 bs r × ExplainsSignedError 10 bs r × HasSignedDigitsIfOk bs r) _ c.get_one.result
    (λ word x g. g.0) (λ is. c.get_one.ensures.none (rows ∙ is)) (λ word is. c.get_one.ensures.value word (rows ∙ is)))
