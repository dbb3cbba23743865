use Rattle.std.proofs.Common.{rules, ◌≡◌, codes, Some}
use Rattle.clap.specs.Words.{found_of, rows_of, subcommand_name_of}
use Rattle.tcp_edge.specs.Asked.{IsStarter}
use Rattle.tcp_edge.proofs.Arguments.{with_rows}
use Rattle.tcp_edge.proofs.asked.asked_by.Goals as goal

pub returns-in-Some-subcommand_matches-2-clause-asked : goal.returns-in-Some-subcommand_matches-2-clause-asked
returns-in-Some-subcommand_matches-2-clause-asked c = λ name rows there.
    let named : subcommand_name_of c.args.matches.now ≡ Some (codes "start") = search rules in
    with_rows c.args.matches.now (codes "start") name (rows_of (found_of c.in-Some-subcommand_matches-2.inner.now)) rows
    (λ found. IsStarter found c.in_ok-start_options_of-in-Some-subcommand_matches-2.field-0) named c.in-Some-subcommand_matches-2.ensures.rows
    c.in_ok-start_options_of-in-Some-subcommand_matches-2.ensures.options there
