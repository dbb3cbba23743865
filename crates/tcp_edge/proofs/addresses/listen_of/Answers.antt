use Rattle.std.proofs.Common.{◌∙◌, codes, subst}
use Rattle.std.specs.Prelude.{MatchOption, Option}
use Rattle.std.specs.Net.Grammar.{IsSocketText, Parses}
use Rattle.std.specs.declared.net.socket_addr.SocketAddr.{SocketAddr}
use Rattle.clap.specs.Words.{found_of, rows_of, one_of}
use Rattle.clap.proofs.WalkLemmas.{one_text-rows}
use Rattle.tcp_edge.specs.Addresses.{IsAddressOf}
use Rattle.tcp_edge.proofs.Arguments.{address_read}
use Rattle.tcp_edge.proofs.addresses.listen_of.Goals as goal

pub returns-in-Some-clause-listen : goal.returns-in-Some-clause-listen
returns-in-Some-clause-listen c =
    let given = one_of (codes "listen") (rows_of (found_of c.args.matches.now)) in
    let rows = one_text-rows (found_of c.args.matches.now) (codes "listen") in
    subst (λ (r : Option SocketAddr). MatchOption r ((a : SocketAddr) → ¬ IsAddressOf given a) (IsAddressOf given)) c.in-Some.is
    (address_read _ (Parses IsSocketText) given c.get_one.result (λ word x g. g) (λ is. c.get_one.ensures.none (rows ∙ is))
    (λ word is. c.get_one.ensures.value word (rows ∙ is)))

pub returns-in-None-clause-fault : goal.returns-in-None-clause-fault
returns-in-None-clause-fault c =
    let given = one_of (codes "listen") (rows_of (found_of c.args.matches.now)) in
    let rows = one_text-rows (found_of c.args.matches.now) (codes "listen") in
    subst (λ (r : Option SocketAddr). MatchOption r ((a : SocketAddr) → ¬ IsAddressOf given a) (IsAddressOf given)) c.in-None.is
    (address_read _ (Parses IsSocketText) given c.get_one.result (λ word x g. g) (λ is. c.get_one.ensures.none (rows ∙ is))
    (λ word is. c.get_one.ensures.value word (rows ∙ is)))
