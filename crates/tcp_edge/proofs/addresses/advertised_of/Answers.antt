use Rattle.std.proofs.Common.{◌≡◌, ◌∙◌, ap, codes, subst, sym}
use Rattle.std.specs.Prelude.{Option, Some, None, IfOk, option_map}
use Rattle.std.specs.Borrow.{Bor}
use Rattle.std.specs.String.{string_bytes}
use Rattle.std.proofs.lemmas.Result.{IfErr-weaker}
use Rattle.clap.specs.Words.{Text, first_of, found_of, rows_of}
use Rattle.tcp_edge.specs.Addresses.{AdvertisesBy}
use Rattle.tcp_edge.proofs.Arguments.{first_row}
use Rattle.tcp_edge.proofs.Hosts.{fault_said, fault_unsaid}
use Rattle.tcp_edge.proofs.addresses.advertised_of.Goals as goal

pub returns-in-Some-clause-advertises : goal.returns-in-Some-clause-advertises
returns-in-Some-clause-advertises c =
    let given : Some c.in-Some.argument.now ≡ first_of (codes "advertise") (rows_of (found_of c.args.matches.now)) =
    sym (ap (option_map (λ (s : Bor Text). s.now)) c.in-Some.is) ∙ c.get_str.ensures ∙ first_row (found_of c.args.matches.now) (codes "advertise") in
    subst (λ (o : Option Text). IfOk c.read_advertised.result (λ a. AdvertisesBy o c.args.listen (string_bytes a.host) a.port)) given c.read_advertised.ensures.advertises

pub returns-in-Some-clause-fault : goal.returns-in-Some-clause-fault
returns-in-Some-clause-fault c = λ listens.
    let given : Some c.in-Some.argument.now ≡ first_of (codes "advertise") (rows_of (found_of c.args.matches.now)) =
    sym (ap (option_map (λ (s : Bor Text). s.now)) c.in-Some.is) ∙ c.get_str.ensures ∙ first_row (found_of c.args.matches.now) (codes "advertise") in
    IfErr-weaker c.read_advertised.result _ _ (λ fault is. fault_said (rows_of (found_of c.args.matches.now)) c.args.listen c.in-Some.argument.now fault (sym given) listens is)
    c.read_advertised.ensures.fault

pub returns-in-None-clause-advertises : goal.returns-in-None-clause-advertises
returns-in-None-clause-advertises c =
    let given : None ≡ first_of (codes "advertise") (rows_of (found_of c.args.matches.now)) =
    sym (ap (option_map (λ (s : Bor Text). s.now)) c.in-None.is) ∙ c.get_str.ensures ∙ first_row (found_of c.args.matches.now) (codes "advertise") in
    subst (λ (o : Option Text). IfOk c.advertised_at.result (λ a. AdvertisesBy o c.args.listen (string_bytes a.host) a.port)) given c.advertised_at.ensures.advertises

pub returns-in-None-clause-fault : goal.returns-in-None-clause-fault
returns-in-None-clause-fault c = λ listens.
    let given : None ≡ first_of (codes "advertise") (rows_of (found_of c.args.matches.now)) =
    sym (ap (option_map (λ (s : Bor Text). s.now)) c.in-None.is) ∙ c.get_str.ensures ∙ first_row (found_of c.args.matches.now) (codes "advertise") in
    IfErr-weaker c.advertised_at.result _ _ (λ fault is. fault_unsaid (rows_of (found_of c.args.matches.now)) c.args.listen fault (sym given) listens is)
    c.advertised_at.ensures.fault
