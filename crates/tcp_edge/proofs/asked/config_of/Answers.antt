use Rattle.std.proofs.Common.{rules, refl, subst, sym, codes, List, map, FitsSigned, ◌∙◌, ◌≡◌}
use Rattle.std.specs.Int.{w64}
use Rattle.std.proofs.lemmas.Int.{to_z-of_z}
use Rattle.clap.specs.Words.{Text, found_of, rows_of}
use Rattle.broker_state.specs.ConfigValues.{topic_config}
use Rattle.tcp_edge.specs.CommandLine.{AreTopics, IsFirstProducer, topic_words}
use Rattle.tcp_edge.specs.Asked.{IsConfigFault}
use Rattle.tcp_edge.proofs.Arguments.{words_found, all_rows}
use Rattle.tcp_edge.proofs.TopicLists.{err_is}
use Rattle.tcp_edge.proofs.asked.config_of.Goals as goal

pub returns-clause-config : goal.returns-clause-config
returns-clause-config c =
    let words : map (λ w. w.now) c.unwrap_or-arguments.result.now ≡ topic_words (rows_of (found_of c.args.matches.now)) =
    rw c.unwrap_or-arguments.ensures (words_found c.get_strs.result _ _ (c.get_strs.ensures ∙ all_rows (found_of c.args.matches.now) (codes "topics")) (search rules)) in
    let fits : FitsSigned w64 c.first_producer_of.result = search rules in
    let kept = sym (to_z-of_z w64 c.first_producer_of.result fits) in
    record {
      role = c.role_of.ensures;
      node_id = refl;
      host_is = search rules;
      port_is = refl;
      topics = subst (λ (ws : List Text). AreTopics ws (map topic_config c.in_ok-topics_of.field-0.items)) words c.in_ok-topics_of.ensures.reads;
      first_producer = subst (IsFirstProducer (rows_of (found_of c.args.matches.now))) kept c.first_producer_of.ensures;
    }

pub returns-in_err-topics_of-clause-fault : goal.returns-in_err-topics_of-clause-fault
returns-in_err-topics_of-clause-fault c =
    let words : map (λ w. w.now) c.unwrap_or-arguments.result.now ≡ topic_words (rows_of (found_of c.args.matches.now)) =
    rw c.unwrap_or-arguments.ensures (words_found c.get_strs.result _ _ (c.get_strs.ensures ∙ all_rows (found_of c.args.matches.now) (codes "topics")) (search rules)) in
    let fault = c.in_err-topics_of.field-0.0 in
    err_is c.from_residual-in_err-topics_of.result (IsConfigFault (topic_words (rows_of (found_of c.args.matches.now)))) fault
    c.from_residual-in_err-topics_of.ensures.1 (subst (λ (ws : List Text). IsConfigFault ws fault) words c.in_err-topics_of.ensures.fault)
