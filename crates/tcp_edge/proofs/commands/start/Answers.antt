use Rattle.std.proofs.Common.{refl, ap, ap₂, ◌≡◌, ◌∙◌, codes}
use Rattle.std.proofs.lemmas.Result.{IfOk-weaker}
use Rattle.clap.specs.Words.{App, Shape, app_of, new_app, with_rule, with_subcommand}
use Rattle.clap.specs.Simple.{app_of_fields}
use Rattle.tcp_edge.proofs.commands.start.Goals as goal

abbrev top_of : App → Shape
top_of a = a.top

pub returns : goal.returns
returns c =
    let is_new : app_of c.after_help.result ≡ new_app (codes "start") =
    ap app_of_fields c.after_help.ensures ∙ ap app_of_fields c.about.ensures ∙ c.new.ensures.app in
    IfOk-weaker c.arg-17.result _ _ (λ command h old new adds. adds.shape (rw (
      h.globals,
      c.topics_arg.ensures.local,
      c.in_ok-arg-16.ensures.globals,
      c.keep_deletes_arg.ensures.local,
      c.in_ok-arg-15.ensures.globals,
      c.clean_within_arg.ensures.local,
      c.in_ok-arg-14.ensures.globals,
      c.clean_lag_arg.ensures.local,
      c.in_ok-arg-13.ensures.globals,
      c.clean_at_arg.ensures.local,
      c.in_ok-arg-12.ensures.globals,
      c.fold_arg.ensures.local,
      c.in_ok-arg-11.ensures.globals,
      c.snapshot_after_arg.ensures.local,
      c.in_ok-arg-10.ensures.globals,
      c.sync_arg.ensures.local,
      c.in_ok-arg-9.ensures.globals,
      c.data_arg.ensures.local,
      c.in_ok-arg-8.ensures.globals,
      c.idle_arg.ensures.local,
      c.in_ok-arg-7.ensures.globals,
      c.most_held_arg.ensures.local,
      c.in_ok-arg-6.ensures.globals,
      c.most_per_address_arg.ensures.local,
      c.in_ok-arg-5.ensures.globals,
      c.most_connections_arg.ensures.local,
      c.in_ok-arg-4.ensures.globals,
      c.first_producer_arg.ensures.local,
      c.in_ok-arg-3.ensures.globals,
      c.role_arg.ensures.local,
      c.in_ok-arg-2.ensures.globals,
      c.advertise_arg.ensures.local,
      c.in_ok-arg.ensures.globals,
      c.listen_arg.ensures.local,
      c.after_help.ensures,
      c.about.ensures,
      c.new.ensures.local,
    ) refl) ∙ ap (with_subcommand (app_of old)) (ap top_of (
    h.shape c.topics_arg.ensures.local
    ∙ ap₂ with_rule (c.in_ok-arg-16.ensures.shape c.keep_deletes_arg.ensures.local
    ∙ ap₂ with_rule (c.in_ok-arg-15.ensures.shape c.clean_within_arg.ensures.local
    ∙ ap₂ with_rule (c.in_ok-arg-14.ensures.shape c.clean_lag_arg.ensures.local
    ∙ ap₂ with_rule (c.in_ok-arg-13.ensures.shape c.clean_at_arg.ensures.local
    ∙ ap₂ with_rule (c.in_ok-arg-12.ensures.shape c.fold_arg.ensures.local
    ∙ ap₂ with_rule (c.in_ok-arg-11.ensures.shape c.snapshot_after_arg.ensures.local
    ∙ ap₂ with_rule (c.in_ok-arg-10.ensures.shape c.sync_arg.ensures.local
    ∙ ap₂ with_rule (c.in_ok-arg-9.ensures.shape c.data_arg.ensures.local
    ∙ ap₂ with_rule (c.in_ok-arg-8.ensures.shape c.idle_arg.ensures.local
    ∙ ap₂ with_rule (c.in_ok-arg-7.ensures.shape c.most_held_arg.ensures.local
    ∙ ap₂ with_rule (c.in_ok-arg-6.ensures.shape c.most_per_address_arg.ensures.local
    ∙ ap₂ with_rule (c.in_ok-arg-5.ensures.shape c.most_connections_arg.ensures.local
    ∙ ap₂ with_rule (c.in_ok-arg-4.ensures.shape c.first_producer_arg.ensures.local
    ∙ ap₂ with_rule (c.in_ok-arg-3.ensures.shape c.role_arg.ensures.local
    ∙ ap₂ with_rule (c.in_ok-arg-2.ensures.shape c.advertise_arg.ensures.local
    ∙ ap₂ with_rule (c.in_ok-arg.ensures.shape c.listen_arg.ensures.local
    ∙ ap₂ with_rule is_new c.listen_arg.ensures.rule) c.advertise_arg.ensures.rule) c.role_arg.ensures.rule) c.first_producer_arg.ensures.rule) c.most_connections_arg.ensures.rule) c.most_per_address_arg.ensures.rule) c.most_held_arg.ensures.rule) c.idle_arg.ensures.rule) c.data_arg.ensures.rule) c.sync_arg.ensures.rule) c.snapshot_after_arg.ensures.rule) c.fold_arg.ensures.rule) c.clean_at_arg.ensures.rule) c.clean_lag_arg.ensures.rule) c.clean_within_arg.ensures.rule) c.keep_deletes_arg.ensures.rule) c.topics_arg.ensures.rule
    ))) c.arg-17.ensures
