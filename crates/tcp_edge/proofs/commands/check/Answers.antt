use Rattle.std.proofs.Common.{refl, ap, ap₂, ◌≡◌, ◌∙◌, codes}
use Rattle.std.proofs.lemmas.Result.{IfOk-weaker}
use Rattle.clap.specs.Words.{App, Shape, app_of, new_app, with_rule, with_subcommand}
use Rattle.clap.specs.Simple.{app_of_fields}
use Rattle.tcp_edge.proofs.commands.check.Goals as goal

abbrev top_of : App → Shape
top_of a = a.top

pub returns : goal.returns
returns c =
    let is_new : app_of c.after_help.result ≡ new_app (codes "check") =
    ap app_of_fields c.after_help.ensures ∙ ap app_of_fields c.about.ensures ∙ c.new.ensures.app in
    IfOk-weaker c.arg.result _ _ (λ command h old new adds. adds.shape (rw (
      h.globals,
      c.directory_arg.ensures.local,
      c.after_help.ensures,
      c.about.ensures,
      c.new.ensures.local,
    ) refl) ∙ ap (with_subcommand (app_of old)) (ap top_of (
    h.shape c.directory_arg.ensures.local
    ∙ ap₂ with_rule is_new c.directory_arg.ensures.rule
    ))) c.arg.ensures
