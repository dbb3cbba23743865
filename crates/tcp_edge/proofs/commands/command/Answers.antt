use Rattle.std.proofs.Common.{[], ◌≡◌, codes}
use Rattle.std.proofs.lemmas.Result.{IfOk-weaker}
use Rattle.clap.specs.Words.{App, app_of, new_app, with_subcommand}
use Rattle.tcp_edge.specs.CommandLine.{Roles, session_app, serve_app, start_app, check_app, top}
use Rattle.tcp_edge.proofs.commands.command.Goals as goal

-- the command with its first subcommands
abbrev none : App
none = record { top = top; subs = [] }

abbrev up_to_table : App
up_to_table = with_subcommand none (new_app (codes "table")).top

abbrev up_to_session : Roles → App
up_to_session roles = with_subcommand up_to_table (session_app roles).top

abbrev up_to_serve : Roles → App
up_to_serve roles = with_subcommand (up_to_session roles) (serve_app roles).top

abbrev up_to_start : Roles → App
up_to_start roles = with_subcommand (up_to_serve roles) (start_app roles).top

abbrev up_to_check : Roles → App
up_to_check roles = with_subcommand (up_to_start roles) check_app.top

abbrev up_to_replay : Roles → App
up_to_replay roles = with_subcommand (up_to_check roles) (new_app (codes "replay")).top

pub returns : goal.returns
returns c =
    let roles = c.roles-roles.result in
    let first_is = IfOk-weaker c.add_subcommand-first.result _ (λ k. app_of k ≡ up_to_table)
    (λ command h. h none (new_app (codes "table")) c.alone.ensures c.table.ensures) c.add_subcommand-first.ensures in
    let second_is = IfOk-weaker c.add_subcommand-second.result _ (λ k. app_of k ≡ up_to_session roles)
    (λ command h. h up_to_table (session_app roles) first_is c.session.ensures) c.add_subcommand-second.ensures in
    let third_is = IfOk-weaker c.add_subcommand-third.result _ (λ k. app_of k ≡ up_to_serve roles)
    (λ command h. h (up_to_session roles) (serve_app roles) second_is c.serve.ensures) c.add_subcommand-third.ensures in
    let fourth_is = IfOk-weaker c.add_subcommand-fourth.result _ (λ k. app_of k ≡ up_to_start roles)
    (λ command h. h (up_to_serve roles) (start_app roles) third_is c.start.ensures) c.add_subcommand-fourth.ensures in
    let fifth_is = IfOk-weaker c.add_subcommand-fifth.result _ (λ k. app_of k ≡ up_to_check roles)
    (λ command h. h (up_to_start roles) check_app fourth_is c.check.ensures) c.add_subcommand-fifth.ensures in
    let sixth_is = IfOk-weaker c.add_subcommand-sixth.result _ (λ k. app_of k ≡ up_to_replay roles)
    (λ command h. h (up_to_check roles) (new_app (codes "replay")) fifth_is c.replay.ensures) c.add_subcommand-sixth.ensures in
    IfOk-weaker c.add_subcommand.result _ _ (λ command h. (
      roles,
      c.roles-roles.ensures,
      h (up_to_replay roles) (new_app (codes "merge")) sixth_is c.merge.ensures,
    )) c.add_subcommand.ensures
