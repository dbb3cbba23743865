use Rattle.std.proofs.Common.{inl, refl, ap, subst, ◌∙◌}
use Rattle.broker_state.specs.ConfigValues.{config_value}
use Rattle.broker_state.specs.Sound.{IsSound}
use Rattle.kept_rotations.specs.declared.files.KeptFiles.{KeptFiles}
use Rattle.kept_starts.proofs.GoingOn.{grown_behind, grown_rotates}
use Rattle.kept_starts.proofs.Grown.{grown_holds, stays_whole}
use Rattle.kept_starts.proofs.starting.grow.Goals as goal

pub returns-in-Ok-clause-folds : goal.returns-in-Ok-clause-folds
returns-in-Ok-clause-folds g c =
    let folded = c.in-Ok.ensures.folds (inl refl) in (
      c.in-Ok.ensures.rotates.0,
      grown_behind c.args.former.found c.in-Ok.started.found c.args.former.rotation.files c.in-Ok.started.rotation.files c.requires.behind
          (c.in-Ok.ensures.of_the_row.0 ∙ ap (λ (f : KeptFiles). f.snapshot) c.files-files.ensures) folded.0,
      folded.1,
    )

pub returns-in-Ok-clause-rotates : goal.returns-in-Ok-clause-rotates
returns-in-Ok-clause-rotates g c = λ grown.
    grown_rotates c.args.former.found c.in-Ok.started.rotation c.in-Ok.ensures.rotates.0
    (grown_behind c.args.former.found c.in-Ok.started.found c.args.former.rotation.files c.in-Ok.started.rotation.files c.requires.behind
    (c.in-Ok.ensures.of_the_row.0 ∙ ap (λ (f : KeptFiles). f.snapshot) c.files-files.ensures) (c.in-Ok.ensures.folds (inl refl)).0) grown

pub returns-in-Ok-clause-holds : goal.returns-in-Ok-clause-holds
returns-in-Ok-clause-holds g c =
    let sound = subst IsSound (c.state.ensures ∙ c.node.ensures) c.know_sound.ensures in
    grown_holds g.D.Directory.state g.D.Directory.gives g.D.File.Disk.seen (config_value c.args.config.now) c.args.former.keeper.world.state sound c.args.directory.now c.args.former.rotation.files.last
    c.in-Ok.started.found.snapshot c.in-Ok.started.found.journal _ c.in-Ok.started.found.has_grown c.in-Ok.started.keeper.world.state
    (ap (λ (f : KeptFiles). f.snapshot) c.files-files.ensures ∙ c.requires.behind.0) (ap (λ (f : KeptFiles). f.last) c.files-files.ensures)
    c.in-Ok.ensures.of_the_row c.requires.whole c.in-Ok.ensures.leads

pub returns-in-Err-clause-stops : goal.returns-in-Err-clause-stops
returns-in-Err-clause-stops g c =
    let sound = subst IsSound (c.state.ensures ∙ c.node.ensures) c.know_sound.ensures in
    stays_whole g.D.Directory.state g.D.Directory.gives g.D.File.Disk.seen (config_value c.args.config.now) c.args.former.keeper.world.state sound c.args.directory.now c.start_standing.new.directory
    c.args.former.rotation.files.last _
    (ap (λ (f : KeptFiles). f.snapshot) c.files-files.ensures ∙ c.requires.behind.0) (ap (λ (f : KeptFiles). f.last) c.files-files.ensures)
    c.requires.whole c.in-Err.ensures.stops
