use Rattle.std.proofs.Common.{inl, inr, refl}
use Rattle.std.proofs.lemmas.Result.{IfErr-weaker, IfOk-weaker}
use Rattle.broker_state.specs.ConfigValues.{config_value}
use Rattle.kept_starts.specs.declared.snapshot.Shape.TheVariants.{Former}
use Rattle.kept_starts.specs.Growth.{KnowsSnapshots}
use Rattle.kept_starts.proofs.RowKept.{kept_before, kept_growing, kept_new, kept_standing, row_unchanged}
use Rattle.kept_starts.proofs.Taking.{both_ok, on_err, on_err_of, stands_or_new, tells_files, tells_growth}
use Rattle.kept_starts.proofs.Removing.{removes_or_new}
use Rattle.kept_starts.proofs.Stopping.{refuses_or_fails}
use Rattle.kept_starts.proofs.starting.start.Goals as goal

pub returns-clause-takes_its_files : goal.returns-clause-takes_its_files
returns-clause-takes_its_files g c =
    let first = c.in-Ok.started in
    let stood = stands_or_new g.D.Directory.state g.D.Directory.gives g.D.File.Disk.seen c.args.directory.now c.row_of.new.directory
    c.in_ok-standing.standing c.in_ok-row.row c.is_none-started.result (config_value c.args.config.now) Former first.found.has_grown first.found.snapshot first.found.journal first.keeper.world.state
    c.in_ok-standing.ensures.is_the_top c.in_ok-row.ensures.found c.is_none-started.ensures c.in-Ok.ensures.leads c.in-Ok.ensures.row in
    tells_files (KnowsSnapshots g.D.Directory.state g.D.File.Disk.seen) (g.D.Directory.state c.args.directory.now) (g.D.Directory.gives c.args.directory.now) g.D.File.Disk.seen
    (config_value c.args.config.now) c.is_none-started.result first.found.has_grown first.found.snapshot first.found.journal first.keeper.world.state stood c.if-started.false

pub returns-then-started-clause-takes_its_files : goal.returns-then-started-clause-takes_its_files
returns-then-started-clause-takes_its_files g c =
    let first = c.in-Ok.started in
    let stood = stands_or_new g.D.Directory.state g.D.Directory.gives g.D.File.Disk.seen c.args.directory.now c.row_of.new.directory
    c.in_ok-standing.standing c.in_ok-row.row c.is_none-started.result (config_value c.args.config.now) Former first.found.has_grown first.found.snapshot first.found.journal first.keeper.world.state
    c.in_ok-standing.ensures.is_the_top c.in_ok-row.ensures.found c.is_none-started.ensures c.in-Ok.ensures.leads c.in-Ok.ensures.row in
    both_ok c.grow.result _ _ _
    (λ s same holds. tells_growth (KnowsSnapshots g.D.Directory.state g.D.File.Disk.seen) (g.D.Directory.state c.args.directory.now) (g.D.Directory.gives c.args.directory.now) g.D.File.Disk.seen
    (config_value c.args.config.now) _ s.found first.keeper.world.state s.keeper.world.state c.if-started.true stood c.in-Ok-check_as_asked.ensures.as_asked holds same)
    c.grow.ensures.keeps_what_was_found c.grow.ensures.holds

pub returns-clause-removes : goal.returns-clause-removes
returns-clause-removes g c = λ stood.
    removes_or_new g.D.Directory.state c.args.directory.now c.row_of.new.directory c.start_standing-begun.new.directory c.in_ok-standing.standing c.in_ok-row.row c.is_none-started.result
    c.in-Ok.started.found c.in-Ok.started.rotation.files c.in-Ok.started.keeper.world.state c.in_ok-row.ensures.found c.is_none-started.ensures c.in-Ok.ensures.removes stood

pub returns-then-started-clause-removes : goal.returns-then-started-clause-removes
returns-then-started-clause-removes g c = IfOk-weaker c.grow.result _ _ (λ s folds stood. inr (folds.1, folds.2)) c.grow.ensures.folds

pub returns-then-started-clause-rotates : goal.returns-then-started-clause-rotates
returns-then-started-clause-rotates g c = IfOk-weaker c.grow.result _ _ (λ s rotates. rotates c.if-started.true) c.grow.ensures.rotates

pub returns-in_err-standing-clause-keeps_the_row : goal.returns-in_err-standing-clause-keeps_the_row
returns-in_err-standing-clause-keeps_the_row g c =
    on_err_of c.from_residual.result
    (row_unchanged (KnowsSnapshots g.D.Directory.state g.D.File.Disk.seen) (g.D.Directory.state c.args.directory.now) (g.D.Directory.gives c.args.directory.now) g.D.File.Disk.seen
    (g.D.Directory.state c.args.directory.now) refl)

pub returns-in_err-row-clause-keeps_the_row : goal.returns-in_err-row-clause-keeps_the_row
returns-in_err-row-clause-keeps_the_row g c =
    on_err_of c.from_residual-in_err-row.result
    (kept_before (KnowsSnapshots g.D.Directory.state g.D.File.Disk.seen) g.D.Directory.state g.D.Directory.gives g.D.File.Disk.seen c.args.directory.now c.row_of.new.directory
    c.row_of.new.directory c.in_ok-standing.standing c.in_ok-standing.ensures.is_the_top c.in_err-row.ensures.none)

pub returns-in-Err-clause-keeps_the_row : goal.returns-in-Err-clause-keeps_the_row
returns-in-Err-clause-keeps_the_row g c =
    kept_standing (KnowsSnapshots g.D.Directory.state g.D.File.Disk.seen) g.D.Directory.state g.D.Directory.gives g.D.File.Disk.seen c.args.directory.now c.row_of.new.directory
    c.start_standing-begun.new.directory c.in_ok-standing.standing c.in_ok-row.row (config_value c.args.config.now) Former c.in_ok-standing.ensures.is_the_top c.in_ok-row.ensures.found
    c.in-Err.ensures.stops

pub returns-in-Err-check_as_asked-clause-keeps_the_row : goal.returns-in-Err-check_as_asked-clause-keeps_the_row
returns-in-Err-check_as_asked-clause-keeps_the_row g c =
    kept_new (KnowsSnapshots g.D.Directory.state g.D.File.Disk.seen) g.D.Directory.state g.D.Directory.gives g.D.File.Disk.seen c.args.directory.now c.row_of.new.directory
    c.start_standing-begun.new.directory c.in_ok-standing.standing c.in_ok-standing.ensures.is_the_top c.is_none-started.result c.is_none-started.ensures c.in-Err-check_as_asked.ensures.new

pub returns-then-started-clause-keeps_the_row : goal.returns-then-started-clause-keeps_the_row
returns-then-started-clause-keeps_the_row g c =
    let first = c.in-Ok.started in
    let stood = stands_or_new g.D.Directory.state g.D.Directory.gives g.D.File.Disk.seen c.args.directory.now c.row_of.new.directory
    c.in_ok-standing.standing c.in_ok-row.row c.is_none-started.result (config_value c.args.config.now) Former first.found.has_grown first.found.snapshot first.found.journal first.keeper.world.state
    c.in_ok-standing.ensures.is_the_top c.in_ok-row.ensures.found c.is_none-started.ensures c.in-Ok.ensures.leads c.in-Ok.ensures.row in
    let behind = c.in-Ok.ensures.folds (inr c.if-started.true) in
    on_err c.grow.result _ _
    (λ whole. kept_growing (KnowsSnapshots g.D.Directory.state g.D.File.Disk.seen) (g.D.Directory.state c.args.directory.now) (g.D.Directory.gives c.args.directory.now) g.D.File.Disk.seen
    (config_value c.args.config.now) c.is_none-started.result first.found.has_grown first.found.snapshot first.found.journal first.rotation.files.last first.keeper.world.state
    (g.D.Directory.state c.grow.new.directory) stood behind.0.1.0 whole)
    c.grow.ensures.stops

pub returns-then-started-clause-refuses : goal.returns-then-started-clause-refuses
returns-then-started-clause-refuses g c = IfErr-weaker c.grow.result _ _ (λ why fails. inl fails) c.grow.ensures.fails

pub returns-in-Err-clause-refuses : goal.returns-in-Err-clause-refuses
returns-in-Err-clause-refuses g c =
    refuses_or_fails g.D.Directory.state c.args.directory.now c.row_of.new.directory c.start_standing-begun.new.directory c.in_ok-standing.standing c.in_ok-row.row
    c.is_none.result c.in-Err.why c.fault_of.result c.in_ok-row.ensures.found c.is_none.ensures c.in-Err.ensures.refuses c.fault_of.ensures

pub grow-requires-clause-whole : goal.grow-requires-clause-whole
grow-requires-clause-whole g c = (c.in-Ok.ensures.folds (inr c.if-started.true)).1
