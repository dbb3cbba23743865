use Rattle.std.proofs.Common.{ap, inl, refl, ◌∙◌}
use Rattle.broker_state.specs.ConfigValues.{config_value}
use Rattle.sessions.specs.Orders.{World}
use Rattle.kept_starts.proofs.GoingOn.{folded_as_asked, folded_or_not, goes_on_meaning}
use Rattle.kept_starts.proofs.Removing.{removes_found}
use Rattle.kept_starts.proofs.Stopping.{stops_folding, stops_settling}
use Rattle.kept_starts.proofs.Taking.{lead_is, on_err_of, row_is, still_in_order, told_row}
use Rattle.kept_starts.specs.declared.starting.Found.{Found}
use Rattle.kept_starts.proofs.starting.start_standing.Goals as goal

pub returns-in-Ok-fold_if_due-clause-is_started : goal.returns-in-Ok-fold_if_due-clause-is_started
returns-in-Ok-fold_if_due-clause-is_started g c = c.in-Ok-fold_if_due.ensures.keeps c.in-Ok.ensures.is_started

pub returns-in-Ok-fold_if_due-clause-leads : goal.returns-in-Ok-fold_if_due-clause-leads
returns-in-Ok-fold_if_due-clause-leads g c =
    let newest = c.in_ok-newest in
    let first = c.in-Ok in
    let last = c.in-Ok-fold_if_due in
    lead_is (g.D.Directory.state c.args.directory.now) (g.D.Directory.gives c.args.directory.now) g.D.File.Disk.seen newest.newest.read.row.snapshot newest.newest.read.row.last
    c.fold_if_due.new.started.found.snapshot c.fold_if_due.new.started.found.journal (config_value c.args.config.now) c.args.shape newest.newest.read.is_grown
    c.fold_if_due.new.started.found.has_grown newest.newest.node c.fold_if_due.new.started.keeper.world.state
    (ap (λ (f : Found). f.snapshot) last.ensures.keeps_what_was_found ∙ first.ensures.tells.0)
    (ap (λ (f : Found). f.journal) last.ensures.keeps_what_was_found ∙ first.ensures.tells.1)
    (ap (λ (f : Found). f.has_grown) last.ensures.keeps_what_was_found ∙ first.ensures.grown)
    (ap (λ (w : World). w.state) last.ensures.keeps_the_world ∙ first.ensures.holds)
    newest.ensures.leads

pub returns-in-Ok-fold_if_due-clause-row : goal.returns-in-Ok-fold_if_due-clause-row
returns-in-Ok-fold_if_due-clause-row g c = λ top.
    let newest = c.in_ok-newest in
    let first = c.in-Ok in
    let last = c.in-Ok-fold_if_due in
    row_is (g.D.Directory.state c.args.directory.now) (g.D.Directory.gives c.args.directory.now) g.D.File.Disk.seen newest.newest.read.row.snapshot newest.newest.read.row.last
    c.fold_if_due.new.started.found.snapshot c.fold_if_due.new.started.found.journal
    (ap (λ (f : Found). f.snapshot) last.ensures.keeps_what_was_found ∙ first.ensures.tells.0)
    (ap (λ (f : Found). f.journal) last.ensures.keeps_what_was_found ∙ first.ensures.tells.1)
    (newest.ensures.row top)

pub returns-in-Ok-fold_if_due-clause-of_the_row : goal.returns-in-Ok-fold_if_due-clause-of_the_row
returns-in-Ok-fold_if_due-clause-of_the_row g c =
    let newest = c.in_ok-newest in
    let first = c.in-Ok in
    let last = c.in-Ok-fold_if_due in
    told_row c.args.row newest.newest.read.row c.fold_if_due.new.started.found.snapshot c.fold_if_due.new.started.found.journal newest.ensures.shortens
    (ap (λ (f : Found). f.snapshot) last.ensures.keeps_what_was_found ∙ first.ensures.tells.0)
    (ap (λ (f : Found). f.journal) last.ensures.keeps_what_was_found ∙ first.ensures.tells.1)

pub returns-in-Ok-fold_if_due-clause-rotates : goal.returns-in-Ok-fold_if_due-clause-rotates
returns-in-Ok-fold_if_due-clause-rotates g c =
    let newest = c.in_ok-newest in
    let first = c.in-Ok in
    let last = c.in-Ok-fold_if_due in
    let in_order = still_in_order c.args.row newest.newest.read.row newest.ensures.shortens c.requires.in_order in
    folded_or_not _ c.is_fold_due-is_due.result first.started.rotation c.fold_if_due.new.started.rotation first.started.found c.fold_if_due.new.started.found
    newest.newest.read.row.snapshot newest.newest.read.row.last c.fold_if_due.new.directory c.go_on.new.directory in_order first.ensures.rotates
    last.ensures.keeps_what_was_found first.ensures.tells.0 first.ensures.tells.1 last.ensures.folds

pub returns-in-Ok-fold_if_due-clause-folds : goal.returns-in-Ok-fold_if_due-clause-folds
returns-in-Ok-fold_if_due-clause-folds g c = λ asked.
    let newest = c.in_ok-newest in
    let first = c.in-Ok in
    let last = c.in-Ok-fold_if_due in
    let in_order = still_in_order c.args.row newest.newest.read.row newest.ensures.shortens c.requires.in_order in
    let there = newest.ensures.leads.lead.newest.is_journal.is_its.there in
    folded_as_asked (g.D.Directory.state c.args.directory.now) (g.D.Directory.state c.go_on.new.directory) (g.D.Directory.state c.fold_if_due.new.directory) _
    c.args.keeping.is_folded newest.newest.read.is_grown newest.newest.is_of_this_meaning c.is_fold_due-is_due.result first.started.rotation c.fold_if_due.new.started.rotation
    first.started.found c.fold_if_due.new.started.found newest.newest.read.row.snapshot newest.newest.read.row.last in_order there first.ensures.removes first.ensures.rotates
    last.ensures.keeps_what_was_found first.ensures.tells.0 first.ensures.tells.1 first.ensures.grown c.is_fold_due-is_due.ensures first.started.keeper.world.state
    c.fold_if_due.new.started.keeper.world.state last.ensures.folds (ap (λ (w : World). w.state) last.ensures.keeps_the_world) asked

pub returns-in-Ok-fold_if_due-clause-removes : goal.returns-in-Ok-fold_if_due-clause-removes
returns-in-Ok-fold_if_due-clause-removes g c =
    let newest = c.in_ok-newest in
    let first = c.in-Ok in
    let last = c.in-Ok-fold_if_due in
    let in_order = still_in_order c.args.row newest.newest.read.row newest.ensures.shortens c.requires.in_order in
    let there = newest.ensures.leads.lead.newest.is_journal.is_its.there in
    removes_found g.D.Directory.state c.args.directory.now c.go_on.new.directory c.fold_if_due.new.directory c.is_fold_due-is_due.result first.started.rotation c.fold_if_due.new.started.rotation
    first.started.found c.fold_if_due.new.started.found newest.newest.read.row.snapshot newest.newest.read.row.last in_order there first.ensures.rotates
    last.ensures.keeps_what_was_found first.ensures.tells.0 first.ensures.tells.1 first.ensures.removes first.started.keeper.world.state
    c.fold_if_due.new.started.keeper.world.state last.ensures.folds (ap (λ (w : World). w.state) last.ensures.keeps_the_world)

pub returns-in-Ok-fold_if_due-clause-means : goal.returns-in-Ok-fold_if_due-clause-means
returns-in-Ok-fold_if_due-clause-means g c =
    let newest = c.in_ok-newest in
    let first = c.in-Ok in
    let last = c.in-Ok-fold_if_due in
    goes_on_meaning g.D.File.Disk.seen newest.newest.reader.head first.started.rotation c.fold_if_due.new.started.rotation first.started.keeper c.fold_if_due.new.started.keeper
    c.args.keeping.is_folded newest.newest.read.is_grown newest.newest.is_of_this_meaning newest.newest.is_current c.is_fold_due-is_due.result _ c.fold_if_due.new.directory c.go_on.new.directory
    first.ensures.begins newest.ensures.means newest.ensures.current first.ensures.current c.is_fold_due-is_due.ensures last.ensures.means last.ensures.folds

pub returns-in_err-newest-clause-stops : goal.returns-in_err-newest-clause-stops
returns-in_err-newest-clause-stops g c = on_err_of c.from_residual.result (inl refl)

pub returns-in-Err-clause-stops : goal.returns-in-Err-clause-stops
returns-in-Err-clause-stops g c =
    let newest = c.in_ok-newest in
    stops_settling (g.D.Directory.state c.args.directory.now) (g.D.Directory.gives c.args.directory.now) g.D.File.Disk.seen (config_value c.args.config.now) c.args.shape c.args.row
    newest.newest.read newest.newest.node newest.ensures.shortens newest.ensures.row newest.ensures.leads (g.D.Directory.state c.go_on.new.directory) c.in-Err.ensures.removes

pub returns-in-Err-fold_if_due-clause-stops : goal.returns-in-Err-fold_if_due-clause-stops
returns-in-Err-fold_if_due-clause-stops g c =
    let newest = c.in_ok-newest in
    let first = c.in-Ok in
    let in_order = still_in_order c.args.row newest.newest.read.row newest.ensures.shortens c.requires.in_order in
    stops_folding (g.D.Directory.state c.args.directory.now) (g.D.Directory.gives c.args.directory.now) g.D.File.Disk.seen (config_value c.args.config.now) c.args.shape c.args.row
    newest.newest.read newest.newest.node newest.ensures.shortens newest.ensures.row newest.ensures.leads first.started.keeper first.started.rotation (g.D.Directory.state c.go_on.new.directory)
    (g.D.Directory.state c.fold_if_due.new.directory) first.ensures.removes c.in-Err-fold_if_due.ensures.names first.ensures.rotates.0 first.ensures.rotates.1 first.ensures.holds in_order
