use Rattle.std.proofs.Common.{subst, sym}
use Rattle.broker_state.specs.ConfigValues.{config_value}
use Rattle.kept_starts.specs.declared.recovering.RowRead.{RowRead}
use Rattle.kept_starts.specs.Rows.{IsShortened}
use Rattle.kept_starts.proofs.Taking.{led_as_asked, ready, row_read}
use Rattle.kept_starts.proofs.starting.read_standing.Goals as goal

pub returns-clause-leads : goal.returns-clause-leads
returns-clause-leads g c =
    let former = c.in_ok-former in
    let newest = c.in_ok-newest in
    led_as_asked (g.D.Directory.state c.args.directory.now) (g.D.Directory.gives c.args.directory.now) g.D.File.Disk.seen former.former.read newest.newest.read (config_value c.args.config.now) c.args.shape
    former.former.stood former.former.node newest.newest.node newest.newest.reader newest.newest.count former.ensures.leads newest.ensures.is_its_file newest.ensures.placed
    newest.ensures.recovers newest.ensures.read c.in_ok-check_made.ensures newest.ensures.counts

pub returns-clause-row : goal.returns-clause-row
returns-clause-row g c =
    let former = c.in_ok-former in
    let newest = c.in_ok-newest in
    row_read (g.D.Directory.state c.args.directory.now) (g.D.Directory.gives c.args.directory.now) g.D.File.Disk.seen c.args.row former.former.read newest.newest.read former.ensures.row newest.ensures.read

pub returns-clause-shortens : goal.returns-clause-shortens
returns-clause-shortens g c = subst (λ (r : RowRead). IsShortened c.args.row r.row) (sym c.in_ok-newest.ensures.read) c.in_ok-former.ensures.shortens

pub returns-clause-recovered : goal.returns-clause-recovered
returns-clause-recovered g c =
    let former = c.in_ok-former in
    let newest = c.in_ok-newest in
    ready (g.D.Directory.state c.args.directory.now) (g.D.Directory.gives c.args.directory.now) g.D.File.Disk.seen former.former.read.row.snapshot former.former.read.row.last former.former.stood
    former.former.node newest.newest.node newest.newest.reader former.ensures.leads.0 newest.ensures.recovers
