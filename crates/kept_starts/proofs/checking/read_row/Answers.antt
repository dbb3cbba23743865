use Rattle.std.proofs.Common.{ap, ◌∙◌, refl}
use Rattle.kept_starts.proofs.Taking.{files_lead, row_is, told_files}
use Rattle.kept_starts.specs.declared.recovering.RowRead.{RowRead}
use Rattle.kept_starts.proofs.checking.read_row.Goals as goal

pub returns : goal.returns
returns g c = record {
  tells = λ top.
      let d = g.D.Directory.state c.args.directory.now in
      let gives = g.D.Directory.gives c.args.directory.now in
      let former = c.in_ok-former in
      let newest = c.in_ok-newest in
      let row = former.former.read.row in
      let found = c.found_of.result in
      let snapshot = c.found_of.ensures.tells.0 ∙ ap (λ (r : RowRead). r.row.snapshot) newest.ensures.read in
      let journal = c.found_of.ensures.tells.1 ∙ ap (λ (r : RowRead). r.row.last) newest.ensures.read in
      told_files d gives g.D.File.Disk.seen found newest.newest.node c.found_of.ensures.old
      (row_is d gives g.D.File.Disk.seen row.snapshot row.last found.snapshot found.journal snapshot journal (former.ensures.row top))
      (files_lead d gives g.D.File.Disk.seen row.snapshot row.last found.snapshot found.journal former.former.stood former.former.node newest.newest.node newest.newest.node newest.newest.reader
      former.ensures.leads newest.ensures.is_its_file newest.ensures.placed newest.ensures.recovers snapshot journal refl);
}
