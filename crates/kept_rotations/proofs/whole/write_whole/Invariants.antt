use Rattle.std.specs.Prelude.{◌≡◌, [], IfSome}
use Rattle.snapshot_drafts.specs.Drafts.{IsDraftOf}
use Rattle.kept_rotations.proofs.whole.write_whole.Given as goal

-- where the file had no bytes, the draft is one of the snapshot of what the broker holds; and it is written into this file
abbrev pub invariant-loop : goal.invariant-loop
invariant-loop g l = record {
  draft : IfSome (g.F.DraftFile.seen l.fn.file) (λ bytes. bytes ≡ []) → IsDraftOf g.F.DraftFile.seen l.fn.id l.fn.state l.draft;
  one : g.F.DraftFile.number l.draft.file ≡ g.F.DraftFile.number l.fn.file;
}
