use Rattle.std.proofs.Common.{◌≡◌, rules, FitsSigned, to_z, of_z}
use Rattle.std.specs.Int.{w32}
use Rattle.std.proofs.lemmas.Int.{to_z-of_z}
use Rattle.batch_codec.specs.Views.{record_value}
use Rattle.delta_bytes.specs.Judging.{offsets_of}
use Rattle.side_by_side.specs.ListWalks.{listed_flags}
use Rattle.side_by_side.proofs.ListedRecords.{flags_next, flags_whole}
use Rattle.side_by_side.proofs.listed.walk_flags.Goals as goal

pub loop-rec-preserved : goal.loop-rec-preserved
loop-rec-preserved g c =
    let fits : FitsSigned w32 c.in-Some.rec.delta = search rules in
    let is : to_z w32 (of_z w32 c.in-Some.rec.delta) ≡ c.in-Some.rec.delta = to_z-of_z w32 c.in-Some.rec.delta fits in (
      tt,
      tt,
      flags_next c.args.batch.now c.loop-rec.keep.items c.push.new.self.items (listed_flags c.args.batch.now c.args.batch.now.recs (offsets_of c.args.offsets.now)) c.loop-rec.rec-iterator c.next.new.self
          (record_value c.in-Some.rec) (to_z w32 (of_z w32 c.in-Some.rec.delta)) (offsets_of c.loop-rec.left.now) (offsets_of c.from_record-left.result.now) c.begins_at.result
          is c.in-Some.ensures.steps c.from_record-left.ensures c.begins_at.ensures c.in_ok-push.ensures.items c.loop-rec.invariant.2,
    )

pub returns : goal.returns
returns g c =
    flags_whole c.args.batch.now c.loop-rec.keep.items (listed_flags c.args.batch.now c.args.batch.now.recs (offsets_of c.args.offsets.now)) c.loop-rec.rec-iterator (offsets_of c.loop-rec.left.now) c.in-None.ensures.steps.0 c.loop-rec.invariant.2
