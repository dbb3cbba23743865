use Rattle.std.proofs.Common.{List, ◌++◌, refl, ap, ◌∙◌}
use Rattle.batch_codec.specs.Values.{RecordValue}
use Rattle.batch_codec.specs.Views.{record_value}
use Rattle.group_requests.specs.OffsetFetch.Walks.{slot_at}
use Rattle.group_requests.proofs.OffsetWalks.{SeesAll, batch_more, batch_all}
use Rattle.group_requests.proofs.offset_fetch.walk.CommitWalk.note_batch.Goals as goal

pub loop-rec-init : goal.loop-rec-init
loop-rec-init g c = (tt, tt, refl, λ rest. ap (λ (rs : List RecordValue). SeesAll c.args.index (c.args.self.now.front.items ++ rest) rs (slot_at c.args.self.now rest)) (c.into_iter-rec-iterator.ensures.into_iter_gives ∙ c.recs-rec-items.ensures))

pub loop-rec-preserved : goal.loop-rec-preserved
loop-rec-preserved g c =
    let now = c.loop-rec.self in
    let front = c.args.self.now.front.items in (
      tt,
      tt,
      c.note.ensures.front ∙ c.loop-rec.invariant.2,
      λ rest. batch_more c.args.index front now.front.items rest (record_value c.in-Some.rec) c.loop-rec.rec-iterator c.next.new.self c.args.batch.now.recs
          (slot_at c.note.new.self rest) (slot_at now rest) (slot_at c.args.self.now rest) c.loop-rec.invariant.2 c.in-Some.ensures.steps (c.note.ensures.slots rest) (c.loop-rec.invariant.3 rest),
    )

pub returns : goal.returns
returns g c = record {
  front = c.loop-rec.invariant.2;
  slots = λ rest. batch_all c.args.index (c.args.self.now.front.items ++ rest) c.loop-rec.rec-iterator c.args.batch.now.recs (slot_at c.loop-rec.self rest) (slot_at c.args.self.now rest) c.in-None.ensures.steps.0 (c.loop-rec.invariant.3 rest);
}
