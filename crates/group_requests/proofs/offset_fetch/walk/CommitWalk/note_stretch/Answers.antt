use Rattle.std.proofs.Common.{◌≡◌, ◌-◌, List, ℕ, ◌++◌, length, take, drop, length-drop, ap, subst, ◌∙◌, refl, arith}
use Rattle.std.specs.List.{flat_map}
use Rattle.batch_codec.specs.Values.{BatchValue}
use Rattle.partition_log.proofs.Walks.{left_more, all_passed}
use Rattle.group_requests.specs.OffsetFetch.Walks.{slot_at}
use Rattle.group_requests.proofs.OffsetWalks.{SeesAll, sees_none, stretch_more}
use Rattle.group_requests.proofs.offset_fetch.walk.CommitWalk.note_stretch.Goals as goal

pub loop-passed-init : goal.loop-passed-init
loop-passed-init g c =
    (c.walk-walk.ensures.walks, refl, λ rest. sees_none c.args.start (c.args.self.now.front.items ++ rest) (slot_at c.args.self.now rest))

pub loop-passed-preserved : goal.loop-passed-preserved
loop-passed-preserved g c =
    let bs : List BatchValue = drop c.args.start c.args.log.now.kept in
    let next = left_more bs c.loop-passed.walk c.next.new.self c.in-Some.batch c.loop-passed._passed c.loop-passed.invariant.0 c.in-Some.ensures.gives in (
      next.0,
      c.note_batch.ensures.front ∙ c.loop-passed.invariant.1,
      λ rest. stretch_more c.args.start (c.args.self.now.front.items ++ rest) (take c.loop-passed._passed bs) _ c.in-Some.batch (slot_at c.note_batch.new.self rest) (slot_at c.loop-passed.self rest) (slot_at c.args.self.now rest) next.1
          (c.note_batch.ensures.slots rest ∙ ap (λ (front : List ℕ). SeesAll c.args.start (front ++ rest) c.in-Some.batch.recs (slot_at c.loop-passed.self rest)) c.loop-passed.invariant.1)
          (c.loop-passed.invariant.2 rest),
    )

pub returns-in-None : goal.returns-in-None
returns-in-None g c =
    let bs : List BatchValue = drop c.args.start c.args.log.now.kept in
    absurd (omega (arith, all_passed bs c.loop-passed.walk c.loop-passed._passed c.loop-passed.invariant.0 c.in-None.ensures.gives.0, c.loop-passed-test.true, c.requires.within, length-drop c.args.start c.args.log.now.kept))

pub returns : goal.returns
returns g c =
    let all : c.loop-passed._passed ≡ c.args.end - c.args.start = omega (arith, c.loop-passed-test.false, c.loop-passed.auto._passed-end) in
    record {
      front = c.loop-passed.invariant.1;
      slots = λ rest. c.loop-passed.invariant.2 rest ∙ ap (λ (n : ℕ). SeesAll c.args.start (c.args.self.now.front.items ++ rest) (flat_map (λ (b : BatchValue). b.recs) (take n (drop c.args.start c.args.log.now.kept))) (slot_at c.args.self.now rest)) all;
    }
