use Rattle.std.proofs.Common.{◌≡◌, ◌<◌, ◌≤◌, ◌+◌, ◌-◌, ℕ, true, length, nat_eq, arith}
use Rattle.group_requests.specs.OffsetFetch.Walks.{slot_at}
use Rattle.group_requests.proofs.OffsetWalks.{walk_more, says_last}
use Rattle.group_requests.proofs.offset_fetch.walk.CommitWalk.run.Goals as goal

is_first : (end : ℕ) → nat_eq end 0 ≡ true → end ≡ 0
is_first end e = grind arith

pub loop-end-preserved : goal.loop-end-preserved
loop-end-preserved g c =
    let old = c.loop-end.self in
    let new = c.note_stretch.new.self in
    let bs = c.args.log.now.kept in
    let lt : c.stretch_start-start.result < c.loop-end.end = omega (arith, c.loop-end-test.true, c.stretch_start-start.ensures) in (
      omega (arith, lt, c.loop-end.invariant.0),
      λ none rest slot there. walk_more bs c.stretch_start-start.result c.loop-end.end old.front.items new.front.items rest (slot_at old rest) (slot_at new rest) slot lt
          c.note_stretch.ensures.front (c.note_stretch.ensures.slots rest) (λ was found. c.loop-end.invariant.1 none rest was found) there,
    )

pub returns : goal.returns
returns g c = λ none. record {
  tells = λ rest slot at. says_last c.args.log.now.kept c.loop-end.end _ slot (nat_eq c.loop-end.end 0) (is_first c.loop-end.end) (c.loop-end.invariant.1 none rest slot at);
}
