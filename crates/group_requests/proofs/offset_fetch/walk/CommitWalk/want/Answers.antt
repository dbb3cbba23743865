use Rattle.std.proofs.Common.{refl}
use Rattle.group_requests.proofs.OffsetWalks.{none_more}
use Rattle.group_requests.proofs.offset_fetch.walk.CommitWalk.want.Goals as goal

pub returns-then-is_none : goal.returns-then-is_none
returns-then-is_none g c = λ old. record {
  none = λ rest slot at.
      let updates = c.in_ok-insert.ensures.updates in
      none_more (λ k. k.items) _ (λ x y. refl) c.in_ok-rest.rest.items rest c.args.self.now.slots.entries c.insert.new.self.entries slot updates.1 updates.3 (old.none rest) at;
}

pub returns-else-is_none : goal.returns-else-is_none
returns-else-is_none g c = λ old. record {
  none = λ rest slot at.
      let updates = c.in_ok-insert.ensures.updates in
      none_more (λ k. k.items) _ (λ x y. refl) c.in_ok-rest.rest.items rest c.args.self.now.slots.entries c.insert.new.self.entries slot updates.1 updates.3 (old.none rest) at;
}
