use Rattle.std.proofs.Common.{[], map, get_or, ap}
use Rattle.newest_keys.specs.Shards.{entries_of}
use Rattle.newest_keys.proofs.Maps.{none_yet, some_pushed, all_pushed}
use Rattle.newest_keys.proofs.keys.NewestKeys.with_shards.Goals as goal

pub loop-more-init : goal.loop-more-init
loop-more-init g c = (
  some_pushed c.new-shards.result.items _ c.push.new.self.items c.in_ok-push.ensures.items,
  all_pushed entries_of c.new-shards.result.items _ c.push.new.self.items c.in_ok-push.ensures.items (ap (map (λ e. (e.0.items, e.1))) c.new.ensures.empty) (λ i. ap (λ l. get_or (map entries_of l) i []) c.new-shards.ensures.items),
)

pub loop-more-preserved : goal.loop-more-preserved
loop-more-preserved g c = (
  some_pushed c.loop-more.shards.items _ c.push-in-loop-more.new.self.items c.in_ok-push-2.ensures.items,
  all_pushed entries_of c.loop-more.shards.items _ c.push-in-loop-more.new.self.items c.in_ok-push-2.ensures.items (ap (map (λ e. (e.0.items, e.1))) c.new-in-loop-more.ensures.empty) c.loop-more.invariant.1,
)

pub invariant_of-result : goal.invariant_of-result
invariant_of-result g c = c.loop-more.invariant.0

pub returns : goal.returns
returns g c = record { none = none_yet (map entries_of c.loop-more.shards.items) c.loop-more.invariant.1 }
