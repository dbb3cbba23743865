use Rattle.std.proofs.Common.{sym, ◌∙◌}
use Rattle.newest_keys.proofs.Maps.{seen}
use Rattle.newest_keys.proofs.keys.newest_at.Goals as goal

pub returns : goal.returns
returns g c = c.copied.ensures ∙ c.get.ensures.value ∙ sym (seen (λ k. k.items) c.args.key.now c.args.shard.now.entries)
