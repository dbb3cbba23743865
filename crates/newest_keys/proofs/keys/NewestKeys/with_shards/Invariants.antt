use Rattle.std.proofs.Common.{◌≡◌, ◌<◌, ℕ, [], map, length, get_or}
use Rattle.newest_keys.specs.Shards.{entries_of}
use Rattle.newest_keys.proofs.keys.NewestKeys.with_shards.Given as goal

-- there are some, and no key is in one
abbrev pub invariant-loop-more : goal.invariant-loop-more
invariant-loop-more g l = (0 < length l.shards.items) × ((i : ℕ) → get_or (map entries_of l.shards.items) i [] ≡ [])
